-- The four words one after the other, each where the one before it came to. Assumes nothing.
use Rattle.bitvector.proofs.Walking.{walked-four}
use Rattle.bitvector.proofs.tiny.TinyBitvector.walk.Goals as goal

pub returns : goal.returns
returns c =
    let a = c.args in
    let w₁ = c.walk_word-a in
    let w₂ = c.walk_word-b in
    let w₃ = c.walk_word-c in
    let w₄ = c.walk_word in
    walked-four c.args.self.w a.out.now c.walk_word-a.new.out c.walk_word-b.new.out c.walk_word-c.new.out c.walk_word.new.out
    w₁.result w₂.result w₃.result w₄.result c.walk_word-a.ensures.on c.walk_word-b.ensures.on c.walk_word-c.ensures.on c.walk_word.ensures.on
