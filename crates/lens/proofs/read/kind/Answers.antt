-- The record's word, as it is seen. Assumes nothing.
use Rattle.std.proofs.Common.{◌≡◌, ℕ, ◌+◌, ◌*◌, get_or, ap, ◌∙◌, arith}
use Rattle.region.specs.Areas.{numbers, records}
use Rattle.region.specs.Seen.{seen}
use Rattle.lens.proofs.read.kind.Goals as goal

pub returns : goal.returns
unfolding seen
returns c =
    let e : 4 * c.args.c + 0 ≡ 4 * c.args.c = omega arith in
    c.record_word.ensures ∙ ap (λ (i : ℕ). get_or (records (numbers c.args.region.now) c.args.region.now) i 0) e
