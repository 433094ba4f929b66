-- One word of the map, with one bit changed. Assumes nothing.
use mathlib.Core.Path.{ap, ◌∙◌}
use Prim.Native.Nat.{ℕ}
use Rattle.region.specs.Bits.{word_bit}
use Rattle.arena.proofs.Stores.{bit-put}
use Rattle.arena.proofs.write.set_bit.Goals as goal

pub returns : goal.returns
returns c =
    let w = c.word-w in
    let m = c.with in
    let p = c.put.ensures in
    record {
      made = bit-put c.args.slots c.args.arena.now _ c.args.n c.args.x m.result 1 c.requires.x_bound c.with.ensures.here (λ j ne. c.with.ensures.other j ne ∙ ap (λ (q : ℕ). word_bit q j) w.ensures) p;
      spare = p.spare;
    }
