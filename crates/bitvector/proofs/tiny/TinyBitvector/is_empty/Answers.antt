-- An `|` of words is 0 exactly when each has no bit set. Assumes nothing.
use mathlib.Core.Path.{ap, ◌∙◌}
use Prim.Native.Nat.{ℕ}
use lib.ListN.{get_or}
use mir.Syntax.{w64}
use mir.Val.{Fits}
use lib.Dec.{eqb}
use Rattle.bitvector.proofs.Four.{four, empty-four}
use borrow.Author.Rules.{rules}
use Rattle.bitvector.proofs.tiny.TinyBitvector.is_empty.Goals as goal

pub returns : goal.returns
returns c =
    let ws = c.args.self.w in
    let fit : (i : ℕ) → Fits w64 (get_or ws i 0) = λ i. search rules in
    empty-four (get_or ws 0 0) (get_or ws 1 0) (get_or ws 2 0) (get_or ws 3 0) ∙ ap (λ (x : ℕ). eqb x 0) (four ws (λ i. (fit i).fits))
