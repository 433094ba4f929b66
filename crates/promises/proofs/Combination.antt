-- Demand 2 for any outcome that the combination promise allows. Assumes nothing.
use mathlib.Core.Path.{◌≡◌, refl, sym, ap, ◌∙◌}
use mathlib.Core.Bool.{Bool, true, false, not, ◌&&◌, true≢false, false≢true}
use mathlib.Core.List.{List, [], ◌∷◌, ◌++◌}
use Prim.Native.Nat.{ℕ}
use lib.Dec.{eqb}
use borrow.Author.Tests.{eqb-true}
use Rattle.lists.specs.Lists.{different}
use Rattle.lists.proofs.Laws.{and_both}
use Rattle.model.specs.Room.{fits}
use Rattle.model.specs.Reading.{Reading, has, count}
use Rattle.model.specs.Combine.{known_op, op_of, chosen, combine}
use Rattle.model.specs.Plain.{plain_combine}
use Rattle.model.specs.Demands.{CombinedAsPlain}
use Rattle.model.proofs.Combining.{combined}
use Rattle.region.specs.Read.{reading}
use Rattle.region.proofs.Facts.{good}
use Rattle.promises.specs.Refusals.{Refusal, Told, when, failing, holds}
use Rattle.promises.specs.Refusals.Told.{gave}
use Rattle.promises.specs.Combine.{agree, combine_refusals, result_fits, CombinePromise}
use Rattle.promises.proofs.Tell.{append-nil, when-nil, gave-none, holds-true}

not-false : (x : Bool) → not x ≡ false → x ≡ true
not-false true e = refl
not-false false e = absurd (true≢false e)

-- where no region is the first bad one, all three are good
three-good : (x y z : Bool) → failing 1 (λ (ok : Bool). ok) (x ∷ y ∷ z ∷ []) ≡ [] → (x ≡ true) × (y ≡ true) × (z ≡ true)
three-good true true true e = (refl, refl, refl)
three-good true true false e = absurd (false≢true (sym (when-nil true 1 2 e)))
three-good true false z e = absurd (false≢true (sym (when-nil true 1 1 e)))
three-good false y z e = absurd (false≢true (sym (when-nil true 1 0 e)))

module _ {code : ℕ} {a b dest : List ℕ} {told : Told (Unit {0})} {dest' : List ℕ} (p : CombinePromise code a b dest told dest') (done : told ≡ gave tt) where
  none-applies : (combine_refusals (holds p.good_a) (holds p.good_b) (holds p.good_dest) code (reading a) (reading b) (reading dest) ≡ []) × (when (not (result_fits code (reading a) (reading b) (reading dest))) 9 0 ≡ [])
  none-applies = append-nil (combine_refusals (holds p.good_a) (holds p.good_b) (holds p.good_dest) code (reading a) (reading b) (reading dest)) (when (not (result_fits code (reading a) (reading b) (reading dest))) 9 0)
      (gave-none (combine_refusals (holds p.good_a) (holds p.good_b) (holds p.good_dest) code (reading a) (reading b) (reading dest) ++ when (not (result_fits code (reading a) (reading b) (reading dest))) 9 0) tt tt (sym p.tells ∙ done))

  malformed : List Refusal
  malformed = failing 1 (λ (ok : Bool). ok) (holds p.good_a ∷ holds p.good_b ∷ holds p.good_dest ∷ [])

  parts : (malformed ++ when (not (known_op code)) 5 0 ≡ []) × (when (not (agree (reading a) (reading b) && agree (reading a) (reading dest))) 7 0 ≡ [])
  unfolding malformed
  parts = append-nil (malformed ++ when (not (known_op code)) 5 0) (when (not (agree (reading a) (reading b) && agree (reading a) (reading dest))) 7 0) none-applies.0

  all-good : (holds p.good_a ≡ true) × (holds p.good_b ≡ true) × (holds p.good_dest ≡ true)
  unfolding malformed
  all-good = three-good (holds p.good_a) (holds p.good_b) (holds p.good_dest) (append-nil malformed (when (not (known_op code)) 5 0) parts.0).0

  agreed : (agree (reading a) (reading b) ≡ true) × (agree (reading a) (reading dest) ≡ true)
  agreed = and_both (agree (reading a) (reading b)) (agree (reading a) (reading dest)) (not-false (agree (reading a) (reading b) && agree (reading a) (reading dest)) (when-nil (not (agree (reading a) (reading b) && agree (reading a) (reading dest))) 7 0 parts.1))

  same-as-a : (r : Reading) → agree (reading a) r ≡ true → (r.P ≡ (reading a).P) × (r.S ≡ (reading a).S)
  same-as-a r e =
      let b = and_both (eqb (reading a).P r.P) (eqb (reading a).S r.S) e in
      (sym (eqb-true (reading a).P r.P b.0), sym (eqb-true (reading a).S r.S b.1))

  on-readings : CombinedAsPlain (op_of code) (reading a) (reading b) (reading dest).C (reading dest).N (combine (op_of code) (reading a) (reading b) (reading dest).C (reading dest).N)
  on-readings =
      let e = same-as-a (reading b) agreed.0 in
      combined (op_of code) (reading a) (reading b) (reading dest).C (reading dest).N (good a (holds-true p.good_a all-good.0)) (good b (holds-true p.good_b all-good.1)) e.0 e.1

  it_fits : result_fits code (reading a) (reading b) (reading dest) ≡ true
  it_fits = not-false (result_fits code (reading a) (reading b) (reading dest)) (when-nil (not (result_fits code (reading a) (reading b) (reading dest))) 9 0 none-applies.1)

  -- what fits is inserted without a stop
  not_stopped : (combine (op_of code) (reading a) (reading b) (reading dest).C (reading dest).N).stopped ≡ false
  not_stopped = on-readings.stopped ∙ ap not (ap (λ (S : ℕ). fits S (reading dest).C (reading dest).N (chosen (op_of code) (reading a) (reading b))) (sym (same-as-a (reading dest) agreed.1).1) ∙ it_fits)

  -- members are those of the plain operation
  pub combined-members : (w : ℕ) → has (reading dest') w ≡ plain_combine (op_of code) (has (reading a)) (has (reading b)) w
  combined-members w = ap (λ (r : Reading). has r w) (p.done none-applies.0 it_fits).reads ∙ on-readings.members not_stopped w

  -- and so is their count
  pub combined-count : count (reading dest') ≡ different (chosen (op_of code) (reading a) (reading b))
  combined-count = ap count (p.done none-applies.0 it_fits).reads ∙ on-readings.counted not_stopped
