-- What a check tells of a region; which refusals of a walk apply, by the check and by the header's member count. Assumes nothing.
use Prim.Native.Nat.{ℕ, ◌<◌, ◌≤◌}
use mathlib.Core.Path.{◌≡◌, refl, sym, ap, ◌∙◌}
use mathlib.Core.Bool.{Bool, true, false, not, true≢false}
use mathlib.Core.List.{List, [], ◌∷◌}
use native.Mathlib.Omega.{arith}
use lib.Dec.{ltb}
use lib.ListN.{length}
use borrow.Author.Tests.{lt-ltb, le-ltb}
use Rattle.model.specs.Reading.{count}
use Rattle.region.specs.Areas.{numbers}
use Rattle.region.specs.Read.{reading}
use Rattle.region.specs.WellFormed.{WellFormed}
use Rattle.region.proofs.Facts.{word-7}
use Rattle.promises.specs.Refusals.{Refusal, Told, refusal, when, tell, unless_refused, holds}
use Rattle.promises.specs.Refusals.Told.{gave, refused}
use Rattle.promises.specs.Check.{CheckPromise}
use Rattle.promises.specs.Walk.{walk_from, written_over, walk_refusals, WalkPromise, OpenPromise}
use Rattle.promises.proofs.Tell.{holds-true, holds-yes, gave-none, gave-refused, append-nil, when-nil}

not-false : (x : Bool) → not x ≡ false → x ≡ true
not-false true e = refl
not-false false e = absurd (true≢false e)

-- What a check tells

module _ (l : List ℕ) where
  pub checked-good : CheckPromise l (gave tt) → WellFormed l
  checked-good p = holds-true p.sound (not-false (holds p.sound) (when-nil (not (holds p.sound)) 1 0 (gave-none (when (not (holds p.sound)) 1 0) tt tt (sym p.tells))))

  pub checked-bad : {x : Refusal} → CheckPromise l (refused x) → WellFormed l → ⊥
  checked-bad p wf = gave-refused (p.tells ∙ rw (holds-yes p.sound wf))

module _ (l : List ℕ) (start : ℕ) where
  -- no region
  pub open-malformed : (WellFormed l → ⊥) → OpenPromise l start (refused (refusal 1 0))
  open-malformed h = record { sound = no h; tells = refl }

  module _ (wf : WellFormed l) where
    count-is : count (reading l) ≡ (numbers l).count
    count-is = word-7 l wf

    -- a start above the member count
    pub open-too-far : (numbers l).count < start → OpenPromise l start (refused (refusal 8 0))
    open-too-far h = record { sound = yes wf; tells = rw (lt-ltb (count (reading l)) start (omega (arith, count-is))) }

    -- no refusal
    pub open-gave : start ≤ (numbers l).count → OpenPromise l start (gave start)
    open-gave h = record { sound = yes wf; tells = rw (le-ltb (count (reading l)) start (omega (arith, count-is))) }

-- What an opening tells a walk

module _ (l : List ℕ) (start : ℕ) where
  -- where it gave a place, nothing is refused, and the place is the start
  module _ {place : ℕ} (p : OpenPromise l start (gave place)) where
    none : walk_refusals (holds p.sound) (reading l) start ≡ []
    none = gave-none (walk_refusals (holds p.sound) (reading l) start) start place (sym p.tells)

    pub opened-good : WellFormed l
    opened-good = holds-true p.sound (not-false (holds p.sound) (when-nil (not (holds p.sound)) 1 0 (append-nil (when (not (holds p.sound)) 1 0) (when (ltb (count (reading l)) start) 8 0) none).0))

    pub opened-place : place ≡ start
    opened-place =
        let e : gave place ≡ gave start = p.tells ∙ ap (λ (rs : List Refusal). tell rs start) none in
        cc

    pub walk-gave : (o : List ℕ) (n : ℕ) (out : List ℕ) → n ≡ length (walk_from (reading l) place (length o)) → out ≡ written_over (walk_from (reading l) place (length o)) o → WalkPromise l start o (gave n) out
    walk-gave o n out en eo =
        let ws : List ℕ = walk_from (reading l) start (length o) in
        let same : walk_from (reading l) place (length o) ≡ ws = ap (λ (k : ℕ). walk_from (reading l) k (length o)) opened-place in
        record {
          sound = p.sound;
          tells = ap gave (en ∙ ap length same) ∙ ap (λ (rs : List Refusal). tell rs (length ws)) (sym none);
          leaves = eo ∙ ap (λ (xs : List ℕ). written_over xs o) same ∙ ap (λ (rs : List Refusal). unless_refused rs (written_over ws o) o) (sym none);
        }

  -- what refuses the one refuses the other
  module _ {x : Refusal} (p : OpenPromise l start (refused x)) (o : List ℕ) where
    refused-too : (rs : List Refusal) (a b : ℕ) (after : List ℕ) → ◌≡◌ {A = Told ℕ} (refused x) (tell rs a) → ◌≡◌ {A = Told ℕ} (refused x) (tell rs b) × (o ≡ unless_refused rs after o)
    refused-too [] a b after e = absurd (gave-refused e)
    refused-too (y ∷ ys) a b after e = (e, refl)

    pub walk-refused : WalkPromise l start o (refused x) o
    walk-refused =
        let ws : List ℕ = walk_from (reading l) start (length o) in
        let t = refused-too (walk_refusals (holds p.sound) (reading l) start) start (length ws) (written_over ws o) p.tells in
        record { sound = p.sound; tells = t.0; leaves = t.1 }
