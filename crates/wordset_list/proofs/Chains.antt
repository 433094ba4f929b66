-- The library's chains over a list in the words of this repository. Assumes nothing.
use mathlib.Core.Path.{◌≡◌, refl, ap}
use mathlib.Core.Bool.{Bool, cond, not, ◌&&◌}
use mathlib.Core.List.{List, [], ◌∷◌}
use Prim.Native.Nat.{ℕ, ◌≤◌}
use native.Mathlib.Omega.{arith}
use lib.Dec.{ltb}
use lib.ListN.{length}
use borrow.Author.Tests.{ltb-true, ltb-false}
use Rattle.std.specs.List.{list_all, position_or_len, prefix_len}
use Rattle.std.specs.Prelude.{Some, None}
use Rattle.lists.specs.Lists.{all, first_bad}
use Rattle.lists.proofs.Laws.{by-test}
use Rattle.wordset_list.specs.Judged.{FirstBad}

-- whether all pass
pub all-listed : (t : ℕ → Bool) (xs : List ℕ) → list_all t xs ≡ all t xs
all-listed t [] = refl
all-listed t (x ∷ xs) = ap (λ (b : Bool). t x && b) (all-listed t xs)

module _ (t u : ℕ → Bool) (apart : (x : ℕ) → t x ≡ not (u x)) where
  -- how many stand before the first that fails
  passed : (xs : List ℕ) → prefix_len (λ x. not (u x)) xs ≡ first_bad t xs
  passed [] = refl
  passed (x ∷ xs) = by-test (not (u x)) (λ e. rw (apart x, e) (omega (arith, passed xs))) (λ e. rw (apart x, e))

  within : (xs : List ℕ) → first_bad t xs ≤ length xs
  within [] = omega arith
  within (x ∷ xs) = by-test (t x) (λ e. rw e (omega (arith, within xs))) (λ e. rw e (omega arith))

  -- what a search for what fails answers
  pub sought : (xs : List ℕ) → FirstBad t xs (cond (ltb (position_or_len u xs) (length xs)) (Some (position_or_len u xs)) None)
  sought xs = by-test (ltb (position_or_len u xs) (length xs)) (λ e. rw e (passed xs, ltb-true (position_or_len u xs) (length xs) e)) (λ e. rw e (omega (arith, passed xs, within xs, ltb-false (position_or_len u xs) (length xs) e)))
