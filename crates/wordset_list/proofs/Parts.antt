-- A test of all entries, on a part of them. Assumes nothing.
use mathlib.Core.Path.{◌≡◌, refl, ap, ◌∙◌}
use mathlib.Core.Bool.{Bool, true, ◌&&◌, and-true}
use mathlib.Core.List.{List, [], ◌∷◌, ◌++◌}
use Prim.Native.Nat.{ℕ, suc, ◌+◌, ◌≤◌, ◌<◌}
use native.Mathlib.Omega.{arith}
use lib.ListN.{length, take, drop, get_or, length-drop}
use lib.Seq.{length-take-le, get_or-take, get_or-drop, take-suc}
use Rattle.lists.specs.Lists.{all, first_bad}
use Rattle.lists.proofs.Laws.{by-test}
use Rattle.wordset_list.proofs.Judging.{passes, past_end}

module _ (t : ℕ → Bool) where
  -- where each entry passes, each entry of a part does
  pub part-passes : (xs : List ℕ) (i n : ℕ) → i + n ≤ length xs → length xs ≤ first_bad t xs → length (take n (drop i xs)) ≤ first_bad t (take n (drop i xs))
  part-passes xs i n h l =
      let d : n ≤ length (drop i xs) = omega (arith, length-drop i xs) in
      let m : length (take n (drop i xs)) ≡ n = length-take-le n (drop i xs) d in
      past_end t (take n (drop i xs)) (λ j k.
      let e : get_or (take n (drop i xs)) j 0 ≡ get_or xs (i + j) 0 = get_or-take n (drop i xs) j 0 (omega arith) ∙ get_or-drop i xs j 0 in
      ap t e ∙ passes t xs (i + j) l (omega arith))

  -- all of two lists
  pub all_append : (xs ys : List ℕ) → all t (xs ++ ys) ≡ (all t xs && all t ys)
  all_append [] ys = refl
  all_append (x ∷ xs) ys = by-test (t x) (λ e. rw e (all_append xs ys)) (λ e. rw e)

  -- all of none
  pub all-none : (xs : List ℕ) → length xs ≡ 0 → all t xs ≡ true
  all-none [] e = refl
  all-none (x ∷ xs) e = absurd (omega arith)

  -- all up to entry i and with it
  pub all-one-more : (xs : List ℕ) (i : ℕ) → i < length xs → all t (take (suc i) xs) ≡ (all t (take i xs) && t (get_or xs i 0))
  all-one-more xs i h =
      ap (all t) (take-suc xs i 0 h)
      ∙ all_append (take i xs) (get_or xs i 0 ∷ [])
      ∙ ap (λ (b : Bool). all t (take i xs) && b) (and-true (t (get_or xs i 0)))
