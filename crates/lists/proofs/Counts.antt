-- Counting: a list without repetition is as long as the numbers that stand in it are many. Assumes nothing.
use mathlib.Core.Path.{◌≡◌, refl, sym, ap, ◌∙◌}
use mathlib.Core.Bool.{true, ◌||◌}
use mathlib.Core.List.{List, [], ◌∷◌}
use Prim.Native.Nat.{ℕ, zero, suc, ◌≤◌, ◌<◌}
use native.Mathlib.Omega.{arith}
use lib.Dec.{eqb}
use lib.ListN.{length}
use borrow.Author.Tests.{ne_eqb}
use Rattle.lists.specs.Lists.{one, mem, sorted, different, Distinct}
use Rattle.lists.specs.Sums.{sum}
use Rattle.lists.proofs.Laws.{or_left, or_right, eqb-self, mem-sorted, distinct-sorted}
use Rattle.lists.proofs.Sums.{sum_same, sum-zero, sum_more}

-- at most n of n numbers are counted
pub sum-few : (f : ℕ → ℕ) (n : ℕ) → ((i : ℕ) → f i ≤ 1) → sum f n ≤ n
unfolding sum
sum-few f zero h = omega arith
sum-few f (suc n) h = let a : sum f n ≤ n = sum-few f n h in let b : f n ≤ 1 = h n in omega arith

pub length-count : (xs : List ℕ) (M : ℕ) → Distinct xs → ((x : ℕ) → mem x xs ≡ true → x < M) → length xs ≡ sum (λ x. one (mem x xs)) M
length-count [] M d h = sym (sum-zero (λ x. 0) M (λ x l. refl))
length-count (x ∷ xs) M d h =
    ap suc (length-count xs M d.1 (λ z m. h z (or_right (eqb z x) (mem z xs) m)))
    ∙ sym (sum_more (λ z. one (mem z xs)) (λ z. one (eqb z x || mem z xs)) M x (h x (or_left (eqb x x) (mem x xs) (eqb-self x)))
    (rw (eqb-self x, d.0)) (λ z l n. rw (ne_eqb z x n)))

pub different-count : (xs : List ℕ) (M : ℕ) → ((x : ℕ) → mem x xs ≡ true → x < M) → different xs ≡ sum (λ x. one (mem x xs)) M
different-count xs M h =
    length-count (sorted xs) M (distinct-sorted xs) (λ x m. h x (sym (mem-sorted x xs) ∙ m))
    ∙ sum_same (λ x. one (mem x xs)) (λ x. one (mem x (sorted xs))) M (λ x l. ap one (mem-sorted x xs))
