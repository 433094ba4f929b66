-- Blocks of one width w, written in runs, or changed block by block: each step carries `toward` on by whole blocks. Assumes nothing.
use mathlib.Core.Path.{◌≡◌, sym, ap, ◌∙◌}
use mathlib.Core.List.{List, [], ◌∷◌, ◌++◌, append_assoc}
use Prim.Native.Nat.{ℕ, zero, suc, ◌+◌, ◌-◌, ◌*◌, ◌≤◌, ◌<◌}
use native.Mathlib.Nat.{zero-add, suc-add, add-zero, add-suc, add_comm, mul-zero, mul-suc, mul-add, mul-le-mul_left}
use native.Mathlib.Numerals.{add-one}
use native.Mathlib.Omega.{arith}
use lib.ListN.{length, take, drop, set, replicate, length-set, length-replicate, replicate-append-replicate}
use lib.Seq.{length-take-le, take_at, take-add, set-append_left}
use borrow.Rule.Slice.PartMut.{put_mid}
use Rattle.lists.specs.Lists.{blocks}
use Rattle.lists.proofs.Blocks.{length-blocks, drop-blocks, block_at}
use Rattle.region.specs.Fresh.{zeros}
use Rattle.make.specs.Marked.{marked}
use Rattle.make.proofs.Filling.{toward, put_next}

set-append-add : {A : Type 0} (xs ys : List A) (i : ℕ) (v : A) → set (xs ++ ys) (length xs + i) v ≡ xs ++ set ys i v
set-append-add [] ys i v = rw zero-add
set-append-add {A} (x ∷ xs) ys i v = rw suc-add (ap (λ (r : List A). x ∷ r) (set-append-add xs ys i v))

-- the upper k of m + k blocks, and the m below them
blocks-add : {A : Type 0} (f : ℕ → List A) (m k : ℕ) → blocks (λ j. f (m + j)) k ++ blocks f m ≡ blocks f (m + k)
blocks-add f m zero = rw add-zero
blocks-add {A} f m (suc k) =
    append_assoc (f (m + k)) (blocks (λ j. f (m + j)) k) (blocks f m)
    ∙ ap (λ (r : List A). f (m + k) ++ r) (blocks-add f m k)
    ∙ ap (blocks f) (sym (add-suc m k))

blocks-replicate : {A : Type 0} (a : A) (w k : ℕ) → blocks (λ j. replicate w a) k ≡ replicate (w * k) a
blocks-replicate a w zero = rw mul-zero
blocks-replicate {A} a w (suc k) =
    ap (λ (r : List A). replicate w a ++ r) (blocks-replicate a w k)
    ∙ replicate-append-replicate w (w * k) a
    ∙ ap (λ (n : ℕ). replicate n a) (add_comm w (w * k) ∙ sym (mul-suc w k))

-- nothing is marked yet
pub blank : {A : Type 0} (a : A) (t : List A) (w k : ℕ) → replicate (w * k) a ≡ toward t (blocks (λ j. replicate w a) k) (w * 0)
blank a t w k = rw mul-zero (sym (blocks-replicate a w k))

-- Products that `omega` does not see: of n blocks, `left` are yet to be written, and the next run has k

pub run_end : (w n left k : ℕ) → left ≤ n → k ≤ left → w * (n - left) + w * k ≡ w * (n - (left - k))
run_end w n left k h l = let e : n - left + k ≡ n - (left - k) = omega arith in sym (mul-add w (n - left) k) ∙ ap (λ (x : ℕ). w * x) e

run_fits : (w n left k : ℕ) → left ≤ n → k ≤ left → w * (n - left) + w * k ≤ w * n
run_fits w n left k h l = rw (run_end w n left k h l) (mul-le-mul_left w (omega arith))

-- in a slice as long as all the blocks a run from `from` on ends inside
pub run-inside : (w n left k from long : ℕ) → left ≤ n → k ≤ left → from ≡ w * (n - left) → long ≡ w * n → from + w * k ≤ long
run-inside w n left k from long h l f e = let z = run_fits w n left k h l in omega arith

-- and so is word `at` of block i
pub word-inside : (w k i at long : ℕ) → i < k → at < w → long ≡ w * k → w * i + at < long
word-inside w k i at long h l e = let z : w * suc i ≤ w * k = mul-le-mul_left w h in let s : w * suc i ≡ w * i + w = mul-suc w i in omega arith

module _ {A : Type 0} (f : ℕ → List A) (w : ℕ) (width : (n : ℕ) → length (f n) ≡ w) where
  before-fits : (i n : ℕ) → i ≤ n → w * i ≤ length (blocks f n)
  before-fits i n h = rw (length-blocks f w width n) (mul-le-mul_left w h)

  -- the k blocks from block n - left on
  run_at : (n left k : ℕ) → left ≤ n → k ≤ left → take (w * k) (drop (w * (n - left)) (blocks f n)) ≡ blocks (λ j. f (left - k + j)) k
  run_at n left k h l =
      let e : n - (n - left) ≡ left - k + k = omega arith in
      ap (take (w * k)) (drop-blocks f w width (n - left) n (omega arith) ∙ ap (blocks f) e ∙ sym (blocks-add f (left - k) k))
      ∙ take_at (blocks (λ j. f (left - k + j)) k) (blocks f (left - k)) (w * k) (length-blocks (λ j. f (left - k + j)) w (λ j. width (left - k + j)) k)

  -- one more run
  pub run_more : (d m new : List A) (n left k a e : ℕ) → left ≤ n → k ≤ left → a ≡ w * (n - left) → e ≡ a + w * k → m ≡ toward (blocks f n) d a → new ≡ blocks (λ j. f (left - k + j)) k
      → put_mid a (e - a) m new ≡ toward (blocks f n) d e
  run_more d m new n left k a e h l ha he hm hn =
      put_next (take a (blocks f n)) new d m a e hm (length-take-le a (blocks f n) (rw ha (before-fits (n - left) n (omega arith)))) (omega arith)
      ∙ ap (λ (r : List A). r ++ drop e d) (ap (λ (r : List A). take a (blocks f n) ++ r) new_is ∙ sym (take-add a (w * k) (blocks f n)) ∙ ap (λ (x : ℕ). take x (blocks f n)) (sym he))
    where
      new_is : new ≡ take (w * k) (drop a (blocks f n))
      new_is = hn ∙ sym (run_at n left k h l) ∙ ap (λ (x : ℕ). take (w * k) (drop x (blocks f n))) (sym ha)

  -- one more block of g, changed to that of f by one store
  pub mark-more : (g : ℕ → List A) → ((n : ℕ) → length (g n) ≡ w) → (m : List A) (n i at : ℕ) (v : A) → m ≡ toward (blocks f n) (blocks g n) (w * i) → i < n → at < w → set (g (n - 1 - i)) at v ≡ f (n - 1 - i)
      → set m (w * i + at) v ≡ toward (blocks f n) (blocks g n) (w * (i + 1))
  mark-more g wide m n i at v hm h l hs =
      ap (λ (r : List A). set r (w * i + at) v) (hm ∙ ap (λ (r : List A). done ++ r) rest)
      ∙ ap (λ (k : ℕ). set (done ++ (g (n - 1 - i) ++ blocks g (n - 1 - i))) (k + at) v) (sym long)
      ∙ set-append-add done (g (n - 1 - i) ++ blocks g (n - 1 - i)) at v
      ∙ ap (λ (r : List A). done ++ r) (set-append_left (g (n - 1 - i)) (blocks g (n - 1 - i)) at v (rw (wide (n - 1 - i)) l) ∙ ap (λ (r : List A). r ++ blocks g (n - 1 - i)) hs)
      ∙ sym (append_assoc done (f (n - 1 - i)) (blocks g (n - 1 - i)))
      ∙ ap (λ (r : List A). r ++ blocks g (n - 1 - i)) one_more
      ∙ ap (λ (r : List A). take (w * (i + 1)) (blocks f n) ++ r) (sym left)
    where
      done : List A
      done = take (w * i) (blocks f n)

      long : length done ≡ w * i
      long = length-take-le (w * i) (blocks f n) (before-fits i n (omega arith))

      up : w * i + w ≡ w * (i + 1)
      up = rw (add-one, mul-suc)

      rest : drop (w * i) (blocks g n) ≡ g (n - 1 - i) ++ blocks g (n - 1 - i)
      rest = let e : n - i ≡ suc (n - 1 - i) = omega arith in drop-blocks g w wide i n (omega arith) ∙ ap (blocks g) e

      left : drop (w * (i + 1)) (blocks g n) ≡ blocks g (n - 1 - i)
      left = let e : n - (i + 1) ≡ n - 1 - i = omega arith in drop-blocks g w wide (i + 1) n (omega arith) ∙ ap (blocks g) e

      one_more : done ++ f (n - 1 - i) ≡ take (w * (i + 1)) (blocks f n)
      one_more = ap (λ (r : List A). done ++ r) (sym (block_at f w width i n h)) ∙ sym (take-add (w * i) w (blocks f n)) ∙ ap (λ (k : ℕ). take k (blocks f n)) up

pub length_marked : (w at v : ℕ) → length (marked w at v) ≡ w
length_marked w at v = length-set (zeros w) at v ∙ length-replicate w 0
