-- Blocks of one width w, f (n - 1), .., f 0, one after the other: block c is f (n - 1 - c), and it begins at word w * c. Assumes nothing.
use mathlib.Core.Path.{◌≡◌, refl, sym, ap, ap₂, ◌∙◌}
use mathlib.Core.List.{List, [], ◌∷◌, ◌++◌}
use Prim.Native.Nat.{ℕ, zero, suc, ◌+◌, ◌-◌, ◌*◌, ◌≤◌, ◌<◌}
use native.Mathlib.Nat.{not-suc-le-zero, le_of_suc-le-suc, mul-zero, mul-suc, add_comm, suc-sub-suc, sub-zero}
use native.Mathlib.Omega.{arith}
use lib.ListN.{length, take, drop, get_or, length-append}
use lib.Seq.{take_at, drop-append-add, get_or-take, get_or-drop}
use Rattle.lists.specs.Lists.{up_from, blocks, down_from}

module _ {A : Type 0} (f : ℕ → List A) (w : ℕ) (width : (n : ℕ) → length (f n) ≡ w) where
  pub length-blocks : (n : ℕ) → length (blocks f n) ≡ w * n
  length-blocks zero = sym (mul-zero w)
  length-blocks (suc n) = rw (length-append, width, length-blocks n, mul-suc) (add_comm w (w * n))

  pub drop-blocks : (i n : ℕ) → i ≤ n → drop (w * i) (blocks f n) ≡ blocks f (n - i)
  drop-blocks zero n h = rw (mul-zero, sub-zero)
  drop-blocks (suc i) zero h = absurd (not-suc-le-zero h)
  drop-blocks (suc i) (suc n) h =
      ap (λ (k : ℕ). drop k (f n ++ blocks f n)) (mul-suc w i ∙ add_comm (w * i) w ∙ ap (λ (k : ℕ). k + w * i) (sym (width n)))
      ∙ drop-append-add (f n) (blocks f n) (w * i)
      ∙ drop-blocks i n (le_of_suc-le-suc h)
      ∙ ap (blocks f) (sym (suc-sub-suc n i))

  pub block_at : (c n : ℕ) → c < n → take w (drop (w * c) (blocks f n)) ≡ f (n - 1 - c)
  block_at c n h =
      let e : n - c ≡ suc (n - 1 - c) = omega arith in
      ap (take w) (drop-blocks c n (omega arith) ∙ ap (blocks f) e) ∙ take_at (f (n - 1 - c)) (blocks f (n - 1 - c)) w (width (n - 1 - c))

  -- word i of block c
  pub block-word : (d : A) (n c i : ℕ) → c < n → i < w → get_or (blocks f n) (w * c + i) d ≡ get_or (f (n - 1 - c)) i d
  block-word d n c i hc hi =
      sym (get_or-drop (w * c) (blocks f n) i d) ∙ sym (get_or-take w (drop (w * c) (blocks f n)) i d hi) ∙ ap (λ (l : List A). get_or l i d) (block_at c n hc)

-- Blocks of one word

pub get_or-down_from : {A : Type 0} (f : ℕ → A) (d : A) (n i : ℕ) → i < n → get_or (down_from f n) i d ≡ f (n - 1 - i)
get_or-down_from f d n i h =
    let e : i ≡ 1 * i + 0 = omega arith in
    ap (λ (k : ℕ). get_or (down_from f n) k d) e ∙ block-word (λ i. f i ∷ []) 1 (λ i. refl) d n i 0 h (omega arith)

-- values that fall by one as i grows, read from the last: they ascend
pub down_from-rising : (f : ℕ → ℕ) (k n : ℕ) → ((i : ℕ) → i < n → f i ≡ k + (n - 1 - i)) → down_from f n ≡ up_from k n
down_from-rising f k zero h = refl
down_from-rising f k (suc n) h =
    let e : k + (suc n - 1 - n) ≡ k = omega arith in
    ap₂ ◌∷◌ (h n (omega arith) ∙ e) (down_from-rising f (suc k) n (λ i l. h i (omega arith) ∙ omega arith))
