-- A change of some words of a list: what lies before them and what lies after them stays, and so does every area there. A store is one, and a part of a slice that came back is one. Assumes nothing.
use Rattle.std.proofs.Common.{◌≡◌, ℕ, zero, suc, ◌+◌, ◌-◌, ◌<◌, ◌≤◌, List, [], ◌∷◌, ◌++◌, length, get_or, take, drop, set, sym, refl, ap, ◌∙◌, append_assoc, arith, length-append, length-drop, length-set, length-take-le, get_or-drop, get_or-take, drop-drop, take_at, drop-set-lt, take-add, drop_at}
use lib.Seq.{take-set-le}
use borrow.Rule.Slice.PartMut.{put_mid, take_put}
use Rattle.region.specs.Areas.{area}
use Rattle.region.proofs.Areas.{area-take}

-- an area that the list holds whole
pub area-length : (off n : ℕ) (l : List ℕ) → off + n ≤ length l → length (area off n l) ≡ n
unfolding area
area-length off n l h = length-take-le n (drop off l) (omega (arith, length-drop off l))

-- an area of an area
pub area-area : (off n a k : ℕ) (l : List ℕ) → a + k ≤ n → area a k (area off n l) ≡ area (off + a) k l
unfolding area
area-area off n a k l h = area-take a k n (drop off l) h ∙ ap (take k) (drop-drop a off l)

-- l and m differ at most in the k words from o on
pub record Only (o k : ℕ) (l m : List ℕ) : Type 0 where
  pub same_length : length m ≡ length l
  pub below : take o m ≡ take o l
  pub above : drop (o + k) m ≡ drop (o + k) l

pub store-only : (l : List ℕ) (i x : ℕ) → Only i 1 l (set l i x)
store-only l i x = record {
  same_length = length-set l i x;
  below = take-set-le i l i x (omega arith);
  above = drop-set-lt (i + 1) l i x (omega arith);
}

module _ (o k : ℕ) (l new : List ℕ) (fits : o + k ≤ length l) (long : length new ≡ k) where
  pub put_only : Only o k l (put_mid o k l new)
  put_only =
      let front : length (take o l) ≡ o = length-take-le o l (omega arith) in
      let head : length (take o l ++ new) ≡ o + k = simp length-append (omega arith) in
      record {
        same_length = simp (length-append, length-drop) (omega arith);
        below = take_put o k l new (omega arith);
        above = ap (drop (o + k)) (sym (append_assoc (take o l) new (drop k (drop o l)))) ∙ drop_at (take o l ++ new) (drop k (drop o l)) (o + k) head ∙ drop-drop k o l;
      }

  -- the part itself
  pub area-put : area o k (put_mid o k l new) ≡ new
  unfolding area
  area-put = ap (take k) (drop_at (take o l) (new ++ drop k (drop o l)) o (length-take-le o l (omega arith))) ∙ take_at new (drop k (drop o l)) k long

-- a part of a list's beginning
put_front : (n k : ℕ) (d new : List ℕ) → k ≤ n → n ≤ length d → length new ≡ k → take n (new ++ drop k d) ≡ new ++ drop k (take n d)
put_front n zero d [] h f e = refl
put_front n zero d (y ∷ new) h f e = absurd (omega arith)
put_front n (suc k) d [] h f e = absurd (omega arith)
put_front zero (suc k) d (y ∷ new) h f e = absurd (omega arith)
put_front (suc n) (suc k) [] (y ∷ new) h f e = absurd (omega arith)
put_front (suc n) (suc k) (z ∷ d) (y ∷ new) h f e = ap (λ (r : List ℕ). y ∷ r) (put_front n k d new (omega arith) (omega arith) (omega arith))

put-taken : (a n k : ℕ) (d new : List ℕ) → a + k ≤ n → n ≤ length d → length new ≡ k → take n (put_mid a k d new) ≡ put_mid a k (take n d) new
put-taken zero n k d new h f e = put_front n k d new (omega arith) f e
put-taken (suc a) zero k d new h f e = absurd (omega arith)
put-taken (suc a) (suc n) k [] new h f e = absurd (omega arith)
put-taken (suc a) (suc n) k (z ∷ d) new h f e = ap (λ (r : List ℕ). z ∷ r) (put-taken a n k d new (omega arith) (omega arith) e)

-- a part of an area
pub area-put-in : (off n a k : ℕ) (l new : List ℕ) → a + k ≤ n → off + n ≤ length l → length new ≡ k → area off n (put_mid (off + a) k l new) ≡ put_mid a k (area off n l) new
unfolding area
area-put-in off n a k l new h f e =
    ap (take n)
    (rw (take-add off a l, append_assoc, drop_at (take off l) (take a (drop off l) ++ (new ++ drop k (drop (off + a) l))) off (length-take-le off l (omega arith)), ← drop-drop a off l))
    ∙ put-taken a n k (drop off l) new h (omega (arith, length-drop off l)) e

module _ {o k : ℕ} {l m : List ℕ} (c : Only o k l m) where
  -- areas
  pub area-below : (off n : ℕ) → off + n ≤ o → area off n m ≡ area off n l
  area-below off n h = sym (area-take off n o m h) ∙ ap (area off n) c.below ∙ area-take off n o l h

  -- what lies from a place on
  pub past : (t : ℕ) → o + k ≤ t → drop t m ≡ drop t l
  past t h =
      let e : (o + k) + (t - (o + k)) ≡ t = omega arith in
      ap (λ (z : ℕ). drop z m) (sym e) ∙ sym (drop-drop (t - (o + k)) (o + k) m) ∙ ap (drop (t - (o + k))) c.above ∙ drop-drop (t - (o + k)) (o + k) l ∙ ap (λ (z : ℕ). drop z l) e

  pub area-above : (off n : ℕ) → o + k ≤ off → area off n m ≡ area off n l
  unfolding area
  area-above off n h = ap (take n) (past off h)

  -- words
  pub word_below : (i : ℕ) → i < o → get_or m i 0 ≡ get_or l i 0
  word_below i h = sym (get_or-take o m i 0 h) ∙ ap (λ (z : List ℕ). get_or z i 0) c.below ∙ get_or-take o l i 0 h

  pub word-above : (i : ℕ) → o + k ≤ i → get_or m i 0 ≡ get_or l i 0
  word-above i h =
      let e : (o + k) + (i - (o + k)) ≡ i = omega arith in
      ap (λ (z : ℕ). get_or m z 0) (sym e) ∙ sym (get_or-drop (o + k) m (i - (o + k)) 0) ∙ ap (λ (z : List ℕ). get_or z (i - (o + k)) 0) c.above ∙ get_or-drop (o + k) l (i - (o + k)) 0 ∙ ap (λ (z : ℕ). get_or l z 0) e
