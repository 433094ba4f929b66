-- An area is a part of a region's words: a store meets the one area that it lies in, and areas put one after the other are found again. Assumes nothing.
use mathlib.Core.Path.{◌≡◌, refl, ap, ◌∙◌}
use mathlib.Core.List.{List, [], ◌∷◌, ◌++◌, append_assoc}
use Prim.Native.Nat.{ℕ, zero, suc, ◌+◌, ◌-◌, ◌≤◌, ◌<◌}
use native.Mathlib.Omega.{arith}
use lib.ListN.{length, take, drop, set, get_or}
use lib.Seq.{drop-set-lt, drop-set-add, take-set-le, take-set-lt, get_or-take, get_or-drop, take_at, drop_at, take-take}
use Rattle.region.specs.Areas.{area}

module _ (off n : ℕ) (l : List ℕ) where
  -- a store before the area, past it, and within it
  pub area-set-before : (j v : ℕ) → j < off → area off n (set l j v) ≡ area off n l
  unfolding area
  area-set-before j v h = ap (take n) (drop-set-lt off l j v h)

  pub area-set-after : (j v : ℕ) → off + n ≤ j → area off n (set l j v) ≡ area off n l
  unfolding area
  area-set-after j v h =
      let e : j ≡ off + (j - off) = omega arith in
      ap (λ (k : ℕ). take n (drop off (set l k v))) e ∙ ap (take n) (drop-set-add off l (j - off) v) ∙ take-set-le n (drop off l) (j - off) v (omega arith)

  pub area-set-in : (i v : ℕ) → i < n → area off n (set l (off + i) v) ≡ set (area off n l) i v
  unfolding area
  area-set-in i v h = ap (take n) (drop-set-add off l i v) ∙ take-set-lt n (drop off l) i v h

  -- a word of the area is one of the list
  pub get_or-area : (i : ℕ) → i < n → get_or (area off n l) i 0 ≡ get_or l (off + i) 0
  unfolding area
  get_or-area i h = get_or-take n (drop off l) i 0 h ∙ get_or-drop off l i 0

-- an area of a list that is put together
pub area_of : (l before it after : List ℕ) (off n : ℕ) → l ≡ before ++ it ++ after → length before ≡ off → length it ≡ n → area off n l ≡ it
unfolding area
area_of l before it after off n e h k = rw (e, append_assoc, drop_at before (it ++ after) off h) (take_at it after n k)

-- an area of a list's beginning, where that holds it whole
pub area-take : (off n t : ℕ) (l : List ℕ) → off + n ≤ t → area off n (take t l) ≡ area off n l
unfolding area
area-take zero n t l h = take-take n t l (omega arith)
area-take (suc off) n zero l h = absurd (omega arith)
area-take (suc off) n (suc t) [] h = refl
area-take (suc off) n (suc t) (x ∷ l) h = area-take off n t l (omega arith)
