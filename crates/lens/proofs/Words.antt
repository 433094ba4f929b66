-- A word of a region, at a place behind where the header says that an area starts, is that word of the area. Assumes nothing.
use Rattle.std.proofs.Common.{◌≡◌, ℕ, ◌+◌, ◌-◌, ◌*◌, ◌/◌, ◌^◌, ◌<◌, ◌≤◌, max, List, length, get_or, take, drop, sym, ap, ◌∙◌, arith, pow_mono, pow-add}
use native.Mathlib.Decide.{dec_lt}
use borrow.Rule.Slice.PartMut.{mid_len}
use Rattle.region.specs.Geometry.{bitmap_words, record_words, strip_words, off_ranks, off_stack, off_records, off_entries}
use Rattle.region.specs.Bits.{bit}
use Rattle.region.specs.Areas.{numbers, area, records}
use Rattle.region.specs.Seen.{seen}
use Rattle.region.specs.WellFormed.{Ready}
use Rattle.region.proofs.Areas.{get_or-area}

-- the bitmap has a bit for each prefix
pub bitmap-covers : (P : ℕ) → 2 ^ P ≤ bitmap_words P * 64
unfolding bitmap_words
bitmap-covers P = pick (dec_lt P 6)
  where
    pick : Dec (P < 6) → 2 ^ P ≤ max 1 (2 ^ P / 64) * 64
    pick (yes s) = let h : P ≤ 6 = omega arith in let z : 2 ^ P ≤ 2 ^ 6 = pow_mono h in omega arith
    pick (no b) =
        let e : P ≡ (P - 6) + 6 = omega arith in
        let z : 2 ^ P ≡ 2 ^ (P - 6) * 64 = ap (λ (k : ℕ). 2 ^ k) e ∙ pow-add 2 (P - 6) 6 in
        omega arith

-- header word h says that n words start at word off
pub word_of : (h off n : ℕ) (l : List ℕ) (i : ℕ) → get_or l h 0 ≡ off → i < n → get_or l (get_or l h 0 + i) 0 ≡ get_or (area off n l) i 0
word_of h off n l i e s = ap (λ (z : ℕ). get_or l (z + i) 0) e ∙ sym (get_or-area off n l i s)

module _ (l : List ℕ) (r : Ready l) where
  pub slot_is : (i : ℕ) → i < (numbers l).C → get_or l (get_or l 9 0 + i) 0 ≡ (seen (numbers l) l).slot i
  unfolding seen
  slot_is i h = word_of 9 (off_ranks (numbers l).P) (numbers l).C l i r.header.ranks h

  pub free-is : (i : ℕ) → i < (numbers l).C → get_or l (get_or l 10 0 + i) 0 ≡ (seen (numbers l) l).free i
  unfolding seen
  free-is i h = word_of 10 (off_stack (numbers l).P (numbers l).C) (numbers l).C l i r.header.stack h

  pub record_is : (c i : ℕ) → c < (numbers l).C → i < record_words → get_or l (get_or l 11 0 + (record_words * c + i)) 0 ≡ get_or (records (numbers l) l) (record_words * c + i) 0
  record_is c i h k = word_of 11 (off_records (numbers l).P (numbers l).C) (record_words * (numbers l).C) l (record_words * c + i) r.header.records (omega arith)

  pub entry-is : (c i : ℕ) → c < (numbers l).C → i < strip_words → get_or l (get_or l 12 0 + (strip_words * c + i)) 0 ≡ (seen (numbers l) l).entry c i
  unfolding seen
  entry-is c i h k = word_of 12 (off_entries (numbers l).P (numbers l).C) (strip_words * (numbers l).C) l (strip_words * c + i) r.header.entries (omega arith)

  -- the words between the first two offsets are the bitmap
  pub bitmap-room : (p : ℕ) → p < 2 ^ (numbers l).P → p < length (take (get_or l 9 0 - get_or l 8 0) (drop (get_or l 8 0) l)) * 64
  bitmap-room p h =
      let e : length (take (get_or l 9 0 - get_or l 8 0) (drop (get_or l 8 0) l)) ≡ get_or l 9 0 - get_or l 8 0 = mid_len (get_or l 8 0) (get_or l 9 0) l (omega (arith, r.header.ranks, r.long)) in
      omega (arith, r.header.ranks, r.header.bitmap, bitmap-covers (numbers l).P)

  pub bitmap-is : (p : ℕ) → bit (take (get_or l 9 0 - get_or l 8 0) (drop (get_or l 8 0) l)) p ≡ (seen (numbers l) l).bit p
  unfolding seen area
  bitmap-is p =
      let e : get_or l 9 0 - get_or l 8 0 ≡ bitmap_words (numbers l).P = omega (arith, r.header.ranks, r.header.bitmap) in
      ap (λ (z : ℕ). bit (take z (drop (get_or l 8 0) l)) p) e ∙ ap (λ (z : ℕ). bit (take (bitmap_words (numbers l).P) (drop z l)) p) r.header.bitmap
