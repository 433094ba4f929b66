-- A part of a table moved whole: what the table is with it given back. Assumes nothing.
use Prim.Native.Nat.{ℕ, suc, ◌+◌, ◌-◌, ◌<◌, ◌≤◌}
use mathlib.Core.Path.{◌≡◌, sym, ap, ◌∙◌}
use mathlib.Core.List.{List}
use native.Mathlib.Omega.{arith}
use lib.ListN.{length, drop, get_or, length-drop}
use lib.Seq.{get_or-take, get_or-drop, length-take-le}
use borrow.Rule.Slice.PartMut.{mid_of, put_mid}
use Rattle.region.proofs.Areas.{get_or-area}
use Rattle.lens.proofs.Only.{put_only, area-put, word_below}
use Rattle.wordset_slots.specs.Shift.{ShiftedUp, ShiftedDown}

-- places at to e - 1 are so many
pub part-long : (s : List ℕ) (at e : ℕ) → e ≤ length s → length (mid_of at (e - at) s) ≡ e - at
part-long s at e h = length-take-le (e - at) (drop at s) (omega (arith, length-drop at s))

module _ (at e : ℕ) (s new : List ℕ) (a : at ≤ e) (h : e ≤ length s) (long : length new ≡ e - at) where
  abbrev t : List ℕ
  t = put_mid at (e - at) s new

  fits : at + (e - at) ≤ length s
  fits = omega arith

  whole : length t ≡ length s
  whole = (put_only at (e - at) s new fits long).same_length

  before : (r : ℕ) → r < at → get_or t r 0 ≡ get_or s r 0
  before r l = word_below (put_only at (e - at) s new fits long) r l

  -- place i of the part is place at + i of the table, now and then
  given : (i : ℕ) → i < e - at → get_or t (at + i) 0 ≡ get_or new i 0
  given i l = sym (get_or-area at (e - at) t i l) ∙ ap (λ (z : List ℕ). get_or z i 0) (area-put at (e - at) s new fits long)

  lent : (i : ℕ) → i < e - at → get_or (mid_of at (e - at) s) i 0 ≡ get_or s (at + i) 0
  lent i l = get_or-take (e - at) (drop at s) i 0 l ∙ get_or-drop at s i 0

pub up-part : (at k x : ℕ) (s : List ℕ) → at ≤ k → k < length s → (new : List ℕ) → ShiftedUp 0 (length (mid_of at ((k + 1) - at) s) - 1) x (mid_of at ((k + 1) - at) s) new → ShiftedUp at k x s (put_mid at ((k + 1) - at) s new)
up-part at k x s a h new u =
    let n = part-long s at (k + 1) (omega arith) in
    let long : length new ≡ (k + 1) - at = u.long ∙ n in
    let i : at ≤ k + 1 = omega arith in
    let j : k + 1 ≤ length s = omega arith in
    let t : List ℕ = put_mid at ((k + 1) - at) s new in
    record {
      long = whole at (k + 1) s new i j long;
      below = before at (k + 1) s new i j long;
      here = let z : at ≡ at + 0 = omega arith in ap (λ (y : ℕ). get_or t y 0) z ∙ given at (k + 1) s new i j long 0 (omega arith) ∙ u.here;
      above = λ r l m.
          let q : suc r ≡ at + suc (r - at) = omega arith in
          let p : at + (r - at) ≡ r = omega arith in
          ap (λ (y : ℕ). get_or t y 0) q ∙ given at (k + 1) s new i j long (suc (r - at)) (omega arith) ∙ u.above (r - at) (omega arith) (omega (arith, n))
          ∙ lent at (k + 1) s new i j long (r - at) (omega arith) ∙ ap (λ (y : ℕ). get_or s y 0) p;
    }

pub down-part : (at k : ℕ) (s : List ℕ) → at < k → k ≤ length s → (new : List ℕ) → ShiftedDown 0 (length (mid_of at (k - at) s)) (mid_of at (k - at) s) new → ShiftedDown at k s (put_mid at (k - at) s new)
down-part at k s a h new u =
    let n = part-long s at k h in
    let long : length new ≡ k - at = u.long ∙ n in
    let i : at ≤ k = omega arith in
    let t : List ℕ = put_mid at (k - at) s new in
    record {
      long = whole at k s new i h long;
      below = before at k s new i h long;
      above = λ r l m.
          let q : r ≡ at + (r - at) = omega arith in
          let p : at + suc (r - at) ≡ suc r = omega arith in
          ap (λ (y : ℕ). get_or t y 0) q ∙ given at k s new i h long (r - at) (omega arith) ∙ u.above (r - at) (omega arith) (omega (arith, n))
          ∙ lent at k s new i h long (suc (r - at)) (omega arith) ∙ ap (λ (y : ℕ). get_or s y 0) p;
    }
