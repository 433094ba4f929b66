-- What one store makes of a strip, by the definitions of the stored order. Assumes nothing.
use Rattle.std.proofs.Common.{◌≡◌, ℕ, zero, suc, ◌-◌, ◌<◌, ◌≤◌, false, eqb, List, [], ◌∷◌, ◌++◌, length, get_or, take, drop, set, sym, refl, ap, ◌∙◌, arith, length-set, length-take-le, drop-cons, take-suc, take-suc-set, take_at, drop-set-lt, le-ltb}
use native.Mathlib.Decide.{ℕ_discrete}
use lib.Seq.{append_snoc, set_at, set-get_or}
use Rattle.lists.specs.Lists.{mem}
use Rattle.lists.proofs.Laws.{eqb-self, or-none}
use Rattle.model.specs.Change.{added, taken, second, last_first, swap_out}
use Rattle.model.specs.Room.{threshold}
use Rattle.model.proofs.StoredLaws.{appended}
use Rattle.strip.specs.Entries.{Appended, Removed}

pub append-store : (xs : List ℕ) (n s : ℕ) → n < length xs → Appended xs n s (set xs n s)
append-store xs n s h = record { long = length-set xs n s; grown = take-suc-set xs n s h; rest = drop-set-lt (suc n) xs n s (omega arith) }

last-first : (ys : List ℕ) (m : ℕ) → m < length ys → last_first (take (suc m) ys) ≡ get_or ys m 0 ∷ take m ys
last-first [] m h = absurd (omega arith)
last-first (y ∷ ys) zero h = refl
last-first (y ∷ ys) (suc m) h = ap (second y) (last-first ys m (omega arith))

-- the last entry stored at the hole
swapped : (xs : List ℕ) (i m : ℕ) → i ≤ m → m < length xs → mem (get_or xs i 0) (take i xs) ≡ false → take m (set xs i (get_or xs m 0)) ≡ swap_out (get_or xs i 0) (take (suc m) xs)
swapped [] i m l h n = absurd (omega arith)
swapped (x ∷ xs) zero zero l h n = rw (eqb-self x)
swapped (x ∷ xs) zero (suc m) l h n = rw (eqb-self x) (sym (last-first xs m (omega arith)))
swapped (x ∷ xs) (suc i) zero l h n = absurd (omega arith)
swapped (x ∷ xs) (suc i) (suc m) l h n =
    let b = or-none (eqb (get_or xs i 0) x) (mem (get_or xs i 0) (take i xs)) n in
    rw b.0 (ap (λ (ys : List ℕ). x ∷ ys) (swapped xs i m (omega arith) (omega arith) b.1))

pub remove-store : (xs : List ℕ) (n i : ℕ) → i < n → n ≤ length xs → mem (get_or xs i 0) (take i xs) ≡ false → Removed xs n i (set xs i (get_or xs (n - 1) 0))
remove-store xs n i l h first =
    let e : suc (n - 1) ≡ n = omega arith in record {
      long = length-set xs i (get_or xs (n - 1) 0);
      gone = swapped xs i (n - 1) (omega arith) (omega arith) first ∙ ap (λ (k : ℕ). swap_out (get_or xs i 0) (take k xs)) e;
      rest = kept (ℕ_discrete i (n - 1));
    }
  where
    -- the last one moves nothing
    kept : Dec (i ≡ n - 1) → drop (n - 1) (set xs i (get_or xs (n - 1) 0)) ≡ drop (n - 1) xs
    kept (yes q) = ap (drop (n - 1)) (rw (sym q) (set-get_or xs i 0))
    kept (no ne) = drop-set-lt (n - 1) xs i (get_or xs (n - 1) 0) (omega arith)

-- Up to the threshold these are what insert and remove make of a container's suffixes

pub append-adds : {xs : List ℕ} {n s : ℕ} {ys : List ℕ} → n < length xs → n < threshold → Appended xs n s ys → take (suc n) ys ≡ added s (take n xs)
append-adds {xs} {n} {s} h l a = let k : length (take n xs) ≡ n = length-take-le n xs (omega arith) in a.grown ∙ sym (appended s (take n xs) (omega arith))

pub remove-takes : {xs : List ℕ} {n i : ℕ} {ys : List ℕ} → n ≤ length xs → n ≤ threshold → Removed xs n i ys → take (n - 1) ys ≡ taken (get_or xs i 0) (take n xs)
remove-takes {xs} {n} {i} h l r = let k : length (take n xs) ≡ n = length-take-le n xs h in rw (le-ltb threshold (length (take n xs)) (omega arith)) r.gone

-- one entry more copied
pub copy_more : (to from : List ℕ) (i : ℕ) → i < length to → i < length from → set (take i from ++ drop i to) i (get_or from i 0) ≡ take (suc i) from ++ drop (suc i) to
copy_more to from i h l =
    let v = get_or from i 0 in
    ap (λ (ys : List ℕ). set (take i from ++ ys) i v) (drop-cons to i 0 h)
    ∙ set_at (take i from) (get_or to i 0) (drop (suc i) to) v i (length-take-le i from (omega arith))
    ∙ sym (append_snoc (take i from) v (drop (suc i) to))
    ∙ ap (λ (ys : List ℕ). ys ++ drop (suc i) to) (sym (take-suc from i 0 l))

-- the front of what was copied
pub copied-front : (from rest : List ℕ) (k n : ℕ) → k ≡ n → n ≤ length from → take n (take k from ++ rest) ≡ take n from
copied-front from rest k n e h = rw e (take_at (take n from) rest n (length-take-le n from h))
