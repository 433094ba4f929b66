-- A test of all entries told by places, and bits joined. Assumes nothing.
use Rattle.std.proofs.Common.{◌≡◌, ℕ, zero, suc, ◌+◌, ◌<◌, ◌≤◌, Bool, true, false, List, [], ◌∷◌, length, get_or, refl, sym, arith, ltb, ltb-true, lt-ltb, MatchBool}
use Rattle.std.specs.List.{AllWithin, HoldsAt}
use lib.Bits.{bit_or, bit_and, or_add_and, and_le_l, and_le_r}
use Rattle.lists.specs.Lists.{all}
use Rattle.lists.proofs.Laws.{and_both, both-and, not-true-false}

pub places-all : (t : ℕ → Bool) (xs : List ℕ) → ((i : ℕ) → i < length xs → t (get_or xs i 0) ≡ true) → all t xs ≡ true
places-all t [] h = refl
places-all t (x ∷ xs) h = both-and (t x) (all t xs) (h 0 (omega arith)) (places-all t xs (λ i l. h (suc i) (omega arith)))

pub all-places : (t : ℕ → Bool) (xs : List ℕ) → all t xs ≡ true → (i : ℕ) → i < length xs → t (get_or xs i 0) ≡ true
all-places t [] e i l = absurd (omega arith)
all-places t (x ∷ xs) e zero l = (and_both (t x) (all t xs) e).0
all-places t (x ∷ xs) e (suc i) l = all-places t xs (and_both (t x) (all t xs) e).1 i (omega arith)

-- where it was told whether each entry is below the bound
pub all-told : (xs : List ℕ) (b : ℕ) (r : Bool) → MatchBool r (AllWithin (λ x. x < b) xs 0 (length xs)) ((k : ℕ) × (k < length xs) × HoldsAt (λ x. b ≤ x) xs k) → r ≡ all (λ x. ltb x b) xs
all-told xs b true h = sym (places-all (λ x. ltb x b) xs (λ i l. lt-ltb (get_or xs i 0) b (h i 0 (omega arith) l)))
all-told xs b false h = sym (not-true-false (all (λ x. ltb x b) xs) (λ e.
    let l : get_or xs h.0 0 < b = ltb-true (get_or xs h.0 0) b (all-places (λ x. ltb x b) xs e h.0 h.1) in
    let g : b ≤ get_or xs h.0 0 = h.2 0 in omega arith))

pub or_above : (a b : ℕ) → (a ≤ bit_or a b) × (b ≤ bit_or a b)
or_above a b = let s : bit_or a b + bit_and a b ≡ a + b = or_add_and a b in (omega (arith, and_le_r a b), omega (arith, and_le_l a b))
