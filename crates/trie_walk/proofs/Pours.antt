-- Pouring a list goes value by value, so that two lists behind each other are poured one after the other; from the first place on a window is written. Assumes nothing.
use mathlib.Core.Path.{◌≡◌, refl, sym, ap, ap₂, ◌∙◌}
use mathlib.Core.List.{List, [], ◌∷◌, ◌++◌}
use Prim.Native.Nat.{ℕ, zero, suc, ◌+◌, ◌-◌, ◌≤◌, ◌<◌}
use native.Mathlib.Omega.{arith}
use native.Mathlib.Nat.{add-zero}
use native.Mathlib.Numerals.{unary_clauses}
use native.Mathlib.Decide.{dec_le}
use lib.ListN.{length, take, drop, set, length-append, drop_of_length-le}
use lib.Seq.{append_snoc, set-append_seam, take-nil}
use borrow.Author.Tests.{lt-ltb, le-ltb}
use Rattle.trie_walk.specs.Pour.{Pour, state, window, poured}

pub poured-append : (xs ys : List ℕ) (p : Pour) → poured (xs ++ ys) p ≡ poured ys (poured xs p)
unfolding poured
poured-append [] ys p = refl
poured-append (x ∷ xs) ys p = poured-append xs ys _

pub poured-none : (p : Pour) → poured [] p ≡ p
unfolding poured
poured-none p = refl

-- a value that has a place
pub poured-put : (x : ℕ) (xs : List ℕ) (i : ℕ) (o : List ℕ) → i < length o → poured (x ∷ xs) (state 0 i o) ≡ poured xs (state 0 (suc i) (set o i x))
unfolding poured
poured-put x xs i o h = rw (lt-ltb i (length o) h)

-- where nothing is left to pass over and the output is full, nothing is done
pub poured-full : (xs : List ℕ) (i : ℕ) (o : List ℕ) → length o ≤ i → poured xs (state 0 i o) ≡ state 0 i o
unfolding poured
poured-full [] i o h = refl
poured-full (x ∷ xs) i o h = rw (le-ltb i (length o) h) (poured-full xs i o h)

-- what is passed over is dropped
pub poured-past : (xs : List ℕ) (s i : ℕ) (o : List ℕ) → poured xs (state s i o) ≡ poured (drop s xs) (state (s - length xs) i o)
unfolding poured
poured-past [] zero i o = refl
poured-past [] (suc s) i o = simp unary_clauses
poured-past (x ∷ xs) zero i o = let e : 0 - length (x ∷ xs) ≡ 0 = omega arith in ap (λ (k : ℕ). poured (x ∷ xs) (state k i o)) (sym e)
poured-past (x ∷ xs) (suc s) i o =
    let e : suc s - length (x ∷ xs) ≡ s - length xs = omega arith in
    poured-past xs s i o ∙ ap (λ (k : ℕ). poured (drop s xs) (state k i o)) (sym e)

-- all are passed over
pub poured-over : (xs : List ℕ) (s i : ℕ) (o : List ℕ) → length xs ≤ s → poured xs (state s i o) ≡ state (s - length xs) i o
poured-over xs s i o h = poured-past xs s i o ∙ rw (drop_of_length-le xs h) (poured-none _)

-- what is written behind p where the room r is left
writes : (xs p r : List ℕ) → poured xs (state 0 (length p) (p ++ r)) ≡ state 0 (length p + length (take (length r) xs)) (p ++ (take (length r) xs ++ drop (length (take (length r) xs)) r))
writes [] p r = rw (take-nil (length r), add-zero (length p)) (poured-none (state 0 (length p) (p ++ r)))
writes (x ∷ xs) p [] = rw (add-zero (length p)) (poured-full (x ∷ xs) (length p) (p ++ []) (omega (arith, length-append p [])))
writes (x ∷ xs) p (y ∷ r) =
    let l : length p < length (p ++ y ∷ r) = omega (arith, length-append p (y ∷ r)) in
    let n : suc (length p) ≡ length (p ++ (x ∷ [])) = omega (arith, length-append p (x ∷ [])) in
    let m : length (p ++ (x ∷ [])) + length (take (length r) xs) ≡ length p + suc (length (take (length r) xs)) = omega arith in
    poured-put x xs (length p) (p ++ y ∷ r) l
    ∙ ap₂ (λ (i : ℕ) (o : List ℕ). poured xs (state 0 i o)) n (set-append_seam p y r x ∙ sym (append_snoc p x r))
    ∙ writes xs (p ++ (x ∷ [])) r
    ∙ ap₂ (state 0) m (append_snoc p x (take (length r) xs ++ drop (length (take (length r) xs)) r))

-- from the first place on a window is written
pub poured-window : (xs : List ℕ) (s : ℕ) (o : List ℕ) → poured xs (state s 0 o) ≡ state (s - length xs) (length (window s (length o) xs)) (window s (length o) xs ++ drop (length (window s (length o) xs)) o)
poured-window xs s o = go (dec_le s (length xs))
  where
    go : Dec (s ≤ length xs) → poured xs (state s 0 o) ≡ state (s - length xs) (length (window s (length o) xs)) (window s (length o) xs ++ drop (length (window s (length o) xs)) o)
    go (yes h) = let z : s - length xs ≡ 0 = omega arith in poured-past xs s 0 o ∙ rw z (writes (drop s xs) [] o ∙ ap (λ (i : ℕ). state 0 i (window s (length o) xs ++ drop (length (window s (length o) xs)) o)) (omega arith))
    go (no h) = let l : length xs ≤ s = omega arith in poured-past xs s 0 o ∙ rw (drop_of_length-le xs l, take-nil (length o)) (poured-none _)
