-- The first n entries of a list of bytes: still bytes, and the number that they make. Assumes nothing.
use mathlib.Core.Path.{◌≡◌, ap, ◌∙◌}
use mathlib.Core.List.{List, [], ◌∷◌}
use Prim.Native.Nat.{ℕ, zero, suc, ◌<◌, ◌≤◌}
use native.Mathlib.Omega.{arith}
use lib.ListN.{get_or, length, take}
use Rattle.std.proofs.lemmas.List.{get_or-take, length-take-le}
use Rattle.sliced_int.specs.Sliced.{number_in}
use Rattle.sliced_int.proofs.Laws.{same_number}

no-more : (n : ℕ) (xs : List ℕ) (i : ℕ) → get_or (take n xs) i 0 ≤ get_or xs i 0
no-more zero xs i = omega arith
no-more (suc n) [] i = omega arith
no-more (suc n) (x ∷ xs) zero = omega arith
no-more (suc n) (x ∷ xs) (suc i) = no-more n xs i

pub taken-small : (n : ℕ) (xs : List ℕ) → ((i : ℕ) → get_or xs i 0 < 256) → (i : ℕ) → get_or (take n xs) i 0 < 256
taken-small n xs small i = omega (arith, no-more n xs i, small i)

pub long-taken : (n : ℕ) (xs : List ℕ) → n ≤ length xs → length (take n xs) ≡ n
long-taken n xs l = length-take-le n xs l

pub number-taken : (n : ℕ) (xs : List ℕ) → n ≤ length xs → number_in (take n xs) (length (take n xs)) ≡ number_in xs n
number-taken n xs l = ap (number_in (take n xs)) (long-taken n xs l) ∙ same_number _ _ n (λ j h. get_or-take n xs j 0 h)
