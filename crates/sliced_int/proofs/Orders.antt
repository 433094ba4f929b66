-- The answers of a comparison: what gives each and what each says, and what comparing byte by byte finds. Assumes nothing.
use mathlib.Core.Path.{◌≡◌, refl, sym, ap, ap₂, ◌∙◌, subst}
use mathlib.Core.List.{List, [], ◌∷◌}
use Prim.Native.Nat.{ℕ, zero, suc, ◌*◌, ◌^◌, ◌<◌, ◌≤◌}
use native.Mathlib.Decide.{dec_lt}
use native.Mathlib.Omega.{arith}
use lib.ListN.{get_or, length}
use borrow.Author.Tests.{lt-ltb, le-ltb}
use Rattle.sliced_int.specs.Sliced.{number_in, value_of, Sliced}
use Rattle.sliced_int.specs.Ordered.{order_of}
use Rattle.std.specs.declared.cmp.Ordering.{Ordering}
use Rattle.std.specs.declared.cmp.Ordering.TheVariants.{Less, Equal, Greater}
use Rattle.std.specs.Cmp.Lexicographic.{slice_cmp}
use Rattle.std.specs.Ordering.{MatchOrdering, nat_cmp, ordering_then}
use Rattle.std.proofs.lemmas.Cmp.{ranked}
use Rattle.sliced_int.specs.declared.SlicedInt.{SlicedInt}
use Rattle.sliced_int.proofs.Laws.{same_number}
use Rattle.sliced_int.proofs.Bytewise.{FirstLess, first-less}

-- what gives each answer

pub is-less : (x y : ℕ) → x < y → Less ≡ order_of x y
is-less x y l = rw (lt-ltb x y l)

pub is_greater : (x y : ℕ) → y < x → Greater ≡ order_of x y
is_greater x y l =
    let w : y ≤ x = omega arith in
    rw (le-ltb x y w, lt-ltb y x l)

pub is-equal : (x y : ℕ) → x ≡ y → Equal ≡ order_of x y
is-equal x y e =
    let v : x ≤ y = omega arith in
    let w : y ≤ x = omega arith in
    rw (le-ltb x y w, le-ltb y x v)

-- and what each answer says
abbrev pub Means : ℕ → ℕ → Ordering → Type 0
Means x y Less = x < y
Means x y Equal = x ≡ y
Means x y Greater = y < x

pub means : (x y : ℕ) (o : Ordering) → order_of x y ≡ o → Means x y o
means x y o e = go (dec_lt x y) (dec_lt y x)
  where
    go : Dec (x < y) → Dec (y < x) → Means x y o
    go (yes l) q = subst (Means x y) (is-less x y l ∙ e) l
    go (no l) (yes g) = subst (Means x y) (is_greater x y g ∙ e) g
    go (no l) (no g) = let q : x ≡ y = omega arith in subst (Means x y) (is-equal x y q ∙ e) q

-- the library's comparison of two numbers
pub ordered : (x y : ℕ) → nat_cmp x y ≡ order_of x y
ordered x y = go (nat_cmp x y) (ranked x y (nat_cmp x y) refl)
  where
    go : (o : Ordering) → MatchOrdering o (x < y) (x ≡ y) (y < x) → o ≡ order_of x y
    go Less h = is-less x y h
    go Equal h = is-equal x y h
    go Greater h = is_greater x y h

-- two suffixes of b bytes, sliced, compare as they do themselves
pub sliced-order : (b s t : ℕ) (x y : SlicedInt) → Sliced b s x → Sliced b t y → s < 2 ^ (8 * b) → t < 2 ^ (8 * b) → order_of (value_of x) (value_of y) ≡ order_of s t
sliced-order b s t x y p q hs ht = rw (p.whole hs, q.whole ht)

module _ (x y : ℕ) (xs ys : List ℕ) (n : ℕ) where
  -- two lists that begin alike first differ where their rests do
  after-alike : x ≡ y → FirstLess (λ j. get_or xs j 0) (λ j. get_or ys j 0) n → FirstLess (λ j. get_or (x ∷ xs) j 0) (λ j. get_or (y ∷ ys) j 0) (suc n)
  after-alike e d = record { at = suc d.at; there = omega (arith, d.there); same = same; less = d.less }
    where
      same : (i : ℕ) → i < suc d.at → get_or (x ∷ xs) i 0 ≡ get_or (y ∷ ys) i 0
      same zero h = e
      same (suc i) h = d.same i (omega arith)

  at-once : x < y → FirstLess (λ j. get_or (x ∷ xs) j 0) (λ j. get_or (y ∷ ys) j 0) (suc n)
  at-once l = record { at = 0; there = omega arith; same = λ i (h : i < 0). absurd (omega arith); less = l }

-- what an answer says of two lists of n numbers
abbrev Found : List ℕ → List ℕ → ℕ → Ordering → Type 0
Found xs ys n o = MatchOrdering o (FirstLess (λ j. get_or xs j 0) (λ j. get_or ys j 0) n) (xs ≡ ys) (FirstLess (λ j. get_or ys j 0) (λ j. get_or xs j 0) n)

-- the library's comparison finds where they first differ
found : (xs ys : List ℕ) → length ys ≡ length xs → Found xs ys (length xs) (slice_cmp nat_cmp xs ys)
found [] [] q = refl
found [] (y ∷ ys) q = absurd (omega arith)
found (x ∷ xs) [] q = absurd (omega arith)
found (x ∷ xs) (y ∷ ys) q = go (found xs ys (omega arith)) (nat_cmp x y) (ranked x y (nat_cmp x y) refl)
  where
    rest : (o : Ordering) → x ≡ y → Found xs ys (length xs) o → Found (x ∷ xs) (y ∷ ys) (suc (length xs)) o
    rest Less e d = after-alike x y xs ys (length xs) e d
    rest Equal e d = ap₂ ◌∷◌ e d
    rest Greater e d = after-alike y x ys xs (length xs) (sym e) d

    go : Found xs ys (length xs) (slice_cmp nat_cmp xs ys) → (o : Ordering) → MatchOrdering o (x < y) (x ≡ y) (y < x) → Found (x ∷ xs) (y ∷ ys) (suc (length xs)) (ordering_then o (slice_cmp nat_cmp xs ys))
    go d Less l = at-once x y xs ys (length xs) l
    go d Equal e = rest (slice_cmp nat_cmp xs ys) e d
    go d Greater l = at-once y x ys xs (length xs) l

-- so it orders lists of bytes as the numbers that they make
pub compared : (xs ys : List ℕ) (o : Ordering) → o ≡ slice_cmp nat_cmp xs ys → length ys ≡ length xs
    → ((i : ℕ) → get_or xs i 0 < 256) → ((i : ℕ) → get_or ys i 0 < 256) → o ≡ order_of (number_in xs (length xs)) (number_in ys (length ys))
compared xs ys o e q small less = rw q (go o (subst (Found xs ys (length xs)) (sym e) (found xs ys q)))
  where
    go : (o : Ordering) → Found xs ys (length xs) o → o ≡ order_of (number_in xs (length xs)) (number_in ys (length xs))
    go Less d = is-less _ _ (first-less (λ j. get_or xs j 0) (λ j. get_or ys j 0) (length xs) d.at small d.there (same_number _ _ d.at d.same) d.less)
    go Equal d = is-equal _ _ (ap (λ (l : List ℕ). number_in l (length xs)) d)
    go Greater d = is_greater _ _ (first-less (λ j. get_or ys j 0) (λ j. get_or xs j 0) (length xs) d.at less d.there (same_number _ _ d.at d.same) d.less)
