-- Lists of whole numbers read as sets: membership, different values, ascending order. Nothing here is document 01's own. Assumes nothing.
use Rattle.std.specs.Prelude.{◌≡◌, Bool, true, false, cond, not, ◌&&◌, ◌||◌, List, [], ◌∷◌, ◌++◌, ℕ, zero, suc, ◌<◌, eqb, ltb, leb, length}

-- 1 for yes, 0 for no
abbrev pub one : Bool → ℕ
one true = 1
one false = 0

-- lo ≤ x ≤ hi
abbrev pub between : ℕ → ℕ → ℕ → Bool
between lo hi x = leb lo x && leb x hi

-- whether x stands in the list
abbrev pub mem : ℕ → List ℕ → Bool
mem x [] = false
mem x (y ∷ ys) = eqb x y || mem x ys

-- whether every entry passes a test
abbrev pub all : {A : Type 0} → (A → Bool) → List A → Bool
all t [] = true
all t (x ∷ xs) = t x && all t xs

-- the entries that pass a test, in order
abbrev pub keep : {A : Type 0} → (A → Bool) → List A → List A
keep t [] = []
keep t (x ∷ xs) = cond (t x) (x ∷ keep t xs) (keep t xs)

-- the list without x, in order
abbrev pub without : ℕ → List ℕ → List ℕ
without x ys = keep (λ y. not (eqb x y)) ys

-- the place of the first entry that fails a test; the length if none does
abbrev pub first_bad : {A : Type 0} → (A → Bool) → List A → ℕ
first_bad t [] = 0
first_bad t (x ∷ xs) = cond (t x) (suc (first_bad t xs)) 0

-- x put into an ascending list at its place; once, if it is there already
abbrev pub put : ℕ → List ℕ → List ℕ
put x [] = x ∷ []
put x (y ∷ ys) = cond (ltb x y) (x ∷ y ∷ ys) (cond (eqb x y) (y ∷ ys) (y ∷ put x ys))

-- the different values of a list, ascending
abbrev pub sorted : List ℕ → List ℕ
sorted [] = []
sorted (x ∷ xs) = put x (sorted xs)

-- how many different values a list has
abbrev pub different : List ℕ → ℕ
different xs = length (sorted xs)

-- k, k + 1, .., k + n - 1
abbrev pub up_from : ℕ → ℕ → List ℕ
up_from k zero = []
up_from k (suc n) = k ∷ up_from (suc k) n

-- the lists f 0, f 1, .., f (n - 1), one after the other
unfoldable pub each : {A : Type 0} → (ℕ → List A) → ℕ → List A
each f zero = []
each f (suc n) = each f n ++ f n

-- the values f 0, f 1, .., f (n - 1)
abbrev pub up_to : {A : Type 0} → (ℕ → A) → ℕ → List A
up_to f n = each (λ i. f i ∷ []) n

-- the lists f (n - 1), .., f 1, f 0, one after the other
abbrev pub blocks : {A : Type 0} → (ℕ → List A) → ℕ → List A
blocks f zero = []
blocks f (suc n) = f n ++ blocks f n

-- the values f (n - 1), .., f 1, f 0
abbrev pub down_from : {A : Type 0} → (ℕ → A) → ℕ → List A
down_from f n = blocks (λ i. f i ∷ []) n

-- every entry is above x
abbrev pub Over : ℕ → List ℕ → Type 0
Over x [] = Unit {0}
Over x (y ∷ ys) = (x < y) × Over x ys

-- strictly ascending
abbrev pub Ascending : List ℕ → Type 0
Ascending [] = Unit {0}
Ascending (x ∷ xs) = Over x xs × Ascending xs

-- no value twice
abbrev pub Distinct : List ℕ → Type 0
Distinct [] = Unit {0}
Distinct (x ∷ xs) = (mem x xs ≡ false) × Distinct xs

-- every entry of xs stands in ys
abbrev pub Within : List ℕ → List ℕ → Type 0
Within xs ys = (x : ℕ) → mem x xs ≡ true → mem x ys ≡ true

-- the same entries, whatever their order and number
abbrev pub SameMembers : List ℕ → List ℕ → Type 0
SameMembers xs ys = (x : ℕ) → mem x xs ≡ mem x ys

-- something holds of each entry
abbrev pub Every : {A : Type 0} → (A → Type 0) → List A → Type 0
Every G [] = Unit {0}
Every G (x ∷ xs) = G x × Every G xs
