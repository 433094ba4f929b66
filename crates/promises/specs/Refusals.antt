-- Document 01, the refusal table: refusals by number and place, and which of several is given. Assumes nothing.
use Rattle.std.specs.Prelude.{Bool, true, false, List, [], ◌∷◌, ℕ, ltb, length}
use Rattle.lists.specs.Lists.{first_bad}

-- a refusal: its number and the place returned
pub record Refusal : Type 0 where
  pub number : ℕ
  pub place : ℕ

-- what an entry tells: what it was asked for, or a refusal
pub data Told (A : Type 0) : Type 0 where
  gave : A → Told A
  refused : Refusal → Told A

-- number n at place k
abbrev pub refusal : ℕ → ℕ → Refusal
refusal n k = record { number = n; place = k }

-- number n at place k, where it applies
abbrev pub when : Bool → ℕ → ℕ → List Refusal
when true n k = refusal n k ∷ []
when false n k = []

-- number n at the first entry that fails a test, where one does
abbrev pub failing : {A : Type 0} → ℕ → (A → Bool) → List A → List Refusal
failing n t xs = when (ltb (first_bad t xs) (length xs)) n (first_bad t xs)

-- of several, the lowest number is given: each entry lists those that apply by ascending number, and tells the first
abbrev pub tell : {A : Type 0} → List Refusal → A → Told A
tell [] a = Told.gave a
tell (x ∷ xs) a = Told.refused x

-- what is lent afterwards: as the entry leaves it, or as it was where there is a refusal
abbrev pub unless_refused : List Refusal → List ℕ → List ℕ → List ℕ
unless_refused [] after before = after
unless_refused (x ∷ xs) after before = before

-- whether something holds, once it is decided
abbrev pub holds : {A : Type 0} → Dec A → Bool
holds (yes a) = true
holds (no h) = false
