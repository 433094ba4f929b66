-- A walk of one word: it is there where the place is below the member count. Assumes nothing.
use Prim.Native.Nat.{ℕ, ◌-◌, ◌≤◌, min}
use mathlib.Core.Path.{◌≡◌, refl, sym, ap, ◌∙◌}
use mathlib.Core.Logic.{◌≢◌}
use mathlib.Core.List.{List, [], ◌∷◌, ◌++◌}
use native.Mathlib.Omega.{arith}
use lib.ListN.{length, drop, get_or, length-take, length-drop}
use Rattle.model.specs.Reading.{walk, count}
use Rattle.region.specs.Areas.{numbers}
use Rattle.region.specs.Read.{reading}
use Rattle.region.specs.WellFormed.{WellFormed}
use Rattle.region.proofs.Facts.{word-7}
use Rattle.promises.specs.Walk.{walk_from, written_over}

none-there : (xs : List ℕ) → length xs ≡ 0 → [] ≡ xs
none-there [] e = refl
none-there (x ∷ xs) e = absurd (omega arith)

one-there : (xs ys : List ℕ) → length xs ≤ 1 → length xs ≢ 0 → get_or (xs ++ ys) 0 0 ∷ [] ≡ xs
one-there [] ys h ne = absurd (ne refl)
one-there (x ∷ xs) ys h ne = let e : length xs ≡ 0 = omega arith in ap (λ (z : List ℕ). x ∷ z) (none-there xs e)

module _ (l : List ℕ) (place : ℕ) where
  abbrev here : List ℕ
  here = walk_from (reading l) place 1

  -- what is written over one word is handed out
  pub no_word : (n : ℕ) → n ≡ length here → n ≡ 0 → [] ≡ here
  no_word n e z = none-there here (sym e ∙ z)

  pub a_word : (n : ℕ) (o out : List ℕ) → n ≡ length here → n ≢ 0 → out ≡ written_over here o → get_or out 0 0 ∷ [] ≡ here
  a_word n o out e ne eo =
      ap (λ (z : List ℕ). get_or z 0 0 ∷ []) eo
      ∙ one-there here (drop (length here) o) (omega (arith, length-take 1 (drop place (walk (reading l))))) (λ z. ne (e ∙ z))

  -- and how many there are
  pub one-or-none : WellFormed l → length here ≡ min 1 ((numbers l).count - place)
  unfolding count
  one-or-none wf =
      let c : length (walk (reading l)) ≡ (numbers l).count = word-7 l wf in
      length-take 1 (drop place (walk (reading l))) ∙ ap (min 1) (length-drop place (walk (reading l)) ∙ ap (λ (z : ℕ). z - place) c)
