-- The walk has no word twice, and a walker gives the same sequence. Assumes nothing.
use mathlib.Core.Path.{◌≡◌, refl, sym, ap, ap₂, ◌∙◌}
use mathlib.Core.List.{List, [], ◌∷◌, ◌++◌}
use Prim.Native.Nat.{ℕ, suc, ◌+◌}
use lib.ListN.{length, take, drop}
use lib.Seq.{drop-drop, take-nil}
use Rattle.model.specs.Reading.{Reading, walk}
use Rattle.promises.specs.Walk.{walk_from, Steps}
use Rattle.promises.specs.Walk.Steps.{none, next}

-- one word, then n from behind it
one_then : (n : ℕ) (l : List ℕ) → take 1 l ++ take n (drop (length (take 1 l)) l) ≡ take (suc n) l
one_then n [] = take-nil n ∙ sym (take-nil (suc n))
one_then n (x ∷ l) = refl

-- n steps hand out what a walk writes into n places
pub walker-sequence : {r : Reading} {n place : ℕ} {ws : List ℕ} {end : ℕ} → Steps r n place ws end → ws ≡ walk_from r place n
walker-sequence {r} (none place) = refl
walker-sequence {r} (next {n} {place} {place'} {end} {ws} {later} s rest) =
    ap₂ (λ xs ys. xs ++ ys) s.hands_out
    (walker-sequence rest ∙ ap (λ (k : ℕ). take n (drop k (walk r))) (s.moves ∙ ap (λ (xs : List ℕ). place + length xs) s.hands_out) ∙ ap (take n) (sym (drop-drop (length (take 1 (drop place (walk r)))) place (walk r))))
    ∙ one_then n (drop place (walk r))
