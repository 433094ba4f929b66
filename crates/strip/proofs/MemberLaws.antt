-- Membership in the parts of a list: in one entry more, and in the entries before and from a place. Assumes nothing.
use Rattle.std.proofs.Common.{◌≡◌, ℕ, suc, ◌+◌, ◌<◌, Bool, true, false, ◌||◌, eqb, List, [], ◌∷◌, length, get_or, take, drop, sym, ap, ◌∙◌, take-append-drop, take-suc, take-add}
use Rattle.lists.specs.Lists.{mem}
use Rattle.lists.proofs.Laws.{mem-append, or-false, or_left, or_right}

pub mem-one-more : (s : ℕ) (xs : List ℕ) (i : ℕ) → i < length xs → mem s (take (suc i) xs) ≡ (mem s (take i xs) || eqb s (get_or xs i 0))
mem-one-more s xs i h = ap (mem s) (take-suc xs i 0 h) ∙ mem-append s (take i xs) (get_or xs i 0 ∷ []) ∙ ap (λ (b : Bool). mem s (take i xs) || b) (or-false (eqb s (get_or xs i 0)))

pub mem-parts : (s : ℕ) (xs : List ℕ) (i : ℕ) → mem s xs ≡ (mem s (take i xs) || mem s (drop i xs))
mem-parts s xs i = ap (mem s) (sym (take-append-drop i xs)) ∙ mem-append s (take i xs) (drop i xs)

pub mem-further : (s : ℕ) (xs : List ℕ) (i k : ℕ) → mem s (take (i + k) xs) ≡ (mem s (take i xs) || mem s (take k (drop i xs)))
mem-further s xs i k = ap (mem s) (take-add i k xs) ∙ mem-append s (take i xs) (take k (drop i xs))

-- what stands in a part stands in the whole
pub mem-block : (s : ℕ) (xs : List ℕ) (i k : ℕ) → mem s (take k (drop i xs)) ≡ true → mem s xs ≡ true
mem-block s xs i k m =
    mem-parts s xs i
    ∙ or_right (mem s (take i xs)) (mem s (drop i xs)) (mem-parts s (drop i xs) k ∙ or_left (mem s (take k (drop i xs))) (mem s (drop k (drop i xs))) m)

-- past entries that are not s
pub mem-rest : (s : ℕ) (xs : List ℕ) (i : ℕ) → mem s (take i xs) ≡ false → mem s xs ≡ mem s (drop i xs)
mem-rest s xs i e = mem-parts s xs i ∙ ap (λ (b : Bool). b || mem s (drop i xs)) e
