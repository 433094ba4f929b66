-- A value put into an ascending list and taken out again, or the other way round, leaves the list. Assumes nothing.
use Prim.Native.Nat.{ℕ}
use mathlib.Core.Path.{◌≡◌, sym, ap, ◌∙◌, subst}
use mathlib.Core.Bool.{Bool, true, false, not, ◌&&◌, ◌||◌}
use mathlib.Core.List.{List}
use native.Mathlib.Decide.{ℕ_discrete}
use lib.Dec.{eqb}
use borrow.Author.Tests.{eq-eqb, ne_eqb}
use Rattle.lists.specs.Lists.{mem, put, without, Ascending}
use Rattle.lists.proofs.Laws.{mem-put, mem-without, ascending-put, ascending-keep, ascending-unique}

pub without-put : (s : ℕ) (xs : List ℕ) → Ascending xs → mem s xs ≡ false → without s (put s xs) ≡ xs
without-put s xs a ne =
    ascending-unique (without s (put s xs)) xs (ascending-keep (λ y. not (eqb s y)) (put s xs) (ascending-put s xs a)) a
    (λ t. mem-without s t (put s xs) ∙ ap (λ (q : Bool). not (eqb s t) && q) (mem-put t s xs) ∙ pick t (ℕ_discrete s t))
  where
    pick : (t : ℕ) → Dec (s ≡ t) → (not (eqb s t) && (eqb t s || mem t xs)) ≡ mem t xs
    pick t (yes e) = rw (eq-eqb s t e) (sym (subst (λ (z : ℕ). mem z xs ≡ false) e ne))
    pick t (no h) = rw (ne_eqb s t h, ne_eqb t s (λ e. h (sym e)))

pub put-without : (s : ℕ) (xs : List ℕ) → Ascending xs → mem s xs ≡ true → put s (without s xs) ≡ xs
put-without s xs a there =
    ascending-unique (put s (without s xs)) xs (ascending-put s (without s xs) (ascending-keep (λ y. not (eqb s y)) xs a)) a
    (λ t. mem-put t s (without s xs) ∙ ap (λ (q : Bool). eqb t s || q) (mem-without s t xs) ∙ pick t (ℕ_discrete s t))
  where
    pick : (t : ℕ) → Dec (s ≡ t) → (eqb t s || (not (eqb s t) && mem t xs)) ≡ mem t xs
    pick t (yes e) = rw (eq-eqb t s (sym e)) (sym (subst (λ (z : ℕ). mem z xs ≡ true) e there))
    pick t (no h) = rw (ne_eqb s t h, ne_eqb t s (λ e. h (sym e)))
