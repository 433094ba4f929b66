-- Entries that ascend are below a bound exactly when the last one is. Assumes nothing.
use Prim.Native.Nat.{ℕ, suc, ◌-◌, ◌<◌}
use mathlib.Core.Path.{◌≡◌, refl, sym, ap, ◌∙◌}
use mathlib.Core.Logic.{◌≢◌}
use mathlib.Core.Bool.{Bool, true, false, ◌&&◌}
use mathlib.Core.List.{List, [], ◌∷◌}
use native.Mathlib.Omega.{arith}
use lib.Dec.{ltb}
use lib.ListN.{length, get_or}
use borrow.Author.Tests.{ltb-true, lt-ltb}
use Rattle.std.specs.Prelude.{Some, slice_get}
use Rattle.std.proofs.lemmas.Option.{get_or_from_slice_get}
use Rattle.lists.specs.Lists.{all, Ascending}
use Rattle.lists.proofs.Laws.{and_both}

and-true : (a : Bool) → a && true ≡ a
and-true true = refl
and-true false = refl

-- a test that follows from another adds nothing to it
and-follows : (a b : Bool) → (b ≡ true → a ≡ true) → a && b ≡ b
and-follows a true h = and-true a ∙ h refl
and-follows true false h = refl
and-follows false false h = refl

last-tells : (xs : List ℕ) (b : ℕ) → Ascending xs → length xs ≢ 0 → ltb (get_or xs (length xs - 1) 0) b ≡ all (λ x. ltb x b) xs
last-tells [] b up some = absurd (some refl)
last-tells (x ∷ []) b up some = sym (and-true (ltb x b))
last-tells (x ∷ y ∷ ys) b up some =
    let e : length (x ∷ y ∷ ys) - 1 ≡ suc (length (y ∷ ys) - 1) = omega arith in
    let rest : ltb (get_or (y ∷ ys) (length (y ∷ ys) - 1) 0) b ≡ all (λ z. ltb z b) (y ∷ ys) = last-tells (y ∷ ys) b up.1 (λ z. absurd (omega (arith, z))) in
    let low : all (λ z. ltb z b) (y ∷ ys) ≡ true → ltb x b ≡ true = λ t. let u : y < b = ltb-true y b (and_both (ltb y b) (all (λ z. ltb z b) ys) t).0 in lt-ltb x b (omega (arith, up.0.0)) in
    ap (λ (i : ℕ). ltb (get_or (x ∷ y ∷ ys) i 0) b) e ∙ rest ∙ sym (and-follows (ltb x b) (all (λ z. ltb z b) (y ∷ ys)) low)

pub last_one : (xs : List ℕ) (b x : ℕ) → Ascending xs → slice_get xs (length xs - 1) ≡ Some x → ltb x b ≡ all (λ y. ltb y b) xs
last_one [] b x up e = cc
last_one (y ∷ ys) b x up e = ap (λ (z : ℕ). ltb z b) (sym (get_or_from_slice_get (y ∷ ys) (length (y ∷ ys) - 1) x 0 e)) ∙ last-tells (y ∷ ys) b up (λ z. absurd (omega (arith, z)))
