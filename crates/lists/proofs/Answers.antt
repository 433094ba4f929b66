-- The two sides of a test's contract: the answer no, the answer yes, and the answer of another test that asks the same. Assumes nothing.
use mathlib.Core.Path.{◌≡◌, sym, subst}
use mathlib.Core.Bool.{Bool, true, false}
use lib.Dec.{T}

-- r is true exactly if A holds
abbrev pub Tells : Bool → Type 0 → Type 0
Tells r A = (r ≡ true → A) × (r ≡ false → A → ⊥)

pub refused : {A : Type 0} → (A → ⊥) → Tells false A
refused h = (λ e. absurd (subst T (sym e) tt), λ _. h)

pub granted : {A : Type 0} → A → Tells true A
granted a = (λ _. a, λ e _. subst T e tt)

pub told : {A B : Type 0} (r : Bool) → Tells r A → (A → B) → (B → A) → Tells r B
told r t f g = (λ e. f (t.0 e), λ e x. t.1 e (g x))
