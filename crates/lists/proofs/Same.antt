-- Lists by places are the same where the values at the places are. Assumes nothing.
use mathlib.Core.Path.{◌≡◌, refl, ap, ap₂}
use mathlib.Core.List.{List, [], ◌∷◌, ◌++◌}
use Prim.Native.Nat.{ℕ, zero, suc, ◌<◌}
use native.Mathlib.Omega.{arith}
use Rattle.lists.specs.Lists.{each, up_to, down_from}

pub each_same : {A : Type 0} (f g : ℕ → List A) (n : ℕ) → ((i : ℕ) → i < n → g i ≡ f i) → each g n ≡ each f n
unfolding each
each_same f g zero h = refl
each_same f g (suc n) h = ap₂ ◌++◌ (each_same f g n (λ i l. h i (omega arith))) (h n (omega arith))

pub up_to-same : {A : Type 0} (f g : ℕ → A) (n : ℕ) → ((i : ℕ) → i < n → g i ≡ f i) → up_to g n ≡ up_to f n
up_to-same {A} f g n h = each_same (λ i. f i ∷ []) (λ i. g i ∷ []) n (λ i l. ap (λ (x : A). x ∷ []) (h i l))

pub down_from-same : {A : Type 0} (f g : ℕ → A) (n : ℕ) → ((i : ℕ) → i < n → g i ≡ f i) → down_from g n ≡ down_from f n
down_from-same f g zero h = refl
down_from-same f g (suc n) h = ap₂ ◌∷◌ (h n (omega arith)) (down_from-same f g n (λ i l. h i (omega arith)))
