-- A sequence with one more: h is f with x put in at place i. The list of h's values is that of f's with x between the first i and the others. Assumes nothing.
use Prim.Native.Nat.{ℕ, zero, suc, ◌+◌, ◌-◌, ◌<◌, ◌≤◌}
use mathlib.Core.Path.{◌≡◌, sym, ap, ap₂, ◌∙◌}
use mathlib.Core.List.{List, [], ◌∷◌, ◌++◌, append_assoc, append-nil}
use native.Mathlib.Omega.{arith}
use Rattle.lists.specs.Lists.{each, up_to}
use Rattle.lists.proofs.Same.{up_to-same}

-- h 0, .., h k is f 0, .., f (k - 1) with x put in at place i
pub record OneMore {A : Type 0} (f h : ℕ → A) (x : A) (i k : ℕ) : Type 0 where
  pub fits : i ≤ k
  pub below : (r : ℕ) → r < i → h r ≡ f r
  pub here : h i ≡ x
  pub above : (r : ℕ) → i ≤ r → r < k → h (suc r) ≡ f r

-- what is made of the values has one more too
pub map_more : {A B : Type 0} (a b : A → B) (f h : ℕ → A) (x : A) (i k : ℕ) → OneMore f h x i k → ((r : ℕ) → r < k → b (f r) ≡ a (f r)) → OneMore (λ r. a (f r)) (λ r. b (h r)) (b x) i k
map_more a b f h x i k m e = record {
  fits = m.fits;
  below = λ r l. ap b (m.below r l) ∙ e r (omega (arith, m.fits));
  here = ap b m.here;
  above = λ r l u. ap b (m.above r l u) ∙ e r u;
}

-- the values from place i on, below place k
abbrev pub back : {A : Type 0} → (ℕ → A) → ℕ → ℕ → List A
back f i k = up_to (λ r. f (i + r)) (k - i)

up_to-add : {A : Type 0} (f : ℕ → A) (i m : ℕ) → up_to f (i + m) ≡ up_to f i ++ up_to (λ r. f (i + r)) m
unfolding each
up_to-add {A} f i zero = let e : i + 0 ≡ i = omega arith in ap (up_to f) e ∙ sym (append-nil (up_to f i))
up_to-add {A} f i (suc m) =
    let e : i + suc m ≡ suc (i + m) = omega arith in
    ap (up_to f) e ∙ ap (λ (l : List A). l ++ (f (i + m) ∷ [])) (up_to-add f i m) ∙ append_assoc (up_to f i) (up_to (λ r. f (i + r)) m) (f (i + m) ∷ [])

-- without x
pub without-one : {A : Type 0} (f : ℕ → A) (i k : ℕ) → i ≤ k → up_to f k ≡ up_to f i ++ back f i k
without-one f i k h = let e : k ≡ i + (k - i) = omega arith in ap (up_to f) e ∙ up_to-add f i (k - i)

-- with x
pub with-one : {A : Type 0} (f h : ℕ → A) (x : A) (i k : ℕ) → OneMore f h x i k → up_to h (suc k) ≡ up_to f i ++ (x ∷ back f i k)
unfolding each
with-one {A} f h x i k m =
    without-one h (suc i) (suc k) (omega (arith, m.fits))
    ∙ ap₂ (λ (xs ys : List A). xs ++ ys) (ap₂ (λ (xs : List A) (y : A). xs ++ (y ∷ [])) (up_to-same f h i m.below) m.here) behind
    ∙ append_assoc (up_to f i) (x ∷ []) (back f i k)
  where
    behind : back h (suc i) (suc k) ≡ back f i k
    behind =
        let n : suc k - suc i ≡ k - i = omega arith in
        ap (up_to (λ r. h (suc i + r))) n
        ∙ up_to-same (λ r. f (i + r)) (λ r. h (suc i + r)) (k - i) (λ r l. let e : suc i + r ≡ suc (i + r) = omega arith in ap h e ∙ m.above (i + r) (omega arith) (omega arith))
