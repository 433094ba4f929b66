-- Laws of the refusal table's parts: decisions agree, and the first refusal is the one told. Assumes nothing.
use mathlib.Core.Path.{◌≡◌, refl, ap}
use mathlib.Core.Logic.{◌≢◌}
use mathlib.Core.Bool.{Bool, true, false, true≢false, false≢true}
use mathlib.Core.List.{List, [], ◌∷◌, ◌++◌, cons≢nil}
use Prim.Native.Nat.{ℕ}
use Rattle.promises.specs.Refusals.{Refusal, Told, when, tell, holds}
use Rattle.promises.specs.Refusals.Told.{gave, refused}

-- two decisions of one question agree
pub holds_same : {A : Type 0} (d e : Dec A) → holds d ≡ holds e
holds_same (yes a) (yes b) = refl
holds_same (yes a) (no h) = absurd (h a)
holds_same (no h) (yes b) = absurd (h b)
holds_same (no h) (no k) = refl

pub holds-yes : {A : Type 0} (d : Dec A) → A → holds d ≡ true
holds-yes (yes a) b = refl
holds-yes (no h) b = absurd (h b)

pub holds-true : {A : Type 0} (d : Dec A) → holds d ≡ true → A
holds-true (yes a) e = a
holds-true (no h) e = absurd (false≢true e)

pub holds-false : {A : Type 0} (d : Dec A) → holds d ≡ false → A → ⊥
holds-false (yes a) e b = true≢false e
holds-false (no h) e b = h b

-- refusals apply, or none does
pub data Some? (rs : List Refusal) : Type 0 where
  none : rs ≡ [] → Some? rs
  some : rs ≢ [] → Some? rs

pub some? : (rs : List Refusal) → Some? rs
some? [] = none refl
some? (x ∷ xs) = some (λ e. cons≢nil e)

-- what was done was not refused
pub gave-none : {A : Type 0} (rs : List Refusal) (a b : A) → tell rs a ≡ gave b → rs ≡ []
gave-none [] a b e = refl
gave-none (x ∷ xs) a b e = absurd (true≢false (ap is-refused e))
  where
    is-refused : {A : Type 0} → Told A → Bool
    is-refused (gave a) = false
    is-refused (refused r) = true

pub append-nil : (xs ys : List Refusal) → xs ++ ys ≡ [] → (xs ≡ []) × (ys ≡ [])
append-nil [] ys e = (refl, e)
append-nil (x ∷ xs) ys e = absurd (cons≢nil e)

pub when-nil : (b : Bool) (n k : ℕ) → when b n k ≡ [] → b ≡ false
when-nil true n k e = absurd (cons≢nil e)
when-nil false n k e = refl

-- only what gives the same number can be told as it
pub refused-same : {A : Type 0} {r s : Refusal} → ◌≡◌ {A = Told A} (refused r) (refused s) → r ≡ s
refused-same {A} {r} {s} e = ap of e
  where
    of : Told A → Refusal
    of (gave a) = r
    of (refused t) = t

-- what is given is not refused
pub gave-refused : {A : Type 0} {a : A} {r : Refusal} → ◌≡◌ {A = Told A} (refused r) (gave a) → ⊥
gave-refused {A} {a} {r} e = true≢false (ap is-refused e)
  where
    is-refused : Told A → Bool
    is-refused (gave b) = false
    is-refused (refused s) = true
