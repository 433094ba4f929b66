-- A container among others by ascending prefix: placing a new one puts it in between, dropping one takes it out, and the walk is longer by its suffixes. Assumes nothing.
use Prim.Native.Nat.{ℕ, ◌+◌, ◌<◌}
use mathlib.Core.Path.{◌≡◌, refl, sym, ap, ◌∙◌}
use mathlib.Core.List.{List, [], ◌∷◌, ◌++◌}
use native.Mathlib.Omega.{arith}
use lib.ListN.{length, length-append, length-map}
use borrow.Author.Tests.{lt-ltb, le-ltb, eq-eqb, ne_eqb}
use Rattle.lists.specs.Lists.{Every}
use Rattle.model.specs.Words.{joined}
use Rattle.model.specs.Reading.{Container, container_words, words_of}
use Rattle.model.specs.Change.{placed, dropped}

-- every container's prefix is below p, or above it
abbrev pub AllBelow : ℕ → List Container → Type 0
AllBelow p cs = Every (λ c. c.prefix < p) cs

abbrev pub AllAbove : ℕ → List Container → Type 0
AllAbove p cs = Every (λ c. p < c.prefix) cs

pub placed-among : (p t : ℕ) (ss : List ℕ) (xs ys : List Container) → AllBelow p xs → AllAbove p ys → placed p t ss (xs ++ ys) ≡ xs ++ (record { prefix = p; slot = t; suffixes = ss } ∷ ys)
placed-among p t ss [] [] u a = refl
placed-among p t ss [] (y ∷ ys) u a = rw (lt-ltb p y.prefix a.0)
placed-among p t ss (x ∷ xs) ys u a =
    let l : x.prefix < p = u.0 in
    rw (le-ltb p x.prefix (omega arith), ne_eqb p x.prefix (λ e. omega arith)) (ap (λ (cs : List Container). x ∷ cs) (placed-among p t ss xs ys u.1 a))

dropped-above : (p : ℕ) (ys : List Container) → AllAbove p ys → dropped p ys ≡ ys
dropped-above p [] a = refl
dropped-above p (y ∷ ys) a = let l : p < y.prefix = a.0 in rw (ne_eqb p y.prefix (λ e. omega arith)) (ap (λ (cs : List Container). y ∷ cs) (dropped-above p ys a.1))

pub dropped-among : (p : ℕ) (c : Container) (xs ys : List Container) → c.prefix ≡ p → AllBelow p xs → AllAbove p ys → dropped p (xs ++ (c ∷ ys)) ≡ xs ++ ys
dropped-among p c [] ys e u a = rw (eq-eqb p c.prefix (sym e)) (dropped-above p ys a)
dropped-among p c (x ∷ xs) ys e u a = let l : x.prefix < p = u.0 in rw (ne_eqb p x.prefix (λ z. omega arith)) (ap (λ (cs : List Container). x ∷ cs) (dropped-among p c xs ys e u.1 a))

pub words-among : (S : ℕ) (c : Container) (xs ys : List Container) → length (words_of S (xs ++ (c ∷ ys))) ≡ length c.suffixes + length (words_of S (xs ++ ys))
words-among S c [] ys = length-append (container_words S c) (words_of S ys) ∙ ap (λ n. n + length (words_of S ys)) (length-map c.suffixes (joined S c.prefix))
words-among S c (x ∷ xs) ys =
    let ih = words-among S c xs ys in
    let a = length-append (container_words S x) (words_of S (xs ++ (c ∷ ys))) in
    let b = length-append (container_words S x) (words_of S (xs ++ ys)) in
    omega arith
