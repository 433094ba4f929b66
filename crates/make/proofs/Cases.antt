-- The cases of `make`: what its promise asks where the tests go one way. Assumes nothing.
use mathlib.Core.Path.{◌≡◌, refl, sym, ap, ◌∙◌}
use mathlib.Core.Bool.{Bool, true, false, not}
use mathlib.Core.List.{List, ◌++◌}
use Prim.Native.Nat.{ℕ, ◌≤◌, ◌<◌}
use native.Mathlib.Omega.{arith}
use lib.Dec.{ltb}
use lib.ListN.{length, drop}
use borrow.Author.Tests.{lt-ltb, le-ltb}
use Rattle.std.specs.Prelude.{Result, Ok, Err}
use Rattle.promises.specs.declared.MakeRefusal.{MakeRefusal}
use Rattle.promises.specs.Refusals.{Refusal, when, tell, unless_refused}
use Rattle.promises.specs.Answers.{made}
use Rattle.promises.specs.Make.{make_refusals, MakePromise}
use Rattle.region.specs.Ranges.{good_numbers}
use Rattle.region.specs.Geometry.{total}
use Rattle.region.specs.Fresh.{fresh}
use Rattle.make.specs.declared.geometry.Geometry.{Geometry}
use Rattle.make.specs.Laid.{GeometryOf}

-- the refusals by the two tests
abbrev by_tests : Bool → Bool → List Refusal
by_tests good short = when (not good) 2 0 ++ when short 3 0

module _ (P S C N : ℕ) (l : List ℕ) where
  -- the promise, where these refusals apply
  abbrev Told-by : List Refusal → Result (Unit {0}) MakeRefusal → List ℕ → Type 0
  Told-by rs m l' = (made m ≡ tell rs tt) × (l' ≡ unless_refused rs (fresh P S C N ++ drop (total P C N) l) l)

  promised : (good short : Bool) (m : Result (Unit {0}) MakeRefusal) (l' : List ℕ) → good_numbers P S C N ≡ good → ltb (length l) (total P C N) ≡ short → Told-by (by_tests good short) m l' → MakePromise P S C N l (made m) l'
  promised good short m l' e f t =
      let r : by_tests good short ≡ make_refusals P S C N l = sym (ap (λ (b : Bool). by_tests b (ltb (length l) (total P C N))) e ∙ ap (by_tests good) f) in
      record {
        tells = t.0 ∙ ap (λ (rs : List Refusal). tell rs tt) r;
        leaves = t.1 ∙ ap (λ (rs : List Refusal). unless_refused rs (fresh P S C N ++ drop (total P C N) l) l) r;
      }

  pub out_of_range : good_numbers P S C N ≡ false → MakePromise P S C N l (made (Err MakeRefusal.OutOfRange)) l
  out_of_range e = promised false (ltb (length l) (total P C N)) (Err MakeRefusal.OutOfRange) l e refl (refl, refl)

module _ {P S C N : ℕ} {g : Geometry} (of : GeometryOf P S C N g) where
  -- what `Geometry::new` and `fresh_into` say, by the numbers themselves
  pub total-is : g.total ≡ total P C N
  total-is = rw (← of.p, ← of.c, ← of.n) of.laid.whole

  pub image-is : (l : List ℕ) {m : List ℕ} → m ≡ fresh g.p g.s g.c g.n ++ drop (total g.p g.c g.n) l → m ≡ fresh P S C N ++ drop (total P C N) l
  image-is l e = rw (← of.p, ← of.s, ← of.c, ← of.n) e

  pub too_short : (l : List ℕ) → good_numbers P S C N ≡ true → length l < g.total → MakePromise P S C N l (made (Err MakeRefusal.TooShort)) l
  too_short l e h =
      let t = total-is in
      promised P S C N l true true (Err MakeRefusal.TooShort) l e (lt-ltb (length l) (total P C N) (omega arith)) (refl, refl)

  pub image : (l m : List ℕ) → good_numbers P S C N ≡ true → g.total ≤ length l → m ≡ fresh g.p g.s g.c g.n ++ drop (total g.p g.c g.n) l
      → MakePromise P S C N l (made (Ok tt)) m
  image l m e h w =
      let t = total-is in
      promised P S C N l true false (Ok tt) m e (le-ltb (length l) (total P C N) (omega arith)) (refl, image-is l w)
