-- Marks stay, and the marks of an entry that was seen are there. Assumes nothing.
use Rattle.std.proofs.Common.{◌≡◌, ℕ, ◌<◌, true, false, eqb, List, length, get_or, set, sym, ap, ◌∙◌, subst, arith, length-set, get_or-set_other, get_or-set_same, eq-eqb, eqb-true}
use mathlib.Core.Bool.{false≢true}
use native.Mathlib.Decide.{ℕ_discrete}
use lib.Seq.{take-length}
use Rattle.lists.specs.Lists.{mem}
use Rattle.lists.proofs.Laws.{and_both, both-and, not-true-false}
use Rattle.lists.proofs.Each.{Place}
use Rattle.strip.specs.Marks.{near, far, marked, Marks, Marking}
use Rattle.strip.proofs.PlaceLaws.{place-before}

marks-of : (ms : List ℕ) (x : ℕ) → marked ms x ≡ true → (get_or ms (near x) 0 ≡ 1) × (get_or ms (far x) 0 ≡ 1)
unfolding marked
marks-of ms x e =
    let b = and_both (eqb (get_or ms (near x) 0) 1) (eqb (get_or ms (far x) 0) 1) e in
    (eqb-true (get_or ms (near x) 0) 1 b.0, eqb-true (get_or ms (far x) 0) 1 b.1)

of-marks : (ms : List ℕ) (x : ℕ) → get_or ms (near x) 0 ≡ 1 → get_or ms (far x) 0 ≡ 1 → marked ms x ≡ true
unfolding marked
of-marks ms x n f = both-and (eqb (get_or ms (near x) 0) 1) (eqb (get_or ms (far x) 0) 1) (eq-eqb (get_or ms (near x) 0) 1 n) (eq-eqb (get_or ms (far x) 0) 1 f)

-- the tests at the two places, read through their numbers
pub no_near : (ms : List ℕ) (x n : ℕ) → n ≡ near x → (get_or ms n 0 ≡ 1 → ⊥) → eqb (get_or ms n 0) 1 ≡ marked ms x
no_near ms x n e h = not-true-false (eqb (get_or ms n 0) 1) (λ t. h (eqb-true (get_or ms n 0) 1 t)) ∙ sym (not-true-false (marked ms x) (λ m. h (rw e (marks-of ms x m).0)))

pub by-far : (ms : List ℕ) (x n f : ℕ) → n ≡ near x → f ≡ far x → get_or ms n 0 ≡ 1 → eqb (get_or ms f 0) 1 ≡ marked ms x
unfolding marked
by-far ms x n f e g h = rw (sym e, sym g, eq-eqb (get_or ms n 0) 1 h)

one-stays : (ms : List ℕ) (i j : ℕ) → i < length ms → get_or ms i 0 ≡ 1 → get_or (set ms j 1) i 0 ≡ 1
one-stays ms i j l h = pick (ℕ_discrete i j)
  where
    pick : Dec (i ≡ j) → get_or (set ms j 1) i 0 ≡ 1
    pick (yes e) = rw (sym e) (get_or-set_same ms i 1 0 l)
    pick (no ne) = get_or-set_other ms j i 1 0 ne ∙ h

module _ (ms : List ℕ) (long : length ms ≡ 16384) where
  stays : (x i : ℕ) → marked ms x ≡ true → marked (set ms i 1) x ≡ true
  stays x i m =
      let b = marks-of ms x m in
      of-marks (set ms i 1) x (one-stays ms (near x) i (omega arith) b.0) (one-stays ms (far x) i (omega arith) b.1)

pub marking : (ms : List ℕ) (x n f : ℕ) → length ms ≡ 16384 → n ≡ near x → f ≡ far x → Marking ms x (set (set ms n 1) f 1)
marking ms x n f long e g =
    let long' : length (set ms n 1) ≡ 16384 = length-set ms n 1 ∙ long in record {
      long = length-set (set ms n 1) f 1 ∙ length-set ms n 1;
      here = rw (e, g) (of-marks (set (set ms (near x) 1) (far x) 1) x
          (one-stays (set ms (near x) 1) (near x) (far x) (simp length-set (omega arith)) (get_or-set_same ms (near x) 1 0 (omega arith)))
          (get_or-set_same (set ms (near x) 1) (far x) 1 0 (simp length-set (omega arith))));
      kept = λ y m. stays (set ms n 1) long' y f (stays ms long y n m);
    }

-- an entry without its marks is none of those that were seen
pub unmarked : (xs ms : List ℕ) (x : ℕ) → Marks xs ms → marked ms x ≡ false → mem x xs ≡ false
unmarked xs ms x all e = not-true-false (mem x xs) (λ m.
    let p : Place x (λ i. get_or xs i 0) (length xs) = place-before x xs (length xs) (omega arith) (ap (mem x) (take-length xs) ∙ m) in
    false≢true (sym e ∙ subst (λ (k : ℕ). marked ms k ≡ true) p.is (all p.at p.small)))
