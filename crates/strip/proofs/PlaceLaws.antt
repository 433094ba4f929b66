-- Membership, difference and order told by places: what a region says of a vector's entries, and what the lists say. Assumes nothing.
use Rattle.std.proofs.Common.{◌≡◌, ℕ, zero, suc, ◌+◌, ◌-◌, ◌<◌, ◌≤◌, Bool, true, false, eqb, ltb, ◌≢◌, List, [], ◌∷◌, length, get_or, take, sym, ap, ◌∙◌, subst, true≢false, arith, add-one, eqb-true, ltb-true, lt-ltb}
use mathlib.Core.Bool.{false≢true}
use native.Mathlib.Decide.{ℕ_discrete}
use lib.Seq.{take-length}
use Rattle.std.specs.List.{IsAllAdjacentAnswer}
use Rattle.lists.specs.Lists.{mem, Ascending, Distinct}
use Rattle.lists.proofs.Laws.{over-trans}
use Rattle.lists.proofs.Each.{Place, mem-up_to, up_to-mem, take-up_to, distinct-up_to}

-- a place before k where s stands
pub place-before : (s : ℕ) (xs : List ℕ) (k : ℕ) → k ≤ length xs → mem s (take k xs) ≡ true → Place s (λ i. get_or xs i 0) k
place-before s xs k h m = mem-up_to s (λ i. get_or xs i 0) k (ap (mem s) (sym (take-up_to xs 0 k h)) ∙ m)

mem-before : (xs : List ℕ) (i k : ℕ) → i < k → k ≤ length xs → mem (get_or xs i 0) (take k xs) ≡ true
mem-before xs i k l h = ap (mem (get_or xs i 0)) (take-up_to xs 0 k h) ∙ up_to-mem (λ i. get_or xs i 0) k i l

mem-get_or : (xs : List ℕ) (i : ℕ) → i < length xs → mem (get_or xs i 0) xs ≡ true
mem-get_or xs i l = ap (mem (get_or xs i 0)) (sym (take-length xs)) ∙ mem-before xs i (length xs) l (omega arith)

-- an entry that was looked at
pub hit-at : (s : ℕ) (xs : List ℕ) (i : ℕ) → i < length xs → eqb (get_or xs i 0) s ≡ true → mem s xs ≡ true
hit-at s xs i l e = subst (λ (x : ℕ). mem x xs ≡ true) (eqb-true (get_or xs i 0) s e) (mem-get_or xs i l)

pub places-distinct : (xs : List ℕ) → ((i j : ℕ) → i < j → j < length xs → get_or xs i 0 ≢ get_or xs j 0) → Distinct xs
places-distinct xs h = subst Distinct (sym (take-up_to xs 0 (length xs) (omega arith)) ∙ take-length xs) (distinct-up_to (λ i. get_or xs i 0) (length xs) h)

pub distinct-places : (xs : List ℕ) → Distinct xs → (i j : ℕ) → i < j → j < length xs → get_or xs i 0 ≢ get_or xs j 0
distinct-places [] d i j l h = absurd (omega arith)
distinct-places (x ∷ xs) d i zero l h = absurd (omega arith)
distinct-places (x ∷ xs) d zero (suc j) l h = λ e. false≢true (sym d.0 ∙ subst (λ (k : ℕ). mem k xs ≡ true) (sym e) (mem-get_or xs j (omega arith)))
distinct-places (x ∷ xs) d (suc i) (suc j) l h = distinct-places xs d.1 i j (omega arith) (omega arith)

-- entries differ exactly when none stands among those before it
pub fresh-distinct : (xs : List ℕ) → ((j : ℕ) → j < length xs → mem (get_or xs j 0) (take j xs) ≡ false) → Distinct xs
fresh-distinct xs h = places-distinct xs (λ i j l k e. false≢true (sym (h j k) ∙ subst (λ (x : ℕ). mem x (take j xs) ≡ true) e (mem-before xs i j l (omega arith))))

pub repeated-distinct : (xs : List ℕ) (j : ℕ) → j < length xs → mem (get_or xs j 0) (take j xs) ≡ true → Distinct xs → ⊥
repeated-distinct xs j l m d = let p : Place (get_or xs j 0) (λ i. get_or xs i 0) j = place-before (get_or xs j 0) xs j (omega arith) m in distinct-places xs d p.at j p.small l p.is

-- entries ascend exactly when each is below the next
steps-ascending : (xs : List ℕ) → ((i : ℕ) → suc i < length xs → get_or xs i 0 < get_or xs (suc i) 0) → Ascending xs
steps-ascending [] h = tt
steps-ascending (x ∷ []) h = (tt, tt)
steps-ascending (x ∷ y ∷ ys) h =
    let rest : Ascending (y ∷ ys) = steps-ascending (y ∷ ys) (λ i l. h (suc i) (omega arith)) in
    let l : x < y = h 0 (omega arith) in
    ((l, over-trans ys l rest.0), rest)

ascending-steps : (xs : List ℕ) → Ascending xs → (i : ℕ) → suc i < length xs → get_or xs i 0 < get_or xs (suc i) 0
ascending-steps [] a i l = absurd (omega arith)
ascending-steps (x ∷ []) a i l = absurd (omega arith)
ascending-steps (x ∷ y ∷ ys) a zero l = a.0.0
ascending-steps (x ∷ y ∷ ys) a (suc i) l = ascending-steps (y ∷ ys) a.1 i (omega arith)

-- the answer where each was asked whether it is below the next
pub asked-each : (xs : List ℕ) (r : Bool) → IsAllAdjacentAnswer (λ x y b. b ≡ ltb x y) xs r → (r ≡ true → Ascending xs) × (r ≡ false → Ascending xs → ⊥)
asked-each xs true h = (λ _. steps-ascending xs (λ i l. rw add-one at (ltb-true (get_or xs i 0) (get_or xs (i + 1) 0) (sym (h i 0 (omega arith))))), λ e _. true≢false e)
asked-each xs false h = (
  λ e. absurd (false≢true e),
  λ _ a.
      let l : get_or xs h.0 0 < get_or xs (h.0 + 1) 0 = rw add-one (ascending-steps xs a h.0 (omega arith)) in
      false≢true (h.2 0 ∙ lt-ltb _ _ l),
)

-- where the steps before place i rise, and it is the end
pub rises-yes : (xs : List ℕ) (i : ℕ) → length xs ≤ i → ((k : ℕ) → suc k < i → get_or xs k 0 < get_or xs (suc k) 0) → (true ≡ true → Ascending xs) × (true ≡ false → Ascending xs → ⊥)
rises-yes xs i l h = (λ _. steps-ascending xs (λ k m. h k (omega arith)), λ e _. true≢false e)

-- one step more
pub rises-more : (xs : List ℕ) (i : ℕ) → 1 ≤ i → ((k : ℕ) → suc k < i → get_or xs k 0 < get_or xs (suc k) 0) → get_or xs (i - 1) 0 < get_or xs i 0 → (k : ℕ) → suc k < suc i → get_or xs k 0 < get_or xs (suc k) 0
rises-more xs i h all s k l = pick (ℕ_discrete (suc k) i)
  where
    pick : Dec (suc k ≡ i) → get_or xs k 0 < get_or xs (suc k) 0
    pick (yes e) =
        let q : i - 1 ≡ k = omega arith in
        let a : get_or xs (i - 1) 0 ≡ get_or xs k 0 = ap (λ (m : ℕ). get_or xs m 0) q in
        let b : get_or xs i 0 ≡ get_or xs (suc k) 0 = ap (λ (m : ℕ). get_or xs m 0) (sym e) in omega arith
    pick (no ne) = all k (omega arith)
