-- Lists by places, `each`, `up_to` and `down_from`: their length, members, order and sums are those of the values at the places. Assumes nothing.
use mathlib.Core.Path.{◌≡◌, refl, sym, ap, ◌∙◌, subst}
use mathlib.Core.Logic.{◌≢◌}
use mathlib.Core.Bool.{Bool, true, false, ◌||◌, false≢true}
use mathlib.Core.List.{List, [], ◌∷◌, ◌++◌, map}
use Prim.Native.Nat.{ℕ, zero, suc, ◌+◌, ◌≤◌, ◌<◌}
use native.Mathlib.Omega.{arith}
use native.Mathlib.Decide.{ℕ_discrete}
use lib.Dec.{eqb}
use lib.ListN.{length, take, get_or, length-append}
use lib.Seq.{take-suc}
use borrow.Author.Tests.{eqb-true, ne_eqb}
use Rattle.lists.specs.Lists.{mem, each, up_to, down_from, Ascending, Distinct, Every}
use Rattle.lists.specs.Sums.{sum, sum_over}
use Rattle.lists.proofs.Laws.{or-false, or_swap, or_left, or_right, or_cases, none_or, eqb-self, mem-append, mem-over, over-mem, distinct_append}

-- `each`

-- the list that holds s, among f 0 to f (n - 1)
pub record InOne (s : ℕ) (f : ℕ → List ℕ) (n : ℕ) : Type 0 where
  pub at : ℕ
  pub small : at < n
  pub there : mem s (f at) ≡ true

pub mem-each : (s : ℕ) (f : ℕ → List ℕ) (n : ℕ) → mem s (each f n) ≡ true → InOne s f n
unfolding each
mem-each s f zero m = absurd (false≢true m)
mem-each s f (suc n) m =
    or_cases (mem s (each f n)) (mem s (f n)) (sym (mem-append s (each f n) (f n)) ∙ m)
    (λ i. let r : InOne s f n = mem-each s f n i in record { at = r.at; small = omega (arith, r.small); there = r.there })
    (λ i. record { at = n; small = omega arith; there = i })

pub each-mem : (s : ℕ) (f : ℕ → List ℕ) (n x : ℕ) → x < n → mem s (f x) ≡ true → mem s (each f n) ≡ true
unfolding each
each-mem s f zero x l m = absurd (omega arith)
each-mem s f (suc n) x l m = mem-append s (each f n) (f n) ∙ pick (ℕ_discrete x n) (λ k. each-mem s f n x k m)
  where
    pick : Dec (x ≡ n) → (x < n → mem s (each f n) ≡ true) → (mem s (each f n) || mem s (f n)) ≡ true
    pick (yes e) ih = or_right (mem s (each f n)) (mem s (f n)) (subst (λ (k : ℕ). mem s (f k) ≡ true) e m)
    pick (no h) ih = or_left (mem s (each f n)) (mem s (f n)) (ih (omega arith))

ascending-append : (xs ys : List ℕ) → Ascending xs → Ascending ys → ((x y : ℕ) → mem x xs ≡ true → mem y ys ≡ true → x < y) → Ascending (xs ++ ys)
ascending-append [] ys a b h = b
ascending-append (x ∷ xs) ys a b h = (
  mem-over x (xs ++ ys) (λ y m. or_cases (mem y xs) (mem y ys) (sym (mem-append y xs ys) ∙ m) (over-mem xs a.0) (h x y (or_left (eqb x x) (mem x xs) (eqb-self x)))),
  ascending-append xs ys a.1 b (λ z y i. h z y (or_right (eqb z x) (mem z xs) i)),
)

pub ascending-each : (f : ℕ → List ℕ) (n : ℕ) → ((x : ℕ) → x < n → Ascending (f x)) → ((x y s t : ℕ) → x < y → y < n → mem s (f x) ≡ true → mem t (f y) ≡ true → s < t) → Ascending (each f n)
unfolding each
ascending-each f zero a h = tt
ascending-each f (suc n) a h =
    ascending-append (each f n) (f n) (ascending-each f n (λ x l. a x (omega arith)) (λ x y s t l k. h x y s t l (omega arith))) (a n (omega arith))
    (λ s t i j. let r : InOne s f n = mem-each s f n i in h r.at n s t r.small (omega arith) r.there j)

-- `up_to`

pub length-up_to : {A : Type 0} (f : ℕ → A) (n : ℕ) → length (up_to f n) ≡ n
unfolding each
length-up_to f zero = refl
length-up_to f (suc n) = let ih : length (up_to f n) ≡ n = length-up_to f n in length-append (up_to f n) (f n ∷ []) ∙ omega arith

map-append : {A B : Type 0} (h : A → B) (xs ys : List A) → map h (xs ++ ys) ≡ map h xs ++ map h ys
map-append h [] ys = refl
map-append h (x ∷ xs) ys = ap (λ zs. h x ∷ zs) (map-append h xs ys)

pub map-up_to : {A B : Type 0} (h : A → B) (f : ℕ → A) (n : ℕ) → map h (up_to f n) ≡ up_to (λ i. h (f i)) n
unfolding each
map-up_to h f zero = refl
map-up_to h f (suc n) = map-append h (up_to f n) (f n ∷ []) ∙ ap (λ zs. zs ++ (h (f n) ∷ [])) (map-up_to h f n)

-- the first n entries are those at the places below n
pub take-up_to : {A : Type 0} (l : List A) (d : A) (n : ℕ) → n ≤ length l → take n l ≡ up_to (λ i. get_or l i d) n
unfolding each
take-up_to l d zero h = refl
take-up_to l d (suc n) h = take-suc l n d h ∙ ap (λ zs. zs ++ (get_or l n d ∷ [])) (take-up_to l d n (omega arith))

-- a place below n where s stands
pub record Place (s : ℕ) (f : ℕ → ℕ) (n : ℕ) : Type 0 where
  pub at : ℕ
  pub small : at < n
  pub is : f at ≡ s

pub mem-up_to : (s : ℕ) (f : ℕ → ℕ) (n : ℕ) → mem s (up_to f n) ≡ true → Place s f n
mem-up_to s f n m =
    let r : InOne s (λ i. f i ∷ []) n = mem-each s (λ i. f i ∷ []) n m in
    record { at = r.at; small = r.small; is = sym (eqb-true s (f r.at) (sym (or-false (eqb s (f r.at))) ∙ r.there)) }

pub up_to-mem : (f : ℕ → ℕ) (n i : ℕ) → i < n → mem (f i) (up_to f n) ≡ true
up_to-mem f n i l = each-mem (f i) (λ j. f j ∷ []) n i l (or_left (eqb (f i) (f i)) false (eqb-self (f i)))

pub ascending-up_to : (f : ℕ → ℕ) (n : ℕ) → ((i j : ℕ) → i < j → j < n → f i < f j) → Ascending (up_to f n)
ascending-up_to f n h = ascending-each (λ i. f i ∷ []) n (λ i l. (tt, tt)) (λ i j s t l k p q.
    let a : s ≡ f i = eqb-true s (f i) (sym (or-false (eqb s (f i))) ∙ p) in
    let b : t ≡ f j = eqb-true t (f j) (sym (or-false (eqb t (f j))) ∙ q) in
    let c : f i < f j = h i j l k in omega arith)

pub distinct-up_to : (f : ℕ → ℕ) (n : ℕ) → ((i j : ℕ) → i < j → j < n → f i ≢ f j) → Distinct (up_to f n)
unfolding each
distinct-up_to f zero h = tt
distinct-up_to f (suc n) h = distinct_append (up_to f n) (f n ∷ []) (distinct-up_to f n (λ i j l k. h i j l (omega arith))) (refl, tt) (λ x m.
    let r : Place x f n = mem-up_to x f n m in
    none_or (eqb x (f n)) false (ne_eqb x (f n) (λ e. h r.at n r.small (omega arith) (r.is ∙ e))) refl)

pub each-up_to : {A : Type 0} (G : A → Type 0) (f : ℕ → A) (n : ℕ) → ((i : ℕ) → i < n → G (f i)) → Every G (up_to f n)
unfolding each
each-up_to {A = A} G f zero h = tt
each-up_to {A = A} G f (suc n) h = snoc (up_to f n) (each-up_to G f n (λ i l. h i (omega arith)))
  where
    snoc : (xs : List A) → Every G xs → Every G (xs ++ (f n ∷ []))
    snoc [] e = (h n (omega arith), tt)
    snoc (x ∷ xs) e = (e.0, snoc xs e.1)

pub sum-up_to : {A : Type 0} (F : A → ℕ) (f : ℕ → A) (n : ℕ) → sum_over F (up_to f n) ≡ sum (λ i. F (f i)) n
unfolding each sum
sum-up_to {A = A} F f zero = refl
sum-up_to {A = A} F f (suc n) = let a = snoc (up_to f n) in let ih : sum_over F (up_to f n) ≡ sum (λ i. F (f i)) n = sum-up_to F f n in omega arith
  where
    snoc : (xs : List A) → sum_over F (xs ++ (f n ∷ [])) ≡ F (f n) + sum_over F xs
    snoc [] = refl
    snoc (x ∷ xs) = let i = snoc xs in omega arith

-- `down_from`

pub length-down_from : {A : Type 0} (f : ℕ → A) (n : ℕ) → length (down_from f n) ≡ n
length-down_from f zero = refl
length-down_from f (suc n) = ap suc (length-down_from f n)

pub mem-down_from : (s : ℕ) (f : ℕ → ℕ) (n : ℕ) → mem s (down_from f n) ≡ mem s (up_to f n)
unfolding each
mem-down_from s f zero = refl
mem-down_from s f (suc n) =
    ap (λ (b : Bool). eqb s (f n) || b) (mem-down_from s f n)
    ∙ ap (λ (b : Bool). eqb s (f n) || b) (sym (or-false (mem s (up_to f n))))
    ∙ or_swap (eqb s (f n)) (mem s (up_to f n)) false
    ∙ sym (mem-append s (up_to f n) (f n ∷ []))
