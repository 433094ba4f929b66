-- Lists read as sets: membership in what the list functions make, and sums over lists without repetition. Assumes nothing.
use mathlib.Core.Path.{◌≡◌, refl, sym, ap, ◌∙◌, subst}
use mathlib.Core.Logic.{◌≢◌}
use mathlib.Core.Bool.{Bool, true, false, cond, not, ◌&&◌, ◌||◌, true≢false, false≢true}
use mathlib.Core.List.{List, [], ◌∷◌, ◌++◌, map}
use Prim.Native.Nat.{ℕ, zero, suc, ◌+◌, ◌≤◌, ◌<◌}
use native.Mathlib.Omega.{arith}
use native.Mathlib.Decide.{ℕ_discrete}
use lib.Dec.{eqb, ltb}
use lib.ListN.{length}
use borrow.Author.Tests.{ltb-true, ltb-false, eqb-true, eqb-false, eq-eqb, ne_eqb}
use Rattle.lists.specs.Lists.{mem, keep, without, put, sorted, different, Over, Ascending, Distinct, Within, SameMembers}
use Rattle.lists.specs.Sums.{sum, sum_over}

-- Tests

pub or-false : (a : Bool) → (a || false) ≡ a
or-false true = refl
or-false false = refl

pub or_swap : (a b c : Bool) → (a || (b || c)) ≡ (b || (a || c))
or_swap true true c = refl
or_swap true false c = refl
or_swap false b c = refl

pub or_assoc : (a b c : Bool) → ((a || b) || c) ≡ (a || (b || c))
or_assoc true b c = refl
or_assoc false b c = refl

pub or_same : (a b : Bool) → (a || (a || b)) ≡ (a || b)
or_same true b = refl
or_same false b = refl

pub or_left : (a b : Bool) → a ≡ true → (a || b) ≡ true
or_left a b e = rw e

pub or_right : (a b : Bool) → b ≡ true → (a || b) ≡ true
or_right true b e = refl
or_right false b e = e

pub or_cases : {G : Type 0} (a b : Bool) → (a || b) ≡ true → (a ≡ true → G) → (b ≡ true → G) → G
or_cases true b e f g = f refl
or_cases false b e f g = g e

pub and_both : (a b : Bool) → (a && b) ≡ true → (a ≡ true) × (b ≡ true)
and_both true b e = (refl, e)
and_both false b e = absurd (false≢true e)

pub both-and : (a b : Bool) → a ≡ true → b ≡ true → (a && b) ≡ true
both-and a b e f = rw (e, f)

-- two tests are equal if each gives the other
pub iff-eq : (a b : Bool) → (a ≡ true → b ≡ true) → (b ≡ true → a ≡ true) → a ≡ b
iff-eq true b f g = sym (f refl)
iff-eq false true f g = g refl
iff-eq false false f g = refl

pub not-true-false : (a : Bool) → (a ≡ true → ⊥) → a ≡ false
not-true-false true h = absurd (h refl)
not-true-false false h = refl

pub by-test : {G : Type 0} (a : Bool) → (a ≡ true → G) → (a ≡ false → G) → G
by-test true f g = f refl
by-test false f g = g refl

pub eqb-self : (x : ℕ) → eqb x x ≡ true
eqb-self x = eq-eqb x x refl

-- Membership

pub mem-append : (x : ℕ) (ys zs : List ℕ) → mem x (ys ++ zs) ≡ (mem x ys || mem x zs)
mem-append x [] zs = refl
mem-append x (y ∷ ys) zs = ap (λ (b : Bool). eqb x y || b) (mem-append x ys zs) ∙ sym (or_assoc (eqb x y) (mem x ys) (mem x zs))

pub mem-keep : (t : ℕ → Bool) (x : ℕ) (ys : List ℕ) → mem x (keep t ys) ≡ (t x && mem x ys)
mem-keep t x [] = go (t x)
  where
    go : (b : Bool) → false ≡ (b && false)
    go true = refl
    go false = refl
mem-keep t x (y ∷ ys) = go (t y) refl (ℕ_discrete x y) (mem-keep t x ys)
  where
    go : (b : Bool) → t y ≡ b → Dec (x ≡ y) → mem x (keep t ys) ≡ (t x && mem x ys) → mem x (cond (t y) (y ∷ keep t ys) (keep t ys)) ≡ (t x && (eqb x y || mem x ys))
    go true e (yes q) ih = rw (e, eq-eqb x y q, ap t q ∙ e)
    go true e (no h) ih = rw (e, ne_eqb x y h) ih
    go false e (yes q) ih = rw (e, ap t q ∙ e) (rw (ap t q ∙ e) at ih)
    go false e (no h) ih = rw (e, ne_eqb x y h) ih

pub mem-without : (x z : ℕ) (ys : List ℕ) → mem z (without x ys) ≡ (not (eqb x z) && mem z ys)
mem-without x z ys = mem-keep (λ y. not (eqb x y)) z ys

pub mem-put : (z x : ℕ) (ys : List ℕ) → mem z (put x ys) ≡ (eqb z x || mem z ys)
mem-put z x [] = refl
mem-put z x (y ∷ ys) = go (ltb x y) refl (eqb x y) refl (mem-put z x ys)
  where
    go : (a : Bool) → ltb x y ≡ a → (b : Bool) → eqb x y ≡ b → mem z (put x ys) ≡ (eqb z x || mem z ys) → mem z (put x (y ∷ ys)) ≡ (eqb z x || (eqb z y || mem z ys))
    go true e b f ih = rw e
    go false e true f ih = rw (e, f, eqb-true x y f) (sym (or_same (eqb z y) (mem z ys)))
    go false e false f ih = rw (e, f) (ap (λ (b : Bool). eqb z y || b) ih ∙ or_swap (eqb z y) (eqb z x) (mem z ys))

-- what is put is there
pub put-there : (x : ℕ) (ys : List ℕ) → mem x (put x ys) ≡ true
put-there x ys = mem-put x x ys ∙ or_left (eqb x x) (mem x ys) (eqb-self x)

pub mem-sorted : (z : ℕ) (xs : List ℕ) → mem z (sorted xs) ≡ mem z xs
mem-sorted z [] = refl
mem-sorted z (x ∷ xs) = mem-put z x (sorted xs) ∙ ap (λ (b : Bool). eqb z x || b) (mem-sorted z xs)

pub mem-map : (f : ℕ → ℕ) (x : ℕ) (xs : List ℕ) → mem x xs ≡ true → mem (f x) (map f xs) ≡ true
mem-map f x [] e = absurd (false≢true e)
mem-map f x (y ∷ ys) e =
    or_cases (eqb x y) (mem x ys) e
    (λ q. or_left (eqb (f x) (f y)) (mem (f x) (map f ys)) (eq-eqb (f x) (f y) (ap f (eqb-true x y q))))
    (λ m. or_right (eqb (f x) (f y)) (mem (f x) (map f ys)) (mem-map f x ys m))

-- what a value of a mapped list comes from
pub record Source (f : ℕ → ℕ) (xs : List ℕ) (z : ℕ) : Type 0 where
  pub from : ℕ
  pub there : mem from xs ≡ true
  pub is : f from ≡ z

pub source : (f : ℕ → ℕ) (z : ℕ) (xs : List ℕ) → mem z (map f xs) ≡ true → Source f xs z
source f z [] e = absurd (false≢true e)
source f z (x ∷ xs) e =
    or_cases (eqb z (f x)) (mem z (map f xs)) e
    (λ q. record { from = x; there = or_left (eqb x x) (mem x xs) (eqb-self x); is = sym (eqb-true z (f x) q) })
    (λ m. let s = source f z xs m in record { from = s.from; there = or_right (eqb s.from x) (mem s.from xs) s.there; is = s.is })

pub map-within : (f : ℕ → ℕ) (xs ys : List ℕ) → Within xs ys → Within (map f xs) (map f ys)
map-within f xs ys h z m =
    let s = source f z xs m in
    subst (λ (k : ℕ). mem k (map f ys) ≡ true) s.is (mem-map f s.from ys (h s.from s.there))

pub keep-within : (t : ℕ → Bool) (xs ys : List ℕ) → Within xs ys → Within (keep t xs) (keep t ys)
keep-within t xs ys h z m =
    let b = and_both (t z) (mem z xs) (sym (mem-keep t z xs) ∙ m) in
    mem-keep t z ys ∙ both-and (t z) (mem z ys) b.0 (h z b.1)

pub sorted-within : (xs ys : List ℕ) → Within xs ys → Within (sorted xs) (sorted ys)
sorted-within xs ys h z m = mem-sorted z ys ∙ h z (sym (mem-sorted z xs) ∙ m)

-- Order

pub over-trans : {x y : ℕ} (ys : List ℕ) → x < y → Over y ys → Over x ys
over-trans [] l o = tt
over-trans (z ∷ zs) l o = (omega arith, over-trans zs l o.1)

pub over-put : {z x : ℕ} (ys : List ℕ) → z < x → Over z ys → Over z (put x ys)
over-put [] l o = (l, tt)
over-put {z} {x} (y ∷ ys) l o = go (ltb x y) refl (eqb x y) refl (over-put ys l o.1)
  where
    go : (a : Bool) → ltb x y ≡ a → (b : Bool) → eqb x y ≡ b → Over z (put x ys) → Over z (put x (y ∷ ys))
    go true e b f ih = rw e (l, o)
    go false e true f ih = rw (e, f) o
    go false e false f ih = rw (e, f) (o.0, ih)

pub ascending-put : (x : ℕ) (ys : List ℕ) → Ascending ys → Ascending (put x ys)
ascending-put x [] a = (tt, tt)
ascending-put x (y ∷ ys) a = go (ltb x y) refl (eqb x y) refl (ascending-put x ys a.1)
  where
    go : (c : Bool) → ltb x y ≡ c → (b : Bool) → eqb x y ≡ b → Ascending (put x ys) → Ascending (put x (y ∷ ys))
    go true e b f ih = rw e ((ltb-true x y e, over-trans ys (ltb-true x y e) a.0), a)
    go false e true f ih = rw (e, f) a
    go false e false f ih =
        let l : y ≤ x = ltb-false x y e in
        let n : x ≢ y = eqb-false x y f in
        rw (e, f) (over-put ys (omega arith) a.0, ih)

pub ascending-sorted : (xs : List ℕ) → Ascending (sorted xs)
ascending-sorted [] = tt
ascending-sorted (x ∷ xs) = ascending-put x (sorted xs) (ascending-sorted xs)

pub over-mem : {x y : ℕ} (ys : List ℕ) → Over x ys → mem y ys ≡ true → x < y
over-mem [] o m = absurd (false≢true m)
over-mem {x} {y} (z ∷ zs) o m = or_cases (eqb y z) (mem y zs) m (λ q. subst (λ (k : ℕ). x < k) (sym (eqb-true y z q)) o.0) (λ k. over-mem zs o.1 k)

pub mem-over : (x : ℕ) (ys : List ℕ) → ((y : ℕ) → mem y ys ≡ true → x < y) → Over x ys
mem-over x [] h = tt
mem-over x (y ∷ ys) h = (h y (or_left (eqb y y) (mem y ys) (eqb-self y)), mem-over x ys (λ z m. h z (or_right (eqb z y) (mem z ys) m)))

pub over-not-mem : (x : ℕ) (ys : List ℕ) → Over x ys → mem x ys ≡ false
over-not-mem x ys o = not-true-false (mem x ys) (λ m. let l : x < x = over-mem ys o m in omega arith)

pub ascending-distinct : (xs : List ℕ) → Ascending xs → Distinct xs
ascending-distinct [] a = tt
ascending-distinct (x ∷ xs) a = (over-not-mem x xs a.0, ascending-distinct xs a.1)

pub distinct-sorted : (xs : List ℕ) → Distinct (sorted xs)
distinct-sorted xs = ascending-distinct (sorted xs) (ascending-sorted xs)

-- Sums over lists without repetition: a part's sum is at most the whole's

module _ (f : ℕ → ℕ) where
  sum-without-le : (x : ℕ) (ys : List ℕ) → sum_over f (without x ys) ≤ sum_over f ys
  sum-without-le x [] = omega arith
  sum-without-le x (y ∷ ys) = go (eqb x y) refl (sum-without-le x ys)
    where
      go : (b : Bool) → eqb x y ≡ b → sum_over f (without x ys) ≤ sum_over f ys → sum_over f (without x (y ∷ ys)) ≤ f y + sum_over f ys
      go true e ih = rw e (omega arith)
      go false e ih = rw e (omega arith)

  sum-without : (x : ℕ) (ys : List ℕ) → mem x ys ≡ true → f x + sum_over f (without x ys) ≤ sum_over f ys
  sum-without x [] m = absurd (false≢true m)
  sum-without x (y ∷ ys) m = go (eqb x y) refl (sum-without x ys) (sum-without-le x ys)
    where
      go : (b : Bool) → eqb x y ≡ b → (mem x ys ≡ true → f x + sum_over f (without x ys) ≤ sum_over f ys) → sum_over f (without x ys) ≤ sum_over f ys
          → f x + sum_over f (without x (y ∷ ys)) ≤ f y + sum_over f ys
      go true e ih l = let q = ap f (eqb-true x y e) in rw e (omega arith)
      go false e ih l = let i = ih (rw e at m) in rw e (omega arith)

  pub sum-within : (xs ys : List ℕ) → Distinct xs → Within xs ys → sum_over f xs ≤ sum_over f ys
  sum-within [] ys d h = omega arith
  sum-within (x ∷ xs) ys d h =
      let i = sum-within xs (without x ys) d.1 smaller in
      let s = sum-without x ys (h x (or_left (eqb x x) (mem x xs) (eqb-self x))) in
      omega arith
    where
      smaller : Within xs (without x ys)
      smaller z m = mem-without x z ys ∙ both-and (not (eqb x z)) (mem z ys) (ap not (ne_eqb x z (λ q. false≢true (sym d.0 ∙ subst (λ (k : ℕ). mem k xs ≡ true) (sym q) m)))) (h z (or_right (eqb z x) (mem z xs) m))

pub sum-le : (f g : ℕ → ℕ) (xs : List ℕ) → ((x : ℕ) → f x ≤ g x) → sum_over f xs ≤ sum_over g xs
sum-le f g [] h = omega arith
sum-le f g (x ∷ xs) h = let i = sum-le f g xs h in let j = h x in omega arith

pub below-le : (f g : ℕ → ℕ) (n : ℕ) → ((x : ℕ) → f x ≤ g x) → sum f n ≤ sum g n
unfolding sum
below-le f g zero h = omega arith
below-le f g (suc n) h = let i = below-le f g n h in let j = h n in omega arith

length-sum : (xs : List ℕ) → length xs ≡ sum_over (λ x. 1) xs
length-sum [] = refl
length-sum (x ∷ xs) = let i = length-sum xs in omega arith

pub length-within : (xs ys : List ℕ) → Distinct xs → Within xs ys → length xs ≤ length ys
length-within xs ys d h =
    let s = sum-within (λ x. 1) xs ys d h in
    let a = length-sum xs in
    let b = length-sum ys in
    omega arith

pub same-within : (xs ys : List ℕ) → SameMembers xs ys → Within xs ys
same-within xs ys h x m = sym (h x) ∙ m

pub same-sym : (xs ys : List ℕ) → SameMembers xs ys → SameMembers ys xs
same-sym xs ys h x = sym (h x)

-- two lists without repetition and with the same entries are equally long
pub length-same : (xs ys : List ℕ) → Distinct xs → Distinct ys → SameMembers xs ys → length xs ≡ length ys
length-same xs ys d e h =
    let a = length-within xs ys d (same-within xs ys h) in
    let b = length-within ys xs e (same-within ys xs (same-sym xs ys h)) in
    omega arith

pub different-within : (xs ys : List ℕ) → Within xs ys → different xs ≤ different ys
different-within xs ys h = length-within (sorted xs) (sorted ys) (distinct-sorted xs) (sorted-within xs ys h)

pub mem-some : (x : ℕ) (xs : List ℕ) → mem x xs ≡ true → 0 < length xs
mem-some x [] m = absurd (false≢true m)
mem-some x (y ∷ ys) m = omega arith

-- Distinct entries

pub or-none : (a b : Bool) → (a || b) ≡ false → (a ≡ false) × (b ≡ false)
or-none true b e = absurd (true≢false e)
or-none false b e = (refl, e)

pub none_or : (a b : Bool) → a ≡ false → b ≡ false → (a || b) ≡ false
none_or a b e f = rw (e, f)

pub eqb-sym : (x y : ℕ) → eqb x y ≡ eqb y x
eqb-sym x y = iff-eq (eqb x y) (eqb y x) (λ e. eq-eqb y x (sym (eqb-true x y e))) (λ e. eq-eqb x y (sym (eqb-true y x e)))

pub distinct_append : (xs ys : List ℕ) → Distinct xs → Distinct ys → ((x : ℕ) → mem x xs ≡ true → mem x ys ≡ false) → Distinct (xs ++ ys)
distinct_append [] ys d e h = e
distinct_append (x ∷ xs) ys d e h = (
  mem-append x xs ys ∙ none_or (mem x xs) (mem x ys) d.0 (h x (or_left (eqb x x) (mem x xs) (eqb-self x))),
  distinct_append xs ys d.1 e (λ z m. h z (or_right (eqb z x) (mem z xs) m)),
)

pub distinct-keep : (t : ℕ → Bool) (xs : List ℕ) → Distinct xs → Distinct (keep t xs)
distinct-keep t [] d = tt
distinct-keep t (x ∷ xs) d = go (t x) refl (distinct-keep t xs d.1)
  where
    go : (b : Bool) → t x ≡ b → Distinct (keep t xs) → Distinct (cond (t x) (x ∷ keep t xs) (keep t xs))
    go true e ih = rw e (mem-keep t x xs ∙ rw d.0 (rw e), ih)
    go false e ih = rw e ih

pub over-keep : (x : ℕ) (t : ℕ → Bool) (xs : List ℕ) → Over x xs → Over x (keep t xs)
over-keep x t xs o = mem-over x (keep t xs) (λ y m. over-mem xs o (and_both (t y) (mem y xs) (sym (mem-keep t y xs) ∙ m)).1)

pub ascending-keep : (t : ℕ → Bool) (xs : List ℕ) → Ascending xs → Ascending (keep t xs)
ascending-keep t [] a = tt
ascending-keep t (x ∷ xs) a = go (t x) refl (ascending-keep t xs a.1)
  where
    go : (b : Bool) → t x ≡ b → Ascending (keep t xs) → Ascending (cond (t x) (x ∷ keep t xs) (keep t xs))
    go true e ih = rw e (over-keep x t xs a.0, ih)
    go false e ih = rw e ih

pub distinct-map : (f : ℕ → ℕ) (xs : List ℕ) → ((x y : ℕ) → f x ≡ f y → x ≡ y) → Distinct xs → Distinct (map f xs)
distinct-map f [] inj d = tt
distinct-map f (x ∷ xs) inj d = (
  not-true-false (mem (f x) (map f xs)) (λ m. let s = source f (f x) xs m in
      false≢true (sym d.0 ∙ subst (λ (k : ℕ). mem k xs ≡ true) (inj s.from x s.is) s.there)),
  distinct-map f xs inj d.1,
)

-- an ascending list is told by its members
pub ascending-unique : (xs ys : List ℕ) → Ascending xs → Ascending ys → SameMembers xs ys → xs ≡ ys
ascending-unique [] [] a b h = refl
ascending-unique [] (y ∷ ys) a b h = absurd (false≢true (h y ∙ or_left (eqb y y) (mem y ys) (eqb-self y)))
ascending-unique (x ∷ xs) [] a b h = absurd (false≢true (sym (h x) ∙ or_left (eqb x x) (mem x xs) (eqb-self x)))
ascending-unique (x ∷ xs) (y ∷ ys) a b h = cc (heads, ascending-unique xs ys a.1 b.1 tails)
  where
    -- the lesser head would stand in neither the other's head nor its tail
    heads : x ≡ y
    heads =
        or_cases (eqb x y) (mem x ys) (sym (h x) ∙ or_left (eqb x x) (mem x xs) (eqb-self x)) (λ e. eqb-true x y e)
        (λ m. or_cases (eqb y x) (mem y xs) (h y ∙ or_left (eqb y y) (mem y ys) (eqb-self y)) (λ e. sym (eqb-true y x e))
        (λ n. let k : x < y = over-mem xs a.0 n in let l : y < x = over-mem ys b.0 m in absurd (omega arith)))

    tails : SameMembers xs ys
    tails z = by-test (eqb z x)
        (λ e. let q : x ≡ z = sym (eqb-true z x e) in
        subst (λ (k : ℕ). mem k xs ≡ false) q (over-not-mem x xs a.0) ∙ sym (subst (λ (k : ℕ). mem k ys ≡ false) (sym heads ∙ q) (over-not-mem y ys b.0)))
        (λ e. let i : (eqb z x || mem z xs) ≡ (eqb z y || mem z ys) = h z in
        rw (e, ne_eqb z y (λ q. eqb-false z x e (q ∙ sym heads))) at i)
