-- Containers: what lies under a prefix, the words of some containers, and what placing and dropping a container leaves. Assumes nothing.
use mathlib.Core.Path.{◌≡◌, refl, sym, ap, ◌∙◌, subst}
use mathlib.Core.Bool.{Bool, true, false, cond, not, ◌&&◌, ◌||◌, false≢true}
use mathlib.Core.List.{List, [], ◌∷◌, map}
use Prim.Native.Nat.{ℕ, suc, ◌^◌, ◌<◌}
use native.Mathlib.Omega.{arith}
use native.Mathlib.Nat.{div-add-mod', mod-lt}
use native.Mathlib.Decide.{ℕ_discrete}
use lib.Arith.{digits_div, digits_mod}
use lib.Pow.{pow_pos}
use lib.Dec.{eqb, ltb}
use lib.ListN.{length, length-map}
use borrow.Author.Tests.{ltb-true, eqb-true, eq-eqb, ne_eqb}
use Rattle.lists.specs.Lists.{Ascending, Distinct, Every, SameMembers, mem, put, sorted, without}
use Rattle.model.specs.Change.{dropped, placed, slot_of}
use Rattle.model.specs.Good.{GoodContainer, GoodSuffixes}
use Rattle.model.specs.Reading.{Container, container_words, prefixes_of, slots_of, under, words_of}
use Rattle.model.specs.Room.{prefixes}
use Rattle.model.specs.Words.{joined, prefix_of, suffix_of}
use Rattle.lists.proofs.Laws.{or-false, or_swap, or_left, or_cases, or-none, and_both, both-and, iff-eq, by-test, eqb-self, eqb-sym, mem-append, mem-map, mem-put, mem-sorted, mem-without, source, over-not-mem, over-mem, ascending-put, ascending-sorted, ascending-unique, length-same, distinct-keep, distinct_append, distinct-map, ascending-distinct}

-- Words and their parts

module _ (S : ℕ) where
  pub prefix-joined : (p s : ℕ) → s < 2 ^ S → prefix_of S (joined S p s) ≡ p
  prefix-joined p s l = digits_div p l

  pub suffix-joined : (p s : ℕ) → s < 2 ^ S → suffix_of S (joined S p s) ≡ s
  suffix-joined p s l = digits_mod p l

  pub joined-parts : (w : ℕ) → joined S (prefix_of S w) (suffix_of S w) ≡ w
  joined-parts w = div-add-mod' w (2 ^ S)

  pub suffix-lt : (w : ℕ) → suffix_of S w < 2 ^ S
  suffix-lt w = mod-lt w (pow_pos S)

  pub mem-container_words : (p w : ℕ) (ss : List ℕ) → ((s : ℕ) → mem s ss ≡ true → s < 2 ^ S) → mem w (map (joined S p) ss) ≡ (eqb (prefix_of S w) p && mem (suffix_of S w) ss)
  mem-container_words p w ss below = iff-eq (mem w (map (joined S p) ss)) (eqb (prefix_of S w) p && mem (suffix_of S w) ss) forth back
    where
      forth : mem w (map (joined S p) ss) ≡ true → (eqb (prefix_of S w) p && mem (suffix_of S w) ss) ≡ true
      forth m =
          let o = source (joined S p) w ss m in
          let l = below o.from o.there in
          both-and (eqb (prefix_of S w) p) (mem (suffix_of S w) ss)
          (eq-eqb (prefix_of S w) p (ap (prefix_of S) (sym o.is) ∙ prefix-joined p o.from l))
          (subst (λ (k : ℕ). mem k ss ≡ true) (sym (suffix-joined p o.from l) ∙ ap (suffix_of S) o.is) o.there)

      back : (eqb (prefix_of S w) p && mem (suffix_of S w) ss) ≡ true → mem w (map (joined S p) ss) ≡ true
      back e =
          let b = and_both (eqb (prefix_of S w) p) (mem (suffix_of S w) ss) e in
          let q = ap (λ (k : ℕ). joined S k (suffix_of S w)) (sym (eqb-true (prefix_of S w) p b.0)) ∙ joined-parts w in
          subst (λ (k : ℕ). mem k (map (joined S p) ss) ≡ true) q (mem-map (joined S p) (suffix_of S w) ss b.1)

-- Under a prefix

pub under_none : (p : ℕ) (cs : List Container) → mem p (prefixes_of cs) ≡ false → under p cs ≡ []
under_none p [] m = refl
under_none p (c ∷ cs) m = let n = or-none (eqb p c.prefix) (mem p (prefixes_of cs)) m in rw n.0 (under_none p cs n.1)

good_none : (S : ℕ) → GoodSuffixes S []
good_none S = record { below = λ s m. absurd (false≢true m); distinct = tt; ordered = λ e. tt }

module _ (P S : ℕ) where
  pub each-under : (p : ℕ) (cs : List Container) → Every (GoodContainer P S) cs → GoodSuffixes S (under p cs)
  each-under p [] g = good_none S
  each-under p (c ∷ cs) g = by-test (eqb p c.prefix) (λ e. rw e g.0.good) (λ e. rw e (each-under p cs g.1))

  pub under_some : (p : ℕ) (cs : List Container) → Every (GoodContainer P S) cs → mem p (prefixes_of cs) ≡ true → 0 < length (under p cs)
  under_some p [] g m = absurd (false≢true m)
  under_some p (c ∷ cs) g m = go (eqb p c.prefix) refl (under_some p cs g.1)
    where
      go : (b : Bool) → eqb p c.prefix ≡ b → (mem p (prefixes_of cs) ≡ true → 0 < length (under p cs)) → 0 < length (under p (c ∷ cs))
      go true e ih = rw e g.0.some
      go false e ih = rw e (ih (rw e at m))

  -- a word is met in the walk exactly when its suffix lies under its prefix
  pub mem-words_of : (w : ℕ) (cs : List Container) → Ascending (prefixes_of cs) → Every (GoodContainer P S) cs → mem w (words_of S cs) ≡ mem (suffix_of S w) (under (prefix_of S w) cs)
  mem-words_of w [] a g = refl
  mem-words_of w (c ∷ cs) a g =
      mem-append w (container_words S c) (words_of S cs) ∙ ap (λ (b : Bool). b || mem w (words_of S cs)) (mem-container_words S c.prefix w c.suffixes g.0.good.below) ∙ go (ℕ_discrete (prefix_of S w) c.prefix) (mem-words_of w cs a.1 g.1)
    where
      go : Dec (prefix_of S w ≡ c.prefix) → mem w (words_of S cs) ≡ mem (suffix_of S w) (under (prefix_of S w) cs)
          → ((eqb (prefix_of S w) c.prefix && mem (suffix_of S w) c.suffixes) || mem w (words_of S cs)) ≡ mem (suffix_of S w) (under (prefix_of S w) (c ∷ cs))
      go (yes q) ih =
          let n = ih ∙ ap (mem (suffix_of S w)) (ap (λ (k : ℕ). under k cs) q ∙ under_none c.prefix cs (over-not-mem c.prefix (prefixes_of cs) a.0)) in
          rw (eq-eqb (prefix_of S w) c.prefix q, n) (or-false (mem (suffix_of S w) c.suffixes))
      go (no h) ih = rw (ne_eqb (prefix_of S w) c.prefix h) ih

  -- the walk meets no word twice
  pub distinct-words_of : (cs : List Container) → Ascending (prefixes_of cs) → Every (GoodContainer P S) cs → Distinct (words_of S cs)
  distinct-words_of [] a g = tt
  distinct-words_of (c ∷ cs) a g =
      distinct_append (container_words S c) (words_of S cs) (distinct-map (joined S c.prefix) c.suffixes inj g.0.good.distinct) (distinct-words_of cs a.1 g.1) apart
    where
      inj : (x y : ℕ) → joined S c.prefix x ≡ joined S c.prefix y → x ≡ y
      inj x y e = omega arith

      apart : (w : ℕ) → mem w (container_words S c) ≡ true → mem w (words_of S cs) ≡ false
      apart w m =
          let b = and_both (eqb (prefix_of S w) c.prefix) (mem (suffix_of S w) c.suffixes) (sym (mem-container_words S c.prefix w c.suffixes g.0.good.below) ∙ m) in
          mem-words_of w cs a.1 g.1
          ∙ ap (mem (suffix_of S w)) (ap (λ (k : ℕ). under k cs) (eqb-true (prefix_of S w) c.prefix b.0) ∙ under_none c.prefix cs (over-not-mem c.prefix (prefixes_of cs) a.0))

-- Placing and dropping

module _ (p t : ℕ) (ss : List ℕ) where
  pub prefixes-placed : (cs : List Container) → prefixes_of (placed p t ss cs) ≡ put p (prefixes_of cs)
  prefixes-placed [] = refl
  prefixes-placed (c ∷ cs) = go (ltb p c.prefix) refl (eqb p c.prefix) refl (prefixes-placed cs)
    where
      go : (a : Bool) → ltb p c.prefix ≡ a → (b : Bool) → eqb p c.prefix ≡ b → prefixes_of (placed p t ss cs) ≡ put p (prefixes_of cs) → prefixes_of (placed p t ss (c ∷ cs)) ≡ put p (prefixes_of (c ∷ cs))
      go true e b f ih = rw e
      go false e true f ih = rw (e, f) (ap (λ (k : ℕ). k ∷ prefixes_of cs) (eqb-true p c.prefix f))
      go false e false f ih = rw (e, f) (ap (λ (l : List ℕ). c.prefix ∷ l) ih)

  pub under-placed : (q : ℕ) (cs : List Container) → under q (placed p t ss cs) ≡ cond (eqb q p) ss (under q cs)
  under-placed q [] = refl
  under-placed q (c ∷ cs) = go (ltb p c.prefix) refl (ℕ_discrete p c.prefix) (eqb q p) refl (under-placed q cs)
    where
      go : (a : Bool) → ltb p c.prefix ≡ a → Dec (p ≡ c.prefix) → (d : Bool) → eqb q p ≡ d → under q (placed p t ss cs) ≡ cond (eqb q p) ss (under q cs)
          → under q (placed p t ss (c ∷ cs)) ≡ cond (eqb q p) ss (under q (c ∷ cs))
      go true e o d k ih = rw e
      go false e (yes i) true k ih = rw (e, eq-eqb p c.prefix i, k)
      go false e (yes i) false k ih = rw (e, eq-eqb p c.prefix i, k, ← i, k)
      go false e (no h) true k ih = rw (e, ne_eqb p c.prefix h, k, ne_eqb q c.prefix (λ j. h (sym (eqb-true q p k) ∙ j))) (ih ∙ rw k)
      go false e (no h) false k ih = rw (e, ne_eqb p c.prefix h, k) (ap (cond (eqb q c.prefix) c.suffixes) (ih ∙ rw k))

  pub each_placed : (G : Container → Type 0) (cs : List Container) → ((u : ℕ) → G (record { prefix = p; slot = u; suffixes = ss })) → Every G cs → Every G (placed p t ss cs)
  each_placed G [] n g = (n t, tt)
  each_placed G (c ∷ cs) n g = go (ltb p c.prefix) refl (eqb p c.prefix) refl (each_placed G cs n g.1)
    where
      go : (a : Bool) → ltb p c.prefix ≡ a → (b : Bool) → eqb p c.prefix ≡ b → Every G (placed p t ss cs) → Every G (placed p t ss (c ∷ cs))
      go true e b f ih = rw e (n t, g)
      go false e true f ih = rw (e, f) (n c.slot, g.1)
      go false e false f ih = rw (e, f) (g.0, ih)

pub prefixes-dropped : (p : ℕ) (cs : List Container) → prefixes_of (dropped p cs) ≡ without p (prefixes_of cs)
prefixes-dropped p [] = refl
prefixes-dropped p (c ∷ cs) = by-test (eqb p c.prefix) (λ e. rw e (prefixes-dropped p cs)) (λ e. rw e (ap (λ (l : List ℕ). c.prefix ∷ l) (prefixes-dropped p cs)))

pub under-dropped : (p q : ℕ) (cs : List Container) → under q (dropped p cs) ≡ cond (eqb q p) [] (under q cs)
under-dropped p q [] = go (eqb q p)
  where
    go : (b : Bool) → ◌≡◌ {A = List ℕ} [] (cond b [] [])
    go true = refl
    go false = refl
under-dropped p q (c ∷ cs) = go (ℕ_discrete p c.prefix) (eqb q p) refl (under-dropped p q cs)
  where
    go : Dec (p ≡ c.prefix) → (d : Bool) → eqb q p ≡ d → under q (dropped p cs) ≡ cond (eqb q p) [] (under q cs) → under q (dropped p (c ∷ cs)) ≡ cond (eqb q p) [] (under q (c ∷ cs))
    go (yes i) true k ih = rw (eq-eqb p c.prefix i) (ih ∙ rw k)
    go (yes i) false k ih = rw (eq-eqb p c.prefix i) (ih ∙ rw (k, ← i, k))
    go (no h) true k ih = rw (ne_eqb p c.prefix h, k, ne_eqb q c.prefix (λ j. h (sym (eqb-true q p k) ∙ j))) (ih ∙ rw k)
    go (no h) false k ih = rw (ne_eqb p c.prefix h, k) (ap (cond (eqb q c.prefix) c.suffixes) (ih ∙ rw k))

pub each-dropped : (G : Container → Type 0) (p : ℕ) (cs : List Container) → Every G cs → Every G (dropped p cs)
each-dropped G p [] g = tt
each-dropped G p (c ∷ cs) g = by-test (eqb p c.prefix) (λ e. rw e (each-dropped G p cs g.1)) (λ e. rw e (g.0, each-dropped G p cs g.1))

-- Slots

-- a prefix that has a container keeps its slot
pub slots-placed-old : (p t : ℕ) (ss : List ℕ) (cs : List Container) → Ascending (prefixes_of cs) → mem p (prefixes_of cs) ≡ true → slots_of (placed p t ss cs) ≡ slots_of cs
slots-placed-old p t ss [] a m = absurd (false≢true m)
slots-placed-old p t ss (c ∷ cs) a m = go (ltb p c.prefix) refl (eqb p c.prefix) refl (slots-placed-old p t ss cs a.1)
  where
    go : (b : Bool) → ltb p c.prefix ≡ b → (d : Bool) → eqb p c.prefix ≡ d → (mem p (prefixes_of cs) ≡ true → slots_of (placed p t ss cs) ≡ slots_of cs) → slots_of (placed p t ss (c ∷ cs)) ≡ slots_of (c ∷ cs)
    go true e d f ih =
        let l = ltb-true p c.prefix e in
        or_cases (eqb p c.prefix) (mem p (prefixes_of cs)) m (λ i. let q = eqb-true p c.prefix i in absurd (omega arith)) (λ i. let k : c.prefix < p = over-mem (prefixes_of cs) a.0 i in absurd (omega arith))
    go false e true f ih = rw (e, f)
    go false e false f ih = rw (e, f) (ap (λ (l : List ℕ). c.slot ∷ l) (ih (rw f at m)))

-- a new prefix brings the slot that it is given
pub slots-placed-new : (x p t : ℕ) (ss : List ℕ) (cs : List Container) → mem p (prefixes_of cs) ≡ false → mem x (slots_of (placed p t ss cs)) ≡ (eqb x t || mem x (slots_of cs))
slots-placed-new x p t ss [] m = refl
slots-placed-new x p t ss (c ∷ cs) m = go (ltb p c.prefix) refl (slots-placed-new x p t ss cs n.1)
  where
    n : (eqb p c.prefix ≡ false) × (mem p (prefixes_of cs) ≡ false)
    n = or-none (eqb p c.prefix) (mem p (prefixes_of cs)) m

    go : (b : Bool) → ltb p c.prefix ≡ b → mem x (slots_of (placed p t ss cs)) ≡ (eqb x t || mem x (slots_of cs)) → mem x (slots_of (placed p t ss (c ∷ cs))) ≡ (eqb x t || (eqb x c.slot || mem x (slots_of cs)))
    go true e ih = rw e
    go false e ih = rw (e, n.0) (ap (λ (b : Bool). eqb x c.slot || b) ih ∙ or_swap (eqb x c.slot) (eqb x t) (mem x (slots_of cs)))

dropped-none : (p : ℕ) (cs : List Container) → mem p (prefixes_of cs) ≡ false → dropped p cs ≡ cs
dropped-none p [] m = refl
dropped-none p (c ∷ cs) m = let n = or-none (eqb p c.prefix) (mem p (prefixes_of cs)) m in rw n.0 (ap (λ (l : List Container). c ∷ l) (dropped-none p cs n.1))

-- dropping a container takes its slot away and no other
pub slots-dropped : (x p : ℕ) (cs : List Container) → Ascending (prefixes_of cs) → mem p (prefixes_of cs) ≡ true → mem x (slots_of cs) ≡ (eqb x (slot_of p cs) || mem x (slots_of (dropped p cs)))
slots-dropped x p [] a m = absurd (false≢true m)
slots-dropped x p (c ∷ cs) a m = go (eqb p c.prefix) refl (slots-dropped x p cs a.1)
  where
    go : (b : Bool) → eqb p c.prefix ≡ b → (mem p (prefixes_of cs) ≡ true → mem x (slots_of cs) ≡ (eqb x (slot_of p cs) || mem x (slots_of (dropped p cs))))
        → (eqb x c.slot || mem x (slots_of cs)) ≡ (eqb x (slot_of p (c ∷ cs)) || mem x (slots_of (dropped p (c ∷ cs))))
    go true e ih =
        rw (e, dropped-none p cs (subst (λ (k : ℕ). mem k (prefixes_of cs) ≡ false) (sym (eqb-true p c.prefix e)) (over-not-mem c.prefix (prefixes_of cs) a.0)))
    go false e ih = rw e (ap (λ (b : Bool). eqb x c.slot || b) (ih (rw e at m)) ∙ or_swap (eqb x c.slot) (eqb x (slot_of p cs)) (mem x (slots_of (dropped p cs))))

-- Lengths

pub length-containers : (cs : List Container) → length cs ≡ length (prefixes_of cs)
length-containers cs = sym (length-map cs (λ c. c.prefix))

pub length-put-new : (p : ℕ) (xs : List ℕ) → Ascending xs → mem p xs ≡ false → length (put p xs) ≡ suc (length xs)
length-put-new p xs a m = length-same (put p xs) (p ∷ xs) (ascending-distinct (put p xs) (ascending-put p xs a)) (m, ascending-distinct xs a) (λ z. mem-put z p xs)

-- what is there already changes nothing
pub put-member : (p : ℕ) (xs : List ℕ) → Ascending xs → mem p xs ≡ true → put p xs ≡ xs
put-member p xs a m = ascending-unique (put p xs) xs (ascending-put p xs a) a same
  where
    same : SameMembers (put p xs) xs
    same z = mem-put z p xs ∙ by-test (eqb z p) (λ e. rw e (sym (subst (λ (k : ℕ). mem k xs ≡ true) (sym (eqb-true z p e)) m))) (λ e. rw e)

pub length-put-old : (p : ℕ) (xs : List ℕ) → Ascending xs → mem p xs ≡ true → length (put p xs) ≡ length xs
length-put-old p xs a m = ap length (put-member p xs a m)

pub length_without : (p : ℕ) (xs : List ℕ) → Distinct xs → mem p xs ≡ true → suc (length (without p xs)) ≡ length xs
length_without p xs d m = length-same (p ∷ without p xs) xs (mem-without p p xs ∙ rw (eqb-self p), distinct-keep (λ y. not (eqb p y)) xs d) d same
  where
    same : SameMembers (p ∷ without p xs) xs
    same z = by-test (eqb z p)
        (λ e. rw e (sym (subst (λ (k : ℕ). mem k xs ≡ true) (sym (eqb-true z p e)) m)))
        (λ e. rw e (mem-without p z xs ∙ rw (eqb-sym p z, e)))

-- a list that is not empty has an entry
pub record Entry (xs : List ℕ) : Type 0 where
  pub entry : ℕ
  pub there : mem entry xs ≡ true

pub first : (xs : List ℕ) → 0 < length xs → Entry xs
first [] l = absurd (omega arith)
first (x ∷ xs) l = record { entry = x; there = or_left (eqb x x) (mem x xs) (eqb-self x) }

-- the prefixes of the walk are those of the containers
mem-prefixes : (P S q : ℕ) (cs : List Container) → Ascending (prefixes_of cs) → Every (GoodContainer P S) cs → mem q (map (prefix_of S) (words_of S cs)) ≡ mem q (prefixes_of cs)
mem-prefixes P S q cs a g = iff-eq (mem q (map (prefix_of S) (words_of S cs))) (mem q (prefixes_of cs)) forth back
  where
    forth : mem q (map (prefix_of S) (words_of S cs)) ≡ true → mem q (prefixes_of cs) ≡ true
    forth m =
        let o = source (prefix_of S) q (words_of S cs) m in
        let i = subst (λ (k : ℕ). mem (suffix_of S o.from) (under k cs) ≡ true) o.is (sym (mem-words_of P S o.from cs a g) ∙ o.there) in
        by-test (mem q (prefixes_of cs)) (λ e. e) (λ e. absurd (false≢true (rw (under_none q cs e) at i)))

    back : mem q (prefixes_of cs) ≡ true → mem q (map (prefix_of S) (words_of S cs)) ≡ true
    back m =
        let f = first (under q cs) (under_some P S q cs g m) in
        let l = (each-under P S q cs g).below f.entry f.there in
        let w = joined S q f.entry in
        let e : prefix_of S w ≡ q = prefix-joined S q f.entry l in
        let h : suffix_of S w ≡ f.entry = suffix-joined S q f.entry l in
        let i : mem (suffix_of S w) (under (prefix_of S w) cs) ≡ true = rw (e, h) f.there in
        subst (λ (k : ℕ). mem k (map (prefix_of S) (words_of S cs)) ≡ true) e (mem-map (prefix_of S) w (words_of S cs) (mem-words_of P S w cs a g ∙ i))

-- and so are the different ones, ascending
pub prefixes-words : (P S : ℕ) (cs : List Container) → Ascending (prefixes_of cs) → Every (GoodContainer P S) cs → prefixes S (words_of S cs) ≡ prefixes_of cs
prefixes-words P S cs a g =
    let ps = map (prefix_of S) (words_of S cs) in
    ascending-unique (sorted ps) (prefixes_of cs) (ascending-sorted ps) a (λ q. mem-sorted q ps ∙ mem-prefixes P S q cs a g)
