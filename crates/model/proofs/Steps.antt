-- Insert and remove keep a reading good, and change the members as a plain set's do. Assumes nothing.
use mathlib.Core.Path.{◌≡◌, refl, sym, ap, ◌∙◌, subst}
use mathlib.Core.Bool.{Bool, true, false, cond, not, ◌&&◌, ◌||◌, true≢false, false≢true}
use mathlib.Core.List.{List, [], ◌∷◌, ◌++◌}
use Prim.Native.Nat.{ℕ, suc, ◌+◌, ◌^◌, ◌≤◌, ◌<◌}
use native.Mathlib.Omega.{arith}
use lib.Pow.{shr_lt}
use lib.Dec.{eqb, ltb, leb}
use lib.ListN.{length}
use borrow.Author.Tests.{eqb-true, eq-eqb, leb-true}
use Rattle.lists.specs.Lists.{Ascending, Distinct, Every, mem, put}
use Rattle.model.specs.Change.{added, dropped, insert, is_none, placed, remove, rest, slot_of, taken, top, with}
use Rattle.model.specs.Good.{Good, GoodContainer, GoodSuffixes}
use Rattle.model.specs.Reading.{Container, Reading, containers_in_use, has, prefixes_of, slots_of, under, walk, words_of}
use Rattle.model.specs.Room.{containers_needed, fits, nodes_needed, prefixes}
use Rattle.model.specs.Words.{joined, prefix_of, suffix_of}
use Rattle.lists.proofs.Laws.{or_swap, or_assoc, or_left, and_both, both-and, iff-eq, by-test, eqb-self, eqb-sym, mem-append, mem-some, ascending-put, ascending-keep, ascending-distinct}
use Rattle.model.proofs.RoomLaws.{fits-within, fits-same}
use Rattle.model.proofs.StoredLaws.{mem-taken, good-taken, mem-added, good-added}
use Rattle.model.proofs.ContainerLaws.{joined-parts, suffix-lt, under_none, each-under, under_some, mem-words_of, distinct-words_of, prefixes-placed, under-placed, each_placed, prefixes-dropped, under-dropped, each-dropped, slots-placed-old, slots-placed-new, slots-dropped, length-containers, length-put-new, length-put-old, length_without, prefixes-words}

-- a word is told by its two parts
pub parts-eqb : (S v w : ℕ) → eqb v w ≡ (eqb (prefix_of S v) (prefix_of S w) && eqb (suffix_of S v) (suffix_of S w))
parts-eqb S v w =
    iff-eq (eqb v w) (eqb (prefix_of S v) (prefix_of S w) && eqb (suffix_of S v) (suffix_of S w))
    (λ e. let q = eqb-true v w e in
    both-and (eqb (prefix_of S v) (prefix_of S w)) (eqb (suffix_of S v) (suffix_of S w)) (eq-eqb (prefix_of S v) (prefix_of S w) (ap (prefix_of S) q)) (eq-eqb (suffix_of S v) (suffix_of S w) (ap (suffix_of S) q)))
    (λ e. let b = and_both (eqb (prefix_of S v) (prefix_of S w)) (eqb (suffix_of S v) (suffix_of S w)) e in
    let p = eqb-true (prefix_of S v) (prefix_of S w) b.0 in
    let s = eqb-true (suffix_of S v) (suffix_of S w) b.1 in
    eq-eqb v w (sym (joined-parts S v) ∙ ap (λ (k : ℕ). joined S k (suffix_of S v)) p ∙ ap (joined S (prefix_of S w)) s ∙ joined-parts S w))

module _ (r : Reading) (g : Good r) where
  pub has-is : (w : ℕ) → has r w ≡ mem (suffix_of r.S w) (under (prefix_of r.S w) r.containers)
  unfolding has walk
  has-is w = mem-words_of r.P r.S w r.containers g.ascending g.each

  pub walk-distinct : Distinct (walk r)
  unfolding walk
  walk-distinct = distinct-words_of r.P r.S r.containers g.ascending g.each

  -- the different prefixes of the members are the containers' prefixes
  pub prefixes-are : prefixes r.S (walk r) ≡ prefixes_of r.containers
  unfolding walk
  prefixes-are = prefixes-words r.P r.S r.containers g.ascending g.each

  pub containers-are : containers_in_use r ≡ containers_needed r.S (walk r)
  unfolding containers_in_use containers_needed
  containers-are = length-containers r.containers ∙ ap length (sym prefixes-are)

-- other suffixes under one prefix, the rest as before
pub record Replaced (P S p : ℕ) (new : List ℕ) (cs ds : List Container) : Type 0 where
  pub ascending : Ascending (prefixes_of ds)
  pub each : Every (GoodContainer P S) ds
  pub under-is : (q : ℕ) → under q ds ≡ cond (eqb q p) new (under q cs)

mem-replaced : {P S p : ℕ} {new : List ℕ} {cs ds : List Container} → Replaced P S p new cs ds → Ascending (prefixes_of cs) → Every (GoodContainer P S) cs
    → (v : ℕ) → mem v (words_of S ds) ≡ cond (eqb (prefix_of S v) p) (mem (suffix_of S v) new) (mem v (words_of S cs))
mem-replaced {P} {S} {p} {new} {cs} {ds} k a g v =
    mem-words_of P S v ds k.ascending k.each ∙ ap (mem (suffix_of S v)) (k.under-is (prefix_of S v))
    ∙ by-test (eqb (prefix_of S v) p) (λ e. rw e) (λ e. rw e (sym (mem-words_of P S v cs a g)))

rest-length : (fs : List ℕ) → 0 < length fs → suc (length (rest fs)) ≡ length fs
rest-length [] h = absurd (omega arith)
rest-length (x ∷ xs) h = refl

top-rest : (t : ℕ) (fs : List ℕ) → 0 < length fs → (eqb t (top fs) || mem t (rest fs)) ≡ mem t fs
top-rest t [] h = absurd (omega arith)
top-rest t (x ∷ xs) h = refl

pub is_none-some : (xs : List ℕ) → 0 < length xs → is_none xs ≡ false
is_none-some [] h = absurd (omega arith)
is_none-some (x ∷ xs) h = refl

is_none-nil : (xs : List ℕ) → is_none xs ≡ true → xs ≡ []
is_none-nil [] e = refl
is_none-nil (x ∷ xs) e = absurd (false≢true e)

is_none-not : (xs : List ℕ) → is_none xs ≡ false → 0 < length xs
is_none-not [] e = absurd (true≢false e)
is_none-not (x ∷ xs) e = omega arith

module _ (r : Reading) (g : Good r) (w : ℕ) (l : w < 2 ^ (r.P + r.S)) where
  abbrev pub p : ℕ
  p = prefix_of r.S w

  abbrev pub s : ℕ
  s = suffix_of r.S w

  abbrev pub old : List ℕ
  old = under p r.containers

  -- Insert

  abbrev pub containers⁺ : List Container
  containers⁺ = placed p (top r.free) (added s old) r.containers

  abbrev pub free⁺ : List ℕ
  free⁺ = cond (is_none old) (rest r.free) r.free

  pub insert-old : has r w ≡ true → insert w r ≡ r
  unfolding insert
  insert-old e = rw e

  pub insert-new : has r w ≡ false → insert w r ≡ with r containers⁺ free⁺
  unfolding insert
  insert-new e = rw e

  fresh-suffix : has r w ≡ false → mem s old ≡ false
  fresh-suffix e = sym (has-is r g w) ∙ e

  pub replaced⁺ : has r w ≡ false → Replaced r.P r.S p (added s old) r.containers containers⁺
  replaced⁺ e = record {
    ascending = subst Ascending (sym (prefixes-placed p (top r.free) (added s old) r.containers)) (ascending-put p (prefixes_of r.containers) g.ascending);
    each = each_placed p (top r.free) (added s old) (GoodContainer r.P r.S) r.containers (λ u. record {
      inside = shr_lt r.P r.S l;
      some = mem-some s (added s old) (mem-added s s old ∙ or_left (eqb s s) (mem s old) (eqb-self s));
      good = good-added r.S s old (each-under r.P r.S p r.containers g.each) (suffix-lt r.S w) (fresh-suffix e);
    }) g.each;
    under-is = λ q. under-placed p (top r.free) (added s old) q r.containers;
  }

  pub members-insert : (v : ℕ) → mem v (walk (insert w r)) ≡ (eqb v w || mem v (walk r))
  unfolding walk has
  members-insert v = by-test (has r w) stays grows
    where
      stays : has r w ≡ true → mem v (walk (insert w r)) ≡ (eqb v w || mem v (walk r))
      stays e = rw (insert-old e) (by-test (eqb v w) (λ i. rw (i, eqb-true v w i) e) (λ i. rw i))

      at : (b : Bool) → eqb (prefix_of r.S v) p ≡ b → cond (eqb (prefix_of r.S v) p) (mem (suffix_of r.S v) (added s old)) (mem v (walk r)) ≡ (eqb v w || mem v (walk r))
      at true i =
          rw (parts-eqb r.S v w, i, has-is r g v, eqb-true (prefix_of r.S v) p i) (mem-added (suffix_of r.S v) s old)
      at false i = rw (parts-eqb r.S v w, i)

      grows : has r w ≡ false → mem v (walk (insert w r)) ≡ (eqb v w || mem v (walk r))
      grows e = rw (insert-new e) (mem-replaced (replaced⁺ e) g.ascending g.each v ∙ at (eqb (prefix_of r.S v) p) refl)

  abbrev known : Bool
  known = mem p (prefixes_of r.containers)

  old-known : known ≡ true → is_none old ≡ false
  old-known e = is_none-some old (under_some r.P r.S p r.containers g.each e)

  old-unknown : known ≡ false → is_none old ≡ true
  old-unknown e = ap is_none (under_none p r.containers e)

  -- where the set with the word fits, a new prefix finds a free slot
  slot-free : fits r.S r.C r.N (w ∷ walk r) ≡ true → known ≡ false → 0 < length r.free
  unfolding fits containers_needed
  slot-free f e =
      let b = (and_both (leb (containers_needed r.S (w ∷ walk r)) r.C) (leb (nodes_needed r.S (w ∷ walk r)) r.N) f).0 in
      let c : length (put p (prefixes r.S (walk r))) ≤ r.C = leb-true (containers_needed r.S (w ∷ walk r)) r.C b in
      let c' : length (put p (prefixes_of r.containers)) ≤ r.C = rw (prefixes-are r g) at c in
      let n = length-put-new p (prefixes_of r.containers) g.ascending e in
      let k = length-containers r.containers in
      let t = g.slots in
      omega arith

  pub good-insert : fits r.S r.C r.N (w ∷ walk r) ≡ true → Good (insert w r)
  unfolding walk
  good-insert f = by-test (has r w) (λ e. subst Good (sym (insert-old e)) g) (λ e. subst Good (sym (insert-new e)) (made e))
    where
      length⁺ : length containers⁺ ≡ length (put p (prefixes_of r.containers))
      length⁺ = length-containers containers⁺ ∙ ap length (prefixes-placed p (top r.free) (added s old) r.containers)

      slots⁺ : (b : Bool) → known ≡ b → length containers⁺ + length free⁺ ≡ r.C
      slots⁺ true e =
          let a = length⁺ ∙ length-put-old p (prefixes_of r.containers) g.ascending e in
          let k = length-containers r.containers in
          let t = g.slots in
          rw (old-known e) (omega arith)
      slots⁺ false e =
          let a = length⁺ ∙ length-put-new p (prefixes_of r.containers) g.ascending e in
          let k = length-containers r.containers in
          let t = g.slots in
          let n = rest-length r.free (slot-free f e) in
          rw (old-unknown e) (omega arith)

      named⁺ : (b : Bool) → known ≡ b → (t : ℕ) → mem t (slots_of containers⁺ ++ free⁺) ≡ ltb t r.C
      named⁺ true e t = rw (old-known e, slots-placed-old p (top r.free) (added s old) r.containers g.ascending e) (g.named t)
      named⁺ false e t =
          rw (old-unknown e)
          (mem-append t (slots_of containers⁺) (rest r.free)
          ∙ ap (λ (b : Bool). b || mem t (rest r.free)) (slots-placed-new t p (top r.free) (added s old) r.containers e)
          ∙ or_assoc (eqb t (top r.free)) (mem t (slots_of r.containers)) (mem t (rest r.free))
          ∙ or_swap (eqb t (top r.free)) (mem t (slots_of r.containers)) (mem t (rest r.free))
          ∙ ap (λ (b : Bool). mem t (slots_of r.containers) || b) (top-rest t r.free (slot-free f e))
          ∙ sym (mem-append t (slots_of r.containers) r.free)
          ∙ g.named t)

      made : has r w ≡ false → Good (with r containers⁺ free⁺)
      made e = record {
        ascending = (replaced⁺ e).ascending;
        each = (replaced⁺ e).each;
        slots = slots⁺ known refl;
        named = named⁺ known refl;
        room = fits-same r.S (walk (with r containers⁺ free⁺)) (w ∷ walk r) (λ v. ap (mem v) (ap walk (sym (insert-new e))) ∙ members-insert v) r.C r.N ∙ f;
      }

  -- Remove

  abbrev pub left : List ℕ
  left = taken s old

  pub remove-none : has r w ≡ false → remove w r ≡ r
  unfolding remove
  remove-none e = rw e

  pub remove-last : has r w ≡ true → is_none left ≡ true → remove w r ≡ with r (dropped p r.containers) (slot_of p r.containers ∷ r.free)
  unfolding remove
  remove-last e n = rw (e, n)

  pub remove-one : has r w ≡ true → is_none left ≡ false → remove w r ≡ with r (placed p 0 left r.containers) r.free
  unfolding remove
  remove-one e n = rw (e, n)

  pub good_old : GoodSuffixes r.S old
  good_old = each-under r.P r.S p r.containers g.each

  pub replaced⁰ : is_none left ≡ true → Replaced r.P r.S p left r.containers (dropped p r.containers)
  replaced⁰ n = record {
    ascending = subst Ascending (sym (prefixes-dropped p r.containers)) (ascending-keep (λ y. not (eqb p y)) (prefixes_of r.containers) g.ascending);
    each = each-dropped (GoodContainer r.P r.S) p r.containers g.each;
    under-is = λ q. under-dropped p q r.containers ∙ ap (λ (xs : List ℕ). cond (eqb q p) xs (under q r.containers)) (sym (is_none-nil left n));
  }

  pub replaced⁻ : is_none left ≡ false → Replaced r.P r.S p left r.containers (placed p 0 left r.containers)
  replaced⁻ n = record {
    ascending = subst Ascending (sym (prefixes-placed p 0 left r.containers)) (ascending-put p (prefixes_of r.containers) g.ascending);
    each = each_placed p 0 left (GoodContainer r.P r.S) r.containers (λ u. record {
      inside = shr_lt r.P r.S l;
      some = is_none-not left n;
      good = good-taken r.S s old good_old;
    }) g.each;
    under-is = λ q. under-placed p 0 left q r.containers;
  }

  pub members-remove : (v : ℕ) → mem v (walk (remove w r)) ≡ (not (eqb w v) && mem v (walk r))
  unfolding walk has
  members-remove v = by-test (has r w) shrinks stays
    where
      stays : has r w ≡ false → mem v (walk (remove w r)) ≡ (not (eqb w v) && mem v (walk r))
      stays e = rw (remove-none e) (by-test (eqb w v) (λ i. rw (i, ← eqb-true w v i) e) (λ i. rw i))

      at : (b : Bool) → eqb (prefix_of r.S v) p ≡ b → cond (eqb (prefix_of r.S v) p) (mem (suffix_of r.S v) left) (mem v (walk r)) ≡ (not (eqb w v) && mem v (walk r))
      at true i = rw (eqb-sym w v, parts-eqb r.S v w, i, has-is r g v, eqb-true (prefix_of r.S v) p i, eqb-sym (suffix_of r.S v) s) (mem-taken (suffix_of r.S v) s old good_old.distinct)
      at false i = rw (eqb-sym w v, parts-eqb r.S v w, i)

      shrinks : has r w ≡ true → mem v (walk (remove w r)) ≡ (not (eqb w v) && mem v (walk r))
      shrinks e = by-test (is_none left)
          (λ n. rw (remove-last e n) (mem-replaced (replaced⁰ n) g.ascending g.each v ∙ at (eqb (prefix_of r.S v) p) refl))
          (λ n. rw (remove-one e n) (mem-replaced (replaced⁻ n) g.ascending g.each v ∙ at (eqb (prefix_of r.S v) p) refl))

  pub good-remove : Good (remove w r)
  unfolding walk
  good-remove = by-test (has r w) shrinks (λ e. subst Good (sym (remove-none e)) g)
    where
      is_known : has r w ≡ true → known ≡ true
      is_known e = by-test known (λ k. k) (λ k. absurd (false≢true (ap (mem s) (sym (under_none p r.containers k)) ∙ sym (has-is r g w) ∙ e)))

      room⁻ : {r' : Reading} → remove w r ≡ r' → fits r.S r.C r.N (walk r') ≡ true
      room⁻ {r'} q =
          fits-within r.S (walk r') (walk r) (λ v m. (and_both (not (eqb w v)) (mem v (walk r)) (sym (members-remove v) ∙ ap (λ (x : Reading). mem v (walk x)) q ∙ m)).1) r.C r.N g.room

      last : has r w ≡ true → is_none left ≡ true → Good (with r (dropped p r.containers) (slot_of p r.containers ∷ r.free))
      last e n = record {
        ascending = (replaced⁰ n).ascending;
        each = (replaced⁰ n).each;
        slots =
            let a = length-containers (dropped p r.containers) ∙ ap length (prefixes-dropped p r.containers) in
            let b = length_without p (prefixes_of r.containers) (ascending-distinct (prefixes_of r.containers) g.ascending) (is_known e) in
            let k = length-containers r.containers in
            let t = g.slots in
            omega arith;
        named = λ t.
            mem-append t (slots_of (dropped p r.containers)) (slot_of p r.containers ∷ r.free)
            ∙ or_swap (mem t (slots_of (dropped p r.containers))) (eqb t (slot_of p r.containers)) (mem t r.free)
            ∙ sym (or_assoc (eqb t (slot_of p r.containers)) (mem t (slots_of (dropped p r.containers))) (mem t r.free))
            ∙ ap (λ (b : Bool). b || mem t r.free) (sym (slots-dropped t p r.containers g.ascending (is_known e)))
            ∙ sym (mem-append t (slots_of r.containers) r.free)
            ∙ g.named t;
        room = room⁻ (remove-last e n);
      }

      one_less : has r w ≡ true → is_none left ≡ false → Good (with r (placed p 0 left r.containers) r.free)
      one_less e n = record {
        ascending = (replaced⁻ n).ascending;
        each = (replaced⁻ n).each;
        slots =
            let a = length-containers (placed p 0 left r.containers) ∙ ap length (prefixes-placed p 0 left r.containers) ∙ length-put-old p (prefixes_of r.containers) g.ascending (is_known e) in
            let k = length-containers r.containers in
            let t = g.slots in
            omega arith;
        named = λ t. rw (slots-placed-old p 0 left r.containers g.ascending (is_known e)) (g.named t);
        room = room⁻ (remove-one e n);
      }

      shrinks : has r w ≡ true → Good (remove w r)
      shrinks e = by-test (is_none left) (λ n. subst Good (sym (remove-last e n)) (last e n)) (λ n. subst Good (sym (remove-one e n)) (one_less e n))
