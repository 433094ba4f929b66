-- What the model's lookup, insert, remove and room come to in terms of the prefix's bit and the suffixes in the slot at its rank. Assumes nothing.
use Prim.Native.Nat.{ℕ, suc, ◌+◌, ◌*◌, ◌^◌, ◌<◌, ◌≤◌}
use mathlib.Core.Path.{◌≡◌, refl, sym, ap, ap₂, ◌∙◌, subst}
use mathlib.Core.Bool.{Bool, true, false, cond, ◌&&◌}
use mathlib.Core.List.{List, [], ◌∷◌}
use native.Mathlib.Omega.{arith}
use lib.Arith.{digits_lt}
use lib.Pow.{pow-add}
use lib.Dec.{eqb, ltb, leb}
use lib.ListN.{length}
use borrow.Author.Tests.{eqb-true, le-leb, le-ltb, leb-true}
use Rattle.lists.specs.Lists.{one, mem, Distinct}
use Rattle.lists.proofs.Laws.{and_both, by-test, eqb-self, eqb-sym, length-same}
use Rattle.model.specs.Words.{prefix_of, suffix_of, bytes_of}
use Rattle.model.specs.Room.{threshold, container_nodes, containers_needed, nodes_needed, fits}
use Rattle.model.specs.Reading.{Container, walk, has, nodes_in_use, under}
use Rattle.model.specs.Change.{added, taken, placed, dropped, top, rest, is_none, with, insert, remove}
use Rattle.model.specs.Good.{Good, GoodSuffixes}
use Rattle.model.proofs.ContainerLaws.{joined-parts, suffix-lt, each-under, under_some}
use Rattle.model.proofs.StoredLaws.{mem-taken, distinct-taken, mem-added, good-added, appended}
use Rattle.model.proofs.Steps.{has-is, is_none-some, insert-old, insert-new, remove-none, remove-last, remove-one}
use Rattle.model.proofs.InUse.{nodes-insert, containers-insert, member-has-room}
use Rattle.region.specs.Areas.{Numbers}
use Rattle.region.specs.Seen.{Seen}
use Rattle.region.specs.Read.{suffixes, read}
use Rattle.region.specs.WellFormed.{rank_of, Placed}
use Rattle.region.proofs.Containers.{k-fits, containers-length}
use Rattle.steps.proofs.Places.{placed-any, set_known, under-clear, under-set, slot-set}

and-true : (a : Bool) → (a && true) ≡ a
and-true true = refl
and-true false = refl

none_left : (xs : List ℕ) → length xs ≡ 0 → is_none xs ≡ true
none_left [] e = refl
none_left (x ∷ xs) e = absurd (omega arith)

-- a vector has no node
vector-nodes : (b : ℕ) (ss : List ℕ) → length ss ≤ threshold → container_nodes b ss ≡ 0
unfolding container_nodes
vector-nodes b ss l = rw (le-ltb threshold (length ss) l)

module _ (g : Numbers) (v : Seen) (pl : Placed g v) (bits : (p : ℕ) → v.bit p < 2) (good : Good (read g v)) (x : ℕ) (small : prefix_of g.S x < 2 ^ g.P) where
  abbrev p : ℕ
  p = prefix_of g.S x

  abbrev s : ℕ
  s = suffix_of g.S x

  abbrev containers : List Container
  containers = (read g v).containers

  abbrev free : List ℕ
  free = (read g v).free

  -- a word whose prefix is in range is in range
  word_small : x < 2 ^ (g.P + g.S)
  word_small = subst (λ (n : ℕ). n < 2 ^ (g.P + g.S)) (joined-parts g.S x) (subst (λ (n : ℕ). p * 2 ^ g.S + s < n) (sym (pow-add 2 g.P g.S)) (digits_lt small (suffix-lt g.S x)))

  has-under : has (read g v) x ≡ mem s (under p containers)
  unfolding read
  has-under = has-is (read g v) good x

  -- Room, with what stands under the prefix

  module _ (used-is : nodes_in_use (read g v) ≡ g.used) where
    used-fits : g.used ≤ g.N
    unfolding read nodes_in_use fits
    used-fits =
        let l = leb-true (nodes_needed g.S (walk (read g v))) g.N (and_both (leb (containers_needed g.S (walk (read g v))) g.C) (leb (nodes_needed g.S (walk (read g v))) g.N) good.room).1 in
        omega (arith, used-is)

    room-under : has (read g v) x ≡ false → (needed : ℕ) → needed + container_nodes (bytes_of g.S) (under p containers) ≡ g.used + container_nodes (bytes_of g.S) (added s (under p containers))
        → fits g.S g.C g.N (x ∷ walk (read g v)) ≡ (leb (g.k + one (is_none (under p containers))) g.C && leb needed g.N)
    unfolding read fits
    room-under e needed q =
        let a : containers_needed g.S (x ∷ walk (read g v)) ≡ g.k + one (is_none (under p containers)) = containers-insert (read g v) good x ∙ ap (λ (n : ℕ). n + one (is_none (under p containers))) (containers-length g v pl bits) in
        let b : nodes_needed g.S (x ∷ walk (read g v)) ≡ needed = omega (arith, nodes-insert (read g v) good x word_small e, used-is, q) in
        ap₂ (λ (m n : ℕ). leb m g.C && leb n g.N) a b

  -- The prefix is clear

  module _ (e : v.bit p ≡ 0) where
    none : under p containers ≡ []
    none = under-clear g v pl bits p e

    pub has-clear : has (read g v) x ≡ false
    has-clear = has-under ∙ ap (mem s) none

    pub insert-clear : insert x (read g v) ≡ with (read g v) (placed p (top free) (s ∷ []) containers) (rest free)
    unfolding read
    insert-clear =
        insert-new (read g v) good x word_small has-clear
        ∙ ap (λ (old : List ℕ). with (read g v) (placed p (top free) (added s old) containers) (cond (is_none old) (rest free) free)) none
        ∙ ap (λ (ss : List ℕ). with (read g v) (placed p (top free) ss containers) (rest free)) (appended s [] (omega arith))

    pub remove-clear : remove x (read g v) ≡ read g v
    unfolding read
    remove-clear = remove-none (read g v) good x word_small has-clear

    -- a free slot is enough
    pub room-clear : nodes_in_use (read g v) ≡ g.used → fits g.S g.C g.N (x ∷ walk (read g v)) ≡ ltb g.k g.C
    room-clear u =
        let b : ℕ = bytes_of g.S in
        let before : container_nodes b (under p containers) ≡ 0 = ap (container_nodes b) none ∙ vector-nodes b [] (omega arith) in
        let after : container_nodes b (added s (under p containers)) ≡ 0 = ap (λ (ss : List ℕ). container_nodes b (added s ss)) none ∙ ap (container_nodes b) (appended s [] (omega arith)) ∙ vector-nodes b (s ∷ []) (omega arith) in
        let one_more : g.k + one (is_none (under p containers)) ≡ suc g.k = ap (λ (ss : List ℕ). g.k + one (is_none ss)) none ∙ omega arith in
        room-under u has-clear g.used (omega arith)
        ∙ ap₂ ◌&&◌ (ap (λ (n : ℕ). leb n g.C) one_more) (le-leb g.used g.N (used-fits u)) ∙ and-true (ltb g.k g.C)

  -- The prefix is set

  module _ (e : v.bit p ≡ 1) where
    -- its slot, and the suffixes there
    abbrev c : ℕ
    c = v.slot (rank_of g v p)

    abbrev old : List ℕ
    old = suffixes g v c

    old-is : under p containers ≡ old
    old-is = under-set g v pl bits p small e

    some : is_none (under p containers) ≡ false
    unfolding read
    some = is_none-some (under p containers) (under_some g.P g.S p containers good.each (set_known g v pl bits p small e))

    pub has-set : has (read g v) x ≡ mem s old
    has-set = has-under ∙ ap (mem s) old-is

    pub insert-member : mem s old ≡ true → insert x (read g v) ≡ read g v
    unfolding read
    insert-member m = insert-old (read g v) good x word_small (has-set ∙ m)

    pub insert-other : mem s old ≡ false → insert x (read g v) ≡ with (read g v) (placed p 0 (added s old) containers) free
    unfolding read
    insert-other m =
        insert-new (read g v) good x word_small (has-set ∙ m)
        ∙ ap (λ (b : Bool). with (read g v) (placed p (top free) (added s (under p containers)) containers) (cond b (rest free) free)) some
        ∙ ap (λ (ss : List ℕ). with (read g v) (placed p (top free) (added s ss) containers) free) old-is
        ∙ ap (λ (cs : List Container). with (read g v) cs free) (placed-any p (top free) 0 (added s old) containers good.ascending (set_known g v pl bits p small e))

    pub remove-other : mem s old ≡ false → remove x (read g v) ≡ read g v
    unfolding read
    remove-other m = remove-none (read g v) good x word_small (has-set ∙ m)

    pub remove-member : mem s old ≡ true → is_none (taken s old) ≡ false → remove x (read g v) ≡ with (read g v) (placed p 0 (taken s old) containers) free
    unfolding read
    remove-member m n =
        remove-one (read g v) good x word_small (has-set ∙ m) (ap (λ (ss : List ℕ). is_none (taken s ss)) old-is ∙ n)
        ∙ ap (λ (ss : List ℕ). with (read g v) (placed p 0 (taken s ss) containers) free) old-is

    pub remove-only : mem s old ≡ true → is_none (taken s old) ≡ true → remove x (read g v) ≡ with (read g v) (dropped p containers) (c ∷ free)
    unfolding read
    remove-only m n =
        remove-last (read g v) good x word_small (has-set ∙ m) (ap (λ (ss : List ℕ). is_none (taken s ss)) old-is ∙ n)
        ∙ ap (λ (t : ℕ). with (read g v) (dropped p containers) (t ∷ free)) (slot-set g v pl bits p small e)

    -- the lengths, for the counts

    pub old-good : GoodSuffixes g.S old
    unfolding read
    old-good = subst (GoodSuffixes g.S) old-is (each-under g.P g.S p containers good.each)

    pub length-added : mem s old ≡ false → length (added s old) ≡ suc (length old)
    length-added m = length-same (added s old) (s ∷ old) (good-added g.S s old old-good (suffix-lt g.S x) m).distinct (m, old-good.distinct) (λ z. mem-added z s old)

    pub length_taken : mem s old ≡ true → suc (length (taken s old)) ≡ length old
    length_taken m =
        let d : Distinct old = old-good.distinct in
        length-same (s ∷ taken s old) old (mem-taken s s old d ∙ rw (eqb-self s), distinct-taken s old d) d (λ z. by-test (eqb z s)
        (λ i. rw i (sym (subst (λ (k : ℕ). mem k old ≡ true) (sym (eqb-true z s i)) m)))
        (λ i. rw i (mem-taken z s old d ∙ rw (eqb-sym s z, i))))

    -- whether a suffix is left
    pub left-some : mem s old ≡ true → 1 < length old → is_none (taken s old) ≡ false
    left-some m l = is_none-some (taken s old) (omega (arith, length_taken m))

    pub left-none : mem s old ≡ true → length old ≡ 1 → is_none (taken s old) ≡ true
    left-none m l = none_left (taken s old) (omega (arith, length_taken m))

    -- Room

    pub room-member : mem s old ≡ true → fits g.S g.C g.N (x ∷ walk (read g v)) ≡ true
    unfolding read
    room-member m = member-has-room (read g v) good x (has-set ∙ m)

    module _ (used-is : nodes_in_use (read g v) ≡ g.used) (m : mem s old ≡ false) where
      -- the nodes decide
      pub room-other : (needed : ℕ) → needed + container_nodes (bytes_of g.S) old ≡ g.used + container_nodes (bytes_of g.S) (added s old) → fits g.S g.C g.N (x ∷ walk (read g v)) ≡ leb needed g.N
      room-other needed q =
          let same : g.k + one (is_none (under p containers)) ≡ g.k = ap (λ (b : Bool). g.k + one b) some ∙ omega arith in
          room-under used-is (has-set ∙ m) needed (subst (λ (ss : List ℕ). needed + container_nodes (bytes_of g.S) ss ≡ g.used + container_nodes (bytes_of g.S) (added s ss)) (sym old-is) q)
          ∙ ap (λ (b : Bool). b && leb needed g.N) (ap (λ (n : ℕ). leb n g.C) same ∙ le-leb g.k g.C (k-fits g v pl bits))

      -- and a vector that stays one needs none
      pub room-vector : length old < threshold → fits g.S g.C g.N (x ∷ walk (read g v)) ≡ true
      room-vector l =
          let b : ℕ = bytes_of g.S in
          let before : container_nodes b old ≡ 0 = vector-nodes b old (omega arith) in
          let after : container_nodes b (added s old) ≡ 0 = vector-nodes b (added s old) (omega (arith, length-added m)) in
          room-other g.used (omega arith) ∙ le-leb g.used g.N (used-fits used-is)
