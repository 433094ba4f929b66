-- For whoever keeps the numbers in a region: nodes in use container by container, and slots named once. Assumes nothing.
use mathlib.Core.Path.{◌≡◌, refl, sym, ap, ap₂, ◌∙◌, subst}
use mathlib.Core.Bool.{Bool, true, false, not, ◌&&◌, false≢true}
use mathlib.Core.List.{List, [], ◌∷◌, ◌++◌, map}
use Prim.Native.Nat.{ℕ, zero, suc, ◌+◌, ◌^◌, ◌≤◌, ◌<◌}
use native.Mathlib.Omega.{arith}
use lib.Dec.{eqb, ltb, leb}
use lib.ListN.{length, length-append, length-map}
use borrow.Author.Tests.{eqb-true, eq-eqb, ne_eqb, lt-ltb, ltb-true, leb-true}
use Rattle.lists.specs.Lists.{Ascending, Distinct, Every, SameMembers, Within, keep, mem, one, put, up_from, without}
use Rattle.lists.specs.Sums.{sum_over}
use Rattle.model.specs.Change.{added, is_none, placed, top}
use Rattle.model.specs.Good.{Good, GoodContainer}
use Rattle.model.specs.Reading.{Container, Reading, has, nodes_in_use, prefixes_of, slots_of, under, walk, words_of}
use Rattle.model.specs.Room.{container_nodes, containers_needed, fits, nodes_needed, suffixes_under}
use Rattle.model.specs.Words.{bytes_of, joined, prefix_of, suffix_of}
use Rattle.lists.proofs.Laws.{or_cases, or_left, or_right, and_both, both-and, iff-eq, by-test, not-true-false, eqb-self, eqb-sym, mem-map, mem-keep, mem-sorted, mem-without, source, over-mem, mem-over, over-trans, over-not-mem, ascending-distinct, distinct-sorted, distinct-keep, length-within, same-within, same-sym}
use Rattle.model.proofs.RoomLaws.{container-within, nodes-same, fits-same}
use Rattle.model.proofs.ContainerLaws.{prefix-joined, suffix-joined, mem-words_of, prefixes-words, under_none, under_some, each-under, length-containers, length-put-new, length-put-old}
use Rattle.model.proofs.Steps.{prefixes-are, is_none-some, containers⁺, insert-new, replaced⁺, members-insert}
use Rattle.model.proofs.Combining.{mem-up_from, length-up_from}

-- Nodes

-- the nodes of some containers, one container after the other
abbrev pub nodes_by_container : ℕ → List Container → ℕ
nodes_by_container S cs = sum_over (λ c. container_nodes (bytes_of S) c.suffixes) cs

pub container-same : (b : ℕ) (ss ts : List ℕ) → Distinct ss → Distinct ts → SameMembers ss ts → container_nodes b ss ≡ container_nodes b ts
container-same b ss ts d e h =
    let x = container-within b ss ts d (same-within ss ts h) in
    let y = container-within b ts ss e (same-within ts ss (same-sym ss ts h)) in
    omega arith

sum_same : (f g : ℕ → ℕ) (xs : List ℕ) → ((x : ℕ) → f x ≡ g x) → sum_over f xs ≡ sum_over g xs
sum_same f g [] h = refl
sum_same f g (x ∷ xs) h = ap₂ ◌+◌ (h x) (sum_same f g xs h)

-- a sum over prefixes is a sum over containers
sum-containers : (f : List ℕ → ℕ) (F : ℕ → ℕ) (cs : List Container) → Ascending (prefixes_of cs) → ((q : ℕ) → mem q (prefixes_of cs) ≡ true → F q ≡ f (under q cs)) → sum_over F (prefixes_of cs) ≡ sum_over (λ c. f c.suffixes) cs
sum-containers f F [] a h = refl
sum-containers f F (c ∷ cs) a h = ap₂ ◌+◌ (h c.prefix (or_left (eqb c.prefix c.prefix) (mem c.prefix (prefixes_of cs)) (eqb-self c.prefix)) ∙ rw (eqb-self c.prefix)) (sum-containers f F cs a.1 later)
  where
    later : (q : ℕ) → mem q (prefixes_of cs) ≡ true → F q ≡ f (under q cs)
    later q m =
        let l : c.prefix < q = over-mem (prefixes_of cs) a.0 m in
        h q (or_right (eqb q c.prefix) (mem q (prefixes_of cs)) m) ∙ rw (ne_eqb q c.prefix (omega arith))

module _ (P S : ℕ) (cs : List Container) (a : Ascending (prefixes_of cs)) (g : Every (GoodContainer P S) cs) where
  -- the suffixes of the words under a prefix are those that stand there
  suffixes-are : (p : ℕ) → SameMembers (suffixes_under S (words_of S cs) p) (under p cs)
  suffixes-are p s = mem-sorted s (map (suffix_of S) kept) ∙ iff-eq (mem s (map (suffix_of S) kept)) (mem s (under p cs)) forth back
    where
      kept : List ℕ
      kept = keep (λ w. eqb (prefix_of S w) p) (words_of S cs)

      mem-kept : (w : ℕ) → mem w kept ≡ (eqb (prefix_of S w) p && mem w (words_of S cs))
      mem-kept w = mem-keep (λ v. eqb (prefix_of S v) p) w (words_of S cs)

      forth : mem s (map (suffix_of S) kept) ≡ true → mem s (under p cs) ≡ true
      forth m =
          let o = source (suffix_of S) s kept m in
          let b = and_both (eqb (prefix_of S o.from) p) (mem o.from (words_of S cs)) (sym (mem-kept o.from) ∙ o.there) in
          let i : mem (suffix_of S o.from) (under (prefix_of S o.from) cs) ≡ true = sym (mem-words_of P S o.from cs a g) ∙ b.1 in
          rw (o.is, eqb-true (prefix_of S o.from) p b.0) at i

      back : mem s (under p cs) ≡ true → mem s (map (suffix_of S) kept) ≡ true
      back m =
          let l = (each-under P S p cs g).below s m in
          let w : ℕ = joined S p s in
          let e : prefix_of S w ≡ p = prefix-joined S p s l in
          let h : suffix_of S w ≡ s = suffix-joined S p s l in
          let i : mem (suffix_of S w) (under (prefix_of S w) cs) ≡ true = rw (e, h) m in
          let k : mem w kept ≡ true = mem-kept w ∙ both-and (eqb (prefix_of S w) p) (mem w (words_of S cs)) (eq-eqb (prefix_of S w) p e) (mem-words_of P S w cs a g ∙ i) in
          subst (λ (x : ℕ). mem x (map (suffix_of S) kept) ≡ true) h (mem-map (suffix_of S) w kept k)

  -- nodes, container by container
  pub nodes-containers : nodes_needed S (words_of S cs) ≡ nodes_by_container S cs
  unfolding nodes_needed
  nodes-containers =
      ap (sum_over F) (prefixes-words P S cs a g)
      ∙ sum-containers (container_nodes (bytes_of S)) F cs a (λ q m. container-same (bytes_of S) (suffixes_under S (words_of S cs) q) (under q cs)
      (distinct-sorted (map (suffix_of S) (keep (λ w. eqb (prefix_of S w) q) (words_of S cs)))) (each-under P S q cs g).distinct (suffixes-are q))
    where
      F : ℕ → ℕ
      F p = container_nodes (bytes_of S) (suffixes_under S (words_of S cs) p)

-- other suffixes under one prefix: their nodes for those that stood there
module _ (f : List ℕ → ℕ) (zero-f : f [] ≡ 0) where
  abbrev total : List Container → ℕ
  total cs = sum_over (λ c. f c.suffixes) cs

  sum-placed : (p t : ℕ) (ss : List ℕ) (cs : List Container) → Ascending (prefixes_of cs) → total (placed p t ss cs) + f (under p cs) ≡ total cs + f ss
  sum-placed p t ss [] a = let z = zero-f in omega arith
  sum-placed p t ss (c ∷ cs) a = go (ltb p c.prefix) refl (eqb p c.prefix) refl (sum-placed p t ss cs a.1)
    where
      go : (b : Bool) → ltb p c.prefix ≡ b → (d : Bool) → eqb p c.prefix ≡ d → total (placed p t ss cs) + f (under p cs) ≡ total cs + f ss
          → total (placed p t ss (c ∷ cs)) + f (under p (c ∷ cs)) ≡ f c.suffixes + total cs + f ss
      go true e d k ih =
          let l = ltb-true p c.prefix e in
          let n : under p (c ∷ cs) ≡ [] = under_none p (c ∷ cs) (over-not-mem p (prefixes_of (c ∷ cs)) (l, over-trans (prefixes_of cs) l a.0)) in
          let z : f (under p (c ∷ cs)) ≡ 0 = ap f n ∙ zero-f in
          rw (e, z) (omega arith)
      go false e true k ih = rw (e, k) (omega arith)
      go false e false k ih = rw (e, k) (omega arith)

nodes-none : (b : ℕ) → container_nodes b [] ≡ 0
unfolding container_nodes
nodes-none b = refl

module _ (r : Reading) (g : Good r) where
  -- the nodes in use, container by container
  pub nodes-are : nodes_in_use r ≡ nodes_by_container r.S r.containers
  unfolding nodes_in_use walk
  nodes-are = nodes-containers r.P r.S r.containers g.ascending g.each

  -- what a new word makes of the nodes: of its container alone
  pub nodes-insert : (w : ℕ) → w < 2 ^ (r.P + r.S) → has r w ≡ false
      → nodes_needed r.S (w ∷ walk r) + container_nodes (bytes_of r.S) (under (prefix_of r.S w) r.containers) ≡ nodes_in_use r + container_nodes (bytes_of r.S) (added (suffix_of r.S w) (under (prefix_of r.S w) r.containers))
  nodes-insert w l e =
      let after : nodes_needed r.S (w ∷ walk r) ≡ nodes_by_container r.S (containers⁺ r g w l) = nodes-same r.S (w ∷ walk r) (words_of r.S (containers⁺ r g w l)) same ∙ nodes-containers r.P r.S (containers⁺ r g w l) (replaced⁺ r g w l e).ascending (replaced⁺ r g w l e).each in
      let before = nodes-are in
      let step = sum-placed (container_nodes (bytes_of r.S)) (nodes-none (bytes_of r.S)) (prefix_of r.S w) (top r.free) (added (suffix_of r.S w) (under (prefix_of r.S w) r.containers)) r.containers g.ascending in
      omega arith
    where
      same : SameMembers (w ∷ walk r) (words_of r.S (containers⁺ r g w l))
      same v = sym (members-insert r g w l v) ∙ ap (λ (x : Reading). mem v (walk x)) (insert-new r g w l e) ∙ unfold walk in refl

  -- and of the containers: one more where the prefix is new
  pub containers-insert : (w : ℕ) → containers_needed r.S (w ∷ walk r) ≡ length r.containers + one (is_none (under (prefix_of r.S w) r.containers))
  unfolding containers_needed
  containers-insert w = ap (λ (l : List ℕ). length (put p l)) (prefixes-are r g) ∙ by-test (mem p (prefixes_of r.containers)) known unknown
    where
      p : ℕ
      p = prefix_of r.S w

      known : mem p (prefixes_of r.containers) ≡ true → length (put p (prefixes_of r.containers)) ≡ length r.containers + one (is_none (under p r.containers))
      known m =
          let k = length-put-old p (prefixes_of r.containers) g.ascending m in
          let c = length-containers r.containers in
          rw (is_none-some (under p r.containers) (under_some r.P r.S p r.containers g.each m)) (omega arith)

      unknown : mem p (prefixes_of r.containers) ≡ false → length (put p (prefixes_of r.containers)) ≡ length r.containers + one (is_none (under p r.containers))
      unknown m =
          let k = length-put-new p (prefixes_of r.containers) g.ascending m in
          let c = length-containers r.containers in
          rw (under_none p r.containers m) (omega arith)

  -- inserting a member is never refused for room
  pub member-has-room : (w : ℕ) → has r w ≡ true → fits r.S r.C r.N (w ∷ walk r) ≡ true
  unfolding has
  member-has-room w h = fits-same r.S (w ∷ walk r) (walk r) (λ v. by-test (eqb v w) (λ e. rw (e, eqb-true v w e) (sym h)) (λ e. rw e)) r.C r.N ∙ g.room

-- Slots

-- a list no longer than the distinct entries that stand in it has none twice
full-distinct : (xs ys : List ℕ) → Distinct ys → Within ys xs → length xs ≤ length ys → Distinct xs
full-distinct [] ys d h l = tt
full-distinct (x ∷ xs) ys d h l = (new, full-distinct xs (without x ys) (distinct-keep (λ y. not (eqb x y)) ys d) smaller enough)
  where
    new : mem x xs ≡ false
    new = not-true-false (mem x xs) (λ m.
        let k = length-within ys xs d (λ z i. or_cases (eqb z x) (mem z xs) (h z i) (λ e. subst (λ (q : ℕ). mem q xs ≡ true) (sym (eqb-true z x e)) m) (λ e. e)) in omega arith)

    smaller : Within (without x ys) xs
    smaller z m =
        let b = and_both (not (eqb x z)) (mem z ys) (sym (mem-without x z ys) ∙ m) in
        or_cases (eqb z x) (mem z xs) (h z b.1) (λ e. absurd (false≢true (ap not (sym (eqb-sym x z ∙ e)) ∙ b.0))) (λ e. e)

    enough : length xs ≤ length (without x ys)
    enough =
        let k = length-within ys (x ∷ without x ys) d (λ z m. by-test (eqb z x) (λ e. rw e) (λ e. rw e (mem-without x z ys ∙ rw (eqb-sym x z, e) m))) in
        omega arith

ascending-up_from : (k n : ℕ) → Ascending (up_from k n)
ascending-up_from k zero = tt
ascending-up_from k (suc n) = (mem-over k (up_from (suc k) n) (λ y m. leb-true (suc k) y (and_both (leb (suc k) y) (ltb y (suc k + n)) (sym (mem-up_from y (suc k) n) ∙ m)).0), ascending-up_from (suc k) n)

-- every slot is in use or free, and once
pub slots-once : (r : Reading) → Good r → Distinct (slots_of r.containers ++ r.free)
slots-once r g =
    full-distinct (slots_of r.containers ++ r.free) (up_from 0 r.C) (ascending-distinct (up_from 0 r.C) (ascending-up_from 0 r.C))
    (λ t m. g.named t ∙ lt-ltb t r.C (let l = ltb-true t (0 + r.C) (and_both (leb 0 t) (ltb t (0 + r.C)) (sym (mem-up_from t 0 r.C) ∙ m)).1 in omega arith))
    (let a = length-up_from 0 r.C in let b = length-append (slots_of r.containers) r.free in let c = length-map r.containers (λ x. x.slot) in let d = g.slots in omega arith)
