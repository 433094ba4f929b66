-- The arena of a region, lent and given back: what a trie holds there is what its slot holds, and with another arena, length, nodes in use and member count the region reads as before but for the suffixes under the trie's prefix. Assumes nothing.
use Prim.Native.Nat.{ℕ, ◌+◌, ◌-◌, ◌*◌, ◌^◌, ◌<◌, ◌≤◌}
use mathlib.Core.Path.{◌≡◌, refl, sym, ap, ◌∙◌, subst}
use mathlib.Core.Bool.{true, not, ◌&&◌}
use mathlib.Core.List.{List, ◌++◌}
use native.Mathlib.Omega.{arith}
use lib.Dec.{eqb, leb}
use lib.Pow.{pow_mono}
use lib.ListN.{length, take, drop, get_or}
use borrow.Author.Tests.{leb-true, eqb-true, eq-eqb, ne_eqb}
use borrow.Rule.Slice.PartMut.{put_mid, mid_of, put_same}
use Rattle.lists.specs.Lists.{mem, put, without, Ascending}
use Rattle.lists.proofs.Laws.{and_both, or_cases, mem-put, mem-keep, ascending-put, ascending-keep, ascending-distinct}
use Rattle.model.specs.Words.{bytes_of}
use Rattle.model.specs.Room.{threshold}
use Rattle.model.specs.Change.{placed, with}
use Rattle.model.specs.Good.{GoodSuffixes}
use Rattle.region.specs.Ranges.{good_p, good_s, good_c, good_n}
use Rattle.region.specs.Geometry.{node_words}
use Rattle.region.specs.Areas.{Numbers, numbers}
use Rattle.region.specs.Nodes.{Nodes}
use Rattle.region.specs.Tries.{members}
use Rattle.region.specs.Seen.{Seen, seen}
use Rattle.region.specs.Read.{suffixes, read, reading}
use Rattle.region.specs.WellFormed.{Trie, Ready, WellFormed}
use Rattle.region.proofs.SeenBits.{seen-bits}
use Rattle.region.proofs.Listing.{members-ascend}
use Rattle.region.proofs.Containers.{suffixes-trie}
use Rattle.promises.specs.Reads.{ReadsAs}
use Rattle.arena.specs.Arena.{nodes_in, Root, Arena, Became}
use Rattle.lens.specs.Parts.{Parts, parts_of, seen_in, with_arena}
use Rattle.lens.specs.Holding.{Holding}
use Rattle.lens.proofs.Holding.{begin, sized, well-formed, reads_as, lent-arena, give-arena}
use Rattle.steps.specs.Steps.{counted, Holds, vector, trie, Refilled}
use Rattle.steps.proofs.Refilling.{refill-shape, refill-reads}
use Rattle.wordset_vector.proofs.Counting.{count-covers}
use Rattle.wordset_trie.specs.Settled.{Settled}
use Rattle.wordset_trie.proofs.Arenas.{refilled_parts, nodes-are, arena-of, root-of, refilled}

-- the arena as it is lent, and the region with another
abbrev pub lent_of : List ℕ → List ℕ
lent_of l = mid_of (get_or l 13 0) (get_or l 15 0 - get_or l 13 0) l

abbrev pub with_lent : List ℕ → List ℕ → List ℕ
with_lent l new = put_mid (get_or l 13 0) (get_or l 15 0 - get_or l 13 0) l new

-- what holds at numbers of slots and levels holds at those that they are shown to be
pub as-shown : (P : ℕ → ℕ → Type 0) {N N' b b' : ℕ} → N ≡ N' → b ≡ b' → P N b → P N' b'
as-shown P {N} {N'} {b} {b'} en eb p = subst (λ (x : ℕ). P x b') en (subst (P N) eb p)

-- Suffixes of a trie

pub good-put : (S s : ℕ) (ss : List ℕ) → Ascending ss → ((t : ℕ) → mem t ss ≡ true → t < 2 ^ S) → s < 2 ^ S → GoodSuffixes S (put s ss)
good-put S s ss a below small = record {
  below = λ t m. or_cases (eqb t s) (mem t ss) (sym (mem-put t s ss) ∙ m) (λ e. subst (λ (k : ℕ). k < 2 ^ S) (sym (eqb-true t s e)) small) (below t);
  distinct = ascending-distinct (put s ss) (ascending-put s ss a);
  ordered = λ e. ascending-put s ss a;
}

pub good-without : (S s : ℕ) (ss : List ℕ) → Ascending ss → ((t : ℕ) → mem t ss ≡ true → t < 2 ^ S) → GoodSuffixes S (without s ss)
good-without S s ss a below = record {
  below = λ t m. below t (and_both (not (eqb s t)) (mem t ss) (sym (mem-keep (λ y. not (eqb s y)) t ss) ∙ m)).1;
  distinct = ascending-distinct (without s ss) (ascending-keep (λ y. not (eqb s y)) ss a);
  ordered = λ e. ascending-keep (λ y. not (eqb s y)) ss a;
}

-- the suffixes of a slot are what it holds, whatever the counts
same-suffixes : (g : Numbers) (w : Seen) (c k used count : ℕ) → suffixes (counted g k used count) w c ≡ suffixes g w c
unfolding suffixes
same-suffixes g w c k used count = refl

held-suffixes : (g : Numbers) (w : Seen) (c : ℕ) (ss : List ℕ) → Holds g w c ss → suffixes g w c ≡ ss
unfolding suffixes
held-suffixes g w c ss (vector e x q) = rw (ne_eqb (w.kind c) 2 (λ z. omega arith)) q
held-suffixes g w c ss (trie e x q) = rw (eq-eqb (w.kind c) 2 e) q

module _ (l : List ℕ) (wf : WellFormed l) (c : ℕ) (h : c < (numbers l).C) (k : (seen (numbers l) l).kind c ≡ 2) where
  abbrev g : Numbers
  g = numbers l

  abbrev v : Seen
  v = seen g l

  abbrev b : ℕ
  b = bytes_of g.S

  pub suffix-bits : (1 ≤ g.S) × (g.S ≤ 40)
  suffix-bits =
      let r = (and_both (good_p g.P && good_s g.S && good_c g.C) (good_n g.N) wf.ready.header.ranges).0 in
      let s = and_both (good_p g.P && good_s g.S) (good_c g.C) r in
      let t = and_both (leb 1 g.S) (leb g.S 40) (and_both (good_p g.P) (good_s g.S) s.0).1 in
      (leb-true 1 g.S t.0, leb-true g.S 40 t.1)

  here : Trie g v c
  here = wf.shape.held.trie c h k

  lent_is : lent_of l ≡ (parts_of g l).node_stack ++ (parts_of g l).nodes
  lent_is = lent-arena (begin l wf.ready) (get_or l 13 0) (get_or l 15 0) wf.ready.header.node-stack wf.ready.header.total-length

  lent-nodes : nodes_in g.N (lent_of l) ≡ v.node
  unfolding seen
  lent-nodes = ap (nodes_in g.N) lent_is ∙ nodes-are g (parts_of g l) wf.shape (sized (begin l wf.ready))

  -- the suffixes of the trie
  abbrev ms : List ℕ
  ms = suffixes g v c

  pub held-is : members (nodes_in g.N (lent_of l)) b (v.link c) ≡ ms
  held-is = ap (λ (m : Nodes). members m b (v.link c)) lent-nodes ∙ sym (suffixes-trie g v wf.shape.held c k)

  pub ms-ascend : Ascending ms
  ms-ascend = subst Ascending (sym (suffixes-trie g v wf.shape.held c k)) (members-ascend v.node b (v.link c))

  pub ms-small : (t : ℕ) → mem t ms ≡ true → t < 2 ^ g.S
  ms-small t m = here.small t (ap (mem t) (sym (suffixes-trie g v wf.shape.held c k)) ∙ m)

  pub trie-many : threshold < v.size c
  trie-many = here.many

  pub ms-length : length ms ≡ v.size c
  ms-length = ap length (suffixes-trie g v wf.shape.held c k) ∙ sym here.true-size

  pub size-counted : v.size c ≤ g.count
  size-counted = omega (arith, ms-length, count-covers l wf c h (λ e. omega arith))

  lent-ready : Arena g.N b g.used (lent_of l) × Root (nodes_in g.N (lent_of l)) g.N (v.link c)
  unfolding seen
  lent-ready = subst (λ (y : List ℕ). Arena g.N b g.used y × Root (nodes_in g.N y) g.N (v.link c)) (sym lent_is)
      (arena-of g (parts_of g l) wf.shape (sized (begin l wf.ready)), root-of g (parts_of g l) wf.shape (sized (begin l wf.ready)) c h k)

  -- the arena of a shape with as many slots and levels
  module _ {N d : ℕ} (en : N ≡ g.N) (ed : d ≡ b) where
    pub asked-arena : Arena N d g.used (lent_of l)
    asked-arena = as-shown (λ x y. Arena x y g.used (lent_of l)) (sym en) (sym ed) lent-ready.0

    pub asked-root : {root : ℕ} → root ≡ v.link c → Root (nodes_in N (lent_of l)) N root
    asked-root {root} e = subst (λ (x : ℕ). Root (nodes_in x (lent_of l)) x root) (sym en) (subst (Root (nodes_in g.N (lent_of l)) g.N) (sym e) lent-ready.1)

    pub asked-suffix : {s : ℕ} → s < 2 ^ g.S → s < 2 ^ (8 * d)
    asked-suffix small = let p : 2 ^ g.S ≤ 2 ^ (8 * d) = pow_mono (omega arith) in omega (arith, p, small)

  given : (new : List ℕ) → length new ≡ g.N + node_words * g.N → Holding g (with_arena (take g.N new) (drop g.N new) (parts_of g l)) l (with_lent l new)
  given new long = give-arena (begin l wf.ready) (get_or l 13 0) (get_or l 15 0) new wf.ready.header.node-stack wf.ready.header.total-length long

  -- given back as it was
  pub unchanged : (new : List ℕ) → new ≡ lent_of l → with_lent l new ≡ l
  unchanged new e = ap (with_lent l) e ∙ put_same (get_or l 13 0) (get_or l 15 0 - get_or l 13 0) l

  module _ {new ss : List ℕ} {used' : ℕ} (y : Became g.N b g.used (lent_of l) (v.link c) ss used' new) where
    pub given-ready : Ready (with_lent l new) × (c < (numbers (with_lent l new)).C)
    given-ready =
        let x : Holding g (with_arena (take g.N new) (drop g.N new) (parts_of g l)) l (with_lent l new) = given new y.arena.tries.long in
        (x.ready, subst (λ (n : Numbers). c < n.C) (sym x.numbers-are) h)

    pub reads-with : {n m : ℕ} {l' : List ℕ} → threshold < n → n ≡ length ss → m + v.size c ≡ g.count + n → GoodSuffixes g.S ss → Settled c n used' m (with_lent l new) l'
        → ReadsAs l (with (reading l) (placed (v.prefix c) 0 ss (reading l).containers) (reading l).free) l'
    unfolding seen reading read
    reads-with {n} {m} {l'} many true-size true-count good s =
        let x : Parts = parts_of g l in
        let w : Seen = seen_in (refilled_parts g x c new n) in
        let settled : Holding (counted g g.k used' m) (refilled_parts g x c new n) l l' = s.holds g (with_arena (take g.N new) (drop g.N new) x) l (given new y.arena.tries.long) h in
        let z : Became g.N b g.used (x.node_stack ++ x.nodes) (v.link c) ss used' new = subst (λ (a : List ℕ). Became g.N b g.used a (v.link c) ss used' new) lent_is y in
        let r : Refilled g v w c ss used' = refilled g x wf.shape (sized (begin l wf.ready)) c h k new ss used' n z many true-size good in
        record {
          well-formed = well-formed settled (refill-shape g v wf.shape (seen-bits g l) w c ss used' m r (omega (arith, ms-length, true-size, true-count)));
          reads = reads_as settled ∙ refill-reads g v wf.shape (seen-bits g l) w c ss used' m r;
          past-stays = settled.same_rest;
        }

    -- the numbers afterwards
    pub numbers_after : {n m : ℕ} {l' : List ℕ} → Settled c n used' m (with_lent l new) l' → numbers l' ≡ counted g g.k used' m
    numbers_after s = (s.holds g (with_arena (take g.N new) (drop g.N new) (parts_of g l)) l (given new y.arena.tries.long) h).numbers-are

    -- what slot c holds afterwards
    pub held_after : {n m : ℕ} {l' : List ℕ} → threshold < n → n ≡ length ss → GoodSuffixes g.S ss → Settled c n used' m (with_lent l new) l' → suffixes (numbers l') (seen (numbers l') l') c ≡ ss
    unfolding seen
    held_after {n} {m} {l'} many true-size good s =
        let x : Parts = parts_of g l in
        let w : Seen = seen_in (refilled_parts g x c new n) in
        let settled : Holding (counted g g.k used' m) (refilled_parts g x c new n) l l' = s.holds g (with_arena (take g.N new) (drop g.N new) x) l (given new y.arena.tries.long) h in
        let z : Became g.N b g.used (x.node_stack ++ x.nodes) (v.link c) ss used' new = subst (λ (a : List ℕ). Became g.N b g.used a (v.link c) ss used' new) lent_is y in
        let r : Refilled g v w c ss used' = refilled g x wf.shape (sized (begin l wf.ready)) c h k new ss used' n z many true-size good in
        ap (λ (a : Numbers). suffixes a (seen_in (parts_of a l')) c) settled.numbers-are
        ∙ ap (λ (a : Parts). suffixes (counted g g.k used' m) (seen_in a) c) settled.parts_are
        ∙ same-suffixes g w c g.k used' m
        ∙ held-suffixes g w c ss r.holds
