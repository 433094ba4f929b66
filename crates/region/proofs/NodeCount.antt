-- The nodes in use are those that the suffixes need: each is reached by one leading byte string of one trie. Assumes nothing.
use Prim.Native.Nat.{ℕ, ◌*◌, ◌^◌, ◌<◌, min}
use mathlib.Core.Path.{◌≡◌, sym, ap, ◌∙◌, subst}
use mathlib.Core.Logic.{◌≢◌}
use mathlib.Core.Bool.{Bool, true, ◌&&◌}
use native.Mathlib.Omega.{arith}
use native.Mathlib.Decide.{ℕ_discrete}
use lib.Dec.{eqb}
use borrow.Author.Tests.{eqb-true, eq-eqb, ne_eqb}
use Rattle.lists.specs.Lists.{one, mem}
use Rattle.lists.specs.Sums.{sum}
use Rattle.lists.proofs.Laws.{and_both, both-and, not-true-false, by-test, eqb-self}
use Rattle.lists.proofs.Sums.{sum_same, sum-zero, sum-single, sum-swap}
use Rattle.lists.proofs.Counts.{different-count}
use Rattle.lists.proofs.Each.{sum-up_to}
use Rattle.model.specs.Words.{bytes_of}
use Rattle.model.specs.Room.{leading, trie_nodes, container_nodes}
use Rattle.model.specs.Reading.{Container}
use Rattle.model.proofs.InUse.{nodes_by_container}
use Rattle.region.specs.Areas.{Numbers}
use Rattle.region.specs.Tries.{byte_of, members, follow}
use Rattle.region.specs.Seen.{Seen}
use Rattle.region.specs.Read.{suffixes, container, read}
use Rattle.region.specs.WellFormed.{rank_of, Placed, Held, Reached, OnePath, Hung}
use Rattle.region.proofs.OnePath.{root-at, at-end}
use Rattle.region.proofs.Leading.{heads, heads-small, heads-path, path-heads}
use Rattle.region.proofs.Containers.{AtRank, at-rank, rank_lt, suffixes-trie, trie-is, vector-is}

module _ (g : Numbers) (v : Seen) (pl : Placed g v) (hd : Held g v) (hu : Hung g v) (bits : (p : ℕ) → v.bit p < 2) where
  abbrev b : ℕ
  b = bytes_of g.S

  -- the string q of j bytes leads to a node of the container at rank r
  abbrev leads : ℕ → ℕ → ℕ → Bool
  leads r j q = eqb (v.kind (v.slot r)) 2 && mem q (heads v.node b (v.link (v.slot r)) j)

  -- and this node is n
  abbrev leads_to : ℕ → ℕ → ℕ → ℕ → Bool
  leads_to n r j q = leads r j q && eqb (follow v.node (v.link (v.slot r)) (byte_of j q) j) n

  -- what leads to n is a path to it
  reached-by : (n r j q : ℕ) → r < g.k → j < b → leads_to n r j q ≡ true → Reached g v n
  reached-by n r j q hr hj e =
      let a = and_both (leads r j q) (eqb (follow v.node (v.link (v.slot r)) (byte_of j q) j) n) e in
      let c = and_both (eqb (v.kind (v.slot r)) 2) (mem q (heads v.node b (v.link (v.slot r)) j)) a.0 in
      record {
        slot = v.slot r;
        in-range = (at-rank g v pl bits r hr).in-range;
        is-trie = eqb-true (v.kind (v.slot r)) 2 c.0;
        len = j;
        short = hj;
        string = q;
        small = heads-small v.node b (v.link (v.slot r)) j (omega arith) q c.1;
        path = heads-path v.node b (v.link (v.slot r)) j (omega arith) q c.1;
        there = eqb-true (follow v.node (v.link (v.slot r)) (byte_of j q) j) n a.1;
      }

  -- and each path to n leads to it
  leads-by : (n r : ℕ) (w : Reached g v n) → w.slot ≡ v.slot r → leads_to n r w.len w.string ≡ true
  leads-by n r w e = subst (λ (c : ℕ). (eqb (v.kind c) 2 && mem w.string (heads v.node b (v.link c) w.len) && eqb (follow v.node (v.link c) (byte_of w.len w.string) w.len) n) ≡ true) e
      (both-and (eqb (v.kind w.slot) 2 && mem w.string (heads v.node b (v.link w.slot) w.len)) (eqb (follow v.node (v.link w.slot) (byte_of w.len w.string) w.len) n)
      (both-and (eqb (v.kind w.slot) 2) (mem w.string (heads v.node b (v.link w.slot) w.len)) (eq-eqb (v.kind w.slot) 2 w.is-trie)
      (path-heads v.node g.N b hu.children hu.non-empty (v.link w.slot) (root-at g v hd w.slot w.in-range w.is-trie) w.len w.string (let l = w.short in omega arith) w.small w.path))
      (eq-eqb (follow v.node (v.link w.slot) (byte_of w.len w.string) w.len) n w.there))

  -- how many strings of the container at rank r lead to n
  strings : ℕ → ℕ → ℕ
  strings n r = sum (λ j. sum (λ q. one (leads_to n r j q)) (2 ^ (8 * j))) b

  none : (n r : ℕ) → ((j q : ℕ) → j < b → leads_to n r j q ≡ true → ⊥) → strings n r ≡ 0
  unfolding strings
  none n r h = sum-zero (λ j. sum (λ q. one (leads_to n r j q)) (2 ^ (8 * j))) b (λ j hj. sum-zero (λ q. one (leads_to n r j q)) (2 ^ (8 * j)) (λ q hq. ap one (not-true-false (leads_to n r j q) (h j q hj))))

  -- one string leads to a node that has one path
  module _ (n : ℕ) (o : OnePath g v n) where
    rank : ℕ
    rank = rank_of g v (v.prefix o.way.slot)

    in_use : v.kind o.way.slot ≢ 0
    in_use z = let e : v.kind o.way.slot ≡ 2 = o.way.is-trie in omega arith

    there : v.slot rank ≡ o.way.slot
    unfolding rank
    there = (pl.ranked o.way.slot o.way.in-range in_use).there

    one-here : strings n rank ≡ 1
    unfolding strings reached-by
    one-here =
        sum-single (λ j. sum (λ q. one (leads_to n rank j q)) (2 ^ (8 * j))) b o.way.len o.way.short (λ j hj ne.
        sum-zero (λ q. one (leads_to n rank j q)) (2 ^ (8 * j)) (λ q hq. ap one (not-true-false (leads_to n rank j q) (λ e. ne (o.len (reached-by n rank j q small hj e))))))
        ∙ sum-single (λ q. one (leads_to n rank o.way.len q)) (2 ^ (8 * o.way.len)) o.way.string o.way.small (λ q hq ne.
        ap one (not-true-false (leads_to n rank o.way.len q) (λ e. ne (o.string (reached-by n rank o.way.len q small o.way.short e)))))
        ∙ ap one (leads-by n rank o.way (sym there))
      where
        small : rank < g.k
        small = unfold rank in rank_lt g v pl bits o.way.slot o.way.in-range in_use

    one-string : sum (strings n) g.k ≡ 1
    unfolding rank reached-by
    one-string =
        sum-single (strings n) g.k rank (rank_lt g v pl bits o.way.slot o.way.in-range in_use) (λ r hr ne.
        none n r (λ j q hj e. ne (sym (at-rank g v pl bits r hr).rank_is ∙ ap (λ (c : ℕ). rank_of g v (v.prefix c)) (o.slot (reached-by n r j q hr hj e)))))
        ∙ one-here

  row : (n : ℕ) → n < g.N → sum (strings n) g.k ≡ min 1 (v.node.level1 n)
  row n hn = pick (ℕ_discrete (v.node.level1 n) 0)
    where
      pick : Dec (v.node.level1 n ≡ 0) → sum (strings n) g.k ≡ min 1 (v.node.level1 n)
      pick (yes e) = sum-zero (strings n) g.k (λ r hr. none n r (λ j q hj t. omega (arith, (at-end g v hd hu.children n (reached-by n r j q hr hj t)).level))) ∙ sym (ap (min 1) e)
      pick (no ne) = one-string n (hu.reached n hn ne) ∙ omega arith

  -- a string leads to one node, if to any
  column : (r j q : ℕ) → r < g.k → j < b → sum (λ n. one (leads_to n r j q)) g.N ≡ one (leads r j q)
  column r j q hr hj = by-test (leads r j q) some (λ e. sum-zero (λ n. one (leads_to n r j q)) g.N (λ n hn. rw e) ∙ rw e)
    where
      m : ℕ
      m = follow v.node (v.link (v.slot r)) (byte_of j q) j

      some : leads r j q ≡ true → sum (λ n. one (leads_to n r j q)) g.N ≡ one (leads r j q)
      some e =
          let t : leads_to m r j q ≡ true = both-and (leads r j q) (eqb m m) e (eqb-self m) in
          sum-single (λ n. one (leads_to n r j q)) g.N m (at-end g v hd hu.children m (reached-by m r j q hr hj t)).in-range (λ n hn ne. rw (e, ne_eqb m n (λ z. ne (sym z))))
          ∙ ap one (t ∙ sym e)

  -- the strings that lead to nodes of the container at rank r
  needed : ℕ → ℕ
  needed r = sum (λ j. sum (λ q. one (leads r j q)) (2 ^ (8 * j))) b

  by-strings : sum (λ n. min 1 (v.node.level1 n)) g.N ≡ sum needed g.k
  unfolding strings needed
  by-strings =
      sym (sum_same (λ n. min 1 (v.node.level1 n)) (λ n. sum (strings n) g.k) g.N row)
      ∙ sum-swap strings g.N g.k
      ∙ sum_same needed (λ r. sum (λ n. strings n r) g.N) g.k (λ r hr.
      sum-swap (λ n j. sum (λ q. one (leads_to n r j q)) (2 ^ (8 * j))) g.N b
      ∙ sum_same (λ j. sum (λ q. one (leads r j q)) (2 ^ (8 * j))) (λ j. sum (λ n. sum (λ q. one (leads_to n r j q)) (2 ^ (8 * j))) g.N) b (λ j hj.
      sum-swap (λ n q. one (leads_to n r j q)) g.N (2 ^ (8 * j))
      ∙ sum_same (λ q. one (leads r j q)) (λ q. sum (λ n. one (leads_to n r j q)) g.N) (2 ^ (8 * j)) (λ q hq. column r j q hr hj)))

  -- they are the different leading byte strings of its suffixes
  needed-is : (r : ℕ) → r < g.k → needed r ≡ container_nodes b (suffixes g v (v.slot r))
  unfolding needed container_nodes trie_nodes
  needed-is r hr = pick (at-rank g v pl bits r hr) (ℕ_discrete (v.kind (v.slot r)) 2)
    where
      c : ℕ
      c = v.slot r

      pick : AtRank g v r → Dec (v.kind c ≡ 2) → needed r ≡ container_nodes b (suffixes g v c)
      pick a (yes e) = rw (trie-is g v hd c a.in-range e, suffixes-trie g v hd c e)
          (sum_same (leading b (members v.node b (v.link c))) (λ j. sum (λ q. one (leads r j q)) (2 ^ (8 * j))) b (λ j hj.
          sum_same (λ q. one (mem q (heads v.node b (v.link c) j))) (λ q. one (leads r j q)) (2 ^ (8 * j)) (λ q hq. rw (eq-eqb (v.kind c) 2 e))
          ∙ sym (different-count (heads v.node b (v.link c) j) (2 ^ (8 * j)) (heads-small v.node b (v.link c) j (omega arith)))))
      pick a (no ne) =
          let k1 : v.kind c ≡ 1 = let u : v.kind c ≢ 0 = a.in_use in omega (arith, pl.kinds c a.in-range) in
          rw (vector-is g v hd c a.in-range k1)
          (sum-zero (λ j. sum (λ q. one (leads r j q)) (2 ^ (8 * j))) b (λ j hj. sum-zero (λ q. one (leads r j q)) (2 ^ (8 * j)) (λ q hq. rw (ne_eqb (v.kind c) 2 ne))))

  pub nodes-needed : sum (λ n. min 1 (v.node.level1 n)) g.N ≡ nodes_by_container g.S (read g v).containers
  unfolding read
  nodes-needed =
      by-strings
      ∙ sum_same (λ r. container_nodes b (suffixes g v (v.slot r))) needed g.k needed-is
      ∙ sym (sum-up_to (λ (c : Container). container_nodes b c.suffixes) (λ r. container g v (v.slot r)) g.k)
