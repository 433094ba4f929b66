-- What a step keeps that changes slot c and prefix p alone: every other container and its rank, and so each condition on a region, but for what c and p have to show. Assumes nothing.
use Prim.Native.Nat.{ℕ, ◌-◌, ◌^◌, ◌<◌, ◌≤◌}
use mathlib.Core.Path.{◌≡◌, sym, ap, ap₂, ◌∙◌, subst}
use mathlib.Core.Logic.{◌≢◌}
use mathlib.Core.Bool.{cond}
use mathlib.Core.List.{List, [], ◌∷◌}
use native.Mathlib.Omega.{arith}
use native.Mathlib.Decide.{ℕ_discrete}
use lib.Dec.{eqb}
use lib.ListN.{length}
use borrow.Author.Tests.{eq-eqb, ne_eqb}
use Rattle.lists.specs.Lists.{mem, each, up_to}
use Rattle.lists.proofs.Same.{up_to-same}
use Rattle.model.specs.Words.{bytes_of}
use Rattle.region.specs.Areas.{Numbers}
use Rattle.region.specs.Nodes.{Nodes}
use Rattle.region.specs.Tries.{members}
use Rattle.region.specs.Seen.{Seen}
use Rattle.region.specs.Read.{suffixes, container}
use Rattle.region.specs.WellFormed.{AllNonEmpty, SpareNode, StackedNode, nodes_used, rank_of, Bears, Ranked, Placed, Vector, Trie, Held, Hung, FreeSlot, Stacked, Stacks, Shape}
use Rattle.region.specs.Linked.{Wf, Rooted, Linked}
use Rattle.region.proofs.OnePath.{linked_of, hung-of}
use Rattle.steps.specs.Steps.{counted, OtherRecords, NodesFor}

pub record Kept (g : Numbers) (v w : Seen) (c p used' : ℕ) : Type 0 where
  pub others : OtherRecords g v w c
  pub nodes : NodesFor g v w c used'
  -- every other prefix stays, and the slot at its rank
  pub bit-else : (q : ℕ) → q ≢ p → w.bit q ≡ v.bit q
  pub slot-else : (q : ℕ) → q < 2 ^ g.P → q ≢ p → v.bit q ≡ 1 → w.slot (rank_of g w q) ≡ v.slot (rank_of g v q)
  -- no other slot bore p, and c bore no other prefix
  pub only-slot : (d : ℕ) → Bears g v p d → d ≡ c
  pub only-prefix : (q : ℕ) → Bears g v q c → q ≡ p

-- a slot in use is the one that bears its prefix
pub own-slot : (g : Numbers) (v : Seen) → Placed g v → (c : ℕ) → c < g.C → v.kind c ≢ 0 → (d : ℕ) → Bears g v (v.prefix c) d → d ≡ c
own-slot g v pl c h u d b = sym (pl.ranked d b.in-range b.in_use).there ∙ ap (λ (q : ℕ). v.slot (rank_of g v q)) b.prefix ∙ (pl.ranked c h u).there

-- a vector of one suffix
pub suffixes-one : (g : Numbers) (v : Seen) (c : ℕ) → v.kind c ≡ 1 → v.size c ≡ 1 → suffixes g v c ≡ v.entry c 0 ∷ []
unfolding suffixes each
suffixes-one g v c e n = rw (ne_eqb (v.kind c) 2 (λ z. omega arith)) (ap (up_to (v.entry c)) n)

module _ (g : Numbers) (v w : Seen) (c p used' : ℕ) (x : Kept g v w c p used') (sh : Shape g v) (k count : ℕ) where
  -- Prefixes and ranks

  bears-stays : (q : ℕ) → q < 2 ^ g.P → q ≢ p → v.bit q ≡ 1 → Bears (counted g k used' count) w q (w.slot (rank_of (counted g k used' count) w q))
  bears-stays q h ne e =
      let d : ℕ = v.slot (rank_of g v q) in
      let b : Bears g v q d = sh.placed.borne q h e in
      let nc : d ≢ c = λ z. ne (x.only-prefix q (subst (Bears g v q) z b)) in
      subst (Bears (counted g k used' count) w q) (sym (x.slot-else q h ne e)) record {
        in-range = b.in-range;
        in_use = λ z. b.in_use (sym (x.others.kind d b.in-range nc) ∙ z);
        prefix = x.others.prefix d b.in-range nc b.in_use ∙ b.prefix;
      }

  ranked-stays : (d : ℕ) → d < g.C → d ≢ c → v.kind d ≢ 0 → Ranked (counted g k used' count) w d
  ranked-stays d h nc u =
      let r : Ranked g v d = sh.placed.ranked d h u in
      let e : w.prefix d ≡ v.prefix d = x.others.prefix d h nc u in
      let ne : v.prefix d ≢ p = λ z. nc (x.only-slot d record { in-range = h; in_use = u; prefix = z }) in
      record {
        in-range = subst (λ (q : ℕ). q < 2 ^ g.P) (sym e) r.in-range;
        is_set = ap w.bit e ∙ x.bit-else (v.prefix d) ne ∙ r.is_set;
        there = ap (λ (q : ℕ). w.slot (rank_of g w q)) e ∙ x.slot-else (v.prefix d) r.in-range ne r.is_set ∙ r.there;
      }

  pub placed-stays : p < 2 ^ g.P → rank_of g w (2 ^ g.P) ≡ k → (w.bit p ≡ 1 → Bears (counted g k used' count) w p (w.slot (rank_of (counted g k used' count) w p))) → (w.kind c ≢ 0 → Ranked (counted g k used' count) w c) → w.kind c ≤ 2 → Placed (counted g k used' count) w
  placed-stays small total bears ranked kind = record {
    past = λ q h l. x.bit-else q (λ z. omega arith) ∙ sh.placed.past q h l;
    prefixes = total;
    borne = λ q h e. borne q h e (ℕ_discrete q p);
    ranked = λ d h u. at d h u (ℕ_discrete d c);
    kinds = λ d h. kinds d h (ℕ_discrete d c);
  }
    where
      borne : (q : ℕ) → q < 2 ^ g.P → w.bit q ≡ 1 → Dec (q ≡ p) → Bears (counted g k used' count) w q (w.slot (rank_of (counted g k used' count) w q))
      borne q h e (yes z) = subst (λ (r : ℕ). Bears (counted g k used' count) w r (w.slot (rank_of (counted g k used' count) w r))) (sym z) (bears (ap w.bit (sym z) ∙ e))
      borne q h e (no ne) = bears-stays q h ne (sym (x.bit-else q ne) ∙ e)

      at : (d : ℕ) → d < g.C → w.kind d ≢ 0 → Dec (d ≡ c) → Ranked (counted g k used' count) w d
      at d h u (yes z) = subst (Ranked (counted g k used' count) w) (sym z) (ranked (λ e. u (ap w.kind z ∙ e)))
      at d h u (no nc) = ranked-stays d h nc (λ e. u (x.others.kind d h nc ∙ e))

      kinds : (d : ℕ) → d < g.C → Dec (d ≡ c) → w.kind d ≤ 2
      kinds d h (yes z) = subst (λ (b : ℕ). w.kind b ≤ 2) (sym z) kind
      kinds d h (no nc) = subst (λ (b : ℕ). b ≤ 2) (sym (x.others.kind d h nc)) (sh.placed.kinds d h)

  -- Vectors and tries

  vector-stays : (d : ℕ) → d < g.C → d ≢ c → v.kind d ≡ 1 → Vector (counted g k used' count) w d
  vector-stays d h nc e =
      let y : Vector g v d = sh.held.vector d h e in
      let es : w.size d ≡ v.size d = x.others.size d h nc (λ z. omega arith) in
      record {
        some = omega (arith, y.some);
        few = omega (arith, y.few);
        distinct = λ i j l u q. y.distinct i j l (omega arith) (sym (x.others.entry d i h nc e (omega arith)) ∙ q ∙ x.others.entry d j h nc e (omega arith));
        small = λ i l. subst (λ (s : ℕ). s < 2 ^ g.S) (sym (x.others.entry d i h nc e (omega arith))) (y.small i (omega arith));
      }

  members-stay : (d : ℕ) → d < g.C → d ≢ c → v.kind d ≡ 2 → members w.node (bytes_of g.S) (w.link d) ≡ members v.node (bytes_of g.S) (v.link d)
  members-stay d h nc e = ap (members w.node (bytes_of g.S)) (x.others.link d h nc (λ z. omega arith)) ∙ x.nodes.others-suffixes d h nc e

  trie-stays : (d : ℕ) → d < g.C → d ≢ c → v.kind d ≡ 2 → Trie (counted g k used' count) w d
  trie-stays d h nc e =
      let t : Trie g v d = sh.held.trie d h e in
      let es : w.size d ≡ v.size d = x.others.size d h nc (λ z. omega arith) in
      let el : w.link d ≡ v.link d = x.others.link d h nc (λ z. omega arith) in
      let em : members w.node (bytes_of g.S) (w.link d) ≡ members v.node (bytes_of g.S) (v.link d) = members-stay d h nc e in
      record {
        many = omega (arith, t.many);
        small = λ s m. t.small s (sym (ap (mem s) em) ∙ m);
        root-in-range = omega (arith, t.root-in-range);
        root-level = ap w.node.level1 el ∙ x.nodes.others-root d h nc e;
        root-back = ap w.node.parent el ∙ x.nodes.others-container d h nc e;
        true-size = es ∙ t.true-size ∙ sym (ap length em);
      }

  pub held_stays : (w.kind c ≡ 1 → Vector (counted g k used' count) w c) → (w.kind c ≡ 2 → Trie (counted g k used' count) w c) → Held (counted g k used' count) w
  held_stays vector trie = record { vector = λ d h e. vectors d h e (ℕ_discrete d c); trie = λ d h e. tries d h e (ℕ_discrete d c) }
    where
      vectors : (d : ℕ) → d < g.C → w.kind d ≡ 1 → Dec (d ≡ c) → Vector (counted g k used' count) w d
      vectors d h e (yes z) = subst (Vector (counted g k used' count) w) (sym z) (vector (ap w.kind (sym z) ∙ e))
      vectors d h e (no nc) = vector-stays d h nc (sym (x.others.kind d h nc) ∙ e)

      tries : (d : ℕ) → d < g.C → w.kind d ≡ 2 → Dec (d ≡ c) → Trie (counted g k used' count) w d
      tries d h e (yes z) = subst (Trie (counted g k used' count) w) (sym z) (trie (ap w.kind (sym z) ∙ e))
      tries d h e (no nc) = trie-stays d h nc (sym (x.others.kind d h nc) ∙ e)

  -- Nodes

  pub hung-stays : Held (counted g k used' count) w → Hung (counted g k used' count) w
  hung-stays hd = hung-of (counted g k used' count) w hd record {
    wf = x.nodes.wf;
    non-empty = x.nodes.non-empty;
    rooted = λ n h e. let r : Rooted g w n = x.nodes.rooted n h e in record { in-range = r.in-range; is-trie = r.is-trie; is-root = r.is-root };
  }

  -- Stacks

  pub free-slot-stays : (i : ℕ) → i < g.C - g.k → v.free i ≢ c → w.free i ≡ v.free i → FreeSlot (counted g k used' count) w i
  free-slot-stays i h nc e =
      let y : FreeSlot g v i = sh.stacks.free-slots i h in
      let u : v.kind (v.free i) ≢ 1 = λ z. omega (arith, y.is_free) in
      record {
        in-range = subst (λ (d : ℕ). d < g.C) (sym e) y.in-range;
        is_free = ap w.kind e ∙ x.others.kind (v.free i) y.in-range nc ∙ y.is_free;
        place = ap w.link e ∙ x.others.link (v.free i) y.in-range nc u ∙ y.place;
      }

  pub stacked-stays : (d : ℕ) → d < g.C → d ≢ c → v.kind d ≡ 0 → v.link d < g.C - k → w.free (v.link d) ≡ v.free (v.link d) → Stacked (counted g k used' count) w d
  stacked-stays d h nc e l ef =
      let el : w.link d ≡ v.link d = x.others.link d h nc (λ z. omega arith) in
      record { in-range = omega arith; there = ap w.free el ∙ ef ∙ (sh.stacks.stacked d h e).there }

  pub stacks-stay : ((i : ℕ) → i < g.C - k → FreeSlot (counted g k used' count) w i) → ((d : ℕ) → d < g.C → w.kind d ≡ 0 → Stacked (counted g k used' count) w d) → Stacks (counted g k used' count) w
  stacks-stay free stacked = record { free-slots = free; stacked = stacked; spare-nodes = x.nodes.spare-nodes; stacked-nodes = x.nodes.stacked-nodes }

  -- The reading

  suffixes-stay : (d : ℕ) → d < g.C → d ≢ c → v.kind d ≢ 0 → suffixes (counted g k used' count) w d ≡ suffixes g v d
  unfolding suffixes
  suffixes-stay d h nc u =
      ap (λ (b : ℕ). cond (eqb b 2) (members w.node (bytes_of g.S) (w.link d)) (up_to (w.entry d) (w.size d))) (x.others.kind d h nc) ∙ pick (ℕ_discrete (v.kind d) 2)
    where
      pick : Dec (v.kind d ≡ 2) → cond (eqb (v.kind d) 2) (members w.node (bytes_of g.S) (w.link d)) (up_to (w.entry d) (w.size d))
          ≡ cond (eqb (v.kind d) 2) (members v.node (bytes_of g.S) (v.link d)) (up_to (v.entry d) (v.size d))
      pick (yes e) = rw (eq-eqb (v.kind d) 2 e) (members-stay d h nc e)
      pick (no n2) = rw (ne_eqb (v.kind d) 2 n2) (ap (up_to (w.entry d)) (x.others.size d h nc u)
          ∙ up_to-same (v.entry d) (w.entry d) (v.size d) (λ i l. x.others.entry d i h nc (omega (arith, sh.placed.kinds d h)) l))

  pub container-stays : (d : ℕ) → d < g.C → d ≢ c → v.kind d ≢ 0 → container (counted g k used' count) w d ≡ container g v d
  container-stays d h nc u = ap₂ (λ (q : ℕ) (ss : List ℕ). record { prefix = q; slot = d; suffixes = ss }) (x.others.prefix d h nc u) (suffixes-stay d h nc u)

-- Nodes that are untouched, where slot c held no trie
module _ (g : Numbers) (v w : Seen) (c : ℕ) (o : OtherRecords g v w c) (sh : Shape g v) (no-trie : v.kind c ≢ 2) (spare : (i : ℕ) → w.spare i ≡ v.spare i) (node : w.node ≡ v.node) where
  root-stays : (n : ℕ) → n < g.N → w.node.level1 n ≡ 1 → Rooted g w n
  root-stays n h e =
      let r : Rooted g v n = (linked_of g v sh.held sh.hung).rooted n h (ap (λ (m : Nodes). m.level1 n) (sym node) ∙ e) in
      let d : ℕ = v.node.parent n in
      let ep : w.node.parent n ≡ d = ap (λ (m : Nodes). m.parent n) node in
      let nc : d ≢ c = λ z. no-trie (ap v.kind (sym z) ∙ r.is-trie) in
      record {
        in-range = omega (arith, r.in-range);
        is-trie = ap w.kind ep ∙ o.kind d r.in-range nc ∙ r.is-trie;
        is-root = ap w.link ep ∙ o.link d r.in-range nc (λ z. omega (arith, r.is-trie)) ∙ r.is-root;
      }

  spare-node-stays : (i : ℕ) → i < g.N - g.used → SpareNode g.N w.spare w.node i
  spare-node-stays i h =
      let y : SpareNode g.N v.spare v.node i = sh.stacks.spare-nodes i h in
      subst (λ (m : Nodes). SpareNode g.N w.spare m i) (sym node) record {
        in-range = subst (λ (n : ℕ). n < g.N) (sym (spare i)) y.in-range;
        is_free = ap v.node.level1 (spare i) ∙ y.is_free;
        place = ap v.node.parent (spare i) ∙ y.place;
      }

  stacked-node-stays : (n : ℕ) → n < g.N → w.node.level1 n ≡ 0 → StackedNode (g.N - g.used) w.spare w.node n
  stacked-node-stays n h e =
      let y : StackedNode (g.N - g.used) v.spare v.node n = sh.stacks.stacked-nodes n h (ap (λ (m : Nodes). m.level1 n) (sym node) ∙ e) in
      subst (λ (m : Nodes). StackedNode (g.N - g.used) w.spare m n) (sym node) record { in-range = y.in-range; there = spare (v.node.parent n) ∙ y.there }

  pub nodes-stay : NodesFor g v w c g.used
  nodes-stay =
      let lk : Linked g v = linked_of g v sh.held sh.hung in
      record {
        wf = subst (λ (m : Nodes). Wf m g.N (bytes_of g.S)) (sym node) lk.wf;
        non-empty = subst (λ (m : Nodes). AllNonEmpty m g.N) (sym node) lk.non-empty;
        rooted = root-stays;
        others-root = λ d h nc e. ap (λ (m : Nodes). m.level1 (v.link d)) node ∙ (sh.held.trie d h e).root-level;
        others-container = λ d h nc e. ap (λ (m : Nodes). m.parent (v.link d)) node ∙ (sh.held.trie d h e).root-back;
        others-suffixes = λ d h nc e. ap (λ (m : Nodes). members m (bytes_of g.S) (v.link d)) node;
        spare-nodes = spare-node-stays;
        stacked-nodes = stacked-node-stays;
        used-true = ap (λ (m : Nodes). nodes_used m g.N) node ∙ sh.counts.used-true;
      }
