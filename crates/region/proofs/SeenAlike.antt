-- Areas that differ only in what is not looked at have the same shape and read the same: each condition looks only at what SameLookedAt names. Assumes nothing.
use Prim.Native.Nat.{ℕ, zero, suc, ◌+◌, ◌-◌, ◌*◌, ◌^◌, ◌<◌, ◌≤◌, min}
use mathlib.Core.Path.{◌≡◌, refl, sym, ap, ap₂, ◌∙◌, subst}
use mathlib.Core.Logic.{◌≢◌}
use mathlib.Core.Bool.{Bool, true, false, cond}
use mathlib.Core.List.{List, []}
use native.Mathlib.Omega.{arith}
use native.Mathlib.Decide.{ℕ_discrete}
use lib.Dec.{eqb}
use lib.ListN.{length}
use borrow.Author.Tests.{eqb-true, eq-eqb, ne_eqb}
use Rattle.lists.specs.Lists.{mem, up_to}
use Rattle.lists.proofs.Sums.{sum_same}
use Rattle.lists.proofs.Same.{each_same, up_to-same, down_from-same}
use Rattle.model.specs.Words.{bytes_of}
use Rattle.model.specs.Reading.{Container, Reading, walk}
use Rattle.region.specs.Areas.{Numbers}
use Rattle.region.specs.Nodes.{Nodes}
use Rattle.region.specs.Tries.{listed, members}
use Rattle.region.specs.Seen.{Seen}
use Rattle.region.specs.Read.{suffixes, container, read}
use Rattle.region.specs.WellFormed.{Children, NonEmpty, Child, rank_of, Bears, Ranked, Placed, Vector, Trie, Held, FreeSlot, Stacked, SpareNode, StackedNode, Stacks, Counts, Shape}
use Rattle.region.specs.Linked.{Above, Rooted, Linked}
use Rattle.region.specs.LookedAt.{SameLookedAtNodes, SameLookedAt}
use Rattle.region.proofs.Paths.{}
use Rattle.region.proofs.OnePath.{linked_of, hung-of}
use Rattle.region.proofs.Containers.{rank-small, AtRank, at-rank}

-- Tries

-- two lists that are there where a test holds
cond_same : {A : Type 0} (t : Bool) (xs ys : List A) → (t ≡ true → xs ≡ ys) → cond t xs [] ≡ cond t ys []
cond_same true xs ys h = h refl
cond_same false xs ys h = refl

module _ (N b : ℕ) (v w : Nodes) (a : SameLookedAtNodes N b v w) (children : Children v N b) where
  -- below a child, where a level is left
  below-child : (d l n x q : ℕ) → ((l n q : ℕ) → l + d ≡ b → n < N → v.level1 n ≡ suc l → listed w d n q ≡ listed v d n q)
      → l + suc d ≡ b → n < N → v.level1 n ≡ suc l → x < 256 → v.bit n x ≡ 1 → listed w d (w.child n x) q ≡ listed v d (v.child n x) q
  unfolding listed
  below-child zero l n x q ih h hn e hx eb = refl
  below-child (suc d) l n x q ih h hn e hx eb =
      let hl : suc l < b = omega arith in
      let c : Child v N l n x (v.child n x) = children l n x hn e hl hx eb in
      ap (λ (m : ℕ). listed w (suc d) m q) (a.child l n x hn e hl hx eb) ∙ ih (suc l) (v.child n x) q (omega arith) c.in-range c.level

  listed-alike : (d l n q : ℕ) → l + d ≡ b → n < N → v.level1 n ≡ suc l → listed w d n q ≡ listed v d n q
  unfolding listed
  listed-alike zero l n q h hn e = refl
  listed-alike (suc d) l n q h hn e = each_same _ _ 256 (λ x hx.
      ap (λ (z : ℕ). cond (eqb z 1) (listed w d (w.child n x) (q * 256 + x)) []) (a.bit n x hn (omega arith) hx)
      ∙ cond_same (eqb (v.bit n x) 1) (listed w d (w.child n x) (q * 256 + x)) (listed v d (v.child n x) (q * 256 + x))
      (λ t. below-child d l n x (q * 256 + x) (listed-alike d) h hn e hx (eqb-true (v.bit n x) 1 t)))

  pub members_alike : (n : ℕ) → n < N → v.level1 n ≡ 1 → members w b n ≡ members v b n
  unfolding members
  members_alike n h e = listed-alike b 0 n 0 (omega arith) h e

module _ (g : Numbers) (v w : Seen) (a : SameLookedAt g v w) (sh : Shape g v) where
  -- Ranks

  rank-alike : (p : ℕ) → rank_of g w p ≡ rank_of g v p
  rank-alike p = sum_same v.bit w.bit p (λ i l. a.bit i)

  slot-alike : (p : ℕ) → p < 2 ^ g.P → v.bit p ≡ 1 → w.slot (rank_of g w p) ≡ v.slot (rank_of g v p)
  slot-alike p h e = ap w.slot (rank-alike p) ∙ a.slot (rank_of g v p) (rank-small g v sh.placed p h e)

  -- a slot in use by w is in use by v
  in_use : (c : ℕ) → c < g.C → w.kind c ≢ 0 → v.kind c ≢ 0
  in_use c h ne e = ne (a.kind c h ∙ e)

  bears-alike : (p : ℕ) → p < 2 ^ g.P → w.bit p ≡ 1 → Bears g w p (w.slot (rank_of g w p))
  bears-alike p h e =
      let e' : v.bit p ≡ 1 = sym (a.bit p) ∙ e in
      let c : ℕ = v.slot (rank_of g v p) in
      let x : Bears g v p c = sh.placed.borne p h e' in
      subst (Bears g w p) (sym (slot-alike p h e')) record {
        in-range = x.in-range;
        in_use = λ z. x.in_use (sym (a.kind c x.in-range) ∙ z);
        prefix = a.prefix c x.in-range x.in_use ∙ x.prefix;
      }

  ranked-alike : (c : ℕ) → c < g.C → w.kind c ≢ 0 → Ranked g w c
  ranked-alike c h ne =
      let x : Ranked g v c = sh.placed.ranked c h (in_use c h ne) in
      let e : w.prefix c ≡ v.prefix c = a.prefix c h (in_use c h ne) in
      record {
        in-range = subst (λ (p : ℕ). p < 2 ^ g.P) (sym e) x.in-range;
        is_set = ap w.bit e ∙ a.bit (v.prefix c) ∙ x.is_set;
        there = ap (λ (p : ℕ). w.slot (rank_of g w p)) e ∙ slot-alike (v.prefix c) x.in-range x.is_set ∙ x.there;
      }

  placed_alike : Placed g w
  placed_alike = record {
    past = λ p h l. a.bit p ∙ sh.placed.past p h l;
    prefixes = rank-alike (2 ^ g.P) ∙ sh.placed.prefixes;
    borne = bears-alike;
    ranked = ranked-alike;
    kinds = λ c h. subst (λ (k : ℕ). k ≤ 2) (sym (a.kind c h)) (sh.placed.kinds c h);
  }

  -- Vectors and tries

  vector-alike : (c : ℕ) → c < g.C → w.kind c ≡ 1 → Vector g w c
  vector-alike c h e =
      let k : v.kind c ≡ 1 = sym (a.kind c h) ∙ e in
      let x : Vector g v c = sh.held.vector c h k in
      let es : w.size c ≡ v.size c = a.size c h (omega arith) in
      record {
        some = omega (arith, x.some);
        few = omega (arith, x.few);
        distinct = λ i j l u q. x.distinct i j l (omega arith) (sym (a.entry c i h k (omega arith)) ∙ q ∙ a.entry c j h k (omega arith));
        small = λ i l. subst (λ (s : ℕ). s < 2 ^ g.S) (sym (a.entry c i h k (omega arith))) (x.small i (omega arith));
      }

  trie-members : (c : ℕ) → c < g.C → v.kind c ≡ 2 → members w.node (bytes_of g.S) (w.link c) ≡ members v.node (bytes_of g.S) (v.link c)
  trie-members c h e =
      let x : Trie g v c = sh.held.trie c h e in
      ap (members w.node (bytes_of g.S)) (a.link c h (omega arith))
      ∙ members_alike g.N (bytes_of g.S) v.node w.node a.nodes sh.hung.children (v.link c) x.root-in-range x.root-level

  trie-alike : (c : ℕ) → c < g.C → w.kind c ≡ 2 → Trie g w c
  trie-alike c h e =
      let k : v.kind c ≡ 2 = sym (a.kind c h) ∙ e in
      let x : Trie g v c = sh.held.trie c h k in
      let es : w.size c ≡ v.size c = a.size c h (omega arith) in
      let el : w.link c ≡ v.link c = a.link c h (omega arith) in
      let em : members w.node (bytes_of g.S) (w.link c) ≡ members v.node (bytes_of g.S) (v.link c) = trie-members c h k in
      record {
        many = omega (arith, x.many);
        small = λ s m. x.small s (sym (ap (mem s) em) ∙ m);
        root-in-range = omega (arith, x.root-in-range);
        root-level = ap w.node.level1 el ∙ a.nodes.level1 (v.link c) x.root-in-range ∙ x.root-level;
        root-back = ap w.node.parent el ∙ a.nodes.parent (v.link c) x.root-in-range ∙ x.root-back;
        true-size = es ∙ x.true-size ∙ sym (ap length em);
      }

  held-alike : Held g w
  held-alike = record { vector = vector-alike; trie = trie-alike }

  -- Nodes

  full-alike : (n : ℕ) → n < g.N → w.node.level1 n ≢ 0 → NonEmpty w.node n
  full-alike n h ne =
      let u : v.node.level1 n ≢ 0 = λ e. ne (a.nodes.level1 n h ∙ e) in
      let x : NonEmpty v.node n = sh.hung.non-empty n h u in
      record { at = x.at; small = x.small; is_set = a.nodes.bit n x.at h u x.small ∙ x.is_set }

  child-alike : Children w.node g.N (bytes_of g.S)
  child-alike l n x h e hl hx eb =
      let e' : v.node.level1 n ≡ suc l = sym (a.nodes.level1 n h) ∙ e in
      let eb' : v.node.bit n x ≡ 1 = sym (a.nodes.bit n x h (omega arith) hx) ∙ eb in
      let m : ℕ = v.node.child n x in
      let y : Child v.node g.N l n x m = sh.hung.children l n x h e' hl hx eb' in
      subst (Child w.node g.N l n x) (sym (a.nodes.child l n x h e' hl hx eb')) record {
        in-range = y.in-range;
        level = a.nodes.level1 m y.in-range ∙ y.level;
        parent = a.nodes.parent m y.in-range ∙ y.parent;
        byte = a.nodes.byte l m y.in-range y.level ∙ y.byte;
      }

  module _ (lk : Linked g v) where
    above-alike : (l n : ℕ) → n < g.N → w.node.level1 n ≡ suc (suc l) → Above w.node g.N l n
    above-alike l n h e =
        let e' : v.node.level1 n ≡ suc (suc l) = sym (a.nodes.level1 n h) ∙ e in
        let x : Above v.node g.N l n = lk.wf.up l n h e' in
        let m : ℕ = v.node.parent n in
        let y : ℕ = v.node.byte n in
        let ep : w.node.parent n ≡ m = a.nodes.parent n h in
        let eb : w.node.byte n ≡ y = a.nodes.byte l n h e' in
        let hl : suc l < bytes_of g.S = omega (arith, lk.wf.levels n h) in
        record {
          in-range = omega (arith, x.in-range);
          level = ap w.node.level1 ep ∙ a.nodes.level1 m x.in-range ∙ x.level;
          byte = omega (arith, x.byte);
          is_set = ap₂ w.node.bit ep eb ∙ a.nodes.bit m y x.in-range (omega (arith, x.level)) x.byte ∙ x.is_set;
          is-child = ap₂ w.node.child ep eb ∙ a.nodes.child l m y x.in-range x.level hl x.byte x.is_set ∙ x.is-child;
        }

    rooted-alike : (n : ℕ) → n < g.N → w.node.level1 n ≡ 1 → Rooted g w n
    rooted-alike n h e =
        let x : Rooted g v n = lk.rooted n h (sym (a.nodes.level1 n h) ∙ e) in
        let c : ℕ = v.node.parent n in
        let ep : w.node.parent n ≡ c = a.nodes.parent n h in
        record {
          in-range = omega (arith, x.in-range);
          is-trie = ap w.kind ep ∙ a.kind c x.in-range ∙ x.is-trie;
          is-root = ap w.link ep ∙ a.link c x.in-range (omega (arith, x.is-trie)) ∙ x.is-root;
        }

    linked-alike : Linked g w
    linked-alike = record {
      wf = record {
        levels = λ n h. subst (λ (k : ℕ). k ≤ bytes_of g.S) (sym (a.nodes.level1 n h)) (lk.wf.levels n h);
        down = child-alike;
        up = above-alike;
      };
      non-empty = full-alike;
      rooted = rooted-alike;
    }

  -- Stacks

  free-slot-alike : (i : ℕ) → i < g.C - g.k → FreeSlot g w i
  free-slot-alike i h =
      let x : FreeSlot g v i = sh.stacks.free-slots i h in
      let e : w.free i ≡ v.free i = a.free i h in
      record {
        in-range = omega (arith, x.in-range);
        is_free = ap w.kind e ∙ a.kind (v.free i) x.in-range ∙ x.is_free;
        place = ap w.link e ∙ a.link (v.free i) x.in-range (omega (arith, x.is_free)) ∙ x.place;
      }

  stacked-alike : (c : ℕ) → c < g.C → w.kind c ≡ 0 → Stacked g w c
  stacked-alike c h e =
      let k : v.kind c ≡ 0 = sym (a.kind c h) ∙ e in
      let x : Stacked g v c = sh.stacks.stacked c h k in
      let el : w.link c ≡ v.link c = a.link c h (omega arith) in
      record { in-range = omega (arith, x.in-range); there = ap w.free el ∙ a.free (v.link c) x.in-range ∙ x.there }

  spare-node-alike : (i : ℕ) → i < g.N - g.used → SpareNode g.N w.spare w.node i
  spare-node-alike i h =
      let x : SpareNode g.N v.spare v.node i = sh.stacks.spare-nodes i h in
      let e : w.spare i ≡ v.spare i = a.spare i h in
      record {
        in-range = omega (arith, x.in-range);
        is_free = ap w.node.level1 e ∙ a.nodes.level1 (v.spare i) x.in-range ∙ x.is_free;
        place = ap w.node.parent e ∙ a.nodes.parent (v.spare i) x.in-range ∙ x.place;
      }

  stacked-node-alike : (n : ℕ) → n < g.N → w.node.level1 n ≡ 0 → StackedNode (g.N - g.used) w.spare w.node n
  stacked-node-alike n h e =
      let x : StackedNode (g.N - g.used) v.spare v.node n = sh.stacks.stacked-nodes n h (sym (a.nodes.level1 n h) ∙ e) in
      let ep : w.node.parent n ≡ v.node.parent n = a.nodes.parent n h in
      record { in-range = omega (arith, x.in-range); there = ap w.spare ep ∙ a.spare (v.node.parent n) x.in-range ∙ x.there }

  stacks-alike : Stacks g w
  stacks-alike = record { free-slots = free-slot-alike; stacked = stacked-alike; spare-nodes = spare-node-alike; stacked-nodes = stacked-node-alike }

  -- The reading

  suffixes-alike : (c : ℕ) → c < g.C → v.kind c ≢ 0 → suffixes g w c ≡ suffixes g v c
  unfolding suffixes
  suffixes-alike c h ne =
      ap (λ (k : ℕ). cond (eqb k 2) (members w.node (bytes_of g.S) (w.link c)) (up_to (w.entry c) (w.size c))) (a.kind c h) ∙ pick (ℕ_discrete (v.kind c) 2)
    where
      pick : Dec (v.kind c ≡ 2) → cond (eqb (v.kind c) 2) (members w.node (bytes_of g.S) (w.link c)) (up_to (w.entry c) (w.size c))
          ≡ cond (eqb (v.kind c) 2) (members v.node (bytes_of g.S) (v.link c)) (up_to (v.entry c) (v.size c))
      pick (yes e) = rw (eq-eqb (v.kind c) 2 e) (trie-members c h e)
      pick (no n2) = rw (ne_eqb (v.kind c) 2 n2) (ap (up_to (w.entry c)) (a.size c h ne)
          ∙ up_to-same (v.entry c) (w.entry c) (v.size c) (λ i l. a.entry c i h (omega (arith, sh.placed.kinds c h)) l))

  module _ (bits : (p : ℕ) → v.bit p < 2) where
    container-alike : (r : ℕ) → r < g.k → container g w (w.slot r) ≡ container g v (v.slot r)
    container-alike r h =
        let x : AtRank g v r = at-rank g v sh.placed bits r h in
        ap (container g w) (a.slot r h)
        ∙ ap₂ (λ (p : ℕ) (ss : List ℕ). record { prefix = p; slot = v.slot r; suffixes = ss }) (a.prefix (v.slot r) x.in-range x.in_use) (suffixes-alike (v.slot r) x.in-range x.in_use)

    pub read_alike : read g w ≡ read g v
    unfolding read
    read_alike = ap₂ (λ (cs : List Container) (fs : List ℕ). record { P = g.P; S = g.S; C = g.C; N = g.N; containers = cs; free = fs })
        (up_to-same (λ r. container g v (v.slot r)) (λ r. container g w (w.slot r)) g.k container-alike)
        (down_from-same v.free w.free (g.C - g.k) a.free)

    counts-alike : Counts g w
    counts-alike = record {
      used-true = sum_same (λ n. min 1 (v.node.level1 n)) (λ n. min 1 (w.node.level1 n)) g.N (λ n h. ap (min 1) (a.nodes.level1 n h)) ∙ sh.counts.used-true;
      count-true = ap (λ (r : Reading). length (walk r)) read_alike ∙ sh.counts.count-true;
    }

    pub shape-alike : Shape g w
    shape-alike = record {
      placed = placed_alike;
      held = held-alike;
      hung = hung-of g w held-alike (linked-alike (linked_of g v sh.held sh.hung));
      stacks = stacks-alike;
      counts = counts-alike;
    }
