-- The node stack and the nodes of a region as one arena, and an arena in which one trie changed as the nodes of a region: what the other slots hold stays. Assumes nothing.
use Prim.Native.Nat.{ℕ, ◌+◌, ◌-◌, ◌*◌, ◌<◌}
use mathlib.Core.Path.{◌≡◌, refl, sym, ap, ◌∙◌, subst}
use mathlib.Core.Logic.{◌≢◌}
use mathlib.Core.Bool.{true}
use mathlib.Core.List.{List, ◌++◌}
use native.Mathlib.Omega.{arith}
use native.Mathlib.Decide.{ℕ_discrete}
use lib.ListN.{length, take, drop, set, get_or, length-append}
use lib.Seq.{get_or-take, take_at, drop_at, get_or-set_same, get_or-set_other}
use Rattle.lists.specs.Lists.{mem}
use Rattle.model.specs.Words.{bytes_of}
use Rattle.model.specs.Room.{threshold}
use Rattle.model.specs.Good.{GoodSuffixes}
use Rattle.region.specs.Geometry.{record_words}
use Rattle.region.specs.Areas.{Numbers}
use Rattle.region.specs.Nodes.{Nodes, nodes_of}
use Rattle.region.specs.Tries.{members}
use Rattle.region.specs.Seen.{Seen}
use Rattle.region.specs.WellFormed.{AllNonEmpty, SpareNode, StackedNode, nodes_used, Trie, Shape}
use Rattle.region.specs.Linked.{Wf, Rooted, Linked}
use Rattle.region.proofs.OnePath.{linked_of}
use Rattle.arena.specs.Arena.{spare_in, nodes_in, Root, Arena, OthersStay, Became}
use Rattle.lens.specs.Parts.{Parts, seen_in, with_records, with_arena}
use Rattle.lens.proofs.Holding.{Sized}
use Rattle.steps.specs.Steps.{OtherRecords, trie, NodesFor, Refilled}

-- a stack place that says the same
spare-as : (N i : ℕ) (s t : ℕ → ℕ) (v : Nodes) → s i ≡ t i → SpareNode N t v i → SpareNode N s v i
spare-as N i s t v e y = record {
  in-range = subst (λ (n : ℕ). n < N) (sym e) y.in-range;
  is_free = ap v.level1 e ∙ y.is_free;
  place = ap v.parent e ∙ y.place;
}

stacked-as : (free n : ℕ) (s t : ℕ → ℕ) (v : Nodes) → s (v.parent n) ≡ t (v.parent n) → StackedNode free t v n → StackedNode free s v n
stacked-as free n s t v e y = record { in-range = y.in-range; there = e ∙ y.there }

-- the areas with another arena and another length of slot c
abbrev pub refilled_parts : Numbers → Parts → ℕ → List ℕ → ℕ → Parts
refilled_parts g x c new n = with_records (set x.records (record_words * c + 2) n) (with_arena (take g.N new) (drop g.N new) x)

module _ (g : Numbers) (x : Parts) (sh : Shape g (seen_in x)) (z : Sized g x) where
  abbrev v : Seen
  v = seen_in x

  abbrev arena : List ℕ
  arena = x.node_stack ++ x.nodes

  linked : Linked g v
  linked = linked_of g v sh.held sh.hung

  pub nodes-are : nodes_in g.N arena ≡ v.node
  nodes-are = ap nodes_of (drop_at x.node_stack x.nodes g.N z.node_stack)

  spare-at : (i : ℕ) → i < g.N → spare_in arena i ≡ v.spare i
  spare-at i h = sym (get_or-take g.N arena i 0 h) ∙ ap (λ (y : List ℕ). get_or y i 0) (take_at x.node_stack x.nodes g.N z.node_stack)

  -- the arena of a region
  pub arena-of : Arena g.N (bytes_of g.S) g.used arena
  arena-of = record {
    tries = record {
      long = length-append x.node_stack x.nodes ∙ omega (arith, z.node_stack, z.nodes);
      wf = subst (λ (m : Nodes). Wf m g.N (bytes_of g.S)) (sym nodes-are) linked.wf;
      non-empty = subst (λ (m : Nodes). AllNonEmpty m g.N) (sym nodes-are) linked.non-empty;
    };
    spare-nodes = λ i h. subst (λ (m : Nodes). SpareNode g.N (spare_in arena) m i) (sym nodes-are)
        (spare-as g.N i (spare_in arena) v.spare v.node (spare-at i (omega arith)) (sh.stacks.spare-nodes i h));
    stacked-nodes = λ n h e.
        let y : StackedNode (g.N - g.used) v.spare v.node n = sh.stacks.stacked-nodes n h (ap (λ (m : Nodes). m.level1 n) (sym nodes-are) ∙ e) in
        subst (λ (m : Nodes). StackedNode (g.N - g.used) (spare_in arena) m n) (sym nodes-are)
        (stacked-as (g.N - g.used) n (spare_in arena) v.spare v.node (spare-at (v.node.parent n) (omega (arith, y.in-range))) y);
    used-true = ap (λ (m : Nodes). nodes_used m g.N) nodes-are ∙ sh.counts.used-true;
  }

  module _ (c : ℕ) (h : c < g.C) (k : v.kind c ≡ 2) where
    here : Trie g v c
    here = sh.held.trie c h k

    pub root-of : Root (nodes_in g.N arena) g.N (v.link c)
    root-of = record { in-range = here.root-in-range; level = ap (λ (m : Nodes). m.level1 (v.link c)) nodes-are ∙ here.root-level }

    -- Another arena, in which the trie in slot c became one of the suffixes ss

    module _ (new ss : List ℕ) (used' n : ℕ) (b : Became g.N (bytes_of g.S) g.used arena (v.link c) ss used' new) where
      abbrev w : Seen
      w = seen_in (refilled_parts g x c new n)

      record-else : (i : ℕ) → i ≢ record_words * c + 2 → get_or (set x.records (record_words * c + 2) n) i 0 ≡ get_or x.records i 0
      record-else i ne = get_or-set_other x.records (record_words * c + 2) i n 0 ne

      size-here : w.size c ≡ n
      size-here = get_or-set_same x.records (record_words * c + 2) n 0 (omega (arith, z.records))

      kind-same : (d : ℕ) → w.kind d ≡ v.kind d
      kind-same d = record-else (record_words * d) (omega arith)

      prefix_same : (d : ℕ) → w.prefix d ≡ v.prefix d
      prefix_same d = record-else (record_words * d + 1) (omega arith)

      link-same : (d : ℕ) → w.link d ≡ v.link d
      link-same d = record-else (record_words * d + 3) (omega arith)

      size-else : (d : ℕ) → d ≢ c → w.size d ≡ v.size d
      size-else d ne = record-else (record_words * d + 2) (omega arith)

      others : OtherRecords g v w c
      others = record {
        kind = λ d l ne. kind-same d;
        prefix = λ d l ne u. prefix_same d;
        size = λ d l ne u. size-else d ne;
        link = λ d l ne u. link-same d;
        entry = λ d i l ne e s. refl;
      }

      stay : OthersStay v.node w.node g.N (bytes_of g.S) (v.link c)
      stay = subst (λ (m : Nodes). OthersStay m w.node g.N (bytes_of g.S) (v.link c)) nodes-are b.others

      root-back : w.node.parent (v.link c) ≡ c
      root-back = b.container ∙ ap (λ (m : Nodes). m.parent (v.link c)) nodes-are ∙ here.root-back

      -- the root of another slot is another
      apart : (d : ℕ) → d < g.C → d ≢ c → v.kind d ≡ 2 → v.link d ≢ v.link c
      apart d l ne e q = ne (sym (sh.held.trie d l e).root-back ∙ ap v.node.parent q ∙ here.root-back)

      old-root : (d : ℕ) → d < g.C → v.kind d ≡ 2 → Root v.node g.N (v.link d)
      old-root d l e = record { in-range = (sh.held.trie d l e).root-in-range; level = (sh.held.trie d l e).root-level }

      rooted : (m : ℕ) → m < g.N → w.node.level1 m ≡ 1 → Rooted g w m
      rooted m l e = pick (ℕ_discrete m (v.link c))
        where
          pick : Dec (m ≡ v.link c) → Rooted g w m
          pick (yes q) =
              let ep : w.node.parent m ≡ c = ap w.node.parent q ∙ root-back in
              record {
                in-range = subst (λ (d : ℕ). d < g.C) (sym ep) h;
                is-trie = ap w.kind ep ∙ kind-same c ∙ k;
                is-root = ap w.link ep ∙ link-same c ∙ sym q;
              }
          pick (no ne) =
              let o : Root v.node g.N m = stay.no-new m ne (record { in-range = l; level = e }) in
              let r : Rooted g v m = linked.rooted m l o.level in
              let ep : w.node.parent m ≡ v.node.parent m = stay.container m ne o in
              record {
                in-range = subst (λ (d : ℕ). d < g.C) (sym ep) r.in-range;
                is-trie = ap w.kind ep ∙ kind-same (v.node.parent m) ∙ r.is-trie;
                is-root = ap w.link ep ∙ link-same (v.node.parent m) ∙ r.is-root;
              }

      spare-same : (i : ℕ) → i < g.N → w.spare i ≡ spare_in new i
      spare-same i l = get_or-take g.N new i 0 l

      pub nodes-for : NodesFor g v w c used'
      nodes-for = record {
        wf = b.arena.tries.wf;
        non-empty = b.arena.tries.non-empty;
        rooted = rooted;
        others-root = λ d l ne e. (stay.root (v.link d) (apart d l ne e) (old-root d l e)).level;
        others-container = λ d l ne e. stay.container (v.link d) (apart d l ne e) (old-root d l e) ∙ (sh.held.trie d l e).root-back;
        others-suffixes = λ d l ne e. stay.suffixes (v.link d) (apart d l ne e) (old-root d l e);
        spare-nodes = λ i l. spare-as g.N i w.spare (spare_in new) w.node (spare-same i (omega arith)) (b.arena.spare-nodes i l);
        stacked-nodes = λ m l e.
            let y : StackedNode (g.N - used') (spare_in new) w.node m = b.arena.stacked-nodes m l e in
            stacked-as (g.N - used') m w.spare (spare_in new) w.node (spare-same (w.node.parent m) (omega (arith, y.in-range))) y;
        used-true = b.arena.used-true;
      }

      module _ (many : threshold < n) (true-size : n ≡ length ss) (good : GoodSuffixes g.S ss) where
        holds-it : members w.node (bytes_of g.S) (w.link c) ≡ ss
        holds-it = ap (members w.node (bytes_of g.S)) (link-same c) ∙ b.suffixes

        is-trie : Trie g w c
        is-trie = record {
          many = omega (arith, size-here);
          small = λ s m. good.below s (subst (λ (y : List ℕ). mem s y ≡ true) holds-it m);
          root-in-range = subst (λ (m : ℕ). m < g.N) (sym (link-same c)) b.root.in-range;
          root-level = ap w.node.level1 (link-same c) ∙ b.root.level;
          root-back = ap w.node.parent (link-same c) ∙ root-back;
          true-size = size-here ∙ true-size ∙ sym (ap length holds-it);
        }

        pub refilled : Refilled g v w c ss used'
        refilled = record {
          in-range = h;
          in_use = λ e. omega arith;
          bit = λ p. refl;
          slot = λ r l. refl;
          free = λ i l. refl;
          prefix = prefix_same c;
          holds = trie (kind-same c ∙ k) is-trie holds-it;
          others = others;
          nodes = nodes-for;
        }
