-- The parts that are tested one by one are together what makes a region well formed, and each follows from it. Assumes nothing.
use Prim.Native.Nat.{ℕ, ◌-◌, ◌<◌}
use mathlib.Core.Path.{◌≡◌, sym, ap, ◌∙◌, subst}
use mathlib.Core.List.{List}
use native.Mathlib.Omega.{arith}
use lib.ListN.{length, get_or}
use lib.Seq.{get_or-take}
use Rattle.model.specs.Words.{bytes_of}
use Rattle.model.specs.Reading.{walk}
use Rattle.region.specs.Areas.{Numbers, numbers}
use Rattle.region.specs.Nodes.{Nodes}
use Rattle.region.specs.Seen.{Seen, seen}
use Rattle.region.specs.Read.{read}
use Rattle.region.specs.WellFormed.{AllNonEmpty, SpareNode, StackedNode, nodes_used, Placed, Held, Shape, Ready, WellFormed}
use Rattle.region.specs.Linked.{Wf, Rooted, Linked}
use Rattle.region.proofs.OnePath.{hung-of, linked_of}
use Rattle.arena.specs.Arena.{spare_in, nodes_in, Arena}
use Rattle.lens.specs.Parts.{arena_of}
use Rattle.lens.proofs.Stores.{arena-stack}
use Rattle.inspect_slots.specs.Slots.{FreeStack}
use Rattle.inspect_tries.proofs.Lent.{arena-long, nodes-are}

-- a stack place that says the same
spare-as : (N i : ℕ) (s t : ℕ → ℕ) (v : Nodes) → s i ≡ t i → SpareNode N t v i → SpareNode N s v i
spare-as N i s t v e y = record {
  in-range = subst (λ (n : ℕ). n < N) (sym e) y.in-range;
  is_free = ap v.level1 e ∙ y.is_free;
  place = ap v.parent e ∙ y.place;
}

module _ (l : List ℕ) (r : Ready l) where
  abbrev g : Numbers
  g = numbers l

  abbrev v : Seen
  v = seen g l

  abbrev b : ℕ
  b = bytes_of g.S

  -- the node stack and the nodes of the region, lent as one
  abbrev arena : List ℕ
  arena = arena_of g l

  spare-at : (i : ℕ) → i < g.N → v.spare i ≡ spare_in arena i
  unfolding seen
  spare-at i h = ap (λ (y : List ℕ). get_or y i 0) (sym (arena-stack g l r.long)) ∙ get_or-take g.N arena i 0 h

  -- what is said of the arena is said of the region
  module _ (a : Arena g.N b g.used arena) where
    spare-nodes : (i : ℕ) → i < g.N - g.used → SpareNode g.N v.spare v.node i
    spare-nodes i h = spare-as g.N i v.spare (spare_in arena) v.node (spare-at i (omega arith)) (subst (λ (m : Nodes). SpareNode g.N (spare_in arena) m i) (nodes-are l r) (a.spare-nodes i h))

    stacked-nodes : (n : ℕ) → n < g.N → v.node.level1 n ≡ 0 → StackedNode (g.N - g.used) v.spare v.node n
    stacked-nodes n h e =
        let y : StackedNode (g.N - g.used) (spare_in arena) v.node n = subst (λ (m : Nodes). StackedNode (g.N - g.used) (spare_in arena) m n) (nodes-are l r) (a.stacked-nodes n h (ap (λ (m : Nodes). m.level1 n) (nodes-are l r) ∙ e)) in
        record { in-range = y.in-range; there = spare-at (v.node.parent n) (omega (arith, y.in-range)) ∙ y.there }

    linked : ((n : ℕ) → n < g.N → v.node.level1 n ≡ 1 → Rooted g v n) → Linked g v
    linked rooted = record {
      wf = subst (λ (m : Nodes). Wf m g.N b) (nodes-are l r) a.tries.wf;
      non-empty = subst (λ (m : Nodes). AllNonEmpty m g.N) (nodes-are l r) a.tries.non-empty;
      rooted = rooted;
    }

    -- all parts together
    pub whole_of : Placed g v → FreeStack g v → Held g v → ((n : ℕ) → n < g.N → v.node.level1 n ≡ 1 → Rooted g v n) → length (walk (read g v)) ≡ g.count → WellFormed l
    whole_of pl fs he rooted count = record {
      ready = r;
      shape = record {
        placed = pl;
        held = he;
        hung = hung-of g v he (linked rooted);
        stacks = record { free-slots = fs.free-slots; stacked = fs.stacked; spare-nodes = spare-nodes; stacked-nodes = stacked-nodes };
        counts = record { used-true = subst (λ (m : Nodes). nodes_used m g.N ≡ g.used) (nodes-are l r) a.used-true; count-true = count };
      };
    }

-- each part of a well-formed region that is not itself named by it
module _ (l : List ℕ) (wf : WellFormed l) where
  abbrev sh : Shape (numbers l) (seen (numbers l) l)
  sh = wf.shape

  pub stack-part : FreeStack (numbers l) (seen (numbers l) l)
  stack-part = record { free-slots = sh.stacks.free-slots; stacked = sh.stacks.stacked }

  hangs : Linked (numbers l) (seen (numbers l) l)
  hangs = linked_of (numbers l) (seen (numbers l) l) sh.held sh.hung

  pub rooted-part : (n : ℕ) → n < (numbers l).N → (seen (numbers l) l).node.level1 n ≡ 1 → Rooted (numbers l) (seen (numbers l) l) n
  rooted-part = hangs.rooted

  back : nodes_in (numbers l).N (arena_of (numbers l) l) ≡ (seen (numbers l) l).node
  back = nodes-are l wf.ready

  pub arena-part : Arena (numbers l).N (bytes_of (numbers l).S) (numbers l).used (arena_of (numbers l) l)
  arena-part =
      let r = wf.ready in
      record {
        tries = record {
          long = arena-long l r;
          wf = subst (λ (m : Nodes). Wf m (g l r).N (b l r)) (sym back) hangs.wf;
          non-empty = subst (λ (m : Nodes). AllNonEmpty m (g l r).N) (sym back) hangs.non-empty;
        };
        spare-nodes = λ i h. subst (λ (m : Nodes). SpareNode (g l r).N (spare_in (arena l r)) m i) (sym back)
            (spare-as (g l r).N i (spare_in (arena l r)) (v l r).spare (v l r).node (sym (spare-at l r i (omega arith))) (sh.stacks.spare-nodes i h));
        stacked-nodes = λ n h e.
            let y : StackedNode ((g l r).N - (g l r).used) (v l r).spare (v l r).node n = sh.stacks.stacked-nodes n h (ap (λ (m : Nodes). m.level1 n) (sym back) ∙ e) in
            subst (λ (m : Nodes). StackedNode ((g l r).N - (g l r).used) (spare_in (arena l r)) m n) (sym back)
            (record { in-range = y.in-range; there = sym (spare-at l r ((v l r).node.parent n) (omega (arith, y.in-range))) ∙ y.there });
        used-true = subst (λ (m : Nodes). nodes_used m (g l r).N ≡ (g l r).used) (sym back) sh.counts.used-true;
      }
