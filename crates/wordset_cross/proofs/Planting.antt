-- A trie planted in the arena of a region, and a record of slot c that was a vector's and names its root: what the other slots hold stays. Assumes nothing.
use Prim.Native.Nat.{ℕ, ◌+◌, ◌-◌, ◌*◌, ◌<◌}
use mathlib.Core.Path.{◌≡◌, refl, sym, ap, ◌∙◌, subst}
use mathlib.Core.Logic.{◌≢◌}
use mathlib.Core.Bool.{true}
use mathlib.Core.List.{List, ◌++◌}
use native.Mathlib.Omega.{arith}
use native.Mathlib.Decide.{ℕ_discrete}
use lib.ListN.{length, take, drop, set, get_or, length-set}
use lib.Seq.{get_or-take, get_or-set_same, get_or-set_other}
use Rattle.lists.specs.Lists.{mem}
use Rattle.model.specs.Words.{bytes_of}
use Rattle.model.specs.Room.{threshold}
use Rattle.model.specs.Good.{GoodSuffixes}
use Rattle.region.specs.Geometry.{record_words}
use Rattle.region.specs.Areas.{Numbers}
use Rattle.region.specs.Nodes.{Nodes}
use Rattle.region.specs.Tries.{members}
use Rattle.region.specs.Seen.{Seen}
use Rattle.region.specs.WellFormed.{SpareNode, StackedNode, Trie, Shape}
use Rattle.region.specs.Linked.{Rooted, Linked}
use Rattle.region.proofs.OnePath.{linked_of}
use Rattle.arena.specs.Arena.{spare_in, Root, OthersStay, Planted}
use Rattle.lens.specs.Parts.{Parts, seen_in, with_records, with_arena}
use Rattle.lens.proofs.Holding.{Sized}
use Rattle.steps.specs.Steps.{OtherRecords, trie, NodesFor, Refilled}
use Rattle.wordset_trie.proofs.Arenas.{nodes-are}
use Rattle.wordset_cross.specs.Settled.{recorded}

-- a stack place that says the same
pub spare-as : (N i : ℕ) (s t : ℕ → ℕ) (v : Nodes) → s i ≡ t i → SpareNode N t v i → SpareNode N s v i
spare-as N i s t v e y = record {
  in-range = subst (λ (n : ℕ). n < N) (sym e) y.in-range;
  is_free = ap v.level1 e ∙ y.is_free;
  place = ap v.parent e ∙ y.place;
}

pub stacked-as : (free n : ℕ) (s t : ℕ → ℕ) (v : Nodes) → s (v.parent n) ≡ t (v.parent n) → StackedNode free t v n → StackedNode free s v n
stacked-as free n s t v e y = record { in-range = y.in-range; there = e ∙ y.there }

-- Words of a record

module _ (rs : List ℕ) (c kind n link : ℕ) where
  abbrev one : List ℕ
  one = set rs (record_words * c) kind

  abbrev two : List ℕ
  two = set one (record_words * c + 2) n

  pub record-else : (i : ℕ) → i ≢ record_words * c → i ≢ record_words * c + 2 → i ≢ record_words * c + 3 → get_or (recorded c kind n link rs) i 0 ≡ get_or rs i 0
  record-else i a b d = get_or-set_other two (record_words * c + 3) i link 0 d ∙ get_or-set_other one (record_words * c + 2) i n 0 b ∙ get_or-set_other rs (record_words * c) i kind 0 a

  module _ (long : record_words * c + 3 < length rs) where
    pub kind-is : get_or (recorded c kind n link rs) (record_words * c) 0 ≡ kind
    kind-is =
        get_or-set_other two (record_words * c + 3) (record_words * c) link 0 (λ e. omega arith)
        ∙ get_or-set_other one (record_words * c + 2) (record_words * c) n 0 (λ e. omega arith)
        ∙ get_or-set_same rs (record_words * c) kind 0 (omega arith)

    pub size_is : get_or (recorded c kind n link rs) (record_words * c + 2) 0 ≡ n
    size_is =
        get_or-set_other two (record_words * c + 3) (record_words * c + 2) link 0 (λ e. omega arith)
        ∙ get_or-set_same one (record_words * c + 2) n 0 (omega (arith, length-set rs (record_words * c) kind))

    pub link-is : get_or (recorded c kind n link rs) (record_words * c + 3) 0 ≡ link
    link-is = get_or-set_same two (record_words * c + 3) link 0 (omega (arith, length-set rs (record_words * c) kind, length-set one (record_words * c + 2) n))

-- the areas with another arena and another record of slot c
abbrev pub planted_parts : Numbers → Parts → ℕ → List ℕ → ℕ → ℕ → Parts
planted_parts g x c new n root = with_records (recorded c 2 n root x.records) (with_arena (take g.N new) (drop g.N new) x)

module _ (g : Numbers) (x : Parts) (sh : Shape g (seen_in x)) (z : Sized g x) (c : ℕ) (h : c < g.C) (k : (seen_in x).kind c ≡ 1) (new ss : List ℕ) (root used' n : ℕ) (b : Planted g.N (bytes_of g.S) g.used (x.node_stack ++ x.nodes) c root ss used' new) where
  abbrev v : Seen
  v = seen_in x

  abbrev w : Seen
  w = seen_in (planted_parts g x c new n root)

  linked : Linked g v
  linked = linked_of g v sh.held sh.hung

  inside : record_words * c + 3 < length x.records
  inside = omega (arith, z.records)

  kind-here : w.kind c ≡ 2
  kind-here = kind-is x.records c 2 n root inside

  size-here : w.size c ≡ n
  size-here = size_is x.records c 2 n root inside

  link_here : w.link c ≡ root
  link_here = link-is x.records c 2 n root inside

  kind-else : (d : ℕ) → d ≢ c → w.kind d ≡ v.kind d
  kind-else d ne = record-else x.records c 2 n root (record_words * d) (λ e. ne (omega arith)) (λ e. omega arith) (λ e. omega arith)

  prefix_same : (d : ℕ) → w.prefix d ≡ v.prefix d
  prefix_same d = record-else x.records c 2 n root (record_words * d + 1) (λ e. omega arith) (λ e. omega arith) (λ e. omega arith)

  size-else : (d : ℕ) → d ≢ c → w.size d ≡ v.size d
  size-else d ne = record-else x.records c 2 n root (record_words * d + 2) (λ e. omega arith) (λ e. ne (omega arith)) (λ e. omega arith)

  link-else : (d : ℕ) → d ≢ c → w.link d ≡ v.link d
  link-else d ne = record-else x.records c 2 n root (record_words * d + 3) (λ e. omega arith) (λ e. omega arith) (λ e. ne (omega arith))

  others : OtherRecords g v w c
  others = record {
    kind = λ d l ne. kind-else d ne;
    prefix = λ d l ne u. prefix_same d;
    size = λ d l ne u. size-else d ne;
    link = λ d l ne u. link-else d ne;
    entry = λ d i l ne e s. refl;
  }

  stay : OthersStay v.node w.node g.N (bytes_of g.S) root
  stay = subst (λ (m : Nodes). OthersStay m w.node g.N (bytes_of g.S) root) (nodes-are g x sh z) b.others

  was_free : v.node.level1 root ≡ 0
  was_free = ap (λ (m : Nodes). m.level1 root) (sym (nodes-are g x sh z)) ∙ b.was_free

  -- a root that was there is another
  apart : (d : ℕ) → d < g.C → v.kind d ≡ 2 → v.link d ≢ root
  apart d l e q =
      let a : v.node.level1 root ≡ 1 = ap v.node.level1 (sym q) ∙ (sh.held.trie d l e).root-level in
      let o : ◌≡◌ {A = ℕ} 1 0 = sym a ∙ was_free in
      omega arith

  old-root : (d : ℕ) → d < g.C → v.kind d ≡ 2 → Root v.node g.N (v.link d)
  old-root d l e = record { in-range = (sh.held.trie d l e).root-in-range; level = (sh.held.trie d l e).root-level }

  rooted : (m : ℕ) → m < g.N → w.node.level1 m ≡ 1 → Rooted g w m
  rooted m l e = pick (ℕ_discrete m root)
    where
      pick : Dec (m ≡ root) → Rooted g w m
      pick (yes q) =
          let ep : w.node.parent m ≡ c = ap w.node.parent q ∙ b.container in
          record {
            in-range = subst (λ (d : ℕ). d < g.C) (sym ep) h;
            is-trie = ap w.kind ep ∙ kind-here;
            is-root = ap w.link ep ∙ link_here ∙ sym q;
          }
      pick (no ne) =
          let o : Root v.node g.N m = stay.no-new m ne (record { in-range = l; level = e }) in
          let r : Rooted g v m = linked.rooted m l o.level in
          let ep : w.node.parent m ≡ v.node.parent m = stay.container m ne o in
          let nc : v.node.parent m ≢ c = λ q. let a : v.kind c ≡ 2 = ap v.kind (sym q) ∙ r.is-trie in omega arith in
          record {
            in-range = subst (λ (d : ℕ). d < g.C) (sym ep) r.in-range;
            is-trie = ap w.kind ep ∙ kind-else (v.node.parent m) nc ∙ r.is-trie;
            is-root = ap w.link ep ∙ link-else (v.node.parent m) nc ∙ r.is-root;
          }

  spare-same : (i : ℕ) → i < g.N → w.spare i ≡ spare_in new i
  spare-same i l = get_or-take g.N new i 0 l

  nodes-for : NodesFor g v w c used'
  nodes-for = record {
    wf = b.arena.tries.wf;
    non-empty = b.arena.tries.non-empty;
    rooted = rooted;
    others-root = λ d l ne e. (stay.root (v.link d) (apart d l e) (old-root d l e)).level;
    others-container = λ d l ne e. stay.container (v.link d) (apart d l e) (old-root d l e) ∙ (sh.held.trie d l e).root-back;
    others-suffixes = λ d l ne e. stay.suffixes (v.link d) (apart d l e) (old-root d l e);
    spare-nodes = λ i l. spare-as g.N i w.spare (spare_in new) w.node (spare-same i (omega arith)) (b.arena.spare-nodes i l);
    stacked-nodes = λ m l e.
        let y : StackedNode (g.N - used') (spare_in new) w.node m = b.arena.stacked-nodes m l e in
        stacked-as (g.N - used') m w.spare (spare_in new) w.node (spare-same (w.node.parent m) (omega (arith, y.in-range))) y;
    used-true = b.arena.used-true;
  }

  module _ (many : threshold < n) (true-size : n ≡ length ss) (good : GoodSuffixes g.S ss) where
    holds-it : members w.node (bytes_of g.S) (w.link c) ≡ ss
    holds-it = ap (members w.node (bytes_of g.S)) link_here ∙ b.suffixes

    is-trie : Trie g w c
    is-trie = record {
      many = omega (arith, size-here);
      small = λ s m. good.below s (subst (λ (y : List ℕ). mem s y ≡ true) holds-it m);
      root-in-range = subst (λ (m : ℕ). m < g.N) (sym link_here) b.root.in-range;
      root-level = ap w.node.level1 link_here ∙ b.root.level;
      root-back = ap w.node.parent link_here ∙ b.container;
      true-size = size-here ∙ true-size ∙ sym (ap length holds-it);
    }

    pub refilled : Refilled g v w c ss used'
    refilled = record {
      in-range = h;
      in_use = λ e. omega arith;
      bit = λ p. refl;
      slot = λ r l. refl;
      free = λ i l. refl;
      prefix = prefix_same c;
      holds = trie kind-here is-trie holds-it;
      others = others;
      nodes = nodes-for;
    }
