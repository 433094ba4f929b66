-- A trie of slot c vanished from the arena of a region, and its suffixes stand in the slot's strip as a vector: what the other slots hold stays. Assumes nothing.
use Prim.Native.Nat.{ℕ, ◌+◌, ◌-◌, ◌*◌, ◌^◌, ◌<◌, ◌≤◌}
use mathlib.Core.Path.{◌≡◌, refl, sym, ap, ◌∙◌, subst}
use mathlib.Core.Logic.{◌≢◌}
use mathlib.Core.Bool.{true}
use mathlib.Core.List.{List, ◌++◌}
use native.Mathlib.Omega.{arith}
use native.Mathlib.Decide.{dec_lt}
use lib.ListN.{length, take, drop, get_or}
use lib.Seq.{length-take-le, get_or-take}
use borrow.Rule.Slice.PartMut.{put_mid}
use Rattle.lists.specs.Lists.{mem, up_to}
use Rattle.lists.proofs.Each.{take-up_to, up_to-mem}
use Rattle.lists.proofs.Same.{up_to-same}
use Rattle.model.specs.Words.{bytes_of}
use Rattle.model.specs.Room.{threshold}
use Rattle.model.specs.Good.{GoodSuffixes}
use Rattle.region.specs.Geometry.{record_words, strip_words}
use Rattle.region.specs.Areas.{Numbers}
use Rattle.region.specs.Nodes.{Nodes}
use Rattle.region.specs.Seen.{Seen}
use Rattle.region.specs.WellFormed.{StackedNode, Vector, Shape}
use Rattle.region.specs.Linked.{Rooted, Linked}
use Rattle.region.proofs.Areas.{get_or-area}
use Rattle.region.proofs.OnePath.{linked_of}
use Rattle.arena.specs.Arena.{spare_in, nodes_in, Root, Arena, OthersStay}
use Rattle.lens.specs.Parts.{Parts, seen_in, with_records, with_entries, with_arena}
use Rattle.lens.proofs.Only.{Only, put_only, area-put, word_below, word-above}
use Rattle.lens.proofs.Holding.{Sized}
use Rattle.strip.proofs.PlaceLaws.{distinct-places}
use Rattle.steps.specs.Steps.{OtherRecords, vector, NodesFor, Refilled}
use Rattle.wordset_trie.proofs.Arenas.{nodes-are}
use Rattle.wordset_cross.specs.Settled.{recorded}
use Rattle.wordset_cross.proofs.Planting.{spare-as, stacked-as, record-else, kind-is, size_is, link-is}

-- the areas with another arena, another strip and another record of slot c
abbrev pub poured_parts : Numbers → Parts → ℕ → List ℕ → List ℕ → ℕ → ℕ → Parts
poured_parts g x c new strip n link = with_records (recorded c 1 n link x.records) (with_entries (put_mid (strip_words * c) strip_words x.entries strip) (with_arena (take g.N new) (drop g.N new) x))

module _ (g : Numbers) (x : Parts) (sh : Shape g (seen_in x)) (z : Sized g x) (c : ℕ) (h : c < g.C) (k : (seen_in x).kind c ≡ 2) (new strip : List ℕ) (long : length strip ≡ strip_words) (used' n link : ℕ)
    (arena : Arena g.N (bytes_of g.S) used' new) (gone : (nodes_in g.N new).level1 ((seen_in x).link c) ≡ 0)
    (stays : OthersStay (nodes_in g.N (x.node_stack ++ x.nodes)) (nodes_in g.N new) g.N (bytes_of g.S) ((seen_in x).link c)) where
  abbrev v : Seen
  v = seen_in x

  abbrev w : Seen
  w = seen_in (poured_parts g x c new strip n link)

  linked : Linked g v
  linked = linked_of g v sh.held sh.hung

  inside : record_words * c + 3 < length x.records
  inside = omega (arith, z.records)

  kind-here : w.kind c ≡ 1
  kind-here = kind-is x.records c 1 n link inside

  size-here : w.size c ≡ n
  size-here = size_is x.records c 1 n link inside

  link_here : w.link c ≡ link
  link_here = link-is x.records c 1 n link inside

  kind-else : (d : ℕ) → d ≢ c → w.kind d ≡ v.kind d
  kind-else d ne = record-else x.records c 1 n link (record_words * d) (λ e. ne (omega arith)) (λ e. omega arith) (λ e. omega arith)

  prefix_same : (d : ℕ) → w.prefix d ≡ v.prefix d
  prefix_same d = record-else x.records c 1 n link (record_words * d + 1) (λ e. omega arith) (λ e. omega arith) (λ e. omega arith)

  size-else : (d : ℕ) → d ≢ c → w.size d ≡ v.size d
  size-else d ne = record-else x.records c 1 n link (record_words * d + 2) (λ e. omega arith) (λ e. ne (omega arith)) (λ e. omega arith)

  link-else : (d : ℕ) → d ≢ c → w.link d ≡ v.link d
  link-else d ne = record-else x.records c 1 n link (record_words * d + 3) (λ e. omega arith) (λ e. omega arith) (λ e. ne (omega arith))

  inside-strip : strip_words * c + strip_words ≤ length x.entries
  inside-strip = omega (arith, z.entries)

  only : Only (strip_words * c) strip_words x.entries (put_mid (strip_words * c) strip_words x.entries strip)
  only = put_only (strip_words * c) strip_words x.entries strip inside-strip long

  entry_here : (i : ℕ) → i < strip_words → w.entry c i ≡ get_or strip i 0
  entry_here i l =
      sym (get_or-area (strip_words * c) strip_words (put_mid (strip_words * c) strip_words x.entries strip) i l)
      ∙ ap (λ (e : List ℕ). get_or e i 0) (area-put (strip_words * c) strip_words x.entries strip inside-strip long)

  entry-else : (d i : ℕ) → d ≢ c → i < strip_words → w.entry d i ≡ v.entry d i
  entry-else d i ne l = pick (dec_lt d c)
    where
      pick : Dec (d < c) → w.entry d i ≡ v.entry d i
      pick (yes b) = word_below only (strip_words * d + i) (omega arith)
      pick (no b) = word-above only (strip_words * d + i) (omega arith)

  others : OtherRecords g v w c
  others = record {
    kind = λ d l ne. kind-else d ne;
    prefix = λ d l ne u. prefix_same d;
    size = λ d l ne u. size-else d ne;
    link = λ d l ne u. link-else d ne;
    entry = λ d i l ne e s. entry-else d i ne (omega (arith, (sh.held.vector d l e).few));
  }

  stay : OthersStay v.node w.node g.N (bytes_of g.S) (v.link c)
  stay = subst (λ (m : Nodes). OthersStay m w.node g.N (bytes_of g.S) (v.link c)) (nodes-are g x sh z) stays

  -- the root of another slot is another
  apart : (d : ℕ) → d < g.C → d ≢ c → v.kind d ≡ 2 → v.link d ≢ v.link c
  apart d l ne e q = ne (sym (sh.held.trie d l e).root-back ∙ ap v.node.parent q ∙ (sh.held.trie c h k).root-back)

  old-root : (d : ℕ) → d < g.C → v.kind d ≡ 2 → Root v.node g.N (v.link d)
  old-root d l e = record { in-range = (sh.held.trie d l e).root-in-range; level = (sh.held.trie d l e).root-level }

  rooted : (m : ℕ) → m < g.N → w.node.level1 m ≡ 1 → Rooted g w m
  rooted m l e =
      let ne : m ≢ v.link c = λ q. let o : ◌≡◌ {A = ℕ} 1 0 = sym e ∙ ap w.node.level1 q ∙ gone in omega arith in
      let o : Root v.node g.N m = stay.no-new m ne (record { in-range = l; level = e }) in
      let r : Rooted g v m = linked.rooted m l o.level in
      let ep : w.node.parent m ≡ v.node.parent m = stay.container m ne o in
      let nc : v.node.parent m ≢ c = λ q. ne (sym r.is-root ∙ ap v.link q) in
      record {
        in-range = subst (λ (d : ℕ). d < g.C) (sym ep) r.in-range;
        is-trie = ap w.kind ep ∙ kind-else (v.node.parent m) nc ∙ r.is-trie;
        is-root = ap w.link ep ∙ link-else (v.node.parent m) nc ∙ r.is-root;
      }

  spare-same : (i : ℕ) → i < g.N → w.spare i ≡ spare_in new i
  spare-same i l = get_or-take g.N new i 0 l

  nodes-for : NodesFor g v w c used'
  nodes-for = record {
    wf = arena.tries.wf;
    non-empty = arena.tries.non-empty;
    rooted = rooted;
    others-root = λ d l ne e. (stay.root (v.link d) (apart d l ne e) (old-root d l e)).level;
    others-container = λ d l ne e. stay.container (v.link d) (apart d l ne e) (old-root d l e) ∙ (sh.held.trie d l e).root-back;
    others-suffixes = λ d l ne e. stay.suffixes (v.link d) (apart d l ne e) (old-root d l e);
    spare-nodes = λ i l. spare-as g.N i w.spare (spare_in new) w.node (spare-same i (omega arith)) (arena.spare-nodes i l);
    stacked-nodes = λ m l e.
        let y : StackedNode (g.N - used') (spare_in new) w.node m = arena.stacked-nodes m l e in
        stacked-as (g.N - used') m w.spare (spare_in new) w.node (spare-same (w.node.parent m) (omega (arith, y.in-range))) y;
    used-true = arena.used-true;
  }

  module _ (some : 1 ≤ n) (few : n ≤ threshold) (good : GoodSuffixes g.S (take n strip)) where
    entry-mem : (i : ℕ) → i < n → mem (get_or strip i 0) (take n strip) ≡ true
    entry-mem i l = ap (mem (get_or strip i 0)) (take-up_to strip 0 n (omega arith)) ∙ up_to-mem (λ j. get_or strip j 0) n i l

    is-vector : Vector g w c
    is-vector = record {
      some = omega (arith, size-here);
      few = omega (arith, size-here);
      distinct = λ i j a b e.
          let lj : j < n = omega (arith, size-here) in
          let len : length (take n strip) ≡ n = length-take-le n strip (omega arith) in
          distinct-places (take n strip) good.distinct i j a (omega arith)
          (get_or-take n strip i 0 (omega arith) ∙ sym (entry_here i (omega arith)) ∙ e ∙ entry_here j (omega arith) ∙ sym (get_or-take n strip j 0 lj));
      small = λ i a.
          let li : i < n = omega (arith, size-here) in
          subst (λ (s : ℕ). s < 2 ^ g.S) (sym (entry_here i (omega arith))) (good.below (get_or strip i 0) (entry-mem i li));
    }

    holds-it : up_to (w.entry c) (w.size c) ≡ take n strip
    holds-it = ap (up_to (w.entry c)) size-here ∙ up_to-same (λ i. get_or strip i 0) (w.entry c) n (λ i l. entry_here i (omega arith)) ∙ sym (take-up_to strip 0 n (omega arith))

    pub refilled : Refilled g v w c (take n strip) used'
    refilled = record {
      in-range = h;
      in_use = λ e. omega arith;
      bit = λ p. refl;
      slot = λ r l. refl;
      free = λ i l. refl;
      prefix = prefix_same c;
      holds = vector kind-here is-vector holds-it;
      others = others;
      nodes = nodes-for;
    }
