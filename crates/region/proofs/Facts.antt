-- A well-formed region reads as a good reading, and its header follows from what it reads as. Assumes nothing.
use Prim.Native.Nat.{ℕ, ◌≤◌, ◌<◌, min}
use mathlib.Core.Path.{◌≡◌, sym, ap, ◌∙◌}
use mathlib.Core.Bool.{true}
use mathlib.Core.List.{List, [], ◌∷◌}
use native.Mathlib.Omega.{arith}
use lib.Dec.{leb}
use lib.ListN.{length, take, get_or}
use borrow.Author.Tests.{le-leb}
use Rattle.lists.specs.Lists.{each, Ascending, Every}
use Rattle.lists.specs.Sums.{sum}
use Rattle.lists.proofs.Laws.{both-and}
use Rattle.lists.proofs.Counts.{sum-few}
use Rattle.lists.proofs.Each.{take-up_to}
use Rattle.model.specs.Room.{containers_needed, nodes_needed, fits}
use Rattle.model.specs.Reading.{Reading, walk, words_of, count, containers_in_use, nodes_in_use, prefixes_of}
use Rattle.model.specs.Good.{Good, GoodContainer}
use Rattle.model.proofs.ContainerLaws.{length-containers, prefixes-words}
use Rattle.model.proofs.InUse.{nodes-containers}
use Rattle.region.specs.Geometry.{header_words, off_bitmap, off_ranks, off_stack, off_records, off_entries, off_node_stack, off_nodes, total}
use Rattle.region.specs.Areas.{Numbers, numbers}
use Rattle.region.specs.Seen.{Seen, seen}
use Rattle.region.specs.Read.{read, reading}
use Rattle.region.specs.WellFormed.{Shape, WellFormed}
use Rattle.region.proofs.SeenBits.{seen-bits}
use Rattle.region.proofs.Containers.{prefixes-ascend, k-fits, containers-length, slots_length, slots-named, containers-good}
use Rattle.region.proofs.NodeCount.{nodes-needed}

module _ (g : Numbers) (v : Seen) (sh : Shape g v) (bits : (p : ℕ) → v.bit p < 2) where
  ascending : Ascending (prefixes_of (read g v).containers)
  ascending = prefixes-ascend g v sh.placed bits

  all-good : Every (GoodContainer g.P g.S) (read g v).containers
  all-good = containers-good g v sh.held sh.placed bits

  containers-are : containers_needed g.S (words_of g.S (read g v).containers) ≡ g.k
  unfolding containers_needed
  containers-are =
      ap length (prefixes-words g.P g.S (read g v).containers ascending all-good)
      ∙ sym (length-containers (read g v).containers) ∙ containers-length g v sh.placed bits

  nodes-are : nodes_needed g.S (words_of g.S (read g v).containers) ≡ g.used
  nodes-are =
      nodes-containers g.P g.S (read g v).containers ascending all-good
      ∙ sym (nodes-needed g v sh.placed sh.held sh.hung bits) ∙ sh.counts.used-true

  used-fits : g.used ≤ g.N
  used-fits = let l : sum (λ n. min 1 (v.node.level1 n)) g.N ≤ g.N = sum-few (λ n. min 1 (v.node.level1 n)) g.N (λ n. omega arith) in omega (arith, sh.counts.used-true)

  room : fits g.S g.C g.N (words_of g.S (read g v).containers) ≡ true
  unfolding fits
  room =
      let ws : List ℕ = words_of g.S (read g v).containers in
      both-and (leb (containers_needed g.S ws) g.C) (leb (nodes_needed g.S ws) g.N)
      (le-leb (containers_needed g.S ws) g.C (omega (arith, containers-are, k-fits g v sh.placed bits)))
      (le-leb (nodes_needed g.S ws) g.N (omega (arith, nodes-are, used-fits)))

  pub reads-good : Good (read g v)
  unfolding read walk
  reads-good = record {
    ascending = ascending;
    each = all-good;
    slots = slots_length g v sh.placed bits;
    named = slots-named g v sh.placed bits sh.stacks;
    room = room;
  }

  pub reads-nodes : nodes_in_use (read g v) ≡ g.used
  unfolding read walk nodes_in_use
  reads-nodes = nodes-are

-- the sixteen header words, by what the region reads as
abbrev pub header_of : Reading → List ℕ
header_of r =
    1 ∷ r.P ∷ r.S ∷ r.C ∷ r.N ∷ containers_in_use r ∷ nodes_in_use r ∷ count r
    ∷ off_bitmap ∷ off_ranks r.P ∷ off_stack r.P r.C ∷ off_records r.P r.C ∷ off_entries r.P r.C
    ∷ off_node_stack r.P r.C ∷ off_nodes r.P r.C r.N ∷ total r.P r.C r.N
    ∷ []

module _ (l : List ℕ) (wf : WellFormed l) where
  pub good : Good (reading l)
  unfolding reading
  good = reads-good (numbers l) (seen (numbers l) l) wf.shape (seen-bits (numbers l) l)

  -- containers in use, nodes in use, members
  pub word-5 : containers_in_use (reading l) ≡ get_or l 5 0
  unfolding reading containers_in_use
  word-5 = containers-length (numbers l) (seen (numbers l) l) wf.shape.placed (seen-bits (numbers l) l)

  pub word-6 : nodes_in_use (reading l) ≡ get_or l 6 0
  unfolding reading
  word-6 = reads-nodes (numbers l) (seen (numbers l) l) wf.shape (seen-bits (numbers l) l)

  pub word-7 : count (reading l) ≡ get_or l 7 0
  unfolding reading count
  word-7 = wf.shape.counts.count-true

  pub header_is : take header_words l ≡ header_of (reading l)
  unfolding reading read each
  header_is =
      let h = wf.ready.header in
      take-up_to l 0 header_words wf.ready.has-header
      ∙ (λ i. h.form-is i ∷ get_or l 1 0 ∷ get_or l 2 0 ∷ get_or l 3 0 ∷ get_or l 4 0 ∷ sym word-5 i ∷ sym word-6 i ∷ sym word-7 i
      ∷ h.bitmap i ∷ h.ranks i ∷ h.stack i ∷ h.records i ∷ h.entries i ∷ h.node-stack i ∷ h.nodes i ∷ h.total-length i ∷ [])

-- two well-formed regions that read the same have the same header
pub same-header : (l m : List ℕ) → WellFormed l → WellFormed m → reading l ≡ reading m → take header_words l ≡ take header_words m
same-header l m wl wm e = header_is l wl ∙ ap header_of e ∙ sym (header_is m wm)
