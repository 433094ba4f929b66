-- The arena that a region lends: its nodes are those of the region, on any contents behind a good header. Assumes nothing.
use Prim.Native.Nat.{ℕ, ◌+◌, ◌-◌, ◌*◌, ◌≤◌}
use mathlib.Core.Path.{◌≡◌, ap, ◌∙◌}
use mathlib.Core.Bool.{◌&&◌}
use mathlib.Core.List.{List}
use native.Mathlib.Omega.{arith}
use lib.Dec.{leb}
use lib.ListN.{length, take, drop, get_or}
use borrow.Author.Tests.{leb-true}
use Rattle.lists.proofs.Laws.{and_both}
use Rattle.region.specs.Ranges.{good_p, good_s, good_c, good_n}
use Rattle.region.specs.Geometry.{node_words, off_node_stack}
use Rattle.region.specs.Areas.{Numbers, numbers, area}
use Rattle.region.specs.Nodes.{nodes_of}
use Rattle.region.specs.Seen.{Seen, seen}
use Rattle.region.specs.WellFormed.{Ready}
use Rattle.arena.specs.Arena.{nodes_in}
use Rattle.lens.specs.Parts.{arena_of}
use Rattle.lens.proofs.Only.{area-length}
use Rattle.lens.proofs.Stores.{arena-nodes}

module _ (l : List ℕ) (r : Ready l) where
  abbrev g : Numbers
  g = numbers l

  abbrev v : Seen
  v = seen g l

  pub suffix-bits : (1 ≤ g.S) × (g.S ≤ 40)
  suffix-bits =
      let a = (and_both (good_p g.P && good_s g.S && good_c g.C) (good_n g.N) r.header.ranges).0 in
      let s = and_both (good_p g.P && good_s g.S) (good_c g.C) a in
      let t = and_both (leb 1 g.S) (leb g.S 40) (and_both (good_p g.P) (good_s g.S) s.0).1 in
      (leb-true 1 g.S t.0, leb-true g.S 40 t.1)

  -- what the header says is lent
  pub lent_is : take (get_or l 15 0 - get_or l 13 0) (drop (get_or l 13 0) l) ≡ arena_of g l
  unfolding area
  lent_is =
      let e : get_or l 15 0 - get_or l 13 0 ≡ g.N + node_words * g.N = omega (arith, r.header.node-stack, r.header.total-length) in
      ap (λ (z : ℕ). take z (drop (get_or l 13 0) l)) e ∙ ap (λ (z : ℕ). take (g.N + node_words * g.N) (drop z l)) r.header.node-stack

  pub arena-long : length (arena_of g l) ≡ g.N + node_words * g.N
  arena-long = area-length (off_node_stack g.P g.C) (g.N + node_words * g.N) l (omega (arith, r.long))

  pub nodes-are : nodes_in g.N (arena_of g l) ≡ v.node
  unfolding seen
  nodes-are = ap nodes_of (arena-nodes g l r.long)
