-- `fresh_into` meets its contract: header, bitmap, container areas and node areas follow one another up to the total. Assumes nothing.
use mathlib.Core.Path.{refl, sym, ◌∙◌}
use Prim.Native.Nat.{◌*◌}
use lib.ListN.{length-replicate}
use Rattle.region.specs.Geometry.{bitmap_words}
use Rattle.region.specs.Fresh.{zeros, fresh_header}
use Rattle.make.specs.Parts.{container_areas, node_areas}
use Rattle.make.proofs.Filling.{start, next, next-all}
use Rattle.make.proofs.Image.{laid-lies, header-fits, ranks-fit, ranks-nodes, containers-long, le-eq, length-containers, length-nodes, finished}
use Rattle.make.proofs.fresh.fresh_into.Goals as goal

pub slice_bounds-fill_header-end : goal.slice_bounds-fill_header-end
slice_bounds-fill_header-end c = header-fits (laid-lies c.args.g c.requires.0 c.requires.1)

pub slice_bounds-zero-end : goal.slice_bounds-zero-end
slice_bounds-zero-end c = le-eq (ranks-fit (laid-lies c.args.g c.requires.0 c.requires.1)) c.region-1.given.1

pub slice_bounds-fill_containers-count : goal.slice_bounds-fill_containers-count
slice_bounds-fill_containers-count c = ranks-nodes (laid-lies c.args.g c.requires.0 c.requires.1)

pub slice_bounds-fill_containers-start : goal.slice_bounds-fill_containers-start
slice_bounds-fill_containers-start c = ranks-nodes (laid-lies c.args.g c.requires.0 c.requires.1)

pub fill_containers-requires : goal.fill_containers-requires
fill_containers-requires c = containers-long (laid-lies c.args.g c.requires.0 c.requires.1) _ (c.region-2-1.given.1 ∙ c.region-1.given.1)

pub returns : goal.returns
returns c =
    let g = c.args.g in
    let d = c.args.region.now in
    let o = laid-lies c.args.g c.requires.0 c.requires.1 in
    let f₁ = next c.fill_header.new.h (fresh_header g.p g.s g.c g.n) 16 16 (start d) c.fill_header.ensures refl refl in
    let f₂ = next-all zeros (λ k. length-replicate k 0) c.zero.new.s (bitmap_words g.p) g.ranks f₁ c.zero.ensures (sym c.requires.0.ranks) (ranks-fit o) in
    let f₃ = next c.fill_containers.new.s (container_areas g.c) (1030 * g.c) g.node_stack f₂ c.fill_containers.ensures (length-containers g.c) o.containers in
    let f₄ = next c.fill_nodes.new.s (node_areas g.n) (265 * g.n) g.total f₃ c.fill_nodes.ensures (length-nodes g.n) o.nodes in
    finished g d c.requires.0 f₄.is
