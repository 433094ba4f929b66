-- `fill_nodes` meets its contract: the two areas, one after the other, are the whole slice. Assumes nothing.
use mathlib.Core.Path.{refl}
use Prim.Native.Nat.{◌*◌}
use native.Mathlib.Omega.{arith}
use lib.ListN.{length}
use Rattle.lists.specs.Lists.{blocks}
use Rattle.lists.proofs.Blocks.{length-blocks}
use Rattle.lists.proofs.Each.{length-down_from}
use Rattle.region.specs.Fresh.{fresh_stack, free_node}
use Rattle.make.proofs.Filling.{start, next, whole}
use Rattle.make.proofs.fresh.fill_nodes.Goals as goal

pub returns : goal.returns
returns c =
    let d = c.args.s.now in
    let n = c.args.n in
    let f₁ = next c.write_blocks.new.s (fresh_stack n) n n (start d) c.write_blocks.ensures (length-down_from (λ i. i) n) (omega arith) in
    let f₂ = next c.write_blocks-2.new.s (blocks free_node n) (264 * n) (length d) f₁ c.write_blocks-2.ensures (length-blocks free_node 264 (λ k. refl) n) (omega (arith, c.requires)) in
    whole f₂ refl
