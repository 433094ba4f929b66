-- `fill_containers` meets its contract: the four areas, one after the other, are the whole slice. Assumes nothing.
use mathlib.Core.Path.{refl}
use Prim.Native.Nat.{◌+◌, ◌*◌}
use native.Mathlib.Omega.{arith}
use lib.ListN.{length, length-replicate}
use Rattle.lists.specs.Lists.{blocks}
use Rattle.lists.proofs.Blocks.{length-blocks}
use Rattle.lists.proofs.Each.{length-down_from}
use Rattle.region.specs.Fresh.{zeros, fresh_stack, free_record}
use Rattle.make.proofs.Filling.{start, next, next-all, whole}
use Rattle.make.proofs.fresh.fill_containers.Goals as goal

pub returns : goal.returns
returns c =
    let d = c.args.s.now in
    let n = c.args.c in
    let f₁ = next-all zeros (λ k. length-replicate k 0) c.zero.new.s n n (start d) c.zero.ensures (omega arith) (omega (arith, c.requires)) in
    let f₂ = next c.write_blocks.new.s (fresh_stack n) n (n + n) f₁ c.write_blocks.ensures (length-down_from (λ i. i) n) refl in
    let f₃ = next c.write_blocks-2.new.s (blocks free_record n) (4 * n) (n + n + 4 * n) f₂ c.write_blocks-2.ensures (length-blocks free_record 4 (λ k. refl) n) refl in
    let f₄ = next-all zeros (λ k. length-replicate k 0) c.zero-2.new.s (1024 * n) (length d) f₃ c.zero-2.ensures (omega (arith, c.requires)) (omega arith) in
    whole f₄ refl
