-- `free_slots` meets its contract: the free stack and the records, one after the other, are the whole slice. Assumes nothing.
use Rattle.std.proofs.Common.{◌*◌, length, refl, arith}
use Rattle.lists.specs.Lists.{blocks}
use Rattle.lists.proofs.Blocks.{length-blocks}
use Rattle.lists.proofs.Each.{length-down_from}
use Rattle.region.specs.Fresh.{fresh_stack, free_record}
use Rattle.make.proofs.Filling.{start, next, whole}
use Rattle.set_ops.proofs.afresh.free_slots.Goals as goal

pub returns : goal.returns
returns c =
    let d = c.args.s.now in
    let n = c.args.c in
    let f₁ = next c.write_blocks.new.s (fresh_stack n) n n (start d) c.write_blocks.ensures (length-down_from (λ i. i) n) (omega arith) in
    let f₂ = next c.write_blocks-2.new.s (blocks free_record n) (4 * n) (length d) f₁ c.write_blocks-2.ensures (length-blocks free_record 4 (λ k. refl) n) (omega (arith, c.requires)) in
    whole f₂ refl
