-- Node stack and nodes are lent as one part, the arena. Assumes nothing.
use mathlib.Core.Path.{refl}
use native.Mathlib.Omega.{arith}
use Rattle.inspect_tries.proofs.Lent.{suffix-bits}
use Rattle.inspect.proofs.Lending.{hanging-asks, hanging-told}
use Rattle.inspect.proofs.nodes_hung.Goals as goal

pub well_formed-requires : goal.well_formed-requires
well_formed-requires c = record {
  arena_len = hanging-asks c.args.region.now c.requires c.shape-shape.result.slots c.shape-shape.ensures.slots;
  b_bound = omega (arith, c.shape-shape.ensures.levels, (suffix-bits c.args.region.now c.requires).1);
}

pub returns : goal.returns
returns c = hanging-told c.args.region.now c.requires _ _ _ c.shape-shape.ensures.slots refl (omega (arith, c.shape-shape.ensures.levels)) c.well_formed-2.result c.well_formed-2.ensures
