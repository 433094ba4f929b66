-- `keys::layout::key` meets its contract: the fields are in range, so no shift loses bits and no sum wraps. Assumes nothing.
use native.Mathlib.Omega.{arith}
use Rattle.promises.specs.Answers.{fields}
use Rattle.keys.proofs.Ranges.{in-range}
use Rattle.keys.proofs.layout.key.Goals as goal

pub overflow_add-result : goal.overflow_add-result
overflow_add-result c = let i = in-range (fields c.args.f) c.requires in omega arith

pub overflow_add-result-2 : goal.overflow_add-result-2
overflow_add-result-2 c = let i = in-range (fields c.args.f) c.requires in omega arith

pub overflow_add-result-3 : goal.overflow_add-result-3
overflow_add-result-3 c = let i = in-range (fields c.args.f) c.requires in omega arith

pub overflow_add-result-4 : goal.overflow_add-result-4
overflow_add-result-4 c = let i = in-range (fields c.args.f) c.requires in omega arith

pub returns : goal.returns
returns c = let i = in-range (fields c.args.f) c.requires in omega arith
