use Rattle.std.proofs.Common.{◌*◌, ◌∙◌, one-mul, arith, lit<, shl_exact}
use Rattle.leaves.proofs.checks.limit.Goals as goal

-- src/tries.rt:29:1
pub returns : goal.returns
returns c = shl_exact {a = 1} 1 (8 * c.args.b) 64 (lit< tt) (omega arith) ∙ one-mul _
