-- The shifted prefix and the suffix share no bit. Assumes nothing.
use Rattle.std.proofs.Common.{ℕ, ◌+◌, ap, arith}
use Rattle.set_ops.proofs.Places.{shifted, word_fits}
use Rattle.set_ops.proofs.take.joined.Goals as goal

pub overflow_add-result : goal.overflow_add-result
overflow_add-result c = omega (arith, word_fits c.args.p c.args.bits c.args.s c.requires.p_bound c.requires.bits_bound c.requires.s_bound)

pub returns : goal.returns
returns c = ap (λ (z : ℕ). z + c.args.s) (shifted c.args.p c.args.bits c.requires.p_bound c.requires.bits_bound)
