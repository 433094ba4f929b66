-- The words between the first two offsets are the bitmap. Assumes nothing.
use Rattle.std.proofs.Common.{ℕ, eqb, ap, ◌∙◌}
use Rattle.lens.proofs.Words.{bitmap-is, bitmap-room}
use Rattle.lens.proofs.read.bit.Goals as goal

pub test-requires : goal.test-requires
test-requires c = bitmap-room c.args.region.now c.requires.ready c.args.q c.requires.q_bound

pub returns : goal.returns
returns c = c.test.ensures ∙ ap (λ (z : ℕ). eqb z 1) (bitmap-is c.args.region.now c.requires.ready c.args.q)
