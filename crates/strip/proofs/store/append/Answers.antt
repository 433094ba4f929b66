-- One store. Assumes nothing.
use Rattle.strip.proofs.StoreLaws.{append-store}
use Rattle.strip.proofs.store.append.Goals as goal

pub returns : goal.returns
returns c = append-store c.args.strip.now c.args.len c.args.s c.requires
