-- The entry at place k is one of them. Assumes nothing.
use Rattle.strip.proofs.PlaceLaws.{hit-at}
use Rattle.strip.proofs.differ.stands_at.Goals as goal

pub returns-then-k-entries : goal.returns-then-k-entries
returns-then-k-entries c = hit-at c.args.x c.args.entries.now c.args.k c.if-k-entries.true
