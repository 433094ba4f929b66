-- Each run that fits leaves fewer words than a row has.
use Rattle.std.proofs.Common.{◌≤◌}
use Rattle.replay.proofs.runs.spread.Given as goal

abbrev pub invariant-loop-run : goal.invariant-loop-run
invariant-loop-run l = l.many ≤ 4096
