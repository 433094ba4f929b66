-- One more number has room.
use Rattle.std.proofs.Common.{◌<◌, vec_len}
use Rattle.replay.proofs.lines.numbers.Given as goal

abbrev pub invariant-loop-word : goal.invariant-loop-word
invariant-loop-word l = vec_len l.numbers < 4096
