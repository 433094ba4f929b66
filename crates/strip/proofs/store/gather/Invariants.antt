-- The suffixes before the index are gathered behind the entries, n entries then. Assumes nothing.
use Rattle.std.proofs.Common.{take}
use Rattle.strip.specs.Entries.{Gathered}
use Rattle.strip.proofs.store.gather.Given as goal

abbrev pub invariant-loop-s : goal.invariant-loop-s
invariant-loop-s l = Gathered l.initial.strip l.len (take l.s-index l.suffixes) l.n l.strip
