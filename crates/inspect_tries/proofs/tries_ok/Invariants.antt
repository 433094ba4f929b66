-- Each turn passes one slot more, and once all are passed the counts decide. Assumes nothing.
use Rattle.region.specs.Areas.{numbers}
use Rattle.region.specs.Seen.{seen}
use Rattle.inspect_tries.proofs.Roots.{Passed}
use Rattle.inspect_tries.proofs.tries_ok.Given as goal

abbrev pub invariant-loop-c : goal.invariant-loop-c
invariant-loop-c l = Passed (numbers l.region) (seen (numbers l.region) l.region) l.c l.tries
