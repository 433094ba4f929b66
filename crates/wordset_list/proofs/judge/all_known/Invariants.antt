-- What is said up to a place is whether every code before it is known. Assumes nothing.
use mathlib.Core.Path.{◌≡◌}
use lib.ListN.{take}
use Rattle.lists.specs.Lists.{all}
use Rattle.model.specs.Commands.{known_code}
use Rattle.wordset_list.proofs.judge.all_known.Given as goal

abbrev pub invariant-loop-code : goal.invariant-loop-code
invariant-loop-code l = l.known ≡ all known_code (take l.code-index l.codes)
