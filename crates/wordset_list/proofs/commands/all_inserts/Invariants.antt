-- What is said up to a place is whether every code before it is 1. Assumes nothing.
use mathlib.Core.Path.{◌≡◌}
use lib.ListN.{take}
use Rattle.lists.specs.Lists.{all}
use Rattle.wordset_list.specs.Performing.{is_insert}
use Rattle.wordset_list.proofs.commands.all_inserts.Given as goal

abbrev pub invariant-loop-code : goal.invariant-loop-code
invariant-loop-code l = l.inserts ≡ all is_insert (take l.code-index l.codes)
