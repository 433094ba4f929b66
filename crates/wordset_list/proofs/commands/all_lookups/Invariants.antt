-- The bits joined up to a place are 0 if every code before it is. Assumes nothing.
use mathlib.Core.Path.{◌≡◌}
use lib.Dec.{eqb}
use lib.ListN.{take}
use Rattle.lists.specs.Lists.{all}
use Rattle.wordset_list.specs.Performing.{is_lookup}
use Rattle.wordset_list.proofs.commands.all_lookups.Given as goal

abbrev pub invariant-loop-code : goal.invariant-loop-code
invariant-loop-code l = eqb l.bits 0 ≡ all is_lookup (take l.code-index l.codes)
