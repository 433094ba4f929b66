-- One command a turn: what was answered so far and the commands that are left make up the whole outcome. Assumes nothing.
use Rattle.wordset_list.specs.Performing.{Going}
use Rattle.wordset_list.proofs.commands.run_each.Given as goal

abbrev pub invariant-loop-i : goal.invariant-loop-i
invariant-loop-i l = Going l.initial.region l.codes l.words l.initial.answers l.i l.region l.answers
