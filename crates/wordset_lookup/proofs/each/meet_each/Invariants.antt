-- One word a turn. Assumes nothing.
use Rattle.wordset_lookup.specs.Meeting.{Met}
use Rattle.wordset_lookup.proofs.each.meet_each.Given as goal

abbrev pub invariant-loop-i : goal.invariant-loop-i
invariant-loop-i l = Met l.region l.words l.initial.answers l.i l.roots l.suffixes l.answers l.left
