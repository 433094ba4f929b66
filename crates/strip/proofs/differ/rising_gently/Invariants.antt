-- If the upper 16 bits are in common at the end, every entry has risen. Assumes nothing.
use Rattle.strip.proofs.RiseLaws.{Gentle}
use Rattle.strip.proofs.differ.rising_gently.Given as goal

abbrev pub invariant-loop-i : goal.invariant-loop-i
invariant-loop-i l = Gentle l.entries l.common l.i
