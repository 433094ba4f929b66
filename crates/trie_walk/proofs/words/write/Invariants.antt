-- What is left of the word is poured as the whole word was; each turn puts its lowest number. Assumes nothing.
use mathlib.Core.Path.{◌≡◌}
use lib.ListN.{length}
use Rattle.trie_walk.specs.Pour.{state, poured}
use Rattle.trie_walk.specs.Words.{numbers_in}
use Rattle.trie_walk.proofs.words.write.Given as goal

abbrev pub invariant-loop-w : goal.invariant-loop-w
invariant-loop-w l = (length l.out ≡ length l.initial.out) × (poured (numbers_in l.w l.base) (state 0 l.at l.out) ≡ poured (numbers_in l.w-2 l.base) (state 0 l.at-2 l.initial.out))

abbrev pub decreases-loop-w : goal.decreases-loop-w
decreases-loop-w l = length (numbers_in l.w 0)
