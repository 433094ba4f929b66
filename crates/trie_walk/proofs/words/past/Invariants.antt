-- Each turn drops the lowest number, of the word and of its list. Assumes nothing.
use mathlib.Core.Path.{◌≡◌}
use Prim.Native.Nat.{ℕ, ◌-◌}
use lib.ListN.{drop}
use Rattle.trie_walk.specs.Words.{numbers_in}
use Rattle.trie_walk.proofs.words.past.Given as goal

abbrev pub invariant-loop : goal.invariant-loop
invariant-loop l = (base : ℕ) → drop (l.skip - l.counter) (numbers_in l.w base) ≡ drop l.skip (numbers_in l.w-2 base)
