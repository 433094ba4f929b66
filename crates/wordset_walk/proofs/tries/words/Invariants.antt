-- The suffixes are written, and each is joined to the prefix where it stands. Assumes nothing.
use mathlib.Core.Path.{◌≡◌}
use mathlib.Core.List.{[]}
use Prim.Native.Nat.{ℕ, ◌+◌}
use Rattle.wordset_walk.proofs.Joining.{partly}
use Rattle.wordset_walk.proofs.tries.words.Given as goal

abbrev pub invariant-loop-word : goal.invariant-loop-word
invariant-loop-word l = l.word-items ≡ partly (λ (s : ℕ). s + l.base) l.word-index l.initial.word-items []
