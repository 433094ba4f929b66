-- The invariant: n is where the first j bytes lead. The bits there are set, since the suffix is a member. Assumes nothing.
use Prim.Native.Nat.{◌≤◌}
use Rattle.arena.specs.Arena.{nodes_in}
use Rattle.trie.specs.Walked.{Walked}
use Rattle.trie.proofs.lead.Given as goal

abbrev pub invariant-loop-j : goal.invariant-loop-j
invariant-loop-j l = (l.j ≤ l.d) × Walked (nodes_in l.slots l.arena) l.root l.suffix l.b l.n l.j
