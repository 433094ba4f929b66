-- Small cases of the definitions, computed: what a reader would try by hand. Assumes nothing.
use mathlib.Core.Path.{◌≡◌, refl}
use mathlib.Core.Bool.{true, false}
use mathlib.Core.List.{List, [], ◌∷◌}
use Prim.Native.Nat.{ℕ, ◌+◌, ◌*◌, ◌^◌}
use Rattle.lists.specs.Lists.{up_from}
use Rattle.lists.specs.Sums.{sum}
use Rattle.model.specs.Words.{suffix_of}
use Rattle.model.specs.Room.{is_trie, trie_nodes, container_nodes, containers_needed, nodes_needed, fits}
use Rattle.model.specs.Reading.{Reading, walk, has, slots_of, empty}
use Rattle.model.specs.Change.{taken, insert, remove}
use Rattle.model.specs.Commands.{Run, commands, run}
use Rattle.model.specs.Combine.{op_of, inserting, chosen, combine}

-- P=12, S=28, C=4, N=8
abbrev start : Reading
start = empty 12 28 4 8

-- codes and words run from there
abbrev ran : List ℕ → List ℕ → Run
ran cs ws = run (commands cs ws) start

-- a vector at 1,024, a trie at 1,025
at-1024 : is_trie (up_from 0 1024) ≡ false
at-1024 = refl

at-1025 : is_trie (up_from 0 1025) ≡ true
at-1025 = refl

-- a suffix is below 2^S
suffix-of-28-bits : suffix_of 28 (5 * 2 ^ 28 + 7) ≡ 7
suffix-of-28-bits = refl

-- an absent removal answers 0, and lookup sees what is there
absent-removal : (ran (2 ∷ 0 ∷ 1 ∷ 0 ∷ []) (7 ∷ 7 ∷ 7 ∷ 7 ∷ [])).answers ≡ 0 ∷ 0 ∷ 1 ∷ 1 ∷ []
unfolding run empty has walk fits containers_needed nodes_needed container_nodes insert remove
absent-removal = refl

-- a container is freed when its last suffix goes, and not before
not-freed-early : walk (ran (1 ∷ 1 ∷ 2 ∷ []) (7 ∷ 4 ∷ 7 ∷ [])).reading ≡ 4 ∷ []
unfolding run empty has walk fits containers_needed nodes_needed container_nodes insert remove
not-freed-early = refl

-- the last entry of a vector moves into the hole
hole-filled : taken 7 (7 ∷ 4 ∷ 9 ∷ []) ≡ 9 ∷ 4 ∷ []
hole-filled = refl

-- on falling to 1,024 a trie becomes a vector in ascending order
falls-ascending : taken 0 (up_from 0 1025) ≡ up_from 1 1024
falls-ascending = refl

-- the next new prefix takes the slot freed last
slot-again : slots_of (ran (1 ∷ 1 ∷ 2 ∷ 1 ∷ 1 ∷ []) (5 * 2 ^ 28 ∷ 3 * 2 ^ 28 ∷ 5 * 2 ^ 28 ∷ 9 * 2 ^ 28 ∷ 0 ∷ [])).reading.containers ≡ 2 ∷ 1 ∷ 0 ∷ []
unfolding run empty has walk fits containers_needed nodes_needed container_nodes insert remove
slot-again = refl

-- minus takes words from a only
minus-from-a : walk (combine (op_of 2) (run (inserting (1 ∷ 2 ∷ [])) start).reading (run (inserting (2 ∷ 3 ∷ [])) start).reading 4 8).reading ≡ 1 ∷ []
unfolding run combine chosen empty has walk fits containers_needed nodes_needed container_nodes insert
minus-from-a = refl

-- leading byte strings of lengths 0 to b-1: one, one, two, three at S=28; one and two at S=16
four-suffixes : trie_nodes 4 (0 ∷ 255 ∷ 256 ∷ 65536 ∷ []) ≡ 7
unfolding trie_nodes sum
four-suffixes = refl

three-suffixes : trie_nodes 2 (0 ∷ 255 ∷ 256 ∷ []) ≡ 3
unfolding trie_nodes sum
three-suffixes = refl

-- two prefixes, and vectors need no node
two-vectors : (containers_needed 28 (0 ∷ 1 ∷ 2 ^ 28 ∷ []) ≡ 2) × (nodes_needed 28 (0 ∷ 1 ∷ 2 ^ 28 ∷ []) ≡ 0)
unfolding containers_needed nodes_needed container_nodes
two-vectors = (refl, refl)
