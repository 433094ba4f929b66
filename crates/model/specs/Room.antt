-- Document 01, "Kind, order and room": when a container is a trie, how many nodes a trie has, when a set fits.
-- A set is given by any list of its members: order and repetition do not matter (proofs/RoomLaws). Assumes nothing.
use Rattle.std.specs.Prelude.{Bool, cond, ◌&&◌, List, map, ℕ, ◌-◌, ◌/◌, ◌^◌, eqb, ltb, leb, length}
use Rattle.lists.specs.Lists.{keep, sorted, different}
use Rattle.lists.specs.Sums.{sum, sum_over}
use Rattle.model.specs.Words.{prefix_of, suffix_of, bytes_of}

-- the most suffixes that a vector holds
abbrev pub threshold : ℕ
threshold = 1024

-- a container is a trie exactly when it holds more than 1,024 suffixes
abbrev pub is_trie : List ℕ → Bool
is_trie ss = ltb threshold (length ss)

-- how many different leading byte strings of length j some suffixes of b bytes have
abbrev pub leading : ℕ → List ℕ → ℕ → ℕ
leading b ss j = different (map (λ s. s / 256 ^ (b - j)) ss)

-- the nodes of a trie are the different leading byte strings of its suffixes, of lengths 0 to b-1
unfoldable pub trie_nodes : ℕ → List ℕ → ℕ
trie_nodes b ss = sum (leading b ss) b

-- the nodes of a container: a vector has none
unfoldable pub container_nodes : ℕ → List ℕ → ℕ
container_nodes b ss = cond (is_trie ss) (trie_nodes b ss) 0

-- the different prefixes of some words, ascending
abbrev pub prefixes : ℕ → List ℕ → List ℕ
prefixes S ws = sorted (map (prefix_of S) ws)

-- the different suffixes that some words have under a prefix, ascending
abbrev pub suffixes_under : ℕ → List ℕ → ℕ → List ℕ
suffixes_under S ws p = sorted (map (suffix_of S) (keep (λ w. eqb (prefix_of S w) p) ws))

-- the containers that a set of words needs: its different prefixes
unfoldable pub containers_needed : ℕ → List ℕ → ℕ
containers_needed S ws = length (prefixes S ws)

-- the nodes that a set of words needs, prefix by prefix
unfoldable pub nodes_needed : ℕ → List ℕ → ℕ
nodes_needed S ws = sum_over (λ p. container_nodes (bytes_of S) (suffixes_under S ws p)) (prefixes S ws)

-- a set of members fits when its different prefixes are at most C and its nodes at most N
unfoldable pub fits : ℕ → ℕ → ℕ → List ℕ → Bool
fits S C N ws = leb (containers_needed S ws) C && leb (nodes_needed S ws) N
