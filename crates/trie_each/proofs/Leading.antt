-- Suffixes with the same leading bytes lead to the same node. Assumes nothing.
use Prim.Native.Nat.{ℕ, ◌-◌, ◌/◌, ◌≤◌}
use mathlib.Core.Path.{◌≡◌}
use Rattle.region.specs.Nodes.{Nodes}
use Rattle.region.proofs.Bytes.{lead-same}
use Rattle.trie.specs.Walked.{Walked}
use Rattle.trie.proofs.Lookup.{walked_as}

-- the node above one suffix is that above the other
pub shared : (v : Nodes) (root s t b n : ℕ) → 2 ≤ b → s / 65536 ≡ t / 65536 → Walked v root s b n (b - 2) → Walked v root t b n (b - 2)
shared v root s t b n h e w = walked_as w t (λ i l. lead-same b 2 s t i h e l)
