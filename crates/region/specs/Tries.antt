-- Document 01, "The region": the suffixes of a trie, by its set bits and its children. Suffix bytes run most significant first. Assumes nothing.
use Rattle.std.specs.Prelude.{ℕ, zero, suc, ◌+◌, ◌-◌, ◌*◌, ◌/◌, ◌%◌, ◌^◌, ◌<◌, ◌≡◌, cond, List, [], ◌∷◌, eqb}
use Rattle.lists.specs.Lists.{each}
use Rattle.region.specs.Nodes.{Nodes}

-- byte j of a number of b bytes, the most significant first
unfoldable pub byte_of : ℕ → ℕ → ℕ → ℕ
byte_of b s j = s / 2 ^ (8 * (b - suc j)) % 256

-- the suffixes below node n, which has d levels left, behind the leading bytes q: for each byte whose bit is set, those below its child.
-- With no level left the suffix is whole, and no child is looked at.
unfoldable pub listed : Nodes → ℕ → ℕ → ℕ → List ℕ
listed v zero n q = q ∷ []
listed v (suc d) n q = each (λ x. cond (eqb (v.bit n x) 1) (listed v d (v.child n x) (q * 256 + x)) []) 256

-- the suffixes of the trie of b levels with the root n, ascending
unfoldable pub members : Nodes → ℕ → ℕ → List ℕ
members v b n = listed v b n 0

-- the node that k steps along the bytes f lead to
abbrev pub follow : Nodes → ℕ → (ℕ → ℕ) → ℕ → ℕ
follow v n f zero = n
follow v n f (suc k) = v.child (follow v n f k) (f k)

-- the bits on the way are set
abbrev pub Path : Nodes → ℕ → (ℕ → ℕ) → ℕ → Type 0
Path v n f k = (i : ℕ) → i < k → v.bit (follow v n f i) (f i) ≡ 1
