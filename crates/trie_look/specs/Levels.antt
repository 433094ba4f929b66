-- A walk down a trie level by level, where `slots` in place of a node says that there is none. Assumes nothing.
use Rattle.std.specs.Prelude.{ℕ, zero, suc, ◌-◌, ◌<◌, ◌≤◌, ◌≡◌, Bool, cond, ◌&&◌, List, eqb, ltb, length, get_or}
use Rattle.region.specs.Nodes.{Nodes}
use Rattle.region.specs.Tries.{byte_of}

-- whether n is a node and the bit of byte j of s is set in its map
abbrev pub marked : Nodes → ℕ → ℕ → ℕ → ℕ → ℕ → Bool
marked v slots b s j n = ltb n slots && eqb (v.bit n (byte_of b s j)) 1

-- the child of n for byte j of s, or none
abbrev pub step_of : Nodes → ℕ → ℕ → ℕ → ℕ → ℕ → ℕ
step_of v slots b s j n = cond (marked v slots b s j n) (v.child n (byte_of b s j)) slots

-- where the first j bytes of s lead from r
abbrev pub reach : Nodes → ℕ → ℕ → ℕ → ℕ → ℕ → ℕ
reach v slots b s zero r = r
reach v slots b s (suc j) r = step_of v slots b s j (reach v slots b s j r)

-- what is left at a place whose walk came to n
abbrev pub tell_of : Nodes → ℕ → ℕ → ℕ → ℕ → ℕ → ℕ → ℕ
tell_of v slots b r s n old = cond (ltb r slots) (cond (marked v slots b s (b - 1) n) 1 0) old

-- l' is l with the first k entries changed, each by f and its place
pub record Changed (f : ℕ → ℕ → ℕ) (k : ℕ) (l l' : List ℕ) : Type 0 where
  pub long : length l' ≡ length l
  pub front : (p : ℕ) → p < k → get_or l' p 0 ≡ f p (get_or l p 0)
  pub behind : (p : ℕ) → k ≤ p → get_or l' p 0 ≡ get_or l p 0
