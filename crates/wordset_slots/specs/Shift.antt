-- A table of which k places are in use, with a place opened or closed; what stands past them does not matter. Assumes nothing.
use Rattle.std.specs.Prelude.{ℕ, suc, ◌<◌, ◌≤◌, ◌≡◌, List, length, get_or}

-- places at to k - 1 of s stand one higher in t, and x stands at `at`
pub record ShiftedUp (at k x : ℕ) (s t : List ℕ) : Type 0 where
  pub long : length t ≡ length s
  pub below : (r : ℕ) → r < at → get_or t r 0 ≡ get_or s r 0
  pub here : get_or t at 0 ≡ x
  pub above : (r : ℕ) → at ≤ r → r < k → get_or t (suc r) 0 ≡ get_or s r 0

-- places at + 1 to k - 1 of s stand one lower in t
pub record ShiftedDown (at k : ℕ) (s t : List ℕ) : Type 0 where
  pub long : length t ≡ length s
  pub below : (r : ℕ) → r < at → get_or t r 0 ≡ get_or s r 0
  pub above : (r : ℕ) → at ≤ r → suc r < k → get_or t r 0 ≡ get_or s (suc r) 0
