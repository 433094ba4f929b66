-- The marks by which repeated entries are told; no promise cites them. Assumes nothing.
use Rattle.std.specs.Prelude.{◌≡◌, ℕ, ◌+◌, ◌/◌, ◌%◌, ◌<◌, Bool, true, ◌&&◌, List, length, ◌==◌, slice_index}

-- the places of the two marks of x
abbrev pub near : ℕ → ℕ
near x = x % 8191

abbrev pub far : ℕ → ℕ
far x = 8192 + x / 8191 % 8191

-- whether both are there
unfoldable pub marked : List ℕ → ℕ → Bool
marked ms x = slice_index ms (near x) == 1 && slice_index ms (far x) == 1

-- the marks of the entries are there
abbrev pub Marks : List ℕ → List ℕ → Type 0
Marks xs ms = (i : ℕ) → i < length xs → marked ms (slice_index xs i) ≡ true

-- the marks of x are added
pub record Marking (before : List ℕ) (x : ℕ) (after : List ℕ) : Type 0 where
  pub long : length after ≡ length before
  pub here : marked after x ≡ true
  pub kept : (y : ℕ) → marked before y ≡ true → marked after y ≡ true
