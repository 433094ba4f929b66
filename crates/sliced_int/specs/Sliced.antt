-- A suffix as bytes: the number that bytes make, most significant first, and which bytes a suffix is. Assumes nothing.
use Rattle.std.specs.Prelude.{◌≡◌, List, ℕ, zero, suc, ◌+◌, ◌*◌, ◌^◌, ◌<◌, ◌≤◌, get_or}
use Rattle.region.specs.Tries.{byte_of}
use Rattle.sliced_int.specs.declared.SlicedInt.{SlicedInt}

-- the number that the bytes f 0, .., f (n - 1) make
unfoldable pub number_of : (ℕ → ℕ) → ℕ → ℕ
number_of f zero = 0
number_of f (suc n) = number_of f n * 256 + f n

-- the number that the first n bytes of a list make
abbrev pub number_in : List ℕ → ℕ → ℕ
number_in xs n = number_of (λ j. get_or xs j 0) n

-- the number that a SlicedInt stands for
abbrev pub value_of : SlicedInt → ℕ
value_of x = number_in x.bytes x.len

-- x is the b bytes of s, with zeros behind them, and stands for s itself where s has no more than b bytes
pub record Sliced (b s : ℕ) (x : SlicedInt) : Type 0 where
  pub len : x.len ≡ b
  pub bytes : (j : ℕ) → j < b → get_or x.bytes j 0 ≡ byte_of b s j
  pub rest : (j : ℕ) → b ≤ j → get_or x.bytes j 0 ≡ 0
  pub whole : s < 2 ^ (8 * b) → value_of x ≡ s
