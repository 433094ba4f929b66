-- Entries that rise in steps of at most 2^48, told by the bits that all their differences have in common. Assumes nothing.
use Rattle.std.proofs.Common.{◌≡◌, ℕ, suc, ◌+◌, ◌-◌, ◌*◌, ◌%◌, ◌^◌, ◌<◌, ◌≤◌, List, get_or, arith, below_more}
use lib.Bits.{bit_and, and_le_l, and_le_r}
use Rattle.strip.proofs.PlaceLaws.{rises-more}

-- so far, if the upper 16 bits are in common, each entry is above the one before it, and within so many steps of the first
abbrev pub Gentle : List ℕ → ℕ → ℕ → Type 0
Gentle xs common i = 65535 * 2 ^ 48 ≤ common → ((k : ℕ) → k < i → get_or xs k 0 ≤ get_or xs 0 0 + k * 2 ^ 48) × ((k : ℕ) → suc k < i → get_or xs k 0 < get_or xs (suc k) 0)

-- a difference with these bits is a step up, unless it went round
step-up : (a b d : ℕ) → d < 2 ^ 64 → b < 2 ^ 64 → a < 65535 * 2 ^ 48 → (d + b) % 2 ^ 64 ≡ a → 65535 * 2 ^ 48 ≤ d → (a < b) × (b ≤ a + 2 ^ 48)
step-up a b d hd hb ha e big = (omega arith, omega arith)

-- one entry more
pub gentle-more : (xs : List ℕ) (common d i : ℕ) → 1 ≤ i → i < 2 ^ 15 → get_or xs 0 0 < 2 ^ 63 → d < 2 ^ 64 → get_or xs i 0 < 2 ^ 64 → (d + get_or xs i 0) % 2 ^ 64 ≡ get_or xs (i - 1) 0
    → Gentle xs common i → Gentle xs (bit_and common d) (i + 1)
gentle-more xs common d i h few first hd hx e so_far big =
    let was = so_far (omega (arith, and_le_l common d)) in
    let near : get_or xs (i - 1) 0 ≤ get_or xs 0 0 + (i - 1) * 2 ^ 48 = was.0 (i - 1) (omega arith) in
    let s = step-up (get_or xs (i - 1) 0) (get_or xs i 0) d hd hx (omega arith) e (omega (arith, and_le_r common d)) in
    (below_more _ _ was.0 (omega (arith, s.1)), λ k l. rises-more xs i h was.1 s.0 k (omega arith))
