-- Document 01, "The region": byte x is bit x mod 64 of word x div 64; the prefix bitmap the same way. Assumes nothing.
use Rattle.std.specs.Prelude.{ℕ, ◌/◌, ◌%◌, ◌^◌, List, get_or}
use Rattle.lists.specs.Sums.{sum}

-- bit k of a word: 0 or 1
abbrev pub word_bit : ℕ → ℕ → ℕ
word_bit w k = w / 2 ^ k % 2

-- bit i of the words w 0, w 1, ..
abbrev pub bit_at : (ℕ → ℕ) → ℕ → ℕ
bit_at w i = word_bit (w (i / 64)) (i % 64)

-- bit i of a list of words; past its end every bit is 0
unfoldable pub bit : List ℕ → ℕ → ℕ
bit ws i = bit_at (λ k. get_or ws k 0) i

-- how many of the bits b 0, b 1, .. below place i are set: rank counts strictly smaller ones
abbrev pub rank_in : (ℕ → ℕ) → ℕ → ℕ
rank_in b i = sum b i

-- the rank in a list of words
unfoldable pub rank : List ℕ → ℕ → ℕ
rank ws i = rank_in (bit ws) i
