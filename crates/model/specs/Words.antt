-- Document 01, "What the port covers": a word of P+S bits, its prefix and its suffix. Assumes nothing.
use Rattle.std.specs.Prelude.{Bool, ℕ, ◌+◌, ◌*◌, ◌/◌, ◌%◌, ◌^◌, ltb}

-- a word of a set has P+S bits: it is below 2^(P+S)
abbrev pub is_word : ℕ → ℕ → ℕ → Bool
is_word P S w = ltb w (2 ^ (P + S))

-- a word's prefix is word div 2^S
abbrev pub prefix_of : ℕ → ℕ → ℕ
prefix_of S w = w / 2 ^ S

-- and its suffix is word mod 2^S
abbrev pub suffix_of : ℕ → ℕ → ℕ
suffix_of S w = w % 2 ^ S

-- the word of a prefix and a suffix
abbrev pub joined : ℕ → ℕ → ℕ → ℕ
joined S p s = p * 2 ^ S + s

-- b, the bytes of a suffix: S/8 rounded up
abbrev pub bytes_of : ℕ → ℕ
bytes_of S = (S + 7) / 8
