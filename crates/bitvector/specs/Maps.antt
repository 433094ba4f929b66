-- What the functions over a map of bits say, over the one definition of a bit (region/specs/Bits). Assumes nothing.
use Rattle.std.specs.Prelude.{ℕ, ◌+◌, ◌*◌, ◌/◌, ◌%◌, ◌≤◌, ◌<◌, ◌≡◌, ◌≢◌, List, length, get_or, Option, Some, None}
use Rattle.region.specs.Bits.{word_bit, bit, rank}

-- the words after are ws with bit i made v: no other bit and no other word is changed
pub record Made (ws : List ℕ) (i v : ℕ) (after : List ℕ) : Type 0 where
  pub long : length after ≡ length ws
  pub here : bit after i ≡ v
  pub other : (j : ℕ) → j ≢ i → bit after j ≡ bit ws j
  pub words : (k : ℕ) → k ≢ i / 64 → get_or after k 0 ≡ get_or ws k 0

-- the word after is word j of a map in which bit i is made v, where that word was w
pub record MadeIn (w j i v after : ℕ) : Type 0 where
  pub here : i / 64 ≡ j → word_bit after (i % 64) ≡ v
  pub other : i / 64 ≡ j → (b : ℕ) → b ≢ i % 64 → word_bit after b ≡ word_bit w b
  pub word : i / 64 ≢ j → after ≡ w

-- k is the place of the lowest set bit of the word w
pub record Lowest (w k : ℕ) : Type 0 where
  pub small : k < 64
  pub is_set : word_bit w k ≡ 1
  pub none : (b : ℕ) → b < k → word_bit w b ≡ 0

-- i is the least set bit at or past from
pub record Least (ws : List ℕ) (from i : ℕ) : Type 0 where
  pub inside : i < length ws * 64
  pub past : from ≤ i
  pub is_set : bit ws i ≡ 1
  pub none : (j : ℕ) → from ≤ j → j < i → bit ws j ≡ 0

-- the answer of a search: the least set bit at or past from, or that there is none
abbrev pub NextSet : List ℕ → ℕ → Option ℕ → Type 0
NextSet ws from (Some i) = Least ws from i
NextSet ws from None = (j : ℕ) → from ≤ j → bit ws j ≡ 0

-- the least byte is taken out of the words ws, and the words rest are what is left
abbrev pub Popped : List ℕ → Option ℕ → List ℕ → Type 0
Popped ws (Some i) rest = Least ws 0 i × Made ws i 0 rest
Popped ws None rest = ((j : ℕ) → bit ws j ≡ 0) × (rest ≡ ws)

-- the bytes of the map w stand in out' in ascending order from its first place on, n of them, and behind them it is as out
pub record WalkedInto (w out : List ℕ) (n : ℕ) (out' : List ℕ) : Type 0 where
  pub number : n ≡ rank w 256
  pub here : (x : ℕ) → x < 256 → bit w x ≡ 1 → get_or out' (rank w x) 0 ≡ x
  pub stays : (j : ℕ) → n ≤ j → get_or out' j 0 ≡ get_or out j 0
  pub same_length : length out' ≡ length out

-- the same of the bytes below m alone: how far a walk has come
pub record WalkedTo (w : List ℕ) (m : ℕ) (out : List ℕ) (n : ℕ) (out' : List ℕ) : Type 0 where
  pub number : n ≡ rank w m
  pub here : (x : ℕ) → x < m → bit w x ≡ 1 → get_or out' (rank w x) 0 ≡ x
  pub stays : (j : ℕ) → n ≤ j → get_or out' j 0 ≡ get_or out j 0
  pub same_length : length out' ≡ length out

-- of whatever map w is a word whose bits are counted from base on, a walk that has come to the word goes on past it
abbrev pub WordWalked : ℕ → ℕ → ℕ → List ℕ → ℕ → List ℕ → Type 0
WordWalked w base at mid n out' =
    (ws out : List ℕ) (q : ℕ) → get_or ws q 0 ≡ w → q * 64 ≡ base → WalkedTo ws base out at mid → WalkedTo ws (base + 64) out n out'
