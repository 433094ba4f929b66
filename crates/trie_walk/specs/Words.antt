-- What stands behind the set bits of words, in ascending order. Assumes nothing.
use Rattle.std.specs.Prelude.{ℕ, zero, suc, ◌+◌, ◌*◌, ◌/◌, ◌%◌, cond, List, [], ◌∷◌, ◌++◌, eqb, get_or}
use Rattle.lists.specs.Lists.{each}
use Rattle.region.specs.Bits.{word_bit}

-- the lists g k for the set bits k of the word w
unfoldable pub behind : ℕ → (ℕ → List ℕ) → List ℕ
behind w g = each (λ k. cond (eqb (word_bit w k) 1) (g k) []) 64

-- the numbers of the set bits of w, counted from base on
abbrev pub numbers_in : ℕ → ℕ → List ℕ
numbers_in w base = behind w (λ k. (base + k) ∷ [])

-- the lists g x for the set bits x of n words, from word e on: bit x is bit x mod 64 of word x div 64
abbrev pub behind_all : (ℕ → ℕ) → (ℕ → List ℕ) → ℕ → ℕ → List ℕ
behind_all ws g e zero = []
behind_all ws g e (suc n) = behind (ws e) (λ k. g (e * 64 + k)) ++ behind_all ws g (suc e) n

-- the suffixes of count nodes of the last level with these maps, four words each, behind their leading bytes
abbrev pub suffixes : List ℕ → List ℕ → ℕ → List ℕ
suffixes maps leads count = behind_all (λ e. get_or maps e 0) (λ x. (get_or leads (x / 256) 0 * 256 + x % 256) ∷ []) 0 (4 * count)
