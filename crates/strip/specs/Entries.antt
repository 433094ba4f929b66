-- What a search of entries finds, and what a change of a strip leaves. Assumes nothing.
use Rattle.std.specs.Prelude.{◌≡◌, ℕ, suc, ◌+◌, ◌-◌, ◌<◌, ◌≤◌, false, Option, Some, None, cond, List, [], ◌∷◌, ◌++◌, length, take, drop, slice_index, slice_index_or}
use Rattle.lists.specs.Lists.{mem}
use Rattle.model.specs.Change.{swap_out}

-- i is the first place of s
pub record First (xs : List ℕ) (s i : ℕ) : Type 0 where
  pub inside : i < length xs
  pub here : slice_index_or xs i 0 ≡ s
  pub none : mem s (take i xs) ≡ false

-- the answer of a search: the first place of s, or that there is none
abbrev pub Finds : List ℕ → ℕ → Option ℕ → Type 0
Finds xs s (Some i) = First xs s i
Finds xs s None = mem s xs ≡ false

-- s put behind the first n entries, and what stands further back kept
pub record Appended (before : List ℕ) (n s : ℕ) (after : List ℕ) : Type 0 where
  pub long : length after ≡ length before
  pub grown : take (suc n) after ≡ take n before ++ (s ∷ [])
  pub rest : drop (suc n) after ≡ drop (suc n) before

-- entry i taken out of the first n, and what stands behind those that are left kept
pub record Removed (before : List ℕ) (n i : ℕ) (after : List ℕ) : Type 0 where
  pub long : length after ≡ length before
  pub gone : take (n - 1) after ≡ swap_out (slice_index before i) (take n before)
  pub rest : drop (n - 1) after ≡ drop (n - 1) before

-- a suffix put behind others, unless it stands among them
abbrev pub behind : ℕ → List ℕ → List ℕ
behind s xs = cond (mem s xs) xs (xs ++ (s ∷ []))

-- suffixes put behind others one after the other, each unless it stands there by then
abbrev pub gathered : List ℕ → List ℕ → List ℕ
gathered xs [] = xs
gathered xs (s ∷ ss) = gathered (behind s xs) ss

-- the suffixes ss gathered behind the first n entries, r entries then
pub record Gathered (before : List ℕ) (n : ℕ) (ss : List ℕ) (r : ℕ) (after : List ℕ) : Type 0 where
  pub long : length after ≡ length before
  pub more : n ≤ r
  pub few : r ≤ n + length ss
  pub front : take r after ≡ gathered (take n before) ss
