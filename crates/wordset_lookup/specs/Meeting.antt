-- Lookups side by side, before the tries are asked. l is the region. No promise cites this. Assumes nothing.
use Rattle.std.specs.Prelude.{ℕ, ◌<◌, ◌≤◌, ◌≡◌, Bool, false, cond, List, length, drop, get_or}
use Rattle.model.specs.Words.{suffix_of, bytes_of}
use Rattle.model.specs.Reading.{has}
use Rattle.region.specs.Areas.{numbers}
use Rattle.region.specs.Seen.{seen}
use Rattle.region.specs.Read.{reading}
use Rattle.arena.specs.Arena.{Root}
use Rattle.trie_look.specs.Each.{answer_at}

-- root is that of a trie which says whether s is found, or no node, and answer says it
pub record Settles (l : List ℕ) (s : ℕ) (found : Bool) (root answer : ℕ) : Type 0 where
  pub rooted : root < (numbers l).N → Root (seen (numbers l) l).node (numbers l).N root
  pub says : answer_at (seen (numbers l) l).node (numbers l).N (bytes_of (numbers l).S) root s answer ≡ cond found 1 0

-- the first i words were met: where their answers are to be had, and if no trie is left to ask, the answers stand
pub record Met (l words answers : List ℕ) (i : ℕ) (roots suffixes answers' : List ℕ) (left : Bool) : Type 0 where
  pub inside : i ≤ length words
  pub wide-roots : length roots ≡ 64
  pub wide-suffixes : length suffixes ≡ 64
  pub long : length answers' ≡ length answers
  pub later : drop i answers' ≡ drop i answers
  pub suffix : (j : ℕ) → j < i → get_or suffixes j 0 ≡ suffix_of (numbers l).S (get_or words j 0)
  pub settled : (j : ℕ) → j < i → Settles l (get_or suffixes j 0) (has (reading l) (get_or words j 0)) (get_or roots j 0) (get_or answers' j 0)
  pub stands : left ≡ false → (j : ℕ) → j < i → get_or answers' j 0 ≡ cond (has (reading l) (get_or words j 0)) 1 0
