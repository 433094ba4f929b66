-- What the reading of a well-formed region keeps. No promise cites it: it is proved of every well-formed region (crate region), and the laws of readings start from it. Assumes nothing.
use Rattle.std.specs.Prelude.{◌≡◌, true, List, ◌++◌, ℕ, ◌+◌, ◌^◌, ◌<◌, ltb, length}
use Rattle.lists.specs.Lists.{mem, Ascending, Distinct, Every}
use Rattle.model.specs.Room.{is_trie, fits}
use Rattle.model.specs.Reading.{Container, Reading, walk, prefixes_of, slots_of}

-- suffixes below 2^S, none twice, those of a trie ascending
pub record GoodSuffixes (S : ℕ) (ss : List ℕ) : Type 0 where
  pub below : (s : ℕ) → mem s ss ≡ true → s < 2 ^ S
  pub distinct : Distinct ss
  pub ordered : is_trie ss ≡ true → Ascending ss

-- a prefix below 2^P, and at least one suffix
pub record GoodContainer (P S : ℕ) (c : Container) : Type 0 where
  pub inside : c.prefix < 2 ^ P
  pub some : 0 < length c.suffixes
  pub good : GoodSuffixes S c.suffixes

-- containers by ascending prefix, slots, and room
pub record Good (r : Reading) : Type 0 where
  pub ascending : Ascending (prefixes_of r.containers)
  pub each : Every (GoodContainer r.P r.S) r.containers
  -- as many slots as C, and 0 to C - 1 are all there: so none twice
  pub slots : length r.containers + length r.free ≡ r.C
  pub named : (t : ℕ) → mem t (slots_of r.containers ++ r.free) ≡ ltb t r.C
  pub room : fits r.S r.C r.N (walk r) ≡ true
