-- What taking a suffix out of a container leaves. l is the region at entry and l' at exit; the suffixes are those of slot c at entry. No promise cites this. Assumes nothing.
use Rattle.std.specs.Prelude.{ℕ, ◌≡◌, Bool, true, false, cond, List, ◌∷◌, eqb, length}
use Rattle.lists.specs.Lists.{mem}
use Rattle.model.specs.Reading.{Reading}
use Rattle.model.specs.Change.{taken, placed, dropped, with}
use Rattle.region.specs.Areas.{numbers}
use Rattle.region.specs.Seen.{seen}
use Rattle.region.specs.Read.{reading}
use Rattle.promises.specs.Reads.{ReadsAs}
use Rattle.wordset_trie.specs.Answers.{held_in}

-- the container in slot c is freed
abbrev pub freed : ℕ → List ℕ → Reading
freed c l = with (reading l) (dropped ((seen (numbers l) l).prefix c) (reading l).containers) (c ∷ (reading l).free)

-- the container in slot c has the suffixes ss
abbrev pub filled : ℕ → List ℕ → List ℕ → Reading
filled c ss l = with (reading l) (placed ((seen (numbers l) l).prefix c) 0 ss (reading l).containers) (reading l).free

-- s was a member and is none now, and its container is freed exactly where it was the only one; or it was none, and nothing is changed
abbrev pub LeftAs : ℕ → ℕ → List ℕ → Bool → List ℕ → Type 0
LeftAs c s l true l' = (mem s (held_in c l) ≡ true) × ReadsAs l (cond (eqb (length (held_in c l)) 1) (freed c l) (filled c (taken s (held_in c l)) l)) l'
LeftAs c s l false l' = (mem s (held_in c l) ≡ false) × (l' ≡ l)
