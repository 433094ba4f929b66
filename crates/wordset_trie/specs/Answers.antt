-- What the answers of a put, of puts of several suffixes, and of a take say. l is the region at entry and l' at exit; the suffixes are those of slot c at entry. Assumes nothing.
use Rattle.std.specs.Prelude.{ℕ, ◌<◌, ◌≤◌, ◌≡◌, Bool, true, false, List, length, take, get_or, Result, Ok, Err}
use Rattle.lists.specs.Lists.{mem, put, without}
use Rattle.model.specs.Words.{bytes_of}
use Rattle.model.specs.Change.{placed, with}
use Rattle.region.specs.Areas.{numbers}
use Rattle.region.specs.Seen.{seen}
use Rattle.region.specs.Read.{suffixes, reading}
use Rattle.promises.specs.Reads.{ReadsAs}
use Rattle.trie.specs.Answers.{NoRoomFor}
use Rattle.trie_each.specs.Each.{put_each}
use Rattle.arena.specs.declared.NoRoom.{NoRoom}

-- the suffixes in slot c of a region
abbrev pub held_in : ℕ → List ℕ → List ℕ
held_in c l = suffixes (numbers l) (seen (numbers l) l) c

-- the region reads as before, with the suffixes ss in slot c
abbrev pub ReadsWith : ℕ → List ℕ → List ℕ → List ℕ → Type 0
ReadsWith c ss l l' = ReadsAs l (with (reading l) (placed ((seen (numbers l) l).prefix c) 0 ss (reading l).containers) (reading l).free) l'

-- the trie in slot c has no room for s
abbrev pub FullFor : ℕ → ℕ → List ℕ → Type 0
FullFor c s l = NoRoomFor (numbers l).N (bytes_of (numbers l).S) (numbers l).used s (held_in c l)

-- s was new and is a member now; it was one already; or there is no room for it. But for the first nothing is changed
abbrev pub PutAs : ℕ → ℕ → List ℕ → Result Bool NoRoom → List ℕ → Type 0
PutAs c s l (Ok true) l' = (mem s (held_in c l) ≡ false) × ReadsWith c (put s (held_in c l)) l l'
PutAs c s l (Ok false) l' = (mem s (held_in c l) ≡ true) × (l' ≡ l)
PutAs c s l (Err e) l' = FullFor c s l × (l' ≡ l)

-- slot c holds its suffixes and the first `done` of ss now; the next one, if there is one, finds no room
pub record PutEach (c : ℕ) (ss l : List ℕ) (done : ℕ) (l' : List ℕ) : Type 0 where
  pub in-range : done ≤ length ss
  pub reads : ReadsWith c (put_each (held_in c l) (take done ss)) l l'
  pub full : done < length ss → FullFor c (get_or ss done 0) l'

-- s was a member and is none now; or it was none, and nothing is changed
abbrev pub TakenAs : ℕ → ℕ → List ℕ → Bool → List ℕ → Type 0
TakenAs c s l true l' = (mem s (held_in c l) ≡ true) × ReadsWith c (without s (held_in c l)) l l'
TakenAs c s l false l' = (mem s (held_in c l) ≡ false) × (l' ≡ l)
