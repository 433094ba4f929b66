-- Document 01, "Commands and what they say": one command, and a run of a command list on a reading. Assumes nothing.
use Rattle.std.specs.Prelude.{Bool, true, false, cond, not, List, [], ◌∷◌, ℕ, zero, suc, leb, length}
use Rattle.lists.specs.Lists.{one}
use Rattle.model.specs.Room.{fits}
use Rattle.model.specs.Reading.{Reading, walk, has}
use Rattle.model.specs.Change.{insert, remove}

-- what a command does
pub data Code : Type 0 where
  Lookup Insert Remove : Code

-- codes 0 lookup, 1 insert, 2 remove; no other is known
abbrev pub known_code : ℕ → Bool
known_code c = leb c 2

-- the code of a known number
abbrev pub code_of : ℕ → Code
code_of zero = Code.Lookup
code_of (suc zero) = Code.Insert
code_of (suc (suc n)) = Code.Remove

-- one code, one word
pub record Command : Type 0 where
  pub code : Code
  pub word : ℕ

-- the commands of a list of codes and a list of words
abbrev pub commands : List ℕ → List ℕ → List Command
commands [] ws = []
commands (c ∷ cs) [] = []
commands (c ∷ cs) (w ∷ ws) = record { code = code_of c; word = w } ∷ commands cs ws

-- lookup and remove answer 1 if the word was a member, insert 1 if it was not; else 0
abbrev pub answer : Code → Bool → ℕ
answer Lookup member = one member
answer Insert member = one (not member)
answer Remove member = one member

-- the reading after a command
abbrev pub changed : Code → ℕ → Reading → Reading
changed Lookup w r = r
changed Insert w r = insert w r
changed Remove w r = remove w r

-- an insert is refused for room exactly when the set after it would not fit; lookup and remove never are
abbrev pub has_room : Code → ℕ → Reading → Bool
has_room Lookup w r = true
has_room Insert w r = fits r.S r.C r.N (w ∷ walk r)
has_room Remove w r = true

-- what a list comes to: the answers given, the reading, and whether it stopped for room
pub record Run : Type 0 where
  pub answers : List ℕ
  pub reading : Reading
  pub stopped : Bool

-- commands run one after the other, until one finds no room: then the earlier ones are done and the later ones are not tried
unfoldable pub run : List Command → Reading → Run
run [] r = record { answers = []; reading = r; stopped = false }
run (c ∷ cs) r =
    let later = run cs (changed c.code c.word r) in
    cond (has_room c.code c.word r)
    (record { answers = answer c.code (has r c.word) ∷ later.answers; reading = later.reading; stopped = later.stopped })
    (record { answers = []; reading = r; stopped = true })

-- the place of the command that found no room: the one after the last that was answered
abbrev pub place : Run → ℕ
place o = length o.answers

-- whether a command inserts, or removes
abbrev pub is_insert : Code → Bool
is_insert Lookup = false
is_insert Insert = true
is_insert Remove = false

abbrev pub is_remove : Code → Bool
is_remove Lookup = false
is_remove Insert = false
is_remove Remove = true
