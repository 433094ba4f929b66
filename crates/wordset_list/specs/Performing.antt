-- What one command of a list does, and a run of them. l is the region at entry and l' at exit. No promise cites it. Assumes nothing.
use Rattle.std.specs.Prelude.{ℕ, ◌≤◌, ◌<◌, ◌≡◌, Bool, true, false, not, List, ◌++◌, Result, Ok, Err, eqb, length, take, drop}
use Rattle.model.specs.Reading.{has}
use Rattle.model.specs.Commands.{Code, code_of, commands, answer, changed, has_room, Run, run}
use Rattle.model.specs.Demands.{Kept}
use Rattle.region.specs.Read.{reading}
use Rattle.region.specs.WellFormed.{WellFormed}
use Rattle.promises.specs.Refusals.{Told, refusal, tell}
use Rattle.promises.specs.Refusals.Told.{gave, refused}
use Rattle.promises.specs.Reads.{past, ReadsAs}
use Rattle.promises.specs.List.{outcome, no_room, Ran}
use Rattle.arena.specs.declared.NoRoom.{NoRoom}
use Rattle.wordset_list.specs.declared.commands.Command.{Command}
use Rattle.wordset_list.specs.declared.commands.NoRoomAt.{NoRoomAt}

-- the code that a command stands for
abbrev pub meant : Command → Code
meant Command.Lookup = Code.Lookup
meant Command.Insert = Code.Insert
meant Command.Remove = Code.Remove

-- the command found room: its answer a, and the reading that document 01 names
pub record AnsweredAs (code : Code) (w : ℕ) (l : List ℕ) (a : ℕ) (l' : List ℕ) : Type 0 where
  pub room : has_room code w (reading l) ≡ true
  pub gives : a ≡ answer code (has (reading l) w)
  pub reads : ReadsAs l (changed code w (reading l)) l'

-- the command found none, and left the region as it was
pub record StoppedAs (code : Code) (w : ℕ) (l l' : List ℕ) : Type 0 where
  pub no_room : has_room code w (reading l) ≡ false
  pub stays : l' ≡ l

-- what the answer of one command says
abbrev pub PerformedAs : ℕ → ℕ → List ℕ → Result ℕ NoRoom → List ℕ → Type 0
PerformedAs code w l (Ok a) l' = AnsweredAs (code_of code) w l a l'
PerformedAs code w l (Err e) l' = StoppedAs (code_of code) w l l'

-- a run with some answers before its own
abbrev pub continued : List ℕ → Run → Run
continued xs o = record { answers = xs ++ o.answers; reading = o.reading; stopped = o.stopped }

-- a list came to command i: the region and the answers are primed now, and the commands from i on make up the rest of the whole outcome
pub record Going (region codes words answers : List ℕ) (i : ℕ) (region' answers' : List ℕ) : Type 0 where
  pub inside : i ≤ length words
  pub sound : WellFormed region'
  pub kept : Kept (reading region) (reading region')
  pub size : length region' ≡ length region
  pub past-stays : past (reading region) region' ≡ past (reading region) region
  pub long : length answers' ≡ length answers
  pub later : drop i answers' ≡ drop i answers
  pub whole : outcome region codes words ≡ continued (take i answers') (run (commands (drop i codes) (drop i words)) (reading region'))

-- a whole list ran: what it tells, and what it leaves
pub record RanAs (region codes words answers : List ℕ) (told : Told (Unit {0})) (region' answers' : List ℕ) : Type 0 where
  pub tells : told ≡ tell (no_room (outcome region codes words)) tt
  pub leaves : Ran region answers (outcome region codes words) region' answers'

-- a block ran to its end, or to its command that found no room
abbrev pub BlockRanAs : List ℕ → List ℕ → List ℕ → List ℕ → Result (Unit {0}) NoRoomAt → List ℕ → List ℕ → Type 0
BlockRanAs region codes words answers (Ok u) region' answers' = RanAs region codes words answers (gave tt) region' answers'
BlockRanAs region codes words answers (Err e) region' answers' = (e.0 < length words) × RanAs region codes words answers (refused (refusal 9 e.0)) region' answers'

-- a block was tried at once: all of it ran, or nothing is changed
abbrev pub TriedAs : List ℕ → List ℕ → List ℕ → List ℕ → Bool → List ℕ → List ℕ → Type 0
TriedAs region codes words answers true region' answers' = RanAs region codes words answers (gave tt) region' answers'
TriedAs region codes words answers false region' answers' = (region' ≡ region) × (answers' ≡ answers)

-- code 0
abbrev pub is_lookup : ℕ → Bool
is_lookup c = eqb c 0

-- code 1
abbrev pub is_insert : ℕ → Bool
is_insert c = eqb c 1

-- an answer that is not 0
abbrev pub is_yes : ℕ → Bool
is_yes a = not (eqb a 0)
