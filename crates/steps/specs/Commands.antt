-- What one command does to a well-formed region: the layers below the entries answer for one command each, and a list is a run of them. No promise cites it. Assumes nothing.
use Rattle.std.specs.Prelude.{ℕ, ◌≡◌, Bool, true, false, List}
use Rattle.model.specs.Reading.{has}
use Rattle.model.specs.Commands.{Code, changed, has_room}
use Rattle.region.specs.Read.{reading}
use Rattle.promises.specs.Reads.{ReadsAs}

-- l became l' by a command that found room: whether its word was a member, and the reading that document 01 names
pub record Did (code : Code) (w : ℕ) (l : List ℕ) (member : Bool) (l' : List ℕ) : Type 0 where
  pub room : has_room code w (reading l) ≡ true
  pub was : member ≡ has (reading l) w
  pub reads : ReadsAs l (changed code w (reading l)) l'

-- an insert that found no room left l as it was
pub record Full (w : ℕ) (l l' : List ℕ) : Type 0 where
  pub no_room : has_room Code.Insert w (reading l) ≡ false
  pub stays : l' ≡ l
