-- What the answer of an insert says. l is the region at entry and l' at exit. No promise cites it. Assumes nothing.
use Rattle.std.specs.Prelude.{ℕ, Bool, true, false, List, Result, Ok, Err}
use Rattle.model.specs.Commands.{Code}
use Rattle.steps.specs.Commands.{Did, Full}
use Rattle.arena.specs.declared.NoRoom.{NoRoom}

-- the word was new and is a member now; it was one already; or the set with it would not fit, and nothing is changed
abbrev pub InsertedAs : ℕ → List ℕ → Result Bool NoRoom → List ℕ → Type 0
InsertedAs w l (Ok true) l' = Did Code.Insert w l false l'
InsertedAs w l (Ok false) l' = Did Code.Insert w l true l'
InsertedAs w l (Err e) l' = Full w l l'
