-- What each entry answers, as what it tells: the number and the place of each refusal, and the values otherwise. Assumes nothing.
use Rattle.std.specs.Prelude.{Bool, List, [], ◌∷◌, ℕ, Option, Some, None, Result, Ok, Err}
use Rattle.model.specs.Keys.{Fields}
use Rattle.promises.specs.Refusals.{Told, refusal}
use Rattle.promises.specs.Refusals.Told.{gave, refused}
use Rattle.promises.specs.declared.MakeRefusal.{MakeRefusal}
use Rattle.promises.specs.declared.Malformed.{Malformed}
use Rattle.promises.specs.declared.ListRefusal.{ListRefusal}
use Rattle.promises.specs.declared.AskRefusal.{AskRefusal}
use Rattle.promises.specs.declared.WalkRefusal.{WalkRefusal}
use Rattle.promises.specs.declared.CombineRefusal.{CombineRefusal}
use Rattle.promises.specs.declared.FieldOutOfRange.{FieldOutOfRange}
use Rattle.promises.specs.declared.UnpackRefusal.{UnpackRefusal}
use Rattle.promises.specs.declared.Fields.{Fields as KeyFields}

-- make: 2 a number outside its range, 3 slice shorter than the total
abbrev pub made : Result (Unit {0}) MakeRefusal → Told (Unit {0})
made (Ok u) = gave tt
made (Err MakeRefusal.OutOfRange) = refused (refusal 2 0)
made (Err MakeRefusal.TooShort) = refused (refusal 3 0)

-- check: 1 not well formed
abbrev pub checked : Result (Unit {0}) Malformed → Told (Unit {0})
checked (Ok u) = gave tt
checked (Err m) = refused (refusal 1 0)

-- run a list: 1, 4, 5, 6, and 9 at the command
abbrev pub listed : Result (Unit {0}) ListRefusal → Told (Unit {0})
listed (Ok u) = gave tt
listed (Err ListRefusal.Malformed) = refused (refusal 1 0)
listed (Err ListRefusal.BadLengths) = refused (refusal 4 0)
listed (Err (ListRefusal.UnknownCode k)) = refused (refusal 5 k)
listed (Err (ListRefusal.WordTooLarge k)) = refused (refusal 6 k)
listed (Err (ListRefusal.NoRoom k)) = refused (refusal 9 k)

-- all members: yes or no; 1, 4, 6
abbrev pub asked : Result Bool AskRefusal → Told Bool
asked (Ok all) = gave all
asked (Err AskRefusal.Malformed) = refused (refusal 1 0)
asked (Err AskRefusal.TooMany) = refused (refusal 4 0)
asked (Err (AskRefusal.WordTooLarge k)) = refused (refusal 6 k)

-- walk: how many words were written; 1, 8
abbrev pub walked : Result ℕ WalkRefusal → Told ℕ
walked (Ok n) = gave n
walked (Err WalkRefusal.Malformed) = refused (refusal 1 0)
walked (Err WalkRefusal.StartTooFar) = refused (refusal 8 0)

-- a walker's step: the words handed out, one or none
abbrev pub stepped : Option ℕ → List ℕ
stepped (Some w) = w ∷ []
stepped None = []

-- combine: 1 with the first bad region, 5, 7, 9
abbrev pub combined : Result (Unit {0}) CombineRefusal → Told (Unit {0})
combined (Ok u) = gave tt
combined (Err (CombineRefusal.Malformed k)) = refused (refusal 1 k)
combined (Err CombineRefusal.UnknownCode) = refused (refusal 5 0)
combined (Err CombineRefusal.SetsDiffer) = refused (refusal 7 0)
combined (Err CombineRefusal.NoRoom) = refused (refusal 9 0)

-- the five numbers of a key's fields
abbrev pub fields : KeyFields → Fields
fields f =
    record {
      card = f.card.0;
      rollover = f.rollover.0;
      folder = f.folder.0;
      frame = f.frame.0;
      kind = f.kind.0;
    }

-- pack: the key; 10 with the first bad field
abbrev pub packed : Result ℕ FieldOutOfRange → Told ℕ
packed (Ok w) = gave w
packed (Err f) = refused (refusal 10 f.0)

-- unpack: the fields; 6, 10
abbrev pub unpacked : Result KeyFields UnpackRefusal → Told Fields
unpacked (Ok f) = gave (fields f)
unpacked (Err UnpackRefusal.WordTooLarge) = refused (refusal 6 0)
unpacked (Err (UnpackRefusal.FieldOutOfRange k)) = refused (refusal 10 k)
