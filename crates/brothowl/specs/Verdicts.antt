-- What an entry tells, as numbers that cross to C: number 0 and place 0 with the values, or a refusal's number and place with zeros. Assumes nothing.
use Rattle.std.specs.Prelude.{◌≡◌, Bool, ℕ}
use Rattle.lists.specs.Lists.{one}
use Rattle.model.specs.Keys.{Fields, fields_are}
use Rattle.promises.specs.Refusals.{Told}
use Rattle.promises.specs.Refusals.Told.{gave, refused}
use Rattle.brothowl.specs.declared.making.Verdict.{Verdict}
use Rattle.brothowl.specs.declared.preview.PackVerdict.{PackVerdict}
use Rattle.brothowl.specs.declared.preview.UnpackVerdict.{UnpackVerdict}
use Rattle.brothowl.specs.declared.sets.AskVerdict.{AskVerdict}
use Rattle.brothowl.specs.declared.sets.WalkVerdict.{WalkVerdict}

-- a verdict that holds no value
abbrev pub verdict_of : {A : Type 0} → Told A → Verdict
verdict_of (gave a) = record { number = 0; place = 0 }
verdict_of (refused r) = record { number = r.number; place = r.place }

-- v is the verdict of something told that keeps the entry's promise
pub record Crosses {A B : Type 0} (verdict : Told A → B) (Promise : Told A → Type 0) (v : B) : Type 0 where
  pub told : Told A
  pub keeps : Promise told
  pub crosses : v ≡ verdict told

-- the verdict of pack, with its key
abbrev pub pack_verdict : Told ℕ → PackVerdict
pack_verdict (gave w) = record { number = 0; place = 0; key = w }
pack_verdict (refused x) = record { number = x.number; place = x.place; key = 0 }

-- a verdict with these fields
abbrev pub with_fields : ℕ → ℕ → Fields → UnpackVerdict
with_fields n k f =
    record {
      number = n;
      place = k;
      card = f.card;
      rollover = f.rollover;
      folder = f.folder;
      frame = f.frame;
      kind = f.kind;
    }

-- the verdict of unpack, with its fields
abbrev pub unpack_verdict : Told Fields → UnpackVerdict
unpack_verdict (gave f) = with_fields 0 0 f
unpack_verdict (refused x) = with_fields x.number x.place (fields_are 0 0 0 0 0)

-- the verdict of all members: 1 for yes
abbrev pub ask_verdict : Told Bool → AskVerdict
ask_verdict (gave a) = record { number = 0; place = 0; all = one a }
ask_verdict (refused x) = record { number = x.number; place = x.place; all = 0 }

-- the verdict of walk, with how many words were written
abbrev pub walk_verdict : Told ℕ → WalkVerdict
walk_verdict (gave n) = record { number = 0; place = 0; written = n }
walk_verdict (refused x) = record { number = x.number; place = x.place; written = 0 }
