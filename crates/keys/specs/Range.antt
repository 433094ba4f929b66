-- The first field of a key that is out of range, 5 where none is: the place that the promises of pack and unpack look at. Assumes nothing.
use Rattle.std.specs.Prelude.{◌≡◌, ℕ, ◌<◌, Option, Some, None, Result, Ok, Err}
use Rattle.lists.specs.Lists.{first_bad}
use Rattle.model.specs.Keys.{Fields, in_range}
use Rattle.promises.specs.declared.FieldOutOfRange.{FieldOutOfRange}

abbrev pub first_out : Fields → ℕ
first_out f = first_bad (λ ok. ok) (in_range f)

-- where it stands, if there is one
abbrev pub OutAt : Fields → Option ℕ → Type 0
OutAt f (Some k) = (k ≡ first_out f) × (k < 5)
OutAt f None = first_out f ≡ 5

-- refused for it, if there is one
abbrev pub Judged : Fields → Result (Unit {0}) FieldOutOfRange → Type 0
Judged f (Err e) = OutAt f (Some e.0)
Judged f (Ok u) = OutAt f None
