-- The promises of pack and unpack. Assumes nothing.
use Rattle.std.specs.Prelude.{◌≡◌, List, ◌++◌, ℕ, ◌+◌, ◌^◌, leb}
use Rattle.model.specs.Keys.{key_p, key_s, Fields, in_range, key_of, fields_of}
use Rattle.promises.specs.Refusals.{Refusal, Told, when, failing, tell}

-- key field out of range: field 0 to 4, first bad
abbrev pub field_refusals : Fields → List Refusal
field_refusals f = failing 10 (λ ok. ok) (in_range f)

-- pack a preview key
pub record PackPromise (f : Fields) (told : Told ℕ) : Type 0 where
  pub tells : told ≡ tell (field_refusals f) (key_of f)

-- unpacking refuses a word at or above 2^40 (6), and one whose folder or frame is out of range (10, field 2 or 3)
abbrev pub unpack_refusals : ℕ → List Refusal
unpack_refusals w = when (leb (2 ^ (key_p + key_s)) w) 6 0 ++ field_refusals (fields_of w)

-- unpack a preview key
pub record UnpackPromise (w : ℕ) (told : Told Fields) : Type 0 where
  pub tells : told ≡ tell (unpack_refusals w) (fields_of w)
