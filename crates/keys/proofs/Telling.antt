-- What pack and unpack tell, by the first field out of range: one law for each answer. Assumes nothing.
use mathlib.Core.Path.{◌≡◌, sym, ap, ◌∙◌, subst}
use Prim.Native.Nat.{ℕ, ◌^◌, ◌<◌, ◌≤◌}
use borrow.Author.Tests.{le-leb, lt-leb, lt-ltb}
use Rattle.model.specs.Keys.{Fields, fields_of}
use Rattle.promises.specs.Refusals.{refusal, tell}
use Rattle.promises.specs.Refusals.Told.{gave, refused}
use Rattle.promises.specs.Keys.{field_refusals, unpack_refusals}
use Rattle.keys.specs.Range.{first_out}

module _ {A : Type 0} (f : Fields) (a : A) where
  -- a field is out of range
  pub tells-field : (k : ℕ) → k ≡ first_out f → k < 5 → refused (refusal 10 k) ≡ tell (field_refusals f) a
  tells-field k e l = rw (← e, lt-ltb k 5 l)

  -- none is
  pub tells-value : first_out f ≡ 5 → gave a ≡ tell (field_refusals f) a
  tells-value e = rw e

-- a word that is too large is refused as such
pub tells-large : {A : Type 0} (w : ℕ) (a : A) → 2 ^ 40 ≤ w → refused (refusal 6 0) ≡ tell (unpack_refusals w) a
tells-large w a l = rw (le-leb (2 ^ 40) w l)

-- any other by its fields alone
pub small_word : (w : ℕ) → w < 2 ^ 40 → unpack_refusals w ≡ field_refusals (fields_of w)
small_word w l = rw (lt-leb (2 ^ 40) w l)

-- the fields that were read off a word are f
module _ (w : ℕ) (f : Fields) (read : f ≡ fields_of w) (small : w < 2 ^ 40) where
  pub tells-bad-word : (k : ℕ) → k ≡ first_out f → k < 5 → refused (refusal 10 k) ≡ tell (unpack_refusals w) (fields_of w)
  tells-bad-word k e l = rw (small_word w small) (subst (λ (g : Fields). refused (refusal 10 k) ≡ tell (field_refusals g) g) read (tells-field f f k e l))

  pub tells-fields : first_out f ≡ 5 → gave f ≡ tell (unpack_refusals w) (fields_of w)
  tells-fields e = rw (small_word w small) (ap gave read ∙ tells-value (fields_of w) (fields_of w) (ap first_out (sym read) ∙ e))
