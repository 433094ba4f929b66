-- Keys of 40 bits and fields are each other's inverse: each field is a quotient and a rest of the key. Assumes nothing.
use mathlib.Core.Path.{◌≡◌, refl, sym, ap, ◌∙◌}
use mathlib.Core.Logic.{◌⊎◌, inl, inr}
use Prim.Native.Nat.{ℕ, ◌/◌, ◌^◌, ◌<◌}
use native.Mathlib.Decide.{dec_lt}
use native.Mathlib.Omega.{arith}
use lib.Bits.{bit_and, and_mask}
use lib.Pow.{shr-shr}
use Rattle.model.specs.Keys.{fields_are, Fields, key_of, fields_of}
use Rattle.keys.specs.Range.{first_out}
use Rattle.keys.proofs.Ranges.{in-range, out-folder-low, out-folder, out-frame, out_none}

same-fields : {a b c d e a' b' c' d' e' : ℕ} → a ≡ a' → b ≡ b' → c ≡ c' → d ≡ d' → e ≡ e' → fields_are a b c d e ≡ fields_are a' b' c' d' e'
same-fields p q r s t = rw (p, q, r, s, t)

-- shifts and masks read the fields off a word
pub masked : (w : ℕ) → fields_are (w / 2 ^ 28) (bit_and (w / 2 ^ 25) 7) (bit_and (w / 2 ^ 15) 1023) (bit_and (w / 2) 16383) (bit_and w 1) ≡ fields_of w
masked w = same-fields refl (and_mask (w / 2 ^ 25) 3) (and_mask (w / 2 ^ 15) 10) (and_mask (w / 2) 14) (and_mask w 1)

-- fields in range
module _ (f : Fields) (good : first_out f ≡ 5) where
  -- are the fields of their key
  pub key-fields : fields_of (key_of f) ≡ f
  key-fields =
      let i = in-range f good in
      same-fields (omega arith) (omega arith) (omega arith) (omega arith) (omega arith)

  -- which has 40 bits
  pub key_below : key_of f < 2 ^ 40
  key_below = let i = in-range f good in omega arith

-- keys of different fields in range differ
pub keys-differ : (f g : Fields) → first_out f ≡ 5 → first_out g ≡ 5 → key_of f ≡ key_of g → f ≡ g
keys-differ f g hf hg e = sym (key-fields f hf) ∙ ap fields_of e ∙ key-fields g hg

-- a word is the key of its fields
pub word-key : (w : ℕ) → key_of (fields_of w) ≡ w
word-key w = omega (arith, shr-shr w 25 3, shr-shr w 15 10, shr-shr w 1 14)

-- of a word of 40 bits only the folder or the frame can be out of range first: 10 is with field 2 or 3
pub word-place : (w : ℕ) → w < 2 ^ 40 → first_out (fields_of w) < 5 → (first_out (fields_of w) ≡ 2) ⊎ (first_out (fields_of w) ≡ 3)
word-place w small bad = go (dec_lt f.folder 100) (dec_lt 999 f.folder) (dec_lt 9999 f.frame)
  where
    f : Fields
    f = fields_of w

    go : Dec (f.folder < 100) → Dec (999 < f.folder) → Dec (9999 < f.frame) → (first_out f ≡ 2) ⊎ (first_out f ≡ 3)
    go (yes l) q r = inl (sym (out-folder-low f (omega arith) (omega arith) l))
    go (no l) (yes h) r = inl (sym (out-folder f (omega arith) (omega arith) h))
    go (no l) (no h) (yes m) = inr (sym (out-frame f (omega arith) (omega arith) (omega arith) (omega arith) m))
    go (no l) (no h) (no m) =
        let e = out_none f (omega arith) (omega arith) (omega arith) (omega arith) (omega arith) (omega arith) in
        absurd (omega arith)
