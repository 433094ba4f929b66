-- Document 01, "Preview keys": five fields in 40 bits, and which values each may take. Assumes nothing.
use Rattle.std.specs.Prelude.{Bool, List, [], ◌∷◌, ℕ, ◌+◌, ◌*◌, ◌/◌, ◌%◌, ◌^◌}
use Rattle.lists.specs.Lists.{between}

-- a key lies in a set of P=12, S=28
abbrev pub key_p : ℕ
key_p = 12

abbrev pub key_s : ℕ
key_s = 28

-- the fields from the top
pub record Fields : Type 0 where
  pub card : ℕ
  pub rollover : ℕ
  pub folder : ℕ
  pub frame : ℕ
  pub kind : ℕ

-- five numbers as the fields
abbrev pub fields_are : ℕ → ℕ → ℕ → ℕ → ℕ → Fields
fields_are card rollover folder frame kind = record { card = card; rollover = rollover; folder = folder; frame = frame; kind = kind }

-- field 0 card 0 to 4,095
abbrev pub good_card : ℕ → Bool
good_card x = between 0 4095 x

-- field 1 rollover 0 to 7
abbrev pub good_rollover : ℕ → Bool
good_rollover x = between 0 7 x

-- field 2 folder 100 to 999
abbrev pub good_folder : ℕ → Bool
good_folder x = between 100 999 x

-- field 3 frame 0 to 9,999
abbrev pub good_frame : ℕ → Bool
good_frame x = between 0 9999 x

-- field 4 kind 0 raw, 1 sidecar
abbrev pub good_kind : ℕ → Bool
good_kind x = between 0 1 x

-- which fields are in range, from the top
abbrev pub in_range : Fields → List Bool
in_range f = good_card f.card ∷ good_rollover f.rollover ∷ good_folder f.folder ∷ good_frame f.frame ∷ good_kind f.kind ∷ []

-- key = card·2^28 + rollover·2^25 + folder·2^15 + frame·2 + kind
abbrev pub key_of : Fields → ℕ
key_of f = f.card * 2 ^ 28 + f.rollover * 2 ^ 25 + f.folder * 2 ^ 15 + f.frame * 2 + f.kind

-- the fields that a word of 40 bits has: 12, 3, 10, 14 and 1 bits
abbrev pub fields_of : ℕ → Fields
fields_of w =
    record {
      card = w / 2 ^ 28;
      rollover = w / 2 ^ 25 % 2 ^ 3;
      folder = w / 2 ^ 15 % 2 ^ 10;
      frame = w / 2 % 2 ^ 14;
      kind = w % 2;
    }
