-- What a write to one slot leaves: the records and entries of every other slot. Assumes nothing.
use Prim.Native.Nat.{ℕ, ◌+◌, ◌*◌, ◌<◌, ◌≤◌}
use mathlib.Core.Path.{◌≡◌, refl, ◌∙◌}
use native.Mathlib.Omega.{arith}
use lib.ListN.{get_or, set}
use lib.Seq.{get_or-set_other}
use Rattle.region.specs.Geometry.{record_words, strip_words}
use Rattle.region.specs.Areas.{Numbers}
use Rattle.region.specs.WellFormed.{Held}
use Rattle.lens.specs.Parts.{Parts, seen_in}
use Rattle.steps.specs.Steps.{OtherRecords}
use Rattle.wordset_slots.specs.Writes.{filled, released}

-- a word that is not one of the n words of slot c
abbrev pub Outside : ℕ → ℕ → ℕ → Type 0
Outside n c i = n * c ≤ i → i < n * c + n → ⊥

-- no other slot's record or entries are changed
pub record OnlySlot (c : ℕ) (y x : Parts) : Type 0 where
  pub records : (i : ℕ) → Outside record_words c i → get_or x.records i 0 ≡ get_or y.records i 0
  pub entries : (i : ℕ) → Outside strip_words c i → get_or x.entries i 0 ≡ get_or y.entries i 0

pub other-records : (g : Numbers) (y x : Parts) (c : ℕ) → OnlySlot c y x → Held g (seen_in y) → OtherRecords g (seen_in y) (seen_in x) c
other-records g y x c o hd = record {
  kind = λ d h n. o.records (record_words * d) (λ a b. omega arith);
  prefix = λ d h n u. o.records (record_words * d + 1) (λ a b. omega arith);
  size = λ d h n u. o.records (record_words * d + 2) (λ a b. omega arith);
  link = λ d h n u. o.records (record_words * d + 3) (λ a b. omega arith);
  entry = λ d i h n e s. o.entries (strip_words * d + i) (λ a b. omega (arith, (hd.vector d h e).few));
}

pub filled-only : (c p s : ℕ) (y : Parts) → OnlySlot c y (filled c p s y)
filled-only c p s y = record {
  records = λ i out.
      get_or-set_other (set (set y.records (record_words * c) 1) (record_words * c + 1) p) (record_words * c + 2) i 1 0 (λ e. out (omega arith) (omega arith))
      ∙ get_or-set_other (set y.records (record_words * c) 1) (record_words * c + 1) i p 0 (λ e. out (omega arith) (omega arith))
      ∙ get_or-set_other y.records (record_words * c) i 1 0 (λ e. out (omega arith) (omega arith));
  entries = λ i out. get_or-set_other y.entries (strip_words * c) i s 0 (λ e. out (omega arith) (omega arith));
}

pub released-only : (c j : ℕ) (y : Parts) → OnlySlot c y (released c j y)
released-only c j y = record {
  records = λ i out.
      get_or-set_other (set y.records (record_words * c) 0) (record_words * c + 3) i j 0 (λ e. out (omega arith) (omega arith))
      ∙ get_or-set_other y.records (record_words * c) i 0 0 (λ e. out (omega arith) (omega arith));
  entries = λ i out. refl;
}
