-- The writes of opening a container make one step of it: `Opened`, and by the step's laws a well-formed region with the reading that is promised. Assumes nothing.
use Prim.Native.Nat.{ℕ, suc, ◌+◌, ◌-◌, ◌*◌, ◌^◌, ◌<◌}
use mathlib.Core.Path.{◌≡◌, refl, sym, ap, ◌∙◌, subst}
use mathlib.Core.List.{List, [], ◌∷◌}
use native.Mathlib.Omega.{arith}
use lib.ListN.{length-set, get_or, set}
use lib.Seq.{get_or-set_same, get_or-set_other}
use Rattle.model.specs.Change.{placed, top, rest, with}
use Rattle.region.specs.Geometry.{record_words, strip_words}
use Rattle.region.specs.Areas.{Numbers, numbers, bitmap, ranks}
use Rattle.region.specs.Seen.{seen}
use Rattle.region.specs.Read.{reading}
use Rattle.region.specs.WellFormed.{rank_of, Shape, WellFormed}
use Rattle.region.proofs.SeenBits.{seen-bits}
use Rattle.promises.specs.Reads.{ReadsAs}
use Rattle.bitvector.specs.Maps.{Made}
use Rattle.lens.specs.Parts.{Parts, parts_of, seen_in, with_bitmap, with_ranks}
use Rattle.lens.specs.Holding.{Holding}
use Rattle.lens.proofs.Holding.{Sized, sized, begin}
use Rattle.steps.specs.Steps.{counted, Opened}
use Rattle.steps.proofs.Opening.{grown, open-shape, open-reads}
use Rattle.wordset_slots.specs.Shift.{ShiftedUp}
use Rattle.wordset_slots.specs.Writes.{Became, Recounted, filled, BitMade, RanksBy}
use Rattle.wordset_slots.proofs.Elsewhere.{other-records, filled-only}
use Rattle.wordset_slots.proofs.Writing.{then-ranks, ranks_by, then-bit, bit-made, then-counts}
use Rattle.wordset_slots.proofs.Ending.{ends}

module _ (g : Numbers) (y : Parts) (sz : Sized g y) (sh : Shape g (seen_in y)) where
  -- the areas afterwards
  abbrev opened : ℕ → ℕ → ℕ → List ℕ → List ℕ → Parts
  opened c p s bm rk = with_bitmap bm (with_ranks rk (filled c p s y))

  pub opens : (c p s at k : ℕ) (bm rk : List ℕ) → c < g.C → g.k < g.C → (seen_in y).free (g.C - suc g.k) ≡ c → p < 2 ^ g.P → (seen_in y).bit p ≡ 0 → s < 2 ^ g.S
      → at ≡ rank_of g (seen_in y) p → k ≡ g.k → Made y.bitmap p 1 bm → ShiftedUp at k c y.ranks rk
      → Opened g (seen_in y) (seen_in (opened c p s bm rk)) c p s
  opens c p s at k bm rk small some next low clear short ea ek made up = record {
    some-free = some;
    next = next;
    prefix-small = low;
    was-clear = clear;
    suffix-small = short;
    bit-here = made.here;
    bit-else = λ q ne. made.other q ne;
    slot-below = λ r h. up.below r (omega (arith, ea));
    slot-here = ap (λ (z : ℕ). get_or rk z 0) (sym ea) ∙ up.here;
    slot-above = λ r a b. up.above r (omega (arith, ea)) (omega (arith, ek));
    free = λ i h. refl;
    kind =
        get_or-set_other (set (set y.records (record_words * c) 1) (record_words * c + 1) p) (record_words * c + 2) (record_words * c) 1 0 (omega arith)
        ∙ get_or-set_other (set y.records (record_words * c) 1) (record_words * c + 1) (record_words * c) p 0 (omega arith)
        ∙ get_or-set_same y.records (record_words * c) 1 0 (omega (arith, sz.records));
    prefix =
        get_or-set_other (set (set y.records (record_words * c) 1) (record_words * c + 1) p) (record_words * c + 2) (record_words * c + 1) 1 0 (omega arith)
        ∙ get_or-set_same (set y.records (record_words * c) 1) (record_words * c + 1) p 0 (omega (arith, sz.records, length-set y.records (record_words * c) 1));
    size =
        get_or-set_same (set (set y.records (record_words * c) 1) (record_words * c + 1) p) (record_words * c + 2) 1 0
        (omega (arith, sz.records, length-set y.records (record_words * c) 1, length-set (set y.records (record_words * c) 1) (record_words * c + 1) p));
    entry =
        let e : strip_words * c + 0 ≡ strip_words * c = omega arith in
        ap (λ (z : ℕ). get_or (set y.entries (strip_words * c) s) z 0) e ∙ get_or-set_same y.entries (strip_words * c) s 0 (omega (arith, sz.entries));
    others = other-records g y (opened c p s bm rk) c (record { records = (filled-only c p s y).records; entries = (filled-only c p s y).entries }) sh.held;
    spare = λ i. refl;
    node = refl;
  }

module _ {l : List ℕ} (wf : WellFormed l) where
  -- the slot on top of the stack
  pub top_small : (slots k c : ℕ) → slots ≡ (numbers l).C → k ≡ (numbers l).k → (numbers l).k < (numbers l).C → c ≡ (seen (numbers l) l).free (slots - (k + 1)) → c < (numbers l).C
  top_small slots k c es ek some e =
      let z : slots - (k + 1) < (numbers l).C - (numbers l).k = omega (arith, es, ek) in
      subst (λ (d : ℕ). d < (numbers l).C) (sym e) (wf.shape.stacks.free-slots (slots - (k + 1)) z).in-range

  -- the four writes, one after the other
  pub open-run : (p s slots k n at c : ℕ) {m₁ m₂ m₃ m₄ : List ℕ}
      → slots ≡ (numbers l).C → k ≡ (numbers l).k → n ≡ (numbers l).count → at ≡ rank_of (numbers l) (seen (numbers l) l) p → c ≡ (seen (numbers l) l).free (slots - (k + 1))
      → p < 2 ^ (numbers l).P → (seen (numbers l) l).bit p ≡ 0 → (numbers l).k < (numbers l).C → s < 2 ^ (numbers l).S
      → Became (filled c p s) l m₁ → RanksBy (ShiftedUp at k c) m₁ m₂ → BitMade p 1 m₂ m₃ → Recounted (k + 1) (n + 1) m₃ m₄
      → ReadsAs l (with (reading l) (placed p (top (reading l).free) (s ∷ []) (reading l).containers) (rest (reading l).free)) m₄
  unfolding seen reading
  open-run p s slots k n at c {m₁} {m₂} {m₃} {m₄} es ek en ea ec low clear some short w₁ w₂ w₃ w₄ =
      let g : Numbers = numbers l in
      let x : Parts = with_bitmap (bitmap g m₃) (with_ranks (ranks g m₂) (filled c p s (parts_of g l))) in
      let h₂ : Holding g (with_ranks (ranks g m₂) (filled c p s (parts_of g l))) l m₂ = then-ranks w₁ w₂ in
      let h₃ : Holding g x l m₃ = then-bit h₂ w₃ in
      let h₄ : Holding (counted g (k + 1) g.used (n + 1)) x l m₄ = then-counts h₃ (k + 1) (n + 1) w₄ in
      let e₁ : k + 1 ≡ suc g.k = omega (arith, ek) in
      let e₂ : n + 1 ≡ suc g.count = omega (arith, en) in
      let h : Holding (grown g) x l m₄ = subst (λ (z : ℕ). Holding (counted g z g.used (suc g.count)) x l m₄) e₁ (subst (λ (z : ℕ). Holding (counted g (k + 1) g.used z) x l m₄) e₂ h₄) in
      let f : g.C - suc g.k ≡ slots - (k + 1) = omega (arith, es, ek) in
      let o : Opened g (seen g l) (seen_in x) c p s =
      opens g (parts_of g l) (sized (begin l wf.ready)) wf.shape c p s at k (bitmap g m₃) (ranks g m₂) (top_small slots k c es ek some ec) some
      (ap (seen g l).free f ∙ sym ec) low clear short ea ek (bit-made h₂ w₃) (ranks_by w₁ w₂) in
      ends h (open-shape g (seen g l) (seen_in x) c p s wf.shape (seen-bits g l) o) (open-reads g (seen g l) (seen_in x) c p s wf.shape (seen-bits g l) o)
