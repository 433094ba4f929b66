-- The writes of closing a container make one step of it: `Closed`, and by the step's laws a well-formed region with the reading that is promised. Assumes nothing.
use Prim.Native.Nat.{ℕ, ◌+◌, ◌-◌, ◌*◌, ◌^◌, ◌<◌}
use mathlib.Core.Path.{◌≡◌, refl, sym, ap, ◌∙◌, subst}
use mathlib.Core.List.{List, ◌∷◌}
use native.Mathlib.Omega.{arith}
use lib.ListN.{length-set, set}
use lib.Seq.{get_or-set_same, get_or-set_other}
use Rattle.model.specs.Change.{dropped, with}
use Rattle.region.specs.Geometry.{record_words}
use Rattle.region.specs.Areas.{Numbers, numbers, bitmap, ranks}
use Rattle.region.specs.Seen.{seen}
use Rattle.region.specs.Read.{reading}
use Rattle.region.specs.WellFormed.{rank_of, Ranked, Shape, WellFormed}
use Rattle.region.proofs.SeenBits.{seen-bits}
use Rattle.promises.specs.Reads.{ReadsAs}
use Rattle.bitvector.specs.Maps.{Made}
use Rattle.lens.specs.Parts.{Parts, parts_of, seen_in, with_bitmap, with_ranks}
use Rattle.lens.specs.Holding.{Holding}
use Rattle.lens.proofs.Holding.{Sized, sized, begin}
use Rattle.lens.proofs.Ranks.{rank-in-use}
use Rattle.steps.specs.Steps.{counted, Closed}
use Rattle.steps.proofs.Closing.{shrunk, close-shape, close-reads}
use Rattle.wordset_slots.specs.Shift.{ShiftedDown}
use Rattle.wordset_slots.specs.Writes.{Became, Recounted, released, BitMade, RanksBy}
use Rattle.wordset_slots.proofs.Shifting.{set_here}
use Rattle.wordset_slots.proofs.Elsewhere.{other-records, released-only}
use Rattle.wordset_slots.proofs.Writing.{then-ranks, ranks_by, then-bit, bit-made, then-counts}
use Rattle.wordset_slots.proofs.Ending.{ends}

module _ (g : Numbers) (y : Parts) (sz : Sized g y) (sh : Shape g (seen_in y)) where
  -- the areas afterwards
  abbrev closed : ℕ → ℕ → List ℕ → List ℕ → Parts
  closed c i bm rk = with_bitmap bm (with_ranks rk (released c i y))

  pub closes : (c p i at k : ℕ) (bm rk : List ℕ) → c < g.C → (seen_in y).kind c ≡ 1 → (seen_in y).size c ≡ 1
      → p ≡ (seen_in y).prefix c → at ≡ rank_of g (seen_in y) p → k ≡ g.k → i ≡ g.C - g.k → i < g.C → Made y.bitmap p 0 bm → ShiftedDown at k y.ranks rk
      → Closed g (seen_in y) (seen_in (closed c i bm rk)) c
  closes c p i at k bm rk small vector size ep ea ek ei room made down =
      let ra : at ≡ rank_of g (seen_in y) ((seen_in y).prefix c) = ea ∙ ap (rank_of g (seen_in y)) ep in
      record {
        in-range = small;
        was-vector = vector;
        was-one = size;
        bit-here = ap (seen_in (closed c i bm rk)).bit (sym ep) ∙ made.here;
        bit-else = λ q ne. made.other q (λ e. ne (e ∙ ep));
        slot-below = λ r h. down.below r (omega (arith, ra));
        slot-above = λ r a b. down.above r (omega (arith, ra)) (omega (arith, ek));
        free-here = set_here y.stack i (g.C - g.k) c (sym ei) (omega (arith, sz.stack));
        free-else = λ j h. get_or-set_other y.stack i j c 0 (omega (arith, ei));
        kind =
            get_or-set_other (set y.records (record_words * c) 0) (record_words * c + 3) (record_words * c) i 0 (omega arith)
            ∙ get_or-set_same y.records (record_words * c) 0 0 (omega (arith, sz.records));
        link = get_or-set_same (set y.records (record_words * c) 0) (record_words * c + 3) i 0 (omega (arith, sz.records, length-set y.records (record_words * c) 0)) ∙ ei;
        others = other-records g y (closed c i bm rk) c (record { records = (released-only c i y).records; entries = (released-only c i y).entries }) sh.held;
        spare = λ j. refl;
        node = refl;
      }

module _ {l : List ℕ} (wf : WellFormed l) (c p : ℕ) (small : c < (numbers l).C) (vector : (seen (numbers l) l).kind c ≡ 1) (ep : p ≡ (seen (numbers l) l).prefix c) where
  ranked : Ranked (numbers l) (seen (numbers l) l) c
  ranked = wf.shape.placed.ranked c small (λ z. omega (arith, vector))

  pub prefix-small : p < 2 ^ (numbers l).P
  prefix-small = subst (λ (q : ℕ). q < 2 ^ (numbers l).P) (sym ep) ranked.in-range

  -- its rank is in use
  pub rank_below : (at k : ℕ) → at ≡ rank_of (numbers l) (seen (numbers l) l) p → k ≡ (numbers l).k → at < k
  rank_below at k ea ek = omega (arith, ea, ek, rank-in-use wf p prefix-small (ap (seen (numbers l) l).bit ep ∙ ranked.is_set))

  pub some-in-use : 0 < (numbers l).k
  some-in-use = omega (arith, rank_below (rank_of (numbers l) (seen (numbers l) l) p) (numbers l).k refl refl)

  pub place-small : (slots k : ℕ) → slots ≡ (numbers l).C → k ≡ (numbers l).k → slots - k < (numbers l).C
  place-small slots k es ek = omega (arith, es, ek, some-in-use)

  -- the four writes, one after the other
  pub close-run : (slots k n at : ℕ) {m₁ m₂ m₃ m₄ : List ℕ}
      → slots ≡ (numbers l).C → k ≡ (numbers l).k → n ≡ (numbers l).count → at ≡ rank_of (numbers l) (seen (numbers l) l) p
      → (seen (numbers l) l).size c ≡ 1
      → Became (released c (slots - k)) l m₁ → RanksBy (ShiftedDown at k) m₁ m₂ → BitMade p 0 m₂ m₃ → Recounted (k - 1) (n - 1) m₃ m₄
      → ReadsAs l (with (reading l) (dropped ((seen (numbers l) l).prefix c) (reading l).containers) (c ∷ (reading l).free)) m₄
  unfolding seen reading
  close-run slots k n at {m₁} {m₂} {m₃} {m₄} es ek en ea size w₁ w₂ w₃ w₄ =
      let g : Numbers = numbers l in
      let x : Parts = with_bitmap (bitmap g m₃) (with_ranks (ranks g m₂) (released c (slots - k) (parts_of g l))) in
      let h₂ : Holding g (with_ranks (ranks g m₂) (released c (slots - k) (parts_of g l))) l m₂ = then-ranks w₁ w₂ in
      let h₃ : Holding g x l m₃ = then-bit h₂ w₃ in
      let h₄ : Holding (counted g (k - 1) g.used (n - 1)) x l m₄ = then-counts h₃ (k - 1) (n - 1) w₄ in
      let e₁ : k - 1 ≡ g.k - 1 = ap (λ (z : ℕ). z - 1) ek in
      let e₂ : n - 1 ≡ g.count - 1 = ap (λ (z : ℕ). z - 1) en in
      let h : Holding (shrunk g) x l m₄ = subst (λ (z : ℕ). Holding (counted g z g.used (g.count - 1)) x l m₄) e₁ (subst (λ (z : ℕ). Holding (counted g (k - 1) g.used z) x l m₄) e₂ h₄) in
      let ei : slots - k ≡ g.C - g.k = omega (arith, es, ek) in
      let o : Closed g (seen g l) (seen_in x) c =
      closes g (parts_of g l) (sized (begin l wf.ready)) wf.shape c p (slots - k) at k (bitmap g m₃) (ranks g m₂) small vector size ep ea ek ei (place-small slots k es ek)
      (bit-made h₂ w₃) (ranks_by w₁ w₂) in
      ends h (close-shape g (seen g l) (seen_in x) c wf.shape (seen-bits g l) o) (close-reads g (seen g l) (seen_in x) c wf.shape (seen-bits g l) o)
