-- A write follows a holding and makes it the next; what each write's own stores and lent parts come to. Assumes nothing.
use Prim.Native.Nat.{ℕ, ◌+◌, ◌-◌, ◌*◌, ◌<◌}
use mathlib.Core.Path.{◌≡◌, sym, ap, ◌∙◌, subst}
use mathlib.Core.List.{List}
use native.Mathlib.Omega.{arith}
use lib.ListN.{length, get_or, set, drop}
use borrow.Rule.Slice.PartMut.{mid_of, put_mid}
use Rattle.region.specs.Geometry.{record_words, strip_words, total}
use Rattle.region.specs.Areas.{Numbers, numbers, bitmap, ranks}
use Rattle.region.specs.WellFormed.{Ready}
use Rattle.bitvector.specs.Maps.{Made}
use Rattle.lens.specs.Parts.{Parts, parts_of, with_bitmap, with_ranks}
use Rattle.lens.specs.Holding.{Holding}
use Rattle.lens.proofs.Holding.{begin, sized, hold-stack, hold-records, hold-entries, give-bitmap, give-ranks, lent-bitmap, lent-ranks, hold-k, hold-count}
use Rattle.steps.specs.Steps.{counted}
use Rattle.wordset_slots.specs.Writes.{Became, Recounted, filled, released, BitMade, RanksBy}

-- A write after others

module _ {g : Numbers} {x : Parts} {l₀ l : List ℕ} (h : Holding g x l₀ l) where
  rest-after : (m : List ℕ) (n : Numbers) → n ≡ g → drop (total n.P n.C n.N) m ≡ drop (total n.P n.C n.N) l → drop (total g.P g.C g.N) m ≡ drop (total g.P g.C g.N) l₀
  rest-after m n e r = subst (λ (n : Numbers). drop (total n.P n.C n.N) m ≡ drop (total n.P n.C n.N) l) e r ∙ h.same_rest

  pub then : {m : List ℕ} (f : Parts → Parts) → Became f l m → Holding g (f x) l₀ m
  then {m} f s = record {
    ready = s.ready;
    numbers-are = s.numbers-are ∙ h.numbers-are;
    parts_are = subst (λ (n : Numbers). parts_of n m ≡ f (parts_of n l)) h.numbers-are s.parts_are ∙ ap f h.parts_are;
    same_length = s.same_length ∙ h.same_length;
    same_rest = rest-after m (numbers l) h.numbers-are s.same_rest;
  }

  pub then-counts : {m : List ℕ} (k count : ℕ) → Recounted k count l m → Holding (counted g k g.used count) x l₀ m
  then-counts {m} k count s = record {
    ready = s.ready;
    numbers-are = s.numbers-are ∙ ap (λ (n : Numbers). counted n k n.used count) h.numbers-are;
    parts_are = subst (λ (n : Numbers). parts_of n m ≡ parts_of n l) h.numbers-are s.parts_are ∙ h.parts_are;
    same_length = s.same_length ∙ h.same_length;
    same_rest = rest-after m (numbers l) h.numbers-are s.same_rest;
  }

  module _ {m : List ℕ} {p b : ℕ} (s : BitMade p b l m) where
    pub then-bit : Holding g (with_bitmap (bitmap g m) x) l₀ m
    then-bit = subst (λ (n : Numbers). Holding g (with_bitmap (bitmap n m) x) l₀ m) h.numbers-are (then (with_bitmap (bitmap (numbers l) m)) s.held)

    pub bit-made : Made x.bitmap p b (bitmap g m)
    bit-made = subst (λ (z : Parts). Made z.bitmap p b (bitmap g m)) h.parts_are (subst (λ (n : Numbers). Made (bitmap n l) p b (bitmap n m)) h.numbers-are s.made)

  module _ {m : List ℕ} {R : List ℕ → List ℕ → Type 0} (s : RanksBy R l m) where
    pub then-ranks : Holding g (with_ranks (ranks g m) x) l₀ m
    then-ranks = subst (λ (n : Numbers). Holding g (with_ranks (ranks n m) x) l₀ m) h.numbers-are (then (with_ranks (ranks (numbers l) m)) s.held)

    pub ranks_by : R x.ranks (ranks g m)
    ranks_by = subst (λ (z : Parts). R z.ranks (ranks g m)) h.parts_are (subst (λ (n : Numbers). R (ranks n l) (ranks n m)) h.numbers-are s.by)

-- The writes

module _ (l : List ℕ) (r : Ready l) where
  pub fill-stores : (c p s : ℕ) → c < (numbers l).C
      → Became (filled c p s) l (set (set (set (set l (get_or l 11 0 + record_words * c) 1) (get_or l 11 0 + (record_words * c + 1)) p) (get_or l 11 0 + (record_words * c + 2)) 1) (get_or l 12 0 + strip_words * c) s)
  fill-stores c p s h =
      let a = hold-records (begin l r) (get_or l 11 0) (record_words * c) 1 r.header.records (omega arith) in
      let b = hold-records a (get_or l 11 0) (record_words * c + 1) p r.header.records (omega arith) in
      let d = hold-records b (get_or l 11 0) (record_words * c + 2) 1 r.header.records (omega arith) in
      hold-entries d (get_or l 12 0) (strip_words * c) s r.header.entries (omega arith)

  pub release-stores : (c i : ℕ) → c < (numbers l).C → i < (numbers l).C
      → Became (released c i) l (set (set (set l (get_or l 11 0 + record_words * c) 0) (get_or l 11 0 + (record_words * c + 3)) i) (get_or l 10 0 + i) c)
  release-stores c i h k =
      let a = hold-records (begin l r) (get_or l 11 0) (record_words * c) 0 r.header.records (omega arith) in
      let b = hold-records a (get_or l 11 0) (record_words * c + 3) i r.header.records (omega arith) in
      hold-stack b (get_or l 10 0) i c r.header.stack k

  pub counts-stores : (k count : ℕ) → Recounted k count l (set (set l 5 k) 7 count)
  counts-stores k count = hold-count (hold-k (begin l r) k) count

  -- the bitmap lent and given back
  pub bitmap-lent : mid_of (get_or l 8 0) (get_or l 9 0 - get_or l 8 0) l ≡ bitmap (numbers l) l
  bitmap-lent = lent-bitmap (begin l r) (get_or l 8 0) (get_or l 9 0) r.header.bitmap r.header.ranks

  pub bit-stores : (p b : ℕ) (new : List ℕ) → Made (mid_of (get_or l 8 0) (get_or l 9 0 - get_or l 8 0) l) p b new → BitMade p b l (put_mid (get_or l 8 0) (get_or l 9 0 - get_or l 8 0) l new)
  bit-stores p b new made =
      let m : List ℕ = put_mid (get_or l 8 0) (get_or l 9 0 - get_or l 8 0) l new in
      let y : Made (bitmap (numbers l) l) p b new = subst (λ (z : List ℕ). Made z p b new) bitmap-lent made in
      let h = give-bitmap (begin l r) (get_or l 8 0) (get_or l 9 0) new r.header.bitmap r.header.ranks (y.long ∙ (sized (begin l r)).bitmap) in
      let e : new ≡ bitmap (numbers l) m = sym (ap (λ (z : Parts). z.bitmap) h.parts_are) in
      record {
        held = subst (λ (z : List ℕ). Became (with_bitmap z) l m) e h;
        made = subst (λ (z : List ℕ). Made (bitmap (numbers l) l) p b z) e y;
      }

  -- the rank table lent and given back
  pub ranks-lent : mid_of (get_or l 9 0) (get_or l 10 0 - get_or l 9 0) l ≡ ranks (numbers l) l
  ranks-lent = lent-ranks (begin l r) (get_or l 9 0) (get_or l 10 0) r.header.ranks r.header.stack

  pub ranks-long : length (mid_of (get_or l 9 0) (get_or l 10 0 - get_or l 9 0) l) ≡ (numbers l).C
  ranks-long = ap length ranks-lent ∙ (sized (begin l r)).ranks

  pub ranks-stores : (R : List ℕ → List ℕ → Type 0) (new : List ℕ) → R (mid_of (get_or l 9 0) (get_or l 10 0 - get_or l 9 0) l) new → length new ≡ length (mid_of (get_or l 9 0) (get_or l 10 0 - get_or l 9 0) l)
      → RanksBy R l (put_mid (get_or l 9 0) (get_or l 10 0 - get_or l 9 0) l new)
  ranks-stores R new by long =
      let m : List ℕ = put_mid (get_or l 9 0) (get_or l 10 0 - get_or l 9 0) l new in
      let h = give-ranks (begin l r) (get_or l 9 0) (get_or l 10 0) new r.header.ranks r.header.stack (long ∙ ranks-long) in
      let e : new ≡ ranks (numbers l) m = sym (ap (λ (z : Parts). z.ranks) h.parts_are) in
      record {
        held = subst (λ (z : List ℕ). Became (with_ranks z) l m) e h;
        by = subst (λ (z : List ℕ). R (ranks (numbers l) l) z) e (subst (λ (z : List ℕ). R z new) ranks-lent by);
      }
