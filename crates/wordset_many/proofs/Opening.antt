-- Containers opened for many words, their slots filled and their prefixes marked one after the other, and the rank table opened for all at the end: what a reader would see if the table were opened each time is well formed all along. Assumes nothing.
use Prim.Native.Nat.{ℕ, zero, suc, ◌+◌, ◌-◌, ◌*◌, ◌^◌, ◌<◌, ◌≤◌}
use mathlib.Core.Path.{◌≡◌, refl, sym, ap, ap₂, ◌∙◌, subst}
use mathlib.Core.Logic.{◌≢◌}
use mathlib.Core.List.{List, [], ◌∷◌}
use native.Mathlib.Omega.{arith}
use native.Mathlib.Decide.{dec_lt}
use lib.Dec.{ltb}
use lib.ListN.{length, length-set, get_or, set}
use lib.Seq.{get_or-set_same, get_or-set_other}
use borrow.Author.Tests.{lt-ltb, le-ltb, eq-eqb, ne_eqb}
use Rattle.lists.specs.Lists.{one}
use Rattle.model.specs.Words.{prefix_of, suffix_of}
use Rattle.model.specs.Reading.{Reading}
use Rattle.model.specs.Change.{placed, top, rest, with}
use Rattle.model.proofs.ContainerLaws.{suffix-lt}
use Rattle.region.specs.Geometry.{record_words, strip_words}
use Rattle.region.specs.Bits.{rank_in}
use Rattle.region.specs.Areas.{Numbers, numbers, bitmap, ranks, stack}
use Rattle.region.specs.Seen.{Seen, seen}
use Rattle.region.specs.Read.{read, reading}
use Rattle.region.specs.WellFormed.{Shape, WellFormed}
use Rattle.region.specs.LookedAt.{SameLookedAt}
use Rattle.region.proofs.SeenBits.{seen-bits}
use Rattle.region.proofs.SeenAlike.{shape-alike, read_alike}
use Rattle.promises.specs.Reads.{ReadsAs}
use Rattle.bitvector.specs.Maps.{Made}
use Rattle.lens.specs.Parts.{Parts, parts_of, seen_in, with_bitmap, with_ranks}
use Rattle.lens.specs.Holding.{Holding}
use Rattle.lens.proofs.Holding.{Sized, sized, begin}
use Rattle.steps.specs.Steps.{counted, Opened, OtherRecords}
use Rattle.steps.proofs.Ranks.{OneBit, rank-upto, rank-past}
use Rattle.steps.proofs.Opening.{grown, open-shape, open-reads}
use Rattle.wordset_slots.specs.Writes.{Became, Recounted, filled, BitMade, RanksBy}
use Rattle.wordset_slots.proofs.Elsewhere.{OnlySlot, filled-only}
use Rattle.wordset_slots.proofs.Writing.{then, then-bit, bit-made, then-ranks, ranks_by, then-counts}
use Rattle.wordset_slots.proofs.Ending.{ends}
use Rattle.wordset_many.specs.Wedge.{place_in, slot_in, wedged, wedged_all, Wedged}
use Rattle.wordset_many.specs.Line.{prefix_at, key_at, lined}
use Rattle.wordset_many.specs.Many.{opened, opened_all}
use Rattle.wordset_many.proofs.Keys.{rising}
use Rattle.wordset_many.proofs.Wedging.{less, wedge-put}
use Rattle.wordset_many.proofs.OpeningKeys.{lower, Named, named, ascend-at, Openable, low, slot_small, place_is, slot_is, key-new, lined-long, less-lined, place_mono}

-- A table with one more slot

wedged-below : (a c : ℕ) (f : ℕ → ℕ) (r : ℕ) → r < a → wedged a c f r ≡ f r
wedged-below a c f r h = rw (lt-ltb r a h) refl

wedged-here : (a c : ℕ) (f : ℕ → ℕ) → wedged a c f a ≡ c
wedged-here a c f = rw (le-ltb a a (omega arith), eq-eqb a a refl) refl

wedged-above : (a c : ℕ) (f : ℕ → ℕ) (r : ℕ) → a ≤ r → wedged a c f (suc r) ≡ f r
wedged-above a c f r h = let e : suc r - 1 ≡ r = omega arith in rw (le-ltb (suc r) a (omega arith), ne_eqb (suc r) a (λ z. omega arith)) (ap f e)

-- What would be seen

-- the same with another rank table
abbrev pub relined : (ℕ → ℕ) → Seen → Seen
relined f v =
    record {
      bit = v.bit;
      slot = f;
      free = v.free;
      kind = v.kind;
      prefix = v.prefix;
      size = v.size;
      link = v.link;
      entry = v.entry;
      spare = v.spare;
      node = v.node;
    }

-- of m, with the slots of the first i words in the rank table of l
abbrev pub virtual : List ℕ → List ℕ → ℕ → List ℕ → Seen
virtual l words i m = relined (wedged_all (lined l words i) (seen (numbers l) l).slot) (seen (numbers l) m)

-- i containers and i members more
abbrev pub grown_by : ℕ → Numbers → Numbers
grown_by i g = counted g (g.k + i) g.used (g.count + i)

-- One opening, in a view

module _ (g : Numbers) (y : Parts) (f : ℕ → ℕ) (sh : Shape g (relined f (seen_in y))) (lr : length y.records ≡ record_words * g.C) (le : length y.entries ≡ strip_words * g.C) where
  -- the records and entries of other slots
  others-stay : (c p s : ℕ) (bm : List ℕ) (f' : ℕ → ℕ) → OtherRecords g (relined f (seen_in y)) (relined f' (seen_in (with_bitmap bm (filled c p s y)))) c
  others-stay c p s bm f' =
      let o : OnlySlot c y (filled c p s y) = filled-only c p s y in
      record {
        kind = λ d h n. o.records (record_words * d) (λ a b. omega arith);
        prefix = λ d h n u. o.records (record_words * d + 1) (λ a b. omega arith);
        size = λ d h n u. o.records (record_words * d + 2) (λ a b. omega arith);
        link = λ d h n u. o.records (record_words * d + 3) (λ a b. omega arith);
        entry = λ d i h n e u. o.entries (strip_words * d + i) (λ a b. omega (arith, (sh.held.vector d h e).few));
      }

  view-opens : (c p s : ℕ) (bm : List ℕ) (f' : ℕ → ℕ) → c < g.C → g.k < g.C → (seen_in y).free (g.C - suc g.k) ≡ c → p < 2 ^ g.P → (seen_in y).bit p ≡ 0 → s < 2 ^ g.S
      → Made y.bitmap p 1 bm → ((r : ℕ) → f' r ≡ wedged (rank_in (seen_in y).bit p) c f r)
      → Opened g (relined f (seen_in y)) (relined f' (seen_in (with_bitmap bm (filled c p s y)))) c p s
  view-opens c p s bm f' small some next low clear short made wedge = record {
    some-free = some;
    next = next;
    prefix-small = low;
    was-clear = clear;
    suffix-small = short;
    bit-here = made.here;
    bit-else = λ q ne. made.other q ne;
    slot-below = λ r h. wedge r ∙ wedged-below (rank_in (seen_in y).bit p) c f r h;
    slot-here = wedge (rank_in (seen_in y).bit p) ∙ wedged-here (rank_in (seen_in y).bit p) c f;
    slot-above = λ r a b. wedge (suc r) ∙ wedged-above (rank_in (seen_in y).bit p) c f r a;
    free = λ i h. refl;
    kind =
        get_or-set_other (set (set y.records (record_words * c) 1) (record_words * c + 1) p) (record_words * c + 2) (record_words * c) 1 0 (omega arith)
        ∙ get_or-set_other (set y.records (record_words * c) 1) (record_words * c + 1) (record_words * c) p 0 (omega arith)
        ∙ get_or-set_same y.records (record_words * c) 1 0 (omega (arith, lr));
    prefix =
        get_or-set_other (set (set y.records (record_words * c) 1) (record_words * c + 1) p) (record_words * c + 2) (record_words * c + 1) 1 0 (omega arith)
        ∙ get_or-set_same (set y.records (record_words * c) 1) (record_words * c + 1) p 0 (omega (arith, lr, length-set y.records (record_words * c) 1));
    size =
        get_or-set_same (set (set y.records (record_words * c) 1) (record_words * c + 1) p) (record_words * c + 2) 1 0
        (omega (arith, lr, length-set y.records (record_words * c) 1, length-set (set y.records (record_words * c) 1) (record_words * c + 1) p));
    entry =
        let e : strip_words * c + 0 ≡ strip_words * c = omega arith in
        ap (λ (z : ℕ). get_or (set y.entries (strip_words * c) s) z 0) e ∙ get_or-set_same y.entries (strip_words * c) s 0 (omega (arith, le));
    others = others-stay c p s bm f';
    spare = λ i. refl;
    node = refl;
  }

-- On the way

-- l became m by filling and marking for the first i words
pub record Going (l words : List ℕ) (i : ℕ) (m : List ℕ) : Type 0 where
  pub held : Holding (numbers l) (parts_of (numbers l) m) l m
  pub ranks-stay : ranks (numbers l) m ≡ ranks (numbers l) l
  pub stack-stays : stack (numbers l) m ≡ stack (numbers l) l
  pub shape : Shape (grown_by i (numbers l)) (virtual l words i m)
  pub reads : read (grown_by i (numbers l)) (virtual l words i m) ≡ opened_all words i (reading l)
  pub ranked : (q : ℕ) → rank_in (seen (numbers l) m).bit q ≡ rank_in (seen (numbers l) l).bit q + lower l words i q
  pub others : (q : ℕ) → ((j : ℕ) → j < i → q ≢ prefix_at l words j) → (seen (numbers l) m).bit q ≡ (seen (numbers l) l).bit q

-- what the code needs of a region on the way
module _ {l words : List ℕ} {i : ℕ} {m : List ℕ} (at : Going l words i m) where
  -- the free stack still says the same
  pub going-free : (j : ℕ) → (seen (numbers m) m).free j ≡ (seen (numbers l) l).free j
  unfolding seen
  going-free j = ap (λ (g : Numbers). get_or (stack g m) j 0) at.held.numbers-are ∙ ap (λ (z : List ℕ). get_or z j 0) at.stack-stays

-- at first
pub start : {l : List ℕ} (words : List ℕ) → WellFormed l → Going l words 0 l
unfolding reading
start {l} words wf =
    let g : Numbers = numbers l in
    let e : counted g g.k g.used g.count ≡ grown_by 0 g = λ t. counted g (k0 g.k t) g.used (k0 g.count t) in
    record {
      held = begin l wf.ready;
      ranks-stay = refl;
      stack-stays = refl;
      shape = subst (λ (n : Numbers). Shape n (seen g l)) e wf.shape;
      reads = ap (λ (n : Numbers). read n (seen g l)) (sym e);
      ranked = λ q. k0 (rank_in (seen g l).bit q);
      others = λ q h. refl;
    }
  where
    k0 : (k : ℕ) → k ≡ k + 0
    k0 k = omega arith

-- a reading with a container more, as its numbers say
opened-read : (g : Numbers) (v : Seen) (w : ℕ)
    → with (read g v) (placed (prefix_of g.S w) (top (read g v).free) (suffix_of g.S w ∷ []) (read g v).containers) (rest (read g v).free) ≡ opened w (read g v)
unfolding read
opened-read g v w = refl

-- the header's four numbers stay
all-with : (words : List ℕ) (n : ℕ) (R : Reading) → opened_all words n R ≡ with R (opened_all words n R).containers (opened_all words n R).free
all-with words zero R = refl
all-with words (suc i) R = ap (λ (Q : Reading). with Q (opened_all words (suc i) R).containers (opened_all words (suc i) R).free) (all-with words i R)

module _ {l words : List ℕ} {n : ℕ} (o : Openable l words n) where
  -- the rank that prefix i would have
  pub rank-now : {m : List ℕ} (i : ℕ) → i < n → Going l words i m
      → rank_in (seen (numbers l) m).bit (prefix_at l words i) ≡ place_in (key_at l words i) + less (key_at l words i) (lined l words i)
  rank-now i h at = at.ranked (prefix_at l words i) ∙ ap₂ ◌+◌ (sym (place_is o i h)) (sym (less-lined o i i (omega arith) h))

  -- it is still clear
  pub still-clear : {m : List ℕ} (i : ℕ) → i < n → Going l words i m → (seen (numbers l) m).bit (prefix_at l words i) ≡ 0
  still-clear i h at = at.others (prefix_at l words i) (λ j u e. o.differ j i u h (sym e)) ∙ o.clear i h

  -- its slot is the next in the table
  table-next : (i : ℕ) → i < n → (r : ℕ) → wedged_all (lined l words (suc i)) (seen (numbers l) l).slot r
      ≡ wedged (place_in (key_at l words i) + less (key_at l words i) (lined l words i)) (slot_in (key_at l words i)) (wedged_all (lined l words i) (seen (numbers l) l).slot) r
  table-next i h = wedge-put (seen (numbers l) l).slot (key_at l words i) (lined l words i) (ascend-at (lined l words i) (rising l words i)) (key-new o i h) (λ x m u.
      let y : Named l words i x = named l words i x m in
      let s : y.at < n = omega (arith, y.small) in
      subst (λ (z : ℕ). place_in z ≤ place_in (key_at l words i)) (sym y.is) (place_mono o y.at i s h (subst (λ (z : ℕ). z < key_at l words i) y.is u)))

  module _ (i c : ℕ) {m m₁ m₂ : List ℕ} (h : i < n) (at : Going l words i m) (ec : c ≡ (seen (numbers l) l).free ((numbers l).C - suc ((numbers l).k + i)))
      (w₁ : Became (filled c (prefix_at l words i) (suffix_of (numbers l).S (get_or words i 0))) m m₁) (w₂ : BitMade (prefix_at l words i) 1 m₁ m₂)
      (table : (r : ℕ) → wedged_all (lined l words (suc i)) (seen (numbers l) l).slot r
      ≡ wedged (place_in (key_at l words i) + less (key_at l words i) (lined l words i)) (slot_in (key_at l words i)) (wedged_all (lined l words i) (seen (numbers l) l).slot) r) where
    abbrev g : Numbers
    g = numbers l

    abbrev p : ℕ
    p = prefix_at l words i

    abbrev s : ℕ
    s = suffix_of (numbers l).S (get_or words i 0)

    abbrev x : Parts
    x = with_bitmap (bitmap g m₂) (filled c p s (parts_of g m))

    abbrev f : ℕ → ℕ
    f = wedged_all (lined l words i) (seen g l).slot

    abbrev f' : ℕ → ℕ
    f' = wedged_all (lined l words (suc i)) (seen g l).slot

    h₁ : Holding g (filled c p s (parts_of g m)) l m₁
    h₁ = then at.held (filled c p s) w₁

    h₂ : Holding g x l m₂
    h₂ = then-bit h₁ w₂

    made : Made (bitmap g m) p 1 (bitmap g m₂)
    made = bit-made h₁ w₂

    wedge : (r : ℕ) → f' r ≡ wedged (rank_in (seen g m).bit p) c f r
    wedge r = table r ∙ ap₂ (λ (a d : ℕ). wedged a d f r) (sym (rank-now i h at)) (slot_is o i h ∙ sym ec)

    step-opens : Opened (grown_by i g) (virtual l words i m) (relined f' (seen_in x)) c p s
    unfolding seen
    step-opens =
        let sz : Sized g (parts_of g m) = sized at.held in
        view-opens (grown_by i g) (parts_of g m) f at.shape sz.records sz.entries c p s (bitmap g m₂) f'
        (subst (λ (d : ℕ). d < g.C) (sym ec) (slot_small o i h)) (omega (arith, o.room))
        (ap (λ (z : List ℕ). get_or z (g.C - suc (g.k + i)) 0) at.stack-stays ∙ sym ec)
        (low o i h) (still-clear i h at) (suffix-lt g.S (get_or words i 0)) made wedge

    one_up : (k : ℕ) → suc (k + i) ≡ k + suc i
    one_up k = omega arith

    grown-is : grown (grown_by i g) ≡ grown_by (suc i) g
    grown-is = λ t. counted g (one_up g.k t) g.used (one_up g.count t)

    seen-is : relined f' (seen_in x) ≡ virtual l words (suc i) m₂
    unfolding seen
    seen-is = ap (λ (z : Parts). relined f' (seen_in z)) (sym h₂.parts_are)

    step-shape : Shape (grown_by (suc i) g) (virtual l words (suc i) m₂)
    step-shape = subst (λ (k : Numbers). Shape k (virtual l words (suc i) m₂)) grown-is
        (subst (Shape (grown (grown_by i g))) seen-is (open-shape (grown_by i g) (virtual l words i m) (relined f' (seen_in x)) c p s at.shape (seen-bits g m) step-opens))

    step-reads : read (grown_by (suc i) g) (virtual l words (suc i) m₂) ≡ opened_all words (suc i) (reading l)
    step-reads =
        ap₂ read (sym grown-is) (sym seen-is)
        ∙ open-reads (grown_by i g) (virtual l words i m) (relined f' (seen_in x)) c p s at.shape (seen-bits g m) step-opens
        ∙ opened-read (grown_by i g) (virtual l words i m) (get_or words i 0)
        ∙ ap (opened (get_or words i 0)) at.reads

    one_bit : OneBit (seen g m).bit (seen g m₂).bit p
    unfolding seen
    one_bit = record { clear = still-clear i h at; is_set = made.here; else = λ q ne. made.other q ne }

    step-ranked : (q : ℕ) → rank_in (seen g m₂).bit q ≡ rank_in (seen g l).bit q + lower l words (suc i) q
    step-ranked q = pick (dec_lt p q)
      where
        more : (a b d e : ℕ) → a ≡ suc b → b ≡ d + e → a ≡ d + (1 + e)
        more a b d e u v = omega arith

        same : (a b d e : ℕ) → a ≡ b → b ≡ d + e → a ≡ d + (0 + e)
        same a b d e u v = omega arith

        upto : (a b : ℕ) → (a < b → ⊥) → b ≤ a
        upto a b z = omega arith

        pick : Dec (p < q) → rank_in (seen g m₂).bit q ≡ rank_in (seen g l).bit q + (one (ltb p q) + lower l words i q)
        pick (yes y) = rw (lt-ltb p q y) (more (rank_in (seen g m₂).bit q) (rank_in (seen g m).bit q) (rank_in (seen g l).bit q) (lower l words i q)
            (rank-past (seen g m).bit (seen g m₂).bit p one_bit q y) (at.ranked q))
        pick (no z) = rw (le-ltb p q (upto p q z)) (same (rank_in (seen g m₂).bit q) (rank_in (seen g m).bit q) (rank_in (seen g l).bit q) (lower l words i q)
            (rank-upto (seen g m).bit (seen g m₂).bit p one_bit q (upto p q z)) (at.ranked q))

    step_by : Going l words (suc i) m₂
    unfolding seen
    step_by = record {
      held = record { ready = h₂.ready; numbers-are = h₂.numbers-are; parts_are = refl; same_length = h₂.same_length; same_rest = h₂.same_rest };
      ranks-stay = ap (λ (z : Parts). z.ranks) h₂.parts_are ∙ at.ranks-stay;
      stack-stays = ap (λ (z : Parts). z.stack) h₂.parts_are ∙ at.stack-stays;
      shape = step-shape;
      reads = step-reads;
      ranked = step-ranked;
      others = λ q ne. made.other q (ne i (omega arith)) ∙ at.others q (λ j u. ne j (omega arith));
    }

  -- one word more
  pub step : (i c : ℕ) {m m₁ m₂ : List ℕ} → i < n → Going l words i m → c ≡ (seen (numbers l) l).free ((numbers l).C - suc ((numbers l).k + i))
      → Became (filled c (prefix_at l words i) (suffix_of (numbers l).S (get_or words i 0))) m m₁ → BitMade (prefix_at l words i) 1 m₁ m₂ → Going l words (suc i) m₂
  step i c h at ec w₁ w₂ = step_by i c h at ec w₁ w₂ (table-next i h)

  -- the rank table and the counts at the end
  pub finish : {m m₁ m₂ keys : List ℕ} → Going l words n m → RanksBy (Wedged (numbers l).k keys) m m₁ → Recounted ((numbers l).k + n) ((numbers l).count + n) m₁ m₂
      → keys ≡ lined l words n → ReadsAs l (opened_all words n (reading l)) m₂
  unfolding seen
  finish {m} {m₁} {m₂} {keys} at w₁ w₂ ek =
      let g : Numbers = numbers l in
      let x : Parts = with_ranks (ranks g m₁) (parts_of g m) in
      let h₁ : Holding g x l m₁ = then-ranks at.held w₁ in
      let h₂ : Holding (grown_by n g) x l m₂ = then-counts h₁ (g.k + n) (g.count + n) w₂ in
      let by : Wedged g.k keys (ranks g m) (ranks g m₁) = ranks_by at.held w₁ in
      let long : length keys ≡ n = ap length ek ∙ lined-long o n (omega arith) in
      let v : Seen = virtual l words n m in
      let same : SameLookedAt (grown_by n g) v (seen_in x) = record {
        bit = λ q. refl;
        slot = λ r u. by.at r (omega (arith, long)) ∙ ap₂ (λ (ks rs : List ℕ). wedged_all ks (λ q. get_or rs q 0) r) ek at.ranks-stay;
        free = λ j u. refl;
        kind = λ d u. refl;
        prefix = λ d u z. refl;
        size = λ d u z. refl;
        link = λ d u z. refl;
        entry = λ d j u z y. refl;
        spare = λ j u. refl;
        nodes = record { level1 = λ d u. refl; parent = λ d u. refl; byte = λ a d u z. refl; bit = λ d q u z y. refl; child = λ a d q u z y b e. refl };
      } in
      let e : opened_all words n (reading l) ≡ with (reading l) (opened_all words n (reading l)).containers (opened_all words n (reading l)).free = all-with words n (reading l) in
      subst (λ (R : Reading). ReadsAs l R m₂) (sym e)
      (ends h₂ (shape-alike (grown_by n g) v (seen_in x) same at.shape (seen-bits g m)) (read_alike (grown_by n g) v (seen_in x) same at.shape (seen-bits g m) ∙ at.reads ∙ e))
