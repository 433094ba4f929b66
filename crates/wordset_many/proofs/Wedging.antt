-- A table with new slots put between its places: one slot more, and what a turn of each loop keeps. Assumes nothing.
use Prim.Native.Nat.{ℕ, suc, ◌+◌, ◌-◌, ◌<◌, ◌≤◌}
use mathlib.Core.Path.{◌≡◌, refl, sym, ap, ◌∙◌}
use mathlib.Core.Logic.{◌≢◌}
use mathlib.Core.Bool.{Bool, true, false}
use mathlib.Core.List.{List, [], ◌∷◌}
use native.Mathlib.Omega.{arith}
use native.Mathlib.Decide.{ℕ_discrete, dec_lt}
use lib.Dec.{eqb, ltb}
use lib.ListN.{length, get_or, set, drop, length-set}
use lib.Seq.{get_or-take, get_or-drop, get_or-set_other, drop-cons}
use borrow.Author.Tests.{ltb-true, ltb-false, eqb-false, eq-eqb, ne_eqb, lt-ltb, le-ltb}
use borrow.Rule.Slice.PartMut.{mid_of, put_mid}
use Rattle.lists.specs.Lists.{mem, keep, put}
use Rattle.lists.proofs.Laws.{or_left, or_right, or-none, eqb-self}
use Rattle.region.proofs.Areas.{get_or-area}
use Rattle.lens.proofs.Only.{Only, put_only, area-put, word_below, word-above}
use Rattle.wordset_slots.proofs.Shifting.{set_here}
use Rattle.wordset_slots.proofs.Moving.{part-long}
use Rattle.wordset_many.specs.Wedge.{place_in, slot_in, wedged, wedged_all}

-- One slot

-- below its place nothing is changed
pub wedged-low : (a c : ℕ) (g : ℕ → ℕ) (r : ℕ) → r < a → wedged a c g r ≡ g r
wedged-low a c g r h = rw (lt-ltb r a h)

pub wedged-here : (a c : ℕ) (g : ℕ → ℕ) (r : ℕ) → r ≡ a → wedged a c g r ≡ c
wedged-here a c g r e = rw (le-ltb r a (omega arith), eq-eqb r a e)

-- past its place all stand one further
pub wedged-high : (a c : ℕ) (g : ℕ → ℕ) (r : ℕ) → a < r → wedged a c g r ≡ g (r - 1)
wedged-high a c g r h = rw (le-ltb r a (omega arith), ne_eqb r a (omega arith))

-- what is told of a table place by place is told of it with the slot
pub wedged-same : (a c : ℕ) (g h : ℕ → ℕ) → ((q : ℕ) → g q ≡ h q) → (r : ℕ) → wedged a c g r ≡ wedged a c h r
wedged-same a c g h e r = rw (e r, e (r - 1))

-- of two slots the higher may come first, one place lower
pub wedged-swap : (a c b d : ℕ) (g : ℕ → ℕ) (r : ℕ) → a ≤ b → wedged a c (wedged b d g) r ≡ wedged (suc b) d (wedged a c g) r
wedged-swap a c b d g r h = first (dec_lt r a) (ℕ_discrete r a)
  where
    second : a < r → Dec (r < suc b) → Dec (r ≡ suc b) → wedged a c (wedged b d g) r ≡ wedged (suc b) d (wedged a c g) r
    second l (yes m) q = wedged-high a c (wedged b d g) r l ∙ wedged-low b d g (r - 1) (omega arith) ∙ sym (wedged-low (suc b) d (wedged a c g) r m ∙ wedged-high a c g r l)
    second l (no m) (yes q) = wedged-high a c (wedged b d g) r l ∙ wedged-here b d g (r - 1) (omega arith) ∙ sym (wedged-here (suc b) d (wedged a c g) r q)
    second l (no m) (no q) =
        wedged-high a c (wedged b d g) r l ∙ wedged-high b d g (r - 1) (omega arith)
        ∙ sym (wedged-high (suc b) d (wedged a c g) r (omega arith) ∙ wedged-high a c g (r - 1) (omega arith))

    first : Dec (r < a) → Dec (r ≡ a) → wedged a c (wedged b d g) r ≡ wedged (suc b) d (wedged a c g) r
    first (yes l) q = wedged-low a c (wedged b d g) r l ∙ wedged-low b d g r (omega arith) ∙ sym (wedged-low (suc b) d (wedged a c g) r (omega arith) ∙ wedged-low a c g r l)
    first (no l) (yes q) = wedged-here a c (wedged b d g) r q ∙ sym (wedged-low (suc b) d (wedged a c g) r (omega arith) ∙ wedged-here a c g r q)
    first (no l) (no q) = second (omega arith) (dec_lt r (suc b)) (ℕ_discrete r (suc b))

-- One key more

-- how many entries are less than x
abbrev pub less : ℕ → List ℕ → ℕ
less x l = length (keep (λ y. ltb y x) l)

-- each entry is less than the next
abbrev pub Rises : List ℕ → Type 0
Rises l = (j : ℕ) → suc j < length l → get_or l j 0 < get_or l (suc j) 0

pub rises-rest : (x : ℕ) (xs : List ℕ) → Rises (x ∷ xs) → Rises xs
rises-rest x xs a j h = a (suc j) (omega arith)

-- none is less than what is at most the first
pub less_none : (x y : ℕ) (ys : List ℕ) → Rises (y ∷ ys) → x ≤ y → less x (y ∷ ys) ≡ 0
less_none x y [] a h = rw (le-ltb y x h)
less_none x y (z ∷ zs) a h =
    let l : y < z = a 0 (omega arith) in
    let i = less_none x z zs (rises-rest y (z ∷ zs) a) (omega arith) in
    rw (le-ltb y x h) i

-- a key put among others puts its slot into what these make, as many places further as keys are less
pub wedge-put : (f : ℕ → ℕ) (key : ℕ) (keys : List ℕ) → ((j : ℕ) → suc j < length keys → get_or keys j 0 < get_or keys (suc j) 0) → mem key keys ≡ false
    → ((x : ℕ) → mem x keys ≡ true → x < key → place_in x ≤ place_in key) → (r : ℕ)
    → wedged_all (put key keys) f r ≡ wedged (place_in key + less key keys) (slot_in key) (wedged_all keys f) r
wedge-put f key [] a n p r =
    let z : place_in key ≡ place_in key + 0 = omega arith in
    ap (λ (b : ℕ). wedged b (slot_in key) f r) z
wedge-put f key (x ∷ xs) a n p r =
    go (ltb key x) refl (or-none (eqb key x) (mem key xs) n)
    (λ m q. wedge-put f key xs (rises-rest x xs a) m (λ y k. p y (or_right (eqb y x) (mem y xs) k)) q)
  where
    go : (b : Bool) → ltb key x ≡ b → (eqb key x ≡ false) × (mem key xs ≡ false)
        → (mem key xs ≡ false → (q : ℕ) → wedged_all (put key xs) f q ≡ wedged (place_in key + less key xs) (slot_in key) (wedged_all xs f) q)
        → wedged_all (put key (x ∷ xs)) f r ≡ wedged (place_in key + less key (x ∷ xs)) (slot_in key) (wedged_all (x ∷ xs) f) r
    go true e m ih =
        let l : key < x = ltb-true key x e in
        let z : place_in key ≡ place_in key + less key (x ∷ xs) = omega (arith, less_none key x xs a (omega arith)) in
        rw e (ap (λ (b : ℕ). wedged b (slot_in key) (wedged_all (x ∷ xs) f) r) z)
    go false e m ih =
        let k : x ≤ key = ltb-false key x e in
        let u : key ≢ x = eqb-false key x m.0 in
        let l : x < key = omega arith in
        let o = p x (or_left (eqb x x) (mem x xs) (eqb-self x)) l in
        let w : place_in x ≤ place_in key + less key xs = omega arith in
        let z : suc (place_in key + less key xs) ≡ place_in key + suc (less key xs) = omega arith in
        rw (e, m.0, lt-ltb x key l)
        (wedged-same (place_in x) (slot_in x) (wedged_all (put key xs) f) (wedged (place_in key + less key xs) (slot_in key) (wedged_all xs f)) (ih m.1) r
        ∙ wedged-swap (place_in x) (slot_in x) (place_in key + less key xs) (slot_in key) (wedged_all xs f) r w
        ∙ ap (λ (b : ℕ). wedged b (slot_in key) (wedged_all (x ∷ xs) f) r) z)

-- Many slots, from the last on: j keys are left, and what stands below `end` is as it was

module _ (k : ℕ) (keys s : List ℕ) where
  abbrev pub old : ℕ → ℕ
  old r = get_or s r 0

  pub record Wedging (end j : ℕ) (t : List ℕ) : Type 0 where
    pub fits : j ≤ length keys
    pub low : end ≤ k
    pub next : 0 < j → place_in (get_or keys (j - 1) 0) ≤ end
    pub long : length t ≡ length s
    pub left : (r : ℕ) → r < end → get_or t r 0 ≡ old r
    pub under : (r : ℕ) → r < end → wedged_all (drop j keys) old r ≡ old r
    pub done : (r : ℕ) → end ≤ r → r < k + (length keys - j) → get_or t (r + j) 0 ≡ wedged_all (drop j keys) old r

-- the part that a turn lifts, of the n = j places that are opened, stands in the table
module _ (k : ℕ) (keys s : List ℕ) {end j : ℕ} {t : List ℕ} (w : Wedging k keys s end j t) where
  pub turn_low : (at : ℕ) → 0 < j → at ≡ place_in (get_or keys (j - 1) 0) → at ≤ end
  turn_low at p e = omega (arith, w.next p, e)

  pub turn_inside : k + length keys ≤ length s → (n : ℕ) → n ≡ j → end + n ≤ length t
  turn_inside fit n e = omega (arith, w.fits, w.low, w.long, e)

-- places at to end - 1 stand j higher, and what is past the place they reach is as it was
pub record Lifted (at end j : ℕ) (t u : List ℕ) : Type 0 where
  pub long : length u ≡ length t
  pub below : (r : ℕ) → r < at → get_or u r 0 ≡ get_or t r 0
  pub moved : (r : ℕ) → at ≤ r → r < end → get_or u (r + j) 0 ≡ get_or t r 0
  pub above : (r : ℕ) → end + j ≤ r → get_or u r 0 ≡ get_or t r 0

-- a part lifted is given back
module _ (at end j : ℕ) (t new : List ℕ) (a : at ≤ end) (h : end + j ≤ length t)
    (long : length new ≡ length (mid_of at ((end + j) - at) t))
    (moved : (r : ℕ) → r + j < length (mid_of at ((end + j) - at) t) → get_or new (r + j) 0 ≡ get_or (mid_of at ((end + j) - at) t) r 0) where
  abbrev size : ℕ
  size = (end + j) - at

  sized : length (mid_of at size t) ≡ size
  sized = part-long t at (end + j) h

  fits : at + size ≤ length t
  fits = omega arith

  only : Only at size t (put_mid at size t new)
  only = put_only at size t new fits (long ∙ sized)

  -- place i of the part is place at + i of the table
  given : (i : ℕ) → i < size → get_or (put_mid at size t new) (at + i) 0 ≡ get_or new i 0
  given i l = sym (get_or-area at size (put_mid at size t new) i l) ∙ ap (λ (z : List ℕ). get_or z i 0) (area-put at size t new fits (long ∙ sized))

  lent : (i : ℕ) → i < size → get_or (mid_of at size t) i 0 ≡ get_or t (at + i) 0
  lent i l = get_or-take size (drop at t) i 0 l ∙ get_or-drop at t i 0

  pub lifted-part : Lifted at end j t (put_mid at ((end + j) - at) t new)
  lifted-part = record {
    long = only.same_length;
    below = word_below only;
    moved = λ r b l.
        let q : r + j ≡ at + ((r - at) + j) = omega arith in
        let p : at + (r - at) ≡ r = omega arith in
        ap (λ (y : ℕ). get_or (put_mid at size t new) y 0) q ∙ given ((r - at) + j) (omega arith) ∙ moved (r - at) (omega (arith, sized))
        ∙ lent (r - at) (omega arith) ∙ ap (λ (y : ℕ). get_or t y 0) p;
    above = λ r b. word-above only r (omega arith);
  }

module _ (k : ℕ) (keys s : List ℕ) (up : (j : ℕ) → suc j < length keys → place_in (get_or keys j 0) ≤ place_in (get_or keys (suc j) 0)) (fit : k + length keys ≤ length s)
    {end j : ℕ} {t : List ℕ} (w : Wedging k keys s end j t) (p : 0 < j) where
  abbrev key : ℕ
  key = get_or keys (j - 1) 0

  abbrev f : ℕ → ℕ
  f r = get_or s r 0

  abbrev g : ℕ → ℕ
  g = wedged_all (drop j keys) f

  -- the keys not left are one more
  more : (r : ℕ) → wedged_all (drop (j - 1) keys) f r ≡ wedged (place_in key) (slot_in key) g r
  more r =
      let z : suc (j - 1) ≡ j = omega arith in
      ap (λ (l : List ℕ). wedged_all l f r) (drop-cons keys (j - 1) 0 (omega (arith, w.fits)))
      ∙ ap (λ (n : ℕ). wedged (place_in key) (slot_in key) (wedged_all (drop n keys) f) r) z

  module _ (at c : ℕ) (ea : at ≡ place_in key) (ec : c ≡ slot_in key) (u : List ℕ) (m : Lifted at end j t u) where
    abbrev v : List ℕ
    v = set u (at + (j - 1)) c

    more-at : (r : ℕ) → wedged_all (drop (j - 1) keys) f r ≡ wedged at c g r
    more-at r = more r ∙ ap (λ (a : ℕ). wedged a (slot_in key) g r) (sym ea) ∙ ap (λ (d : ℕ). wedged at d g r) (sym ec)

    place-low : at ≤ end
    place-low = omega (arith, ea, w.next p)

    -- what stood at r stands j further, be it moved now or before
    passed : (r : ℕ) → at ≤ r → r < k + (length keys - j) → Dec (r < end) → get_or u (r + j) 0 ≡ g r
    passed r a b (yes h) = m.moved r a h ∙ w.left r h ∙ sym (w.under r h)
    passed r a b (no h) = m.above (r + j) (omega arith) ∙ w.done r (omega arith) b

    pick : (r : ℕ) → at ≤ r → r < k + (length keys - (j - 1)) → Dec (r ≡ at) → get_or v (r + (j - 1)) 0 ≡ wedged at c g r
    pick r a b (yes e) =
        set_here u (at + (j - 1)) (r + (j - 1)) c (omega arith) (omega (arith, m.long, w.long, w.fits, w.low, place-low, fit))
        ∙ sym (wedged-here at c g r e)
    pick r a b (no n) =
        let z : r + (j - 1) ≡ (r - 1) + j = omega arith in
        get_or-set_other u (at + (j - 1)) (r + (j - 1)) c 0 (omega arith) ∙ ap (λ (y : ℕ). get_or u y 0) z
        ∙ passed (r - 1) (omega arith) (omega (arith, w.fits)) (dec_lt (r - 1) end) ∙ sym (wedged-high at c g r (omega arith))

    pub wedge-next : Wedging k keys s at (j - 1) v
    wedge-next = record {
      fits = omega (arith, w.fits);
      low = omega (arith, place-low, w.low);
      next = λ h.
          let z : suc ((j - 1) - 1) ≡ j - 1 = omega arith in
          let o = up ((j - 1) - 1) (omega (arith, w.fits)) in
          let q = ap (λ (y : ℕ). place_in (get_or keys y 0)) z in
          omega (arith, o, q, ea);
      long = length-set u (at + (j - 1)) c ∙ m.long ∙ w.long;
      left = λ r l. get_or-set_other u (at + (j - 1)) r c 0 (omega arith) ∙ m.below r l ∙ w.left r (omega (arith, place-low));
      under = λ r l. more-at r ∙ wedged-low at c g r l ∙ w.under r (omega (arith, place-low));
      done = λ r a b. pick r a b (ℕ_discrete r at) ∙ sym (more-at r);
    }
