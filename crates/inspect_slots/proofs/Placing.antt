-- `Placed` as the code finds it: from set bit to set bit, then record by record; that every record in use is ranked follows by counting. Assumes nothing.
use Prim.Native.Nat.{ℕ, zero, suc, ◌+◌, ◌*◌, ◌^◌, ◌<◌, ◌≤◌, min}
use mathlib.Core.Path.{◌≡◌, refl, sym, ap, ◌∙◌, subst}
use mathlib.Core.Logic.{◌≢◌}
use mathlib.Core.Bool.{not}
use mathlib.Core.List.{List, []}
use mir.Val.{bool_byte}
use lib.Dec.{eqb}
use native.Mathlib.Omega.{arith}
use native.Mathlib.Decide.{dec_lt}
use native.Mathlib.Numerals.{add-one}
use lib.ListN.{length, get_or}
use lib.Pow.{pow_mono}
use borrow.Author.Tests.{ne_eqb}
use borrow.Author.Count.{below_more}
use Rattle.lists.specs.Sums.{sum}
use Rattle.region.specs.Geometry.{bitmap_words}
use Rattle.region.specs.Bits.{word_bit, bit, rank}
use Rattle.region.specs.Areas.{Numbers}
use Rattle.region.specs.Seen.{Seen}
use Rattle.region.specs.WellFormed.{rank_of, Bears, Ranked, Placed}
use Rattle.region.proofs.Containers.{rank-small, slots-in-use, k-fits}
use Rattle.bitvector.specs.Maps.{Lowest, Least}
use Rattle.bitvector.proofs.RankLaws.{bit-small, rank-zero, rank-clear, rank-next}
use Rattle.inspect_slots.specs.Slots.{slot_numbers, slot_seen, kind_in, BorneAt, AllBorne, InUse}
use Rattle.inspect_slots.proofs.Scanning.{Scan, scan-start, scan-word, scan-end, scan-found, scan-taken}
use Rattle.lists.proofs.Matching.{Lands, Met, all-met, sum_step}

-- 2^P/64 words, at least 1
pub bitmap-small : (P : ℕ) → P ≤ 24 → bitmap_words P ≤ 262144
unfolding bitmap_words
bitmap-small P h = let m : 2 ^ P ≤ 2 ^ 24 = pow_mono h in omega arith

pub bitmap-some : (P : ℕ) → 0 < bitmap_words P
unfolding bitmap_words
bitmap-some P = omega arith

-- Word j is looked at, and `left` is left of it: n set bits before `from` are passed, each borne

pub record Looking (P C k : ℕ) (bm rk rec : List ℕ) (j left n : ℕ) : Type 0 where
  pub from : ℕ
  pub inside : from ≤ 2 ^ P
  pub scan : Scan bm from j left
  pub count : n ≡ rank bm from
  pub few : n ≤ k
  pub borne : (q : ℕ) → q < from → bit bm q ≡ 1 → BorneAt C k rk rec q (rank bm q)

pub look-start : (P C k : ℕ) (bm rk rec : List ℕ) → length bm ≡ bitmap_words P → Looking P C k bm rk rec 0 (get_or bm 0 0) 0
look-start P C k bm rk rec e = record {
  from = 0;
  inside = omega arith;
  scan = scan-start bm (omega (arith, bitmap-some P));
  count = sym (rank-zero bm);
  few = omega arith;
  borne = λ q l. absurd (omega arith);
}

module _ {P C k : ℕ} {bm rk rec : List ℕ} {j left n : ℕ} (L : Looking P C k bm rk rec j left n) where
  -- nothing is left of the word: on to the next, or the count decides
  module _ (e : left ≡ 0) where
    pub look-word : j + 1 < length bm → Looking P C k bm rk rec (j + 1) (get_or bm (j + 1) 0) n
    look-word h = record { from = L.from; inside = L.inside; scan = scan-word L.scan e h; count = L.count; few = L.few; borne = L.borne }

    module _ (last : length bm ≤ j + 1) where
      clear : (q : ℕ) → L.from ≤ q → bit bm q ≡ 0
      clear = scan-end L.scan e last

      whole : rank bm (2 ^ P) ≡ n
      whole = rank-clear bm L.from (2 ^ P) L.inside (λ q l u. clear q l) ∙ sym L.count

      passed : (p : ℕ) → Dec (p < L.from) → bit bm p ≡ 1 → BorneAt C k rk rec p (rank bm p)
      passed p (yes l) b = L.borne p l b
      passed p (no l) b = absurd (omega (arith, clear p (omega arith)))

      pub look-yes : n ≡ k → AllBorne P C k bm rk rec
      look-yes q = record { past = λ p l u. clear p (omega (arith, L.inside)); prefixes = whole ∙ q; borne = λ p l. passed p (dec_lt p L.from) }

      pub look-no : (n ≡ k → ⊥) → AllBorne P C k bm rk rec → ⊥
      look-no h a = h (sym whole ∙ a.prefixes)

  -- something is left: its lowest bit is the next prefix, and its rank is n
  module _ (b : ℕ) (low : Lowest left b) where
    abbrev i : ℕ
    i = j * 64 + b

    next : Least bm L.from i
    next = scan-found L.scan b low

    rank-here : rank bm i ≡ n
    rank-here = rank-clear bm L.from i next.past next.none ∙ sym L.count

    pub look-past : length bm ≡ bitmap_words P → 2 ^ P ≤ i → AllBorne P C k bm rk rec → ⊥
    look-past long h a = omega (arith, a.past i h (omega (arith, next.inside)), next.is_set)

    pub look-not : i < 2 ^ P → (BorneAt C k rk rec i n → ⊥) → AllBorne P C k bm rk rec → ⊥
    look-not h no_one a = no_one (subst (BorneAt C k rk rec i) rank-here (a.borne i h next.is_set))

    pub look-taken : (rest : ℕ) → i < 2 ^ P → BorneAt C k rk rec i n → word_bit rest b ≡ 0 → ((a : ℕ) → a ≢ b → word_bit rest a ≡ word_bit left a) → Looking P C k bm rk rec j rest (n + 1)
    look-taken rest h one here other = record {
      from = i + 1;
      inside = omega arith;
      scan = scan-taken L.scan b low rest here other;
      count = omega (arith, rank-next bm L.from i next.past next.is_set next.none, L.count);
      few = omega (arith, one.in_table);
      borne = below_more _ _ (λ q l. passed q l (dec_lt q L.from)) (λ e. subst (BorneAt C k rk rec i) (sym rank-here) one);
    }
      where
        passed : (q : ℕ) → q < i → Dec (q < L.from) → bit bm q ≡ 1 → BorneAt C k rk rec q (rank bm q)
        passed q l (yes h) e = L.borne q h e
        passed q l (no h) e = absurd (omega (arith, next.none q (omega arith) l))

-- a kind that is not 0 counts one
pub one-if-used : (kind : ℕ) → bool_byte (not (eqb kind 0)) ≡ min 1 kind
one-if-used zero = refl
one-if-used (suc kind) = rw (ne_eqb (suc kind) 0 (λ z. omega arith)) (omega arith)

-- The slots below c are passed: n of them in use

pub record Used (rec : List ℕ) (c n : ℕ) : Type 0 where
  pub few : n ≤ c
  pub count : n ≡ sum (λ d. min 1 (kind_in rec d)) c
  pub kinds : (d : ℕ) → d < c → kind_in rec d ≤ 2

module _ (rec : List ℕ) where
  pub used_start : Used rec 0 0
  unfolding sum
  used_start = record { few = omega arith; count = refl; kinds = λ d l. absurd (omega arith) }

  module _ {c n : ℕ} (u : Used rec c n) where
    pub used-next : (x : ℕ) → kind_in rec c ≤ 2 → x ≡ min 1 (kind_in rec c) → Used rec (c + 1) (n + x)
    used-next x h e = record {
      few = omega (arith, u.few);
      count = omega (arith, u.count, ap (sum (λ d. min 1 (kind_in rec d))) (add-one c), sum_step (λ d. min 1 (kind_in rec d)) c);
      kinds = below_more _ _ u.kinds h;
    }

    module _ (C k : ℕ) (e : c ≡ C) where
      all : n ≡ sum (λ d. min 1 (kind_in rec d)) C
      all = u.count ∙ ap (sum (λ d. min 1 (kind_in rec d))) e

      pub used-yes : n ≡ k → InUse C k rec
      used-yes q = record { kinds = λ d l. u.kinds d (omega arith); count = sym all ∙ q }

      pub used-no : (n ≡ k → ⊥) → InUse C k rec → ⊥
      used-no h i = h (all ∙ i.count)

-- The parts together, and each from the whole

module _ (P C k : ℕ) (bm rk rec : List ℕ) where
  abbrev g : Numbers
  g = slot_numbers P C k

  abbrev v : Seen
  v = slot_seen bm rk [] rec

  bears : {p : ℕ} → BorneAt C k rk rec p (rank bm p) → Bears g v p (v.slot (rank_of g v p))
  unfolding rank
  bears b = record { in-range = b.in-range; in_use = b.in_use; prefix = b.prefix }

  -- each set prefix goes to the slot at its rank, from which its record leads back
  lands : AllBorne P C k bm rk rec → (p : ℕ) → p < 2 ^ P → v.bit p ≡ 1 → Lands (λ c. min 1 (v.kind c)) (λ q. v.slot (rank_of g v q)) v.prefix C p
  lands a p h e =
      let b : Bears g v p (v.slot (rank_of g v p)) = bears (a.borne p h e) in
      let u : v.kind (v.slot (rank_of g v p)) ≢ 0 = b.in_use in
      record { small = b.in-range; marked = omega arith; home = b.prefix }

  ranked : AllBorne P C k bm rk rec → InUse C k rec → (c : ℕ) → c < C → v.kind c ≢ 0 → Ranked g v c
  unfolding rank
  ranked a i c h ne =
      let m : Met v.bit (λ q. v.slot (rank_of g v q)) v.prefix (2 ^ P) c =
      all-met v.bit (λ c. min 1 (v.kind c)) (λ q. v.slot (rank_of g v q)) v.prefix (2 ^ P) C (bit-small bm) (lands a) (a.prefixes ∙ sym i.count) c h (omega arith) in
      record { in-range = m.small; is_set = m.marked; there = m.there }

  pub placed_of : AllBorne P C k bm rk rec → InUse C k rec → Placed g v
  unfolding rank
  placed_of a i = record {
    past = a.past;
    prefixes = a.prefixes;
    borne = λ p h e. bears (a.borne p h e);
    ranked = ranked a i;
    kinds = i.kinds;
  }

  pub borne-of : Placed g v → AllBorne P C k bm rk rec
  unfolding rank
  borne-of pl = record {
    past = pl.past;
    prefixes = pl.prefixes;
    borne = λ p h e.
        let b : Bears g v p (v.slot (rank_of g v p)) = pl.borne p h e in
        record { in_table = rank-small g v pl p h e; in-range = b.in-range; in_use = b.in_use; prefix = b.prefix };
  }

  pub used-of : Placed g v → InUse C k rec
  used-of pl = record { kinds = pl.kinds; count = slots-in-use g v pl (bit-small bm) }

  pub too_many : C < k → Placed g v → ⊥
  too_many h pl = omega (arith, k-fits g v pl (bit-small bm))
