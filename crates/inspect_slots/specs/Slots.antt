-- What the tests of the ranks, the free stack and the records decide, over plain lists of words. Assumes nothing.
use Rattle.std.specs.Prelude.{ℕ, ◌+◌, ◌-◌, ◌*◌, ◌^◌, ◌<◌, ◌≤◌, min, ◌≡◌, ◌≢◌, cond, List, [], eqb, get_or}
use Rattle.lists.specs.Sums.{sum}
use Rattle.region.specs.Geometry.{bitmap_words, record_words}
use Rattle.region.specs.Bits.{bit, rank}
use Rattle.region.specs.Areas.{Numbers}
use Rattle.region.specs.Seen.{Seen, seen_of}
use Rattle.region.specs.WellFormed.{FreeSlot, Stacked}

-- the numbers that the containers' conditions look at; the others are 0
abbrev pub slot_numbers : ℕ → ℕ → ℕ → Numbers
slot_numbers P C k = record { P = P; S = 0; C = C; N = 0; k = k; used = 0; count = 0 }

-- the areas that they look at: bitmap, ranks, stack, records; the others are empty
abbrev pub slot_seen : List ℕ → List ℕ → List ℕ → List ℕ → Seen
slot_seen bm rk st rec = seen_of bm rk st rec [] [] []

-- the kind and the length of slot c
abbrev pub kind_in : List ℕ → ℕ → ℕ
kind_in rec c = get_or rec (record_words * c) 0

abbrev pub size_in : List ℕ → ℕ → ℕ
size_in rec c = get_or rec (record_words * c + 2) 0

-- place n is one of the first k of the rank table, and its slot, of C, is in use and bears the prefix p
pub record BorneAt (C k : ℕ) (rk rec : List ℕ) (p n : ℕ) : Type 0 where
  pub in_table : n < k
  pub in-range : get_or rk n 0 < C
  pub in_use : kind_in rec (get_or rk n 0) ≢ 0
  pub prefix : get_or rec (record_words * get_or rk n 0 + 1) 0 ≡ p

-- k prefixes below 2^P are set and no bit past them, each borne by the record at its rank
pub record AllBorne (P C k : ℕ) (bm rk rec : List ℕ) : Type 0 where
  pub past : (p : ℕ) → 2 ^ P ≤ p → p < 64 * bitmap_words P → bit bm p ≡ 0
  pub prefixes : rank bm (2 ^ P) ≡ k
  pub borne : (p : ℕ) → p < 2 ^ P → bit bm p ≡ 1 → BorneAt C k rk rec p (rank bm p)

-- each of C slots is free, a vector or a trie, and k are in use
pub record InUse (C k : ℕ) (rec : List ℕ) : Type 0 where
  pub kinds : (c : ℕ) → c < C → kind_in rec c ≤ 2
  pub count : sum (λ c. min 1 (kind_in rec c)) C ≡ k

-- the free slots are once in the stack, each linked to its place
pub record FreeStack (g : Numbers) (v : Seen) : Type 0 where
  pub free-slots : (i : ℕ) → i < g.C - g.k → FreeSlot g v i
  pub stacked : (c : ℕ) → c < g.C → v.kind c ≡ 0 → Stacked g v c

-- the length of slot c if it is in use, else 0
abbrev pub stored : Seen → ℕ → ℕ
stored v c = cond (eqb (v.kind c) 0) 0 (v.size c)
