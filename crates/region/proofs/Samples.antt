-- Small cases of the definitions, computed: a region that is well formed, one that is not by its kind alone, and a trie that is none by its size. Assumes nothing.
use Prim.Native.Nat.{ℕ, zero, suc, ◌^◌, ◌<◌, ◌≤◌}
use mathlib.Core.Path.{◌≡◌, refl, sym, ap, ◌∙◌, subst}
use mathlib.Core.List.{List, [], ◌∷◌, ◌++◌}
use native.Mathlib.Omega.{arith}
use native.Mathlib.Decide.{dec_lt}
use lib.ListN.{length}
use Rattle.lists.specs.Lists.{each}
use Rattle.lists.specs.Sums.{sum}
use Rattle.lists.proofs.Sums.{sum_less, sum_mono}
use Rattle.model.specs.Reading.{walk}
use Rattle.region.specs.Geometry.{bitmap_words}
use Rattle.region.specs.Bits.{bit}
use Rattle.region.specs.Areas.{Numbers, numbers, area}
use Rattle.region.specs.Fresh.{zeros}
use Rattle.region.specs.Nodes.{nodes_of}
use Rattle.region.specs.Tries.{listed, members}
use Rattle.region.specs.Seen.{Seen, seen}
use Rattle.region.specs.Read.{suffixes, read, reading}
use Rattle.region.specs.WellFormed.{rank_of, Bears, Ranked, Placed, Vector, Trie, Stacked, WellFormed}

-- a node with the bytes 3 and 70, at the last level
one-node : members (nodes_of (8 ∷ 64 ∷ 0 ∷ 0 ∷ 1 ∷ [])) 1 0 ≡ 3 ∷ 70 ∷ []
unfolding members listed each
one-node = refl

-- no trie has 1,024 suffixes
trie-of-1024 : (g : Numbers) (v : Seen) (c : ℕ) → v.size c ≡ 1024 → Trie g v c → ⊥
trie-of-1024 g v c e t = omega (arith, t.many)

-- P = 6, S = 8, C = 1, N = 0: prefix 5 with the suffixes 7, 4 in a record of some kind; behind them a stale entry 9, and stale words in the free stack (77) and in the link (99)
abbrev tiny : ℕ → List ℕ
tiny kind = (1 ∷ 6 ∷ 8 ∷ 1 ∷ 0 ∷ 1 ∷ 0 ∷ 2 ∷ 16 ∷ 17 ∷ 18 ∷ 19 ∷ 23 ∷ 1047 ∷ 1047 ∷ 1047 ∷ []) ++ (32 ∷ 0 ∷ 77 ∷ kind ∷ 5 ∷ 2 ∷ 99 ∷ 7 ∷ 4 ∷ 9 ∷ []) ++ zeros 1021

tiny-reads : reading (tiny 1) ≡ record { P = 6; S = 8; C = 1; N = 0; containers = record { prefix = 5; slot = 0; suffixes = 7 ∷ 4 ∷ [] } ∷ []; free = [] }
unfolding reading read each seen suffixes area bitmap_words
tiny-reads = refl

tiny-walk : walk (reading (tiny 1)) ≡ 1287 ∷ 1284 ∷ []
unfolding walk reading read each seen suffixes area bitmap_words
tiny-walk = refl

-- It is well formed

abbrev g : Numbers
g = numbers (tiny 1)

abbrev v : Seen
v = seen g (tiny 1)

-- prefix 5 is set, and no other
ranks : (sum v.bit 5 ≡ 0) × (sum v.bit 6 ≡ 1) × (sum v.bit 64 ≡ 1)
unfolding sum seen area bitmap_words bit
ranks = (refl, refl, refl)

only-five : (p : ℕ) → p < 64 → v.bit p ≡ 1 → p ≡ 5
only-five p h e = low (dec_lt p 5)
  where
    high : Dec (5 < p) → (p < 5 → ⊥) → p ≡ 5
    high (yes l) n =
        let a : sum v.bit 6 ≤ sum v.bit p = sum_mono v.bit 6 p l in
        let b : sum v.bit p < sum v.bit 64 = sum_less v.bit p 64 h e in
        absurd (omega (arith, ranks.1, ranks.2))
    high (no n') n = omega arith

    low : Dec (p < 5) → p ≡ 5
    low (yes l) = let b : sum v.bit p < sum v.bit 5 = sum_less v.bit p 5 l e in absurd (omega (arith, ranks.0))
    low (no n) = high (dec_lt 5 p) n

-- the one slot, and its two entries
only-slot : (G : ℕ → Type 0) → G 0 → (c : ℕ) → c < 1 → G c
only-slot G x zero h = x
only-slot G x (suc c) h = absurd (omega arith)

only_two : (G : ℕ → Type 0) → G 0 → G 1 → (i : ℕ) → i < 2 → G i
only_two G x y zero h = x
only_two G x y (suc zero) h = y
only_two G x y (suc (suc i)) h = absurd (omega arith)

bears-five : Bears g v 5 (v.slot (rank_of g v 5))
unfolding sum seen area bitmap_words bit
bears-five = record { in-range = omega arith; in_use = λ e. omega arith; prefix = refl }

ranked-0 : Ranked g v 0
unfolding sum seen area bitmap_words bit
ranked-0 = record { in-range = omega arith; is_set = refl; there = refl }

placed : Placed g v
unfolding seen area bitmap_words
placed = record {
  past = λ p h l. absurd (omega arith);
  prefixes = ranks.2;
  borne = λ p h e. subst (λ (x : ℕ). Bears g v x (v.slot (rank_of g v x))) (sym (only-five p h e)) bears-five;
  ranked = λ c h ne. only-slot (Ranked g v) ranked-0 c h;
  kinds = only-slot (λ c. v.kind c ≤ 2) (omega arith);
}

vector-0 : Vector g v 0
unfolding seen area bitmap_words
vector-0 = record {
  some = omega arith;
  few = omega arith;
  distinct = λ i j l h e.
      let a : i ≡ 0 = omega arith in
      let b : j ≡ 1 = omega arith in
      let z : ◌≡◌ {A = ℕ} 7 4 = sym (ap (v.entry 0) a) ∙ e ∙ ap (v.entry 0) b in omega arith;
  small = only_two (λ i. v.entry 0 i < 2 ^ 8) (omega arith) (omega arith);
}

tiny-well-formed : WellFormed (tiny 1)
unfolding walk read suffixes each sum seen area bitmap_words
tiny-well-formed =
    let e : length (tiny 1) ≡ 1047 = refl in
    record {
      ready = record {
        has-header = omega arith;
        long = omega arith;
        header = record {
          form-is = refl;
          ranges = refl;
          bitmap = refl;
          ranks = refl;
          stack = refl;
          records = refl;
          entries = refl;
          node-stack = refl;
          nodes = refl;
          total-length = refl;
        };
      };
      shape = record {
        placed = placed;
        held = record {
          vector = λ c h e. only-slot (Vector g v) vector-0 c h;
          trie = only-slot (λ c. v.kind c ≡ 2 → Trie g v c) (λ e. absurd (omega arith));
        };
        hung = record { reached = λ n h. absurd (omega arith); non-empty = λ n h. absurd (omega arith); children = λ l n x h. absurd (omega arith) };
        stacks = record {
          free-slots = λ i h. absurd (omega arith);
          stacked = only-slot (λ c. v.kind c ≡ 0 → Stacked g v c) (λ e. absurd (omega arith));
          spare-nodes = λ i h. absurd (omega arith);
          stacked-nodes = λ n h. absurd (omega arith);
        };
        counts = record { used-true = refl; count-true = refl };
      };
    }

-- no kind is 3
kind-three : WellFormed (tiny 3) → ⊥
unfolding seen area bitmap_words
kind-three wf = let z : 3 ≤ 2 = wf.shape.placed.kinds 0 (omega arith) in omega arith
