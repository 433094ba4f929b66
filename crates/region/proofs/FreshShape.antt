-- A fresh region is well formed, for nothing is in use and every slot stands in its stack; and it reads as the empty set. Assumes nothing.
use mathlib.Core.Path.{◌≡◌, refl, sym, ap, ◌∙◌, subst}
use mathlib.Core.Bool.{true}
use mathlib.Core.List.{List, [], ◌++◌}
use Prim.Native.Nat.{ℕ, zero, suc, ◌+◌, ◌-◌, ◌*◌, ◌/◌, ◌%◌, ◌^◌, ◌<◌, ◌≤◌, min}
use native.Mathlib.Nat.{zero-div, sub-zero}
use native.Mathlib.Omega.{arith}
use lib.ListN.{length, get_or, length-append}
use Rattle.lists.specs.Lists.{each, blocks, down_from}
use Rattle.lists.proofs.Sums.{sum-zero}
use Rattle.lists.proofs.Blocks.{block-word, get_or-down_from, down_from-rising}
use Rattle.model.specs.Reading.{walk, empty}
use Rattle.region.specs.Ranges.{good_numbers}
use Rattle.region.specs.Geometry.{bitmap_words, record_words, node_words, total}
use Rattle.region.specs.Bits.{bit}
use Rattle.region.specs.Areas.{Numbers, numbers}
use Rattle.region.specs.Seen.{Seen, seen}
use Rattle.region.specs.Read.{read, reading}
use Rattle.region.specs.Fresh.{zeros, free_record, free_node, fresh}
use Rattle.region.specs.WellFormed.{Header, Placed, Held, Hung, Stacks, Counts, Shape, WellFormed}
use Rattle.region.proofs.FreshAreas.{fresh_numbers, fresh_seen, fresh-length, fresh-numbers, fresh-seen}

get_or-zeros : (n i : ℕ) → get_or (zeros n) i 0 ≡ 0
get_or-zeros zero i = refl
get_or-zeros (suc n) zero = refl
get_or-zeros (suc n) (suc i) = get_or-zeros n i

bit-zeros : (n p : ℕ) → bit (zeros n) p ≡ 0
unfolding bit
bit-zeros n p = ap (λ (w : ℕ). w / 2 ^ (p % 64) % 2) (get_or-zeros n (p / 64)) ∙ ap (λ (w : ℕ). w % 2) (zero-div (2 ^ (p % 64)))

module _ (P S C N : ℕ) where
  abbrev g : Numbers
  g = fresh_numbers P S C N

  abbrev v : Seen
  v = fresh_seen P S C N

  -- slot c is free, and its link is its place in the stack
  kind-is : (c : ℕ) → c < C → v.kind c ≡ 0
  kind-is c h =
      let e : record_words * c ≡ record_words * c + 0 = omega arith in
      ap (λ (k : ℕ). get_or (blocks free_record C) k 0) e ∙ block-word free_record record_words (λ k. refl) 0 C c 0 h (omega arith)

  link-is : (c : ℕ) → c < C → v.link c ≡ C - 1 - c
  link-is c h = block-word free_record record_words (λ k. refl) 0 C c 3 h (omega arith)

  -- and so node n, by its words 4 and 5
  level1-is : (n : ℕ) → n < N → v.node.level1 n ≡ 0
  level1-is n h =
      let e : n * node_words + 4 ≡ node_words * n + 4 = omega arith in
      ap (λ (k : ℕ). get_or (blocks free_node N) k 0) e ∙ block-word free_node node_words (λ k. refl) 0 N n 4 h (omega arith)

  parent_is : (n : ℕ) → n < N → v.node.parent n ≡ N - 1 - n
  parent_is n h =
      let e : n * node_words + 5 ≡ node_words * n + 5 = omega arith in
      ap (λ (k : ℕ). get_or (blocks free_node N) k 0) e ∙ block-word free_node node_words (λ k. refl) 0 N n 5 h (omega arith)

  free-is : (i : ℕ) → i < C → v.free i ≡ C - 1 - i
  free-is i h = get_or-down_from (λ i. i) 0 C i h

  spare-is : (i : ℕ) → i < N → v.spare i ≡ N - 1 - i
  spare-is i h = get_or-down_from (λ i. i) 0 N i h

  placed : Placed g v
  placed = record {
    past = λ p h l. bit-zeros (bitmap_words P) p;
    prefixes = sum-zero v.bit (2 ^ P) (λ i l. bit-zeros (bitmap_words P) i);
    borne = λ p h e. let z : v.bit p ≡ 0 = bit-zeros (bitmap_words P) p in absurd (omega arith);
    ranked = λ c h ne. absurd (ne (kind-is c h));
    kinds = λ c h. let z = kind-is c h in omega arith;
  }

  held : Held g v
  held = record {
    vector = λ c h e. let z = kind-is c h in absurd (omega arith);
    trie = λ c h e. let z = kind-is c h in absurd (omega arith);
  }

  hung : Hung g v
  hung = record {
    reached = λ n h ne. absurd (ne (level1-is n h));
    non-empty = λ n h ne. absurd (ne (level1-is n h));
    children = λ l n x h e hl hx eb. let z = level1-is n h in absurd (omega arith);
  }

  stacks : Stacks g v
  stacks = record {
    free-slots = λ i h. let e = free-is i (omega arith) in record {
      in-range = omega arith;
      is_free = ap v.kind e ∙ kind-is (C - 1 - i) (omega arith);
      place = ap v.link e ∙ link-is (C - 1 - i) (omega arith) ∙ omega arith;
    };
    stacked = λ c h e. let z = link-is c h in record { in-range = omega arith; there = ap v.free z ∙ free-is (C - 1 - c) (omega arith) ∙ omega arith };
    spare-nodes = λ i h. let e = spare-is i (omega arith) in record {
      in-range = omega arith;
      is_free = ap v.node.level1 e ∙ level1-is (N - 1 - i) (omega arith);
      place = ap v.node.parent e ∙ parent_is (N - 1 - i) (omega arith) ∙ omega arith;
    };
    stacked-nodes = λ n h e. let z = parent_is n h in record { in-range = omega arith; there = ap v.spare z ∙ spare-is (N - 1 - n) (omega arith) ∙ omega arith };
  }

  counts : Counts g v
  unfolding walk read each
  counts = record {
    used-true = sum-zero (λ n. min 1 (v.node.level1 n)) N (λ n h. ap (min 1) (level1-is n h));
    count-true = refl;
  }

  empty-read : read g v ≡ empty P S C N
  unfolding read each empty
  empty-read = ap (λ (fs : List ℕ). record { P = P; S = S; C = C; N = N; containers = []; free = fs })
      (ap (down_from v.free) (sub-zero C) ∙ down_from-rising v.free 0 C (λ i l. free-is i l ∙ omega arith))

  module _ (rest : List ℕ) where
    header : good_numbers P S C N ≡ true → Header (fresh P S C N ++ rest) g
    unfolding fresh
    header good = record {
      form-is = refl;
      ranges = good;
      bitmap = refl;
      ranks = refl;
      stack = refl;
      records = refl;
      entries = refl;
      node-stack = refl;
      nodes = refl;
      total-length = refl;
    }

    pub fresh-well-formed : good_numbers P S C N ≡ true → WellFormed (fresh P S C N ++ rest)
    fresh-well-formed good =
        let e : numbers (fresh P S C N ++ rest) ≡ g = fresh-numbers P S C N rest in
        let long : total P C N ≤ length (fresh P S C N ++ rest) = omega (arith, length-append (fresh P S C N) rest, fresh-length P S C N) in
        record {
          ready = record {
            has-header = omega arith;
            long = subst (λ (x : Numbers). total x.P x.C x.N ≤ length (fresh P S C N ++ rest)) (sym e) long;
            header = subst (Header (fresh P S C N ++ rest)) (sym e) (header good);
          };
          shape = subst (λ (x : Numbers). Shape x (seen x (fresh P S C N ++ rest))) (sym e)
              (subst (Shape g) (sym (fresh-seen P S C N rest)) record { placed = placed; held = held; hung = hung; stacks = stacks; counts = counts });
        }

    pub fresh-reads : reading (fresh P S C N ++ rest) ≡ empty P S C N
    unfolding reading
    fresh-reads = ap (λ (x : Numbers). read x (seen x (fresh P S C N ++ rest))) (fresh-numbers P S C N rest) ∙ ap (read g) (fresh-seen P S C N rest) ∙ empty-read
