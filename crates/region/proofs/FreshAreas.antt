-- A region put together of its areas is seen as them; so is a fresh one. Assumes nothing.
use mathlib.Core.Path.{◌≡◌, refl}
use mathlib.Core.List.{List, [], ◌++◌, append_assoc}
use Prim.Native.Nat.{ℕ, ◌*◌}
use native.Mathlib.Omega.{arith}
use lib.ListN.{length, length-append, length-replicate}
use Rattle.lists.specs.Lists.{blocks}
use Rattle.lists.proofs.Each.{length-down_from}
use Rattle.lists.proofs.Blocks.{length-blocks}
use Rattle.region.specs.Geometry.{header_words, bitmap_words, record_words, strip_words, node_words, off_bitmap, off_ranks, off_stack, off_records, off_entries, off_node_stack, off_nodes, total}
use Rattle.region.specs.Areas.{Numbers, numbers}
use Rattle.region.specs.Seen.{Seen, seen_of, seen}
use Rattle.region.specs.Fresh.{zeros, fresh_header, fresh_stack, free_record, free_node, fresh}
use Rattle.region.proofs.Areas.{area_of}

-- a header, the seven areas, and what lies behind them
module _ (q : Numbers) (h a b c d e f g r : List ℕ)
    (lh : length h ≡ header_words) (la : length a ≡ bitmap_words q.P) (lb : length b ≡ q.C) (lc : length c ≡ q.C) (ld : length d ≡ record_words * q.C)
    (le : length e ≡ strip_words * q.C) (lf : length f ≡ q.N) (lg : length g ≡ node_words * q.N) where
  pub seen-laid : seen q (h ++ a ++ b ++ c ++ d ++ e ++ f ++ g ++ r) ≡ seen_of a b c d e f g
  unfolding seen
  seen-laid = λ i. seen_of
      (area_of (h ++ a ++ b ++ c ++ d ++ e ++ f ++ g ++ r) h a (b ++ c ++ d ++ e ++ f ++ g ++ r) off_bitmap (bitmap_words q.P) (simp append_assoc) lh la i)
      (area_of (h ++ a ++ b ++ c ++ d ++ e ++ f ++ g ++ r) (h ++ a) b (c ++ d ++ e ++ f ++ g ++ r) (off_ranks q.P) q.C (simp append_assoc) (simp length-append (omega arith)) lb i)
      (area_of (h ++ a ++ b ++ c ++ d ++ e ++ f ++ g ++ r) (h ++ a ++ b) c (d ++ e ++ f ++ g ++ r) (off_stack q.P q.C) q.C (simp append_assoc) (simp length-append (omega arith)) lc i)
      (area_of (h ++ a ++ b ++ c ++ d ++ e ++ f ++ g ++ r) (h ++ a ++ b ++ c) d (e ++ f ++ g ++ r) (off_records q.P q.C) (record_words * q.C) (simp append_assoc) (simp length-append (omega arith)) ld i)
      (area_of (h ++ a ++ b ++ c ++ d ++ e ++ f ++ g ++ r) (h ++ a ++ b ++ c ++ d) e (f ++ g ++ r) (off_entries q.P q.C) (strip_words * q.C) (simp append_assoc) (simp length-append (omega arith)) le i)
      (area_of (h ++ a ++ b ++ c ++ d ++ e ++ f ++ g ++ r) (h ++ a ++ b ++ c ++ d ++ e) f (g ++ r) (off_node_stack q.P q.C) q.N (simp append_assoc) (simp length-append (omega arith)) lf i)
      (area_of (h ++ a ++ b ++ c ++ d ++ e ++ f ++ g ++ r) (h ++ a ++ b ++ c ++ d ++ e ++ f) g r (off_nodes q.P q.C q.N) (node_words * q.N) refl (simp length-append (omega arith)) lg i)

  pub length-laid : length (h ++ a ++ b ++ c ++ d ++ e ++ f ++ g) ≡ total q.P q.C q.N
  length-laid = simp length-append (omega arith)

module _ (P S C N : ℕ) where
  -- the numbers of a fresh region, and what its areas say
  abbrev pub fresh_numbers : Numbers
  fresh_numbers = record { P = P; S = S; C = C; N = N; k = 0; used = 0; count = 0 }

  abbrev pub fresh_seen : Seen
  fresh_seen = seen_of (zeros (bitmap_words P)) (zeros C) (fresh_stack C) (blocks free_record C) (zeros (strip_words * C)) (fresh_stack N) (blocks free_node N)

  pub fresh-length : length (fresh P S C N) ≡ total P C N
  unfolding fresh
  fresh-length = length-laid fresh_numbers
      (fresh_header P S C N) (zeros (bitmap_words P)) (zeros C) (fresh_stack C) (blocks free_record C) (zeros (strip_words * C)) (fresh_stack N) (blocks free_node N) []
      refl (length-replicate (bitmap_words P) 0) (length-replicate C 0) (length-down_from (λ i. i) C) (length-blocks free_record record_words (λ k. refl) C)
      (length-replicate (strip_words * C) 0) (length-down_from (λ i. i) N) (length-blocks free_node node_words (λ k. refl) N)

  module _ (rest : List ℕ) where
    pub fresh-numbers : numbers (fresh P S C N ++ rest) ≡ fresh_numbers
    unfolding fresh
    fresh-numbers = refl

    pub fresh-seen : seen fresh_numbers (fresh P S C N ++ rest) ≡ fresh_seen
    unfolding fresh
    fresh-seen = seen-laid fresh_numbers
        (fresh_header P S C N) (zeros (bitmap_words P)) (zeros C) (fresh_stack C) (blocks free_record C) (zeros (strip_words * C)) (fresh_stack N) (blocks free_node N) rest
        refl (length-replicate (bitmap_words P) 0) (length-replicate C 0) (length-down_from (λ i. i) C) (length-blocks free_record record_words (λ k. refl) C)
        (length-replicate (strip_words * C) 0) (length-down_from (λ i. i) N) (length-blocks free_node node_words (λ k. refl) N)
