-- The destination afresh, part by part: counts, bitmap, slots and nodes look as in the fresh image, so the whole reads as the empty set. Assumes nothing.
use Rattle.std.proofs.Common.{◌≡◌, ℕ, ◌+◌, ◌-◌, ◌*◌, ◌<◌, ◌≤◌, List, ◌++◌, length, get_or, take, drop, set, refl, ap, ◌∙◌, subst, arith}
use lib.ListN.{length-replicate}
use borrow.Rule.Slice.PartMut.{put_mid, mid_of, mid_len}
use Rattle.lists.specs.Lists.{blocks}
use Rattle.lists.proofs.Blocks.{length-blocks}
use Rattle.lists.proofs.Each.{length-down_from}
use Rattle.model.specs.Reading.{empty}
use Rattle.region.specs.Geometry.{bitmap_words, record_words, node_words}
use Rattle.region.specs.Areas.{Numbers, numbers, ranks, entries}
use Rattle.region.specs.Nodes.{nodes_of}
use Rattle.region.specs.Fresh.{zeros, fresh_stack, free_record}
use Rattle.region.specs.WellFormed.{WellFormed}
use Rattle.region.proofs.FreshAreas.{fresh_numbers}
use Rattle.promises.specs.Reads.{ReadsAs}
use Rattle.lens.specs.Parts.{Parts, parts_of, with_bitmap, with_stack, with_records, with_arena}
use Rattle.lens.specs.Holding.{Holding}
use Rattle.lens.proofs.Holding.{begin, well-formed, reads_as, hold-k, hold-used, hold-count, give-bitmap, give-arena}
use Rattle.set_ops.proofs.AfreshSlots.{put-length, holds, give-slots}
use Rattle.set_ops.proofs.AfreshReads.{afresh-shape, afresh-read}

module _ (l : List ℕ) (wf : WellFormed l) where
  abbrev q : Numbers
  q = numbers l

  -- the same numbers, nothing in use
  abbrev g : Numbers
  g = fresh_numbers q.P q.S q.C q.N

  -- where the parts end
  pub bitmap-end : get_or l 9 0 ≤ length l
  bitmap-end = let e = wf.ready.header.ranks in let h = wf.ready.long in omega arith

  pub slots_end : get_or l 12 0 ≤ length l
  slots_end = let e = wf.ready.header.entries in let h = wf.ready.long in omega arith

  pub nodes-end : get_or l 15 0 ≤ length l
  nodes-end = let e = wf.ready.header.total-length in let h = wf.ready.long in omega arith

  -- the counts are 0
  abbrev l₁ : List ℕ
  l₁ = set (set (set l 5 0) 6 0) 7 0

  counted : Holding g (parts_of q l) l l₁
  counted = hold-count (hold-used (hold-k (begin l wf.ready) 0) 0) 0

  pub counted-long : length l₁ ≡ length l
  counted-long = counted.same_length

  -- the bitmap is 0
  module _ (a : List ℕ) (ea : a ≡ zeros (length (mid_of 16 (get_or l 9 0 - 16) l₁))) where
    abbrev l₂ : List ℕ
    l₂ = put_mid 16 (get_or l 9 0 - 16) l₁ a

    bitmap-is : a ≡ zeros (bitmap_words q.P)
    bitmap-is =
        let e : get_or l 9 0 - 16 ≡ bitmap_words q.P = omega (arith, wf.ready.header.ranks) in
        ea ∙ ap zeros (mid_len 16 (get_or l 9 0) l₁ (omega (arith, bitmap-end, counted-long)) ∙ e)

    cleaned : Holding g (with_bitmap (zeros (bitmap_words q.P)) (parts_of q l)) l l₂
    cleaned = subst (λ (z : List ℕ). Holding g (with_bitmap z (parts_of q l)) l l₂) bitmap-is
        (give-bitmap counted 16 (get_or l 9 0) a refl wf.ready.header.ranks (ap length bitmap-is ∙ length-replicate (bitmap_words q.P) 0))

    -- every slot is free
    module _ (b : List ℕ) (eb : b ≡ fresh_stack q.C ++ blocks free_record q.C) where
      abbrev l₃ : List ℕ
      l₃ = put_mid (get_or l 10 0) (get_or l 12 0 - get_or l 10 0) l₂ b

      freed : Holding g (with_records (blocks free_record q.C) (with_stack (fresh_stack q.C) (with_bitmap (zeros (bitmap_words q.P)) (parts_of q l)))) l l₃
      freed = give-slots cleaned (get_or l 10 0) (get_or l 12 0) b (fresh_stack q.C) (blocks free_record q.C) wf.ready.header.stack wf.ready.header.entries eb
          (length-down_from (λ i. i) q.C) (length-blocks free_record record_words (λ k. refl) q.C)

      -- and every node
      module _ (d : List ℕ) (same : length (put_mid (get_or l 13 0) (get_or l 15 0 - get_or l 13 0) l₃ d) ≡ length l₃) (ed : take q.N d ≡ fresh_stack q.N)
          (levels : (n : ℕ) → n < q.N → (nodes_of (drop q.N d)).level1 n ≡ 0) (places : (n : ℕ) → n < q.N → (nodes_of (drop q.N d)).parent n ≡ q.N - 1 - n) where
        abbrev l₄ : List ℕ
        l₄ = put_mid (get_or l 13 0) (get_or l 15 0 - get_or l 13 0) l₃ d

        abbrev x : Parts
        x = with_arena (fresh_stack q.N) (drop q.N d) (with_records (blocks free_record q.C) (with_stack (fresh_stack q.C) (with_bitmap (zeros (bitmap_words q.P)) (parts_of q l))))

        arena-long : length d ≡ q.N + node_words * q.N
        arena-long =
            let e₁ = wf.ready.header.node-stack in
            let e₂ = wf.ready.header.total-length in
            let h = holds freed in
            put-length (get_or l 13 0) (get_or l 15 0 - get_or l 13 0) l₃ d (omega arith) same ∙ omega arith

        done : Holding g x l l₄
        done = subst (λ (z : List ℕ). Holding g (with_arena z (drop q.N d) (with_records (blocks free_record q.C) (with_stack (fresh_stack q.C) (with_bitmap (zeros (bitmap_words q.P)) (parts_of q l))))) l l₄) ed
            (give-arena freed (get_or l 13 0) (get_or l 15 0) d wf.ready.header.node-stack wf.ready.header.total-length arena-long)

        -- so it is the empty set
        pub started : ReadsAs l (empty q.P q.S q.C q.N) l₄
        unfolding empty
        started =
            let good = wf.ready.header.ranges in
            record {
              well-formed = well-formed done (afresh-shape q.P q.S q.C q.N (ranks q l) (entries q l) (drop q.N d) levels places good);
              reads = reads_as done ∙ afresh-read q.P q.S q.C q.N (ranks q l) (entries q l) (drop q.N d) levels places good;
              past-stays = done.same_rest;
            }
