-- The prefix at a rank says on which side of it another prefix's rank lies: a set prefix below counts, and no more than its rank lie below it. Assumes nothing.
use Rattle.std.proofs.Common.{◌≡◌, ℕ, ◌+◌, ◌*◌, ◌%◌, ◌^◌, ◌<◌, ◌≤◌, true, ◌&&◌, leb, List, sym, ap, ◌∙◌, subst, mod-lt, one-mul, arith, lit<, pow_pos, shl_exact, leb-true}
use Rattle.lists.proofs.Laws.{and_both}
use Rattle.lists.proofs.Sums.{sum_mono, sum_less}
use Rattle.region.specs.Ranges.{good_p, good_s, good_c, good_n}
use Rattle.region.specs.Areas.{Numbers, numbers}
use Rattle.region.specs.Seen.{Seen, seen}
use Rattle.region.specs.WellFormed.{rank_of, Placed, WellFormed}
use Rattle.region.proofs.SeenBits.{seen-bits}
use Rattle.region.proofs.Containers.{AtRank, at-rank, rank-small, k-fits}
use Rattle.lens.specs.Search.{Between}

module _ (g : Numbers) (v : Seen) (pl : Placed g v) where
  rank-past : (p r : ℕ) → AtRank g v r → v.prefix (v.slot r) < p → r < rank_of g v p
  rank-past p r a b =
      let z : rank_of g v (v.prefix (v.slot r)) < rank_of g v p = sum_less v.bit (v.prefix (v.slot r)) p b (pl.ranked (v.slot r) a.in-range a.in_use).is_set in
      omega (arith, a.rank_is)

  rank-upto : (p r : ℕ) → AtRank g v r → p ≤ v.prefix (v.slot r) → rank_of g v p ≤ r
  rank-upto p r a b =
      let z : rank_of g v p ≤ rank_of g v (v.prefix (v.slot r)) = sum_mono v.bit p (v.prefix (v.slot r)) b in
      omega (arith, a.rank_is)

module _ {l : List ℕ} (wf : WellFormed l) where
  at : (r : ℕ) → r < (numbers l).k → AtRank (numbers l) (seen (numbers l) l) r
  at = at-rank (numbers l) (seen (numbers l) l) wf.shape.placed (seen-bits (numbers l) l)

  -- a rank in use is a place of the rank table, and what stands there is a slot
  pub place-small : (r : ℕ) → r < (numbers l).k → r < (numbers l).C
  place-small r h = omega (arith, k-fits (numbers l) (seen (numbers l) l) wf.shape.placed (seen-bits (numbers l) l))

  pub slot_small : (r : ℕ) → r < (numbers l).k → (seen (numbers l) l).slot r < (numbers l).C
  slot_small r h = (at r h).in-range

  in-ranges : ((good_p (numbers l).P ≡ true) × (good_s (numbers l).S ≡ true)) × (good_c (numbers l).C ≡ true)
  in-ranges =
      let g = numbers l in
      let psc = (and_both (good_p g.P && good_s g.S && good_c g.C) (good_n g.N) wf.ready.header.ranges).0 in
      let ps = and_both (good_p g.P && good_s g.S) (good_c g.C) psc in
      (and_both (good_p g.P) (good_s g.S) ps.0, ps.1)

  -- at most 24 prefix bits
  pub P-small : (numbers l).P ≤ 24
  P-small = let P = (numbers l).P in leb-true P 24 (and_both (leb 1 P) (leb P 24) in-ranges.0.0).1

  -- at most 40 suffix bits
  pub S-small : (numbers l).S ≤ 40
  S-small = let S = (numbers l).S in leb-true S 40 (and_both (leb 1 S) (leb S 40) in-ranges.0.1).1

  -- how many prefixes there may be, as the code makes it
  pub span-is : (p : ℕ) → p ≡ (numbers l).P → (1 * 2 ^ p) % 2 ^ 64 ≡ 2 ^ (numbers l).P
  span-is p e = shl_exact {a = 1} 1 p 64 (lit< tt) (omega (arith, P-small)) ∙ one-mul _ ∙ ap (λ (k : ℕ). 2 ^ k) e

  -- a number modulo that is a prefix
  pub in_span : (p x : ℕ) → p ≡ (numbers l).P → x % ((1 * 2 ^ p) % 2 ^ 64) < 2 ^ (numbers l).P
  in_span p x e = subst (λ (k : ℕ). x % k < 2 ^ (numbers l).P) (sym (span-is p e)) (mod-lt x (pow_pos (numbers l).P))

  -- at most 65,536 containers are in use
  pub k-small : (numbers l).k ≤ 65536
  k-small =
      let g = numbers l in
      omega (arith, k-fits g (seen g l) wf.shape.placed (seen-bits g l), leb-true g.C 65536 (and_both (leb 1 g.C) (leb g.C 65536) in-ranges.1).1)

  -- the rank of a set prefix is in use
  pub rank-in-use : (p : ℕ) → p < 2 ^ (numbers l).P → (seen (numbers l) l).bit p ≡ 1 → rank_of (numbers l) (seen (numbers l) l) p < (numbers l).k
  rank-in-use = rank-small (numbers l) (seen (numbers l) l) wf.shape.placed

  pub search-start : (p k : ℕ) → p < 2 ^ (numbers l).P → k ≡ (numbers l).k → Between l p 0 k
  search-start p k h e =
      let z : rank_of (numbers l) (seen (numbers l) l) p ≤ rank_of (numbers l) (seen (numbers l) l) (2 ^ (numbers l).P) = sum_mono (seen (numbers l) l).bit p (2 ^ (numbers l).P) (omega arith) in
      record { from = omega arith; upto = omega (arith, wf.shape.placed.prefixes); in_use = omega arith }

  -- a step: slot c stands at rank m, and its prefix is q
  module _ {p low high : ℕ} (b : Between l p low high) (m : ℕ) (small : m < high) {c q : ℕ} (ec : c ≡ (seen (numbers l) l).slot m) (eq : q ≡ (seen (numbers l) l).prefix c) where
    prefix-there : q ≡ (seen (numbers l) l).prefix ((seen (numbers l) l).slot m)
    prefix-there = eq ∙ ap (seen (numbers l) l).prefix ec

    pub search-up : q < p → Between l p (m + 1) high
    search-up h =
        let z : m < rank_of (numbers l) (seen (numbers l) l) p = rank-past (numbers l) (seen (numbers l) l) wf.shape.placed p m (at m (omega (arith, b.in_use))) (omega (arith, prefix-there)) in
        record { from = omega arith; upto = b.upto; in_use = b.in_use }

    pub search-down : p ≤ q → Between l p low m
    search-down h = record {
      from = b.from;
      upto = rank-upto (numbers l) (seen (numbers l) l) wf.shape.placed p m (at m (omega (arith, b.in_use))) (omega (arith, prefix-there));
      in_use = omega (arith, b.in_use);
    }

    -- the prefix is p itself
    pub search-hit : q ≡ p → Between l p m m
    search-hit e =
        let u = search-down (omega arith) in
        let z : rank_of (numbers l) (seen (numbers l) l) p ≡ m = ap (rank_of (numbers l) (seen (numbers l) l)) (sym e ∙ prefix-there) ∙ (at m (omega (arith, b.in_use))).rank_is in
        record { from = omega arith; upto = u.upto; in_use = u.in_use }
