-- Two regions of which the wider has one prefix more: up to it ranks are the same, past it one more, and its container stands between those of the narrower. Assumes nothing.
use Prim.Native.Nat.{ℕ, suc, ◌+◌, ◌-◌, ◌^◌, ◌<◌, ◌≤◌}
use mathlib.Core.Path.{◌≡◌, sym, ap, ◌∙◌}
use mathlib.Core.Logic.{◌≢◌}
use mathlib.Core.List.{List, ◌∷◌, ◌++◌}
use native.Mathlib.Omega.{arith}
use native.Mathlib.Decide.{ℕ_discrete, dec_lt}
use lib.ListN.{length}
use Rattle.lists.specs.Lists.{up_to}
use Rattle.lists.proofs.Sums.{sum_same, sum_more, sum_mono, sum_less}
use Rattle.lists.proofs.Each.{each-up_to}
use Rattle.model.specs.Reading.{Container, words_of}
use Rattle.model.specs.Change.{placed, dropped}
use Rattle.region.specs.Bits.{rank_in}
use Rattle.region.specs.Areas.{Numbers}
use Rattle.region.specs.Seen.{Seen}
use Rattle.region.specs.Read.{suffixes, container}
use Rattle.region.specs.WellFormed.{rank_of, Placed}
use Rattle.region.proofs.Containers.{AtRank, at-rank}
use Rattle.steps.proofs.OneMore.{OneMore, map_more, back, without-one, with-one}
use Rattle.steps.proofs.Among.{AllBelow, AllAbove, placed-among, dropped-among, words-among}

-- Bits

-- the bits b with that of p set are d
pub record OneBit (b d : ℕ → ℕ) (p : ℕ) : Type 0 where
  pub clear : b p ≡ 0
  pub is_set : d p ≡ 1
  pub else : (q : ℕ) → q ≢ p → d q ≡ b q

module _ (b d : ℕ → ℕ) (p : ℕ) (o : OneBit b d p) where
  pub rank-upto : (q : ℕ) → q ≤ p → rank_in d q ≡ rank_in b q
  rank-upto q h = sum_same b d q (λ i l. o.else i (λ z. omega arith))

  pub rank-past : (q : ℕ) → p < q → rank_in d q ≡ suc (rank_in b q)
  rank-past q h = sum_more b d q p h (o.is_set ∙ ap suc (sym o.clear)) (λ i l ne. o.else i ne)

  -- a set place is another one
  pub not-clear : (q : ℕ) → b q ≡ 1 → q ≢ p
  not-clear q e z = let y : b q ≡ 0 = ap b z ∙ o.clear in omega arith

  pub bits-narrower : ((q : ℕ) → d q < 2) → (q : ℕ) → b q < 2
  bits-narrower bits q = pick (ℕ_discrete q p)
    where
      pick : Dec (q ≡ p) → b q < 2
      pick (yes z) = let y : b q ≡ 0 = ap b z ∙ o.clear in omega arith
      pick (no ne) = let y : d q ≡ b q = o.else q ne in let u : d q < 2 = bits q in omega arith

-- Slots

-- no rank is past the last
pub rank-fits : (g : Numbers) (v : Seen) (p : ℕ) → p < 2 ^ g.P → rank_of g v (2 ^ g.P) ≡ g.k → rank_of g v p ≤ g.k
rank-fits g v p h e = let l : rank_of g v p ≤ rank_of g v (2 ^ g.P) = sum_mono v.bit p (2 ^ g.P) (omega arith) in omega arith

-- w has the prefix p more than v, whose numbers are g, and c at its rank
pub record Wider (g : Numbers) (v w : Seen) (c p : ℕ) : Type 0 where
  pub small : p < 2 ^ g.P
  pub bits : OneBit v.bit w.bit p
  pub total : rank_of g v (2 ^ g.P) ≡ g.k
  pub slots : OneMore v.slot w.slot c (rank_of g v p) g.k

module _ (g : Numbers) (v w : Seen) (c p : ℕ) (x : Wider g v w c p) where
  pub total-wider : rank_of g w (2 ^ g.P) ≡ suc g.k
  total-wider = rank-past v.bit w.bit p x.bits (2 ^ g.P) x.small ∙ ap suc x.total

  pub slot-new : w.slot (rank_of g w p) ≡ c
  slot-new = ap w.slot (rank-upto v.bit w.bit p x.bits p (omega arith)) ∙ x.slots.here

  pub slot-old : (q : ℕ) → q < 2 ^ g.P → v.bit q ≡ 1 → w.slot (rank_of g w q) ≡ v.slot (rank_of g v q)
  slot-old q h e = pick (dec_lt q p)
    where
      pick : Dec (q < p) → w.slot (rank_of g w q) ≡ v.slot (rank_of g v q)
      pick (yes l) = ap w.slot (rank-upto v.bit w.bit p x.bits q (omega arith)) ∙ x.slots.below (rank_of g v q) (sum_less v.bit q p l e)
      pick (no n) =
          let ne : q ≢ p = not-clear v.bit w.bit p x.bits q e in
          let l : rank_of g v q < rank_of g v (2 ^ g.P) = sum_less v.bit q (2 ^ g.P) h e in
          ap w.slot (rank-past v.bit w.bit p x.bits q (omega arith)) ∙ x.slots.above (rank_of g v q) (sum_mono v.bit p q (omega arith)) (omega (arith, x.total))

-- the container at rank r
abbrev pub by_rank : Numbers → Seen → ℕ → Container
by_rank g v r = container g v (v.slot r)

-- Containers, where the narrower's slots in use hold the same in the wider, whose numbers are gw
module _ (g gw : Numbers) (v w : Seen) (c p : ℕ) (x : Wider g v w c p) (pl : Placed g v) (bits : (q : ℕ) → v.bit q < 2)
    (same : (d : ℕ) → d < g.C → v.kind d ≢ 0 → container gw w d ≡ container g v d) where
  -- the narrower's containers below p, and above it
  abbrev lower : List Container
  lower = up_to (by_rank g v) (rank_of g v p)

  abbrev upper : List Container
  upper = back (by_rank g v) (rank_of g v p) g.k

  more : OneMore (by_rank g v) (by_rank gw w) (container gw w c) (rank_of g v p) g.k
  more = map_more (container g v) (container gw w) v.slot w.slot c (rank_of g v p) g.k x.slots (λ r l.
      let a : AtRank g v r = at-rank g v pl bits r l in same (v.slot r) a.in-range a.in_use)

  under : (r : ℕ) → r < rank_of g v p → (by_rank g v r).prefix < p
  under r l = pick (dec_lt (by_rank g v r).prefix p)
    where
      pick : Dec ((by_rank g v r).prefix < p) → (by_rank g v r).prefix < p
      pick (yes h) = h
      pick (no n) =
          let a : AtRank g v r = at-rank g v pl bits r (omega (arith, x.slots.fits)) in
          let h : rank_of g v p ≤ rank_of g v (by_rank g v r).prefix = sum_mono v.bit p (by_rank g v r).prefix (omega arith) in
          absurd (omega (arith, a.rank_is))

  above : (r : ℕ) → rank_of g v p ≤ r → r < g.k → p < (by_rank g v r).prefix
  above r l u = pick (at-rank g v pl bits r u) (dec_lt p (by_rank g v r).prefix)
    where
      pick : AtRank g v r → Dec (p < (by_rank g v r).prefix) → p < (by_rank g v r).prefix
      pick a (yes h) = h
      pick a (no n) =
          let e : v.bit (by_rank g v r).prefix ≡ 1 = (pl.ranked (v.slot r) a.in-range a.in_use).is_set in
          let ne : (by_rank g v r).prefix ≢ p = not-clear v.bit w.bit p x.bits (by_rank g v r).prefix e in
          let h : rank_of g v (by_rank g v r).prefix < rank_of g v p = sum_less v.bit (by_rank g v r).prefix p (omega arith) e in
          absurd (omega (arith, a.rank_is))

  all_under : AllBelow p lower
  all_under = each-up_to (λ d. d.prefix < p) (by_rank g v) (rank_of g v p) under

  all_above : AllAbove p upper
  all_above = each-up_to (λ d. p < d.prefix) (λ r. by_rank g v (rank_of g v p + r)) (g.k - rank_of g v p) (λ r l. above (rank_of g v p + r) (omega arith) (omega arith))

  narrow-is : up_to (by_rank g v) g.k ≡ lower ++ upper
  narrow-is = without-one (by_rank g v) (rank_of g v p) g.k x.slots.fits

  wide_is : up_to (by_rank gw w) (suc g.k) ≡ lower ++ (container gw w c ∷ upper)
  wide_is = with-one (by_rank g v) (by_rank gw w) (container gw w c) (rank_of g v p) g.k more

  -- from the narrower to the wider
  pub wider-placed : (ss : List ℕ) → container gw w c ≡ record { prefix = p; slot = c; suffixes = ss } → up_to (by_rank gw w) (suc g.k) ≡ placed p c ss (up_to (by_rank g v) g.k)
  wider-placed ss e =
      wide_is ∙ ap (λ (d : Container). lower ++ (d ∷ upper)) e
      ∙ sym (placed-among p c ss lower upper all_under all_above)
      ∙ ap (placed p c ss) (sym narrow-is)

  -- and back
  pub narrower-dropped : w.prefix c ≡ p → up_to (by_rank g v) g.k ≡ dropped p (up_to (by_rank gw w) (suc g.k))
  narrower-dropped e =
      narrow-is ∙ sym (dropped-among p (container gw w c) lower upper e all_under all_above)
      ∙ ap (dropped p) (sym wide_is)

  pub words-wider : (S : ℕ) → length (words_of S (up_to (by_rank gw w) (suc g.k))) ≡ length (suffixes gw w c) + length (words_of S (up_to (by_rank g v) g.k))
  words-wider S =
      ap (λ (cs : List Container). length (words_of S cs)) wide_is
      ∙ words-among S (container gw w c) lower upper
      ∙ ap (λ (cs : List Container). length (suffixes gw w c) + length (words_of S cs)) (sym narrow-is)
