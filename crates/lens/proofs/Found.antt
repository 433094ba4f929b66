-- Where a prefix stands: a used record that bears it is the one at its rank; and words whose prefixes are tested one by one. Assumes nothing.
use Rattle.std.proofs.Common.{◌≡◌, ℕ, ◌*◌, ◌/◌, ◌%◌, ◌^◌, ◌<◌, Bool, false, eqb, ◌≢◌, List, sym, ap, ◌∙◌, Some, None, refl, arith}
use borrow.Author.Tests.{eqb-false}
use Rattle.model.specs.Words.{prefix_of}
use Rattle.region.specs.Areas.{Numbers, numbers}
use Rattle.region.specs.Seen.{Seen, seen}
use Rattle.region.specs.WellFormed.{rank_of, WellFormed}
use Rattle.region.proofs.SeenBits.{seen-bits}
use Rattle.lens.specs.Found.{FoundAs}
use Rattle.lens.proofs.Ranks.{span-is}

module _ (l : List ℕ) (wf : WellFormed l) (p : ℕ) where
  abbrev g : Numbers
  g = numbers l

  abbrev v : Seen
  v = seen g l

  -- slot c bears the prefix q, and is in use by its kind k
  pub at-hint : (c q k : ℕ) → c < g.C → q ≡ v.prefix c → k ≡ v.kind c → q ≡ p → k ≢ 0 → FoundAs l p (Some c)
  at-hint c q k h eq ek e u =
      let r = wf.shape.placed.ranked c h (λ z. u (ek ∙ z)) in
      let there : v.prefix c ≡ p = sym eq ∙ e in
      (ap v.bit (sym there) ∙ r.is_set, sym r.there ∙ ap (λ (x : ℕ). v.slot (rank_of g v x)) there)

  -- the test of p's bit failed
  pub nowhere : (b : Bool) → b ≡ eqb (v.bit p) 1 → b ≡ false → FoundAs l p None
  nowhere b e z = let ne : v.bit p ≢ 1 = eqb-false (v.bit p) 1 (sym e ∙ z) in omega (arith, seen-bits g l p, ne)

-- the test of a word's prefix failed, its shift and its span as the code makes them
pub prefix-clear : (l : List ℕ) → WellFormed l → (bits shift : ℕ) → bits ≡ (numbers l).P → shift ≡ (numbers l).S
    → (w : ℕ) → false ≡ eqb ((seen (numbers l) l).bit (w / 2 ^ shift % ((1 * 2 ^ bits) % 2 ^ 64))) 1 → (seen (numbers l) l).bit (prefix_of (numbers l).S w % 2 ^ (numbers l).P) ≡ 0
prefix-clear l wf bits shift ep es w e =
    ap (λ (m : ℕ). (seen (numbers l) l).bit (w / 2 ^ (numbers l).S % m)) (sym (span-is wf bits ep))
    ∙ ap (λ (s : ℕ). (seen (numbers l) l).bit (w / 2 ^ s % ((1 * 2 ^ bits) % 2 ^ 64))) (sym es)
    ∙ nowhere l wf _ false e refl
