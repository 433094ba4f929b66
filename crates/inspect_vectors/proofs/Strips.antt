-- A slot's first entries, as many as its length says, are a part of the region: what holds of its words is what a vector must keep. Assumes nothing.
use Prim.Native.Nat.{ℕ, ◌+◌, ◌-◌, ◌*◌, ◌%◌, ◌^◌, ◌<◌, ◌≤◌}
use mathlib.Core.Path.{◌≡◌, sym, ap, ◌∙◌, subst}
use mathlib.Core.Bool.{true, ◌&&◌}
use mathlib.Core.List.{List}
use native.Mathlib.Nat.{one-mul}
use native.Mathlib.Omega.{arith}
use lib.Pow.{shl_exact}
use lib.Dec.{lit<, ltb, leb}
use lib.ListN.{length, take, drop, get_or, length-drop}
use lib.Seq.{get_or-take, get_or-drop, length-take-le}
use borrow.Author.Tests.{leb-true, ltb-true, lt-ltb}
use Rattle.lists.specs.Lists.{all, Distinct}
use Rattle.lists.proofs.Laws.{and_both}
use Rattle.region.specs.Ranges.{good_p, good_s, good_c, good_n}
use Rattle.region.specs.Geometry.{strip_words}
use Rattle.region.specs.Areas.{Numbers, numbers}
use Rattle.region.specs.Seen.{Seen, seen}
use Rattle.region.specs.WellFormed.{Ready, Vector}
use Rattle.strip.proofs.BoundLaws.{places-all, all-places}
use Rattle.strip.proofs.PlaceLaws.{places-distinct, distinct-places}
use Rattle.lens.proofs.Words.{entry-is}

-- a power of two is made by a shift without loss
pub one_up : (k : ℕ) → k < 64 → (1 * 2 ^ k) % 2 ^ 64 ≡ 2 ^ k
one_up k h = shl_exact {a = 1} 1 k 64 (lit< tt) (omega arith) ∙ one-mul _

module _ (l : List ℕ) (r : Ready l) where
  abbrev g : Numbers
  g = numbers l

  abbrev v : Seen
  v = seen g l

  -- so it is of S
  pub S-high : g.S ≤ 40
  S-high =
      let psc = (and_both (good_p g.P && good_s g.S && good_c g.C) (good_n g.N) r.header.ranges).0 in
      let ps = (and_both (good_p g.P && good_s g.S) (good_c g.C) psc).0 in
      leb-true g.S 40 (and_both (leb 1 g.S) (leb g.S 40) (and_both (good_p g.P) (good_s g.S) ps).1).1

  -- a first entry of 2^S or more is no vector's
  pub first-high : (b c e : ℕ) → b ≡ g.S → e ≡ v.entry c 0 → (1 * 2 ^ b) % 2 ^ 64 ≤ e → Vector g v c → ⊥
  first-high b c e eb ee h w =
      let q : (1 * 2 ^ b) % 2 ^ 64 ≡ 2 ^ g.S = one_up b (omega (arith, S-high)) ∙ ap (λ (k : ℕ). 2 ^ k) eb in
      let s : v.entry c 0 < 2 ^ g.S = w.small 0 w.some in
      omega arith

  module _ (c : ℕ) (h : c < g.C) (n : ℕ) (en : n ≡ v.size c) (few : n ≤ strip_words) where
    -- the entries lie within the region
    pub inside : get_or l 12 0 + strip_words * c + n ≤ length l
    inside = omega (arith, r.header.entries, r.long)

    module _ (a z : ℕ) (ea : a ≡ get_or l 12 0 + strip_words * c) (ez : z ≡ a + n) where
      abbrev part : List ℕ
      part = take (z - a) (drop a l)

      part-long : length part ≡ v.size c
      part-long = let m : z - a ≡ n = omega arith in ap (λ (k : ℕ). length (take k (drop a l))) m ∙ length-take-le n (drop a l) (omega (arith, length-drop a l, inside)) ∙ en

      part_at : (i : ℕ) → i < v.size c → get_or part i 0 ≡ v.entry c i
      part_at i s =
          let e : a + i ≡ get_or l 12 0 + (strip_words * c + i) = omega arith in
          get_or-take (z - a) (drop a l) i 0 (omega arith) ∙ get_or-drop a l i 0 ∙ ap (λ (k : ℕ). get_or l k 0) e ∙ entry-is l r c i h (omega arith)

      module _ (b : ℕ) (eb : b ≡ g.S) where
        -- such words are a vector's
        pub vector-of : 1 ≤ n → (all (λ x. ltb x (2 ^ b)) part ≡ true) × Distinct part → Vector g v c
        vector-of some t = record {
          some = omega arith;
          few = omega arith;
          distinct = λ i j lt s e. distinct-places part t.1 i j lt (omega (arith, part-long)) (part_at i (omega arith) ∙ e ∙ sym (part_at j s));
          small = λ i s.
              let q : get_or part i 0 < 2 ^ b = ltb-true (get_or part i 0) (2 ^ b) (all-places (λ x. ltb x (2 ^ b)) part t.0 i (omega (arith, part-long))) in
              subst (λ (k : ℕ). v.entry c i < 2 ^ k) eb (subst (λ (k : ℕ). k < 2 ^ b) (part_at i s) q);
        }

        -- and a vector's are such
        pub of-vector : Vector g v c → (all (λ x. ltb x (2 ^ b)) part ≡ true) × Distinct part
        of-vector w = (
          places-all (λ x. ltb x (2 ^ b)) part (λ i s. lt-ltb (get_or part i 0) (2 ^ b)
              (subst (λ (k : ℕ). k < 2 ^ b) (sym (part_at i (omega (arith, part-long)))) (subst (λ (k : ℕ). v.entry c i < 2 ^ k) (sym eb) (w.small i (omega (arith, part-long)))))),
          places-distinct part (λ i j lt s e. w.distinct i j lt (omega (arith, part-long)) (sym (part_at i (omega (arith, part-long))) ∙ e ∙ part_at j (omega (arith, part-long)))),
        )
