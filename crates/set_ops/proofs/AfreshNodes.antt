-- Nodes freed one by one, by two stores each: the first i of them are free, and each is linked to its place. Assumes nothing.
use Rattle.std.proofs.Common.{◌≡◌, ℕ, ◌+◌, ◌-◌, ◌*◌, ◌<◌, List, length, set, sym, ap, ◌∙◌, arith, length-set, get_or-set_other, get_or-set_same}
use native.Mathlib.Decide.{ℕ_discrete}
use Rattle.region.specs.Nodes.{nodes_of}

module _ (s : List ℕ) (n i v : ℕ) (long : length s ≡ 264 * n) (h : i < n) where
  -- the nodes after the two stores
  abbrev after : List ℕ
  after = set (set s (i * 264 + 4) 0) (i * 264 + 5) v

  -- level and place of another node stay
  other-level : (j : ℕ) → j < i → (nodes_of after).level1 j ≡ (nodes_of s).level1 j
  other-level j l = get_or-set_other (set s (i * 264 + 4) 0) (i * 264 + 5) (j * 264 + 4) v 0 (omega arith) ∙ get_or-set_other s (i * 264 + 4) (j * 264 + 4) 0 0 (omega arith)

  other_place : (j : ℕ) → j < i → (nodes_of after).parent j ≡ (nodes_of s).parent j
  other_place j l = get_or-set_other (set s (i * 264 + 4) 0) (i * 264 + 5) (j * 264 + 5) v 0 (omega arith) ∙ get_or-set_other s (i * 264 + 4) (j * 264 + 5) 0 0 (omega arith)

  own-level : (nodes_of after).level1 i ≡ 0
  own-level = get_or-set_other (set s (i * 264 + 4) 0) (i * 264 + 5) (i * 264 + 4) v 0 (omega arith) ∙ get_or-set_same s (i * 264 + 4) 0 0 (omega arith)

  own-place : (nodes_of after).parent i ≡ v
  own-place = get_or-set_same (set s (i * 264 + 4) 0) (i * 264 + 5) v 0 (omega (arith, length-set s (i * 264 + 4) 0))

  -- one more node is free
  pub level-more : ((j : ℕ) → j < i → (nodes_of s).level1 j ≡ 0) → (j : ℕ) → j < i + 1 → (nodes_of after).level1 j ≡ 0
  level-more below-i j l = pick (ℕ_discrete j i)
    where
      pick : Dec (j ≡ i) → (nodes_of after).level1 j ≡ 0
      pick (yes e) = ap (nodes_of after).level1 e ∙ own-level
      pick (no ne) = other-level j (omega arith) ∙ below-i j (omega arith)

  -- and linked to its place
  pub place-more : v ≡ n - 1 - i → ((j : ℕ) → j < i → (nodes_of s).parent j ≡ n - 1 - j) → (j : ℕ) → j < i + 1 → (nodes_of after).parent j ≡ n - 1 - j
  place-more w below-i j l = pick (ℕ_discrete j i)
    where
      pick : Dec (j ≡ i) → (nodes_of after).parent j ≡ n - 1 - j
      pick (yes e) = ap (nodes_of after).parent e ∙ own-place ∙ w ∙ ap (λ (z : ℕ). n - 1 - z) (sym e)
      pick (no ne) = other_place j (omega arith) ∙ below-i j (omega arith)
