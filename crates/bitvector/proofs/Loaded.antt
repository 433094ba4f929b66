-- A map loaded from a node's first words and stored back: its bits are the node's, and the node's other words stay. Assumes nothing.
use mathlib.Core.Path.{◌≡◌, ap, ◌∙◌}
use mathlib.Core.List.{List, ◌++◌}
use Prim.Native.Nat.{ℕ, ◌+◌, ◌-◌, ◌/◌, ◌%◌, ◌≤◌, ◌<◌}
use native.Mathlib.Omega.{arith}
use lib.ListN.{length, take, drop, get_or, get_or-append}
use lib.Seq.{get_or-take, get_or-drop, get_or-append-add}
use Rattle.region.specs.Bits.{word_bit, bit}

-- two lists that agree on four words agree on 256 bits
pub same_bits : (ws l : List ℕ) → ((k : ℕ) → k < 4 → get_or ws k 0 ≡ get_or l k 0) → (x : ℕ) → x < 256 → bit ws x ≡ bit l x
unfolding bit
same_bits ws l f x h = ap (λ (w : ℕ). word_bit w (x % 64)) (f (x / 64) (omega arith))

-- `load`
pub loaded-bit : (l : List ℕ) (x : ℕ) → x < 256 → bit (take 4 l) x ≡ bit l x
loaded-bit l = same_bits (take 4 l) l (λ k h. get_or-take 4 l k 0 h)

module _ (ws l : List ℕ) (four : length ws ≡ 4) where
  -- `store`
  pub stored-bit : (x : ℕ) → x < 256 → bit (ws ++ drop 4 l) x ≡ bit ws x
  stored-bit = same_bits (ws ++ drop 4 l) ws (λ k h. get_or-append ws (drop 4 l) 0 k (omega arith))

  pub stored-word : (k : ℕ) → 4 ≤ k → get_or (ws ++ drop 4 l) k 0 ≡ get_or l k 0
  stored-word k h =
      let e : k ≡ length ws + (k - 4) = omega arith in
      let b : 4 + (k - 4) ≡ k = omega arith in
      ap (λ (j : ℕ). get_or (ws ++ drop 4 l) j 0) e ∙ get_or-append-add ws (drop 4 l) (k - 4) 0 ∙ get_or-drop 4 l (k - 4) 0 ∙ ap (λ (j : ℕ). get_or l j 0) b
