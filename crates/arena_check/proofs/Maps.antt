-- The four words from word slots + n * 264 on are the map of node n: its bits are theirs, and it is empty where none is counted. Assumes nothing.
use Prim.Native.Nat.{ℕ, ◌+◌, ◌*◌, ◌/◌, ◌%◌, ◌≤◌, ◌<◌}
use mathlib.Core.Path.{◌≡◌, sym, ap, ◌∙◌}
use mathlib.Core.Logic.{◌≢◌}
use mathlib.Core.Bool.{Bool, true, false, not}
use mathlib.Core.List.{List}
use native.Mathlib.Omega.{arith}
use lib.Dec.{eqb}
use lib.ListN.{take, drop, get_or}
use lib.Seq.{get_or-take, get_or-drop}
use borrow.Author.Tests.{eqb-true, eqb-false}
use Rattle.lists.proofs.Sums.{sum_same, sum-le, Nth, nth}
use Rattle.lists.proofs.Counts.{sum-few}
use Rattle.region.specs.Bits.{word_bit, bit, rank}
use Rattle.region.specs.Nodes.{Nodes}
use Rattle.region.specs.WellFormed.{NonEmpty}
use Rattle.arena.specs.Arena.{nodes_in}
use Rattle.arena_check.specs.Checks.{set_bits}
use Rattle.lists.proofs.Answers.{Tells, refused, granted}

pub bits_of : (N : ℕ) (l : List ℕ) (n x : ℕ) → (nodes_in N l).bit n x < 2
bits_of N l n x = omega arith

module _ (N n : ℕ) (l : List ℕ) (k : ℕ) (long : 4 ≤ k) where
  -- the first four of the k words from there on
  abbrev loaded : List ℕ
  loaded = take 4 (take k (drop (N + n * 264) l))

  bit_is : (x : ℕ) → x < 256 → bit loaded x ≡ (nodes_in N l).bit n x
  unfolding bit
  bit_is x h =
      let q : x / 64 < 4 = omega arith in
      let e : N + n * 264 + x / 64 ≡ N + (n * 264 + x / 64) = omega arith in
      ap (λ (w : ℕ). word_bit w (x % 64))
      (get_or-take 4 (take k (drop (N + n * 264) l)) (x / 64) 0 q ∙ get_or-take k (drop (N + n * 264) l) (x / 64) 0 (omega arith)
      ∙ get_or-drop (N + n * 264) l (x / 64) 0 ∙ ap (λ (i : ℕ). get_or l i 0) e ∙ sym (get_or-drop N l (n * 264 + x / 64) 0))

  pub count-is : rank loaded 256 ≡ set_bits (nodes_in N l) n
  unfolding rank
  count-is = sum_same ((nodes_in N l).bit n) (bit loaded) 256 bit_is

-- a bit is set where they are not 0
module _ (v : Nodes) (n : ℕ) (bits : (x : ℕ) → v.bit n x < 2) where
  some-set : 0 < set_bits v n → NonEmpty v n
  some-set h = let w : Nth (v.bit n) 256 0 = nth (v.bit n) bits 256 0 h in record { at = w.at; small = w.small; is_set = w.is_set }

  none-set : set_bits v n ≡ 0 → NonEmpty v n → ⊥
  none-set e w = omega (arith, sum-le (v.bit n) 256 w.at w.small, w.is_set)

  pub some-told : (none : Bool) → none ≡ eqb (set_bits v n) 0 → Tells (not none) (NonEmpty v n)
  some-told true e = refused (none-set (eqb-true (set_bits v n) 0 (sym e)))
  some-told false e = let z : set_bits v n ≢ 0 = eqb-false (set_bits v n) 0 (sym e) in granted (some-set (omega arith))

  pub set-few : set_bits v n ≤ 256
  set-few = sum-few (v.bit n) 256 (λ x. omega (arith, bits x))
