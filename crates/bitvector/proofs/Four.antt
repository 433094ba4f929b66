-- Four words: their count, whether they are empty, and how they are loaded and stored. A list of four is taken apart. Assumes nothing.
use mathlib.Core.Path.{◌≡◌, refl, sym, ap, ◌∙◌}
use mathlib.Core.List.{List, [], ◌∷◌, ◌++◌}
use Prim.Native.Nat.{ℕ, zero, suc, ◌+◌, ◌/◌, ◌%◌, ◌^◌, ◌≤◌, ◌<◌}
use native.Mathlib.Omega.{arith}
use native.Mathlib.Decide.{ℕ_discrete}
use borrow.Author.Tests.{eq-eqb, ne_eqb}
use lib.Arith.{bin_ind}
use lib.Dec.{eqb}
use lib.ListN.{get_or, set, length, take, drop}
use lib.Bits.{bit_or, or_add_and, and_le_l, and_le_r}
use lib.Count.{ones, ones_step}
use Rattle.region.specs.Bits.{word_bit, bit, rank}
use Rattle.bitvector.specs.Maps.{Made, MadeIn}
use Rattle.bitvector.proofs.WordLaws.{bit-zero}
use Rattle.bitvector.proofs.RankLaws.{rank-zero, rank-word}
use Rattle.bitvector.proofs.Stores.{made_each}

-- the words' counts, in the order in which the code adds them
pub four : (ws : List ℕ) → ((i : ℕ) → get_or ws i 0 < 2 ^ 64)
    → ones (get_or ws 0 0) + ones (get_or ws 1 0) + ones (get_or ws 2 0) + ones (get_or ws 3 0) ≡ rank ws 256
four ws f = omega (arith, rank-zero ws, rank-word ws 0 (f 0), rank-word ws 1 (f 1), rank-word ws 2 (f 2), rank-word ws 3 (f 3))

ones_none : (w : ℕ) → ones w ≡ 0 → w ≡ 0
ones_none = bin_ind (λ (n : ℕ). ones n ≡ 0 → n ≡ 0) (λ e. refl) (λ n ih e.
    let h : n / 2 ≡ 0 = ih (omega (arith, ones_step n)) in
    omega (arith, ones_step n))

ones_of_zero : (w : ℕ) → w ≡ 0 → ones w ≡ 0
unfolding ones
ones_of_zero w e = ap ones e

or-none : (a b : ℕ) → bit_or a b ≡ 0 → (a ≡ 0) × (b ≡ 0)
or-none a b e = omega (arith, or_add_and a b, and_le_l a b, and_le_r a b)

or-of-zeros : (a b : ℕ) → a ≡ 0 → b ≡ 0 → bit_or a b ≡ 0
or-of-zeros a b p q = omega (arith, or_add_and a b)

pub empty-four : (a b c d : ℕ) → eqb (bit_or (bit_or (bit_or a b) c) d) 0 ≡ eqb (ones a + ones b + ones c + ones d) 0
empty-four a b c d = go (ℕ_discrete (bit_or (bit_or (bit_or a b) c) d) 0)
  where
    go : Dec (bit_or (bit_or (bit_or a b) c) d ≡ 0) → eqb (bit_or (bit_or (bit_or a b) c) d) 0 ≡ eqb (ones a + ones b + ones c + ones d) 0
    go (yes e) =
        let abc = or-none (bit_or (bit_or a b) c) d e in
        let ab = or-none (bit_or a b) c abc.0 in
        let aa = or-none a b ab.0 in
        eq-eqb (bit_or (bit_or (bit_or a b) c) d) 0 e
        ∙ sym (eq-eqb (ones a + ones b + ones c + ones d) 0
        (omega (arith, ones_of_zero a aa.0, ones_of_zero b aa.1, ones_of_zero c ab.1, ones_of_zero d abc.1)))
    go (no n) =
        ne_eqb (bit_or (bit_or (bit_or a b) c) d) 0 n
        ∙ sym (ne_eqb (ones a + ones b + ones c + ones d) 0 (λ e. n (all e)))
      where
        all : ones a + ones b + ones c + ones d ≡ 0 → bit_or (bit_or (bit_or a b) c) d ≡ 0
        all e =
            or-of-zeros (bit_or (bit_or a b) c) d
            (or-of-zeros (bit_or a b) c (or-of-zeros a b (ones_none a (omega arith)) (ones_none b (omega arith))) (ones_none c (omega arith)))
            (ones_none d (omega arith))

pub none_of_four : (j : ℕ) → bit (0 ∷ 0 ∷ 0 ∷ 0 ∷ []) j ≡ 0
unfolding bit
none_of_four j = ap (λ (x : ℕ). word_bit x (j % 64)) (nil (j / 64)) ∙ bit-zero (j % 64)
  where
    nil : (i : ℕ) → get_or {A = ℕ} (0 ∷ 0 ∷ 0 ∷ 0 ∷ []) i 0 ≡ 0
    nil zero = refl
    nil (suc zero) = refl
    nil (suc (suc zero)) = refl
    nil (suc (suc (suc zero))) = refl
    nil (suc (suc (suc (suc i)))) = refl

pub load-four : (l : List ℕ) → 4 ≤ length l → (get_or l 0 0 ∷ get_or l 1 0 ∷ get_or l 2 0 ∷ get_or l 3 0 ∷ []) ≡ take 4 l
load-four [] h = absurd (omega arith)
load-four (a ∷ []) h = absurd (omega arith)
load-four (a ∷ b ∷ []) h = absurd (omega arith)
load-four (a ∷ b ∷ c ∷ []) h = absurd (omega arith)
load-four (a ∷ b ∷ c ∷ d ∷ l) h = refl

stored : (l : List ℕ) (a b c d : ℕ) → 4 ≤ length l → set (set (set (set l 0 a) 1 b) 2 c) 3 d ≡ a ∷ b ∷ c ∷ d ∷ drop 4 l
stored [] a b c d h = absurd (omega arith)
stored (x ∷ []) a b c d h = absurd (omega arith)
stored (x ∷ y ∷ []) a b c d h = absurd (omega arith)
stored (x ∷ y ∷ z ∷ []) a b c d h = absurd (omega arith)
stored (x ∷ y ∷ z ∷ w ∷ l) a b c d h = refl

pub store-four : (ws l : List ℕ) → length ws ≡ 4 → 4 ≤ length l
    → set (set (set (set l 0 (get_or ws 0 0)) 1 (get_or ws 1 0)) 2 (get_or ws 2 0)) 3 (get_or ws 3 0) ≡ ws ++ drop 4 l
store-four [] l e h = absurd (omega arith)
store-four (a ∷ []) l e h = absurd (omega arith)
store-four (a ∷ b ∷ []) l e h = absurd (omega arith)
store-four (a ∷ b ∷ c ∷ []) l e h = absurd (omega arith)
store-four (a ∷ b ∷ c ∷ d ∷ []) l e h = stored l a b c d h
store-four (a ∷ b ∷ c ∷ d ∷ x ∷ ws) l e h = absurd (omega arith)

-- four words, each made for itself
pub made-four : (ws : List ℕ) (a b c d i v : ℕ) → length ws ≡ 4 → i < 256
    → MadeIn (get_or ws 0 0) 0 i v a → MadeIn (get_or ws 1 0) 1 i v b → MadeIn (get_or ws 2 0) 2 i v c → MadeIn (get_or ws 3 0) 3 i v d
    → Made ws i v (a ∷ b ∷ c ∷ d ∷ [])
made-four ws a b c d i v e h p q r s = made_each ws (a ∷ b ∷ c ∷ d ∷ []) i v (omega arith) (sym e) (λ k l. each k (omega arith))
  where
    each : (k : ℕ) → k < 4 → MadeIn (get_or ws k 0) k i v (get_or (a ∷ b ∷ c ∷ d ∷ []) k 0)
    each zero l = p
    each (suc zero) l = q
    each (suc (suc zero)) l = r
    each (suc (suc (suc zero))) l = s
    each (suc (suc (suc (suc k)))) l = absurd (omega arith)
