-- A pass over the set bits of a map, lowest first, word by word: `left` is what is left of word j, and up to it every set bit before `from` is passed. Assumes nothing.
use Prim.Native.Nat.{ℕ, ◌+◌, ◌-◌, ◌*◌, ◌≤◌, ◌<◌}
use mathlib.Core.Path.{◌≡◌, refl, sym, ap, ◌∙◌}
use mathlib.Core.Logic.{◌≢◌}
use mathlib.Core.List.{List}
use native.Mathlib.Omega.{arith}
use native.Mathlib.Decide.{ℕ_discrete, dec_lt}
use lib.ListN.{length, get_or}
use Rattle.region.specs.Bits.{word_bit, bit}
use Rattle.bitvector.specs.Maps.{Lowest, Least}
use Rattle.bitvector.proofs.WordLaws.{bit-zero}
use Rattle.bitvector.proofs.RankLaws.{bit-of, bit-out}

-- no bit is set from `from` to word j, and left's bits are that word's from `from` on
pub record Scan (s : List ℕ) (from j left : ℕ) : Type 0 where
  pub inside : j < length s
  pub past : from ≤ j * 64 + 64
  pub none : (q : ℕ) → from ≤ q → q < j * 64 → bit s q ≡ 0
  pub same : (b : ℕ) → b < 64 → from ≤ j * 64 + b → word_bit left b ≡ word_bit (get_or s j 0) b
  pub low : (b : ℕ) → b < 64 → j * 64 + b < from → word_bit left b ≡ 0

pub scan-start : (s : List ℕ) → 0 < length s → Scan s 0 0 (get_or s 0 0)
scan-start s h = record {
  inside = h;
  past = omega arith;
  none = λ q l u. absurd (omega arith);
  same = λ b l a. refl;
  low = λ b l a. absurd (omega arith);
}

module _ {s : List ℕ} {from j left : ℕ} (S : Scan s from j left) where
  -- where left's bits below b are 0, so are those of s from `from` on to there
  clear-to : (b : ℕ) → b ≤ 64 → ((a : ℕ) → a < b → word_bit left a ≡ 0) → (q : ℕ) → from ≤ q → q < j * 64 + b → bit s q ≡ 0
  clear-to b h z q l u = pick (dec_lt q (j * 64))
    where
      pick : Dec (q < j * 64) → bit s q ≡ 0
      pick (yes v) = S.none q l v
      pick (no v) =
          let e : q ≡ j * 64 + (q - j * 64) = omega arith in
          ap (bit s) e ∙ bit-of s j (q - j * 64) (omega arith) ∙ sym (S.same (q - j * 64) (omega arith) (omega arith)) ∙ z (q - j * 64) (omega arith)

  -- nothing is left of the word: on to the next, or to the end
  module _ (e : left ≡ 0) where
    word-clear : (q : ℕ) → from ≤ q → q < j * 64 + 64 → bit s q ≡ 0
    word-clear = clear-to 64 (omega arith) (λ a l. ap (λ (x : ℕ). word_bit x a) e ∙ bit-zero a)

    pub scan-word : j + 1 < length s → Scan s from (j + 1) (get_or s (j + 1) 0)
    scan-word h = record {
      inside = h;
      past = omega (arith, S.past);
      none = λ q l u. word-clear q l (omega arith);
      same = λ b l a. refl;
      low = λ b l a. absurd (omega (arith, S.past));
    }

    pub scan-end : length s ≤ j + 1 → (q : ℕ) → from ≤ q → bit s q ≡ 0
    scan-end h q l = pick (dec_lt q (j * 64 + 64))
      where
        pick : Dec (q < j * 64 + 64) → bit s q ≡ 0
        pick (yes v) = word-clear q l v
        pick (no v) = bit-out s q (omega arith)

  -- something is left: its lowest bit is the next
  module _ (b : ℕ) (low : Lowest left b) where
    from_low : from ≤ j * 64 + b
    from_low = pick (dec_lt (j * 64 + b) from)
      where
        pick : Dec (j * 64 + b < from) → from ≤ j * 64 + b
        pick (yes v) = absurd (omega (arith, low.is_set, S.low b low.small v))
        pick (no v) = omega arith

    pub scan-found : Least s from (j * 64 + b)
    scan-found = record {
      inside = omega (arith, S.inside, low.small);
      past = from_low;
      is_set = bit-of s j b low.small ∙ sym (S.same b low.small from_low) ∙ low.is_set;
      none = clear-to b (omega (arith, low.small)) low.none;
    }

    -- and then it is cleared
    pub scan-taken : (rest : ℕ) → word_bit rest b ≡ 0 → ((a : ℕ) → a ≢ b → word_bit rest a ≡ word_bit left a) → Scan s (j * 64 + b + 1) j rest
    scan-taken rest here other = record {
      inside = S.inside;
      past = omega (arith, low.small);
      none = λ q l u. absurd (omega arith);
      same = λ a l h. other a (λ e. omega arith) ∙ S.same a l (omega (arith, from_low));
      low = λ a l h. cleared a (ℕ_discrete a b) (omega arith);
    }
      where
        cleared : (a : ℕ) → Dec (a ≡ b) → a ≤ b → word_bit rest a ≡ 0
        cleared a (yes e) u = ap (word_bit rest) e ∙ here
        cleared a (no n) u = other a n ∙ low.none a (omega arith)
