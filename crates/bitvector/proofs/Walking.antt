-- A walk over the words of a map, from one set bit to the next. Assumes nothing.
use mathlib.Core.Path.{◌≡◌, refl, sym, ap, ◌∙◌, subst}
use mathlib.Core.Logic.{◌≢◌}
use mathlib.Core.List.{List}
use Prim.Native.Nat.{ℕ, zero, suc, ◌+◌, ◌-◌, ◌*◌, ◌≤◌, ◌<◌}
use native.Mathlib.Nat.{add-zero, add-suc}
use native.Mathlib.Omega.{arith}
use native.Mathlib.Decide.{ℕ_discrete, dec_lt}
use lib.ListN.{get_or, set, length, length-set}
use lib.Seq.{get_or-set_same, get_or-set_other}
use Rattle.region.specs.Bits.{word_bit, bit, rank}
use Rattle.bitvector.specs.Maps.{Lowest, WalkedInto, WalkedTo, WordWalked}
use Rattle.bitvector.proofs.WordLaws.{bit-zero}
use Rattle.bitvector.proofs.RankLaws.{bit-of, rank-zero, rank-suc, rank-clear, rank-next}

-- the count does not fall
rank_up : (ws : List ℕ) (a d : ℕ) → rank ws a ≤ rank ws (a + d)
rank_up ws a zero = let e : rank ws (a + 0) ≡ rank ws a = ap (rank ws) (add-zero a) in omega (arith, e)
rank_up ws a (suc d) = let e : rank ws (a + suc d) ≡ rank ws (suc (a + d)) = ap (rank ws) (add-suc a d) in omega (arith, e, rank-suc ws (a + d), rank_up ws a d)

-- below a place, a set bit's own count is smaller
rank-under : (ws : List ℕ) (x m : ℕ) → x < m → bit ws x ≡ 1 → rank ws x < rank ws m
rank-under ws x m l e =
    let z : m ≡ suc x + (m - suc x) = omega arith in
    let u : rank ws m ≡ rank ws (suc x + (m - suc x)) = ap (rank ws) z in
    omega (arith, u, rank_up ws (suc x) (m - suc x), rank-suc ws x)

-- before the first bit
pub walked_none : (ws out : List ℕ) → WalkedTo ws 0 out 0 out
walked_none ws out = record { number = sym (rank-zero ws); here = λ x l e. absurd (omega arith); stays = λ j h. refl; same_length = refl }

module _ {ws out mid : List ℕ} {m n : ℕ} (W : WalkedTo ws m out n mid) where
  -- over clear bits
  pub walked-over : (e : ℕ) → m ≤ e → ((j : ℕ) → m ≤ j → j < e → bit ws j ≡ 0) → WalkedTo ws e out n mid
  walked-over e h z = record { number = W.number ∙ sym (rank-clear ws m e h z); here = λ x l s. go x l s (dec_lt x m); stays = W.stays; same_length = W.same_length }
    where
      go : (x : ℕ) → x < e → bit ws x ≡ 1 → Dec (x < m) → get_or mid (rank ws x) 0 ≡ x
      go x l s (yes u) = W.here x u s
      go x l s (no u) = absurd (omega (arith, z x (omega arith) l))

  -- past the next set bit, which is written
  pub walked_next : (i : ℕ) → m ≤ i → bit ws i ≡ 1 → ((j : ℕ) → m ≤ j → j < i → bit ws j ≡ 0) → n < length mid → WalkedTo ws (i + 1) out (n + 1) (set mid n i)
  walked_next i h s z l = record {
    number = ap (λ (x : ℕ). x + 1) W.number ∙ sym (rank-next ws m i h s z);
    here = λ x u e. go x u e (ℕ_discrete x i);
    stays = λ j u. get_or-set_other mid n j i 0 (λ e. omega arith) ∙ W.stays j (omega arith);
    same_length = length-set mid n i ∙ W.same_length;
  }
    where
      own : rank ws i ≡ n
      own = rank-clear ws m i h z ∙ sym W.number

      go : (x : ℕ) → x < i + 1 → bit ws x ≡ 1 → Dec (x ≡ i) → get_or (set mid n i) (rank ws x) 0 ≡ x
      go x u e (yes q) = ap (λ (y : ℕ). get_or (set mid n i) (rank ws y) 0) q ∙ ap (λ (y : ℕ). get_or (set mid n i) y 0) own ∙ get_or-set_same mid n i 0 l ∙ sym q
      go x u e (no q) =
          let b : x < i = omega arith in
          get_or-set_other mid n (rank ws x) i 0 (λ g. omega (arith, own, rank-under ws x i b e)) ∙ (walked-over i h z).here x b e

-- all 256 bits
pub walked_all : (ws out out' : List ℕ) (n : ℕ) → WalkedTo ws 256 out n out' → WalkedInto ws out n out'
walked_all ws out out' n W = record { number = W.number; here = W.here; stays = W.stays; same_length = W.same_length }

-- what is left of the word w once its bits below cut are written, `at` having been the place of the first
pub record Standing (w base at : ℕ) (mid : List ℕ) (left n : ℕ) (out' : List ℕ) : Type 0 where
  pub cut : ℕ
  pub small : cut ≤ 64
  pub few : n ≤ at + cut
  pub low : (b : ℕ) → b < cut → word_bit left b ≡ 0
  pub high : (b : ℕ) → cut ≤ b → word_bit left b ≡ word_bit w b
  pub on : (ws out : List ℕ) (q : ℕ) → get_or ws q 0 ≡ w → q * 64 ≡ base → WalkedTo ws base out at mid → WalkedTo ws (base + cut) out n out'

-- nothing is written yet
pub standing-start : (w base at : ℕ) (mid : List ℕ) → Standing w base at mid w at mid
standing-start w base at mid = record {
  cut = 0;
  small = omega arith;
  few = omega arith;
  low = λ b h. absurd (omega arith);
  high = λ b h. refl;
  on = λ ws out q e f W. let z : base ≡ base + 0 = omega arith in subst (λ (m : ℕ). WalkedTo ws m out at mid) z W;
}

-- a bit of the map, by its word
in-word : (ws : List ℕ) (q base w b : ℕ) → get_or ws q 0 ≡ w → q * 64 ≡ base → b < 64 → bit ws (base + b) ≡ word_bit w b
in-word ws q base w b e f h = ap (λ (m : ℕ). bit ws (m + b)) (sym f) ∙ bit-of ws q b h ∙ ap (λ (x : ℕ). word_bit x b) e

module _ {w base at left n : ℕ} {mid out' : List ℕ} (S : Standing w base at mid left n out') where
  -- where what is left has no bit below b, the map has none from the cut to there
  clear-to : (ws : List ℕ) (q b : ℕ) → get_or ws q 0 ≡ w → q * 64 ≡ base → b ≤ 64 → ((a : ℕ) → a < b → word_bit left a ≡ 0)
      → (j : ℕ) → base + S.cut ≤ j → j < base + b → bit ws j ≡ 0
  clear-to ws q b e f h z j l u =
      let g : j ≡ base + (j - base) = omega arith in
      ap (bit ws) g ∙ in-word ws q base w (j - base) e f (omega arith) ∙ sym (S.high (j - base) (omega arith)) ∙ z (j - base) (omega arith)

  -- the lowest bit that is left is not below the cut
  cut-le : (k : ℕ) → Lowest left k → S.cut ≤ k
  cut-le k L = go (dec_lt k S.cut)
    where
      go : Dec (k < S.cut) → S.cut ≤ k
      go (yes h) = absurd (omega (arith, S.low k h, L.is_set))
      go (no h) = omega arith

  -- while a bit is left, fewer than 64 are written
  pub standing-few : (k : ℕ) → Lowest left k → n < at + 64
  standing-few k L = omega (arith, cut-le k L, L.small, S.few)

  -- the lowest bit is written
  pub standing-next : (k r : ℕ) → Lowest left k → word_bit r k ≡ 0 → ((j : ℕ) → j ≢ k → word_bit r j ≡ word_bit left j) → n < length out'
      → Standing w base at mid r (n + 1) (set out' n (base + k))
  standing-next k r L here other h = record {
    cut = k + 1;
    small = omega (arith, L.small);
    few = omega (arith, S.few, cut-le k L);
    low = λ b u. lows b u (ℕ_discrete b k);
    high = λ b u. other b (λ e. omega arith) ∙ S.high b (omega (arith, cut-le k L));
    on = λ ws out q e f W.
        let z : base + k + 1 ≡ base + (k + 1) = omega arith in
        subst (λ (m : ℕ). WalkedTo ws m out (n + 1) (set out' n (base + k))) z
        (walked_next (S.on ws out q e f W) (base + k) (omega (arith, cut-le k L))
        (in-word ws q base w k e f L.small ∙ sym (S.high k (cut-le k L)) ∙ L.is_set)
        (clear-to ws q k e f (omega (arith, L.small)) L.none) h);
  }
    where
      lows : (b : ℕ) → b < k + 1 → Dec (b ≡ k) → word_bit r b ≡ 0
      lows b u (yes e) = ap (word_bit r) e ∙ here
      lows b u (no e) = other b e ∙ L.none b (omega arith)

  -- nothing is left
  pub standing-end : left ≡ 0 → (ws out : List ℕ) (q : ℕ) → get_or ws q 0 ≡ w → q * 64 ≡ base → WalkedTo ws base out at mid → WalkedTo ws (base + 64) out n out'
  standing-end z ws out q e f W =
      walked-over (S.on ws out q e f W) (base + 64) (omega (arith, S.small))
      (clear-to ws q 64 e f (omega arith) (λ a h. ap (λ (x : ℕ). word_bit x a) z ∙ bit-zero a))

-- four words, one after the other
pub walked-four : (ws out o₁ o₂ o₃ o₄ : List ℕ) (n₁ n₂ n₃ n₄ : ℕ) → WordWalked (get_or ws 0 0) 0 0 out n₁ o₁ → WordWalked (get_or ws 1 0) 64 n₁ o₁ n₂ o₂
    → WordWalked (get_or ws 2 0) 128 n₂ o₂ n₃ o₃ → WordWalked (get_or ws 3 0) 192 n₃ o₃ n₄ o₄ → WalkedInto ws out n₄ o₄
walked-four ws out o₁ o₂ o₃ o₄ n₁ n₂ n₃ n₄ a b c d =
    walked_all ws out o₄ n₄ (d ws out 3 refl refl (c ws out 2 refl refl (b ws out 1 refl refl (a ws out 0 refl refl (walked_none ws out)))))
