-- A word stored in a list of words: what it does to one bit, it does to the list's. Assumes nothing.
use mathlib.Core.Path.{◌≡◌, refl, sym, ap, ◌∙◌}
use mathlib.Core.Logic.{◌≢◌}
use mathlib.Core.List.{List}
use Prim.Native.Nat.{ℕ, ◌*◌, ◌/◌, ◌%◌, ◌<◌}
use native.Mathlib.Omega.{arith}
use native.Mathlib.Decide.{ℕ_discrete, dec_lt}
use lib.ListN.{get_or, set, length, length-set, get_or-eq_default}
use lib.Seq.{get_or-set_same, get_or-set_other}
use Rattle.region.specs.Bits.{word_bit, bit}
use Rattle.bitvector.specs.Maps.{Made, MadeIn}

-- word i / 64 differs in bit i % 64 alone, and no other word differs
made_by : (ws after : List ℕ) (i v : ℕ) → length after ≡ length ws → word_bit (get_or after (i / 64) 0) (i % 64) ≡ v
    → ((b : ℕ) → b ≢ i % 64 → word_bit (get_or after (i / 64) 0) b ≡ word_bit (get_or ws (i / 64) 0) b)
    → ((k : ℕ) → k ≢ i / 64 → get_or after k 0 ≡ get_or ws k 0) → Made ws i v after
unfolding bit
made_by ws after i v l e f g = record { long = l; here = e; other = others; words = g }
  where
    others : (j : ℕ) → j ≢ i → bit after j ≡ bit ws j
    others j n = go (ℕ_discrete (j / 64) (i / 64))
      where
        go : Dec (j / 64 ≡ i / 64) → bit after j ≡ bit ws j
        go (yes q) =
            ap (λ (k : ℕ). word_bit (get_or after k 0) (j % 64)) q ∙ f (j % 64) (λ r. n (omega arith))
            ∙ ap (λ (k : ℕ). word_bit (get_or ws k 0) (j % 64)) (sym q)
        go (no q) = ap (λ (w : ℕ). word_bit w (j % 64)) (g (j / 64) q)

-- a word w' that differs from word i / 64 in bit i % 64 alone is stored there
pub made : (ws : List ℕ) (i v w' : ℕ) → i < length ws * 64 → word_bit w' (i % 64) ≡ v
    → ((b : ℕ) → b ≢ i % 64 → word_bit w' b ≡ word_bit (get_or ws (i / 64) 0) b) → Made ws i v (set ws (i / 64) w')
made ws i v w' h e f =
    made_by ws (set ws (i / 64) w') i v (length-set ws (i / 64) w') (ap (λ (w : ℕ). word_bit w (i % 64)) stored ∙ e)
    (λ b n. ap (λ (w : ℕ). word_bit w b) stored ∙ f b n) (λ k n. get_or-set_other ws (i / 64) k w' 0 n)
  where
    stored : get_or (set ws (i / 64) w') (i / 64) 0 ≡ w'
    stored = get_or-set_same ws (i / 64) w' 0 (omega arith)

-- each word is made for itself
pub made_each : (ws after : List ℕ) (i v : ℕ) → i < length ws * 64 → length after ≡ length ws
    → ((k : ℕ) → k < length ws → MadeIn (get_or ws k 0) k i v (get_or after k 0)) → Made ws i v after
made_each ws after i v h l m =
    made_by ws after i v l ((m (i / 64) (omega arith)).here refl) ((m (i / 64) (omega arith)).other refl) (λ k n. go k n (dec_lt k (length ws)))
  where
    go : (k : ℕ) → k ≢ i / 64 → Dec (k < length ws) → get_or after k 0 ≡ get_or ws k 0
    go k n (yes u) = (m k u).word (λ e. n (sym e))
    go k n (no u) = get_or-eq_default after 0 (omega arith) ∙ sym (get_or-eq_default ws 0 (omega arith))

-- a bit that is made 1 leaves the set ones set
pub kept-one : {ws after : List ℕ} {i : ℕ} → Made ws i 1 after → (j : ℕ) → bit ws j ≡ 1 → bit after j ≡ 1
kept-one {ws} {after} {i} M j e = go (ℕ_discrete j i)
  where
    go : Dec (j ≡ i) → bit after j ≡ 1
    go (yes q) = ap (bit after) q ∙ M.here
    go (no n) = M.other j n ∙ e
