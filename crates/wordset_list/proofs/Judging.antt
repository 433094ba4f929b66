-- The first entry that fails a test, found from the front; a word of p + s bits by two shifts or by a bound; bits joined. Assumes nothing.
use mathlib.Core.Path.{◌≡◌, refl, sym, ap, ◌∙◌, subst}
use mathlib.Core.Bool.{Bool, true, false, not, ◌&&◌}
use mathlib.Core.List.{List, [], ◌∷◌, ◌++◌}
use Prim.Native.Nat.{ℕ, zero, suc, ◌+◌, ◌*◌, ◌/◌, ◌%◌, ◌^◌, ◌≤◌, ◌<◌}
use native.Mathlib.Omega.{arith}
use native.Mathlib.Nat.{mod-lt, one-mul}
use native.Mathlib.Decide.{dec_lt}
use lib.Bits.{bit_or, or_add_and}
use lib.Dec.{eqb, ltb}
use lib.ListN.{length, get_or}
use lib.Pow.{pow_pos, shr-shr, shr_lt, split}
use borrow.Author.Tests.{lt-ltb, le-ltb, lt-leb, le-leb, ltb-true, ltb-false, eqb-true, eqb-false, eq-eqb}
use Rattle.lists.specs.Lists.{first_bad, all}
use Rattle.lists.proofs.Laws.{by-test, and_both, both-and, iff-eq}
use Rattle.model.specs.Words.{is_word}
use Rattle.model.specs.Commands.{known_code}
use Rattle.bitvector.proofs.WordLaws.{shl_one}
use Rattle.strip.proofs.BoundLaws.{places-all, or_above}

module _ (t : ℕ → Bool) where
  -- a first entry that passes is passed over
  at-start : (x : ℕ) (xs : List ℕ) → t x ≡ true → first_bad t (x ∷ xs) ≡ suc (first_bad t xs)
  at-start x xs e = rw e

  -- a first entry that fails is the one
  at-bad : (x : ℕ) (xs : List ℕ) → t x ≡ false → first_bad t (x ∷ xs) ≡ 0
  at-bad x xs e = rw e

  -- where the first is past the end, each entry passes
  pub passes : (xs : List ℕ) (i : ℕ) → length xs ≤ first_bad t xs → i < length xs → t (get_or xs i 0) ≡ true
  passes [] i l h = absurd (omega arith)
  passes (x ∷ xs) zero l h = by-test (t x) (λ e. e) (λ e. absurd (omega (arith, at-bad x xs e)))
  passes (x ∷ xs) (suc i) l h = by-test (t x) (λ e. passes xs i (omega (arith, at-start x xs e)) (omega arith)) (λ e. absurd (omega (arith, at-bad x xs e)))

  -- where each entry passes, the first that fails is past the end
  pub past_end : (xs : List ℕ) → ((i : ℕ) → i < length xs → t (get_or xs i 0) ≡ true) → length xs ≤ first_bad t xs
  past_end [] h = omega arith
  past_end (x ∷ xs) h = omega (arith, at-start x xs (h 0 (omega arith)), past_end xs (λ i k. h (suc i) (omega arith)))

  -- where each of two lists in a row passes, each of either does
  pub both-pass : (xs ys : List ℕ) → length (xs ++ ys) ≤ first_bad t (xs ++ ys) → (length xs ≤ first_bad t xs) × (length ys ≤ first_bad t ys)
  both-pass [] ys h = (omega arith, h)
  both-pass (x ∷ xs) ys h =
      by-test (t x)
      (λ e. let r = both-pass xs ys (omega (arith, h, at-start x (xs ++ ys) e)) in (omega (arith, r.0, at-start x xs e), r.1))
      (λ e. absurd (omega (arith, h, at-bad x (xs ++ ys) e)))

  -- where all pass, the first that fails is the end
  pub none-bad : (xs : List ℕ) → all t xs ≡ true → length xs ≡ first_bad t xs
  none-bad [] e = refl
  none-bad (x ∷ xs) e = let b = and_both (t x) (all t xs) e in omega (arith, at-start x xs b.0, none-bad xs b.1)

-- a code above 2 is not known
pub known-apart : (x : ℕ) → known_code x ≡ not (ltb 2 x)
known-apart x = by-test (ltb 2 x) (λ e. rw e (lt-leb x 2 (ltb-true 2 x e))) (λ e. rw e (le-leb x 2 (ltb-false 2 x e)))

-- nothing is left above p + s bits: a word of the set
small_word : (w p s : ℕ) → w / 2 ^ s / 2 ^ p ≡ 0 → is_word p s w ≡ true
small_word w p s e =
    let z : w / 2 ^ (s + p) ≡ 0 = sym (shr-shr w s p) ∙ e in
    let f : 0 * 2 ^ (s + p) + w % 2 ^ (s + p) ≡ w = ap (λ (q : ℕ). q * 2 ^ (s + p) + w % 2 ^ (s + p)) (sym z) ∙ split w (s + p) in
    let m : w % 2 ^ (s + p) < 2 ^ (s + p) = mod-lt w (pow_pos (s + p)) in
    let k : s + p ≡ p + s = omega arith in
    lt-ltb w (2 ^ (p + s)) (subst (λ (b : ℕ). w < 2 ^ b) k (omega arith))

-- something is left: too large
large-word : (w p s : ℕ) → (w / 2 ^ s / 2 ^ p ≡ 0 → ⊥) → is_word p s w ≡ false
large-word w p s h = by-lt (dec_lt w (2 ^ (p + s)))
  where
    by-lt : Dec (w < 2 ^ (p + s)) → is_word p s w ≡ false
    by-lt (yes l) = absurd (h (let k : 0 + p ≡ p = omega arith in let z : w / 2 ^ s / 2 ^ p < 2 ^ 0 = shr_lt 0 p (subst (λ (b : ℕ). w / 2 ^ s < 2 ^ b) (sym k) (shr_lt p s l)) in omega arith))
    by-lt (no n) = le-ltb w (2 ^ (p + s)) (omega arith)

-- a word is one of the set where both shifts leave nothing of it
pub fits-shifted : (w p s : ℕ) → is_word p s w ≡ not (not (eqb (w / 2 ^ s / 2 ^ p) 0))
fits-shifted w p s = by-test (eqb (w / 2 ^ s / 2 ^ p) 0) (λ e. rw e (small_word w p s (eqb-true (w / 2 ^ s / 2 ^ p) 0 e))) (λ e. rw e (large-word w p s (eqb-false (w / 2 ^ s / 2 ^ p) 0 e)))

-- no word of a machine has more than 64 bits
pub none-large-64 : (words : List ℕ) (p s : ℕ) → p + s ≡ 64 → ((i : ℕ) → get_or words i 0 < 2 ^ 64) → length words ≡ first_bad (is_word p s) words
none-large-64 words p s e fits =
    none-bad (is_word p s) words (places-all (is_word p s) words (λ i h. lt-ltb (get_or words i 0) (2 ^ (p + s)) (subst (λ (k : ℕ). get_or words i 0 < 2 ^ k) (sym e) (fits i))))

-- all words are below the bound as the code makes it: none is too large
pub none-large : (words : List ℕ) (p s : ℕ) → p + s < 64 → all (λ x. ltb x ((1 * 2 ^ (p + s)) % 2 ^ 64)) words ≡ true → length words ≡ first_bad (is_word p s) words
none-large words p s h e =
    let b : (1 * 2 ^ (p + s)) % 2 ^ 64 ≡ 2 ^ (p + s) = shl_one (p + s) h ∙ one-mul (2 ^ (p + s)) in
    none-bad (is_word p s) words (ap (λ (k : ℕ). all (λ x. ltb x k) words) (sym b) ∙ e)

-- joined bits are 0 if both numbers are
pub or-none : (a b : ℕ) → eqb (bit_or a b) 0 ≡ (eqb a 0 && eqb b 0)
or-none a b = iff-eq (eqb (bit_or a b) 0) (eqb a 0 && eqb b 0) apart together
  where
    apart : eqb (bit_or a b) 0 ≡ true → (eqb a 0 && eqb b 0) ≡ true
    apart e =
        let o = or_above a b in
        let z : bit_or a b ≡ 0 = eqb-true (bit_or a b) 0 e in
        both-and (eqb a 0) (eqb b 0) (eq-eqb a 0 (omega arith)) (eq-eqb b 0 (omega arith))

    together : (eqb a 0 && eqb b 0) ≡ true → eqb (bit_or a b) 0 ≡ true
    together e =
        let t = and_both (eqb a 0) (eqb b 0) e in
        eq-eqb (bit_or a b) 0 (omega (arith, eqb-true a 0 t.0, eqb-true b 0 t.1, or_add_and a b))
