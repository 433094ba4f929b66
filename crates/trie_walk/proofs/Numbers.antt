-- The numbers of a word's set bits, poured: the lowest is put first or dropped first, and all are as many as the word has ones. Assumes nothing.
use mathlib.Core.Path.{◌≡◌, sym, ap, ap₂, ◌∙◌}
use mathlib.Core.Logic.{◌≢◌}
use mathlib.Core.List.{List, [], ◌∷◌, ◌++◌}
use Prim.Native.Nat.{ℕ, suc, ◌+◌, ◌-◌, ◌*◌, ◌/◌, ◌%◌, ◌^◌, ◌≤◌, ◌<◌}
use native.Mathlib.Omega.{arith}
use native.Mathlib.Numerals.{add-one}
use lib.Count.{ones}
use lib.ListN.{length, get_or, drop, set}
use lib.Seq.{drop-nil}
use Rattle.region.specs.Bits.{word_bit}
use Rattle.bitvector.specs.Maps.{Lowest}
use Rattle.trie_walk.specs.Pour.{state, poured, not_below}
use Rattle.trie_walk.specs.Words.{behind, numbers_in, behind_all}
use Rattle.trie_walk.proofs.Pours.{poured-put, poured-past, poured-over}
use Rattle.trie_walk.proofs.Onward.{onward-append}
use Rattle.trie_walk.proofs.Behind.{behind-none, behind-same, behind-first, behind-length}

-- w's lowest set bit is k, and r is w without it
pub record Without (w k r : ℕ) : Type 0 where
  pub lowest : Lowest w k
  pub here : word_bit r k ≡ 0
  pub other : (j : ℕ) → j ≢ k → word_bit r j ≡ word_bit w j

module _ {w k r : ℕ} (W : Without w k r) where
  pub first : (g : ℕ → List ℕ) → behind w g ≡ g k ++ behind r g
  first g = behind-first w k r g W.lowest W.here W.other

  -- one fewer
  pub fewer : length (numbers_in w 0) ≡ suc (length (numbers_in r 0))
  fewer = ap length (first (λ j. (0 + j) ∷ []))

  pub put_lowest : (base i : ℕ) (o : List ℕ) → i < length o → poured (numbers_in w base) (state 0 i o) ≡ poured (numbers_in r base) (state 0 (i + 1) (set o i (base + k)))
  put_lowest base i o h =
      ap (λ (xs : List ℕ). poured xs (state 0 i o)) (first (λ j. (base + j) ∷ [])) ∙ poured-put (base + k) (numbers_in r base) i o h
      ∙ ap (λ (n : ℕ). poured (numbers_in r base) (state 0 n (set o i (base + k)))) (sym (add-one i))

  pub drop-lowest : (base s : ℕ) → s ≢ 0 → drop s (numbers_in w base) ≡ drop (s - 1) (numbers_in r base)
  drop-lowest base s h =
      let e : s ≡ suc (s - 1) = omega arith in
      ap₂ drop e (first (λ j. (base + j) ∷ []))

pub none-numbers : (base w : ℕ) → w ≡ 0 → numbers_in w base ≡ []
none-numbers base w e = ap (λ (x : ℕ). numbers_in x base) e ∙ behind-none (λ k. (base + k) ∷ [])

-- a word without a set bit drops nothing
pub none-drop : (base w s : ℕ) → w ≡ 0 → numbers_in w base ≡ drop s (numbers_in w base)
none-drop base w s e = let z : numbers_in w base ≡ [] = none-numbers base w e in z ∙ sym (ap (drop s) z ∙ drop-nil s)

-- all are passed over, by their count
pub pass_all : (w base s i : ℕ) (o : List ℕ) → w < 2 ^ 64 → ones w ≤ s → poured (numbers_in w base) (state s i o) ≡ state (s - ones w) i o
pass_all w base s i o h l =
    let n : length (numbers_in w base) ≡ ones w = behind-length w (λ k. base + k) h in
    poured-over (numbers_in w base) s i o (omega arith) ∙ ap (λ (x : ℕ). state (s - x) i o) n

-- some are passed over, and the others are there
pub pass-some : (w r base s i : ℕ) (o : List ℕ) → w < 2 ^ 64 → s < ones w → numbers_in r base ≡ drop s (numbers_in w base) → poured (numbers_in w base) (state s i o) ≡ poured (numbers_in r base) (state 0 i o)
pass-some w r base s i o h l e =
    let n : length (numbers_in w base) ≡ ones w = behind-length w (λ k. base + k) h in
    let z : s - length (numbers_in w base) ≡ 0 = omega arith in
    poured-past (numbers_in w base) s i o ∙ ap₂ (λ (xs : List ℕ) (k : ℕ). poured xs (state k i o)) (sym e) z

-- Words behind each other, one taken off

-- all words are left
pub start-words : (ws : ℕ → ℕ) (g : ℕ → List ℕ) (n : ℕ) → behind_all ws g 0 (n - 0) ≡ behind_all ws g 0 n
start-words ws g n = let z : n - 0 ≡ n = omega arith in ap (behind_all ws g 0) z

-- no word is left
pub no_words : (ws : ℕ → ℕ) (g : ℕ → List ℕ) (e n : ℕ) → n ≤ e → behind_all ws g e (n - e) ≡ []
no_words ws g e n h = let z : n - e ≡ 0 = omega arith in ap (behind_all ws g e) z

pub next_word : (ws : ℕ → ℕ) (g : ℕ → List ℕ) (e n : ℕ) → e < n → behind_all ws g e (n - e) ≡ behind (ws e) (λ k. g (e * 64 + k)) ++ behind_all ws g (e + 1) (n - (e + 1))
next_word ws g e n h =
    let z : n - e ≡ suc (n - (e + 1)) = omega arith in
    ap (behind_all ws g e) z ∙ ap (λ (i : ℕ). behind (ws e) (λ k. g (e * 64 + k)) ++ behind_all ws g i (n - (e + 1))) (sym (add-one e))

-- a word without a set bit adds nothing
pub empty-word : (ws : ℕ → ℕ) (g : ℕ → List ℕ) (e n : ℕ) → e < n → ws e ≡ 0 → behind_all ws g e (n - e) ≡ behind_all ws g (e + 1) (n - (e + 1))
empty-word ws g e n h z =
    next_word ws g e n h ∙ ap (λ (xs : List ℕ). xs ++ behind_all ws g (e + 1) (n - (e + 1))) (ap (λ (w : ℕ). behind w (λ k. g (e * 64 + k))) z ∙ behind-none (λ k. g (e * 64 + k)))

-- the suffixes of n words of the last level, from word e on
abbrev pub suffixes_from : List ℕ → List ℕ → ℕ → ℕ → List ℕ
suffixes_from maps leads n e = behind_all (λ j. get_or maps j 0) (λ x. (get_or leads (x / 256) 0 * 256 + x % 256) ∷ []) e (n - e)

-- those of word e, and then those of the words behind it
pub next-suffixes : (maps leads : List ℕ) (from e n s i : ℕ) (o : List ℕ) → e < n
    → poured (not_below from (suffixes_from maps leads n e)) (state s i o) ≡ poured (not_below from (suffixes_from maps leads n (e + 1))) (poured (not_below from (numbers_in (get_or maps e 0) (get_or leads (e / 4) 0 * 256 + e % 4 * 64))) (state s i o))
next-suffixes maps leads from e n s i o h =
    ap (λ (xs : List ℕ). poured (not_below from xs) (state s i o)) (next_word ws g e n h ∙ ap (λ (xs : List ℕ). xs ++ rest) (behind-same (get_or maps e 0) (λ k. (base + k) ∷ []) (λ k. g (e * 64 + k)) same))
    ∙ onward-append from (numbers_in (get_or maps e 0) base) rest (state s i o)
  where
    ws : ℕ → ℕ
    ws j = get_or maps j 0

    g : ℕ → List ℕ
    g x = (get_or leads (x / 256) 0 * 256 + x % 256) ∷ []

    base : ℕ
    base = get_or leads (e / 4) 0 * 256 + e % 4 * 64

    rest : List ℕ
    rest = behind_all ws g (e + 1) (n - (e + 1))

    same : (k : ℕ) → k < 64 → g (e * 64 + k) ≡ (base + k) ∷ []
    same k l =
        let q : (e * 64 + k) / 256 ≡ e / 4 = omega arith in
        let r : (e * 64 + k) % 256 ≡ e % 4 * 64 + k = omega arith in
        ap₂ (λ (x y : ℕ). (get_or leads x 0 * 256 + y) ∷ []) q r ∙ ap (λ (x : ℕ). x ∷ []) (omega arith)
