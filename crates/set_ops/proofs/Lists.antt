-- The words that qualify, piece by piece: of a strip, of a trie's chunks, of the containers by rank. Assumes nothing.
use Rattle.std.proofs.Common.{◌≡◌, ℕ, zero, suc, ◌+◌, ◌-◌, ◌<◌, ◌≤◌, Bool, true, false, cond, ◌&&◌, eqb, ◌≢◌, List, [], ◌∷◌, ◌++◌, map, length, get_or, take, drop, sym, refl, ap, ◌∙◌, append_assoc, append-nil, add-zero, add-suc, arith, length-drop, take-append-drop, take_all, take-suc, take-add, eq-eqb, ne_eqb}
use Rattle.lists.specs.Lists.{each, keep, up_to}
use Rattle.model.specs.Words.{joined}
use Rattle.model.specs.Reading.{Container, container_words, words_of}
use Rattle.trie_walk.specs.Pour.{window}
use Rattle.set_ops.specs.Poured.{qualifying}

-- what two lists keep, one after the other
pub keep_append : (t : ℕ → Bool) (xs ys : List ℕ) → keep t (xs ++ ys) ≡ keep t xs ++ keep t ys
keep_append t [] ys = refl
keep_append t (x ∷ xs) ys = go (t x) (keep_append t xs ys)
  where
    go : (b : Bool) → keep t (xs ++ ys) ≡ keep t xs ++ keep t ys → cond b (x ∷ keep t (xs ++ ys)) (keep t (xs ++ ys)) ≡ cond b (x ∷ keep t xs) (keep t xs) ++ keep t ys
    go true e = ap (λ (zs : List ℕ). x ∷ zs) e
    go false e = e

pub map-append : (f : ℕ → ℕ) (xs ys : List ℕ) → map f (xs ++ ys) ≡ map f xs ++ map f ys
map-append f [] ys = refl
map-append f (x ∷ xs) ys = ap (λ (zs : List ℕ). f x ∷ zs) (map-append f xs ys)

words_append : (S : ℕ) (cs ds : List Container) → words_of S (cs ++ ds) ≡ words_of S cs ++ words_of S ds
words_append S [] ds = refl
words_append S (c ∷ cs) ds = ap (λ (zs : List ℕ). container_words S c ++ zs) (words_append S cs ds) ∙ sym (append_assoc (container_words S c) (words_of S cs) (words_of S ds))

module _ (t : ℕ → Bool) (S p : ℕ) where
  -- the words of two pieces
  pub qualifying-append : (xs ys : List ℕ) → qualifying t S p (xs ++ ys) ≡ qualifying t S p xs ++ qualifying t S p ys
  qualifying-append xs ys = ap (keep t) (map-append (joined S p) xs ys) ∙ keep_append t (map (joined S p) xs) (map (joined S p) ys)

  -- one more entry of a strip
  pub one_more : (ss : List ℕ) (i w : ℕ) → i < length ss → w ≡ joined S p (get_or ss i 0) → qualifying t S p (take (suc i) ss) ≡ qualifying t S p (take i ss) ++ keep t (w ∷ [])
  one_more ss i w h e =
      ap (qualifying t S p) (take-suc ss i 0 h) ∙ qualifying-append (take i ss) (get_or ss i 0 ∷ [])
      ∙ ap (λ (z : ℕ). qualifying t S p (take i ss) ++ keep t (z ∷ [])) (sym e)

  -- what is left behind n entries
  pub with_rest : (ss : List ℕ) (n : ℕ) → qualifying t S p ss ≡ qualifying t S p (take n ss) ++ qualifying t S p (drop n ss)
  with_rest ss n = ap (qualifying t S p) (sym (take-append-drop n ss)) ∙ qualifying-append (take n ss) (drop n ss)

  -- one more chunk of a trie
  pub chunk-more : (ss : List ℕ) (i n : ℕ) → qualifying t S p (take (i + n) ss) ≡ qualifying t S p (take i ss) ++ qualifying t S p (window i n ss)
  chunk-more ss i n = ap (qualifying t S p) (take-add i n ss) ∙ qualifying-append (take i ss) (window i n ss)

  -- the last chunk
  pub chunk-last : (ss : List ℕ) (i n : ℕ) → length ss - i ≤ n → qualifying t S p ss ≡ qualifying t S p (take i ss) ++ qualifying t S p (window i n ss)
  chunk-last ss i n h = with_rest ss i ∙ ap (λ (zs : List ℕ). qualifying t S p (take i ss) ++ qualifying t S p zs) (sym (take_all n (drop i ss) (omega (arith, length-drop i ss))))

module _ (t : ℕ → Bool) (S : ℕ) (f : ℕ → Container) where
  -- one more container
  pub rank-more : (r : ℕ) → keep t (words_of S (up_to f (suc r))) ≡ keep t (words_of S (up_to f r)) ++ keep t (container_words S (f r))
  unfolding each
  rank-more r =
      ap (keep t) (words_append S (up_to f r) (f r ∷ []) ∙ ap (λ (zs : List ℕ). words_of S (up_to f r) ++ zs) (append-nil (container_words S (f r))))
      ∙ keep_append t (words_of S (up_to f r)) (container_words S (f r))

  split : (r d : ℕ) → up_to f (r + d) ≡ up_to f r ++ up_to (λ i. f (r + i)) d
  unfolding each
  split r zero = ap (up_to f) (add-zero r) ∙ sym (append-nil (up_to f r))
  split r (suc d) =
      ap (up_to f) (add-suc r d) ∙ ap (λ (zs : List Container). zs ++ (f (r + d) ∷ [])) (split r d)
      ∙ append_assoc (up_to f r) (up_to (λ i. f (r + i)) d) (f (r + d) ∷ [])

  -- what is left behind r containers of k
  pub rank-rest : (r k : ℕ) → r ≤ k → keep t (words_of S (up_to f k)) ≡ keep t (words_of S (up_to f r)) ++ keep t (words_of S (up_to (λ i. f (r + i)) (k - r)))
  rank-rest r k h =
      let e : k ≡ r + (k - r) = omega arith in
      ap (λ (z : ℕ). keep t (words_of S (up_to f z))) e
      ∙ ap (λ (cs : List Container). keep t (words_of S cs)) (split r (k - r))
      ∙ ap (keep t) (words_append S (up_to f r) (up_to (λ i. f (r + i)) (k - r)))
      ∙ keep_append t (words_of S (up_to f r)) (words_of S (up_to (λ i. f (r + i)) (k - r)))

-- Whether two sets agree, by two tests

-- P differs
pub agree-no : (p q P Q : ℕ) (b : Bool) → p ≡ P → q ≡ Q → p ≢ q → false ≡ (eqb P Q && b)
agree-no p q P Q b e f ne = rw (ne_eqb P Q (λ z. ne (e ∙ z ∙ sym f)))

-- P agrees, so S decides
pub agree-yes : (p q P Q s u S U : ℕ) → p ≡ P → q ≡ Q → p ≡ q → s ≡ S → u ≡ U → eqb s u ≡ (eqb P Q && eqb S U)
agree-yes p q P Q s u S U e f h g k = rw (eq-eqb P Q (sym e ∙ h ∙ f)) (ap (λ (z : ℕ). eqb z u) g ∙ ap (eqb S) k)
