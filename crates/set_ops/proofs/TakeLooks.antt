-- Whether a suffix qualifies, as the slot of the other set tells; and the suffixes that do, as the words that do. Assumes nothing.
use Rattle.std.proofs.Common.{◌≡◌, ℕ, zero, suc, ◌+◌, ◌-◌, ◌*◌, ◌^◌, ◌<◌, ◌≤◌, Bool, true, false, cond, eqb, List, [], ◌∷◌, ◌++◌, map, length, get_or, take, set, replicate, sym, refl, ap, ◌∙◌, subst, append-nil, arith, length-set, length-take-le, take_all, get_or-set_other, get_or-take, take-suc, get_or-set_same, take-suc-set, pow_pos, lt-ltb}
use native.Mathlib.Decide.{ℕ_discrete}
use mir.Val.{bool_byte}
use lib.ListN.{get_or-replicate}
use lib.Seq.{take-set-le}
use Rattle.lists.specs.Lists.{keep, mem}
use Rattle.model.specs.Words.{bytes_of, joined}
use Rattle.model.proofs.ContainerLaws.{prefix-joined, suffix-joined}
use Rattle.region.specs.Areas.{numbers}
use Rattle.region.specs.Tries.{members}
use Rattle.region.specs.Seen.{seen}
use Rattle.region.specs.Read.{suffixes, reading}
use Rattle.region.specs.WellFormed.{rank_of, WellFormed}
use Rattle.arena.specs.Arena.{Root, Tries, nodes_in}
use Rattle.trie_look.specs.Each.{answer_at}
use Rattle.wordset_lookup.proofs.Looks.{arena_part, clear-answer, set-answer, trie-ready, trie-says}
use Rattle.set_ops.specs.Poured.{AllSmall, qualifying, wanted_by}
use Rattle.set_ops.proofs.Lists.{keep_append}
use Rattle.set_ops.proofs.Places.{word_small}

-- the test of a suffix, as the code makes it
abbrev pub picks : List ℕ → ℕ → Bool → Bool → ℕ → Bool
picks o d common own s = cond (mem s (suffixes (numbers o) (seen (numbers o) o) d)) common own

-- The test

-- where both sorts qualify alike, the answer does not matter
pub alike-own : (b x y : Bool) → x ≡ y → cond b x y ≡ y
alike-own true x y e = e
alike-own false x y e = refl

module _ {o : List ℕ} (wf : WellFormed o) (p : ℕ) (hp : p < 2 ^ (numbers o).P) (common own : Bool) where
  -- a prefix that is clear has no word
  pub clear-own : (t : Bool) → t ≡ eqb ((seen (numbers o) o).bit p) 1 → t ≡ false → (s : ℕ) → s < 2 ^ (numbers o).S → wanted_by (reading o) common own (joined (numbers o).S p s) ≡ own
  clear-own t et i s h =
      let S : ℕ = (numbers o).S in
      ap (λ (b : Bool). cond b common own) (sym (clear-answer o wf (joined S p s) (word_small (numbers o).P S p s hp h) S refl p (sym (prefix-joined S p s h)) t et i))

  -- the test of a suffix is the test of its word
  pub picks-wanted : (d : ℕ) → (seen (numbers o) o).bit p ≡ 1 → d ≡ (seen (numbers o) o).slot (rank_of (numbers o) (seen (numbers o) o) p)
      → (s : ℕ) → s < 2 ^ (numbers o).S → picks o d common own s ≡ wanted_by (reading o) common own (joined (numbers o).S p s)
  picks-wanted d set at s h =
      let S : ℕ = (numbers o).S in
      ap (λ (b : Bool). cond b common own) (set-answer o wf (joined S p s) (word_small (numbers o).P S p s hp h) S refl p (sym (prefix-joined S p s h)) set d at s (sym (suffix-joined S p s h)) (mem s (suffixes (numbers o) (seen (numbers o) o) d)) refl)

-- Flags

-- the test, by a flag
pub flag-picks : (m x y : Bool) (f k : ℕ) → f ≡ cond m 1 0 → k ≡ cond (cond (eqb f 1) x y) 1 0 → k ≡ cond (cond m x y) 1 0
flag-picks true x y f k e h = h ∙ ap (λ (z : ℕ). cond (cond (eqb z 1) x y) 1 0) e
flag-picks false x y f k e h = h ∙ ap (λ (z : ℕ). cond (cond (eqb z 1) x y) 1 0) e

-- the byte of a test
pub byte-one : (b : Bool) → bool_byte b ≡ cond b 1 0
byte-one true = refl
byte-one false = refl

-- it counts at most one
pub flag_one : (b : Bool) (k : ℕ) → k ≡ cond b 1 0 → k ≤ 1
flag_one true k e = omega arith
flag_one false k e = omega arith

-- the first i suffixes bear flags that say whether xs holds them
pub record Flagged (xs ss fs₀ fs : List ℕ) (i : ℕ) : Type 0 where
  pub upto : i ≤ length ss
  pub long : length fs ≡ length fs₀
  pub says : (j : ℕ) → j < i → get_or fs j 0 ≡ cond (mem (get_or ss j 0) xs) 1 0

-- at first none does
pub flag-start : (xs ss fs : List ℕ) → Flagged xs ss fs fs 0
flag-start xs ss fs = record { upto = omega arith; long = refl; says = λ j h. absurd (omega arith) }

-- one more
pub flag-next : (xs ss fs₀ fs : List ℕ) (i : ℕ) → length ss ≤ length fs₀ → Flagged xs ss fs₀ fs i → i < length ss → (b : Bool) → b ≡ mem (get_or ss i 0) xs → (f : ℕ) → f ≡ cond b 1 0 → Flagged xs ss fs₀ (set fs i f) (i + 1)
flag-next xs ss fs₀ fs i room at h b eb f ef = record { upto = omega arith; long = length-set fs i f ∙ at.long; says = λ j l. pick j l (ℕ_discrete j i) }
  where
    pick : (j : ℕ) → j < i + 1 → Dec (j ≡ i) → get_or (set fs i f) j 0 ≡ cond (mem (get_or ss j 0) xs) 1 0
    pick j l (yes e) = subst (λ (z : ℕ). get_or (set fs i f) z 0 ≡ cond (mem (get_or ss z 0) xs) 1 0) (sym e) (get_or-set_same fs i f 0 (omega (arith, at.long)) ∙ ef ∙ ap (λ (z : Bool). cond z 1 0) eb)
    pick j l (no n) = get_or-set_other fs i j f 0 n ∙ at.says j (omega (arith, n))

module _ (l : List ℕ) (wf : WellFormed l) (d : ℕ) (h : d < (numbers l).C) (k : (seen (numbers l) l).kind d ≡ 2) (n b r : ℕ) (en : n ≡ (numbers l).N) (eb : b ≡ bytes_of (numbers l).S) (er : r ≡ (seen (numbers l) l).link d)
    (ss : List ℕ) (hs : AllSmall (numbers l).S ss) (few : length ss ≤ 64) where
  -- as many roots as suffixes, all the same
  abbrev rs : List ℕ
  rs = take (length ss - 0) (replicate 64 r)

  whole : length ss - 0 ≡ length ss
  whole = omega arith

  long : length rs ≡ length ss
  long = ap (λ (z : ℕ). length (take z (replicate 64 r))) whole ∙ length-take-le (length ss) (replicate 64 r) few

  same : (i : ℕ) → i < length ss → get_or rs i 0 ≡ r
  same i u = ap (λ (z : ℕ). get_or (take z (replicate 64 r)) i 0) whole ∙ get_or-take (length ss) (replicate 64 r) i 0 u ∙ get_or-replicate 64 i r 0 (omega arith)

  root : Root (nodes_in n (arena_part l wf)) n r
  root = (trie-ready l wf d h k n b r en eb er 0 (pow_pos (numbers l).S)).1.0

  -- what asking a trie asks
  pub trie-asks : {X : Type 0} → X
      → Tries n b (arena_part l wf) × ((length ss ≤ 64) × ((length rs ≡ length ss) × (X × (((i : ℕ) → i < length rs → get_or rs i 0 < n → Root (nodes_in n (arena_part l wf)) n (get_or rs i 0)) × ((i : ℕ) → i < length ss → get_or ss i 0 < 2 ^ (8 * b))))))
  trie-asks x =
      let q = trie-ready l wf d h k n b r en eb er 0 (pow_pos (numbers l).S) in
      (q.0, (few, (long, (x, ((λ i u v. subst (Root (nodes_in n (arena_part l wf)) n) (sym (same i (omega (arith, long)))) root), λ i u. (trie-ready l wf d h k n b r en eb er (get_or ss i 0) (hs i u)).1.1.1.1)))))

  -- and what it says
  pub trie-each : (fs₀ fs : List ℕ) → ((i : ℕ) → i < length ss → get_or fs i 0 ≡ answer_at (nodes_in n (arena_part l wf)) n b (get_or rs i 0) (get_or ss i 0) (get_or fs₀ i 0))
      → (i : ℕ) → i < length ss → get_or fs i 0 ≡ cond (mem (get_or ss i 0) (suffixes (numbers l) (seen (numbers l) l) d)) 1 0
  trie-each fs₀ fs says i u =
      says i u ∙ ap (λ (z : ℕ). answer_at (nodes_in n (arena_part l wf)) n b z (get_or ss i 0) (get_or fs₀ i 0)) (same i u)
      ∙ ap (λ (z : Bool). cond z (cond (mem (get_or ss i 0) (members (nodes_in n (arena_part l wf)) b r)) 1 0) (get_or fs₀ i 0)) (lt-ltb r n root.in-range)
      ∙ ap (λ (z : Bool). cond z 1 0) (trie-says l wf d h k n b r en eb er (get_or ss i 0) (mem (get_or ss i 0) (members (nodes_in n (arena_part l wf)) b r)) refl)

-- A block

-- of the first i suffixes, those that qualify are the first n of `kept`
pub record Keeping (u : ℕ → Bool) (ss kept₀ kept : List ℕ) (n i : ℕ) : Type 0 where
  pub upto : i ≤ length ss
  pub few : n ≤ i
  pub long : length kept ≡ length kept₀
  pub written : take n kept ≡ keep u (take i ss)

-- at first none is
pub keep-start : (u : ℕ → Bool) (ss kept : List ℕ) → Keeping u ss kept kept 0 0
keep-start u ss kept = record { upto = omega arith; few = omega arith; long = refl; written = refl }

-- the next suffix, as the test says
more : (u : ℕ → Bool) (ss : List ℕ) (i : ℕ) → i < length ss → (b : Bool) → u (get_or ss i 0) ≡ b → keep u (take (suc i) ss) ≡ keep u (take i ss) ++ cond b (get_or ss i 0 ∷ []) []
more u ss i h b e = ap (keep u) (take-suc ss i 0 h) ∙ keep_append u (take i ss) (get_or ss i 0 ∷ []) ∙ ap (λ (z : Bool). keep u (take i ss) ++ cond z (get_or ss i 0 ∷ []) []) e

-- it is written, and counted if it qualifies
pub keep-next : (u : ℕ → Bool) (ss kept₀ kept : List ℕ) (n i : ℕ) → length ss ≤ length kept₀ → Keeping u ss kept₀ kept n i → i < length ss → (k : ℕ) → k ≡ cond (u (get_or ss i 0)) 1 0 → Keeping u ss kept₀ (set kept n (get_or ss i 0)) (n + k) (i + 1)
keep-next u ss kept₀ kept n i room at h k = go (u (get_or ss i 0)) refl
  where
    z : suc i ≡ i + 1
    z = omega arith

    inside : n < length kept
    inside = omega (arith, at.few, at.long)

    on : (m : ℕ) → m ≤ suc i → take m (set kept n (get_or ss i 0)) ≡ keep u (take (suc i) ss) → Keeping u ss kept₀ (set kept n (get_or ss i 0)) m (i + 1)
    on m f e = subst (λ (j : ℕ). Keeping u ss kept₀ (set kept n (get_or ss i 0)) m j) z record { upto = h; few = f; long = length-set kept n (get_or ss i 0) ∙ at.long; written = e }

    go : (b : Bool) → u (get_or ss i 0) ≡ b → k ≡ cond b 1 0 → Keeping u ss kept₀ (set kept n (get_or ss i 0)) (n + k) (i + 1)
    go true e c =
        let y : suc n ≡ n + k = omega arith in
        subst (λ (m : ℕ). Keeping u ss kept₀ (set kept n (get_or ss i 0)) m (i + 1)) y (on (suc n) (omega (arith, at.few)) (take-suc-set kept n (get_or ss i 0) inside ∙ ap (λ (zs : List ℕ). zs ++ (get_or ss i 0 ∷ [])) at.written ∙ sym (more u ss i h true e)))
    go false e c =
        let y : n ≡ n + k = omega arith in
        subst (λ (m : ℕ). Keeping u ss kept₀ (set kept n (get_or ss i 0)) m (i + 1)) y (on n (omega (arith, at.few)) (take-set-le n kept n (get_or ss i 0) (omega arith) ∙ at.written ∙ sym (append-nil (keep u (take i ss))) ∙ sym (more u ss i h false e)))

-- at the last suffix the block is done
pub keep-end : (u : ℕ → Bool) (ss kept₀ kept : List ℕ) (n i : ℕ) → length ss ≤ 64 → Keeping u ss kept₀ kept n i → length ss ≤ i → (n ≤ 64) × (take n kept ≡ keep u ss)
keep-end u ss kept₀ kept n i few at h = (omega (arith, at.few, at.upto), at.written ∙ ap (keep u) (take_all i ss h))

-- Suffixes and words

small-rest : (S x : ℕ) (xs : List ℕ) → AllSmall S (x ∷ xs) → AllSmall S xs
small-rest S x xs h i l = h (suc i) (omega arith)

-- what is kept of small suffixes is small
pub keep-small : (u : ℕ → Bool) (S : ℕ) (ss : List ℕ) → AllSmall S ss → AllSmall S (keep u ss)
keep-small u S [] h = λ i l. absurd (omega arith)
keep-small u S (x ∷ xs) h = go (u x) (keep-small u S xs (small-rest S x xs h))
  where
    first : x < 2 ^ S
    first = h 0 (omega arith)

    put : (ys : List ℕ) → AllSmall S ys → AllSmall S (x ∷ ys)
    put ys k zero l = first
    put ys k (suc i) l = k i (omega arith)

    go : (b : Bool) → AllSmall S (keep u xs) → AllSmall S (cond b (x ∷ keep u xs) (keep u xs))
    go true ih = put (keep u xs) ih
    go false ih = ih

module _ (t : ℕ → Bool) (S p : ℕ) where
  -- the words that qualify are those of the suffixes that do
  pub words-kept : (u : ℕ → Bool) (ss : List ℕ) → AllSmall S ss → ((s : ℕ) → s < 2 ^ S → u s ≡ t (joined S p s)) → qualifying t S p ss ≡ map (joined S p) (keep u ss)
  words-kept u [] h e = refl
  words-kept u (x ∷ xs) h e = go (u x) refl (words-kept u xs (small-rest S x xs h) e)
    where
      same : t (joined S p x) ≡ u x
      same = sym (e x (h 0 (omega arith)))

      go : (b : Bool) → u x ≡ b → qualifying t S p xs ≡ map (joined S p) (keep u xs) → qualifying t S p (x ∷ xs) ≡ map (joined S p) (keep u (x ∷ xs))
      go true i ih = rw (same, i) (ap (λ (zs : List ℕ). joined S p x ∷ zs) ih)
      go false i ih = rw (same, i) ih

  -- all do
  pub words-all : (ss : List ℕ) → AllSmall S ss → ((s : ℕ) → s < 2 ^ S → t (joined S p s) ≡ true) → qualifying t S p ss ≡ map (joined S p) ss
  words-all [] h e = refl
  words-all (x ∷ xs) h e = rw (e x (h 0 (omega arith))) (ap (λ (zs : List ℕ). joined S p x ∷ zs) (words-all xs (small-rest S x xs h) e))

  -- none does
  pub words-none : (ss : List ℕ) → AllSmall S ss → ((s : ℕ) → s < 2 ^ S → t (joined S p s) ≡ false) → qualifying t S p ss ≡ []
  words-none [] h e = refl
  words-none (x ∷ xs) h e = rw (e x (h 0 (omega arith))) (words-none xs (small-rest S x xs h) e)
