-- What the two promises ask, case by case: one law for each answer. Assumes nothing.
use mathlib.Core.Path.{◌≡◌, refl, sym, ap, ap₂, subst, ◌∙◌}
use mathlib.Core.Bool.{Bool, true, false, not, ◌&&◌, ◌||◌, true≢false}
use mathlib.Core.List.{List, [], ◌∷◌, ◌++◌, cons≢nil}
use Prim.Native.Nat.{ℕ, ◌≤◌, ◌<◌}
use native.Mathlib.Omega.{arith}
use lib.Dec.{eqb, ltb, leb}
use lib.ListN.{length}
use borrow.Author.Tests.{lt-ltb, le-ltb, ltb-false, leb-true, eqb-true, eq-eqb, ne_eqb, not-false}
use Rattle.std.specs.Prelude.{Option, Some, None, is_some}
use Rattle.lists.specs.Lists.{first_bad, all}
use Rattle.lists.proofs.Laws.{and_both}
use Rattle.model.specs.Words.{is_word}
use Rattle.model.specs.Reading.{has}
use Rattle.model.specs.Commands.{known_code}
use Rattle.region.specs.Ranges.{good_p, good_s, good_c, good_n, longest}
use Rattle.region.specs.Areas.{numbers}
use Rattle.region.specs.Read.{read, reading}
use Rattle.region.specs.WellFormed.{WellFormed}
use Rattle.promises.specs.Refusals.{Refusal, Told, refusal, when, failing, tell}
use Rattle.promises.specs.Refusals.Told.{gave, refused}
use Rattle.promises.specs.List.{bad_lengths, word_of, outcome, no_room, ListPromise}
use Rattle.promises.specs.AllMembers.{AllPromise}
use Rattle.wordset_list.specs.Judged.{FirstBad}
use Rattle.wordset_list.specs.Performing.{RanAs}

-- a test that first fails at place k gives one refusal
fails : {A : Type 0} (n : ℕ) (t : A → Bool) (xs : List A) (k : ℕ) → k ≡ first_bad t xs → k < length xs → failing n t xs ≡ refusal n k ∷ []
fails n t xs k e h = ap (λ (j : ℕ). when (ltb j (length xs)) n j) (sym e) ∙ ap (λ (b : Bool). when b n k) (lt-ltb k (length xs) h)

-- a test that fails nowhere gives none
fails-not : {A : Type 0} (n : ℕ) (t : A → Bool) (xs : List A) → length xs ≤ first_bad t xs → failing n t xs ≡ []
fails-not n t xs h = ap (λ (b : Bool). when b n (first_bad t xs)) (le-ltb (first_bad t xs) (length xs) h)

-- neither of two
or-both : (a b : Bool) → (a || b) ≡ false → (a ≡ false) × (b ≡ false)
or-both true b e = absurd (true≢false e)
or-both false b e = (refl, e)

-- the lists fit together
pub lengths-fit : (codes words answers : List ℕ) → bad_lengths codes words answers ≡ false → (length codes ≡ length words) × (length words ≤ length answers)
lengths-fit codes words answers e =
    let p = or-both (not (eqb (length codes) (length words)) || ltb (length answers) (length words)) (ltb longest (length words)) e in
    let q = or-both (not (eqb (length codes) (length words))) (ltb (length answers) (length words)) p.0 in
    (eqb-true (length codes) (length words) (not-false (eqb (length codes) (length words)) q.0), ltb-false (length answers) (length words) q.1)

-- as many codes as words are asked
pub lengths_differ : (codes words answers : List ℕ) → (length codes ≡ length words → ⊥) → true ≡ bad_lengths codes words answers
lengths_differ codes words answers h = sym (ap (λ (b : Bool). not b || ltb (length answers) (length words) || ltb longest (length words)) (ne_eqb (length codes) (length words) h))

-- so are as many answers
pub answers-short : (codes words answers : List ℕ) → length codes ≡ length words → length answers < length words → true ≡ bad_lengths codes words answers
answers-short codes words answers e h = sym (ap₂ (λ (a b : Bool). not a || b || ltb longest (length words)) (eq-eqb (length codes) (length words) e) (lt-ltb (length answers) (length words) h))

-- else only the number of words counts
pub words-many : (codes words answers : List ℕ) → length codes ≡ length words → length words ≤ length answers → ltb longest (length words) ≡ bad_lengths codes words answers
words-many codes words answers e h = sym (ap₂ (λ (a b : Bool). not a || b || ltb longest (length words)) (eq-eqb (length codes) (length words) e) (le-ltb (length answers) (length words) h))

module _ (region codes words answers : List ℕ) where
  -- a region that is not well formed is refused as such
  pub list-malformed : (WellFormed region → ⊥) → ListPromise region codes words answers (refused (refusal 1 0)) region answers
  list-malformed h = record { sound = no h; tells = refl; stays = λ _. (refl, refl); runs = λ e. absurd (cons≢nil e) }

  module _ (wf : WellFormed region) where
    -- the refusals by their parts
    abbrev parts : List Refusal → List Refusal → List Refusal → List Refusal
    parts four five six = [] ++ four ++ five ++ six

    abbrev fours : List Refusal
    fours = when (bad_lengths codes words answers) 4 0

    abbrev fives : List Refusal
    fives = failing 5 known_code codes

    abbrev sixes : List Refusal
    sixes = failing 6 (word_of (reading region)) words

    -- the first refusal is told, and nothing lent is changed
    refused-by : (x : Refusal) (xs : List Refusal) → parts fours fives sixes ≡ x ∷ xs → ListPromise region codes words answers (refused x) region answers
    refused-by x xs e = record {
      sound = yes wf;
      tells = sym (ap (λ (rs : List Refusal). tell (rs ++ no_room (outcome region codes words)) tt) e);
      stays = λ _. (refl, refl);
      runs = λ n. absurd (cons≢nil (sym e ∙ n));
    }

    -- lists that do not fit together are refused with 4
    pub list-lengths : bad_lengths codes words answers ≡ true → ListPromise region codes words answers (refused (refusal 4 0)) region answers
    list-lengths e = refused-by (refusal 4 0) (fives ++ sixes) (ap (λ (b : Bool). parts (when b 4 0) fives sixes) e)

    module _ (fit : bad_lengths codes words answers ≡ false) where
      -- lists that fit together leave 5 and 6
      no-four : parts fours fives sixes ≡ fives ++ sixes
      no-four = ap (λ (b : Bool). parts (when b 4 0) fives sixes) fit

      -- an unknown code is refused with 5 at its place
      pub list-unknown : (k : ℕ) → k ≡ first_bad known_code codes → k < length codes → ListPromise region codes words answers (refused (refusal 5 k)) region answers
      list-unknown k e h = refused-by (refusal 5 k) sixes (no-four ∙ ap (λ (rs : List Refusal). rs ++ sixes) (fails 5 known_code codes k e h))

      module _ (known : length codes ≤ first_bad known_code codes) where
        -- known codes leave 6
        no-five : parts fours fives sixes ≡ sixes
        no-five = no-four ∙ ap (λ (rs : List Refusal). rs ++ sixes) (fails-not 5 known_code codes known)

        -- a word too large is refused with 6 at its place
        pub list-large : (k : ℕ) → k ≡ first_bad (word_of (reading region)) words → k < length words → ListPromise region codes words answers (refused (refusal 6 k)) region answers
        list-large k e h = refused-by (refusal 6 k) [] (no-five ∙ fails 6 (word_of (reading region)) words k e h)

        -- a list that nothing refuses tells and leaves what its run does
        pub list-ran : length words ≤ first_bad (word_of (reading region)) words → {told : Told (Unit {0})} {region' answers' : List ℕ}
            → RanAs region codes words answers told region' answers' → ListPromise region codes words answers told region' answers'
        list-ran small p =
            let e : parts fours fives sixes ≡ [] = no-five ∙ fails-not 6 (word_of (reading region)) words small in
            record {
              sound = yes wf;
              tells = p.tells ∙ sym (ap (λ (rs : List Refusal). tell (rs ++ no_room (outcome region codes words)) tt) e);
              stays = λ n. absurd (n e);
              runs = λ _. p.leaves;
            }

module _ (region words : List ℕ) where
  -- a region that is not well formed is refused with 1
  pub all-malformed : (WellFormed region → ⊥) → AllPromise region words (refused (refusal 1 0))
  all-malformed h = record { sound = no h; tells = refl }

  module _ (wf : WellFormed region) where
    -- the refusals by their parts
    abbrev many : List Refusal
    many = when (ltb longest (length words)) 4 0

    abbrev large : List Refusal
    large = failing 6 (word_of (reading region)) words

    -- what is told follows from the refusals
    told-by : (rs : List Refusal) (told : Told Bool) → [] ++ many ++ large ≡ rs → told ≡ tell rs (all (has (reading region)) words) → AllPromise region words told
    told-by rs told e t = record { sound = yes wf; tells = t ∙ sym (ap (λ (qs : List Refusal). tell qs (all (has (reading region)) words)) e) }

    -- too many words are refused with 4
    pub all-many : longest < length words → AllPromise region words (refused (refusal 4 0))
    all-many h = told-by (refusal 4 0 ∷ large) (refused (refusal 4 0)) (ap (λ (b : Bool). [] ++ when b 4 0 ++ large) (lt-ltb longest (length words) h)) refl

    module _ (few : length words ≤ longest) where
      -- few enough leave 6
      not-many : [] ++ many ++ large ≡ large
      not-many = ap (λ (b : Bool). [] ++ when b 4 0 ++ large) (le-ltb longest (length words) few)

      -- a word too large is refused with 6 at its place
      pub all_large : (k : ℕ) → k ≡ first_bad (word_of (reading region)) words → k < length words → AllPromise region words (refused (refusal 6 k))
      all_large k e h = told-by (refusal 6 k ∷ []) (refused (refusal 6 k)) (not-many ∙ fails 6 (word_of (reading region)) words k e h) refl

      -- else the answer is whether all are members
      pub all_asked : length words ≤ first_bad (word_of (reading region)) words → (b : Bool) → b ≡ all (has (reading region)) words → AllPromise region words (gave b)
      all_asked small b e = told-by [] (gave b) (not-many ∙ fails-not 6 (word_of (reading region)) words small) (ap gave e)

-- the first word too large for the header's numbers is the first too large for what the region reads as
pub first_read : (region words : List ℕ) (p s : ℕ) (r : Option ℕ) → p ≡ (numbers region).P → s ≡ (numbers region).S → FirstBad (is_word p s) words r → FirstBad (word_of (reading region)) words r
unfolding reading read
first_read region words p s r e f g = subst (λ (x : ℕ). FirstBad (is_word (numbers region).P x) words r) f (subst (λ (x : ℕ). FirstBad (is_word x s) words r) e g)

-- so where none is too large for the numbers, none is for what the region reads as
pub none_read : (region words : List ℕ) (p s : ℕ) → p ≡ (numbers region).P → s ≡ (numbers region).S → length words ≡ first_bad (is_word p s) words → length words ≤ first_bad (word_of (reading region)) words
none_read region words p s e f g =
    let h : length words ≡ first_bad (word_of (reading region)) words = first_read region words p s None e f g in
    omega (arith, h)

-- a search that found nothing says that there is nothing to find
pub none-found : (t : ℕ → Bool) (xs : List ℕ) (r : Option ℕ) → FirstBad t xs r → is_some r ≡ false → length xs ≡ first_bad t xs
none-found t xs (Some k) g e = absurd (true≢false e)
none-found t xs None g e = g

-- prefix bits are few enough for a shift
pub P-high : (l : List ℕ) → WellFormed l → (numbers l).P ≤ 24
P-high l wf =
    let g = numbers l in
    let r = (and_both (good_p g.P && good_s g.S && good_c g.C) (good_n g.N) wf.ready.header.ranges).0 in
    let s = (and_both (good_p g.P && good_s g.S) (good_c g.C) r).0 in
    leb-true g.P 24 (and_both (leb 1 g.P) (leb g.P 24) (and_both (good_p g.P) (good_s g.S) s).0).1
