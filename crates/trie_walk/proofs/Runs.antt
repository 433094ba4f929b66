-- The loop over the set bits of maps side by side: the children that wait, what is left of a word, and the words behind it are poured as the whole was. Assumes nothing.
use mathlib.Core.Path.{◌≡◌, refl, sym, ap, ap₂, ◌∙◌, subst}
use mathlib.Core.Logic.{◌≢◌}
use mathlib.Core.Bool.{Bool, true, false, cond}
use mathlib.Core.List.{List, [], ◌++◌, append_assoc}
use Prim.Native.Nat.{ℕ, suc, ◌+◌, ◌-◌, ◌*◌, ◌/◌, ◌%◌, ◌^◌, ◌≤◌, ◌<◌}
use native.Mathlib.Omega.{arith}
use native.Mathlib.Decide.{ℕ_discrete, dec_le}
use native.Mathlib.Nat.{lt_of_lt_of_le}
use lib.Dec.{leb}
use lib.Pow.{pow_mono}
use borrow.Author.Tests.{le-leb, lt-leb}
use lib.ListN.{length, get_or, set, length-set}
use Rattle.lists.specs.Lists.{each}
use Rattle.region.specs.Bits.{word_bit}
use Rattle.region.specs.Nodes.{Nodes}
use Rattle.bitvector.specs.Maps.{Lowest}
use Rattle.bitvector.proofs.WordLaws.{bit-zero}
use Rattle.arena.specs.Arena.{nodes_in}
use Rattle.trie_walk.specs.Pour.{Pour, state, poured, not_below}
use Rattle.trie_walk.specs.Words.{behind, behind_all}
use Rattle.trie_walk.specs.Batch.{Row, Batch, all_listed}
use Rattle.trie_walk.proofs.Pours.{poured-none, poured-full}
use Rattle.trie_walk.proofs.Behind.{behind-none}
use Rattle.trie_walk.proofs.Onward.{onward-append, onward-past, listed-past}
use Rattle.trie_walk.proofs.Numbers.{Without, first, no_words, next_word, start-words}
use Rattle.trie_walk.proofs.Levels.{deeper, Held, bit-held, all-behind, all_more, child-left, child-lead, row_more}

none-waits : (v : Nodes) (d : ℕ) (nodes leads : List ℕ) → all_listed v d nodes leads 0 ≡ []
unfolding each
none-waits v d nodes leads = refl

no-bit : (k : ℕ) → word_bit 0 k ≡ 1 → ⊥
no-bit k z = let e : word_bit 0 k ≡ 0 = bit-zero k in omega arith

-- what is ahead: the children that wait, what is left of word w, whose first bit stands at place p, and the words from e on
abbrev pub ahead : ℕ → ℕ → ℕ → List ℕ → List ℕ → List ℕ → List ℕ → List ℕ → List ℕ → ℕ → ℕ → ℕ → ℕ → List ℕ
ahead N d count l nodes leads maps children leads' c e w p =
    all_listed (nodes_in N l) d children leads' c ++ (behind w (λ k. deeper (nodes_in N l) d nodes leads (p + k)) ++ behind_all (λ j. get_or maps j 0) (deeper (nodes_in N l) d nodes leads) e (4 * count - e))

-- the state of the loop, where the whole list W, as far as it is not below `from`, was to be poured into S
module _ (N b d count from : ℕ) (l nodes leads maps W : List ℕ) (S : Pour) where
  abbrev v : Nodes
  v = nodes_in N l

  abbrev g : ℕ → List ℕ
  g = deeper v d nodes leads

  abbrev words : ℕ → List ℕ
  words e = behind_all (λ j. get_or maps j 0) g e (4 * count - e)

  -- what is left of word w, whose first bit stands at place p, and the words from e on
  abbrev rest : ℕ → ℕ → ℕ → List ℕ
  rest w p e = behind w (λ k. g (p + k)) ++ words e

  pub record Run (out children leads' : List ℕ) (c skip at e w p : ℕ) : Type 0 where
    pub few : c ≤ 32
    pub inside : e ≤ 4 * count
    pub long : length out ≡ length S.out
    pub children-long : length children ≡ 32
    pub leads-long : length leads' ≡ 32
    pub row : Row N b d c children leads' l
    pub place : (k : ℕ) → k < 64 → word_bit w k ≡ 1 → p + k < 256 * count
    pub bits : (k : ℕ) → k < 64 → word_bit w k ≡ 1 → v.bit (get_or nodes ((p + k) / 256) 0) ((p + k) % 256) ≡ 1
    pub same : poured (not_below from (ahead N d count l nodes leads maps children leads' c e w p)) (state skip at out) ≡ poured (not_below from W) S

  -- no child waits yet, and all words are left
  pub run-start : Row N b (suc d) count nodes leads l → 1 ≤ d → Held N l nodes maps count → W ≡ all_listed v (suc d) nodes leads count
      → (children leads' : List ℕ) → length children ≡ 32 → length leads' ≡ 32 → Run S.out children leads' 0 S.skip S.at 0 0 0
  run-start R some H e children leads' hc hl = record {
    few = omega arith;
    inside = omega arith;
    long = refl;
    children-long = hc;
    leads-long = hl;
    row = record { few = R.few; tries = R.tries; some = some; short = omega (arith, R.short); node = λ i h. absurd (omega arith); lead = λ i h. absurd (omega arith) };
    place = λ k h z. absurd (no-bit k z);
    bits = λ k h z. absurd (no-bit k z);
    same = ap (λ (xs : List ℕ). poured (not_below from xs) S)
        (ap₂ ◌++◌ (none-waits v d children leads') (ap (λ (xs : List ℕ). xs ++ words 0) (behind-none (λ k. g (0 + k))))
        ∙ start-words (λ j. get_or maps j 0) g (4 * count) ∙ sym (all-behind N d l nodes leads maps count H) ∙ sym e);
  }

  module _ {out children leads' : List ℕ} {c skip at e w p : ℕ} (r : Run out children leads' c skip at e w p) where
    -- a word with no bit left adds nothing
    word-done : w ≡ 0 → rest w p e ≡ words e
    word-done z = ap (λ (xs : List ℕ). xs ++ words e) (ap (λ (x : ℕ). behind x (λ k. g (p + k))) z ∙ behind-none (λ k. g (p + k)))

    -- the next word
    pub run-load : w ≡ 0 → e < 4 * count → Held N l nodes maps count → Run out children leads' c skip at (e + 1) (get_or maps e 0) (e * 64)
    run-load z h H = record {
      few = r.few;
      inside = omega arith;
      long = r.long;
      children-long = r.children-long;
      leads-long = r.leads-long;
      row = r.row;
      place = λ k u q. omega arith;
      bits = λ k u q.
          let a : (e * 64 + k) / 64 ≡ e = omega arith in
          let f : (e * 64 + k) % 64 ≡ k = omega arith in
          bit-held N l nodes maps count H (e * 64 + k) (omega arith) ∙ ap₂ (λ (x y : ℕ). word_bit (get_or maps x 0) y) a f ∙ q;
      same = ap (λ (xs : List ℕ). poured (not_below from (all_listed v d children leads' c ++ xs)) (state skip at out)) (sym (word-done z ∙ next_word (λ j. get_or maps j 0) g e (4 * count) h)) ∙ r.same;
    }

    -- the same, with no word at hand
    pub run-between : w ≡ 0 → Run out children leads' c skip at e 0 0
    run-between z = record {
      few = r.few;
      inside = r.inside;
      long = r.long;
      children-long = r.children-long;
      leads-long = r.leads-long;
      row = r.row;
      place = λ k h q. absurd (no-bit k q);
      bits = λ k h q. absurd (no-bit k q);
      same = ap (λ (xs : List ℕ). poured (not_below from (all_listed v d children leads' c ++ xs)) (state skip at out)) (ap (λ (xs : List ℕ). xs ++ words e) (behind-none (λ k. g (0 + k))) ∙ sym (word-done z)) ∙ r.same;
    }

    -- the children that wait are poured
    pub run-flush : (s i : ℕ) (o : List ℕ) → state s i o ≡ poured (not_below from (all_listed v d children leads' c)) (state skip at out) → length o ≡ length out → Run o children leads' 0 s i e w p
    run-flush s i o q n = record {
      few = omega arith;
      inside = r.inside;
      long = n ∙ r.long;
      children-long = r.children-long;
      leads-long = r.leads-long;
      row = record { few = r.row.few; tries = r.row.tries; some = r.row.some; short = r.row.short; node = λ i h. absurd (omega arith); lead = λ i h. absurd (omega arith) };
      place = r.place;
      bits = r.bits;
      same = ap (λ (xs : List ℕ). poured (not_below from (xs ++ rest w p e)) (state s i o)) (none-waits v d children leads') ∙ ap (poured (not_below from (rest w p e))) q
          ∙ sym (onward-append from (all_listed v d children leads' c) (rest w p e) (state skip at out)) ∙ r.same;
    }

    -- a bit that is still set was set
    old : {k t : ℕ} → Without w k t → (j : ℕ) → word_bit t j ≡ 1 → word_bit w j ≡ 1
    old {k} {t} T j z = pick (ℕ_discrete j k)
      where
        pick : Dec (j ≡ k) → word_bit w j ≡ 1
        pick (yes e) = let a : word_bit t j ≡ 0 = ap (word_bit t) e ∙ T.here in absurd (omega arith)
        pick (no n) = sym (T.other j n) ∙ z

    -- the child behind the lowest bit lies below `from` altogether, and does not wait
    pub run-pass : {k t : ℕ} → Without w k t → get_or leads ((p + k) / 256) 0 * 256 + (p + k) % 256 < from / 2 ^ (8 * d) → Run out children leads' c skip at e t p
    run-pass {k} {t} T h = record {
      few = r.few;
      inside = r.inside;
      long = r.long;
      children-long = r.children-long;
      leads-long = r.leads-long;
      row = r.row;
      place = λ j l z. r.place j l (old T j z);
      bits = λ j l z. r.bits j l (old T j z);
      same = ap (λ (xs : List ℕ). poured xs (state skip at out)) shorter ∙ r.same;
    }
      where
        A : List ℕ
        A = all_listed v d children leads' c

        B : List ℕ
        B = behind t (λ j. g (p + j)) ++ words e

        shorter : not_below from (A ++ B) ≡ not_below from (A ++ rest w p e)
        shorter =
            sym (ap (λ (xs : List ℕ). not_below from (A ++ xs)) (ap (λ (xs : List ℕ). xs ++ words e) (first T (λ j. g (p + j))) ∙ append_assoc (g (p + k)) (behind t (λ j. g (p + j))) (words e))
            ∙ onward-past from A (g (p + k)) B (listed-past from v d (v.child (get_or nodes ((p + k) / 256) 0) ((p + k) % 256)) (get_or leads ((p + k) / 256) 0 * 256 + (p + k) % 256) h))

    -- the child behind the lowest bit waits
    pub run-push : {k t : ℕ} → Without w k t → c < 32 → Row N b (suc d) count nodes leads l
        → Run out (set children c (v.child (get_or nodes ((p + k) / 256) 0) ((p + k) % 256))) (set leads' c (get_or leads ((p + k) / 256) 0 * 256 + (p + k) % 256)) (c + 1) skip at e t p
    run-push {k} {t} T h R = record {
      few = omega arith;
      inside = r.inside;
      long = r.long;
      children-long = length-set children c m ∙ r.children-long;
      leads-long = length-set leads' c q ∙ r.leads-long;
      row = row_more N b d c children leads' l m q r.row (omega (arith, r.children-long)) (omega (arith, r.leads-long))
          (child-left N b d count nodes leads l R r.row.some (p + k) here is_set) (child-lead N b d count nodes leads l R r.row.some (p + k) here is_set);
      place = λ j l z. r.place j l (old T j z);
      bits = λ j l z. r.bits j l (old T j z);
      same = ap (λ (xs : List ℕ). poured (not_below from xs) (state skip at out)) shift ∙ r.same;
    }
      where
        m : ℕ
        m = v.child (get_or nodes ((p + k) / 256) 0) ((p + k) % 256)

        q : ℕ
        q = get_or leads ((p + k) / 256) 0 * 256 + (p + k) % 256

        here : p + k < 256 * count
        here = r.place k T.lowest.small T.lowest.is_set

        is_set : v.bit (get_or nodes ((p + k) / 256) 0) ((p + k) % 256) ≡ 1
        is_set = r.bits k T.lowest.small T.lowest.is_set

        A : List ℕ
        A = all_listed v d children leads' c

        shift : all_listed v d (set children c m) (set leads' c q) (c + 1) ++ (behind t (λ j. g (p + j)) ++ words e) ≡ A ++ rest w p e
        shift =
            ap (λ (xs : List ℕ). xs ++ (behind t (λ j. g (p + j)) ++ words e)) (all_more v d children leads' c m q (omega (arith, r.children-long)) (omega (arith, r.leads-long)))
            ∙ append_assoc A (g (p + k)) (behind t (λ j. g (p + j)) ++ words e)
            ∙ ap (λ (xs : List ℕ). A ++ xs) (sym (append_assoc (g (p + k)) (behind t (λ j. g (p + j))) (words e)) ∙ ap (λ (xs : List ℕ). xs ++ words e) (sym (first T (λ j. g (p + j)))))

    -- the last children are poured, and nothing else is left
    pub run_end : (s i : ℕ) (o : List ℕ) → w ≡ 0 → 4 * count ≤ e → state s i o ≡ poured (not_below from (all_listed v d children leads' c)) (state skip at out) → state s i o ≡ poured (not_below from W) S
    run_end s i o z h q =
        q ∙ sym (onward-append from (all_listed v d children leads' c) (rest w p e) (state skip at out)
        ∙ ap (λ (xs : List ℕ). poured (not_below from xs) (poured (not_below from (all_listed v d children leads' c)) (state skip at out))) (word-done z ∙ no_words (λ j. get_or maps j 0) g e (4 * count) h)
        ∙ poured-none _) ∙ r.same

    -- nothing is left to pass over, and the output is full
    pub run-full : skip ≡ 0 → length out ≤ at → state skip at out ≡ poured (not_below from W) S
    run-full z h =
        ap (λ (s : ℕ). state s at out) z ∙ sym (poured-full (not_below from (all_listed v d children leads' c ++ rest w p e)) at out h)
        ∙ ap (λ (s : ℕ). poured (not_below from (all_listed v d children leads' c ++ rest w p e)) (state s at out)) (sym z) ∙ r.same

one_more : (b : Bool) (c n : ℕ) → n ≡ cond b (c + 1) c → n ≤ c + 1
one_more true c n e = omega arith
one_more false c n e = omega arith

-- the same for some number of levels, with what the loop does not change
pub record Runs (N d count from : ℕ) (l nodes leads maps W : List ℕ) (S : Pour) (out children leads' : List ℕ) (c skip at e w p : ℕ) : Type 0 where
  pub levels : ℕ
  pub whole : Row N levels (suc d) count nodes leads l
  pub held : Held N l nodes maps count
  pub run : Run N levels d count from l nodes leads maps W S out children leads' c skip at e w p

pub start : (N D count from : ℕ) (l nodes leads maps : List ℕ) (S : Pour) (children leads' : List ℕ) → Batch N D count nodes leads l → D ≢ 1 → Held N l nodes maps count
    → length children ≡ 32 → length leads' ≡ 32
    → Runs N (D - 1) count from l nodes leads maps (all_listed (nodes_in N l) D nodes leads count) S S.out children leads' 0 S.skip S.at 0 0 0
start N D count from l nodes leads maps S children leads' B n H hc hl =
    let s : 1 ≤ D = B.row.some in
    let z : D ≡ suc (D - 1) = omega arith in
    let R : Row N B.levels (suc (D - 1)) count nodes leads l = subst (λ (k : ℕ). Row N B.levels k count nodes leads l) z B.row in
    record {
      levels = B.levels;
      whole = R;
      held = H;
      run = run-start N B.levels (D - 1) count from l nodes leads maps (all_listed (nodes_in N l) D nodes leads count) S R (omega arith) H
          (ap (λ (k : ℕ). all_listed (nodes_in N l) k nodes leads count) z) children leads' hc hl;
    }

module _ {N d count from : ℕ} {l nodes leads maps W : List ℕ} {S : Pour} {out children leads' : List ℕ} {c skip at e w p : ℕ} (r : Runs N d count from l nodes leads maps W S out children leads' c skip at e w p) where
  pub waiting : Batch N d c children leads' l
  waiting = record { levels = r.levels; row = r.run.row }

  pub between : w ≡ 0 → Runs N d count from l nodes leads maps W S out children leads' c skip at e 0 0
  between z = record { levels = r.levels; whole = r.whole; held = r.held; run = run-between N r.levels d count from l nodes leads maps W S r.run z }

  pub load : w ≡ 0 → e < 4 * count → Runs N d count from l nodes leads maps W S out children leads' c skip at (e + 1) (get_or maps e 0) (e * 64)
  load z h = record { levels = r.levels; whole = r.whole; held = r.held; run = run-load N r.levels d count from l nodes leads maps W S r.run z h r.held }

  pub flush : (s i : ℕ) (o : List ℕ) → state s i o ≡ poured (not_below from (all_listed (nodes_in N l) d children leads' c)) (state skip at out) → length o ≡ length out
      → Runs N d count from l nodes leads maps W S o children leads' 0 s i e w p
  flush s i o q n = record { levels = r.levels; whole = r.whole; held = r.held; run = run-flush N r.levels d count from l nodes leads maps W S r.run s i o q n }

  -- what the push of the child behind bit k asks
  module _ {k : ℕ} (L : Lowest w k) where
    pub push-place : p + k < 256 * count
    push-place = r.run.place k L.small L.is_set

    pub push-node : get_or nodes ((p + k) / 256) 0 < N
    push-node = (r.whole.node ((p + k) / 256) (omega (arith, push-place))).in-range

    pub push-lead : get_or leads ((p + k) / 256) 0 < 2 ^ 32
    push-lead = let z : 8 * (5 - suc d) ≤ 32 = omega arith in lt_of_lt_of_le (r.whole.lead ((p + k) / 256) (omega (arith, push-place))) (pow_mono z)

  push : {k t : ℕ} → Without w k t → c < 32
      → (children'' leads'' : List ℕ) → children'' ≡ set children c ((nodes_in N l).child (get_or nodes ((p + k) / 256) 0) ((p + k) % 256)) → leads'' ≡ set leads' c (get_or leads ((p + k) / 256) 0 * 256 + (p + k) % 256)
      → Runs N d count from l nodes leads maps W S out children'' leads'' (c + 1) skip at e t p
  push {k} {t} T h children'' leads'' ec el = record {
    levels = r.levels;
    whole = r.whole;
    held = r.held;
    run = rw (ec, el) (run-push N r.levels d count from l nodes leads maps W S r.run T h r.whole);
  }

  pass : {k t : ℕ} → Without w k t → get_or leads ((p + k) / 256) 0 * 256 + (p + k) % 256 < from / 2 ^ (8 * d) → Runs N d count from l nodes leads maps W S out children leads' c skip at e t p
  pass T h = record { levels = r.levels; whole = r.whole; held = r.held; run = run-pass N r.levels d count from l nodes leads maps W S r.run T h }

  -- the child behind the lowest bit waits, unless its leading bytes are below those of `from`
  pub place : {k t : ℕ} → Without w k t → c < 32 → (children'' leads'' : List ℕ) (c'' : ℕ)
      → c'' ≡ cond (leb (from / 2 ^ (8 * d)) (get_or leads ((p + k) / 256) 0 * 256 + (p + k) % 256)) (c + 1) c
      → children'' ≡ cond (leb (from / 2 ^ (8 * d)) (get_or leads ((p + k) / 256) 0 * 256 + (p + k) % 256)) (set children c ((nodes_in N l).child (get_or nodes ((p + k) / 256) 0) ((p + k) % 256))) children
      → leads'' ≡ cond (leb (from / 2 ^ (8 * d)) (get_or leads ((p + k) / 256) 0 * 256 + (p + k) % 256)) (set leads' c (get_or leads ((p + k) / 256) 0 * 256 + (p + k) % 256)) leads'
      → Runs N d count from l nodes leads maps W S out children'' leads'' c'' skip at e t p
  place {k} {t} T h children'' leads'' c'' en ec el = go (dec_le (from / 2 ^ (8 * d)) q)
    where
      q : ℕ
      q = get_or leads ((p + k) / 256) 0 * 256 + (p + k) % 256

      go : Dec (from / 2 ^ (8 * d) ≤ q) → Runs N d count from l nodes leads maps W S out children'' leads'' c'' skip at e t p
      go (yes y) =
          let b : leb (from / 2 ^ (8 * d)) q ≡ true = le-leb (from / 2 ^ (8 * d)) q y in
          subst (λ (z : ℕ). Runs N d count from l nodes leads maps W S out children'' leads'' z skip at e t p) (sym (en ∙ ap (λ (x : Bool). cond x (c + 1) c) b))
          (push T h children'' leads'' (ec ∙ ap (λ (x : Bool). cond x (set children c ((nodes_in N l).child (get_or nodes ((p + k) / 256) 0) ((p + k) % 256))) children) b) (el ∙ ap (λ (x : Bool). cond x (set leads' c q) leads') b))
      go (no n) =
          let b : leb (from / 2 ^ (8 * d)) q ≡ false = lt-leb (from / 2 ^ (8 * d)) q (omega arith) in
          subst (λ (z : ℕ). Runs N d count from l nodes leads maps W S out children'' leads'' z skip at e t p) (sym (en ∙ ap (λ (x : Bool). cond x (c + 1) c) b))
          (subst (λ (z : List ℕ). Runs N d count from l nodes leads maps W S out children'' z c skip at e t p) (sym (el ∙ ap (λ (x : Bool). cond x (set leads' c q) leads') b))
          (subst (λ (z : List ℕ). Runs N d count from l nodes leads maps W S out z leads' c skip at e t p) (sym (ec ∙ ap (λ (x : Bool). cond x (set children c ((nodes_in N l).child (get_or nodes ((p + k) / 256) 0) ((p + k) % 256))) children) b))
          (pass T (omega arith))))

  -- at most one child more waits
  pub place-few : {k t : ℕ} → Without w k t → (c'' : ℕ) → c'' ≡ cond (leb (from / 2 ^ (8 * d)) (get_or leads ((p + k) / 256) 0 * 256 + (p + k) % 256)) (c + 1) c → c'' ≤ c + 1
  place-few {k} T c'' e = one_more (leb (from / 2 ^ (8 * d)) (get_or leads ((p + k) / 256) 0 * 256 + (p + k) % 256)) c c'' e

  pub done : (s i : ℕ) (o : List ℕ) → w ≡ 0 → 4 * count ≤ e → state s i o ≡ poured (not_below from (all_listed (nodes_in N l) d children leads' c)) (state skip at out) → state s i o ≡ poured (not_below from W) S
  done s i o z h q = run_end N r.levels d count from l nodes leads maps W S r.run s i o z h q

  pub full : skip ≡ 0 → length out ≤ at → state skip at out ≡ poured (not_below from W) S
  full z h = run-full N r.levels d count from l nodes leads maps W S r.run z h

  -- the same, with what is ahead now as the whole
  pub anew : Runs N d count from l nodes leads maps (ahead N d count l nodes leads maps children leads' c e w p) (state skip at out) out children leads' c skip at e w p
  anew = record {
    levels = r.levels;
    whole = r.whole;
    held = r.held;
    run = record {
      few = r.run.few;
      inside = r.run.inside;
      long = refl;
      children-long = r.run.children-long;
      leads-long = r.run.leads-long;
      row = r.run.row;
      place = r.run.place;
      bits = r.run.bits;
      same = refl;
    };
  }

  -- and back to the whole that it was
  pub back : {out' children'' leads'' : List ℕ} {c' skip' at' w' : ℕ} → Runs N d count from l nodes leads maps (ahead N d count l nodes leads maps children leads' c e w p) (state skip at out) out' children'' leads'' c' skip' at' e w' p
      → Runs N d count from l nodes leads maps W S out' children'' leads'' c' skip' at' e w' p
  back q = record {
    levels = q.levels;
    whole = q.whole;
    held = q.held;
    run = record {
      few = q.run.few;
      inside = q.run.inside;
      long = q.run.long ∙ r.run.long;
      children-long = q.run.children-long;
      leads-long = q.run.leads-long;
      row = q.run.row;
      place = q.run.place;
      bits = q.run.bits;
      same = q.run.same ∙ r.run.same;
    };
  }
