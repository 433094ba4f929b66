-- Demands 2 and 3 for any outcome that the list promise allows. Assumes nothing.
use mathlib.Core.Path.{◌≡◌, refl, sym, ap, ◌∙◌, subst}
use mathlib.Core.Bool.{Bool, true, false, not, ◌||◌, true≢false}
use mathlib.Core.List.{List, [], ◌∷◌, ◌++◌}
use Prim.Native.Nat.{ℕ, suc, ◌+◌, ◌^◌, ◌≤◌}
use native.Mathlib.Omega.{arith}
use lib.Dec.{eqb, ltb}
use lib.ListN.{length, take, drop, get_or}
use lib.Seq.{take_at}
use borrow.Author.Tests.{ltb-true, ltb-false, eqb-true}
use Rattle.lists.specs.Lists.{first_bad}
use Rattle.lists.proofs.Laws.{by-test}
use Rattle.model.specs.Reading.{Reading, has, count, containers_in_use, nodes_in_use}
use Rattle.model.specs.Commands.{Command, known_code, Run, place, commands, is_insert, is_remove}
use Rattle.model.specs.Plain.{plain_answers}
use Rattle.model.specs.Demands.{WordsInRange, AsPlain, answers_on, answered, Rearranged, Demand3OnReadings}
use Rattle.model.proofs.Runs.{as_plain, answers-length}
use Rattle.model.proofs.Rearranging.{demand-3 as demand-3-on-readings}
use Rattle.region.specs.Ranges.{longest}
use Rattle.region.specs.Read.{reading}
use Rattle.region.specs.WellFormed.{WellFormed}
use Rattle.region.proofs.Facts.{good, word-5, word-6, word-7}
use Rattle.promises.specs.Refusals.{Refusal, Told, refusal, when, failing, tell, holds}
use Rattle.promises.specs.Refusals.Told.{gave, refused}
use Rattle.promises.specs.List.{bad_lengths, word_of, no_room, list_refusals, outcome, Ran, ListPromise}
use Rattle.promises.specs.Demands.{Accepted, seen_run, Demand2, SameEnd, AllFit, Demand3}
use Rattle.promises.proofs.Tell.{holds-yes, append-nil, when-nil, gave-none}

-- An accepted list: its words are in range, and there are as many answers as commands

all-range : (bits : ℕ) (codes words : List ℕ) → length words ≤ first_bad (λ w. ltb w (2 ^ bits)) words → WordsInRange bits (commands codes words)
all-range bits [] ws l = tt
all-range bits (c ∷ cs) [] l = tt
all-range bits (c ∷ cs) (w ∷ ws) l = by-test (ltb w (2 ^ bits))
    (λ e. (ltb-true w (2 ^ bits) e, all-range bits cs ws (let k : suc (length ws) ≤ suc (first_bad (λ v. ltb v (2 ^ bits)) ws) = rw e at l in omega arith)))
    (λ e. let z : suc (length ws) ≤ 0 = rw e at l in absurd (omega arith))

commands-length : (codes words : List ℕ) → length codes ≡ length words → length (commands codes words) ≡ length words
commands-length [] [] e = refl
commands-length [] (w ∷ ws) e = absurd (omega arith)
commands-length (c ∷ cs) [] e = absurd (omega arith)
commands-length (c ∷ cs) (w ∷ ws) e = ap suc (commands-length cs ws (omega arith))

or_nil : (a b c : Bool) → (a || b || c) ≡ false → (a ≡ false) × (b ≡ false) × (c ≡ false)
or_nil true b c e = absurd (true≢false e)
or_nil false true c e = absurd (true≢false e)
or_nil false false c e = (refl, refl, e)

not-false : (a : Bool) → not a ≡ false → a ≡ true
not-false true e = refl
not-false false e = absurd (true≢false e)

module _ (region codes words answers : List ℕ) (ok : Accepted region codes words answers) where
  -- none of 4, 5 and 6 applies
  first_two : List Refusal
  first_two = when false 1 0 ++ when (bad_lengths codes words answers) 4 0

  parts : (first_two ++ failing 5 known_code codes ≡ []) × (failing 6 (word_of (reading region)) words ≡ [])
  unfolding first_two
  parts = append-nil (first_two ++ failing 5 known_code codes) (failing 6 (word_of (reading region)) words) ok

  lengths-ok : bad_lengths codes words answers ≡ false
  unfolding first_two
  lengths-ok = when-nil (bad_lengths codes words answers) 4 0 (append-nil first_two (failing 5 known_code codes) parts.0).0

  pub same_length : length codes ≡ length words
  same_length = eqb-true (length codes) (length words) (not-false (eqb (length codes) (length words)) (or_nil (not (eqb (length codes) (length words))) (ltb (length answers) (length words)) (ltb longest (length words)) lengths-ok).0)

  pub in-range : WordsInRange ((reading region).P + (reading region).S) (commands codes words)
  in-range = all-range ((reading region).P + (reading region).S) codes words
      (ltb-false (first_bad (word_of (reading region)) words) (length words) (when-nil (ltb (first_bad (word_of (reading region)) words) (length words)) 6 (first_bad (word_of (reading region)) words) parts.1))

run-eq : (o : Run) (xs : List ℕ) (r : Reading) (b : Bool) → xs ≡ o.answers → r ≡ o.reading → b ≡ o.stopped → record { answers = xs; reading = r; stopped = b } ≡ o
run-eq o xs r b e f g =
    ap (λ (ys : List ℕ). record { answers = ys; reading = r; stopped = b }) e
    ∙ ap (λ (s : Reading). record { answers = o.answers; reading = s; stopped = b }) f
    ∙ ap (λ (c : Bool). record { answers = o.answers; reading = o.reading; stopped = c }) g

-- Demand 2: what a caller sees of an accepted list is what the commands come to

module _ {region codes words answers : List ℕ} {told : Told (Unit {0})} {region' answers' : List ℕ} (wf : WellFormed region) (ok : Accepted region codes words answers)
    (p : ListPromise region codes words answers told region' answers') where
  abbrev cs : List Command
  cs = commands codes words

  abbrev o : Run
  o = outcome region codes words

  early : list_refusals (holds p.sound) (reading region) codes words answers ≡ []
  early = ap (λ (b : Bool). list_refusals b (reading region) codes words answers) (holds-yes p.sound wf) ∙ ok

  pub ran : Ran region answers o region' answers'
  ran = p.runs early

  tells : told ≡ tell (no_room o) tt
  tells = p.tells ∙ ap (λ (rs : List Refusal). tell (rs ++ no_room o) tt) early

  pub told-done : o.stopped ≡ false → told ≡ gave tt
  told-done e = tells ∙ rw e

  told-stopped : o.stopped ≡ true → told ≡ refused (refusal 9 (place o))
  told-stopped e = tells ∙ rw e

  pub done-told : told ≡ gave tt → o.stopped ≡ false
  done-told e = when-nil o.stopped 9 (place o) (gave-none (no_room o) tt tt (sym tells ∙ e))

  given : take (length o.answers) answers' ≡ o.answers
  given = ap (take (length o.answers)) ran.answers-are ∙ take_at o.answers (drop (length o.answers) answers) (length o.answers) refl

  whole_length : o.stopped ≡ false → length words ≡ length o.answers
  whole_length e = sym (answers-length cs (reading region) e ∙ commands-length codes words (same_length region codes words answers ok))

  pub seen-is : seen_run (length words) told region' answers' ≡ o
  seen-is = by-test o.stopped
      (λ e. ap (λ (t : Told (Unit {0})). seen_run (length words) t region' answers') (told-stopped e)
      ∙ run-eq o (take (length o.answers) answers') (reading region') true given ran.region-reads.reads (sym e))
      (λ e. ap (λ (t : Told (Unit {0})). seen_run (length words) t region' answers') (told-done e)
      ∙ run-eq o (take (length words) answers') (reading region') false (ap (λ (n : ℕ). take n answers') (whole_length e) ∙ given) ran.region-reads.reads (sym e))

-- the answers past the commands are not looked at
answers-on-append : (w : ℕ) (cs : List Command) (xs ys : List ℕ) → length xs ≡ length cs → answers_on w cs (xs ++ ys) ≡ answers_on w cs xs
answers-on-append w [] xs ys e = refl
answers-on-append w (c ∷ cs) [] ys e = absurd (omega arith)
answers-on-append w (c ∷ cs) (x ∷ xs) ys e = by-test (eqb w c.word) (λ q. rw q (ap (λ (zs : List ℕ). x ∷ zs) (answers-on-append w cs xs ys (omega arith)))) (λ q. rw q (answers-on-append w cs xs ys (omega arith)))

module _ {region codes words answers : List ℕ} {told : Told (Unit {0})} {region' answers' : List ℕ} (wf : WellFormed region) (ok : Accepted region codes words answers)
    (p : ListPromise region codes words answers told region' answers') where
  plain : AsPlain (commands codes words) (reading region) (outcome region codes words)
  plain = as_plain (commands codes words) (reading region) (good region wf) (in-range region codes words answers ok)

  seen_plain : AsPlain (commands codes words) (reading region) (seen_run (length words) told region' answers')
  seen_plain = subst (AsPlain (commands codes words) (reading region)) (sym (seen-is wf ok p)) plain

  pub still-well-formed : WellFormed region'
  still-well-formed = (ran wf ok p).region-reads.well-formed

  -- member count after a list = count before + inserts answered 1 - removes answered 1, in the header's own words
  pub count-sum : get_or region' 7 0 + answered is_remove (commands codes words) (seen_run (length words) told region' answers').answers ≡ get_or region 7 0 + answered is_insert (commands codes words) (seen_run (length words) told region' answers').answers
  count-sum =
      let s : Run = seen_run (length words) told region' answers' in
      let r : s.reading ≡ reading region' = ap (λ (x : Run). x.reading) (seen-is wf ok p) ∙ sym (ran wf ok p).region-reads.reads in
      let e = seen_plain.counted in
      let a : count s.reading ≡ get_or region' 7 0 = ap count r ∙ word-7 region' still-well-formed in
      let b = word-7 region wf in
      omega arith

  whole-answers : (outcome region codes words).stopped ≡ false → take (length words) answers' ≡ (outcome region codes words).answers
  whole-answers e = ap (λ (n : ℕ). take n answers') (whole_length wf ok p e) ∙ given wf ok p

  reads : reading region' ≡ (outcome region codes words).reading
  reads = (ran wf ok p).region-reads.reads

  -- the answers to the commands on a word, in the lent bytes
  answers-seen : (w : ℕ) → (outcome region codes words).stopped ≡ false → answers_on w (commands codes words) answers' ≡ answers_on w (commands codes words) (outcome region codes words).answers
  answers-seen w e =
      ap (answers_on w (commands codes words)) (ran wf ok p).answers-are
      ∙ answers-on-append w (commands codes words) (outcome region codes words).answers (drop (length (outcome region codes words).answers) answers) (answers-length (commands codes words) (reading region) e)

  answers-plain : (outcome region codes words).stopped ≡ false → (outcome region codes words).answers ≡ plain_answers (commands codes words) (has (reading region))
  answers-plain e = plain.answers ∙ ap (λ (xs : List Command). plain_answers xs (has (reading region))) (plain.whole e)

pub demand-2 : Demand2
demand-2 region codes words answers wf ok told region' answers' p = seen_plain wf ok p

-- Demand 3

module _ {region : List ℕ} (wf : WellFormed region)
    {codes words answers : List ℕ} {told : Told (Unit {0})} {region₁ answers₁ : List ℕ} (ok : Accepted region codes words answers) (p : ListPromise region codes words answers told region₁ answers₁)
    {codes' words' answers' : List ℕ} {told' : Told (Unit {0})} {region₂ answers₂ : List ℕ} (ok' : Accepted region codes' words' answers') (p' : ListPromise region codes' words' answers' told' region₂ answers₂) where
  on-readings : Rearranged (commands codes words) (commands codes' words') → Demand3OnReadings (reading region) (commands codes words) (commands codes' words')
  on-readings = demand-3-on-readings (reading region) (commands codes words) (commands codes' words') (good region wf) (in-range region codes words answers ok) (in-range region codes' words' answers' ok')

  ends : Rearranged (commands codes words) (commands codes' words') → told ≡ gave tt → told' ≡ gave tt → SameEnd region codes words region₁ answers₁ codes' words' region₂ answers₂
  ends k t t' =
      let d = done-told wf ok p t in
      let d' = done-told wf ok' p' t' in
      let m = (on-readings k).same d d' in
      let wf₁ = still-well-formed wf ok p in
      let wf₂ = still-well-formed wf ok' p' in
      let e₁ = reads wf ok p in
      let e₂ = reads wf ok' p' in
      record {
        answers = λ w. answers-seen wf ok p w d ∙ m.answers w ∙ sym (answers-seen wf ok' p' w d');
        plain = whole-answers wf ok p d ∙ answers-plain wf ok p d;
        members = λ w. ap (λ (r : Reading). has r w) e₁ ∙ m.members w ∙ sym (ap (λ (r : Reading). has r w) e₂);
        count = sym (word-7 region₁ wf₁) ∙ ap count e₁ ∙ m.counts ∙ sym (ap count e₂) ∙ word-7 region₂ wf₂;
        containers = sym (word-5 region₁ wf₁) ∙ ap containers_in_use e₁ ∙ m.containers ∙ sym (ap containers_in_use e₂) ∙ word-5 region₂ wf₂;
        nodes = sym (word-6 region₁ wf₁) ∙ ap nodes_in_use e₁ ∙ m.nodes ∙ sym (ap nodes_in_use e₂) ∙ word-6 region₂ wf₂;
      }

  neither : Rearranged (commands codes words) (commands codes' words') → AllFit region (commands codes words) → (told ≡ gave tt) × (told' ≡ gave tt)
  neither k f = let s = (on-readings k).room f in (told-done wf ok p s.0, told-done wf ok' p' s.1)

pub demand-3 : Demand3
demand-3 region wf codes words answers ok codes' words' answers' ok' k told region₁ answers₁ p told' region₂ answers₂ p' = (ends wf ok p ok' p' k, neither wf ok p ok' p' k)
