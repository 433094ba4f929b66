-- A block of lookups: it changes nothing, so its answers are those of its words in the region as it is. Assumes nothing.
use mathlib.Core.Path.{◌≡◌, refl, sym, ap, ap₂, ◌∙◌, subst}
use mathlib.Core.Bool.{Bool, true, false, cond, ◌&&◌}
use mathlib.Core.List.{List, [], ◌∷◌, ◌++◌, map}
use Prim.Native.Nat.{ℕ, suc, ◌≤◌, ◌<◌}
use native.Mathlib.Omega.{arith}
use lib.ListN.{length, take, drop, get_or, length-map, take-append-drop}
use borrow.Author.Tests.{eqb-true}
use Rattle.lists.specs.Lists.{all, one}
use Rattle.lists.proofs.Laws.{and_both}
use Rattle.model.specs.Reading.{Reading, has}
use Rattle.model.specs.Commands.{Code, Command, commands, Run, run}
use Rattle.model.proofs.Runs.{goes_on, run_on}
use Rattle.region.specs.Read.{reading}
use Rattle.region.specs.WellFormed.{WellFormed}
use Rattle.promises.specs.Refusals.{tell}
use Rattle.promises.specs.Refusals.Told.{gave}
use Rattle.promises.specs.List.{outcome, no_room, Ran}
use Rattle.wordset_list.specs.Performing.{RanAs, is_lookup, is_yes}

-- an answer by whether the word is a member
by_one : (b : Bool) → cond b 1 0 ≡ one b
by_one true = refl
by_one false = refl

yes-one : (b : Bool) → is_yes (one b) ≡ b
yes-one true = refl
yes-one false = refl

module _ (r : Reading) where
  -- the answers of lookups
  abbrev looks : List ℕ → List ℕ
  looks words = map (λ w. one (has r w)) words

  -- answers that are right one by one are the answers of the lookups
  pub looks-are : (words answers : List ℕ) → length words ≤ length answers → ((i : ℕ) → i < length words → get_or answers i 0 ≡ cond (has r (get_or words i 0)) 1 0) → take (length words) answers ≡ looks words
  looks-are [] answers l h = refl
  looks-are (w ∷ ws) [] l h = absurd (omega arith)
  looks-are (w ∷ ws) (a ∷ others) l h = ap₂ ◌∷◌ (h 0 (omega arith) ∙ by_one (has r w)) (looks-are ws others (omega arith) (λ i k. h (suc i) (omega arith)))

  -- no answer is 0 exactly when all words are members
  yes-all : (words : List ℕ) → all is_yes (looks words) ≡ all (has r) words
  yes-all [] = refl
  yes-all (w ∷ ws) = ap₂ ◌&&◌ (yes-one (has r w)) (yes-all ws)

  pub all-looked : (words answers : List ℕ) → length words ≤ length answers → ((i : ℕ) → i < length words → get_or answers i 0 ≡ cond (has r (get_or words i 0)) 1 0) → all is_yes (take (length words) answers) ≡ all (has r) words
  all-looked words answers l h = ap (all is_yes) (looks-are words answers l h) ∙ yes-all words

  -- what a list of lookups comes to
  run-looks : (codes words : List ℕ) → length codes ≡ length words → all is_lookup codes ≡ true → run (commands codes words) r ≡ record { answers = looks words; reading = r; stopped = false }
  run-looks [] [] n e = unfold run in refl
  run-looks [] (w ∷ ws) n e = absurd (omega arith)
  run-looks (k ∷ ks) [] n e = absurd (omega arith)
  run-looks (k ∷ ks) (w ∷ ws) n e =
      let c : Command = record { code = Code.Lookup; word = w } in
      let b = and_both (is_lookup k) (all is_lookup ks) e in
      subst (λ (x : ℕ). run (commands (x ∷ ks) (w ∷ ws)) r ≡ record { answers = looks (w ∷ ws); reading = r; stopped = false }) (sym (eqb-true k 0 b.0))
      (run_on c (commands ks ws) r refl ∙ ap (goes_on c r) (run-looks ks ws (omega arith) b.1))

-- a block of lookups ran as it should
pub looked-block : (l codes words answers answers' : List ℕ) → WellFormed l → length codes ≡ length words → length words ≤ length answers → all is_lookup codes ≡ true
    → ((i : ℕ) → i < length words → get_or answers' i 0 ≡ cond (has (reading l) (get_or words i 0)) 1 0) → length answers' ≡ length answers → drop (length words) answers' ≡ drop (length words) answers
    → RanAs l codes words answers (gave tt) l answers'
looked-block l codes words answers answers' wf n room e each long later =
    let r : Reading = reading l in
    let o : Run = record { answers = looks r words; reading = r; stopped = false } in
    let is : outcome l codes words ≡ o = run-looks r codes words n e in
    let taken : take (length words) answers' ≡ looks r words = looks-are r words answers' (omega arith) each in
    let m : length (looks r words) ≡ length words = length-map words (λ w. one (has r w)) in
    let ran : Ran l answers o l answers' = record {
      region-reads = record { well-formed = wf; reads = refl; past-stays = refl };
      answers-are = sym (take-append-drop (length words) answers') ∙ ap₂ ◌++◌ taken later ∙ ap (λ (k : ℕ). looks r words ++ drop k answers) (sym m);
    } in
    record {
      tells = ap (λ (x : Run). tell (no_room x) tt) (sym is);
      leaves = subst (λ (x : Run). Ran l answers x l answers') (sym is) ran;
    }
