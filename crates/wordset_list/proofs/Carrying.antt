-- A run carried over its commands one at a time: where it starts, one command further, where it stops for room, where it ends. Assumes nothing.
use mathlib.Core.Path.{◌≡◌, refl, sym, ap, ap₂, ◌∙◌, subst}
use mathlib.Core.Bool.{Bool, true, false}
use mathlib.Core.List.{List, [], ◌∷◌, ◌++◌, append-nil}
use Prim.Native.Nat.{ℕ, suc, ◌+◌, ◌^◌, ◌≤◌, ◌<◌}
use native.Mathlib.Omega.{arith}
use native.Mathlib.Numerals.{add-one}
use lib.ListN.{length, take, drop, get_or, set, length-set, take-append-drop}
use lib.Seq.{drop-cons, drop-drop, drop-length, drop-set-lt, take-suc-set, append_snoc, length-take-le}
use borrow.Author.Tests.{leb-true, ltb-true}
use Rattle.lists.specs.Lists.{first_bad}
use Rattle.model.specs.Reading.{Reading, has}
use Rattle.model.specs.Commands.{Command, code_of, known_code, commands, answer, changed, Run, run}
use Rattle.model.specs.Demands.{Kept}
use Rattle.model.proofs.Runs.{kept_self, kept_trans, kept-changed, run_on, run-stop}
use Rattle.region.specs.Geometry.{total}
use Rattle.region.specs.Areas.{numbers}
use Rattle.region.specs.Read.{read, reading}
use Rattle.region.specs.WellFormed.{WellFormed}
use Rattle.promises.specs.Refusals.{refusal, when, tell}
use Rattle.promises.specs.Refusals.Told.{gave, refused}
use Rattle.promises.specs.Reads.{past}
use Rattle.promises.specs.List.{word_of, outcome, no_room, Ran}
use Rattle.wordset_list.specs.Performing.{AnsweredAs, StoppedAs, continued, Going, RanAs}
use Rattle.wordset_list.proofs.Judging.{passes}

-- the words past the total are the same words where the four numbers are kept
pub past-kept : {r r' : Reading} → Kept r r' → (m : List ℕ) → past r' m ≡ past r m
past-kept {r} {r'} k m =
    ap (λ (p : ℕ). drop (total p r'.C r'.N) m) k.P
    ∙ ap (λ (c : ℕ). drop (total r.P c r'.N) m) k.C
    ∙ ap (λ (n : ℕ). drop (total r.P r.C n) m) k.N

-- a word that is not too large for what a region reads as is below the bound of its header
pub word_read : (l words : List ℕ) (i : ℕ) → length words ≤ first_bad (word_of (reading l)) words → i < length words → get_or words i 0 < 2 ^ ((numbers l).P + (numbers l).S)
unfolding reading read
word_read l words i k h = ltb-true (get_or words i 0) (2 ^ ((numbers l).P + (numbers l).S)) (passes (word_of (reading l)) words i k h)

-- one answer more before a run
carried : (xs ys : List ℕ) (x : ℕ) (o : Run) → ys ≡ xs ++ (x ∷ []) → continued xs (record { answers = x ∷ o.answers; reading = o.reading; stopped = o.stopped }) ≡ continued ys o
carried xs ys x o e = ap (λ (zs : List ℕ). record { answers = zs; reading = o.reading; stopped = o.stopped }) (sym (ap (λ (zs : List ℕ). zs ++ o.answers) e ∙ append_snoc xs x o.answers))

-- the commands from i on begin with command i
command-at : (codes words : List ℕ) (i : ℕ) → i < length codes → i < length words
    → commands (drop i codes) (drop i words) ≡ record { code = code_of (get_or codes i 0); word = get_or words i 0 } ∷ commands (drop (suc i) codes) (drop (suc i) words)
command-at codes words i h k = ap₂ commands (drop-cons codes i 0 h) (drop-cons words i 0 k)

module _ (l codes words answers : List ℕ) where
  -- before the first command
  pub start : WellFormed l → Going l codes words answers 0 l answers
  start wf = record { inside = omega arith; sound = wf; kept = kept_self (reading l); size = refl; past-stays = refl; long = refl; later = refl; whole = refl }

  -- the code of command i is known
  pub code-known : (i : ℕ) → length codes ≤ first_bad known_code codes → i < length codes → get_or codes i 0 ≤ 2
  code-known i k h = leb-true (get_or codes i 0) 2 (passes known_code codes i k h)

  module _ {i : ℕ} {l' answers' : List ℕ} (g : Going l codes words answers i l' answers') where
    -- the word of command i is a word of the region as it is now
    pub word_fits : length words ≤ first_bad (word_of (reading l)) words → i < length words → get_or words i 0 < 2 ^ ((numbers l').P + (numbers l').S)
    unfolding reading read
    word_fits k h =
        let s : (numbers l).P + (numbers l).S ≡ (numbers l').P + (numbers l').S = sym (ap₂ ◌+◌ g.kept.P g.kept.S) in
        subst (λ (b : ℕ). get_or words i 0 < 2 ^ b) s (word_read l words i k h)

    module _ (same : length codes ≡ length words) (room : length words ≤ length answers) where
      -- command i is answered
      pub next : {a : ℕ} {l'' : List ℕ} (j : ℕ) → j ≡ suc i → i < length words → length l'' ≡ length l' → AnsweredAs (code_of (get_or codes i 0)) (get_or words i 0) l' a l'' → Going l codes words answers j l'' (set answers' i a)
      next {a} {l''} j is h n p =
          let c : Command = record { code = code_of (get_or codes i 0); word = get_or words i 0 } in
          let r : Reading = changed c.code c.word (reading l') in
          let k : Kept (reading l) r = kept_trans g.kept (kept-changed c.code c.word (reading l')) in
          let rest : List Command = commands (drop (suc i) codes) (drop (suc i) words) in
          let fits : i < length answers' = omega (arith, g.long) in
          let taken : take (suc i) (set answers' i a) ≡ take i answers' ++ (answer c.code (has (reading l') c.word) ∷ []) =
          take-suc-set answers' i a fits ∙ ap (λ (b : ℕ). take i answers' ++ (b ∷ [])) p.gives in
          let one_more : Going l codes words answers (suc i) l'' (set answers' i a) =
          record {
            inside = omega arith;
            sound = p.reads.well-formed;
            kept = subst (Kept (reading l)) (sym p.reads.reads) k;
            size = n ∙ g.size;
            past-stays = sym (past-kept k l'') ∙ p.reads.past-stays ∙ past-kept k l' ∙ g.past-stays;
            long = length-set answers' i a ∙ g.long;
            later = drop-set-lt (suc i) answers' i a (omega arith) ∙ further answers' answers g.later;
            whole = g.whole
                ∙ ap (λ (cs : List Command). continued (take i answers') (run cs (reading l'))) (command-at codes words i (omega arith) h)
                ∙ ap (continued (take i answers')) (run_on c rest (reading l') p.room)
                ∙ carried (take i answers') (take (suc i) (set answers' i a)) (answer c.code (has (reading l') c.word)) (run rest r) taken
                ∙ ap (λ (s : Reading). continued (take (suc i) (set answers' i a)) (run rest s)) (sym p.reads.reads);
          } in
          subst (λ (m : ℕ). Going l codes words answers m l'' (set answers' i a)) (sym is) one_more
        where
          further : (xs ys : List ℕ) → drop i xs ≡ drop i ys → drop (suc i) xs ≡ drop (suc i) ys
          further xs ys e = ap (λ (n : ℕ). drop n xs) (sym (add-one i)) ∙ sym (drop-drop 1 i xs) ∙ ap (drop 1) e ∙ drop-drop 1 i ys ∙ ap (λ (n : ℕ). drop n ys) (add-one i)

      -- the whole outcome is what was answered so far, and the region reads as it does now
      ended : (b : Bool) → outcome l codes words ≡ record { answers = take i answers'; reading = reading l'; stopped = b } → RanAs l codes words answers (tell (when b 9 i) tt) l' answers'
      ended b e =
          let n : length (take i answers') ≡ i = length-take-le i answers' (omega (arith, g.long, g.inside)) in
          let o : Run = record { answers = take i answers'; reading = reading l'; stopped = b } in
          let ran : Ran l answers o l' answers' = record {
            region-reads = record { well-formed = g.sound; reads = refl; past-stays = past-kept g.kept l' ∙ g.past-stays ∙ sym (past-kept g.kept l) };
            answers-are = joined ∙ ap (λ (k : ℕ). take i answers' ++ drop k answers) (sym n);
          } in
          record {
            tells = ap (λ (k : ℕ). tell (when b 9 k) tt) (sym n) ∙ ap (λ (x : Run). tell (no_room x) tt) (sym e);
            leaves = subst (λ (x : Run). Ran l answers x l' answers') (sym e) ran;
          }
        where
          joined : answers' ≡ take i answers' ++ drop i answers
          joined = sym (take-append-drop i answers') ∙ ap (λ (zs : List ℕ). take i answers' ++ zs) g.later

      -- command i finds no room
      pub stop : {l'' : List ℕ} → i < length words → StoppedAs (code_of (get_or codes i 0)) (get_or words i 0) l' l'' → RanAs l codes words answers (refused (refusal 9 i)) l'' answers'
      stop {l''} h p =
          let c : Command = record { code = code_of (get_or codes i 0); word = get_or words i 0 } in
          let rest : List Command = commands (drop (suc i) codes) (drop (suc i) words) in
          let e : outcome l codes words ≡ record { answers = take i answers'; reading = reading l'; stopped = true } =
          g.whole
          ∙ ap (λ (cs : List Command). continued (take i answers') (run cs (reading l'))) (command-at codes words i (omega arith) h)
          ∙ ap (continued (take i answers')) (run-stop c rest (reading l') p.no_room)
          ∙ ap (λ (zs : List ℕ). record { answers = zs; reading = reading l'; stopped = true }) (append-nil (take i answers')) in
          subst (λ (m : List ℕ). RanAs l codes words answers (refused (refusal 9 i)) m answers') (sym p.stays) (ended true e)

      -- every command is answered
      pub done : length words ≤ i → RanAs l codes words answers (gave tt) l' answers'
      unfolding run
      done h =
          let z : i ≡ length words = omega (arith, g.inside) in
          let y : i ≡ length codes = omega (arith, g.inside) in
          let n : commands (drop i codes) (drop i words) ≡ [] = ap (λ (k : ℕ). commands (drop k codes) (drop i words)) y ∙ ap (λ (xs : List ℕ). commands xs (drop i words)) (drop-length codes) in
          let e : outcome l codes words ≡ record { answers = take i answers'; reading = reading l'; stopped = false } =
          g.whole
          ∙ ap (λ (cs : List Command). continued (take i answers') (run cs (reading l'))) n
          ∙ ap (λ (zs : List ℕ). record { answers = zs; reading = reading l'; stopped = false }) (append-nil (take i answers')) in
          ended false e
