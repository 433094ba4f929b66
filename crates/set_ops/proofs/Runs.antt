-- A run after another is one run, and no run changes the header's numbers. Assumes nothing.
use Rattle.std.proofs.Common.{◌≡◌, ℕ, true, false, List, [], ◌∷◌, ◌++◌, sym, refl, ap, ◌∙◌, subst, true≢false}
use mathlib.Core.Bool.{false≢true}
use Rattle.lists.proofs.Laws.{by-test}
use Rattle.model.specs.Reading.{Reading}
use Rattle.model.specs.Commands.{Code, Command, Run, changed, has_room, run}
use Rattle.model.specs.Combine.{inserting}
use Rattle.model.specs.Demands.{Kept}
use Rattle.model.proofs.Runs.{goes_on, kept-changed, kept_self, kept_trans, run_on, run-stop}

-- the commands of two lists of words, one after the other
pub inserting-append : (vs ws : List ℕ) → inserting (vs ++ ws) ≡ inserting vs ++ inserting ws
inserting-append [] ws = refl
inserting-append (v ∷ vs) ws = ap (λ (cs : List Command). record { code = Code.Insert; word = v } ∷ cs) (inserting-append vs ws)

-- a run keeps the header's four numbers
pub kept_run : (cs : List Command) (r : Reading) → Kept r (run cs r).reading
kept_run [] r = unfold run in kept_self r
kept_run (c ∷ cs) r = by-test (has_room c.code c.word r) (on (kept_run cs (changed c.code c.word r))) (λ e. subst (λ (o : Run). Kept r o.reading) (sym (run-stop c cs r e)) (kept_self r))
  where
    r' : Reading
    r' = changed c.code c.word r

    on : Kept r' (run cs r').reading → has_room c.code c.word r ≡ true → Kept r (run (c ∷ cs) r).reading
    on ih e = subst (λ (o : Run). Kept r o.reading) (sym (run_on c cs r e)) (kept_trans (kept-changed c.code c.word r) ih)

-- the second list runs where the first ended
pub record Joins (xs ys : List Command) (r : Reading) : Type 0 where
  pub stopped : (run (xs ++ ys) r).stopped ≡ (run ys (run xs r).reading).stopped
  pub reading : (run (xs ++ ys) r).reading ≡ (run ys (run xs r).reading).reading

-- where the first ends, the whole joins
pub run-append : (xs ys : List Command) (r : Reading) → (run xs r).stopped ≡ false → Joins xs ys r
run-append [] ys r e = unfold run in record { stopped = refl; reading = refl }
run-append (x ∷ xs) ys r e = by-test (has_room x.code x.word r) (on (run-append xs ys (changed x.code x.word r))) (λ h. absurd (true≢false (sym (ap (λ (o : Run). o.stopped) (run-stop x xs r h)) ∙ e)))
  where
    r' : Reading
    r' = changed x.code x.word r

    on : ((run xs r').stopped ≡ false → Joins xs ys r') → has_room x.code x.word r ≡ true → Joins (x ∷ xs) ys r
    on ih h =
        let s : run (x ∷ xs) r ≡ goes_on x r (run xs r') = run_on x xs r h in
        let t : run (x ∷ (xs ++ ys)) r ≡ goes_on x r (run (xs ++ ys) r') = run_on x (xs ++ ys) r h in
        let j : Joins xs ys r' = ih (sym (ap (λ (o : Run). o.stopped) s) ∙ e) in
        record {
          stopped = ap (λ (o : Run). o.stopped) t ∙ j.stopped ∙ ap (λ (o : Run). (run ys o.reading).stopped) (sym s);
          reading = ap (λ (o : Run). o.reading) t ∙ j.reading ∙ ap (λ (o : Run). (run ys o.reading).reading) (sym s);
        }

-- where the first stops, the whole stops
pub run-halts : (xs ys : List Command) (r : Reading) → (run xs r).stopped ≡ true → (run (xs ++ ys) r).stopped ≡ true
run-halts [] ys r e = absurd (false≢true (unfold run in e))
run-halts (x ∷ xs) ys r e = by-test (has_room x.code x.word r) (on (run-halts xs ys (changed x.code x.word r))) (λ h. ap (λ (o : Run). o.stopped) (run-stop x (xs ++ ys) r h))
  where
    r' : Reading
    r' = changed x.code x.word r

    on : ((run xs r').stopped ≡ true → (run (xs ++ ys) r').stopped ≡ true) → has_room x.code x.word r ≡ true → (run (x ∷ (xs ++ ys)) r).stopped ≡ true
    on ih h = ap (λ (o : Run). o.stopped) (run_on x (xs ++ ys) r h) ∙ ih (sym (ap (λ (o : Run). o.stopped) (run_on x xs r h)) ∙ e)
