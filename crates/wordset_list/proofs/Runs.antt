-- A run after another is one run; the commands of a list, cut in two. Assumes nothing.
use mathlib.Core.Path.{◌≡◌, refl, sym, ap, ◌∙◌, subst}
use mathlib.Core.Bool.{true, false, true≢false, false≢true}
use mathlib.Core.List.{List, [], ◌∷◌, ◌++◌, append_assoc}
use Prim.Native.Nat.{ℕ, zero, suc}
use native.Mathlib.Omega.{arith}
use lib.ListN.{length, take, drop}
use Rattle.lists.proofs.Laws.{by-test}
use Rattle.model.specs.Reading.{Reading}
use Rattle.model.specs.Commands.{Command, changed, code_of, commands, has_room, Run, run}
use Rattle.model.specs.Demands.{Kept}
use Rattle.model.proofs.Runs.{goes_on, kept-changed, kept_self, kept_trans, run_on, run-stop}
use Rattle.wordset_list.specs.Performing.{continued}

-- a run keeps the header's four numbers
pub kept_run : (cs : List Command) (r : Reading) → Kept r (run cs r).reading
kept_run [] r = unfold run in kept_self r
kept_run (c ∷ cs) r = by-test (has_room c.code c.word r) (on (kept_run cs (changed c.code c.word r))) (λ e. subst (λ (o : Run). Kept r o.reading) (sym (run-stop c cs r e)) (kept_self r))
  where
    r' : Reading
    r' = changed c.code c.word r

    on : Kept r' (run cs r').reading → has_room c.code c.word r ≡ true → Kept r (run (c ∷ cs) r).reading
    on ih e = subst (λ (o : Run). Kept r o.reading) (sym (run_on c cs r e)) (kept_trans (kept-changed c.code c.word r) ih)

-- what two lists come to, one after the other
abbrev pub both : Run → (Reading → Run) → Run
both o f = continued o.answers (f o.reading)

-- the second list runs where the first ended
pub run-joins : (xs ys : List Command) (r : Reading) → (run xs r).stopped ≡ false → run (xs ++ ys) r ≡ both (run xs r) (run ys)
run-joins [] ys r e = unfold run in refl
run-joins (x ∷ xs) ys r e = by-test (has_room x.code x.word r) (on (run-joins xs ys (changed x.code x.word r))) (λ h. absurd (true≢false (sym (ap (λ (o : Run). o.stopped) (run-stop x xs r h)) ∙ e)))
  where
    r' : Reading
    r' = changed x.code x.word r

    on : ((run xs r').stopped ≡ false → run (xs ++ ys) r' ≡ both (run xs r') (run ys)) → has_room x.code x.word r ≡ true → run (x ∷ (xs ++ ys)) r ≡ both (run (x ∷ xs) r) (run ys)
    on ih h =
        let s : run (x ∷ xs) r ≡ goes_on x r (run xs r') = run_on x xs r h in
        run_on x (xs ++ ys) r h ∙ ap (goes_on x r) (ih (sym (ap (λ (o : Run). o.stopped) s) ∙ e)) ∙ ap (λ (o : Run). both o (run ys)) (sym s)

-- where the first stops, the second is not tried
pub run-halts : (xs ys : List Command) (r : Reading) → (run xs r).stopped ≡ true → run (xs ++ ys) r ≡ run xs r
run-halts [] ys r e = absurd (false≢true (unfold run in e))
run-halts (x ∷ xs) ys r e = by-test (has_room x.code x.word r) (on (run-halts xs ys (changed x.code x.word r))) (λ h. run-stop x (xs ++ ys) r h ∙ sym (run-stop x xs r h))
  where
    r' : Reading
    r' = changed x.code x.word r

    on : ((run xs r').stopped ≡ true → run (xs ++ ys) r' ≡ run xs r') → has_room x.code x.word r ≡ true → run (x ∷ (xs ++ ys)) r ≡ run (x ∷ xs) r
    on ih h =
        let s : run (x ∷ xs) r ≡ goes_on x r (run xs r') = run_on x xs r h in
        run_on x (xs ++ ys) r h ∙ ap (goes_on x r) (ih (sym (ap (λ (o : Run). o.stopped) s) ∙ e)) ∙ sym s

-- answers before answers before a run
pub continued-twice : (xs ys : List ℕ) (o : Run) → continued xs (continued ys o) ≡ continued (xs ++ ys) o
continued-twice xs ys o = ap (λ (zs : List ℕ). record { answers = zs; reading = o.reading; stopped = o.stopped }) (sym (append_assoc xs ys o.answers))

-- as many commands as words
pub commands-length : (codes words : List ℕ) → length codes ≡ length words → length (commands codes words) ≡ length words
commands-length [] [] e = refl
commands-length [] (w ∷ ws) e = absurd (omega arith)
commands-length (k ∷ ks) [] e = absurd (omega arith)
commands-length (k ∷ ks) (w ∷ ws) e = ap suc (commands-length ks ws (omega arith))

-- the first n commands, and those behind them
pub commands-split : (n : ℕ) (codes words : List ℕ) → length codes ≡ length words → commands codes words ≡ commands (take n codes) (take n words) ++ commands (drop n codes) (drop n words)
commands-split zero codes words e = refl
commands-split (suc n) [] words e = refl
commands-split (suc n) (k ∷ ks) [] e = absurd (omega arith)
commands-split (suc n) (k ∷ ks) (w ∷ ws) e = ap (λ (cs : List Command). record { code = code_of k; word = w } ∷ cs) (commands-split n ks ws (omega arith))
