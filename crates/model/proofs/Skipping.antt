-- Words that are members may be left out of a list of inserts: "or" may take all of b, or b's words that a lacks. Assumes nothing.
use mathlib.Core.Path.{◌≡◌, refl, ◌∙◌}
use mathlib.Core.Bool.{Bool, true, false, not}
use mathlib.Core.List.{List, [], ◌∷◌}
use Prim.Native.Nat.{ℕ, ◌+◌}
use lib.Dec.{eqb}
use Rattle.lists.specs.Lists.{keep, mem}
use Rattle.model.specs.Change.{insert}
use Rattle.model.specs.Combine.{inserting}
use Rattle.model.specs.Commands.{Command, Run, has_room, run}
use Rattle.model.specs.Commands.Code.{Insert}
use Rattle.model.specs.Demands.{WordsInRange}
use Rattle.model.specs.Good.{Good}
use Rattle.model.specs.Reading.{Reading, has, walk}
use Rattle.lists.proofs.Laws.{by-test, or_right}
use Rattle.model.proofs.Steps.{insert-old, good-insert, members-insert}
use Rattle.model.proofs.Runs.{kept-insert, run_on, run-stop, in-range}
use Rattle.model.proofs.InUse.{member-has-room}

-- the same end: reading and stop
pub record SameResult (o o' : Run) : Type 0 where
  pub reading : o.reading ≡ o'.reading
  pub stopped : o.stopped ≡ o'.stopped

pub skip-members : (A : ℕ → Bool) (ws : List ℕ) (r : Reading) → Good r → WordsInRange (r.P + r.S) (inserting ws) → ((w : ℕ) → A w ≡ true → has r w ≡ true)
    → SameResult (run (inserting ws) r) (run (inserting (keep (λ w. not (A w)) ws)) r)
skip-members A [] r g i h = record { reading = refl; stopped = refl }
skip-members A (w ∷ ws) r g i h = go (A w) refl (skip-members A ws r g i.1 h) (skip-members A ws (insert w r))
  where
    c : Command
    c = record { code = Insert; word = w }

    go : (b : Bool) → A w ≡ b → SameResult (run (inserting ws) r) (run (inserting (keep (λ v. not (A v)) ws)) r)
        → (Good (insert w r) → WordsInRange ((insert w r).P + (insert w r).S) (inserting ws) → ((v : ℕ) → A v ≡ true → has (insert w r) v ≡ true) → SameResult (run (inserting ws) (insert w r)) (run (inserting (keep (λ v. not (A v)) ws)) (insert w r)))
        → SameResult (run (inserting (w ∷ ws)) r) (run (inserting (keep (λ v. not (A v)) (w ∷ ws))) r)
    go true e stay on = rw (e, run_on c (inserting ws) r (member-has-room r g w (h w e)), insert-old r g w i.0 (h w e)) (record { reading = stay.reading; stopped = stay.stopped })
    go false e stay on = by-test (has_room Insert w r)
        (λ f. let n = on (good-insert r g w i.0 f) (in-range (inserting ws) (kept-insert w r) i.1) (λ v a. unfold has in members-insert r g w i.0 v ∙ or_right (eqb v w) (mem v (walk r)) (h v a)) in
        rw (e, run_on c (inserting ws) r f, run_on c (inserting (keep (λ v. not (A v)) ws)) r f) (record { reading = n.reading; stopped = n.stopped }))
        (λ f. rw (e, run-stop c (inserting ws) r f, run-stop c (inserting (keep (λ v. not (A v)) ws)) r f) (record { reading = refl; stopped = refl }))
