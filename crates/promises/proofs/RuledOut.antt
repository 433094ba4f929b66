-- The programs that document 01 rules out by name, each refuted from the promises at a region and a list named here; and the Rust's remove. Assumes nothing.
use mathlib.Core.Path.{◌≡◌, refl, sym, ap, ◌∙◌, subst}
use mathlib.Core.Logic.{◌≢◌}
use mathlib.Core.Bool.{false, true≢false}
use mathlib.Core.List.{List, [], ◌∷◌, ◌++◌, head-eq_of_cons-eq}
use Prim.Native.Nat.{ℕ, ◌+◌, ◌^◌, ◌<◌}
use native.Mathlib.Omega.{arith}
use lib.ListN.{length, drop, get_or}
use borrow.Author.Tests.{lt-ltb}
use Rattle.lists.specs.Lists.{mem}
use Rattle.model.specs.Room.{fits, containers_needed, nodes_needed, container_nodes}
use Rattle.model.specs.Reading.{Reading, walk, has, count, empty}
use Rattle.model.specs.Change.{insert, remove}
use Rattle.model.specs.Commands.{Run, run, commands}
use Rattle.region.specs.Fresh.{fresh}
use Rattle.region.specs.Read.{reading}
use Rattle.region.specs.WellFormed.{WellFormed}
use Rattle.region.proofs.Facts.{word-7}
use Rattle.region.proofs.FreshShape.{fresh-well-formed, fresh-reads}
use Rattle.promises.specs.Refusals.{Refusal, Told}
use Rattle.promises.specs.Refusals.Told.{gave, refused}
use Rattle.promises.specs.Check.{CheckPromise}
use Rattle.promises.specs.List.{outcome, ListPromise}
use Rattle.promises.specs.Demands.{Accepted}
use Rattle.promises.proofs.Tell.{holds-yes, gave-refused}
use Rattle.promises.proofs.Demands.{told-done, ran}

-- Any region that is well formed and reads as the fresh one of P=12, S=28, C=4, N=8; that one is such a region

pub named : WellFormed (fresh 12 28 4 8 ++ []) × (reading (fresh 12 28 4 8 ++ []) ≡ empty 12 28 4 8)
named = (fresh-well-formed 12 28 4 8 [] refl, fresh-reads 12 28 4 8 [])

-- what the list that inserts 7, then 4 leaves of an empty set
abbrev seven-four : Reading → Run
seven-four r = run (commands (1 ∷ 1 ∷ []) (7 ∷ 4 ∷ [])) r

two-of-empty : (walk (seven-four (empty 12 28 4 8)).reading ≡ 7 ∷ 4 ∷ []) × ((seven-four (empty 12 28 4 8)).stopped ≡ false)
unfolding run insert empty has walk fits containers_needed nodes_needed container_nodes
two-of-empty = (refl, refl)

module _ (R : List ℕ) (wf : WellFormed R) (e : reading R ≡ empty 12 28 4 8) where
  -- the list that inserts 7, with one answer byte lent, which holds 9
  one_ok : Accepted R (1 ∷ []) (7 ∷ []) (9 ∷ [])
  unfolding empty
  one_ok = rw e

  one-runs : outcome R (1 ∷ []) (7 ∷ []) ≡ record { answers = 1 ∷ []; reading = insert 7 (empty 12 28 4 8); stopped = false }
  unfolding run empty has walk fits containers_needed nodes_needed container_nodes
  one-runs = rw e

  -- and the list that inserts 7, then 4
  two_ok : Accepted R (1 ∷ 1 ∷ []) (7 ∷ 4 ∷ []) (9 ∷ 9 ∷ [])
  unfolding empty
  two_ok = rw e

  -- what the two commands leave: 7 and 4 are members, in this order, and the count is 2
  two_runs : (walk (outcome R (1 ∷ 1 ∷ []) (7 ∷ 4 ∷ [])).reading ≡ 7 ∷ 4 ∷ []) × ((outcome R (1 ∷ 1 ∷ []) (7 ∷ 4 ∷ [])).stopped ≡ false)
  two_runs = subst (λ (r : Reading). (walk (seven-four r).reading ≡ 7 ∷ 4 ∷ []) × ((seven-four r).stopped ≡ false)) (sym e) two-of-empty

  module _ {told : Told (Unit {0})} {region' answers' : List ℕ} where
    one-done : ListPromise R (1 ∷ []) (7 ∷ []) (9 ∷ []) told region' answers' → told ≡ gave tt
    one-done p = told-done wf one_ok p (ap (λ (o : Run). o.stopped) one-runs)

    one-answers : ListPromise R (1 ∷ []) (7 ∷ []) (9 ∷ []) told region' answers' → answers' ≡ 1 ∷ []
    one-answers p = (ran wf one_ok p).answers-are ∙ ap (λ (o : Run). o.answers ++ drop (length o.answers) (9 ∷ [])) one-runs

    one-reads : ListPromise R (1 ∷ []) (7 ∷ []) (9 ∷ []) told region' answers' → reading region' ≡ insert 7 (empty 12 28 4 8)
    one-reads p = (ran wf one_ok p).region-reads.reads ∙ ap (λ (o : Run). o.reading) one-runs

    two-walk : ListPromise R (1 ∷ 1 ∷ []) (7 ∷ 4 ∷ []) (9 ∷ 9 ∷ []) told region' answers' → walk (reading region') ≡ 7 ∷ 4 ∷ []
    two-walk p = ap walk (ran wf two_ok p).region-reads.reads ∙ two_runs.0

  -- no set that refuses every list: the insert of 7 is not refused
  pub no-refuser : {r : Refusal} {region' answers' : List ℕ} → ListPromise R (1 ∷ []) (7 ∷ []) (9 ∷ []) (refused r) region' answers' → ⊥
  no-refuser p = gave-refused (one-done p)

  -- no check that calls every region bad: this one is well formed
  pub no-alarm : {r : Refusal} → CheckPromise R (refused r) → ⊥
  no-alarm p = gave-refused (p.tells ∙ rw (holds-yes p.sound wf))

  -- no set that answers 0 always: the insert of 7 answers 1
  pub no_zero : {told : Told (Unit {0})} {region' : List ℕ} → ListPromise R (1 ∷ []) (7 ∷ []) (9 ∷ []) told region' (0 ∷ []) → ⊥
  no_zero p = let z : ◌≡◌ {A = ℕ} 0 1 = head-eq_of_cons-eq (one-answers p) in omega arith

  -- none that stores nothing: the region does not read as it did
  pub no-idle : {told : Told (Unit {0})} {region' answers' : List ℕ} → ListPromise R (1 ∷ []) (7 ∷ []) (9 ∷ []) told region' answers' → reading region' ≡ reading R → ⊥
  unfolding has walk insert empty
  no-idle p q = true≢false (ap (λ (r : Reading). has r 7) (sym (one-reads p) ∙ q ∙ e))

  -- no list that runs its first command only: 4 is a member too
  pub no-first-only : {told : Told (Unit {0})} {region' answers' : List ℕ} → ListPromise R (1 ∷ 1 ∷ []) (7 ∷ 4 ∷ []) (9 ∷ 9 ∷ []) told region' answers' → reading region' ≡ insert 7 (empty 12 28 4 8) → ⊥
  unfolding has walk insert empty
  no-first-only p q = true≢false (ap (mem 4) (sym (two-walk p) ∙ ap walk q))

  -- no invented count: after the insert of 7 the header says 1
  pub no-invented-count : {told : Told (Unit {0})} {region' answers' : List ℕ} → ListPromise R (1 ∷ []) (7 ∷ []) (9 ∷ []) told region' answers' → get_or region' 7 0 ≢ 1 → ⊥
  unfolding count walk insert empty has
  no-invented-count p h = h (sym (word-7 _ (ran wf one_ok p).region-reads.well-formed) ∙ ap count (one-reads p))

-- The Rust's remove counts an absent word under an existing path. On any region: a list that removes one absent word answers 0 and leaves the reading, so the count too
module _ {region : List ℕ} (wf : WellFormed region) (w : ℕ) (small : w < 2 ^ ((reading region).P + (reading region).S)) (absent : has (reading region) w ≡ false) where
  remove-ok : Accepted region (2 ∷ []) (w ∷ []) (9 ∷ [])
  remove-ok = rw (lt-ltb w (2 ^ ((reading region).P + (reading region).S)) small)

  remove-runs : outcome region (2 ∷ []) (w ∷ []) ≡ record { answers = 0 ∷ []; reading = reading region; stopped = false }
  unfolding run remove
  remove-runs = rw absent

  pub absent-removal : {told : Told (Unit {0})} {region' answers' : List ℕ} → ListPromise region (2 ∷ []) (w ∷ []) (9 ∷ []) told region' answers' → (answers' ≡ 0 ∷ []) × (reading region' ≡ reading region)
  absent-removal p = (
    (ran wf remove-ok p).answers-are ∙ ap (λ (o : Run). o.answers ++ drop (length o.answers) (9 ∷ [])) remove-runs,
    (ran wf remove-ok p).region-reads.reads ∙ ap (λ (o : Run). o.reading) remove-runs,
  )

  -- the Rust's answer is not allowed
  pub no-counted-removal : {told : Told (Unit {0})} {region' : List ℕ} → ListPromise region (2 ∷ []) (w ∷ []) (9 ∷ []) told region' (1 ∷ []) → ⊥
  no-counted-removal p = let z : ◌≡◌ {A = ℕ} 1 0 = head-eq_of_cons-eq (absent-removal p).0 in omega arith
