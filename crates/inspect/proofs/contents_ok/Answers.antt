-- A test that says no rules the region out; where all say yes, what they say is together what is asked. Assumes nothing.
use mathlib.Core.Path.{sym, ◌∙◌}
use mathlib.Core.Bool.{true≢false}
use Rattle.region.specs.Areas.{numbers}
use Rattle.region.specs.Seen.{seen}
use Rattle.inspect_tries.specs.AllTries.{AllTries}
use Rattle.inspect.proofs.Whole.{whole_of, arena-part, rooted-part}
use Rattle.inspect.proofs.contents_ok.Goals as goal
use Rattle.inspect.proofs.contents_ok.Goals.{then-vectors_ok, else-vectors_ok}

pub returns-then-tries_ok-clause-yes : goal.returns-then-tries_ok-clause-yes
returns-then-tries_ok-clause-yes c =
    let l = c.args.region.now in
    elim c.if-vectors_ok.branch [
      | then-vectors_ok w ↦ λ e.
          let tries : AllTries (numbers l) (seen (numbers l) l) = w.tries_ok.ensures.yes (sym w.value-is ∙ c.if-tries_ok.true) in
          whole_of l c.requires.ready c.in-Some.ensures.0 c.requires.placed c.requires.stacked (record { vector = c.vectors_ok.ensures.yes w.if-vectors_ok.true; trie = tries.0 }) tries.1 (c.count_true.ensures.yes e)
      | else-vectors_ok w ↦ absurd (true≢false (sym c.if-tries_ok.true ∙ w.value-is ∙ w.if-vectors_ok.false))
    ]

pub returns-else-tries_ok-clause-no : goal.returns-else-tries_ok-clause-no
returns-else-tries_ok-clause-no c =
    elim c.if-vectors_ok.branch [
      | then-vectors_ok w ↦ λ e wf. w.tries_ok.ensures.no (sym w.value-is ∙ e) (wf.shape.held.trie, rooted-part _ wf)
      | else-vectors_ok w ↦ λ _ wf. c.vectors_ok.ensures.no w.if-vectors_ok.false wf.shape.held.vector
    ]

pub returns-in-None-clause-no : goal.returns-in-None-clause-no
returns-in-None-clause-no c = λ _ wf. c.in-None.ensures (arena-part _ wf)
