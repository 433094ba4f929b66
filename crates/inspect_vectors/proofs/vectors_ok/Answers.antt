-- Each turn passes one slot more. Assumes nothing.
use mathlib.Core.Path.{sym, ◌∙◌}
use native.Mathlib.Omega.{arith}
use Rattle.lists.proofs.Answers.{refused, granted}
use Rattle.inspect_vectors.proofs.Passing.{pass-start, pass-next, pass-end}
use Rattle.inspect_vectors.proofs.vectors_ok.Goals.{else-kind-eq1-via-then-kind-eq1+else-not-vector_ok, else-kind-eq1-via-else-kind-eq1}
use Rattle.inspect_vectors.proofs.vectors_ok.Goals as goal

pub loop-c-init : goal.loop-c-init
loop-c-init c = pass-start

pub returns-then-not-firsts_ok : goal.returns-then-not-firsts_ok
returns-then-not-firsts_ok c =
    record {
      yes = (refused (c.firsts_ok.ensures.no c.if-not-firsts_ok.true)).0;
      no = (refused (c.firsts_ok.ensures.no c.if-not-firsts_ok.true)).1;
    }

pub returns-then-not-vector_ok : goal.returns-then-not-vector_ok
returns-then-not-vector_ok c =
    record {
      yes = (refused (λ all. c.vector_ok.ensures.no c.if-not-vector_ok.true (all c.loop-c.c (omega (arith, c.c-slots.ensures, c.loop-c-test.true)) (sym c.kind.ensures ∙ c.if-kind-eq1.true)))).0;
      no = (refused (λ all. c.vector_ok.ensures.no c.if-not-vector_ok.true (all c.loop-c.c (omega (arith, c.c-slots.ensures, c.loop-c-test.true)) (sym c.kind.ensures ∙ c.if-kind-eq1.true)))).1;
    }

pub loop-c-preserved : goal.loop-c-preserved
loop-c-preserved c =
    pass-next c.loop-c.invariant
    (λ e. elim c.else-kind-eq1.branch [
      | else-kind-eq1-via-then-kind-eq1+else-not-vector_ok w ↦ w.vector_ok.ensures.yes w.if-not-vector_ok.false
      | else-kind-eq1-via-else-kind-eq1 w ↦ absurd (w.if-kind-eq1.false (c.kind.ensures ∙ e))
    ])

pub returns : goal.returns
returns c =
    record {
      yes = (granted (pass-end (omega (arith, c.c-slots.ensures)) c.loop-c.invariant)).0;
      no = (granted (pass-end (omega (arith, c.c-slots.ensures)) c.loop-c.invariant)).1;
    }
