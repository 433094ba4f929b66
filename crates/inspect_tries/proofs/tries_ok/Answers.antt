-- Each turn passes one slot more, and once all are passed the counts decide. Assumes nothing.
use Prim.Native.Nat.{ℕ, ◌<◌}
use mathlib.Core.Path.{◌≡◌, sym, ap, ◌∙◌}
use mathlib.Core.List.{List}
use native.Mathlib.Omega.{arith}
use Rattle.region.specs.Areas.{numbers}
use Rattle.region.specs.Nodes.{Nodes}
use Rattle.region.specs.Seen.{seen}
use borrow.Author.Tests.{eqb-true, eqb-false}
use Rattle.lists.proofs.Answers.{refused}
use Rattle.arena_check.specs.Checks.{roots_in}
use Rattle.inspect_tries.proofs.Lent.{nodes-are}
use Rattle.inspect_tries.proofs.Roots.{Passed, pass-start, tries-few, pass-trie, pass-other, pass-end, matched, matching}
use Rattle.inspect_tries.proofs.tries_ok.Goals.{then-kind-eq2+else-not-trie_ok, else-kind-eq2}
use Rattle.inspect_tries.proofs.tries_ok.Goals as goal

pub loop-c-init : goal.loop-c-init
loop-c-init c = pass-start _ _

pub trie_ok-requires : goal.trie_ok-requires
trie_ok-requires c =
    record {
      ready = c.requires.ready;
      arena = c.requires.arena;
      c_bound = omega (arith, c.c-slots.ensures, c.loop-c-test.true);
      roots_value = c.requires.roots_value;
      last_value = c.requires.last_value;
    }

pub returns-then-not-trie_ok : goal.returns-then-not-trie_ok
returns-then-not-trie_ok c =
    record {
      yes = (refused (λ h. c.trie_ok.ensures.no c.if-not-trie_ok.true (h.0 c.loop-c.c (omega (arith, c.c-slots.ensures, c.loop-c-test.true)) (sym c.kind.ensures ∙ c.if-kind-eq2.true)))).0;
      no = (refused (λ h. c.trie_ok.ensures.no c.if-not-trie_ok.true (h.0 c.loop-c.c (omega (arith, c.c-slots.ensures, c.loop-c-test.true)) (sym c.kind.ensures ∙ c.if-kind-eq2.true)))).1;
    }

pub overflow_add-tries : goal.overflow_add-tries
overflow_add-tries c = omega (arith, tries-few _ _ c.loop-c.invariant, c.loop-c-test.true)

pub loop-c-preserved : goal.loop-c-preserved
loop-c-preserved c =
    let h : c.loop-c.c < (numbers c.args.region.now).C = omega (arith, c.loop-c-test.true, c.c-slots.ensures) in
    elim c.if-kind-eq2.branch [
      | then-kind-eq2+else-not-trie_ok w ↦ pass-trie _ _ c.loop-c.invariant h (sym c.kind.ensures ∙ w.if-kind-eq2.true) (w.trie_ok.ensures.yes w.if-not-trie_ok.false) w.tries-is
      | else-kind-eq2 w ↦ pass-other _ _ c.loop-c.invariant h (λ e. w.if-kind-eq2.false (c.kind.ensures ∙ e)) w.tries-is
    ]

pub returns : goal.returns
returns c =
    let words : List ℕ =
    c.args.region.now in
    let all : Passed (numbers words) (seen (numbers words) words) (numbers words).C c.loop-c.tries =
    pass-end _ _ c.loop-c.invariant (omega (arith, c.loop-c-test.false, c.c-slots.ensures)) in
    let roots : c.args.nodes.roots ≡ roots_in (seen (numbers words) words).node (numbers words).N =
    c.requires.roots_value ∙ ap (λ (m : Nodes). roots_in m (numbers words).N) (nodes-are words c.requires.ready) in
    record {
      yes = λ e. matched _ _ all roots (omega (arith, eqb-true _ _ e));
      no = λ e a. omega (arith, eqb-false _ _ e, matching _ _ all roots a);
    }
