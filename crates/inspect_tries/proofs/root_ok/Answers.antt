-- The first two tests are on the record of the root; the bytes of the root stand for all suffixes. Assumes nothing.
use Prim.Native.Nat.{ℕ}
use mathlib.Core.Path.{sym, ap, subst, ◌∙◌}
use mathlib.Core.Bool.{true≢false}
use lib.ListN.{length}
use borrow.Author.Tests.{eqb-true, eqb-false}
use Rattle.region.specs.Nodes.{Nodes}
use Rattle.region.specs.Tries.{members}
use Rattle.region.specs.WellFormed.{Children}
use Rattle.arena.specs.Arena.{nodes_in}
use Rattle.inspect_tries.proofs.RootBytes.{bytes-suffixes, suffixes-bytes}
use Rattle.inspect_tries.proofs.root_ok.Goals as goal
use Rattle.inspect_tries.proofs.root_ok.Goals.{then-level1-eq1, else-level1-eq1, then-parent-c, else-parent-c}

pub returns-then-bytes_below-clause-yes : goal.returns-then-bytes_below-clause-yes
returns-then-bytes_below-clause-yes c =
    let a = c.args in
    let nodes : Nodes = nodes_in a.shape.slots a.arena.now in
    elim c.if-parent-c.branch [
      | then-parent-c w ↦ elim c.if-level1-eq1.branch [
        | then-level1-eq1 u ↦ λ e. record {
          level = sym c.level1.ensures ∙ u.if-level1-eq1.true;
          back = sym u.parent.ensures ∙ eqb-true _ _ (sym u.value-is ∙ w.if-parent-c.true);
          small = bytes-suffixes nodes a.bits a.n w.first_end.result c.requires.le_bits.0 w.first_end.ensures (w.bytes_below.ensures.yes (sym w.value-is ∙ c.if-bytes_below.true));
          true-size = sym (eqb-true _ _ e) ∙ c.suffixes.ensures ∙ ap (λ (b : ℕ). length (members nodes b a.n)) c.requires.levels;
        }
        | else-level1-eq1 u ↦ absurd (u.if-level1-eq1.false (eqb-true _ _ (sym u.value-is ∙ w.if-parent-c.true)))
      ]
      | else-parent-c w ↦ absurd (true≢false (sym c.if-bytes_below.true ∙ w.value-is ∙ w.if-parent-c.false))
    ]

pub returns-else-bytes_below-clause-no : goal.returns-else-bytes_below-clause-no
returns-else-bytes_below-clause-no c =
    let a = c.args in
    let nodes : Nodes = nodes_in a.shape.slots a.arena.now in
    elim c.if-parent-c.branch [
      | then-parent-c w ↦ λ e t. w.bytes_below.ensures.no (sym w.value-is ∙ e)
          (suffixes-bytes nodes a.bits a.n w.first_end.result c.requires.le_bits.0 w.first_end.ensures
          a.shape.slots (subst (Children nodes a.shape.slots) c.requires.levels c.requires.tries.wf.down) c.requires.tries.non-empty (record { in-range = c.requires.n_lt_slots; level = t.level }) t.small)
      | else-parent-c w ↦ λ e t. elim c.if-level1-eq1.branch [
        | then-level1-eq1 u ↦ eqb-false _ _ (sym u.value-is ∙ w.if-parent-c.false) (u.parent.ensures ∙ t.back)
        | else-level1-eq1 u ↦ u.if-level1-eq1.false (c.level1.ensures ∙ t.level)
      ]
    ]
