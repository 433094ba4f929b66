-- A first entry that is too high is no vector's; nothing else is said. Assumes nothing.
use mathlib.Core.Path.{sym, ◌∙◌}
use native.Mathlib.Omega.{arith}
use Rattle.inspect_vectors.proofs.Strips.{S-high, first-high}
use Rattle.inspect_vectors.proofs.firsts_ok.Goals as goal

pub overflow_shl-bound : goal.overflow_shl-bound
overflow_shl-bound c = omega (arith, c.s.ensures, S-high c.args.region.now c.requires)

pub returns-then-entry-bound : goal.returns-then-entry-bound
returns-then-entry-bound c =
    record {
      no =
          λ e all. first-high c.args.region.now c.requires c.s.result c.loop-d.d c.entry.result c.s.ensures c.entry.ensures c.if-entry-bound.true
          (all c.loop-d.d (omega (arith, c.c.ensures, c.min-end.ensures)) (sym c.kind.ensures ∙ c.if-kind-eq1.true));
    }
