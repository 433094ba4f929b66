-- An only root has all nodes under it, so that the bits of the last level are its suffixes. Assumes nothing.
use mathlib.Core.Path.{sym, ◌∙◌}
use native.Mathlib.Omega.{arith}
use Rattle.arena.specs.Arena.{nodes_in}
use Rattle.inspect_tries.proofs.OneRoot.{one-root}
use Rattle.inspect_tries.proofs.suffixes.Goals as goal

pub returns-then-nodes-eq1 : goal.returns-then-nodes-eq1
returns-then-nodes-eq1 c =
    let a = c.args in
    c.requires.last_value ∙ sym (one-root (nodes_in a.shape.slots a.arena.now) a.shape.slots a.shape.b a.n (λ n x. omega arith) c.requires.tries.wf (record { in-range = c.requires.n_root.in-range; level = c.requires.n_root.level }) (omega (arith, c.requires.roots_value, c.if-nodes-eq1.true)))
