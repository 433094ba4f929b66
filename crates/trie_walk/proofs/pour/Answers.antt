-- The root alone is a row of one. Assumes nothing.
use mathlib.Core.Path.{refl, ap, ◌∙◌}
use native.Mathlib.Omega.{arith}
use lib.ListN.{set, replicate}
use Rattle.arena.specs.Arena.{nodes_in}
use Rattle.trie_walk.specs.Pour.{state, poured, not_below}
use Rattle.trie_walk.proofs.Roots.{root-batch, root-listed}
use Rattle.trie_walk.proofs.pour.Goals as goal

pub below-requires : goal.below-requires
below-requires c =
    record {
      batch = root-batch _ _ c.args.root refl refl c.args.shape.slots c.args.shape.b c.args.arena.now c.requires.tries c.requires.root c.args.shape.levels.0 c.args.shape.levels.1;
      count_bound = omega arith;
    }

pub returns : goal.returns
returns c =
    let a = c.args in
    c.below.ensures ∙ ap (λ xs. poured (not_below a.from xs) (state a.skip 0 a.out.now)) (root-listed (set (replicate 32 0) 0 a.root) (replicate 32 0) a.root refl refl (nodes_in a.shape.slots a.arena.now) a.shape.b)
