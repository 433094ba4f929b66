-- The bit, the node, the link. Assumes nothing.
use mathlib.Core.Path.{refl, ◌∙◌}
use Rattle.arena.proofs.Stores.{compose}
use Rattle.arena.proofs.write.hang.Goals as goal

pub returns : goal.returns
returns c =
    record {
      hung = compose c.requires.x_bound c.requires.n_nonzero c.set_bit.ensures.made c.make_node.ensures.made refl c.set_child.ensures.made;
      spare = λ i h. c.set_child.ensures.spare i h ∙ c.make_node.ensures.spare i h ∙ c.set_bit.ensures.spare i h;
    }
