-- A container in use is a vector or a trie. Assumes nothing.
use Rattle.std.proofs.Common.{sym, ◌∙◌}
use Rattle.set_ops.proofs.Sources.{kind-two}
use Rattle.set_ops.proofs.pour.pour_container.Goals as goal

pub pour_vector-requires : goal.pour_vector-requires
pour_vector-requires c =
    record {
      well_formed = c.requires.well_formed;
      well_formed_2 = c.requires.well_formed_2;
      well_formed_3 = c.requires.well_formed_3;
      alike = c.requires.alike;
      alike_2 = c.requires.alike_2;
      c_bound = c.requires.c_bound;
      c_value = sym c.kind.ensures ∙ c.if-kind-eq1.true;
    }

pub pour_trie-requires : goal.pour_trie-requires
pour_trie-requires c =
    record {
      well_formed = c.requires.well_formed;
      well_formed_2 = c.requires.well_formed_2;
      well_formed_3 = c.requires.well_formed_3;
      alike = c.requires.alike;
      alike_2 = c.requires.alike_2;
      c_bound = c.requires.c_bound;
      c_value = kind-two c.args.source.set.now c.requires.well_formed c.args.c c.requires.c_bound c.kind.result c.kind.ensures c.requires.c_nonzero c.if-kind-eq1.false;
    }
