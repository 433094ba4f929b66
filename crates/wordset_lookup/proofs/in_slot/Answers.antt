-- A slot in use holds a vector or a trie. Assumes nothing.
use mathlib.Core.Path.{◌∙◌}
use Rattle.wordset_lookup.proofs.Looks.{kind-two}
use Rattle.wordset_lookup.proofs.in_slot.Goals as goal

pub in_trie-requires : goal.in_trie-requires
in_trie-requires c =
    record {
      well_formed = c.requires.well_formed;
      c_bound = c.requires.c_bound;
      is_trie = kind-two c.args.region.now c.requires.well_formed c.args.c c.requires.c_bound c.requires.in_use (λ z. c.if-kind-eq1.false (c.kind.ensures ∙ z));
      s_bound = c.requires.s_bound;
    }
