-- A clear prefix changes nothing; a set one leads to the slot whose suffixes decide. Assumes nothing.
use mathlib.Core.Path.{sym, ◌∙◌}
use native.Mathlib.Omega.{arith}
use Rattle.wordset_lookup.proofs.Looks.{S-high, prefix-fits, slot-fits, slot-kind, suffix-fits}
use Rattle.wordset_remove.proofs.Removing.{clear-did, set-did}
use Rattle.wordset_remove.proofs.remove.Goals as goal

pub prefix_of-p-requires : goal.prefix_of-p-requires
prefix_of-p-requires c = omega (arith, c.s-bits.ensures, S-high c.args.region.now c.requires.well_formed)

pub find-requires : goal.find-requires
find-requires c =
    record {
      well_formed = c.requires.well_formed;
      p_bound = prefix-fits c.args.region.now c.requires.well_formed c.args.w c.requires.w_bound c.s-bits.result c.s-bits.ensures c.prefix_of-p.result c.prefix_of-p.ensures;
    }

pub suffix_of-s-requires : goal.suffix_of-s-requires
suffix_of-s-requires c = omega (arith, c.s-bits.ensures, S-high c.args.region.now c.requires.well_formed)

pub kind-requires : goal.kind-requires
kind-requires c =
    record {
      ready = c.requires.well_formed.ready;
      c_bound = slot-fits c.args.region.now c.requires.well_formed c.args.w c.requires.w_bound c.s-bits.result c.s-bits.ensures c.prefix_of-p.result c.prefix_of-p.ensures c.in-Some.ensures.0 _ c.in-Some.ensures.1;
    }

pub from_vector-requires : goal.from_vector-requires
from_vector-requires c =
    record {
      well_formed = c.requires.well_formed;
      c_bound = slot-fits c.args.region.now c.requires.well_formed c.args.w c.requires.w_bound c.s-bits.result c.s-bits.ensures c.prefix_of-p.result c.prefix_of-p.ensures c.in-Some.ensures.0 _ c.in-Some.ensures.1;
      is_vector = sym c.kind.ensures ∙ c.if-kind-eq1.true;
    }

pub returns-then-kind-eq1 : goal.returns-then-kind-eq1
returns-then-kind-eq1 c =
    set-did c.args.region.now c.requires.well_formed c.args.w c.requires.w_bound c.s-bits.result c.s-bits.ensures c.prefix_of-p.result c.prefix_of-p.ensures c.in-Some.ensures.0 _ c.in-Some.ensures.1 c.suffix_of-s.result c.suffix_of-s.ensures c.from_vector.result _ c.from_vector.ensures

pub from_trie-requires : goal.from_trie-requires
from_trie-requires c =
    record {
      well_formed = c.requires.well_formed;
      c_bound = slot-fits c.args.region.now c.requires.well_formed c.args.w c.requires.w_bound c.s-bits.result c.s-bits.ensures c.prefix_of-p.result c.prefix_of-p.ensures c.in-Some.ensures.0 _ c.in-Some.ensures.1;
      is_trie = slot-kind c.args.region.now c.requires.well_formed c.args.w c.requires.w_bound c.s-bits.result c.s-bits.ensures c.prefix_of-p.result c.prefix_of-p.ensures c.in-Some.ensures.0 _ c.in-Some.ensures.1 (λ z. c.if-kind-eq1.false (c.kind.ensures ∙ z));
      s_bound = suffix-fits c.args.region.now c.requires.well_formed c.args.w c.requires.w_bound c.s-bits.result c.s-bits.ensures c.prefix_of-p.result c.prefix_of-p.ensures c.in-Some.ensures.0 _ c.in-Some.ensures.1 c.suffix_of-s.result c.suffix_of-s.ensures;
    }

pub returns-else-kind-eq1 : goal.returns-else-kind-eq1
returns-else-kind-eq1 c =
    set-did c.args.region.now c.requires.well_formed c.args.w c.requires.w_bound c.s-bits.result c.s-bits.ensures c.prefix_of-p.result c.prefix_of-p.ensures c.in-Some.ensures.0 _ c.in-Some.ensures.1 c.suffix_of-s.result c.suffix_of-s.ensures c.from_trie.result _ c.from_trie.ensures

pub returns-in-None : goal.returns-in-None
returns-in-None c = clear-did c.args.region.now c.requires.well_formed c.args.w c.requires.w_bound c.s-bits.result c.s-bits.ensures c.prefix_of-p.result c.prefix_of-p.ensures c.in-None.ensures
