-- A block of lookups by the answers of its words; any other as it is run where it may change the region. Assumes nothing.
use mathlib.Core.Path.{sym, ◌∙◌}
use Rattle.wordset_list.proofs.Carrying.{word_read}
use Rattle.wordset_list.proofs.Looking.{looked-block}
use Rattle.wordset_list.proofs.commands.run_block.Goals as goal

pub contains_each-requires : goal.contains_each-requires
contains_each-requires c =
    let a = c.args in
    record {
      well_formed = c.requires.well_formed;
      words_len_bound = c.requires.words_len_bound;
      words_in_bounds = c.requires.words_in_bounds;
      by_index = λ i h. word_read a.region.now a.words.now i c.requires.words_len_bound_2 h;
    }

pub returns-then-all_lookups : goal.returns-then-all_lookups
returns-then-all_lookups c =
    let a = c.args in
    looked-block a.region.now a.codes.now a.words.now a.answers.now c.contains_each.new.answers c.requires.well_formed c.requires.codes_len c.requires.words_in_bounds (sym c.all_lookups.ensures ∙ c.if-all_lookups.true) c.contains_each.ensures.each c.contains_each.ensures.long c.contains_each.ensures.later
