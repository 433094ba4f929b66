-- The answers of the block, one a word, and none of them 0 where all words are members. Assumes nothing.
use mathlib.Core.Path.{◌≡◌, sym, ◌∙◌}
use native.Mathlib.Omega.{arith}
use lib.ListN.{length}
use lib.Seq.{length-take-le}
use Rattle.region.specs.Read.{reading}
use Rattle.wordset_list.proofs.Carrying.{word_read}
use Rattle.wordset_list.proofs.Looking.{all-looked}
use Rattle.wordset_list.proofs.members.has_block.Goals as goal

pub contains_each-requires : goal.contains_each-requires
contains_each-requires c =
    let a = c.args in
    record {
      well_formed = c.requires.well_formed;
      words_len_bound = c.requires.words_len_bound;
      words_in_bounds = c.requires.words_len_bound;
      by_index = λ i h. word_read a.region.now a.words.now i c.requires.words_len_bound_2 h;
    }

pub slice_bounds-all_yes-end : goal.slice_bounds-all_yes-end
slice_bounds-all_yes-end c =
    let n : length c.contains_each.new.answers ≡ 64 = c.contains_each.ensures.long in
    sym (length-take-le (length c.args.words.now) c.contains_each.new.answers (omega (arith, c.requires.words_len_bound, n)))

pub returns : goal.returns
returns c =
    let a = c.args in
    let n : length c.contains_each.new.answers ≡ 64 = c.contains_each.ensures.long in
    c.all_yes.ensures ∙ all-looked (reading a.region.now) a.words.now c.contains_each.new.answers (omega (arith, c.requires.words_len_bound, n)) c.contains_each.ensures.each
