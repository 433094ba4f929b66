-- Where every test says so, the containers are opened and every answer is 1; else nothing is changed. Assumes nothing.
use mathlib.Core.Path.{refl, sym, ◌∙◌}
use mathlib.Core.Bool.{true, false}
use Rattle.wordset_list.proofs.Carrying.{word_read}
use Rattle.wordset_list.proofs.Opening.{prefix-clear, opened-told, opened-block}
use Rattle.wordset_list.proofs.commands.open_block.Goals as goal

pub returns-then-not-all_inserts : goal.returns-then-not-all_inserts
returns-then-not-all_inserts c = (refl, refl)

pub returns-then-any_set : goal.returns-then-any_set
returns-then-any_set c = (refl, refl)

pub open_new-requires : goal.open_new-requires
open_new-requires c =
    let l = c.args.region.now in
    let words = c.args.words.now in
    let small = c.requires.words_len_bound_2 in
    let clear = c.any_set.ensures c.if-any_set.false in
    record {
      well_formed = c.requires.well_formed;
      words_len_bound = c.requires.words_len_bound;
      by_index = λ i h. word_read l words i small h;
      by_index_2 = prefix-clear l words small clear;
    }

pub returns-then-not-open_new : goal.returns-then-not-open_new
returns-then-not-open_new c =
    let new = c.open_new in
    (opened-told c.args.words.now c.args.region.now c.open_new.new.region new.result new.ensures false c.if-not-open_new.true, refl)

pub yes_each-requires : goal.yes_each-requires
yes_each-requires c = c.requires.words_in_bounds

pub returns : goal.returns
returns c =
    let new = c.open_new in
    let l = c.args.region.now in
    let words = c.args.words.now in
    let small = c.requires.words_len_bound_2 in
    let clear = c.any_set.ensures c.if-any_set.false in
    let done = opened-told words l c.open_new.new.region new.result new.ensures true c.if-not-open_new.false in
    opened-block l words small clear c.requires.well_formed c.open_new.new.region done.0 done.1 c.args.codes.now c.args.answers.now c.yes_each.new.answers
    c.requires.codes_len c.requires.words_in_bounds (sym c.all_inserts.ensures ∙ c.if-not-all_inserts.false) c.yes_each.ensures.each c.yes_each.ensures.long c.yes_each.ensures.later
