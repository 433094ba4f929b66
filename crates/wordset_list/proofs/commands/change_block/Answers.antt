-- A block that could be run at once was; any other is run one command after the other. Assumes nothing.
use mathlib.Core.Path.{sym, subst}
use mathlib.Core.Bool.{true, false}
use mathlib.Core.List.{List}
use Prim.Native.Nat.{ℕ, ◌≤◌}
use lib.ListN.{length}
use Rattle.lists.specs.Lists.{first_bad}
use Rattle.region.specs.Read.{reading}
use Rattle.region.specs.WellFormed.{WellFormed}
use Rattle.promises.specs.List.{word_of}
use Rattle.wordset_list.proofs.Opening.{tried-told, ran-after}
use Rattle.wordset_list.proofs.commands.change_block.Goals as goal

pub open_block-requires : goal.open_block-requires
open_block-requires c =
    record {
      well_formed = c.requires.well_formed;
      codes_len = c.requires.codes_len;
      words_len_bound = c.requires.words_len_bound;
      words_in_bounds = c.requires.words_in_bounds;
      words_len_bound_2 = c.requires.words_len_bound_2;
    }

pub returns-then-open_block : goal.returns-then-open_block
returns-then-open_block c =
    let o = c.open_block in
    let a = c.args in
    tried-told a.region.now a.codes.now a.words.now a.answers.now o.result o.new.region o.new.answers o.ensures true c.if-open_block.true

pub run_each-requires : goal.run_each-requires
run_each-requires c =
    let o = c.open_block in
    let a = c.args in
    let same = tried-told a.region.now a.codes.now a.words.now a.answers.now o.result c.open_block.new.region c.open_block.new.answers o.ensures false c.if-open_block.false in
    record {
      well_formed = subst WellFormed (sym same.0) c.requires.well_formed;
      codes_len = c.requires.codes_len;
      words_len_bound = c.requires.words_len_bound;
      words_in_bounds = subst (λ (x : List ℕ). length a.words.now ≤ length x) (sym same.1) c.requires.words_in_bounds;
      codes_len_bound = c.requires.codes_len_bound;
      words_len_bound_2 = subst (λ (x : List ℕ). length a.words.now ≤ first_bad (word_of (reading x)) a.words.now) (sym same.0) c.requires.words_len_bound_2;
    }

pub returns : goal.returns
returns c =
    let o = c.open_block in
    let a = c.args in
    ran-after a.region.now a.codes.now a.words.now a.answers.now o.result o.new.region o.new.answers o.ensures c.if-open_block.false c.run_each.result c.run_each.new.region c.run_each.new.answers c.run_each.ensures
