-- One command a turn: what was answered so far and the commands that are left make up the whole outcome. Assumes nothing.
use mathlib.Core.Path.{◌∙◌}
use Prim.Native.Nat.{◌<◌}
use native.Mathlib.Omega.{arith}
use native.Mathlib.Numerals.{add-one}
use lib.ListN.{length}
use Rattle.wordset_list.proofs.Carrying.{start, code-known, word_fits, next, stop, done}
use Rattle.wordset_list.proofs.commands.run_each.Goals as goal

pub loop-i-init : goal.loop-i-init
loop-i-init c = start c.args.region.now c.args.codes.now c.args.words.now c.args.answers.now c.requires.well_formed

pub perform-requires : goal.perform-requires
perform-requires c =
    let a = c.args in
    let g = c.loop-i.invariant in
    let h : c.loop-i.i < length a.words.now = omega arith in
    record {
      well_formed = g.sound;
      w_bound = word_fits a.region.now a.codes.now a.words.now a.answers.now g c.requires.words_len_bound_2 h;
      code_bound = code-known a.region.now a.codes.now a.words.now a.answers.now c.loop-i.i c.requires.codes_len_bound (omega arith);
    }

pub shape_of-region-in-Err : goal.shape_of-region-in-Err
shape_of-region-in-Err c = c.perform.auto.region ∙ c.loop-i.invariant.size

pub shape_of-answers-in-Err : goal.shape_of-answers-in-Err
shape_of-answers-in-Err c = c.loop-i.invariant.long

pub returns-in-Err : goal.returns-in-Err
returns-in-Err c =
    let a = c.args in
    let h : c.loop-i.i < length a.words.now = omega arith in
    (h, stop a.region.now a.codes.now a.words.now a.answers.now c.loop-i.invariant c.requires.codes_len c.requires.words_in_bounds h c.in-Err.ensures)

pub loop-i-preserved : goal.loop-i-preserved
loop-i-preserved c =
    let a = c.args in
    next a.region.now a.codes.now a.words.now a.answers.now c.loop-i.invariant c.requires.codes_len c.requires.words_in_bounds _ (add-one c.loop-i.i) (omega arith) c.perform.auto.region c.in-Ok.ensures

pub shape_of-region : goal.shape_of-region
shape_of-region c = c.loop-i.invariant.size

pub shape_of-answers : goal.shape_of-answers
shape_of-answers c = c.loop-i.invariant.long

pub returns : goal.returns
returns c =
    let a = c.args in
    done a.region.now a.codes.now a.words.now a.answers.now c.loop-i.invariant c.requires.codes_len c.requires.words_in_bounds (omega arith)
