-- One block a turn: what was answered so far and the commands that are left make up the whole outcome. Assumes nothing.
use mathlib.Core.Path.{◌≡◌, refl, sym, ◌∙◌}
use Prim.Native.Nat.{◌+◌, ◌-◌, ◌≤◌, ◌<◌}
use native.Mathlib.Omega.{arith}
use lib.ListN.{length}
use borrow.Rule.Slice.PartMut.{mid_len, same_len_mid}
use Rattle.model.specs.Commands.{known_code}
use Rattle.region.specs.Read.{reading}
use Rattle.promises.specs.List.{word_of}
use Rattle.wordset_list.proofs.Carrying.{start, done}
use Rattle.wordset_list.proofs.Parts.{part-passes}
use Rattle.wordset_list.proofs.Joining.{words-now, block_on, block-stop}
use Rattle.wordset_list.proofs.commands.run.Goals as goal

pub loop-i-init : goal.loop-i-init
loop-i-init c = start c.args.region.now c.args.codes.now c.args.words.now c.args.answers.now c.requires.well_formed

pub run_block-done-requires : goal.run_block-done-requires
run_block-done-requires c =
    let a = c.args in
    let g = c.loop-i.invariant in
    let i = c.loop-i.i in
    let e = c.min-end.result in
    let within : (i < e) × ((e ≤ length a.words.now) × (e ≤ i + 64)) = (omega arith, (omega arith, omega arith)) in
    let codes-long : e ≤ length a.codes.now = omega (arith, within.1.0, c.requires.codes_len) in
    let answers-long : e ≤ length c.loop-i.answers = omega (arith, within.1.0, c.requires.words_in_bounds, g.long) in
    let k = mid_len i e a.codes.now codes-long in
    let w = mid_len i e a.words.now within.1.0 in
    let r = mid_len i e c.loop-i.answers answers-long in
    let whole : i + (e - i) ≡ e = omega (arith, within.0) in
    record {
      well_formed = g.sound;
      codes_len = k ∙ sym w;
      words_len_bound = omega (arith, w, within.1.1);
      words_in_bounds = omega (arith, w, r);
      codes_len_bound = part-passes known_code a.codes.now i (e - i) (omega (arith, whole, codes-long)) c.requires.codes_len_bound;
      words_len_bound_2 = part-passes (word_of (reading c.loop-i.region)) a.words.now i (e - i) (omega (arith, whole, within.1.0)) (words-now a.region.now a.codes.now a.words.now a.answers.now g c.requires.words_len_bound);
    }

pub shape_of-region-in-Err : goal.shape_of-region-in-Err
shape_of-region-in-Err c = c.run_block-done.auto.region ∙ c.loop-i.invariant.size

pub shape_of-answers-in-Err : goal.shape_of-answers-in-Err
shape_of-answers-in-Err c = same_len_mid c.loop-i.i (c.min-end.result - c.loop-i.i) c.loop-i.answers c.run_block-done.new.answers c.run_block-done.auto.answers ∙ c.loop-i.invariant.long

pub returns-in-Err : goal.returns-in-Err
returns-in-Err c =
    let a = c.args in
    let i = c.loop-i.i in
    let e = c.min-end.result in
    let on : i < e = omega (arith, c.min-end.ensures, c.loop-i-test.true) in
    let inside : e ≤ length a.words.now = omega (arith, c.min-end.ensures) in
    let n = mid_len i e a.words.now inside in
    let ran = c.in-Err.ensures in
    block-stop a.region.now a.codes.now a.words.now a.answers.now c.loop-i.invariant c.requires.codes_len c.requires.words_in_bounds (e - i) (omega (arith, on, inside)) c.run_block-done.new.region c.run_block-done.new.answers c.run_block-done.auto.region (c.run_block-done.auto.answers ∙ mid_len i e c.loop-i.answers (omega (arith, inside, c.requires.words_in_bounds, c.loop-i.invariant.long)))
    ran.1 c.in-Err.field-0.0 (omega (arith, n, ran.0)) refl

pub loop-i-preserved : goal.loop-i-preserved
loop-i-preserved c =
    let a = c.args in
    let i = c.loop-i.i in
    let e = c.min-end.result in
    let on : i < e = omega (arith, c.min-end.ensures, c.loop-i-test.true) in
    let inside : e ≤ length a.words.now = omega (arith, c.min-end.ensures) in
    block_on a.region.now a.codes.now a.words.now a.answers.now c.loop-i.invariant c.requires.codes_len c.requires.words_in_bounds (e - i) (omega (arith, on, inside)) c.run_block-done.new.region c.run_block-done.new.answers c.run_block-done.auto.region (c.run_block-done.auto.answers ∙ mid_len i e c.loop-i.answers (omega (arith, inside, c.requires.words_in_bounds, c.loop-i.invariant.long)))
    c.in_default.ensures e (omega (arith, on)) refl

pub shape_of-region : goal.shape_of-region
shape_of-region c = c.loop-i.invariant.size

pub shape_of-answers : goal.shape_of-answers
shape_of-answers c = c.loop-i.invariant.long

pub returns : goal.returns
returns c =
    let a = c.args in
    done a.region.now a.codes.now a.words.now a.answers.now c.loop-i.invariant c.requires.codes_len c.requires.words_in_bounds (omega arith)
