-- Each list leaves a region for the next, so that one check serves them all. Assumes nothing.
use Rattle.std.proofs.Common.{◌≡◌, ◌-◌, ◌≤◌, length, sym, ◌∙◌, arith, rules}
use borrow.Rule.Slice.PartMut.{put_mid, mid_len, same_len_mid}
use Rattle.leaves_sets.proofs.leaf_set_run.Goals as goal

pub loop-i-init : goal.loop-i-init
loop-i-init c = (c.well_formed-2.ensures.yes c.if-not-well_formed.false, search rules)

pub run_list-done-requires : goal.run_list-done-requires
run_list-done-requires c =
    let a = c.args in
    let i = c.loop-i.i in
    let e = c.min-end.result in
    let same = c.if-codes-words.false in
    let inside : e ≤ length a.words.now = omega (arith, c.min-end.ensures) in
    let k = mid_len i e a.codes.now (omega (arith, inside, same)) in
    let w = mid_len i e a.words.now inside in
    let r = mid_len i e c.loop-i.answers (omega (arith, inside, c.if-answers-words.false, c.loop-i.invariant.1.1.1)) in
    record {
      well_formed = c.loop-i.invariant.0;
      codes_len = k ∙ sym w;
      words_in_bounds = omega (arith, w, r);
    }

pub shape_of-region-then-done-end : goal.shape_of-region-then-done-end
shape_of-region-then-done-end c =
    let region-long : length c.run_list-done.new.region ≡ length c.args.region.now =
    c.run_list-done.auto.region ∙ c.loop-i.invariant.1.1.0 in
    region-long

pub shape_of-answers-then-done-end : goal.shape_of-answers-then-done-end
shape_of-answers-then-done-end c =
    let answers-long : length (put_mid c.loop-i.i (c.min-end.result - c.loop-i.i) c.loop-i.answers c.run_list-done.new.answers) ≡ length c.args.answers.now =
    let lp = c.loop-i in
    same_len_mid lp.i (c.min-end.result - lp.i) lp.answers c.run_list-done.new.answers c.run_list-done.auto.answers ∙ lp.invariant.1.1.1 in
    answers-long

pub loop-i-preserved : goal.loop-i-preserved
loop-i-preserved c =
    let region-long : length c.run_list-done.new.region ≡ length c.args.region.now =
    c.run_list-done.auto.region ∙ c.loop-i.invariant.1.1.0 in
    let answers-long : length (put_mid c.loop-i.i (c.min-end.result - c.loop-i.i) c.loop-i.answers c.run_list-done.new.answers) ≡ length c.args.answers.now =
    let lp = c.loop-i in
    same_len_mid lp.i (c.min-end.result - lp.i) lp.answers c.run_list-done.new.answers c.run_list-done.auto.answers ∙ lp.invariant.1.1.1 in
    let inside : c.min-end.result ≤ length c.args.words.now = omega (arith, c.min-end.ensures) in
    (c.run_list-done.ensures, (inside, (region-long, answers-long)))

pub shape_of-region : goal.shape_of-region
shape_of-region c = c.loop-i.invariant.1.1.0

pub shape_of-answers : goal.shape_of-answers
shape_of-answers c = c.loop-i.invariant.1.1.1
