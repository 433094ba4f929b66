-- Each answer is given under the tests that the promise asks it for. Assumes nothing.
use Rattle.std.proofs.Common.{sym, ◌∙◌}
use Rattle.std.specs.Prelude.{is_ok}
use Rattle.std.proofs.lemmas.Result.{err_from_is_err_and}
use Rattle.set_ops.proofs.Pouring.{told-err, told-ok}
use Rattle.set_ops.proofs.Promise.{agreed, agree-alike, alike_both, bad-a, bad-b, bad-dest, unknown, differ-b, differ-dest, ran-done, ran-framed, ran-full}
use Rattle.set_ops.proofs.combine.Goals as goal

pub returns-then-not-good_a : goal.returns-then-not-good_a
returns-then-not-good_a c = bad-a c.args.code c.args.a.now c.args.b.now c.args.dest.now c.well_formed-good_a.result c.well_formed-good_b.result c.well_formed-good_dest.result c.well_formed-good_a.ensures.yes c.well_formed-good_a.ensures.no c.well_formed-good_b.ensures.yes c.well_formed-good_b.ensures.no c.well_formed-good_dest.ensures.yes c.well_formed-good_dest.ensures.no c.if-not-good_a.true

pub returns-then-not-good_b : goal.returns-then-not-good_b
returns-then-not-good_b c = bad-b c.args.code c.args.a.now c.args.b.now c.args.dest.now c.well_formed-good_a.result c.well_formed-good_b.result c.well_formed-good_dest.result c.well_formed-good_a.ensures.yes c.well_formed-good_a.ensures.no c.well_formed-good_b.ensures.yes c.well_formed-good_b.ensures.no c.well_formed-good_dest.ensures.yes c.well_formed-good_dest.ensures.no c.if-not-good_a.false c.if-not-good_b.true

pub returns-then-not-good_dest : goal.returns-then-not-good_dest
returns-then-not-good_dest c = bad-dest c.args.code c.args.a.now c.args.b.now c.args.dest.now c.well_formed-good_a.result c.well_formed-good_b.result c.well_formed-good_dest.result c.well_formed-good_a.ensures.yes c.well_formed-good_a.ensures.no c.well_formed-good_b.ensures.yes c.well_formed-good_b.ensures.no c.well_formed-good_dest.ensures.yes c.well_formed-good_dest.ensures.no c.if-not-good_a.false c.if-not-good_b.false c.if-not-good_dest.true

pub returns-in_err-operation : goal.returns-in_err-operation
returns-in_err-operation c =
    let p = err_from_is_err_and c.from_residual.result c.from_residual.ensures.1 in
    rw (p.1, p.2) (unknown c.args.code c.args.a.now c.args.b.now c.args.dest.now c.well_formed-good_a.result c.well_formed-good_b.result c.well_formed-good_dest.result c.well_formed-good_a.ensures.yes c.well_formed-good_a.ensures.no c.well_formed-good_b.ensures.yes c.well_formed-good_b.ensures.no c.well_formed-good_dest.ensures.yes c.well_formed-good_dest.ensures.no c.if-not-good_a.false c.if-not-good_b.false c.if-not-good_dest.false c.in_err-operation.ensures)

pub agree-requires : goal.agree-requires
agree-requires c =
    record {
      ready = (c.well_formed-good_a.ensures.yes c.if-not-good_a.false).ready;
      ready_2 = (c.well_formed-good_b.ensures.yes c.if-not-good_b.false).ready;
    }

pub returns-then-not-agree : goal.returns-then-not-agree
returns-then-not-agree c = differ-b c.args.code c.args.a.now c.args.b.now c.args.dest.now c.well_formed-good_a.result c.well_formed-good_b.result c.well_formed-good_dest.result c.well_formed-good_a.ensures.yes c.well_formed-good_a.ensures.no c.well_formed-good_b.ensures.yes c.well_formed-good_b.ensures.no c.well_formed-good_dest.ensures.yes c.well_formed-good_dest.ensures.no c.if-not-good_a.false c.if-not-good_b.false c.if-not-good_dest.false c.in_ok-operation.ensures.0 (sym (agreed c.args.a.now c.args.b.now c.agree.result c.agree.ensures) ∙ c.if-not-agree.true)

pub agree-requires-2 : goal.agree-requires-2
agree-requires-2 c =
    record {
      ready = (c.well_formed-good_a.ensures.yes c.if-not-good_a.false).ready;
      ready_2 = (c.well_formed-good_dest.ensures.yes c.if-not-good_dest.false).ready;
    }

pub returns-then-not-agree-2 : goal.returns-then-not-agree-2
returns-then-not-agree-2 c = differ-dest c.args.code c.args.a.now c.args.b.now c.args.dest.now c.well_formed-good_a.result c.well_formed-good_b.result c.well_formed-good_dest.result c.well_formed-good_a.ensures.yes c.well_formed-good_a.ensures.no c.well_formed-good_b.ensures.yes c.well_formed-good_b.ensures.no c.well_formed-good_dest.ensures.yes c.well_formed-good_dest.ensures.no c.if-not-good_a.false c.if-not-good_b.false c.if-not-good_dest.false c.in_ok-operation.ensures.0 (sym (agreed c.args.a.now c.args.b.now c.agree.result c.agree.ensures) ∙ c.if-not-agree.false) (sym (agreed c.args.a.now c.args.dest.now c.agree-2.result c.agree-2.ensures) ∙ c.if-not-agree-2.true)

pub fill-requires : goal.fill-requires
fill-requires c =
    let ab = agree-alike {a = c.args.a.now} {d = c.args.b.now} (sym (agreed c.args.a.now c.args.b.now c.agree.result c.agree.ensures) ∙ c.if-not-agree.false) in
    let ad = agree-alike {a = c.args.a.now} {d = c.args.dest.now} (sym (agreed c.args.a.now c.args.dest.now c.agree-2.result c.agree-2.ensures) ∙ c.if-not-agree-2.false) in
    record {
      well_formed = c.well_formed-good_a.ensures.yes c.if-not-good_a.false;
      well_formed_2 = c.well_formed-good_b.ensures.yes c.if-not-good_b.false;
      well_formed_3 = c.well_formed-good_dest.ensures.yes c.if-not-good_dest.false;
      alike = ad;
      alike_2 = alike_both ab ad;
    }

pub give_up-requires : goal.give_up-requires
give_up-requires c = (ran-framed c.args.code c.args.a.now c.args.b.now c.args.dest.now c.well_formed-good_a.result c.well_formed-good_b.result c.well_formed-good_dest.result c.well_formed-good_a.ensures.yes c.well_formed-good_a.ensures.no c.well_formed-good_b.ensures.yes c.well_formed-good_b.ensures.no c.well_formed-good_dest.ensures.yes c.well_formed-good_dest.ensures.no c.if-not-good_a.false c.if-not-good_b.false c.if-not-good_dest.false c.in_ok-operation.ensures.0 (sym (agreed c.args.a.now c.args.b.now c.agree.result c.agree.ensures) ∙ c.if-not-agree.false) (sym (agreed c.args.a.now c.args.dest.now c.agree-2.result c.agree-2.ensures) ∙ c.if-not-agree-2.false) (is_ok c.fill.result) c.fill.new.dest (rw c.in_ok-operation.ensures.1 at c.fill.ensures) (told-err c.in-Err.is)).well-formed

pub returns-in-Err : goal.returns-in-Err
returns-in-Err c = rw c.give_up.ensures.answer (ran-full c.args.code c.args.a.now c.args.b.now c.args.dest.now c.well_formed-good_a.result c.well_formed-good_b.result c.well_formed-good_dest.result c.well_formed-good_a.ensures.yes c.well_formed-good_a.ensures.no c.well_formed-good_b.ensures.yes c.well_formed-good_b.ensures.no c.well_formed-good_dest.ensures.yes c.well_formed-good_dest.ensures.no c.if-not-good_a.false c.if-not-good_b.false c.if-not-good_dest.false c.in_ok-operation.ensures.0 (sym (agreed c.args.a.now c.args.b.now c.agree.result c.agree.ensures) ∙ c.if-not-agree.false) (sym (agreed c.args.a.now c.args.dest.now c.agree-2.result c.agree-2.ensures) ∙ c.if-not-agree-2.false) (is_ok c.fill.result) c.fill.new.dest (rw c.in_ok-operation.ensures.1 at c.fill.ensures) (told-err c.in-Err.is) c.give_up.new.dest c.give_up.ensures.image)

pub returns : goal.returns
returns c = ran-done c.args.code c.args.a.now c.args.b.now c.args.dest.now c.well_formed-good_a.result c.well_formed-good_b.result c.well_formed-good_dest.result c.well_formed-good_a.ensures.yes c.well_formed-good_a.ensures.no c.well_formed-good_b.ensures.yes c.well_formed-good_b.ensures.no c.well_formed-good_dest.ensures.yes c.well_formed-good_dest.ensures.no c.if-not-good_a.false c.if-not-good_b.false c.if-not-good_dest.false c.in_ok-operation.ensures.0 (sym (agreed c.args.a.now c.args.b.now c.agree.result c.agree.ensures) ∙ c.if-not-agree.false) (sym (agreed c.args.a.now c.args.dest.now c.agree-2.result c.agree-2.ensures) ∙ c.if-not-agree-2.false) (is_ok c.fill.result) c.fill.new.dest (rw c.in_ok-operation.ensures.1 at c.fill.ensures) (told-ok c.in_default.is)
