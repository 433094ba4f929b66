-- The suffixes before place i are taken over, and the slot is the prefix's still. Assumes nothing.
use Rattle.std.proofs.Common.{◌∙◌}
use mathlib.Core.Bool.{false≢true}
use Rattle.std.specs.Prelude.{is_ok}
use Rattle.std.proofs.lemmas.Result.{err_from_is_err_and}
use Rattle.set_ops.proofs.Pouring.{told-err, told-ok}
use Rattle.set_ops.proofs.TakeRest.{rest-start, rest-ready, rest-next, rest-halt, rest_end, rest-long}
use Rattle.set_ops.proofs.take.put_singly.Goals as goal

pub loop-s-init : goal.loop-s-init
loop-s-init c = rest-start _ _ c.requires.well_formed c.requires.c_bound c.requires.c_nonzero

pub put_at-requires : goal.put_at-requires
put_at-requires c =
    record {
      well_formed = (rest-ready c.args.c c.args.suffixes.now c.args.dest.now c.requires.all_small c.loop-s.dest c.loop-s.s-index c.loop-s.invariant c.loop-s-test.true).0;
      c_bound = (rest-ready c.args.c c.args.suffixes.now c.args.dest.now c.requires.all_small c.loop-s.dest c.loop-s.s-index c.loop-s.invariant c.loop-s-test.true).1.0;
      c_nonzero = (rest-ready c.args.c c.args.suffixes.now c.args.dest.now c.requires.all_small c.loop-s.dest c.loop-s.s-index c.loop-s.invariant c.loop-s-test.true).1.1.0;
      s_bound = (rest-ready c.args.c c.args.suffixes.now c.args.dest.now c.requires.all_small c.loop-s.dest c.loop-s.s-index c.loop-s.invariant c.loop-s-test.true).1.1.1;
    }

pub shape_of-dest-in_err-put_at : goal.shape_of-dest-in_err-put_at
shape_of-dest-in_err-put_at c = c.put_at.auto.dest ∙ rest-long c.requires.well_formed c.loop-s.invariant

pub returns-in_err-put_at : goal.returns-in_err-put_at
returns-in_err-put_at c =
    let p = err_from_is_err_and c.from_residual.result c.from_residual.ensures.1 in
    rw p.1 record {
      poured = rest-halt c.args.c c.args.suffixes.now c.args.dest.now c.requires.all_small c.loop-s.dest c.loop-s.s-index c.loop-s.invariant c.loop-s-test.true (is_ok c.put_at.result) _ c.put_at.ensures (told-err c.in_err-put_at.was);
      stays = λ z. absurd (false≢true z);
    }

pub loop-s-preserved : goal.loop-s-preserved
loop-s-preserved c = rest-next c.args.c c.args.suffixes.now c.args.dest.now c.requires.all_small c.loop-s.dest c.loop-s.s-index c.loop-s.invariant c.loop-s-test.true (is_ok c.put_at.result) _ c.put_at.ensures (told-ok c.in_ok-put_at.was)

pub shape_of-dest : goal.shape_of-dest
shape_of-dest c = rest-long c.requires.well_formed c.loop-s.invariant

pub returns : goal.returns
returns c =
    record {
      poured = rest_end _ _ _ _ _ c.loop-s.invariant c.loop-s-test.false;
      stays = λ z. c.loop-s.invariant.bears;
    }
