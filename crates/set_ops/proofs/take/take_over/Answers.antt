-- Where the other set is not asked, all qualify or none. Assumes nothing.
use Rattle.std.proofs.Common.{true, false, sym, ◌∙◌}
use Rattle.std.proofs.lemmas.Result.{err_from_is_err_and}
use Rattle.set_ops.specs.Poured.{takes_own, takes_shared}
use Rattle.set_ops.proofs.TakeBlocks.{other-prefix, own-none, own-all}
use Rattle.set_ops.proofs.take.take_over.Goals as goal

pub asked-requires : goal.asked-requires
asked-requires c =
    record {
      well_formed = c.requires.well_formed_2;
      p_bound = other-prefix c.requires.well_formed c.requires.well_formed_2 c.requires.alike c.args.p c.requires.p_bound c.args.chunk.now c.requires.all_small (takes_shared c.args.wanted) (takes_own c.args.wanted);
    }

pub take_asked-requires : goal.take_asked-requires
take_asked-requires c =
    record {
      well_formed = c.requires.well_formed;
      well_formed_2 = c.requires.well_formed_2;
      alike = c.requires.alike;
      p_bound = c.requires.p_bound;
      all_small = c.requires.all_small;
      p_value = c.asked.ensures.with c.if-asked.true;
    }

pub returns-then-asked : goal.returns-then-asked
returns-then-asked c = c.take_asked.ensures

pub returns-then-not-own : goal.returns-then-not-own
returns-then-not-own c = own-none c.requires.well_formed c.requires.well_formed_2 c.requires.alike c.args.p c.requires.p_bound c.args.chunk.now c.requires.all_small (takes_shared c.args.wanted) (takes_own c.args.wanted) (c.asked.ensures.without c.if-asked.false) (sym c.own.ensures ∙ c.if-not-own.true)

pub put_under-requires : goal.put_under-requires
put_under-requires c =
    record {
      well_formed = c.requires.well_formed;
      p_bound = c.requires.p_bound;
      all_small = c.requires.all_small;
      bears = tt;
    }

pub returns-in_err-put_under : goal.returns-in_err-put_under
returns-in_err-put_under c =
    let p = err_from_is_err_and c.from_residual.result c.from_residual.ensures.1 in
    rw p.1 (own-all c.requires.well_formed c.requires.well_formed_2 c.requires.alike c.args.p c.requires.p_bound c.args.chunk.now c.requires.all_small (takes_shared c.args.wanted) (takes_own c.args.wanted) (c.asked.ensures.without c.if-asked.false) (sym c.own.ensures ∙ c.if-not-own.false) false c.put_under.new.dest c.in_err-put_under.ensures.poured)

pub returns : goal.returns
returns c = own-all c.requires.well_formed c.requires.well_formed_2 c.requires.alike c.args.p c.requires.p_bound c.args.chunk.now c.requires.all_small (takes_shared c.args.wanted) (takes_own c.args.wanted) (c.asked.ensures.without c.if-asked.false) (sym c.own.ensures ∙ c.if-not-own.false) true c.put_under.new.dest c.in_ok-put_under.ensures.poured
