-- At the slot if it is known; else the first opens it. Assumes nothing.
use Rattle.std.proofs.Common.{ℕ, true, false, refl, subst}
use Rattle.std.specs.Prelude.{IfSome, Option, is_ok}
use Rattle.region.specs.Areas.{numbers}
use Rattle.region.specs.Seen.{seen}
use Rattle.region.specs.WellFormed.{Bears}
use Rattle.std.proofs.lemmas.Result.{err_from_is_err_and}
use Rattle.set_ops.proofs.Places.{join-ready}
use Rattle.set_ops.proofs.Pouring.{told-err, told-ok}
use Rattle.set_ops.proofs.TakeWhole.{behind, known-asks, known-done, known-stays, none_done, first-ready, first-halts, slot-ready, rest-asks, whole-done, whole-stays}
use Rattle.set_ops.proofs.take.put_under.Goals as goal

pub put_all-requires : goal.put_all-requires
put_all-requires c =
    let bears = subst (λ (o : Option ℕ). IfSome o (λ (x : ℕ). Bears (numbers c.args.dest.now) (seen (numbers c.args.dest.now) c.args.dest.now) c.args.p x)) c.in-Some.is c.requires.bears in
    let asks = known-asks c.requires.well_formed c.args.p c.requires.p_bound c.args.suffixes.now c.requires.all_small c.in-Some.c bears in
    record { well_formed = asks.0; c_bound = asks.1.0; c_nonzero = asks.1.1.0; all_small = asks.1.1.1 }

pub returns-in_err-put_all : goal.returns-in_err-put_all
returns-in_err-put_all c =
    let bears = subst (λ (o : Option ℕ). IfSome o (λ (x : ℕ). Bears (numbers c.args.dest.now) (seen (numbers c.args.dest.now) c.args.dest.now) c.args.p x)) c.in-Some.is c.requires.bears in
    let done = known-done c.requires.well_formed c.args.p c.requires.p_bound c.args.suffixes.now c.requires.all_small c.in-Some.c bears false c.put_all.new.dest c.in_err-put_all.ensures.poured in
    let p = err_from_is_err_and c.from_residual.result c.from_residual.ensures.1 in
    rw p.1 record { poured = done; stays = tt }

pub returns-in-Some : goal.returns-in-Some
returns-in-Some c =
    let bears = subst (λ (o : Option ℕ). IfSome o (λ (x : ℕ). Bears (numbers c.args.dest.now) (seen (numbers c.args.dest.now) c.args.dest.now) c.args.p x)) c.in-Some.is c.requires.bears in
    let done = known-done c.requires.well_formed c.args.p c.requires.p_bound c.args.suffixes.now c.requires.all_small c.in-Some.c bears true c.put_all.new.dest c.in_ok-put_all.ensures.poured in
    record { poured = done; stays = known-stays c.requires.well_formed c.args.p c.requires.p_bound c.args.suffixes.now c.requires.all_small c.in-Some.c bears true c.put_all.new.dest c.in_ok-put_all.ensures.stays refl }

pub returns-then-suffixes-lt1 : goal.returns-then-suffixes-lt1
returns-then-suffixes-lt1 c =
    record {
      poured = none_done c.requires.well_formed c.args.p c.requires.p_bound c.args.suffixes.now c.requires.all_small c.if-suffixes-lt1.true;
      stays = tt;
    }

pub joined-w-requires : goal.joined-w-requires
joined-w-requires c =
    let ready = join-ready c.args.dest.now c.requires.well_formed c.args.p c.requires.p_bound c.args.suffixes.now c.requires.all_small c.s-bits.result c.s-bits.ensures 0 c.if-suffixes-lt1.false in
    record { p_bound = ready.0; bits_bound = ready.1.0; s_bound = ready.1.1 }

pub put-requires : goal.put-requires
put-requires c =
    let ready = first-ready c.requires.well_formed c.args.p c.requires.p_bound c.args.suffixes.now c.requires.all_small c.if-suffixes-lt1.false c.s-bits.result c.s-bits.ensures c.joined-w.result c.joined-w.ensures in
    record { well_formed = ready.0; w_bound = ready.1 }

pub returns-in_err-put : goal.returns-in_err-put
returns-in_err-put c =
    let p = err_from_is_err_and c.from_residual-in_err-put.result c.from_residual-in_err-put.ensures.1 in
    rw p.1 record {
      poured = first-halts c.requires.well_formed c.args.p c.requires.p_bound c.args.suffixes.now c.requires.all_small c.if-suffixes-lt1.false c.s-bits.result c.s-bits.ensures c.joined-w.result c.joined-w.ensures (is_ok c.put.result) c.put.new.dest c.put.ensures (told-err c.in_err-put.was);
      stays = tt;
    }

pub slot_of-c-requires : goal.slot_of-c-requires
slot_of-c-requires c =
    let ready = slot-ready c.requires.well_formed c.args.p c.requires.p_bound c.args.suffixes.now c.requires.all_small c.if-suffixes-lt1.false c.s-bits.result c.s-bits.ensures c.joined-w.result c.joined-w.ensures (is_ok c.put.result) c.put.new.dest c.put.ensures (told-ok c.in_ok-put.was) in
    record { well_formed = ready.0; p_bound = ready.1.0; p_value = ready.1.1 }

pub put_all-requires-2 : goal.put_all-requires-2
put_all-requires-2 c =
    let asks = rest-asks c.requires.well_formed c.args.p c.requires.p_bound c.args.suffixes.now c.requires.all_small c.if-suffixes-lt1.false c.s-bits.result c.s-bits.ensures c.joined-w.result c.joined-w.ensures (is_ok c.put.result) c.put.new.dest c.put.ensures (told-ok c.in_ok-put.was) c.slot_of-c.result c.slot_of-c.ensures _ (behind c.args.suffixes.now) in
    record { well_formed = asks.0; c_bound = asks.1.0; c_nonzero = asks.1.1.0; all_small = asks.1.1.1 }

pub returns-in_err-put_all-2 : goal.returns-in_err-put_all-2
returns-in_err-put_all-2 c =
    let p = err_from_is_err_and c.from_residual-in_err-put_all-2.result c.from_residual-in_err-put_all-2.ensures.1 in
    rw p.1 record { poured = whole-done c.requires.well_formed c.args.p c.requires.p_bound c.args.suffixes.now c.requires.all_small c.if-suffixes-lt1.false c.s-bits.result c.s-bits.ensures c.joined-w.result c.joined-w.ensures (is_ok c.put.result) c.put.new.dest c.put.ensures (told-ok c.in_ok-put.was) c.slot_of-c.result c.slot_of-c.ensures _ (behind c.args.suffixes.now) false c.put_all-2.new.dest c.in_err-put_all-2.ensures.poured; stays = tt }

pub returns : goal.returns
returns c =
    record {
      poured = whole-done c.requires.well_formed c.args.p c.requires.p_bound c.args.suffixes.now c.requires.all_small c.if-suffixes-lt1.false c.s-bits.result c.s-bits.ensures c.joined-w.result c.joined-w.ensures (is_ok c.put.result) c.put.new.dest c.put.ensures (told-ok c.in_ok-put.was) c.slot_of-c.result c.slot_of-c.ensures _ (behind c.args.suffixes.now) true c.put_all-2.new.dest c.in_ok-put_all-2.ensures.poured;
      stays = whole-stays c.requires.well_formed c.args.p c.requires.p_bound c.args.suffixes.now c.requires.all_small c.if-suffixes-lt1.false c.s-bits.result c.s-bits.ensures c.joined-w.result c.joined-w.ensures (is_ok c.put.result) c.put.new.dest c.put.ensures (told-ok c.in_ok-put.was) c.slot_of-c.result c.slot_of-c.ensures _ (behind c.args.suffixes.now) true c.put_all-2.new.dest c.in_ok-put_all-2.ensures.stays refl;
    }
