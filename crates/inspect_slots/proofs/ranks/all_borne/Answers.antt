-- Each turn takes the lowest bit that is left of a word, whose rank is the number of those before it, or goes on to the next word. Assumes nothing.
use native.Mathlib.Omega.{arith}
use borrow.Author.Tests.{eqb-true, eqb-false}
use Rattle.lists.proofs.Answers.{refused}
use Rattle.inspect_slots.proofs.Placing.{bitmap-small, bitmap-some, look-start, look-word, look-yes, look-no, look-past, look-not, look-taken}
use Rattle.inspect_slots.proofs.ranks.all_borne.Goals as goal

pub bounds-bitmap-0 : goal.bounds-bitmap-0
bounds-bitmap-0 c = omega (arith, bitmap-some c.args.p)

pub loop-left-init : goal.loop-left-init
loop-left-init c = look-start _ _ _ _ _ _ c.requires.bitmap_len.0

pub loop-left-preserved-then-left-eq0 : goal.loop-left-preserved-then-left-eq0
loop-left-preserved-then-left-eq0 c = look-word c.loop-left.invariant c.if-left-eq0.true c.if-j-bitmap.false

pub overflow_mul-i : goal.overflow_mul-i
overflow_mul-i c = omega (arith, c.loop-left.invariant.scan.inside, bitmap-small c.args.p c.requires.bitmap_len.1)

pub overflow_add-i : goal.overflow_add-i
overflow_add-i c = omega (arith, c.loop-left.invariant.scan.inside, bitmap-small c.args.p c.requires.bitmap_len.1, c.lowest-b.ensures.small)

pub returns-then-i-end : goal.returns-then-i-end
returns-then-i-end c =
    record {
      yes = (refused (look-past c.loop-left.invariant _ c.lowest-b.ensures c.requires.bitmap_len.0 (omega arith))).0;
      no = (refused (look-past c.loop-left.invariant _ c.lowest-b.ensures c.requires.bitmap_len.0 (omega arith))).1;
    }

pub returns-then-not-borne_at : goal.returns-then-not-borne_at
returns-then-not-borne_at c =
    record {
      yes = (refused (look-not c.loop-left.invariant _ c.lowest-b.ensures (omega arith) (c.borne_at.ensures.no c.if-not-borne_at.true))).0;
      no = (refused (look-not c.loop-left.invariant _ c.lowest-b.ensures (omega arith) (c.borne_at.ensures.no c.if-not-borne_at.true))).1;
    }

pub loop-left-preserved : goal.loop-left-preserved
loop-left-preserved c = look-taken c.loop-left.invariant _ c.lowest-b.ensures _ (omega arith) (c.borne_at.ensures.yes c.if-not-borne_at.false) c.without-left.ensures.here c.without-left.ensures.other

pub returns : goal.returns
returns c =
    let L = c.loop-left.invariant in
    record {
      yes = λ e. look-yes L c.if-left-eq0.true c.if-j-bitmap.true (eqb-true _ _ e);
      no = λ e. look-no L c.if-left-eq0.true c.if-j-bitmap.true (eqb-false _ _ e);
    }
