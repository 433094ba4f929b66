-- Each node up to the end is looked at once. Assumes nothing.
use mathlib.Core.Path.{sym}
use mathlib.Core.Bool.{false≢true}
use native.Mathlib.Omega.{arith}
use borrow.Author.Count.{below_more}
use Rattle.arena_check.proofs.all_hang.Goals as goal

pub loop-n-init : goal.loop-n-init
loop-n-init c = c.requires.by_index_2

pub hangs-requires : goal.hangs-requires
hangs-requires c =
    record {
      arena_len = c.requires.arena_len;
      n_lt_slots = omega arith;
      back_in_range = c.requires.by_index c.loop-n.n c.loop-n-test.true;
    }

pub returns-then-not-hangs : goal.returns-then-not-hangs
returns-then-not-hangs c =
    record {
      yes = λ e. absurd (false≢true e);
      no = λ _ all. c.hangs.ensures.no c.if-not-hangs.true (all c.loop-n.n (omega arith));
    }

pub loop-n-preserved : goal.loop-n-preserved
loop-n-preserved c = below_more _ _ c.loop-n.invariant (c.hangs.ensures.yes c.if-not-hangs.false)

pub returns : goal.returns
returns c =
    let l = c.loop-n in
    record {
      yes = λ _ m h. l.invariant m (omega arith);
      no = λ e. absurd (false≢true (sym e));
    }
