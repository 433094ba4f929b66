-- Of the first i suffixes, those that qualify are written. Assumes nothing.
use Rattle.std.proofs.Common.{ℕ, ◌≤◌, Bool, cond, eqb, length, get_or, ◌∙◌, arith}
use mathlib.Core.Path.{ap₂}
use Rattle.lists.specs.Lists.{keep, mem}
use Rattle.region.specs.Areas.{numbers}
use Rattle.region.specs.Seen.{seen}
use Rattle.region.specs.Read.{suffixes}
use Rattle.set_ops.proofs.TakeLooks.{picks, flag_one, flag-picks, keep-start, keep-next, keep-end}
use Rattle.set_ops.proofs.take.keep_block.Goals as goal

pub held_each-requires : goal.held_each-requires
held_each-requires c =
    record {
      well_formed = c.requires.well_formed;
      d_bound = c.requires.d_bound;
      d_nonzero = c.requires.d_nonzero;
      all_small = c.requires.all_small;
      suffixes_len_bound = c.requires.block_len_bound;
      suffixes_in_bounds = c.requires.block_len_bound;
    }

pub loop-i-init : goal.loop-i-init
loop-i-init c = keep-start _ _ _

pub offset_bounds-kept-n : goal.offset_bounds-kept-n
offset_bounds-kept-n c = omega (arith, c.loop-i.invariant.few, c.loop-i.invariant.upto, c.requires.block_len_bound)

pub bounds-kept-n : goal.bounds-kept-n
bounds-kept-n c = omega (arith, c.loop-i.invariant.few, c.loop-i.invariant.long, c.loop-i-test.true, c.requires.block_len_bound, c.requires.kept_len)

pub bounds-flags-i : goal.bounds-flags-i
bounds-flags-i c = omega (arith, c.loop-i-test.true, c.requires.block_len_bound)

pub overflow_add-n : goal.overflow_add-n
overflow_add-n c = omega (arith, flag_one (cond (eqb (get_or {A = ℕ} c.held_each.new.flags c.loop-i.i 0) 1) c.shared-shared.result c.own-own.result) c.picked-n.result c.picked-n.ensures, c.loop-i.invariant.few, c.loop-i.invariant.upto, c.requires.block_len_bound)

pub loop-i-preserved : goal.loop-i-preserved
loop-i-preserved c =
    let room : length c.args.block.now ≤ length c.args.kept.now = omega (arith, c.requires.block_len_bound, c.requires.kept_len) in
    keep-next (picks c.args.other.now c.args.d c.shared-shared.result c.own-own.result) c.args.block.now c.args.kept.now c.loop-i.kept c.loop-i.n c.loop-i.i room c.loop-i.invariant c.loop-i-test.true c.picked-n.result (flag-picks (mem (get_or {A = ℕ} c.args.block.now c.loop-i.i 0) (suffixes (numbers c.args.other.now) (seen (numbers c.args.other.now) c.args.other.now) c.args.d)) c.shared-shared.result c.own-own.result (get_or {A = ℕ} c.held_each.new.flags c.loop-i.i 0) c.picked-n.result (c.held_each.ensures c.loop-i.i c.loop-i-test.true) c.picked-n.ensures)

pub shape_of-kept : goal.shape_of-kept
shape_of-kept c = c.loop-i.invariant.long

pub returns : goal.returns
returns c =
    record {
      number = (keep-end _ _ _ _ _ _ c.requires.block_len_bound c.loop-i.invariant c.loop-i-test.false).0;
      written = (keep-end _ _ _ _ _ _ c.requires.block_len_bound c.loop-i.invariant c.loop-i-test.false).1 ∙ ap₂ (λ (x y : Bool). keep (picks c.args.other.now c.args.d x y) c.args.block.now) c.shared-shared.ensures c.own-own.ensures;
    }
