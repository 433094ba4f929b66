-- Each block is passed in three loops, and once all are passed the counts decide. Assumes nothing.
use Prim.Native.Nat.{◌-◌}
use native.Mathlib.Omega.{arith}
use Rattle.arena.specs.Arena.{nodes_in, spare_in}
use Rattle.arena_check.proofs.Maps.{bits_of}
use Rattle.arena_check.proofs.Both.{few, own_of, hangs-of}
use Rattle.arena_check.proofs.Pass.{pass-start, pass-end, roots_few, bits-few, miscounted, uneven, all_true}
use Rattle.arena_check.proofs.well_formed.Goals as goal

pub returns-then-used-slots : goal.returns-then-used-slots
returns-then-used-slots c =
    let a = c.args in
    λ A. omega (arith, c.if-used-slots.true, few a.slots a.b a.used a.arena.now A)

pub loop-n-init : goal.loop-n-init
loop-n-init c =
    let a = c.args in
    pass-start a.slots a.b (a.slots - a.used) (spare_in a.arena.now) (nodes_in a.slots a.arena.now)

pub block_end-end-requires : goal.block_end-end-requires
block_end-end-requires c = c.loop-n-test.true

pub in_use-taken-requires : goal.in_use-taken-requires
in_use-taken-requires c =
    record {
      arena_len = c.requires.arena_len;
      from_le_end = (omega (arith, c.block_end-end.ensures.0), c.block_end-end.ensures.1);
      taken_value = c.loop-n.invariant.taken_is;
    }

pub own_all-requires : goal.own_all-requires
own_all-requires c =
    record {
      arena_len = c.requires.arena_len;
      free_le_slots = (omega arith, c.requires.b_bound);
      from_le_end = (omega (arith, c.block_end-end.ensures.0), c.block_end-end.ensures.1);
      tallied = c.loop-n.invariant.tally;
    }

pub returns-in_err-tally : goal.returns-in_err-tally
returns-in_err-tally c =
    let a = c.args in
    rw c.from_residual.ensures (λ A. c.in_err-tally.ensures (own_of a.slots a.b a.used a.arena.now A))

pub all_hang-requires : goal.all_hang-requires
all_hang-requires c =
    let t = c.in_ok-tally.ensures in
    record {
      arena_len = c.requires.arena_len;
      from_le_end = (omega (arith, c.block_end-end.ensures.0), c.block_end-end.ensures.1);
      by_index = (λ m h. (t.own m h).back);
      by_index_2 = c.loop-n.invariant.hung;
    }

pub returns-then-not-all_hang : goal.returns-then-not-all_hang
returns-then-not-all_hang c =
    let a = c.args in
    λ A. c.all_hang.ensures.no c.if-not-all_hang.true (hangs-of a.slots a.b a.used a.arena.now A)

pub loop-n-smaller : goal.loop-n-smaller
loop-n-smaller c = omega (arith, c.block_end-end.ensures.0, c.block_end-end.ensures.1)

pub loop-n-preserved : goal.loop-n-preserved
loop-n-preserved c =
    record {
      in-range = c.block_end-end.ensures.1;
      tally = c.in_ok-tally.ensures;
      hung = c.all_hang.ensures.yes c.if-not-all_hang.false;
      taken_is = c.in_use-taken.ensures;
    }

pub returns-then-taken-used : goal.returns-then-taken-used
returns-then-taken-used c =
    let a = c.args in
    miscounted a.slots a.b a.used a.arena.now (pass-end _ _ _ _ _ c.loop-n.invariant c.loop-n-test.false) (λ e. omega (arith, c.if-taken-used.true))

pub overflow_add-tally : goal.overflow_add-tally
overflow_add-tally c =
    let a = c.args in
    omega (arith, c.loop-n.invariant.in-range, roots_few _ _ _ _ _ c.loop-n.invariant.tally, bits-few _ _ _ _ _ c.loop-n.invariant.tally (bits_of a.slots a.arena.now))

pub returns-then-tally-used : goal.returns-then-tally-used
returns-then-tally-used c =
    let a = c.args in
    uneven a.slots a.b a.used a.arena.now (pass-end _ _ _ _ _ c.loop-n.invariant c.loop-n-test.false) (λ e. omega (arith, c.if-tally-used.true))

pub returns : goal.returns
returns c =
    let a = c.args in
    let d = pass-end _ _ _ _ _ c.loop-n.invariant c.loop-n-test.false in (
      all_true a.slots a.b a.used a.arena.now d c.requires.arena_len c.if-used-slots.false (omega (arith, c.if-taken-used.false)) (omega (arith, c.if-tally-used.false)),
      d.tally.roots-is,
      d.tally.last-is,
    )
