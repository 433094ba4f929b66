-- `write_blocks` meets its contract: with `left` blocks yet to be written, the slice is the target up to block n - left, and as it was from there. Assumes nothing.
use mathlib.Core.Path.{◌≡◌, refl, ap, ◌∙◌}
use Prim.Native.Nat.{ℕ, ◌+◌, ◌-◌, ◌*◌, ◌≤◌}
use native.Mathlib.Nat.{mul-zero}
use native.Mathlib.Omega.{arith}
use lib.ListN.{length}
use borrow.Rule.Slice.PartMut.{mid_len}
use Rattle.lists.specs.Lists.{blocks}
use Rattle.lists.proofs.Blocks.{length-blocks}
use Rattle.make.specs.Marked.{marked}
use Rattle.make.proofs.Filling.{toward, toward-all}
use Rattle.make.proofs.Runs.{run_end, run-inside, run_more, length_marked}
use Rattle.make.proofs.fill.write_blocks.Goals as goal
use Rattle.make.proofs.fill.write_blocks.Goals.{After-min-k}

fits : (c : After-min-k) → c.loop-left.from + c.args.w * c.min-k.result ≤ length c.loop-left.s
fits c = run-inside c.args.w c.args.n c.loop-left.left c.min-k.result _ _ c.loop-left.invariant.0 (omega (arith, c.min-k.ensures)) c.loop-left.invariant.1 c.loop-left.invariant.2

pub loop-left-init : goal.loop-left-init
loop-left-init c =
    let a = c.args in
    let e : a.n - a.n ≡ 0 = omega arith in
    (omega arith, rw (e, mul-zero), c.requires.0, refl)

pub overflow_mul-to : goal.overflow_mul-to
overflow_mul-to c = omega (arith, fits (goal.at.overflow_mul-to c).After-min-k)

pub overflow_add-to : goal.overflow_add-to
overflow_add-to c = omega (arith, fits (goal.at.overflow_add-to c).After-min-k)

pub offset_bounds-s-from : goal.offset_bounds-s-from
offset_bounds-s-from c = omega (arith, fits (goal.at.offset_bounds-s-from c).After-min-k)

pub slice_bounds-write_run-end : goal.slice_bounds-write_run-end
slice_bounds-write_run-end c = fits (goal.at.slice_bounds-write_run-end c).After-min-k

pub write_run-requires : goal.write_run-requires
write_run-requires c =
    let from = c.loop-left.from in
    let to = from + c.args.w * c.min-k.result in (
      mid_len from to c.loop-left.s (fits (goal.at.write_run-requires c).After-min-k) ∙ omega arith,
      c.requires.1,
      omega (arith, c.min-k.ensures),
    )

pub loop-left-preserved : goal.loop-left-preserved
loop-left-preserved c =
    let loop = c.loop-left in
    let a = c.args in
    let k = c.min-k.result in
    let to = loop.from + a.w * k in (
      omega arith,
      ap (λ (x : ℕ). x + a.w * k) loop.invariant.1 ∙ run_end a.w a.n c.loop-left.left k loop.invariant.0 omega (arith, c.min-k.ensures),
      c.s-1.given.1 ∙ loop.invariant.2,
      run_more (marked a.w a.at) a.w (length_marked a.w a.at) a.s.now loop.s c.write_run.new.s a.n c.loop-left.left k loop.from to
          loop.invariant.0 (omega (arith, c.min-k.ensures)) loop.invariant.1 refl loop.invariant.3 c.write_run.ensures,
    )

pub returns : goal.returns
returns c =
    let a = c.args in
    let t = blocks (marked a.w a.at) a.n in
    let e : a.n - c.loop-left.left ≡ a.n = omega arith in
    c.loop-left.invariant.3
    ∙ ap (toward t a.s.now) (c.loop-left.invariant.1 ∙ ap (λ (x : ℕ). a.w * x) e)
    ∙ toward-all t a.s.now (a.w * a.n) (length-blocks (marked a.w a.at) a.w (length_marked a.w a.at) a.n) c.requires.0
