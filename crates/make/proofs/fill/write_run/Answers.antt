-- `write_run` meets its contract: the zeros are k blank blocks, and each store turns the next of them into its marked one. Assumes nothing.
use Rattle.std.proofs.Common.{◌≡◌, ℕ, ◌+◌, ◌-◌, ◌*◌, ◌<◌, length, ap, ◌∙◌, arith}
use lib.ListN.{length-set, length-replicate}
use Rattle.lists.proofs.Blocks.{length-blocks}
use Rattle.region.specs.Fresh.{zeros}
use Rattle.make.specs.Marked.{marked}
use Rattle.make.proofs.Filling.{toward, toward-all}
use Rattle.make.proofs.Runs.{blank, word-inside, mark-more, length_marked}
use Rattle.make.proofs.fill.write_run.Invariants.{run, bare}
use Rattle.make.proofs.fill.write_run.Goals as goal
use Rattle.make.proofs.fill.write_run.Goals.{In-loop-i}

inside : (c : In-loop-i) → c.args.w * c.loop-i.i + c.args.at < length c.loop-i.s
inside c = word-inside c.args.w c.args.k c.loop-i.i c.args.at _ c.loop-i-test.true c.requires.1 c.loop-i.invariant.0

pub loop-i-init : goal.loop-i-init
loop-i-init c =
    let a = c.args in
    let z = c.zero.ensures ∙ ap zeros c.requires.0 in
    (ap length z ∙ length-replicate (a.w * a.k) 0, z ∙ blank 0 (run a.w a.at a.k a.top) a.w a.k)

pub overflow_mul-s : goal.overflow_mul-s
overflow_mul-s c = omega (arith, inside (goal.at.overflow_mul-s c).In-loop-i)

pub overflow_add-s : goal.overflow_add-s
overflow_add-s c = omega (arith, inside (goal.at.overflow_add-s c).In-loop-i)

pub offset_bounds-s-w : goal.offset_bounds-s-w
offset_bounds-s-w c = omega (arith, inside (goal.at.offset_bounds-s-w c).In-loop-i)

pub bounds-s-w : goal.bounds-s-w
bounds-s-w c = inside (goal.at.bounds-s-w c).In-loop-i

pub loop-i-preserved : goal.loop-i-preserved
loop-i-preserved c =
    let loop = c.loop-i in
    let w = c.args.w in
    let at = c.args.at in
    let k = c.args.k in
    let top = c.args.top in
    let i = loop.i in
    let e : top - 1 - i ≡ top - k + (k - 1 - i) = omega arith in (
      length-set loop.s (w * i + at) (top - 1 - i) ∙ loop.invariant.0,
      mark-more (λ j. marked w at (top - k + j)) w (λ j. length_marked w at (top - k + j)) (λ j. zeros w) (λ j. length-replicate w 0)
          loop.s k i at (top - 1 - i) loop.invariant.1 (omega arith) c.requires.1 (ap (marked w at) e),
    )

pub returns : goal.returns
returns c =
    let a = c.args in
    let w = a.w in
    let at = a.at in
    let k = a.k in
    let top = a.top in
    let e : c.loop-i.i ≡ k = omega arith in
    c.loop-i.invariant.1
    ∙ ap (λ (i : ℕ). toward (run w at k top) (bare w k) (w * i)) e
    ∙ toward-all (run w at k top) (bare w k) (w * k) (length-blocks (λ j. marked w at (top - k + j)) w (λ j. length_marked w at (top - k + j)) k) (length-blocks (λ j. zeros w) w (λ j. length-replicate w 0) k)
