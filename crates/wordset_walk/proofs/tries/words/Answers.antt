-- The suffixes are written, and each is joined to the prefix where it stands. Assumes nothing.
use mathlib.Core.Path.{refl}
use mathlib.Core.List.{[]}
use Prim.Native.Nat.{ℕ, ◌+◌}
use native.Mathlib.Omega.{arith}
use lib.ListN.{take}
use Rattle.wordset_walk.proofs.Joining.{partly-at, partly-next, front_long, front-small, all-joined}
use Rattle.wordset_walk.proofs.tries.words.Goals as goal

pub overflow_add-word : goal.overflow_add-word
overflow_add-word c =
    let x = c.suffixes_from-n.new.out in
    let n = c.suffixes_from-n.result in
    let lp = c.loop-word in
    let long = front_long c.args.region.now c.requires.well_formed c.args.c c.requires.c_bound c.requires.c_value c.args.skip c.args.out.now x n c.suffixes_from-n.ensures.number c.suffixes_from-n.ensures.written in
    let there = partly-at (λ (s : ℕ). s + c.args.base) lp.word-index (take n x) [] lp.word-items lp.invariant (omega (arith, c.loop-word-test.true)) in
    let small = front-small c.args.region.now c.requires.well_formed c.args.c c.requires.c_bound c.requires.c_value c.args.skip c.args.out.now x n c.suffixes_from-n.ensures.number c.suffixes_from-n.ensures.written lp.word-index (omega (arith, c.loop-word-test.true, long)) in
    omega (arith, there, small, c.requires.region_bound)

pub loop-word-preserved : goal.loop-word-preserved
loop-word-preserved c =
    let lp = c.loop-word in
    partly-next (λ (s : ℕ). s + c.args.base) lp.word-index (take c.suffixes_from-n.result c.suffixes_from-n.new.out) [] lp.word-items lp.invariant (omega (arith, c.loop-word-test.true)) _ refl

pub returns : goal.returns
returns c =
    let x = c.suffixes_from-n.new.out in
    let n = c.suffixes_from-n.result in
    let long = front_long c.args.region.now c.requires.well_formed c.args.c c.requires.c_bound c.requires.c_value c.args.skip c.args.out.now x n c.suffixes_from-n.ensures.number c.suffixes_from-n.ensures.written in
    let all = all-joined c.args.region.now c.requires.well_formed c.args.c c.requires.c_bound c.requires.c_value c.args.skip c.args.out.now x n c.suffixes_from-n.ensures.number c.suffixes_from-n.ensures.written c.args.base c.requires.base_value c.loop-word.word-index c.loop-word.word-items c.loop-word.invariant (omega (arith, c.loop-word-test.false, long)) in
    record { number = all.0; written = all.1 }
