-- The first i suffixes are gathered behind the entries, n entries then. Assumes nothing.
use Rattle.strip.proofs.GatherLaws.{gather-old, gather-new}
use Rattle.strip.proofs.store.gather.Goals.{then-not-contains, else-not-contains}
use Rattle.strip.proofs.store.gather.Goals as goal

pub loop-s-preserved : goal.loop-s-preserved
loop-s-preserved c =
    let found = c.contains in
    elim c.if-not-contains.branch [
      | then-not-contains w ↦ gather-new c.args.strip.now c.args.len c.args.suffixes.now c.loop-s.n c.loop-s.strip c.loop-s.s-index c.loop-s-test.true c.loop-s.invariant found.result found.ensures w.if-not-contains.true c.requires w.strip-is w.n-is
      | else-not-contains w ↦ gather-old c.args.strip.now c.args.len c.args.suffixes.now c.loop-s.n c.loop-s.strip c.loop-s.s-index c.loop-s-test.true c.loop-s.invariant found.result found.ensures w.if-not-contains.false w.strip-is w.n-is
    ]
