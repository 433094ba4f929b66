-- No entry before the index is above the bits joined so far. Assumes nothing.
use Rattle.std.proofs.Common.{ltb, get_or, arith, below_more, lt-ltb}
use Rattle.strip.proofs.BoundLaws.{places-all, or_above}
use Rattle.strip.proofs.bounds.joined.Goals as goal

pub loop-entry-preserved : goal.loop-entry-preserved
loop-entry-preserved c =
    let o = or_above c.loop-entry.bits (get_or c.args.entries.now c.loop-entry.entry-index 0) in
    below_more _ _ (λ k l. let p = c.loop-entry.invariant k l in omega arith) o.1

pub returns : goal.returns
returns c =
    λ b l.
    let xs = c.args.entries.now in
    places-all (λ x. ltb x b) xs (λ i h. let p = c.loop-entry.invariant i (omega arith) in lt-ltb (get_or xs i 0) b (omega arith))
