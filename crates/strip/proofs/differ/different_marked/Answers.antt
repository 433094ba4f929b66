-- The entries before i have their marks, and n of them are different. Assumes nothing.
use Rattle.std.proofs.Common.{◌∙◌, arith, rules, below_more}
use Rattle.strip.proofs.CountLaws.{count-new, count-old}
use Rattle.strip.proofs.differ.different_marked.Goals as goal
use Rattle.strip.proofs.differ.different_marked.Goals.{then-not-seen, else-not-seen}

pub loop-i-preserved : goal.loop-i-preserved
loop-i-preserved c =
    let mark = c.mark.ensures in
    let xs = c.args.entries.now in
    let inv = c.loop-i.invariant in record {
      long = mark.long ∙ inv.long;
      hints = search rules;
      marks = below_more _ _ (λ k l. mark.kept _ (inv.marks k l)) mark.here;
      count = elim c.if-not-seen.branch [
        | then-not-seen w ↦ w.n-is ∙ count-new xs c.loop-i.i (omega arith) c.loop-i.n c.known-seen.result inv.count c.known-seen.ensures w.if-not-seen.true
        | else-not-seen w ↦ w.n-is ∙ count-old xs c.loop-i.i (omega arith) c.loop-i.n c.known-seen.result inv.count c.known-seen.ensures w.if-not-seen.false
      ];
      few = elim c.if-not-seen.branch [ then-not-seen w ↦ omega arith | else-not-seen w ↦ omega arith ];
    }
