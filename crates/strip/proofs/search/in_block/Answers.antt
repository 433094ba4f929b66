-- What was found so far is whether s stands before the index. Assumes nothing.
use Rattle.std.proofs.Common.{◌<◌, Bool, ◌||◌, eqb, length, get_or, sym, ap, ◌∙◌, add-one, arith}
use Rattle.strip.proofs.MemberLaws.{mem-one-more}
use Rattle.strip.proofs.search.in_block.Goals as goal

pub loop-entry-preserved : goal.loop-entry-preserved
loop-entry-preserved c =
    let a = c.args in
    let i = c.loop-entry.entry-index in
    let h : i < length a.block.now = omega arith in
    rw add-one (ap (λ (b : Bool). b || eqb a.s (get_or a.block.now i 0)) c.loop-entry.invariant ∙ sym (mem-one-more a.s a.block.now i h))
