-- The two tests at the two places. Assumes nothing.
use Rattle.strip.proofs.MarkLaws.{no_near, by-far}
use Rattle.strip.proofs.differ.is_marked.Goals as goal

pub returns-then-marks-near_of-eq1 : goal.returns-then-marks-near_of-eq1
returns-then-marks-near_of-eq1 c =
    let near = c.near_of in
    let a = c.args in
    let far = c.far_of in
    by-far a.marks.now a.x near.result far.result near.ensures far.ensures c.if-marks-near_of-eq1.true

pub returns-else-marks-near_of-eq1 : goal.returns-else-marks-near_of-eq1
returns-else-marks-near_of-eq1 c =
    let a = c.args in
    let near = c.near_of in
    no_near a.marks.now a.x near.result near.ensures c.if-marks-near_of-eq1.false
