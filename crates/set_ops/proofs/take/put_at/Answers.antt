-- A new word and an old one find room, under a known slot too. Assumes nothing.
use Rattle.std.proofs.lemmas.Result.{err_from_is_err_and}
use Rattle.set_ops.proofs.Pouring.{put-done, one-halted}
use Rattle.set_ops.proofs.take.put_at.Goals as goal

pub returns-in_err-insert_at : goal.returns-in_err-insert_at
returns-in_err-insert_at c =
    let p = err_from_is_err_and c.from_residual.result c.from_residual.ensures.1 in
    rw p.1 (one-halted _ c.requires.well_formed c.in_err-insert_at.ensures)

pub returns : goal.returns
returns c = put-done _ c.in_ok-insert_at.field-0 c.in_ok-insert_at.ensures
