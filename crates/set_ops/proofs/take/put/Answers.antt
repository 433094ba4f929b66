-- A new word and an old one find room. Assumes nothing.
use Rattle.std.proofs.lemmas.Result.{err_from_is_err_and}
use Rattle.set_ops.proofs.Pouring.{put-done, one-halted}
use Rattle.set_ops.proofs.take.put.Goals as goal

pub returns-in_err-insert : goal.returns-in_err-insert
returns-in_err-insert c =
    let p = err_from_is_err_and c.from_residual.result c.from_residual.ensures.1 in
    rw p.1 (one-halted c.args.w c.requires.well_formed c.in_err-insert.ensures)

pub returns : goal.returns
returns c = put-done c.args.w c.in_ok-insert.field-0 c.in_ok-insert.ensures
