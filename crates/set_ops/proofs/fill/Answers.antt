-- What is poured into the destination afresh is run from the empty set. Assumes nothing.
use Rattle.std.specs.Prelude.{is_ok}
use Rattle.set_ops.specs.Poured.{meant}
use Rattle.set_ops.proofs.Pouring.{framed_alike}
use Rattle.set_ops.proofs.Choosing.{afresh-framed, filled}
use Rattle.set_ops.proofs.fill.Goals as goal

pub by_operation-requires : goal.by_operation-requires
by_operation-requires c =
    let f = afresh-framed c.args.dest.now c.start_afresh.new.dest c.start_afresh.ensures in
    record {
      well_formed = c.requires.well_formed;
      well_formed_2 = c.requires.well_formed_2;
      well_formed_3 = f.well-formed;
      alike = framed_alike c.requires.alike f;
      alike_2 = framed_alike c.requires.alike_2 f;
    }

pub returns : goal.returns
returns c = filled c.args.dest.now c.start_afresh.new.dest c.start_afresh.ensures (meant c.args.operation) c.args.a.now c.args.b.now c.requires.alike (is_ok c.by_operation.result) c.by_operation.new.dest c.by_operation.ensures
