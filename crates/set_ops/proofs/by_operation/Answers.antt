-- What each operation chooses, as the words that are poured. Assumes nothing.
use Rattle.std.proofs.Common.{sym}
use Rattle.region.specs.Read.{reading}
use Rattle.std.specs.Prelude.{is_ok}
use Rattle.set_ops.proofs.Pouring.{poured-same}
use Rattle.set_ops.proofs.Choosing.{chosen-or, chosen-and, chosen-minus, chosen-xor}
use Rattle.set_ops.proofs.by_operation.Goals as goal

pub returns-in-Or : goal.returns-in-Or
returns-in-Or c = rw c.in-Or.is (poured-same c.args.dest.now (sym (chosen-or (reading c.args.a.now) (reading c.args.b.now))) (is_ok c.both.result) c.both.new.dest c.both.ensures)

pub returns-in-And : goal.returns-in-And
returns-in-And c = rw c.in-And.is (poured-same c.args.dest.now (sym (chosen-and (reading c.args.a.now) (reading c.args.b.now))) (is_ok c.pour.result) c.pour.new.dest c.pour.ensures)

pub returns-in-Minus : goal.returns-in-Minus
returns-in-Minus c = rw c.in-Minus.is (poured-same c.args.dest.now (sym (chosen-minus (reading c.args.a.now) (reading c.args.b.now))) (is_ok c.pour-in-Minus.result) c.pour-in-Minus.new.dest c.pour-in-Minus.ensures)

pub returns-in-Xor : goal.returns-in-Xor
returns-in-Xor c = rw c.in-Xor.is (poured-same c.args.dest.now (sym (chosen-xor (reading c.args.a.now) (reading c.args.b.now))) (is_ok c.both-in-Xor.result) c.both-in-Xor.new.dest c.both-in-Xor.ensures)
