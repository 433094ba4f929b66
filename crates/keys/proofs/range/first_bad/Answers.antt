-- `keys::range::first_bad` meets its contract: the tests that led to a `return` say which field is the first out of range. Assumes nothing.
use mathlib.Core.Path.{sym}
use native.Mathlib.Omega.{arith}
use Rattle.promises.specs.Answers.{fields}
use Rattle.keys.proofs.Ranges.{out-card, out-rollover, out-folder-low, out-folder, out-frame, out-kind, out_none}
use Rattle.keys.proofs.range.first_bad.Goals as goal

pub returns-then-f-gt4095 : goal.returns-then-f-gt4095
returns-then-f-gt4095 c = (out-card (fields c.args.f) (omega arith), omega arith)

pub returns-then-f-gt7 : goal.returns-then-f-gt7
returns-then-f-gt7 c = (out-rollover (fields c.args.f) (omega arith) (omega arith), omega arith)

pub returns-then-f-lt100 : goal.returns-then-f-lt100
returns-then-f-lt100 c = (out-folder-low (fields c.args.f) (omega arith) (omega arith) (omega arith), omega arith)

pub returns-then-f-gt999 : goal.returns-then-f-gt999
returns-then-f-gt999 c = (out-folder (fields c.args.f) (omega arith) (omega arith) (omega arith), omega arith)

pub returns-then-f-gt9999 : goal.returns-then-f-gt9999
returns-then-f-gt9999 c = (out-frame (fields c.args.f) (omega arith) (omega arith) (omega arith) (omega arith) (omega arith), omega arith)

pub returns-then-f-gt1 : goal.returns-then-f-gt1
returns-then-f-gt1 c = (out-kind (fields c.args.f) (omega arith) (omega arith) (omega arith) (omega arith) (omega arith) (omega arith), omega arith)

pub returns : goal.returns
returns c = sym (out_none (fields c.args.f) (omega arith) (omega arith) (omega arith) (omega arith) (omega arith) (omega arith))
