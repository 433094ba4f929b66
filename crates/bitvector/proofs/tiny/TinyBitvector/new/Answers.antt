-- Four zeros have no bit set. Assumes nothing.
use Rattle.bitvector.proofs.Four.{none_of_four}
use Rattle.bitvector.proofs.tiny.TinyBitvector.new.Goals as goal

pub returns : goal.returns
returns c = none_of_four
