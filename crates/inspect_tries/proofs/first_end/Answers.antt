-- The first byte has 1 to 8 bits, so the shift loses none. Assumes nothing.
use Prim.Native.Nat.{◌-◌, ◌*◌}
use mathlib.Core.Path.{◌≡◌, ◌∙◌}
use native.Mathlib.Omega.{arith}
use native.Mathlib.Nat.{one-mul}
use lib.Dec.{lit<}
use lib.Pow.{shl_exact}
use Rattle.model.specs.Words.{bytes_of}
use Rattle.inspect_tries.proofs.first_end.Goals as goal

pub returns : goal.returns
returns c =
    let e : c.div_ceil-rest.result ≡ bytes_of c.args.bits = omega (arith, c.div_ceil-rest.ensures) in
    rw e (shl_exact {a = 1} 1 (c.args.bits - 8 * (bytes_of c.args.bits - 1)) 64 (lit< tt) (omega arith) ∙ one-mul _)
