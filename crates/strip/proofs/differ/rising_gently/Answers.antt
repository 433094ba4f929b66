-- If the upper 16 bits are in common at the end, every entry has risen. Assumes nothing.
use Rattle.std.proofs.Common.{◌+◌, ◌-◌, ◌/◌, ◌%◌, ◌^◌, ◌<◌, get_or, refl, arith, eqb-true}
use Rattle.strip.proofs.PlaceLaws.{rises-yes}
use Rattle.strip.proofs.RiseLaws.{gentle-more}
use Rattle.strip.proofs.differ.rising_gently.Goals as goal

pub loop-i-preserved : goal.loop-i-preserved
loop-i-preserved c =
    let xs = c.args.entries.now in
    let i = c.loop-i.i in
    let a = get_or xs (i - 1) 0 in
    let b = get_or xs i 0 in
    let a-fits : a < 2 ^ 64 = (c.type_inv.entries (i - 1)).fits in
    let b-fits : b < 2 ^ 64 = (c.type_inv.entries i).fits in
    gentle-more xs c.loop-i.common ((a + (2 ^ 64 - b)) % 2 ^ 64) i (omega arith) (omega arith) (omega arith) (omega arith) b-fits (omega arith) c.loop-i.invariant

pub returns : goal.returns
returns c =
    λ e.
    let q = eqb-true (c.loop-i.common / 2 ^ 48) 65535 e in
    (rises-yes c.args.entries.now c.loop-i.i (omega arith) (c.loop-i.invariant (omega arith)).1).0 refl
