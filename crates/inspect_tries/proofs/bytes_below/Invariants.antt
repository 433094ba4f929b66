-- From `end` on no byte is set, up to the one that is tested. Assumes nothing.
use Prim.Native.Nat.{ℕ, ◌<◌}
use mathlib.Core.Path.{◌≡◌}
use Rattle.arena.specs.Arena.{nodes_in}
use Rattle.inspect_tries.proofs.bytes_below.Given as goal

abbrev pub invariant-loop-x : goal.invariant-loop-x
invariant-loop-x l = (y : ℕ) → y < l.x → y < 256 → (nodes_in l.slots l.arena).bit l.n y ≡ 1 → y < l.end
