-- The four words are loaded, and counted. Assumes nothing.
use mathlib.Core.Path.{ap, ◌∙◌}
use mathlib.Core.List.{List}
use Prim.Native.Nat.{ℕ, ◌+◌, ◌-◌, ◌*◌}
use native.Mathlib.Omega.{arith}
use lib.ListN.{length}
use Rattle.region.specs.Bits.{rank}
use Rattle.arena_check.proofs.Maps.{count-is}
use Rattle.arena_check.proofs.set_bits.Goals as goal

pub returns : goal.returns
returns c =
    let a = c.args in
    c.count.ensures ∙ ap (λ (ws : List ℕ). rank ws 256) c.load-map.ensures ∙ count-is a.slots a.n a.arena.now (length a.arena.now - (a.slots + a.n * 264)) (omega arith)
