-- The four words are loaded, and counted against none. Assumes nothing.
use mathlib.Core.Path.{ap, ◌∙◌}
use mathlib.Core.List.{List}
use Prim.Native.Nat.{ℕ, ◌+◌, ◌-◌, ◌*◌}
use native.Mathlib.Omega.{arith}
use lib.Dec.{eqb}
use lib.ListN.{length}
use Rattle.region.specs.Bits.{rank}
use Rattle.arena.specs.Arena.{nodes_in}
use Rattle.arena_check.proofs.Maps.{bits_of, count-is, some-told}
use Rattle.arena_check.proofs.non_empty.Goals as goal

pub returns : goal.returns
returns c =
    let a = c.args in
    record {
      yes = (some-told (nodes_in a.slots a.arena.now) a.n (bits_of a.slots a.arena.now a.n) c.is_empty.result
          (c.is_empty.ensures ∙ ap (λ (ws : List ℕ). eqb (rank ws 256) 0) c.load-map.ensures ∙ ap (λ (k : ℕ). eqb k 0) (count-is a.slots a.n a.arena.now (length a.arena.now - (a.slots + a.n * 264)) (omega arith)))).0;
      no = (some-told (nodes_in a.slots a.arena.now) a.n (bits_of a.slots a.arena.now a.n) c.is_empty.result
          (c.is_empty.ensures ∙ ap (λ (ws : List ℕ). eqb (rank ws 256) 0) c.load-map.ensures ∙ ap (λ (k : ℕ). eqb k 0) (count-is a.slots a.n a.arena.now (length a.arena.now - (a.slots + a.n * 264)) (omega arith)))).1;
    }
