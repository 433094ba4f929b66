-- An answer that holds counts says that there is an arena. Assumes nothing.
use Prim.Native.Nat.{ℕ}
use mathlib.Core.Path.{◌≡◌, subst}
use mathlib.Core.List.{List}
use Rattle.std.specs.Prelude.{Option, Some}
use Rattle.arena.specs.Arena.{Arena}
use Rattle.arena_check.specs.Answers.{CheckedAs}
use Rattle.arena_check.specs.declared.Sound.{Sound}

pub is-sound : (N b used : ℕ) (l : List ℕ) (v : Option Sound) (s : Sound) → v ≡ Some s → CheckedAs N b used l v → Arena N b used l
is-sound N b used l v s e a = (subst (λ (w : Option Sound). CheckedAs N b used l w) e a).0
