-- A store into a table, met. Assumes nothing.
use Prim.Native.Nat.{ℕ, ◌<◌}
use mathlib.Core.Path.{◌≡◌, ap, ◌∙◌}
use mathlib.Core.List.{List}
use lib.ListN.{length, get_or, set}
use lib.Seq.{get_or-set_same}

pub set_here : (l : List ℕ) (j i x : ℕ) → i ≡ j → j < length l → get_or (set l j x) i 0 ≡ x
set_here l j i x e h = ap (λ (z : ℕ). get_or (set l j x) z 0) e ∙ get_or-set_same l j x 0 h
