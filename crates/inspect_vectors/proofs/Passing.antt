-- A pass over the slots: those before place c that are vectors keep what a vector must. Assumes nothing.
use Prim.Native.Nat.{ℕ, ◌+◌, ◌<◌, ◌≤◌}
use mathlib.Core.Path.{◌≡◌, sym, subst}
use native.Mathlib.Omega.{arith}
use native.Mathlib.Decide.{ℕ_discrete}
use Rattle.region.specs.Areas.{Numbers}
use Rattle.region.specs.Seen.{Seen}
use Rattle.region.specs.WellFormed.{Vector}

-- every slot before c that is a vector
abbrev pub Passed : Numbers → Seen → ℕ → Type 0
Passed g v c = (d : ℕ) → d < c → v.kind d ≡ 1 → Vector g v d

module _ {g : Numbers} {v : Seen} where
  pub pass-start : Passed g v 0
  pass-start d l = absurd (omega arith)

  -- one slot more
  pub pass-next : {c : ℕ} → Passed g v c → (v.kind c ≡ 1 → Vector g v c) → Passed g v (c + 1)
  pass-next {c} p here d l k = pick (ℕ_discrete d c)
    where
      pick : Dec (d ≡ c) → Vector g v d
      pick (yes e) = subst (Vector g v) (sym e) (here (subst (λ (z : ℕ). v.kind z ≡ 1) e k))
      pick (no n) = p d (omega arith) k

  pub pass-end : {c C : ℕ} → C ≤ c → Passed g v c → (d : ℕ) → d < C → v.kind d ≡ 1 → Vector g v d
  pass-end l p d h k = p d (omega arith) k
