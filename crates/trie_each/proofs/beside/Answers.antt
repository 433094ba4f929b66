-- The last two bytes are shifted out. Assumes nothing.
use native.Mathlib.Omega.{arith}
use mathlib.Core.Path.{◌≡◌, refl}
use Rattle.std.specs.Prelude.{ℕ, Option, Some, None, IfSome}
use Rattle.trie_each.proofs.beside.Goals as goal

-- what is passed on, with a fact
passed : {P : Type 0} (above : Option ℕ) → P → IfSome above (λ n. (above ≡ Some n) × P)
passed None p = tt
passed (Some n) p = (refl, p)

pub returns-then-suffixes-i : goal.returns-then-suffixes-i
returns-then-suffixes-i c = passed _ record { later = omega (arith, c.if-i-eq0.false); same = c.if-suffixes-i.true }
