-- Good numbers are in their ranges: the tests of `good_numbers` taken apart. Assumes nothing.
use mathlib.Core.Path.{◌≡◌}
use mathlib.Core.Bool.{true, ◌&&◌}
use Prim.Native.Nat.{ℕ, ◌≤◌}
use lib.Dec.{leb}
use borrow.Author.Tests.{leb-true}
use Rattle.lists.specs.Lists.{between}
use Rattle.lists.proofs.Laws.{and_both}
use Rattle.region.specs.Ranges.{good_p, good_s, good_c, good_n, good_numbers}

-- what the sums of the geometry lean on
pub record Ranges (P C N : ℕ) : Type 0 where
  pub P-high : P ≤ 24
  pub C-high : C ≤ 65536
  pub N-high : N ≤ 1048576

high : (lo hi x : ℕ) → between lo hi x ≡ true → x ≤ hi
high lo hi x e = leb-true x hi (and_both (leb lo x) (leb x hi) e).1

pub ranges : (P S C N : ℕ) → good_numbers P S C N ≡ true → Ranges P C N
ranges P S C N e =
    let psc = and_both (good_p P && good_s S && good_c C) (good_n N) e in
    let ps = and_both (good_p P && good_s S) (good_c C) psc.0 in
    let p = and_both (good_p P) (good_s S) ps.0 in
    record {
      P-high = high 1 24 P p.0;
      C-high = high 1 65536 C ps.1;
      N-high = high 0 1048576 N psc.1;
    }
