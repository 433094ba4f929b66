-- How two numbers stand to each other, as the library's Ordering. Assumes nothing.
use Rattle.std.specs.Prelude.{cond, ℕ, ltb}
use Rattle.std.specs.declared.cmp.Ordering.{Ordering}
use Rattle.std.specs.declared.cmp.Ordering.TheVariants.{Less, Equal, Greater}

abbrev pub order_of : ℕ → ℕ → Ordering
order_of x y = cond (ltb x y) Less (cond (ltb y x) Greater Equal)
