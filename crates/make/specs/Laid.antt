-- A `Geometry` holds the numbers that document 01 gives to a region of its P, S, C and N. Assumes nothing.
use Rattle.std.specs.Prelude.{◌≡◌, ℕ}
use Rattle.region.specs.Geometry.{off_ranks, off_stack, off_records, off_entries, off_node_stack, off_nodes, total}
use Rattle.make.specs.declared.geometry.Geometry.{Geometry}

-- each offset, and the total, is the one of the numbers
pub record Laid (g : Geometry) : Type 0 where
  pub ranks : g.ranks ≡ off_ranks g.p
  pub stack : g.stack ≡ off_stack g.p g.c
  pub records : g.records ≡ off_records g.p g.c
  pub entries : g.entries ≡ off_entries g.p g.c
  pub node-stack : g.node_stack ≡ off_node_stack g.p g.c
  pub nodes : g.nodes ≡ off_nodes g.p g.c g.n
  pub whole : g.total ≡ total g.p g.c g.n

-- the numbers are these
pub record GeometryOf (P S C N : ℕ) (g : Geometry) : Type 0 where
  pub p : g.p ≡ P
  pub s : g.s ≡ S
  pub c : g.c ≡ C
  pub n : g.n ≡ N
  pub laid : Laid g
