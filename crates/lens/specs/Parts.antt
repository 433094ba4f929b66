-- A region as its seven areas: what a store or a changed part of the slice does to them. No promise cites this; the code of the set is proved through it. Assumes nothing.
use Rattle.std.specs.Prelude.{ℕ, ◌+◌, ◌*◌, List}
use Rattle.region.specs.Geometry.{node_words, off_node_stack}
use Rattle.region.specs.Areas.{Numbers, area, bitmap, ranks, stack, records, entries, node_stack, nodes}
use Rattle.region.specs.Seen.{Seen, seen_of}

-- the seven areas
pub record Parts : Type 0 where
  pub bitmap : List ℕ
  pub ranks : List ℕ
  pub stack : List ℕ
  pub records : List ℕ
  pub entries : List ℕ
  pub node_stack : List ℕ
  pub nodes : List ℕ

-- the areas of a region
abbrev pub parts_of : Numbers → List ℕ → Parts
parts_of g l =
    record {
      bitmap = bitmap g l;
      ranks = ranks g l;
      stack = stack g l;
      records = records g l;
      entries = entries g l;
      node_stack = node_stack g l;
      nodes = nodes g l;
    }

-- what areas say
abbrev pub seen_in : Parts → Seen
seen_in x = seen_of x.bitmap x.ranks x.stack x.records x.entries x.node_stack x.nodes

-- one area changed
abbrev pub with_bitmap : List ℕ → Parts → Parts
with_bitmap new x = record { bitmap = new; ranks = x.ranks; stack = x.stack; records = x.records; entries = x.entries; node_stack = x.node_stack; nodes = x.nodes }

abbrev pub with_ranks : List ℕ → Parts → Parts
with_ranks new x = record { bitmap = x.bitmap; ranks = new; stack = x.stack; records = x.records; entries = x.entries; node_stack = x.node_stack; nodes = x.nodes }

abbrev pub with_stack : List ℕ → Parts → Parts
with_stack new x = record { bitmap = x.bitmap; ranks = x.ranks; stack = new; records = x.records; entries = x.entries; node_stack = x.node_stack; nodes = x.nodes }

abbrev pub with_records : List ℕ → Parts → Parts
with_records new x = record { bitmap = x.bitmap; ranks = x.ranks; stack = x.stack; records = new; entries = x.entries; node_stack = x.node_stack; nodes = x.nodes }

abbrev pub with_entries : List ℕ → Parts → Parts
with_entries new x = record { bitmap = x.bitmap; ranks = x.ranks; stack = x.stack; records = x.records; entries = new; node_stack = x.node_stack; nodes = x.nodes }

-- node stack and nodes lie side by side and are lent as one part, the arena
abbrev pub with_arena : List ℕ → List ℕ → Parts → Parts
with_arena new_stack new_nodes x = record { bitmap = x.bitmap; ranks = x.ranks; stack = x.stack; records = x.records; entries = x.entries; node_stack = new_stack; nodes = new_nodes }

-- the arena of a region
abbrev pub arena_of : Numbers → List ℕ → List ℕ
arena_of g l = area (off_node_stack g.P g.C) (g.N + node_words * g.N) l
