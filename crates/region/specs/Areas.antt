-- Document 01, "The region": the header's words, and the areas behind it. Assumes nothing.
use Rattle.std.specs.Prelude.{ℕ, ◌*◌, List, take, drop, get_or}
use Rattle.region.specs.Geometry.{bitmap_words, record_words, strip_words, node_words, off_bitmap, off_ranks, off_stack, off_records, off_entries, off_node_stack, off_nodes}

-- the numbers that a header bears
pub record Numbers : Type 0 where
  pub P : ℕ
  pub S : ℕ
  pub C : ℕ
  pub N : ℕ
  -- containers in use
  pub k : ℕ
  -- nodes in use
  pub used : ℕ
  -- member count
  pub count : ℕ

-- form (word 0), P, S, C, N, containers in use k, nodes in use, member count
abbrev pub numbers : List ℕ → Numbers
numbers l = record { P = get_or l 1 0; S = get_or l 2 0; C = get_or l 3 0; N = get_or l 4 0; k = get_or l 5 0; used = get_or l 6 0; count = get_or l 7 0 }

-- n words from word off on
unfoldable pub area : ℕ → ℕ → List ℕ → List ℕ
area off n l = take n (drop off l)

-- the seven areas
abbrev pub bitmap : Numbers → List ℕ → List ℕ
bitmap g l = area off_bitmap (bitmap_words g.P) l

abbrev pub ranks : Numbers → List ℕ → List ℕ
ranks g l = area (off_ranks g.P) g.C l

abbrev pub stack : Numbers → List ℕ → List ℕ
stack g l = area (off_stack g.P g.C) g.C l

abbrev pub records : Numbers → List ℕ → List ℕ
records g l = area (off_records g.P g.C) (record_words * g.C) l

abbrev pub entries : Numbers → List ℕ → List ℕ
entries g l = area (off_entries g.P g.C) (strip_words * g.C) l

abbrev pub node_stack : Numbers → List ℕ → List ℕ
node_stack g l = area (off_node_stack g.P g.C) g.N l

abbrev pub nodes : Numbers → List ℕ → List ℕ
nodes g l = area (off_nodes g.P g.C g.N) (node_words * g.N) l
