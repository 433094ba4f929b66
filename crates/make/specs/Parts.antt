-- The fresh image in parts, as the code writes it: the areas that C sizes, and those that N sizes. Assumes nothing.
use Rattle.std.specs.Prelude.{List, ◌++◌, ℕ, ◌*◌}
use Rattle.lists.specs.Lists.{blocks}
use Rattle.region.specs.Geometry.{strip_words}
use Rattle.region.specs.Fresh.{zeros, fresh_stack, free_record, free_node}

-- rank table, free stack, records, suffix entries
abbrev pub container_areas : ℕ → List ℕ
container_areas C = zeros C ++ fresh_stack C ++ blocks free_record C ++ zeros (strip_words * C)

-- free stack, nodes
abbrev pub node_areas : ℕ → List ℕ
node_areas N = fresh_stack N ++ blocks free_node N
