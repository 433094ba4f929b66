-- Document 01, "The region": the image of a fresh region, area by area. Assumes nothing.
use Rattle.std.specs.Prelude.{List, [], ◌∷◌, ◌++◌, ℕ, ◌*◌, replicate}
use Rattle.lists.specs.Lists.{blocks, down_from}
use Rattle.region.specs.Ranges.{form}
use Rattle.region.specs.Geometry.{bitmap_words, strip_words, off_bitmap, off_ranks, off_stack, off_records, off_entries, off_node_stack, off_nodes, total}

-- n words of 0
abbrev pub zeros : ℕ → List ℕ
zeros n = replicate n 0

-- form, P, S, C, N, no container and no node in use, no member, the seven offsets and the total length
abbrev pub fresh_header : ℕ → ℕ → ℕ → ℕ → List ℕ
fresh_header P S C N =
    form ∷ P ∷ S ∷ C ∷ N ∷ 0 ∷ 0 ∷ 0
    ∷ off_bitmap ∷ off_ranks P ∷ off_stack P C ∷ off_records P C ∷ off_entries P C ∷ off_node_stack P C ∷ off_nodes P C N ∷ total P C N
    ∷ []

-- a stack holds n - 1 down to 0, so slot i stands at place n - 1 - i
abbrev pub fresh_stack : ℕ → List ℕ
fresh_stack n = down_from (λ i. i) n

-- each free record's link is its stack place
abbrev pub free_record : ℕ → List ℕ
free_record place = 0 ∷ 0 ∷ 0 ∷ place ∷ []

-- each free node's word 5 is its stack place
abbrev pub free_node : ℕ → List ℕ
free_node place = 0 ∷ 0 ∷ 0 ∷ 0 ∷ 0 ∷ place ∷ 0 ∷ 0 ∷ zeros 256

-- all other words are 0
unfoldable pub fresh : ℕ → ℕ → ℕ → ℕ → List ℕ
fresh P S C N =
    fresh_header P S C N
    ++ zeros (bitmap_words P)
    ++ zeros C
    ++ fresh_stack C
    ++ blocks free_record C
    ++ zeros (strip_words * C)
    ++ fresh_stack N
    ++ blocks free_node N
