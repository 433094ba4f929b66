-- The worked image of a fresh region with P = 12, S = 28, C = 4, N = 8, word for word. Assumes nothing.
use mathlib.Core.Path.{◌≡◌, refl}
use mathlib.Core.List.{[], ◌∷◌, ◌++◌}
use Rattle.region.specs.Geometry.{bitmap_words}
use Rattle.region.specs.Fresh.{zeros, fresh}

pub worked : fresh 12 28 4 8
    -- the header
    ≡ (1 ∷ 12 ∷ 28 ∷ 4 ∷ 8 ∷ 0 ∷ 0 ∷ 0 ∷ 16 ∷ 80 ∷ 84 ∷ 88 ∷ 104 ∷ 4200 ∷ 4208 ∷ 6320 ∷ [])
    -- the prefix bitmap and the rank table
    ++ zeros 64 ++ zeros 4
    -- the container free stack
    ++ (3 ∷ 2 ∷ 1 ∷ 0 ∷ [])
    -- the records, and the suffix entries
    ++ (0 ∷ 0 ∷ 0 ∷ 3 ∷ 0 ∷ 0 ∷ 0 ∷ 2 ∷ 0 ∷ 0 ∷ 0 ∷ 1 ∷ 0 ∷ 0 ∷ 0 ∷ 0 ∷ []) ++ zeros 4096
    -- the node free stack
    ++ (7 ∷ 6 ∷ 5 ∷ 4 ∷ 3 ∷ 2 ∷ 1 ∷ 0 ∷ [])
    -- the nodes: word 5 of each, five words before it and 258 behind it
    ++ zeros 5 ++ (7 ∷ zeros 258) ++ zeros 5 ++ (6 ∷ zeros 258) ++ zeros 5 ++ (5 ∷ zeros 258) ++ zeros 5 ++ (4 ∷ zeros 258)
    ++ zeros 5 ++ (3 ∷ zeros 258) ++ zeros 5 ++ (2 ∷ zeros 258) ++ zeros 5 ++ (1 ∷ zeros 258) ++ zeros 5 ++ (0 ∷ zeros 258)
unfolding fresh bitmap_words
worked = refl
