-- Document 01, "What the port covers": the numbers and their ranges. Assumes nothing.
use Rattle.std.specs.Prelude.{Bool, ◌&&◌, ℕ}
use Rattle.lists.specs.Lists.{between}

-- the form that the header names
abbrev pub form : ℕ
form = 1

-- P 1 to 24
abbrev pub good_p : ℕ → Bool
good_p P = between 1 24 P

-- S 1 to 40
abbrev pub good_s : ℕ → Bool
good_s S = between 1 40 S

-- container slots C 1 to 65,536
abbrev pub good_c : ℕ → Bool
good_c C = between 1 65536 C

-- node slots N 0 to 1,048,576
abbrev pub good_n : ℕ → Bool
good_n N = between 0 1048576 N

-- every number in its range
abbrev pub good_numbers : ℕ → ℕ → ℕ → ℕ → Bool
good_numbers P S C N = good_p P && good_s S && good_c C && good_n N

-- at most 4,096 commands in a list
abbrev pub longest : ℕ
longest = 4096
