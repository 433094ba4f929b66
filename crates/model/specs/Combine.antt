-- Document 01, "Kind, order and room": the four combinations of two sets into a third. Assumes nothing.
use Rattle.std.specs.Prelude.{Bool, true, false, not, List, ◌++◌, map, ℕ, zero, suc, leb}
use Rattle.lists.specs.Lists.{keep}
use Rattle.model.specs.Reading.{Reading, walk, has, empty}
use Rattle.model.specs.Commands.{Code, Command, Run, run}

-- union, intersection, difference and symmetric difference
pub data Op : Type 0 where
  Or And Minus Xor : Op

-- codes 0 or, 1 and, 2 minus, 3 xor; no other is known
abbrev pub known_op : ℕ → Bool
known_op c = leb c 3

-- the combination of a known number
abbrev pub op_of : ℕ → Op
op_of zero = Op.Or
op_of (suc zero) = Op.And
op_of (suc (suc zero)) = Op.Minus
op_of (suc (suc (suc n))) = Op.Xor

-- a word qualifies when it belongs to the result: a word of a, by whether b has it
abbrev pub from_a : Op → Bool → Bool
from_a Or in_b = true
from_a And in_b = in_b
from_a Minus in_b = not in_b
from_a Xor in_b = not in_b

-- and a word of b, by whether a has it: minus and and take words from a only
abbrev pub from_b : Op → Bool → Bool
from_b Or in_a = true
from_b And in_a = false
from_b Minus in_a = false
from_b Xor in_a = not in_a

-- a's qualifying words in a's walk order, then b's in b's
unfoldable pub chosen : Op → Reading → Reading → List ℕ
chosen o a b = keep (λ w. from_a o (has b w)) (walk a) ++ keep (λ w. from_b o (has a w)) (walk b)

-- the commands that insert some words
abbrev pub inserting : List ℕ → List Command
inserting ws = map (λ w. record { code = Code.Insert; word = w }) ws

-- the destination starts from a fresh set with its own C and N, then takes the words
unfoldable pub combine : Op → Reading → Reading → ℕ → ℕ → Run
combine o a b C N = run (inserting (chosen o a b)) (empty a.P a.S C N)
