-- The plain set of whole numbers that demand 2 speaks of, by its membership test, and what commands and combinations do to it. Assumes nothing.
use Rattle.std.specs.Prelude.{Bool, true, false, cond, not, ◌&&◌, ◌||◌, List, [], ◌∷◌, ℕ, eqb}
use Rattle.model.specs.Commands.{Code, Command, answer}
use Rattle.model.specs.Commands.Code.{Lookup, Insert, Remove}
use Rattle.model.specs.Combine.{Op}
use Rattle.model.specs.Combine.Op.{Or, And, Minus, Xor}

-- a plain set: which numbers are members
abbrev pub PlainSet : Type 0
PlainSet = ℕ → Bool

-- whether a word is a member after a command on it
abbrev pub after : Code → Bool → Bool
after Lookup member = member
after Insert member = true
after Remove member = false

-- a command changes the membership of its own word alone
abbrev pub plain_step : Command → PlainSet → PlainSet
plain_step c A v = cond (eqb v c.word) (after c.code (A v)) (A v)

-- the answers of a list
abbrev pub plain_answers : List Command → PlainSet → List ℕ
plain_answers [] A = []
plain_answers (c ∷ cs) A = answer c.code (A c.word) ∷ plain_answers cs (plain_step c A)

-- the set after a list
abbrev pub plain_end : List Command → PlainSet → PlainSet
plain_end [] A = A
plain_end (c ∷ cs) A = plain_end cs (plain_step c A)

-- union, intersection, difference and symmetric difference, for one word
abbrev pub plain_op : Op → Bool → Bool → Bool
plain_op Or x y = x || y
plain_op And x y = x && y
plain_op Minus x y = x && not y
plain_op Xor x y = (x && not y) || (y && not x)

-- and for sets
abbrev pub plain_combine : Op → PlainSet → PlainSet → PlainSet
plain_combine o A B w = plain_op o (A w) (B w)
