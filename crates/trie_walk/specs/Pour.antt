-- Writing a list from some place on into an output that may be too short for it. Assumes nothing.
use Rattle.std.specs.Prelude.{ℕ, zero, suc, cond, List, [], ◌∷◌, leb, ltb, length, take, drop, set}
use Rattle.lists.specs.Lists.{keep}

-- at most len values of a list, from the one with number start on
abbrev pub window : ℕ → ℕ → List ℕ → List ℕ
window start len xs = take len (drop start xs)

-- the values of a list that are not below `from`
abbrev pub not_below : ℕ → List ℕ → List ℕ
not_below from xs = keep (λ s. leb from s) xs

-- how many values are still to be passed over, the place for the next one, and the output
pub record Pour : Type 0 where
  pub skip : ℕ
  pub at : ℕ
  pub out : List ℕ

abbrev pub state : ℕ → ℕ → List ℕ → Pour
state s i o = record { skip = s; at = i; out = o }

-- the value x put in its place, if there is one
abbrev pub put_at : ℕ → ℕ → List ℕ → Pour
put_at x i o = cond (ltb i (length o)) (state 0 (suc i) (set o i x)) (state 0 i o)

-- the value x: passed over, or put in its place
abbrev pub one : ℕ → ℕ → ℕ → List ℕ → Pour
one x zero i o = put_at x i o
one x (suc s) i o = state s i o

-- the values of a list, one after the other
unfoldable pub poured : List ℕ → Pour → Pour
poured [] p = p
poured (x ∷ xs) p = poured xs (one x p.skip p.at p.out)
