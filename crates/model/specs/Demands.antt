-- Demands 2 and 3 of the request, on readings: what a run and a combination are to be, over the plain set. Assumes nothing.
use Rattle.std.specs.Prelude.{◌≡◌, Bool, true, false, cond, not, List, [], ◌∷◌, ◌++◌, map, ℕ, ◌+◌, ◌^◌, ◌<◌, eqb, take, drop}
use Rattle.lists.specs.Lists.{mem, keep, different, Distinct, Every}
use Rattle.model.specs.Room.{fits}
use Rattle.model.specs.Reading.{Reading, walk, has, count, containers_in_use, nodes_in_use}
use Rattle.model.specs.Commands.{Code, Command, Run, is_insert, is_remove, run, place}
use Rattle.model.specs.Combine.{Op, chosen}
use Rattle.model.specs.Plain.{plain_answers, plain_end, plain_combine}

-- Demand 2

-- every word of the list is below 2^(P+S)
abbrev pub WordsInRange : ℕ → List Command → Type 0
WordsInRange bits cs = Every (λ c. c.word < 2 ^ bits) cs

-- the header's four numbers stay
pub record Kept (r r' : Reading) : Type 0 where
  pub P : r'.P ≡ r.P
  pub S : r'.S ≡ r.S
  pub C : r'.C ≡ r.C
  pub N : r'.N ≡ r.N

-- how many commands of one sort answered 1: the sum of their answers
abbrev pub answered : (Code → Bool) → List Command → List ℕ → ℕ
answered t [] xs = 0
answered t (c ∷ cs) [] = 0
answered t (c ∷ cs) (x ∷ xs) = cond (t c.code) x 0 + answered t cs xs

-- the commands that were carried out: all, or those before the one that found no room
abbrev pub carried : List Command → Run → List Command
carried cs o = take (place o) cs

-- the command after the last answered one is an insert, and the set with its word would not fit
pub record StoppedForRoom (cs : List Command) (o : Run) : Type 0 where
  pub word : ℕ
  pub later : List Command
  pub here : drop (place o) cs ≡ record { code = Code.Insert; word = word } ∷ later
  pub full : fits o.reading.S o.reading.C o.reading.N (word ∷ walk o.reading) ≡ false

-- members, answers and counts are those of a plain set, for the commands that were carried out: all of them, unless one found no room
pub record AsPlain (cs : List Command) (r : Reading) (o : Run) : Type 0 where
  pub kept : Kept r o.reading
  pub answers : o.answers ≡ plain_answers (carried cs o) (has r)
  pub members : (w : ℕ) → has o.reading w ≡ plain_end (carried cs o) (has r) w
  -- member count after a list = count before + inserts answered 1 - removes answered 1
  pub counted : count o.reading + answered is_remove cs o.answers ≡ count r + answered is_insert cs o.answers
  pub whole : o.stopped ≡ false → carried cs o ≡ cs
  pub stop : o.stopped ≡ true → StoppedForRoom cs o

-- the walk has no word twice: the member count is the number of members
pub record WalkAsPlain (r : Reading) : Type 0 where
  pub once : Distinct (walk r)
  pub counted : count r ≡ different (walk r)

-- a combination: it stops exactly when the result does not fit; else its members and their count are the plain set's
pub record CombinedAsPlain (o : Op) (a b : Reading) (C N : ℕ) (d : Run) : Type 0 where
  pub result : (w : ℕ) → mem w (chosen o a b) ≡ plain_combine o (has a) (has b) w
  pub stopped : d.stopped ≡ not (fits a.S C N (chosen o a b))
  pub members : d.stopped ≡ false → (w : ℕ) → has d.reading w ≡ plain_combine o (has a) (has b) w
  pub counted : d.stopped ≡ false → count d.reading ≡ different (chosen o a b)

-- Demand 3

-- the commands on one word, in order
abbrev pub on : ℕ → List Command → List Command
on w cs = keep (λ c. eqb w c.word) cs

-- the answers to the commands on one word, in order
abbrev pub answers_on : ℕ → List Command → List ℕ → List ℕ
answers_on w [] xs = []
answers_on w (c ∷ cs) [] = []
answers_on w (c ∷ cs) (x ∷ xs) = cond (eqb w c.word) (x ∷ answers_on w cs xs) (answers_on w cs xs)

-- rearrangements of each other, each keeping the order of commands on any one word: on every word the same commands in the same order
abbrev pub Rearranged : List Command → List Command → Type 0
Rearranged xs ys = (w : ℕ) → on w xs ≡ on w ys

-- the same said by moving, and proved the same: each command of the first list is found in the second behind commands on other words only
pub data Moved : List Command → List Command → Type 0 where
  none : Moved [] []
  next : {xs : List Command} (c : Command) (ps qs : List Command) → on c.word ps ≡ [] → Moved xs (ps ++ qs) → Moved (c ∷ xs) (ps ++ (c ∷ qs))

-- the words of all insert commands, whatever they answer
abbrev pub inserted : List Command → List ℕ
inserted cs = map (λ c. c.word) (keep (λ c. is_insert c.code) cs)

-- each command gets the same answer, and both end with the same members, count, containers and nodes in use
pub record SameRun (xs ys : List Command) (o o' : Run) : Type 0 where
  pub answers : (w : ℕ) → answers_on w xs o.answers ≡ answers_on w ys o'.answers
  pub members : (w : ℕ) → has o.reading w ≡ has o'.reading w
  pub counts : count o.reading ≡ count o'.reading
  pub containers : containers_in_use o.reading ≡ containers_in_use o'.reading
  pub nodes : nodes_in_use o.reading ≡ nodes_in_use o'.reading

-- if neither stops, they come to the same; if the starting members and all words inserted fit together, neither stops
pub record Demand3OnReadings (r : Reading) (xs ys : List Command) : Type 0 where
  pub same : (run xs r).stopped ≡ false → (run ys r).stopped ≡ false → SameRun xs ys (run xs r) (run ys r)
  pub room : fits r.S r.C r.N (walk r ++ inserted xs) ≡ true → ((run xs r).stopped ≡ false) × ((run ys r).stopped ≡ false)
