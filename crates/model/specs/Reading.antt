-- What a region reads as (document 01, "Judging the promises"): header, members, stored order, container slots, and the container free stack.
-- Kind is no field: a container is a trie exactly when it holds more than 1,024 suffixes. The header's counts are functions of the reading. Assumes nothing.
use Rattle.std.specs.Prelude.{Bool, cond, List, [], ◌∷◌, ◌++◌, map, ℕ, eqb, length}
use Rattle.lists.specs.Lists.{mem, up_from}
use Rattle.model.specs.Words.{joined}
use Rattle.model.specs.Room.{nodes_needed}

-- a container in use: its prefix, its slot, its suffixes in stored order (those of a trie ascending)
pub record Container : Type 0 where
  pub prefix : ℕ
  pub slot : ℕ
  pub suffixes : List ℕ

-- the header's four numbers, the containers by ascending prefix, and the free container slots, the one that is handed out next first
pub record Reading : Type 0 where
  pub P : ℕ
  pub S : ℕ
  pub C : ℕ
  pub N : ℕ
  pub containers : List Container
  pub free : List ℕ

-- the words of a container, in stored order
abbrev pub container_words : ℕ → Container → List ℕ
container_words S c = map (joined S c.prefix) c.suffixes

-- the words of some containers, one container after the other
abbrev pub words_of : ℕ → List Container → List ℕ
words_of S [] = []
words_of S (c ∷ cs) = container_words S c ++ words_of S cs

-- walk order: prefixes ascending; in a vector, stored order; in a trie, ascending
unfoldable pub walk : Reading → List ℕ
walk r = words_of r.S r.containers

-- a word is a member when the walk meets it
unfoldable pub has : Reading → ℕ → Bool
has r w = mem w (walk r)

-- the member count
unfoldable pub count : Reading → ℕ
count r = length (walk r)

-- containers in use
unfoldable pub containers_in_use : Reading → ℕ
containers_in_use r = length r.containers

-- nodes in use: those that the members need
unfoldable pub nodes_in_use : Reading → ℕ
nodes_in_use r = nodes_needed r.S (walk r)

-- what a fresh region reads as: no member, and slots handed out from 0 up
unfoldable pub empty : ℕ → ℕ → ℕ → ℕ → Reading
empty P S C N = record { P = P; S = S; C = C; N = N; containers = []; free = up_from 0 C }

-- the suffixes that stand under a prefix, in stored order; none where it has no container
abbrev pub under : ℕ → List Container → List ℕ
under p [] = []
under p (c ∷ cs) = cond (eqb p c.prefix) c.suffixes (under p cs)

-- the prefixes of some containers, and their slots
abbrev pub prefixes_of : List Container → List ℕ
prefixes_of cs = map (λ c. c.prefix) cs

abbrev pub slots_of : List Container → List ℕ
slots_of cs = map (λ c. c.slot) cs
