-- What a region reads as: the containers by the rank table, their suffixes, and the container free stack. Assumes nothing.
use Rattle.std.specs.Prelude.{ℕ, ◌-◌, cond, List, eqb}
use Rattle.lists.specs.Lists.{up_to, down_from}
use Rattle.model.specs.Words.{bytes_of}
use Rattle.model.specs.Reading.{Container, Reading}
use Rattle.region.specs.Areas.{Numbers, numbers}
use Rattle.region.specs.Tries.{members}
use Rattle.region.specs.Seen.{Seen, seen}

-- the suffixes in slot c: of a trie ascending, of a vector as stored
unfoldable pub suffixes : Numbers → Seen → ℕ → List ℕ
suffixes g v c = cond (eqb (v.kind c) 2) (members v.node (bytes_of g.S) (v.link c)) (up_to (v.entry c) (v.size c))

-- the container in slot c
abbrev pub container : Numbers → Seen → ℕ → Container
container g v c = record { prefix = v.prefix c; slot = c; suffixes = suffixes g v c }

-- the first k places of the rank table hold the containers in use; the first C-k places of the free stack the free slots, the last of them handed out next
unfoldable pub read : Numbers → Seen → Reading
read g v =
    record {
      P = g.P;
      S = g.S;
      C = g.C;
      N = g.N;
      containers = up_to (λ r. container g v (v.slot r)) g.k;
      free = down_from v.free (g.C - g.k);
    }

-- what a region reads as, by the numbers of its own header
unfoldable pub reading : List ℕ → Reading
reading l = read (numbers l) (seen (numbers l) l)
