-- Document 01, "The region": what the areas say, as functions of places. Past the end of an area they say 0. Assumes nothing.
use Rattle.std.specs.Prelude.{ℕ, ◌+◌, ◌*◌, List, get_or}
use Rattle.region.specs.Geometry.{record_words, strip_words}
use Rattle.region.specs.Bits.{bit}
use Rattle.region.specs.Areas.{Numbers, bitmap, ranks, stack, records, entries, node_stack, nodes}
use Rattle.region.specs.Nodes.{Nodes, nodes_of}

-- the areas, place by place
pub record Seen : Type 0 where
  -- bit p of the prefix bitmap
  pub bit : ℕ → ℕ
  -- place r of the rank table
  pub slot : ℕ → ℕ
  -- place i of the container free stack
  pub free : ℕ → ℕ
  -- record of slot c: kind (0 free, 1 vector, 2 trie), prefix, length, link (trie: root node; free: place in the free stack)
  pub kind : ℕ → ℕ
  pub prefix : ℕ → ℕ
  pub size : ℕ → ℕ
  pub link : ℕ → ℕ
  -- entry i of slot c
  pub entry : ℕ → ℕ → ℕ
  -- place i of the node free stack
  pub spare : ℕ → ℕ
  -- the nodes
  pub node : Nodes

-- what seven areas say
abbrev pub seen_of : List ℕ → List ℕ → List ℕ → List ℕ → List ℕ → List ℕ → List ℕ → Seen
seen_of bm rk st rec ent nst nod =
    record {
      bit = λ p. bit bm p;
      slot = λ r. get_or rk r 0;
      free = λ i. get_or st i 0;
      kind = λ c. get_or rec (record_words * c) 0;
      prefix = λ c. get_or rec (record_words * c + 1) 0;
      size = λ c. get_or rec (record_words * c + 2) 0;
      link = λ c. get_or rec (record_words * c + 3) 0;
      entry = λ c i. get_or ent (strip_words * c + i) 0;
      spare = λ i. get_or nst i 0;
      node = nodes_of nod;
    }

-- what a region's areas say, where its header bears the numbers g
unfoldable pub seen : Numbers → List ℕ → Seen
seen g l = seen_of (bitmap g l) (ranks g l) (stack g l) (records g l) (entries g l) (node_stack g l) (nodes g l)
