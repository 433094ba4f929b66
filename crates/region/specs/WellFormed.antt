-- Document 01, "The region": when a slice of words is a well-formed region. Every line stands under the document's words, in its order.
-- What is not named for a kind is not looked at: specs/LookedAt says what is, and proofs/Looked that nothing else matters. Assumes nothing.
use Rattle.std.specs.Prelude.{ℕ, suc, ◌-◌, ◌*◌, ◌^◌, ◌<◌, ◌≤◌, min, ◌≡◌, ◌≢◌, true, List, length, get_or}
use Rattle.lists.specs.Lists.{mem}
use Rattle.lists.specs.Sums.{sum}
use Rattle.model.specs.Words.{bytes_of}
use Rattle.model.specs.Room.{threshold}
use Rattle.model.specs.Reading.{walk}
use Rattle.region.specs.Ranges.{form, good_numbers}
use Rattle.region.specs.Geometry.{header_words, bitmap_words, off_bitmap, off_ranks, off_stack, off_records, off_entries, off_node_stack, off_nodes, total}
use Rattle.region.specs.Bits.{rank_in}
use Rattle.region.specs.Areas.{Numbers, numbers}
use Rattle.region.specs.Nodes.{Nodes}
use Rattle.region.specs.Tries.{byte_of, members, follow, Path}
use Rattle.region.specs.Seen.{Seen, seen}
use Rattle.region.specs.Read.{read}

-- the header keeps the numbers above and the offsets follow from it
pub record Header (l : List ℕ) (g : Numbers) : Type 0 where
  pub form-is : get_or l 0 0 ≡ form
  pub ranges : good_numbers g.P g.S g.C g.N ≡ true
  pub bitmap : get_or l 8 0 ≡ off_bitmap
  pub ranks : get_or l 9 0 ≡ off_ranks g.P
  pub stack : get_or l 10 0 ≡ off_stack g.P g.C
  pub records : get_or l 11 0 ≡ off_records g.P g.C
  pub entries : get_or l 12 0 ≡ off_entries g.P g.C
  pub node-stack : get_or l 13 0 ≡ off_node_stack g.P g.C
  pub nodes : get_or l 14 0 ≡ off_nodes g.P g.C g.N
  pub total-length : get_or l 15 0 ≡ total g.P g.C g.N

-- node n's map is not empty
pub record NonEmpty (v : Nodes) (n : ℕ) : Type 0 where
  pub at : ℕ
  pub small : at < 256
  pub is_set : v.bit n at ≡ 1

-- m is one of N nodes, one level below level l, and its back link is to byte x of n
pub record Child (v : Nodes) (N l n x m : ℕ) : Type 0 where
  pub in-range : m < N
  pub level : v.level1 m ≡ suc (suc l)
  pub parent : v.parent m ≡ n
  pub byte : v.byte m ≡ x

-- every node in use, of N, has a map that is not empty
abbrev pub AllNonEmpty : Nodes → ℕ → Type 0
AllNonEmpty v N = (n : ℕ) → n < N → v.level1 n ≢ 0 → NonEmpty v n

-- in tries of b levels, every set bit above the last level has a child one level down and its back link
abbrev pub Children : Nodes → ℕ → ℕ → Type 0
Children v N b = (l n x : ℕ) → n < N → v.level1 n ≡ suc l → suc l < b → x < 256 → v.bit n x ≡ 1 → Child v N l n x (v.child n x)

-- place i of the node free stack holds a free node, of N, that is linked to i
pub record SpareNode (N : ℕ) (spare : ℕ → ℕ) (v : Nodes) (i : ℕ) : Type 0 where
  pub in-range : spare i < N
  pub is_free : v.level1 (spare i) ≡ 0
  pub place : v.parent (spare i) ≡ i

-- node n stands among the first free places of the node free stack, at the one that it is linked to
pub record StackedNode (free : ℕ) (spare : ℕ → ℕ) (v : Nodes) (n : ℕ) : Type 0 where
  pub in-range : v.parent n < free
  pub there : spare (v.parent n) ≡ n

-- how many of N nodes are in use
abbrev pub nodes_used : Nodes → ℕ → ℕ
nodes_used v N = sum (λ n. min 1 (v.level1 n)) N

module _ (g : Numbers) (v : Seen) where
  -- rank counts strictly smaller prefixes
  abbrev pub rank_of : ℕ → ℕ
  rank_of p = rank_in v.bit p

  -- slot c is in use and bears the prefix p
  pub record Bears (p c : ℕ) : Type 0 where
    pub in-range : c < g.C
    pub in_use : v.kind c ≢ 0
    pub prefix : v.prefix c ≡ p

  -- slot c's prefix is set, and c stands at its rank
  pub record Ranked (c : ℕ) : Type 0 where
    pub in-range : v.prefix c < 2 ^ g.P
    pub is_set : v.bit (v.prefix c) ≡ 1
    pub there : v.slot (rank_of (v.prefix c)) ≡ c

  -- prefixes, ranks and records
  pub record Placed : Type 0 where
    -- bitmap bits from 2^P on are zero
    pub past : (p : ℕ) → 2 ^ g.P ≤ p → p < 64 * bitmap_words g.P → v.bit p ≡ 0
    -- k prefixes are set
    pub prefixes : rank_of (2 ^ g.P) ≡ g.k
    -- each borne by the record at its rank
    pub borne : (p : ℕ) → p < 2 ^ g.P → v.bit p ≡ 1 → Bears p (v.slot (rank_of p))
    -- the one record: any record in use stands at the rank of its own prefix
    pub ranked : (c : ℕ) → c < g.C → v.kind c ≢ 0 → Ranked c
    -- kind: 0 free, 1 vector, 2 trie
    pub kinds : (c : ℕ) → c < g.C → v.kind c ≤ 2

  -- a vector has 1 to 1,024 distinct suffixes below 2^S
  pub record Vector (c : ℕ) : Type 0 where
    pub some : 1 ≤ v.size c
    pub few : v.size c ≤ threshold
    pub distinct : (i j : ℕ) → i < j → j < v.size c → v.entry c i ≢ v.entry c j
    pub small : (i : ℕ) → i < v.size c → v.entry c i < 2 ^ g.S

  -- a trie has more than 1,024, all below 2^S, its root at level 0 with the container in word 5; its stored length is true
  pub record Trie (c : ℕ) : Type 0 where
    pub many : threshold < v.size c
    pub small : (s : ℕ) → mem s (members v.node (bytes_of g.S) (v.link c)) ≡ true → s < 2 ^ g.S
    pub root-in-range : v.link c < g.N
    pub root-level : v.node.level1 (v.link c) ≡ 1
    pub root-back : v.node.parent (v.link c) ≡ c
    pub true-size : v.size c ≡ length (members v.node (bytes_of g.S) (v.link c))

  -- what the containers hold
  pub record Held : Type 0 where
    pub vector : (c : ℕ) → c < g.C → v.kind c ≡ 1 → Vector c
    pub trie : (c : ℕ) → c < g.C → v.kind c ≡ 2 → Trie c

  -- a path to node n: from the root of the trie in a slot, by a string of fewer than b bytes
  pub record Reached (n : ℕ) : Type 0 where
    pub slot : ℕ
    pub in-range : slot < g.C
    pub is-trie : v.kind slot ≡ 2
    pub len : ℕ
    pub short : len < bytes_of g.S
    pub string : ℕ
    pub small : string < 2 ^ (8 * len)
    pub path : Path v.node (v.link slot) (byte_of len string) len
    pub there : follow v.node (v.link slot) (byte_of len string) len ≡ n

  -- reached from one root by one path
  pub record OnePath (n : ℕ) : Type 0 where
    pub way : Reached n
    pub slot : (r : Reached n) → r.slot ≡ way.slot
    pub len : (r : Reached n) → r.len ≡ way.len
    pub string : (r : Reached n) → r.string ≡ way.string

  -- how the nodes hang together
  pub record Hung : Type 0 where
    -- every used node is reached from one root by one path
    pub reached : (n : ℕ) → n < g.N → v.node.level1 n ≢ 0 → OnePath n
    -- every node's map is non-empty
    pub non-empty : AllNonEmpty v.node g.N
    -- every set bit above the last level has a child one level down and its back link
    pub children : Children v.node g.N (bytes_of g.S)

  -- place i of the container free stack holds a free slot that is linked to i
  pub record FreeSlot (i : ℕ) : Type 0 where
    pub in-range : v.free i < g.C
    pub is_free : v.kind (v.free i) ≡ 0
    pub place : v.link (v.free i) ≡ i

  -- slot c stands among the first C-k places, at the one that it is linked to
  pub record Stacked (c : ℕ) : Type 0 where
    pub in-range : v.link c < g.C - g.k
    pub there : v.free (v.link c) ≡ c

  -- all other slots are free, once in the stack and linked to that place
  pub record Stacks : Type 0 where
    pub free-slots : (i : ℕ) → i < g.C - g.k → FreeSlot i
    pub stacked : (c : ℕ) → c < g.C → v.kind c ≡ 0 → Stacked c
    pub spare-nodes : (i : ℕ) → i < g.N - g.used → SpareNode g.N v.spare v.node i
    pub stacked-nodes : (n : ℕ) → n < g.N → v.node.level1 n ≡ 0 → StackedNode (g.N - g.used) v.spare v.node n

  -- the three counts are true (that of containers is Placed's prefixes)
  pub record Counts : Type 0 where
    pub used-true : nodes_used v.node g.N ≡ g.used
    pub count-true : length (walk (read g v)) ≡ g.count

  -- what the areas keep
  pub record Shape : Type 0 where
    pub placed : Placed
    pub held : Held
    pub hung : Hung
    pub stacks : Stacks
    pub counts : Counts

-- the areas are there
pub record Ready (l : List ℕ) : Type 0 where
  -- the slice has at least 16 words
  pub has-header : header_words ≤ length l
  -- and at least the total
  pub long : total (numbers l).P (numbers l).C (numbers l).N ≤ length l
  -- the header keeps the numbers above and the offsets follow from it
  pub header : Header l (numbers l)

-- a slice of words is a well-formed region: the areas are there, and they keep all that is said of them above
pub record WellFormed (l : List ℕ) : Type 0 where
  pub ready : Ready l
  pub shape : Shape (numbers l) (seen (numbers l) l)
