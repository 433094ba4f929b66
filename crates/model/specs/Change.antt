-- Document 01, "Kind, order and room": what insert and remove make of a reading, stored order and slots included. Assumes nothing.
use Rattle.std.specs.Prelude.{Bool, true, false, cond, not, List, [], ◌∷◌, ◌++◌, ℕ, eqb, ltb}
use Rattle.lists.specs.Lists.{keep, without, sorted}
use Rattle.model.specs.Words.{prefix_of, suffix_of}
use Rattle.model.specs.Room.{is_trie}
use Rattle.model.specs.Reading.{Container, Reading, has, under}

-- the suffixes of a trie stand ascending, those of a vector as they are
abbrev pub settled : List ℕ → List ℕ
settled ss = cond (is_trie ss) (sorted ss) ss

-- insert appends to a vector; at 1,025 it becomes a trie, and a trie stays ascending
abbrev pub added : ℕ → List ℕ → List ℕ
added s ss = settled (ss ++ (s ∷ []))

-- x behind the first entry
abbrev pub second : ℕ → List ℕ → List ℕ
second x [] = x ∷ []
second x (y ∷ ys) = y ∷ x ∷ ys

-- the last entry moved to the front
abbrev pub last_first : List ℕ → List ℕ
last_first [] = []
last_first (x ∷ xs) = second x (last_first xs)

-- remove moves the last entry of a vector into the hole that s leaves
abbrev pub swap_out : ℕ → List ℕ → List ℕ
swap_out s [] = []
swap_out s (x ∷ xs) = cond (eqb s x) (last_first xs) (x ∷ swap_out s xs)

-- a suffix taken out: of a trie the order stays, so that on falling to 1,024 it becomes a vector in ascending order
abbrev pub taken : ℕ → List ℕ → List ℕ
taken s ss = cond (is_trie ss) (without s ss) (swap_out s ss)

-- the suffixes under p become ss; where p has no container it gets one, with slot t, at its place
abbrev pub placed : ℕ → ℕ → List ℕ → List Container → List Container
placed p t ss [] = record { prefix = p; slot = t; suffixes = ss } ∷ []
placed p t ss (c ∷ cs) =
    let new : Container = record { prefix = p; slot = t; suffixes = ss } in
    let same : Container = record { prefix = p; slot = c.slot; suffixes = ss } in
    cond (ltb p c.prefix) (new ∷ c ∷ cs) (cond (eqb p c.prefix) (same ∷ cs) (c ∷ placed p t ss cs))

-- the containers without the one of p
abbrev pub dropped : ℕ → List Container → List Container
dropped p cs = keep (λ c. not (eqb p c.prefix)) cs

-- the slot of p's container
abbrev pub slot_of : ℕ → List Container → ℕ
slot_of p [] = 0
slot_of p (c ∷ cs) = cond (eqb p c.prefix) c.slot (slot_of p cs)

-- the slot that is handed out next, and those behind it
abbrev pub top : List ℕ → ℕ
top [] = 0
top (x ∷ xs) = x

abbrev pub rest : List ℕ → List ℕ
rest [] = []
rest (x ∷ xs) = xs

-- whether no suffix is there
abbrev pub is_none : List ℕ → Bool
is_none [] = true
is_none (x ∷ xs) = false

-- other containers and another free stack, the header's four numbers as before
abbrev pub with : Reading → List Container → List ℕ → Reading
with r cs fs = record { P = r.P; S = r.S; C = r.C; N = r.N; containers = cs; free = fs }

-- insert: a member changes nothing; a new prefix takes the slot that is handed out next
unfoldable pub insert : ℕ → Reading → Reading
insert w r =
    let p = prefix_of r.S w in
    let old = under p r.containers in
    let grown = placed p (top r.free) (added (suffix_of r.S w) old) r.containers in
    let free = cond (is_none old) (rest r.free) r.free in
    cond (has r w) r (with r grown free)

-- remove: no member changes nothing; removing the last suffix frees the container, and the next new prefix takes the slot freed last
unfoldable pub remove : ℕ → Reading → Reading
remove w r =
    let p = prefix_of r.S w in
    let left = taken (suffix_of r.S w) (under p r.containers) in
    let freed = with r (dropped p r.containers) (slot_of p r.containers ∷ r.free) in
    let shrunk = with r (placed p 0 left r.containers) r.free in
    cond (has r w) (cond (is_none left) freed shrunk) r
