-- Members side by side that share a node of the last level: each but the last loses its bit there, and the node keeps the bit of the next. Assumes nothing.
use Prim.Native.Nat.{ℕ, suc, ◌+◌, ◌-◌, ◌*◌, ◌/◌, ◌^◌, ◌≤◌, ◌<◌}
use mathlib.Core.Path.{◌≡◌, refl, sym, ◌∙◌}
use mathlib.Core.Bool.{true}
use mathlib.Core.List.{List}
use native.Mathlib.Omega.{arith}
use lib.Dec.{eqb}
use lib.ListN.{length, drop, get_or}
use lib.Seq.{drop-cons}
use Rattle.lists.specs.Lists.{mem}
use Rattle.lists.proofs.Laws.{or_left, eqb-self}
use Rattle.region.specs.Nodes.{Nodes}
use Rattle.region.specs.Tries.{byte_of, members}
use Rattle.region.specs.WellFormed.{NonEmpty}
use Rattle.region.proofs.Bytes.{byte-lt, lead-same}
use Rattle.region.proofs.Listing.{member-small}
use Rattle.arena.specs.Arena.{nodes_in}
use Rattle.arena.specs.Changes.{SpareStays, BitMade}
use Rattle.trie.specs.Walked.{Walked}
use Rattle.trie.proofs.Lookup.{walked_as, next_bit}
use Rattle.trie.proofs.Shrinking as shrinking
use Rattle.trie_pour.proofs.Reaping.{Reaped, least, rest, reaped-more}

-- a member with the same leading bytes is in the same node
same-node : {v : Nodes} {root s b n : ℕ} → Walked v root s b n (b - 1) → (t : ℕ) → t / 256 ≡ s / 256 → Walked v root t b n (b - 1)
same-node {s = s} {b = b} w t e = walked_as w t (λ i h. lead-same b 1 s t i (omega arith) (sym e) h)

-- the members from k on are left, node holds the one at k and the next, and used nodes are in use still
pub record Run (N b used : ℕ) (l₀ : List ℕ) (root : ℕ) (out : List ℕ) (i node head k : ℕ) (l : List ℕ) : Type 0 where
  pub reaped : Reaped N b used l₀ root out k used l
  pub after : i ≤ k
  pub next : k + 1 < length out
  pub here : get_or out k 0 / 256 ≡ head
  pub there : get_or out (k + 1) 0 / 256 ≡ head
  pub walked : Walked (nodes_in N l) root (get_or out k 0) b node (b - 1)

pub run-start : (N b used : ℕ) (l : List ℕ) (root : ℕ) (out : List ℕ) (i node head : ℕ) → Reaped N b used l root out i used l → i + 1 < length out → get_or out (i + 1) 0 / 256 ≡ get_or out i 0 / 256 → head ≡ get_or out i 0 / 256
    → Walked (nodes_in N l) root (get_or out i 0) b node (b - 1) → Run N b used l root out i node head i l
run-start N b used l root out i node head g h e eh w = record { reaped = g; after = omega arith; next = h; here = sym eh; there = e ∙ sym eh; walked = w }

-- the bit of the one at k is cleared
module _ {N b used : ℕ} {l₀ : List ℕ} {root : ℕ} {out : List ℕ} {i node head k : ℕ} {l : List ℕ} (g : Run N b used l₀ root out i node head k l)
    (y : ℕ) (l' : List ℕ) (ey : y ≡ byte_of b (get_or out k 0) (b - 1)) (made : BitMade (nodes_in N l) node y 0 (nodes_in N l')) (keep : SpareStays N l l') (el : length l' ≡ length l) where
  abbrev s : ℕ
  s = get_or out k 0

  small : s < 2 ^ (8 * b)
  small = member-small (nodes_in N l) b root s (least g.reaped)

  both : shrinking.Cleared N b l l' root s × shrinking.Shrinking N b used l' root s used l' node (b - 1)
  both =
      shrinking.start N used l root s node (b - 1) l' y b (omega (arith, g.walked.small)) g.reaped.now.arena g.reaped.now.root small
      g.walked ey (next_bit g.walked (least g.reaped) y ey) made keep el

  abbrev t : ℕ
  t = get_or out (k + 1) 0

  next-there : mem t (members (nodes_in N l') b root) ≡ true
  next-there =
      rw (both.0.suffixes ∙ rest g.reaped ∙ drop-cons out (k + 1) 0 g.next)
      (or_left (eqb t t) (mem t (drop (suc (k + 1)) out)) (eqb-self t))

  next-walked : Walked (nodes_in N l') root t b node (b - 1)
  next-walked = same-node both.1.state.walked t (g.there ∙ sym g.here)

  -- the node keeps the bit of the next
  some : NonEmpty (nodes_in N l') node
  some = record { at = byte_of b t (b - 1); small = byte-lt b t (b - 1); is_set = next_bit next-walked next-there (byte_of b t (b - 1)) refl }

  pub run_on : Reaped N b used l₀ root out (k + 1) used l'
  run_on = reaped-more g.reaped g.next used l' (shrinking.gone both.1 small both.0 some).1

  pub run_more : k + 1 + 1 < length out → get_or out (k + 1 + 1) 0 / 256 ≡ head → Run N b used l₀ root out i node head (k + 1) l'
  run_more h e = record { reaped = run_on; after = omega (arith, g.after); next = h; here = g.there; there = e; walked = next-walked }
