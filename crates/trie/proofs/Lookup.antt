-- What a walk down a trie tells: where it stops, the bit there says whether the suffix is a member. Assumes nothing.
use Prim.Native.Nat.{ℕ, ◌+◌, ◌*◌, ◌^◌, ◌≤◌, ◌<◌}
use mathlib.Core.Path.{◌≡◌, refl, sym, ap, ap₂, ◌∙◌, subst}
use mathlib.Core.Bool.{Bool, true, false}
use mathlib.Core.List.{List}
use native.Mathlib.Omega.{arith}
use native.Mathlib.Numerals.{add-one}
use native.Mathlib.Decide.{dec_lt}
use lib.Dec.{eqb}
use borrow.Author.Tests.{eqb-true, eqb-false}
use Rattle.lists.specs.Lists.{mem}
use Rattle.lists.proofs.Laws.{not-true-false}
use Rattle.region.specs.Nodes.{Nodes}
use Rattle.region.specs.Tries.{byte_of, members, follow}
use Rattle.region.specs.Linked.{Wf}
use Rattle.region.proofs.Bytes.{byte-lt}
use Rattle.region.proofs.Paths.{At, reach, follow-ext, path-ext}
use Rattle.region.proofs.Listing.{path-member, member-path}
use Rattle.arena.specs.Arena.{nodes_in, Root}
use Rattle.arena.proofs.Stays.{root-at, below_suc}
use Rattle.trie.specs.Walked.{Walked}

pub is_byte : (b s j x : ℕ) → x ≡ byte_of b s j → x < 256
is_byte b s j x e = rw e (byte-lt b s j)

-- a bit that a test finds set, and one that it finds clear
pub set-bit : (N : ℕ) (l : List ℕ) (n x y : ℕ) (r : Bool) → x ≡ y → r ≡ eqb ((nodes_in N l).bit n x) 1 → r ≡ true → (nodes_in N l).bit n y ≡ 1
set-bit N l n x y r q e h = ap ((nodes_in N l).bit n) (sym q) ∙ eqb-true ((nodes_in N l).bit n x) 1 (sym e ∙ h)

pub clear-bit : (N : ℕ) (l : List ℕ) (n x y : ℕ) (r : Bool) → x ≡ y → r ≡ eqb ((nodes_in N l).bit n x) 1 → r ≡ false → (nodes_in N l).bit n y ≡ 0
clear-bit N l n x y r q e h = let ne = eqb-false ((nodes_in N l).bit n x) 1 (sym e ∙ h) in ap ((nodes_in N l).bit n) (sym q) ∙ omega arith

pub start : (v : Nodes) (root s b : ℕ) → 1 ≤ b → Walked v root s b root 0
start v root s b h = record { small = h; at = refl; path = λ i l. absurd (omega arith) }

pub there : {v : Nodes} {N root s b n j : ℕ} → Wf v N b → Root v N root → Walked v root s b n j → At v N j n
there {v} {N} {root} {s} {b} {n} {j} wf rt w = subst (At v N j) (sym w.at) (reach v N b wf.down root (byte_of b s) (root-at rt) (byte-lt b s) j w.small w.path)

-- a suffix with the same leading bytes leads to the same node
pub walked_as : {v : Nodes} {root s b n j : ℕ} → Walked v root s b n j → (t : ℕ) → ((i : ℕ) → i < j → byte_of b s i ≡ byte_of b t i) → Walked v root t b n j
walked_as {v} {root} {s} {b} {n} {j} w t e = record {
  small = w.small;
  at = w.at ∙ follow-ext v root (byte_of b s) (byte_of b t) j e;
  path = path-ext v root (byte_of b s) (byte_of b t) j e w.path;
}

-- the bit where the leading bytes of a member lead is set
pub next_bit : {v : Nodes} {root s b n j : ℕ} → Walked v root s b n j → mem s (members v b root) ≡ true → (x : ℕ) → x ≡ byte_of b s j → v.bit n x ≡ 1
next_bit {v} {root} {s} {b} {n} {j} w m x e = ap₂ v.bit w.at e ∙ member-path v b root s m j w.small

module _ {v : Nodes} {root s b n j : ℕ} (w : Walked v root s b n j) where
  -- one step more
  pub more : (x c : ℕ) → x ≡ byte_of b s j → v.bit n x ≡ 1 → c ≡ v.child n x → j + 1 < b → Walked v root s b c (j + 1)
  more x c ex e ec h =
      subst (Walked v root s b c) (sym (add-one j)) record {
        small = omega arith;
        at = ec ∙ ap₂ v.child w.at ex;
        path = below_suc (λ i. v.bit (follow v root (byte_of b s) i) (byte_of b s i) ≡ 1) j w.path (sym (ap₂ v.bit w.at ex) ∙ e);
      }

  -- its bit is clear
  pub missed : v.bit n (byte_of b s j) ≡ 0 → mem s (members v b root) ≡ false
  missed e = not-true-false (mem s (members v b root)) (λ m.
      let z : ◌≡◌ {A = ℕ} 1 0 = sym (member-path v b root s m j w.small) ∙ ap (λ (u : ℕ). v.bit u (byte_of b s j)) (sym w.at) ∙ e in omega arith)

  -- its bit is set, at the last level
  pub found : s < 2 ^ (8 * b) → v.bit n (byte_of b s j) ≡ 1 → b ≤ j + 1 → mem s (members v b root) ≡ true
  found hs e h = path-member v b root s hs (λ i l.
      below_suc (λ i. v.bit (follow v root (byte_of b s) i) (byte_of b s i) ≡ 1) j w.path (ap (λ (u : ℕ). v.bit u (byte_of b s j)) (sym w.at) ∙ e) i (omega arith))

  -- a bit that is set where a walk stops is at the last level
  pub last-level : (j + 1 < b → v.bit n (byte_of b s j) ≡ 0) → v.bit n (byte_of b s j) ≡ 1 → b ≤ j + 1
  last-level cl e = pick (dec_lt (j + 1) b)
    where
      pick : Dec (j + 1 < b) → b ≤ j + 1
      pick (yes h) = let z : ◌≡◌ {A = ℕ} 1 0 = sym e ∙ cl h in absurd (omega arith)
      pick (no h) = omega arith

-- the answer of a lookup
pub answer : (N : ℕ) (l : List ℕ) (root s b n j x : ℕ) (r : Bool) → Walked (nodes_in N l) root s b n j → s < 2 ^ (8 * b) → x ≡ byte_of b s j
    → (j + 1 < b → (nodes_in N l).bit n (byte_of b s j) ≡ 0) → r ≡ eqb ((nodes_in N l).bit n x) 1 → r ≡ mem s (members (nodes_in N l) b root)
answer N l root s b n j x true w hs ex cl e = let one = set-bit N l n x (byte_of b s j) true ex e refl in sym (found w hs one (last-level w cl one))
answer N l root s b n j x false w hs ex cl e = sym (missed w (clear-bit N l n x (byte_of b s j) false ex e refl))
