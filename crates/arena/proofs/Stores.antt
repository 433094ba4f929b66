-- From a store to what it changes: a word behind the stack is one word of one node, and each other reading stays because its word does. Assumes nothing.
use Prim.Native.Nat.{ℕ, ◌+◌, ◌*◌, ◌/◌, ◌%◌, ◌^◌, ◌<◌}
use mathlib.Core.Path.{◌≡◌, sym, ap, ap₂, ◌∙◌}
use mathlib.Core.Logic.{◌≢◌}
use mathlib.Core.List.{List}
use native.Mathlib.Omega.{arith}
use native.Mathlib.Numerals.{add-one}
use native.Mathlib.Decide.{ℕ_discrete}
use lib.Count.{count_trailing_zeros}
use lib.ListN.{length, set, drop}
use lib.Seq.{get_or-set_same, get_or-set_other, get_or-drop, drop-set-lt}
use Rattle.region.specs.Bits.{word_bit}
use Rattle.region.specs.Geometry.{node_words}
use Rattle.region.specs.Nodes.{Nodes, node_word, nodes_of}
use Rattle.region.specs.WellFormed.{NonEmpty}
use Rattle.bitvector.proofs.WordLaws.{bit-zero}
use Rattle.bitvector.proofs.Search.{trailing-bit, trailing_lt}
use Rattle.arena.specs.Arena.{nodes_in}
use Rattle.arena.specs.Changes.{SpareStays, Pushed, WordPut, BitMade, ChildMade, NodeMade, Hung, Freed, Unhung}

pub word-put : (N : ℕ) (l : List ℕ) (n i a : ℕ) → length l ≡ N + node_words * N → n < N → i < node_words → WordPut N l n i a (set l (N + (n * node_words + i)) a)
word-put N l n i a e hn hi = record {
  here = get_or-drop N (set l (N + (n * node_words + i)) a) (n * node_words + i) 0 ∙ get_or-set_same l (N + (n * node_words + i)) a 0 (omega arith);
  else = λ m j hj ne. get_or-drop N (set l (N + (n * node_words + i)) a) (m * node_words + j) 0 ∙ get_or-set_other l (N + (n * node_words + i)) (N + (m * node_words + j)) a 0 (λ q. ne (omega arith, omega arith)) ∙ sym (get_or-drop N l (m * node_words + j) 0);
  spare = λ k h. get_or-set_other l (N + (n * node_words + i)) k a 0 (omega arith);
}

pub pushed : (N : ℕ) (l : List ℕ) (k f : ℕ) → length l ≡ N + node_words * N → k < N → Pushed N l k f (set l k f)
pushed N l k f e h = record { here = get_or-set_same l k f 0 (omega arith); else = λ i h ne. get_or-set_other l k i f 0 ne }

pub pushed-nodes : (N : ℕ) (l : List ℕ) (k f : ℕ) → k < N → nodes_in N (set l k f) ≡ nodes_in N l
pushed-nodes N l k f h = ap nodes_of (drop-set-lt N l k f h)

-- a word of a map that differs in one bit
pub bit-put : (N : ℕ) (l l' : List ℕ) (n x a d : ℕ) → x < 256 → word_bit a (x % 64) ≡ d
    → ((j : ℕ) → j ≢ x % 64 → word_bit a j ≡ word_bit (node_word (drop N l) n (x / 64)) j) → WordPut N l n (x / 64) a l' → BitMade (nodes_in N l) n x d (nodes_in N l')
bit-put N l l' n x a d hx e same p = record {
  here = ap (λ (q : ℕ). word_bit q (x % 64)) p.here ∙ e;
  else = λ m y hy ne. at m y hy ne (ℕ_discrete m n) (ℕ_discrete (y / 64) (x / 64));
  child = λ m y hy. p.else m (8 + y) (omega arith) (λ q. let z = q.1 in omega arith);
  level = λ m. p.else m 4 (omega arith) (λ q. let z = q.1 in omega arith);
  parent = λ m. p.else m 5 (omega arith) (λ q. let z = q.1 in omega arith);
  byte = λ m. p.else m 6 (omega arith) (λ q. let z = q.1 in omega arith);
}
  where
    at : (m y : ℕ) → y < 256 → ((m ≡ n) × (y ≡ x) → ⊥) → Dec (m ≡ n) → Dec (y / 64 ≡ x / 64) → (nodes_in N l').bit m y ≡ (nodes_in N l).bit m y
    at m y hy ne (no q) d = ap (λ (z : ℕ). word_bit z (y % 64)) (p.else m (y / 64) (omega arith) (λ z. q z.0))
    at m y hy ne (yes q) (no r) = ap (λ (z : ℕ). word_bit z (y % 64)) (p.else m (y / 64) (omega arith) (λ z. r z.1))
    at m y hy ne (yes q) (yes r) =
        ap₂ (λ (u z : ℕ). word_bit (node_word (drop N l') u z) (y % 64)) q r
        ∙ ap (λ (z : ℕ). word_bit z (y % 64)) p.here
        ∙ same (y % 64) (λ z. ne (q, omega arith))
        ∙ sym (ap₂ (λ (u z : ℕ). word_bit (node_word (drop N l) u z) (y % 64)) q r)

pub child-put : (N : ℕ) (l l' : List ℕ) (n x f : ℕ) → x < 256 → WordPut N l n (8 + x) f l' → ChildMade (nodes_in N l) n x f (nodes_in N l')
child-put N l l' n x f hx p = record {
  here = p.here;
  else = λ m y hy ne. p.else m (8 + y) (omega arith) (λ q. let z = q.1 in ne (q.0, omega arith));
  bit = λ m y hy. ap (λ (z : ℕ). word_bit z (y % 64)) (p.else m (y / 64) (omega arith) (λ q. let z = q.1 in omega arith));
  level = λ m. p.else m 4 (omega arith) (λ q. let z = q.1 in omega arith);
  parent = λ m. p.else m 5 (omega arith) (λ q. let z = q.1 in omega arith);
  byte = λ m. p.else m 6 (omega arith) (λ q. let z = q.1 in omega arith);
}

-- a map of four words that are 0 is empty
pub map-empty : (r : List ℕ) (n : ℕ) → ((i : ℕ) → i < 4 → node_word r n i ≡ 0) → (y : ℕ) → y < 256 → (nodes_of r).bit n y ≡ 0
map-empty r n h y hy = ap (λ (q : ℕ). word_bit q (y % 64)) (h (y / 64) (omega arith)) ∙ bit-zero (y % 64)

-- and one with a word that is not is not
pub map-some : (r : List ℕ) (n i : ℕ) → i < 4 → node_word r n i < 2 ^ 64 → node_word r n i ≢ 0 → NonEmpty (nodes_of r) n
map-some r n i hi fits ne =
    let small : count_trailing_zeros 64 (node_word r n i) < 64 = trailing_lt 64 (node_word r n i) (omega arith) fits in
    let word : (i * 64 + count_trailing_zeros 64 (node_word r n i)) / 64 ≡ i = omega arith in
    let place : (i * 64 + count_trailing_zeros 64 (node_word r n i)) % 64 ≡ count_trailing_zeros 64 (node_word r n i) = omega arith in
    record {
      at = i * 64 + count_trailing_zeros 64 (node_word r n i);
      small = omega arith;
      is_set = ap₂ (λ (u z : ℕ). word_bit (node_word r n u) z) word place ∙ trailing-bit 64 (node_word r n i) small;
    }

-- the seven words of a node that is made anew
module _ {N f e b x : ℕ} {l l₀ l₁ l₂ l₃ l₄ l₅ l₆ : List ℕ} (p₀ : WordPut N l f 0 0 l₀) (p₁ : WordPut N l₀ f 1 0 l₁) (p₂ : WordPut N l₁ f 2 0 l₂) (p₃ : WordPut N l₂ f 3 0 l₃)
    (p₄ : WordPut N l₃ f 4 e l₄) (p₅ : WordPut N l₄ f 5 b l₅) (p₆ : WordPut N l₅ f 6 x l₆) where
  -- a word that is none of them
  away : (m j : ℕ) → j < node_words → ((i : ℕ) → i < 7 → (m ≡ f) × (j ≡ i) → ⊥) → node_word (drop N l₆) m j ≡ node_word (drop N l) m j
  away m j h ne =
      p₆.else m j h (ne 6 (omega arith)) ∙ p₅.else m j h (ne 5 (omega arith)) ∙ p₄.else m j h (ne 4 (omega arith)) ∙ p₃.else m j h (ne 3 (omega arith))
      ∙ p₂.else m j h (ne 2 (omega arith)) ∙ p₁.else m j h (ne 1 (omega arith)) ∙ p₀.else m j h (ne 0 (omega arith))

  -- the words of its map, behind the last four stores
  last : (j : ℕ) → j < 3 → node_word (drop N l₆) f j ≡ node_word (drop N l₂) f j
  last j h =
      p₆.else f j (omega arith) (λ q. let z = q.1 in omega arith) ∙ p₅.else f j (omega arith) (λ q. let z = q.1 in omega arith)
      ∙ p₄.else f j (omega arith) (λ q. let z = q.1 in omega arith) ∙ p₃.else f j (omega arith) (λ q. let z = q.1 in omega arith)

  zeros : (j : ℕ) → j < 4 → node_word (drop N l₆) f j ≡ 0
  zeros j h = pick (ℕ_discrete j 3) (ℕ_discrete j 2) (ℕ_discrete j 1)
    where
      pick : Dec (j ≡ 3) → Dec (j ≡ 2) → Dec (j ≡ 1) → node_word (drop N l₆) f j ≡ 0
      pick (yes q) b c =
          ap (node_word (drop N l₆) f) q ∙ p₆.else f 3 (omega arith) (λ r. let z = r.1 in omega arith) ∙ p₅.else f 3 (omega arith) (λ r. let z = r.1 in omega arith)
          ∙ p₄.else f 3 (omega arith) (λ r. let z = r.1 in omega arith) ∙ p₃.here
      pick (no a) (yes q) c = last j (omega arith) ∙ ap (node_word (drop N l₂) f) q ∙ p₂.here
      pick (no a) (no b) (yes q) = last j (omega arith) ∙ p₂.else f j (omega arith) (λ r. b r.1) ∙ ap (node_word (drop N l₁) f) q ∙ p₁.here
      pick (no a) (no b) (no c) =
          let q : j ≡ 0 = omega arith in
          last j (omega arith) ∙ p₂.else f j (omega arith) (λ r. b r.1) ∙ p₁.else f j (omega arith) (λ r. c r.1) ∙ ap (node_word (drop N l₀) f) q ∙ p₀.here

  pub node-put : NodeMade (nodes_in N l) f e b x (nodes_in N l₆)
  node-put = record {
    bit-new = map-empty (drop N l₆) f zeros;
    bit-else = λ m y hy ne. ap (λ (z : ℕ). word_bit z (y % 64)) (away m (y / 64) (omega arith) (λ i h q. ne q.0));
    child = λ m y hy. away m (8 + y) (omega arith) (λ i h q. let z = q.1 in omega arith);
    level-new = p₆.else f 4 (omega arith) (λ q. let z = q.1 in omega arith) ∙ p₅.else f 4 (omega arith) (λ q. let z = q.1 in omega arith) ∙ p₄.here;
    level-else = λ m ne. away m 4 (omega arith) (λ i h q. ne q.0);
    parent-new = p₆.else f 5 (omega arith) (λ q. let z = q.1 in omega arith) ∙ p₅.here;
    parent-else = λ m ne. away m 5 (omega arith) (λ i h q. ne q.0);
    byte-new = p₆.here;
    byte-else = λ m ne. away m 6 (omega arith) (λ i h q. ne q.0);
  }

  pub node-spare : SpareStays N l l₆
  node-spare k h = p₆.spare k h ∙ p₅.spare k h ∙ p₄.spare k h ∙ p₃.spare k h ∙ p₂.spare k h ∙ p₁.spare k h ∙ p₀.spare k h

-- the two words of a node that is freed, and its place in the stack
module _ {N f k : ℕ} {l l₁ l₂ : List ℕ} (p : WordPut N l f 4 0 l₁) (q : WordPut N l₁ f 5 k l₂) where
  two : (m j : ℕ) → j < node_words → ((m ≡ f) × (j ≡ 4) → ⊥) → ((m ≡ f) × (j ≡ 5) → ⊥) → node_word (drop N l₂) m j ≡ node_word (drop N l) m j
  two m j h n4 n5 = q.else m j h n5 ∙ p.else m j h n4

  pub freed-put : Freed (nodes_in N l) f k (nodes_in N l₂)
  freed-put = record {
    bit = λ m y hy. ap (λ (z : ℕ). word_bit z (y % 64)) (two m (y / 64) (omega arith) (λ r. let z = r.1 in omega arith) (λ r. let z = r.1 in omega arith));
    child = λ m y hy. two m (8 + y) (omega arith) (λ r. let z = r.1 in omega arith) (λ r. let z = r.1 in omega arith);
    level-new = q.else f 4 (omega arith) (λ r. let z = r.1 in omega arith) ∙ p.here;
    level-else = λ m ne. two m 4 (omega arith) (λ r. ne r.0) (λ r. ne r.0);
    parent-new = q.here;
    parent-else = λ m ne. two m 5 (omega arith) (λ r. ne r.0) (λ r. ne r.0);
    byte = λ m. two m 6 (omega arith) (λ r. let z = r.1 in omega arith) (λ r. let z = r.1 in omega arith);
  }

-- and then a store that leaves the nodes
pub freed-then : {v w w' : Nodes} {f k : ℕ} → Freed v f k w → w' ≡ w → Freed v f k w'
freed-then {v} {f = f} {k} h e = rw e h

-- stores that leave the stack, before one onto it
pub push-after : {N k f : ℕ} {l l₁ l₂ : List ℕ} → SpareStays N l l₁ → Pushed N l₁ k f l₂ → Pushed N l k f l₂
push-after s p = record { here = p.here; else = λ i h ne. p.else i h ne ∙ s i h }

-- to hang is to set the bit, to make the node and to link it
pub compose : {v v₁ v₂ w : Nodes} {n x f p l : ℕ} → x < 256 → n ≢ f → BitMade v n x 1 v₁ → NodeMade v₁ f (l + 1) p x v₂ → p ≡ n → ChildMade v₂ n x f w → Hung v n x f l w
compose {v} {v₁} {v₂} {w} {n} {x} {f} {p} {l} hx nf s m back k = record {
  bit-here = k.bit n x hx ∙ m.bit-else n x hx nf ∙ s.here;
  bit-new = λ y hy. k.bit f y hy ∙ m.bit-new y hy;
  bit-else = λ u y hy ne q. k.bit u y hy ∙ m.bit-else u y hy ne ∙ s.else u y hy q;
  child-here = k.here;
  child-else = λ u y hy q. k.else u y hy q ∙ m.child u y hy ∙ s.child u y hy;
  level-new = k.level f ∙ m.level-new ∙ add-one l;
  level-else = λ u ne. k.level u ∙ m.level-else u ne ∙ s.level u;
  parent-new = k.parent f ∙ m.parent-new ∙ back;
  parent-else = λ u ne. k.parent u ∙ m.parent-else u ne ∙ s.parent u;
  byte-new = k.byte f ∙ m.byte-new;
  byte-else = λ u ne. k.byte u ∙ m.byte-else u ne ∙ s.byte u;
}

-- to unhang is to clear the bit and to free the node
pub uncompose : {v u w : Nodes} {p x f k : ℕ} → BitMade v p x 0 u → Freed u f k w → x < 256 → Unhung v p x f k w
uncompose {p = p} {x} {f} s e hx = record {
  bit-here = e.bit p x hx ∙ s.here;
  bit-else = λ m y hy ne. e.bit m y hy ∙ s.else m y hy ne;
  child = λ m y hy. e.child m y hy ∙ s.child m y hy;
  level-new = e.level-new;
  level-else = λ m ne. e.level-else m ne ∙ s.level m;
  parent-new = e.parent-new;
  parent-else = λ m ne. e.parent-else m ne ∙ s.parent m;
  byte = λ m. e.byte m ∙ s.byte m;
}
