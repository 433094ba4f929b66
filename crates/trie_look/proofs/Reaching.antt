-- Where the levels lead tells whether the suffix is a member. Assumes nothing.
use Prim.Native.Nat.{ℕ, zero, suc, ◌-◌, ◌*◌, ◌^◌, ◌<◌, ◌≤◌}
use mathlib.Core.Path.{◌≡◌, refl, sym, ap, ◌∙◌, subst}
use mathlib.Core.Bool.{Bool, true, false, cond}
use mathlib.Core.List.{List}
use native.Mathlib.Omega.{arith}
use native.Mathlib.Numerals.{add-one}
use lib.ListN.{length, drop, get_or}
use lib.Dec.{eqb, ltb}
use borrow.Author.Tests.{lt-ltb, le-ltb, ltb-true}
use Rattle.lists.specs.Lists.{mem}
use Rattle.lists.proofs.Laws.{by-test}
use Rattle.region.specs.Nodes.{Nodes}
use Rattle.region.specs.Tries.{byte_of, members}
use Rattle.arena.specs.Arena.{nodes_in, Root, Tries}
use Rattle.trie.specs.Walked.{Walked}
use Rattle.trie.proofs.Lookup.{start, there, more, missed, found, set-bit, clear-bit}
use Rattle.trie_look.specs.Each.{answer_at}
use Rattle.trie_look.specs.Levels.{marked, step_of, reach, tell_of, Changed}
use Rattle.trie_look.proofs.Changes.{left_alone}

-- a number that is no node has no bit
none-marked : (v : Nodes) (N b s j n : ℕ) → N ≤ n → marked v N b s j n ≡ false
none-marked v N b s j n h = rw (le-ltb n N h) refl

-- that of a node is its bit
node-marked : (v : Nodes) (N b s j n x : ℕ) (a : Bool) → n < N → x ≡ byte_of b s j → a ≡ eqb (v.bit n x) 1 → marked v N b s j n ≡ a
node-marked v N b s j n x a h ex e = rw (lt-ltb n N h) (ap (λ (y : ℕ). eqb (v.bit n y) 1) (sym ex) ∙ sym e)

pub node-steps : (v : Nodes) (N b s j n i x c : ℕ) (a : Bool) → n < N → i ≡ j → x ≡ byte_of b s i → a ≡ eqb (v.bit n x) 1 → c ≡ v.child n x → cond a c N ≡ step_of v N b s j n
node-steps v N b s j n i x c a h ei ex e ec =
    let at : x ≡ byte_of b s j = ex ∙ ap (byte_of b s) ei in
    rw (node-marked v N b s j n x a h at e) (ap (λ (u : ℕ). cond a u N) (ec ∙ ap (v.child n) at))

pub ended-tells : (v : Nodes) (N b r s n old a : ℕ) → r < N → N ≤ n → a ≡ 0 → a ≡ tell_of v N b r s n old
ended-tells v N b r s n old a hr h ea = rw (lt-ltb r N hr) (rw (none-marked v N b s (b - 1) n h) ea)

module _ (N b : ℕ) (l : List ℕ) (t : Tries N b l) (r s : ℕ) (rt : Root (nodes_in N l) N r) where
  -- after j levels: the node that the leading bytes lead to, or none, and then s is no member
  data Came (j n : ℕ) : Type 0 where
    on : Walked (nodes_in N l) r s b n j → Came j n
    off : n ≡ N → mem s (members (nodes_in N l) b r) ≡ false → Came j n

  came-on : (j n : ℕ) → suc j < b → Came j n → Came (suc j) (step_of (nodes_in N l) N b s j n)
  came-on j n h (off e m) = off (rw (none-marked (nodes_in N l) N b s j n (omega arith)) refl) m
  came-on j n h (on w) = by-test (eqb ((nodes_in N l).bit n (byte_of b s j)) 1)
      (λ e. rw (node-marked (nodes_in N l) N b s j n (byte_of b s j) true (there t.wf rt w).in-range refl (sym e))
      (on (subst (Walked (nodes_in N l) r s b ((nodes_in N l).child n (byte_of b s j))) (add-one j) (more w _ _ refl (set-bit N l n _ _ true refl (sym e) refl) refl (omega arith)))))
      (λ e. rw (node-marked (nodes_in N l) N b s j n (byte_of b s j) false (there t.wf rt w).in-range refl (sym e))
      (off refl (missed w (clear-bit N l n _ _ false refl (sym e) refl))))

  came : (j : ℕ) → j < b → Came j (reach (nodes_in N l) N b s j r)
  came zero h = on (start _ _ _ _ h)
  came (suc j) h = came-on j (reach (nodes_in N l) N b s j r) h (came j (omega arith))

  -- the bit of the last byte is the answer
  last-tells : (n : ℕ) → 1 ≤ b → s < 2 ^ (8 * b) → Came (b - 1) n → marked (nodes_in N l) N b s (b - 1) n ≡ mem s (members (nodes_in N l) b r)
  last-tells n hb hs (off e m) = none-marked (nodes_in N l) N b s (b - 1) n (omega arith) ∙ sym m
  last-tells n hb hs (on w) = by-test (eqb ((nodes_in N l).bit n (byte_of b s (b - 1))) 1)
      (λ e. node-marked (nodes_in N l) N b s (b - 1) n _ true (there t.wf rt w).in-range refl (sym e)
      ∙ sym (found w hs (set-bit N l n _ _ true refl (sym e) refl) (omega arith)))
      (λ e. node-marked (nodes_in N l) N b s (b - 1) n _ false (there t.wf rt w).in-range refl (sym e)
      ∙ sym (missed w (clear-bit N l n _ _ false refl (sym e) refl)))

-- what is told is the answer
tells : (N b : ℕ) (l : List ℕ) → Tries N b l → 1 ≤ b → (r s old : ℕ) → (r < N → Root (nodes_in N l) N r) → s < 2 ^ (8 * b)
    → tell_of (nodes_in N l) N b r s (reach (nodes_in N l) N b s (b - 1) r) old ≡ answer_at (nodes_in N l) N b r s old
tells N b l t hb r s old rt hs = by-test (ltb r N)
    (λ e. let root = rt (ltb-true r N e) in
    ap (λ (a : Bool). cond (ltb r N) (cond a 1 0) old) (last-tells N b l t r s root (reach (nodes_in N l) N b s (b - 1) r) hb hs (came N b l t r s root (b - 1) (omega arith))))
    (λ e. rw e refl)

-- after the start, the levels and the telling
pub answered : (N b : ℕ) (l : List ℕ) → Tries N b l → 1 ≤ b → (rs ss : List ℕ) → length rs ≡ length ss
    → ((i : ℕ) → i < length rs → get_or rs i 0 < N → Root (nodes_in N l) N (get_or rs i 0)) → ((i : ℕ) → i < length ss → get_or ss i 0 < 2 ^ (8 * b))
    → (n₀ n₁ n₂ os os' : List ℕ) → Changed (λ p n. get_or rs p 0) (length rs) n₀ n₁ → Changed (λ p n. reach (nodes_in N l) N b (get_or ss p 0) (b - 1) n) (length ss) n₁ n₂
    → Changed (λ p old. tell_of (nodes_in N l) N b (get_or rs p 0) (get_or ss p 0) (get_or n₂ p 0) old) (length ss) os os'
    → ((i : ℕ) → i < length ss → get_or os' i 0 ≡ answer_at (nodes_in N l) N b (get_or rs i 0) (get_or ss i 0) (get_or os i 0)) × ((length os' ≡ length os) × (drop (length ss) os' ≡ drop (length ss) os))
answered N b l t hb rs ss len rt hs n₀ n₁ n₂ os os' c d e = (at, (e.long, left_alone e))
  where
    at : (i : ℕ) → i < length ss → get_or os' i 0 ≡ answer_at (nodes_in N l) N b (get_or rs i 0) (get_or ss i 0) (get_or os i 0)
    at i h =
        e.front i h
        ∙ ap (λ (n : ℕ). tell_of (nodes_in N l) N b (get_or rs i 0) (get_or ss i 0) n (get_or os i 0)) (d.front i h ∙ ap (reach (nodes_in N l) N b (get_or ss i 0) (b - 1)) (c.front i (omega arith)))
        ∙ tells N b l t hb (get_or rs i 0) (get_or ss i 0) (get_or os i 0) (rt i (omega arith)) (hs i h)
