-- What a removal keeps as it frees emptied nodes upward, and how it ends: at a node that holds something, or with the root. Assumes nothing.
use Prim.Native.Nat.{ℕ, suc, ◌+◌, ◌-◌, ◌*◌, ◌^◌, ◌≤◌, ◌<◌}
use mathlib.Core.Path.{◌≡◌, refl, sym, ap, ◌∙◌, subst}
use mathlib.Core.Bool.{true}
use mathlib.Core.List.{List, [], ◌∷◌}
use native.Mathlib.Omega.{arith}
use lib.Dec.{eqb}
use lib.ListN.{length}
use Rattle.lists.specs.Lists.{mem, put, without}
use Rattle.lists.proofs.Laws.{or_left, eqb-self}
use Rattle.model.specs.Room.{trie_nodes}
use Rattle.region.specs.Nodes.{Nodes}
use Rattle.region.specs.Tries.{byte_of, members, follow}
use Rattle.region.specs.WellFormed.{NonEmpty}
use Rattle.region.proofs.Bytes.{byte-lt}
use Rattle.region.proofs.Listing.{members-ascend, member-path}
use Rattle.arena.specs.Arena.{nodes_in, Root, Arena, OthersStay}
use Rattle.arena.specs.Changes.{SpareStays, Pushed, BitMade, Freed, Unhung}
use Rattle.arena.proofs.Stays.{Stay, stay-refl, stay-trans, stay-others, others-trans}
use Rattle.arena.proofs.Putting.{put-without}
use Rattle.arena.proofs.Setting.{wf-bit, path-clear, root-clear, follow-bit, clear-suffixes, clear-others}
use Rattle.arena.proofs.Stacks.{arena-stack, stack-arena, stack-stays, stack-freed, used-some}
use Rattle.arena.proofs.Fullness.{full-all, full-bit, full-freed}
use Rattle.arena.proofs.Unhanging.{wf-root, others-root}
use Rattle.trie.specs.declared.Removed.TheVariants.{Gone, Last}
use Rattle.trie.specs.Walked.{Walked}
use Rattle.trie.specs.Answers.{RemovedAs}
use Rattle.trie.proofs.Lookup.{there, found}
use Rattle.trie.proofs.Room.{nodes-more, nodes-single}
use Rattle.trie.proofs.Open.{Open, here, open_up, stay-up}

-- the arena l₁ is l with the bit of s cleared, which was set
pub record Cleared (N b : ℕ) (l l₁ : List ℕ) (root s : ℕ) : Type 0 where
  pub is-root : Root (nodes_in N l) N root
  pub root-now : Root (nodes_in N l₁) N root
  pub was : mem s (members (nodes_in N l) b root) ≡ true
  pub suffixes : members (nodes_in N l₁) b root ≡ without s (members (nodes_in N l) b root)
  pub container : (nodes_in N l₁).parent root ≡ (nodes_in N l).parent root
  pub others : OthersStay (nodes_in N l) (nodes_in N l₁) N b root

-- l₁ is the arena after the bit was cleared; l is it now, with left nodes in use, and what was below n, at level j, is freed
pub record Shrinking (N b used : ℕ) (l₁ : List ℕ) (root s left : ℕ) (l : List ℕ) (n j : ℕ) : Type 0 where
  pub state : Open N b left l root s n j
  pub stay : Stay (nodes_in N l₁) (nodes_in N l) N b
  pub count : left + b ≡ used + (j + 1)

-- the bit is cleared
module _ (N used : ℕ) (l : List ℕ) (root s n j : ℕ) (l₁ : List ℕ) (y : ℕ) where
  abbrev Start : ℕ → Type 0
  Start b = Arena N b used l → Root (nodes_in N l) N root → s < 2 ^ (8 * b) → Walked (nodes_in N l) root s b n j → y ≡ byte_of b s j → (nodes_in N l).bit n y ≡ 1
      → BitMade (nodes_in N l) n y 0 (nodes_in N l₁) → SpareStays N l l₁ → length l₁ ≡ length l → Cleared N b l l₁ root s × Shrinking N b used l₁ root s used l₁ n j

  start-suc : Start (suc j)
  start-suc a rt hs wk ey one st keep el =
      let v : Nodes = nodes_in N l in
      let w : Nodes = nodes_in N l₁ in
      let wf = a.tries.wf in
      let at = there wf rt wk in
      let st' : BitMade v (follow v root (byte_of (suc j) s) j) (byte_of (suc j) s j) 0 w =
      subst (λ (u : ℕ). BitMade v u (byte_of (suc j) s j) 0 w) wk.at (subst (λ (u : ℕ). BitMade v n u 0 w) ey st) in
      let one' : v.bit n (byte_of (suc j) s j) ≡ 1 = ap (v.bit n) (sym ey) ∙ one in
      let one'' : v.bit (follow v root (byte_of (suc j) s) j) (byte_of (suc j) s j) ≡ 1 = ap (λ (u : ℕ). v.bit u (byte_of (suc j) s j)) (sym wk.at) ∙ one' in
      let rt' : Root w N root = root-clear v w N j root s wf rt hs wk.path one'' st' in (
        record {
          is-root = rt;
          root-now = rt';
          was = found wk hs one' (omega arith);
          suffixes = clear-suffixes v w N j root s wf rt hs wk.path one'' st';
          container = st.parent root;
          others = clear-others v w N j root s wf rt hs wk.path one'' st';
        },
        record {
          state = record {
            long = el ∙ a.tries.long;
            wf = wf-bit v w N j n y 0 wf at st;
            full = full-bit N st (λ m hm u ne. a.tries.non-empty m hm u);
            stack = stack-stays l l₁ keep st.level st.parent (arena-stack a);
            is-root = rt';
            walked = record {
              small = omega arith;
              at = wk.at ∙ sym (follow-bit v w N j n y 0 wf at st root (byte_of (suc j) s) (byte-lt (suc j) s) j);
              path = path-clear v w N j root s wf rt hs wk.path one'' st';
            };
            clear = ap (w.bit n) (sym ey) ∙ st.here;
          };
          stay = stay-refl w N (suc j);
          count = omega arith;
        },
      )

  pub start : (b : ℕ) → b ≤ j + 1 → Start b
  start b h a rt hs wk = let l : j < b = wk.small in let e : suc j ≡ b = omega arith in subst Start e start-suc a rt hs wk

module _ {N b used : ℕ} {l₁ : List ℕ} {root s left : ℕ} {l : List ℕ} {n j : ℕ} (g : Shrinking N b used l₁ root s left l n j) where
  pub some-used : 1 ≤ left
  some-used = used-some n j (here g.state).in-range (here g.state).level g.state.stack

  pub up : (hj : 0 < j) (empty : (y : ℕ) → y < 256 → (nodes_in N l).bit n y ≡ 0) (l' : List ℕ) (el : length l' ≡ length l) (p x : ℕ) (ep : p ≡ (nodes_in N l).parent n) (ex : x ≡ (nodes_in N l).byte n)
      (un : Unhung (nodes_in N l) p x n (N - left) (nodes_in N l')) (push : Pushed N l (N - left) n l') → Shrinking N b used l₁ root s (left - 1) l' p (j - 1)
  up hj empty l' el p x ep ex un push = record {
    state = open_up g.state hj empty l' el p x ep ex un push;
    stay = stay-trans g.stay (stay-up g.state hj empty l' el p x ep ex un push);
    count = omega (arith, g.count, some-used);
  }

  module _ {l₀ : List ℕ} (hs : s < 2 ^ (8 * b)) (c : Cleared N b l₀ l₁ root s) where
    -- what is left, and what was there
    now-list : members (nodes_in N l) b root ≡ without s (members (nodes_in N l₀) b root)
    now-list = g.stay.suffixes root c.root-now ∙ c.suffixes

    was-list : put s (members (nodes_in N l) b root) ≡ members (nodes_in N l₀) b root
    was-list = ap (put s) now-list ∙ put-without s (members (nodes_in N l₀) b root) (members-ascend (nodes_in N l₀) b root) c.was

    -- n holds something: the arena is whole again
    pub gone : NonEmpty (nodes_in N l) n → RemovedAs N b used root s l₀ (Gone left) l
    gone some =
        let o : Open N b left l root s n j = g.state in
        let full = full-all o.full some in
        let more : trie_nodes b (members (nodes_in N l₀) b root) ≡ trie_nodes b (members (nodes_in N l) b root) + (b - suc j) =
        ap (trie_nodes b) (sym was-list) ∙ nodes-more o.wf full o.is-root hs o.walked o.clear in
        let same : trie_nodes b (without s (members (nodes_in N l₀) b root)) ≡ trie_nodes b (members (nodes_in N l) b root) = ap (trie_nodes b) (sym now-list) in (
          c.was,
          record {
            arena = stack-arena record { long = o.long; wf = o.wf; non-empty = full } o.stack;
            root = o.is-root;
            container = g.stay.container root c.root-now ∙ c.container;
            suffixes = now-list;
            others = others-trans c.others (stay-others root g.stay);
            room = omega (arith, g.count, o.walked.small);
          },
        )

    -- the root holds nothing
    module _ (hj : j ≡ 0) (empty : (y : ℕ) → y < 256 → (nodes_in N l).bit n y ≡ 0) where
      at-root : n ≡ root
      at-root = g.state.walked.at ∙ ap (follow (nodes_in N l) root (byte_of b s)) hj

      none : (t : ℕ) → mem t (members (nodes_in N l) b root) ≡ true → ⊥
      none t m =
          let z : ◌≡◌ {A = ℕ} 1 0 = sym (member-path (nodes_in N l) b root t m 0 (omega (arith, g.state.walked.small))) ∙ ap (λ (u : ℕ). (nodes_in N l).bit u (byte_of b t 0)) (sym at-root) ∙ empty (byte_of b t 0) (byte-lt b t 0) in
          omega arith

      nothing : (xs : List ℕ) → ((t : ℕ) → mem t xs ≡ true → ⊥) → xs ≡ []
      nothing [] h = refl
      nothing (x ∷ xs) h = absurd (h x (or_left (eqb x x) (mem x xs) (eqb-self x)))

      only-s : members (nodes_in N l₀) b root ≡ s ∷ []
      only-s = sym was-list ∙ ap (put s) (nothing (members (nodes_in N l) b root) none)

      pub vanished : (l' : List ℕ) → length l' ≡ length l → Freed (nodes_in N l) n (N - left) (nodes_in N l') → Pushed N l (N - left) n l' → RemovedAs N b used root s l₀ (Last (left - 1)) l'
      vanished l' el fr push =
          let o : Open N b left l root s n j = g.state in
          let rt : Root (nodes_in N l) N n = subst (Root (nodes_in N l) N) (sym at-root) o.is-root in
          let one : trie_nodes b (members (nodes_in N l₀) b root) ≡ b = ap (trie_nodes b) only-s ∙ nodes-single b s in (
            only-s,
            record {
              arena = stack-arena record { long = el ∙ o.long; wf = wf-root (nodes_in N l) (nodes_in N l') N b n (N - left) o.wf rt empty fr; non-empty = full-freed N fr o.full }
                  (stack-freed l l' n 0 rt.in-range rt.level push fr.level-new fr.level-else fr.parent-new fr.parent-else o.stack);
              free = ap (nodes_in N l').level1 (sym at-root) ∙ fr.level-new;
              others = others-trans (others-trans c.others (stay-others root g.stay))
                  (subst (OthersStay (nodes_in N l) (nodes_in N l') N b) at-root (others-root (nodes_in N l) (nodes_in N l') N b n (N - left) o.wf rt empty fr));
              room = omega (arith, g.count, some-used);
            },
          )
