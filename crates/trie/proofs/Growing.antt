-- What an insert keeps as it hangs nodes, and what the last bit makes of it. Assumes nothing.
use Prim.Native.Nat.{ℕ, suc, ◌+◌, ◌-◌, ◌*◌, ◌^◌, ◌≤◌, ◌<◌}
use mathlib.Core.Path.{◌≡◌, refl, ap, ◌∙◌, subst}
use mathlib.Core.List.{List}
use native.Mathlib.Omega.{arith}
use lib.ListN.{length}
use Rattle.lists.specs.Lists.{put}
use Rattle.model.specs.Room.{trie_nodes}
use Rattle.region.specs.Nodes.{Nodes}
use Rattle.region.specs.Tries.{byte_of, members, follow}
use Rattle.region.proofs.Bytes.{byte-lt}
use Rattle.arena.specs.Arena.{spare_in, nodes_in, Root, Arena}
use Rattle.arena.specs.Changes.{SpareStays, BitMade, Hung}
use Rattle.arena.proofs.Stays.{Stay, stay-refl, stay-trans, stay-others, others-trans}
use Rattle.arena.proofs.Setting.{wf-bit, set-others, set-suffixes}
use Rattle.arena.proofs.Stacks.{stack-arena, stack-stays}
use Rattle.arena.proofs.Fullness.{full-all, full-bit}
use Rattle.std.specs.Prelude.{Some, Ok, Err}
use Rattle.arena.specs.declared.NoRoom.{NoRoom}
use Rattle.trie.specs.Walked.{Walked}
use Rattle.trie.specs.Answers.{InsertedAs}
use Rattle.trie.proofs.Lookup.{missed}
use Rattle.trie.proofs.Room.{nodes-more}
use Rattle.trie.proofs.Open.{Open, here, open-down, stay-down}

-- l₀ is the arena where the insert began, with used nodes in use and the walk stopped at level j₀; l is it now, with n hung at level j and left nodes in use
pub record Growing (N b used : ℕ) (l₀ : List ℕ) (root s j₀ left : ℕ) (l : List ℕ) (n j : ℕ) : Type 0 where
  pub state : Open N b left l root s n j
  pub stay : Stay (nodes_in N l₀) (nodes_in N l) N b
  pub count : left + j₀ ≡ used + j
  pub enough : used + b ≤ N + (j₀ + 1)

pub below-last : {b i : ℕ} → i < b - 1 → i + 1 < b
below-last h = omega (arith, h)

pub begin : {N b used : ℕ} {l : List ℕ} {root s n j : ℕ} → Open N b used l root s n j → used + b ≤ N + (j + 1) → Growing N b used l root s j used l n j
begin {N} {b} {l = l} o h = record { state = o; stay = stay-refl (nodes_in N l) N b; count = refl; enough = h }

module _ {N b used : ℕ} {l₀ : List ℕ} {root s j₀ left : ℕ} {l : List ℕ} {n j : ℕ} (g : Growing N b used l₀ root s j₀ left l n j) where
  -- a node is free
  pub room : j + 1 < b → left < N
  room h = omega (arith, g.count, g.enough)

  pub down : (more : j + 1 < b) (f : ℕ) → f ≡ spare_in l (N - (left + 1)) → (l' : List ℕ) (x : ℕ) → x ≡ byte_of b s j → length l' ≡ length l
      → Hung (nodes_in N l) n x f (j + 1) (nodes_in N l') → SpareStays N l l' → Growing N b used l₀ root s j₀ (left + 1) l' f (j + 1)
  down more f ef l' x ex el hu keep = record {
    state = open-down g.state more (room more) f ef l' x ex el hu keep;
    stay = stay-trans g.stay (stay-down g.state more (room more) f ef l' x ex el hu keep);
    count = omega (arith, g.count);
    enough = g.enough;
  }

-- the nodes that the new member needs, from where the walk stopped at entry
module _ {N b used : ℕ} {l₀ : List ℕ} {root s n₀ j₀ : ℕ} (a : Arena N b used l₀) (rt : Root (nodes_in N l₀) N root) (hs : s < 2 ^ (8 * b)) (wk : Walked (nodes_in N l₀) root s b n₀ j₀)
    (clear : (nodes_in N l₀).bit n₀ (byte_of b s j₀) ≡ 0) where
  needs : trie_nodes b (put s (members (nodes_in N l₀) b root)) ≡ trie_nodes b (members (nodes_in N l₀) b root) + (b - suc j₀)
  needs = nodes-more a.tries.wf a.tries.non-empty rt hs wk clear

  pub no_room : (e : NoRoom) → N + (j₀ + 1) < used + b → InsertedAs N b used root s l₀ (Err e) l₀
  no_room e h = ((missed wk clear, omega (arith, needs, wk.small)), refl)

-- the last bit is set: the arena is whole again
module _ (N used : ℕ) (l₀ : List ℕ) (root s n₀ j₀ left : ℕ) (l : List ℕ) (n j : ℕ) (l' : List ℕ) (y : ℕ) where
  abbrev Finish : ℕ → Type 0
  Finish b = Arena N b used l₀ → Root (nodes_in N l₀) N root → s < 2 ^ (8 * b) → Walked (nodes_in N l₀) root s b n₀ j₀ → (nodes_in N l₀).bit n₀ (byte_of b s j₀) ≡ 0
      → Growing N b used l₀ root s j₀ left l n j → y ≡ byte_of b s j → BitMade (nodes_in N l) n y 1 (nodes_in N l') → SpareStays N l l' → length l' ≡ length l
      → InsertedAs N b used root s l₀ (Ok (Some left)) l'

  finish-suc : Finish (suc j)
  finish-suc a rt hs wk clear g ey st keep el =
      let o : Open N (suc j) left l root s n j = g.state in
      let v : Nodes = nodes_in N l in
      let w : Nodes = nodes_in N l' in
      let st' : BitMade v (follow v root (byte_of (suc j) s) j) (byte_of (suc j) s j) 1 w =
      subst (λ (u : ℕ). BitMade v u (byte_of (suc j) s j) 1 w) o.walked.at (subst (λ (u : ℕ). BitMade v n u 1 w) ey st) in (
        missed wk clear,
        record {
          arena = stack-arena record { long = el ∙ o.long; wf = wf-bit v w N j n y 1 o.wf (here o) st; non-empty = full-all (full-bit N st o.full) (record { at = y; small = rw ey (byte-lt (suc j) s j); is_set = st.here }) }
              (stack-stays l l' keep st.level st.parent o.stack);
          root = record { in-range = o.is-root.in-range; level = st.level root ∙ o.is-root.level };
          container = st.parent root ∙ g.stay.container root rt;
          suffixes = set-suffixes v w N j root s o.wf o.is-root hs o.walked.path st' ∙ ap (put s) (g.stay.suffixes root rt);
          others = others-trans (stay-others root g.stay) (set-others v w N j root s o.wf o.is-root hs o.walked.path st');
          room = omega (arith, needs a rt hs wk clear, g.count, wk.small);
        },
      )

  pub finish : (b : ℕ) → b ≤ j + 1 → Finish b
  finish b h a rt hs wk clear g = let l : j < b = g.state.walked.small in let e : suc j ≡ b = omega arith in subst Finish e finish-suc a rt hs wk clear g
