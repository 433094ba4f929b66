-- An insert from the node to which all but the last two bytes lead: what it finds there, what it makes, and that the node stays. Assumes nothing.
use Prim.Native.Nat.{ℕ, zero, suc, ◌+◌, ◌-◌, ◌*◌, ◌^◌, ◌≤◌, ◌<◌}
use mathlib.Core.Path.{◌≡◌, refl, sym, ap, ap₂, ◌∙◌, subst}
use mathlib.Core.Logic.{◌≢◌}
use mathlib.Core.List.{List}
use native.Mathlib.Omega.{arith}
use native.Mathlib.Numerals.{add-one}
use lib.ListN.{length}
use Rattle.region.specs.Nodes.{Nodes}
use Rattle.region.specs.Tries.{byte_of, follow}
use Rattle.region.specs.WellFormed.{Child}
use Rattle.region.proofs.Bytes.{byte-lt}
use Rattle.region.proofs.Paths.{last}
use Rattle.arena.specs.Arena.{spare_in, nodes_in, Root, Arena}
use Rattle.arena.specs.Changes.{SpareStays, BitMade, Hung}
use Rattle.arena.proofs.Stays.{root-at, both?}
use Rattle.std.specs.Prelude.{Some, None, Ok, Err}
use Rattle.arena.specs.declared.NoRoom.{NoRoom}
use Rattle.trie.specs.Walked.{Walked}
use Rattle.trie.specs.Answers.{InsertedAs}
use Rattle.trie.proofs.Lookup.{there, is_byte, more, found}
use Rattle.trie.proofs.Open.{Open, whole, top-range, apart}
use Rattle.trie.proofs.Growing.{Growing, begin, down, no_room, finish}

-- a bit more is set: a walk stays
module _ {v w : Nodes} {m y : ℕ} (st : BitMade v m y 1 w) (root s b : ℕ) where
  follow-made : (i : ℕ) → follow w root (byte_of b s) i ≡ follow v root (byte_of b s) i
  follow-made zero = refl
  follow-made (suc i) = st.child (follow w root (byte_of b s) i) (byte_of b s i) (byte-lt b s i) ∙ ap (λ (z : ℕ). v.child z (byte_of b s i)) (follow-made i)

  mono : (k z : ℕ) → z < 256 → v.bit k z ≡ 1 → w.bit k z ≡ 1
  mono k z hz e = pick (both? k m z y)
    where
      pick : Dec ((k ≡ m) × (z ≡ y)) → w.bit k z ≡ 1
      pick (yes q) = ap₂ w.bit q.0 q.1 ∙ st.here
      pick (no q) = st.else k z hz q ∙ e

  walked-made : {n j : ℕ} → Walked v root s b n j → Walked w root s b n j
  walked-made {n} {j} wk = record {
    small = wk.small;
    at = wk.at ∙ sym (follow-made j);
    path = λ i h. ap (λ (z : ℕ). w.bit z (byte_of b s i)) (follow-made i) ∙ mono (follow v root (byte_of b s) i) (byte_of b s i) (byte-lt b s i) (wk.path i h);
  }

-- one step back: the node above f, to which a walk leads, is its parent
step_back : {N b used : ℕ} {l : List ℕ} {root s f j n : ℕ} → Open N b used l root s f (j + 1) → (nodes_in N l).parent f ≡ n → Walked (nodes_in N l) root s b n j
step_back {N} {b} {used} {l} {root} {s} {f} {j} {n} o e =
    let v : Nodes = nodes_in N l in
    let wk : Walked v root s b f (suc j) = subst (Walked v root s b f) (add-one j) o.walked in
    let d : Child v N j (follow v root (byte_of b s) j) (byte_of b s j) (follow v root (byte_of b s) (suc j)) = last v N b o.wf.down root (byte_of b s) (root-at o.is-root) (byte-lt b s) j wk.small wk.path in
    record { small = omega (arith, wk.small); at = sym e ∙ ap v.parent wk.at ∙ d.parent; path = λ i h. wk.path i (omega arith) }

-- l is the arena at entry; n is the node, x and y the last two bytes
pub record Begun (N b used : ℕ) (l : List ℕ) (root s n x y : ℕ) : Type 0 where
  pub arena : Arena N b used l
  pub is-root : Root (nodes_in N l) N root
  pub two : 2 ≤ b
  pub small : s < 2 ^ (8 * b)
  pub walked : Walked (nodes_in N l) root s b n (b - 2)
  pub is_x : x ≡ byte_of b s (b - 2)
  pub is_y : y ≡ byte_of b s (b - 1)

module _ {N b used : ℕ} {l : List ℕ} {root s n x y : ℕ} (g : Begun N b used l root s n x y) where
  more-levels : b - 2 + 1 < b
  more-levels = omega (arith, g.two)

  last-level : b ≤ b - 2 + 1 + 1
  last-level = omega (arith, g.two)

  level : b - 1 ≡ b - 2 + 1
  level = omega (arith, g.two)

  next-y : y ≡ byte_of b s (b - 2 + 1)
  next-y = g.is_y ∙ ap (byte_of b s) level

  pub node-small : n < N
  node-small = (there g.arena.tries.wf g.is-root g.walked).in-range

  pub x-small : x < 256
  x-small = is_byte b s (b - 2) x g.is_x

  pub y-small : y < 256
  y-small = is_byte b s (b - 1) y g.is_y

  -- a child is there
  module _ (f : ℕ) (is_set : (nodes_in N l).bit n x ≡ 1) (ef : f ≡ (nodes_in N l).child n x) where
    next : Walked (nodes_in N l) root s b f (b - 2 + 1)
    next = more g.walked x f g.is_x is_set ef more-levels

    pub child-small : f < N
    child-small = (there g.arena.tries.wf g.is-root next).in-range

    pub old : (nodes_in N l).bit f y ≡ 1 → InsertedAs N b used root s l (Ok None) l
    old e = (found next g.small (ap ((nodes_in N l).bit f) (sym next-y) ∙ e) last-level, refl)

    module _ (is-clear : (nodes_in N l).bit f y ≡ 0) (l' : List ℕ) (st : BitMade (nodes_in N l) f y 1 (nodes_in N l')) (keep : SpareStays N l l') (el : length l' ≡ length l) where
      clear_next : (nodes_in N l).bit f (byte_of b s (b - 2 + 1)) ≡ 0
      clear_next = ap ((nodes_in N l).bit f) (sym next-y) ∙ is-clear

      pub added : used ≤ N → InsertedAs N b used root s l (Ok (Some used)) l'
      added fits = finish N used l root s f (b - 2 + 1) used l f (b - 2 + 1) l' y b last-level g.arena g.is-root g.small next clear_next
          (begin (whole g.arena g.is-root next clear_next) (omega (arith, g.two))) next-y st keep el

      pub added-stays : Walked (nodes_in N l') root s b n (b - 2)
      added-stays = walked-made st root s b g.walked

  -- no child is there
  module _ (is-clear : (nodes_in N l).bit n x ≡ 0) where
    clear-here : (nodes_in N l).bit n (byte_of b s (b - 2)) ≡ 0
    clear-here = ap ((nodes_in N l).bit n) (sym g.is_x) ∙ is-clear

    pub full : (e : NoRoom) → N ≤ used → InsertedAs N b used root s l (Err e) l
    full e h = no_room g.arena g.is-root g.small g.walked clear-here e (omega (arith, g.two))

    -- and a node is free
    module _ (room : used < N) (f : ℕ) (ef : f ≡ spare_in l (N - (used + 1))) where
      first : Growing N b used l root s (b - 2) used l n (b - 2)
      first = begin (whole g.arena g.is-root g.walked clear-here) (omega (arith, g.two))

      pub free-small : f < N
      free-small = top-range first.state more-levels room f ef

      pub free-apart : n ≢ f
      free-apart = apart first.state more-levels room f ef

      module _ (l₁ : List ℕ) (hu : Hung (nodes_in N l) n x f (b - 1) (nodes_in N l₁)) (keep₁ : SpareStays N l l₁) (el₁ : length l₁ ≡ length l) where
        hung : Hung (nodes_in N l) n x f (b - 2 + 1) (nodes_in N l₁)
        hung = subst (λ (z : ℕ). Hung (nodes_in N l) n x f z (nodes_in N l₁)) level hu

        second : Growing N b used l root s (b - 2) (used + 1) l₁ f (b - 2 + 1)
        second = down first more-levels f ef l₁ x g.is_x el₁ hung keep₁

        module _ (l₂ : List ℕ) (st : BitMade (nodes_in N l₁) f y 1 (nodes_in N l₂)) (keep₂ : SpareStays N l₁ l₂) (el₂ : length l₂ ≡ length l₁) where
          pub hung-added : InsertedAs N b used root s l (Ok (Some (used + 1))) l₂
          hung-added = finish N used l root s n (b - 2) (used + 1) l₁ f (b - 2 + 1) l₂ y b last-level g.arena g.is-root g.small g.walked clear-here second next-y st keep₂ el₂

          pub hung-stays : Walked (nodes_in N l₂) root s b n (b - 2)
          hung-stays = walked-made st root s b (step_back second.state hu.parent-new)
