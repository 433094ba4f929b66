-- A free node made a root with an empty map: the nodes hang together, every other trie stays, and the new one has no suffix. The chain below it makes it a trie of one. Assumes nothing.
use Prim.Native.Nat.{ℕ, zero, suc, ◌+◌, ◌-◌, ◌*◌, ◌^◌, ◌≤◌, ◌<◌}
use mathlib.Core.Path.{◌≡◌, refl, sym, ap, ap₂, ◌∙◌, subst}
use mathlib.Core.Logic.{◌≢◌}
use mathlib.Core.Bool.{true}
use mathlib.Core.List.{List, [], ◌∷◌}
use native.Mathlib.Omega.{arith}
use native.Mathlib.Decide.{ℕ_discrete}
use lib.Dec.{eqb}
use lib.ListN.{length}
use Rattle.lists.specs.Lists.{mem, put}
use Rattle.lists.proofs.Laws.{or_left, eqb-self}
use Rattle.region.specs.Nodes.{Nodes}
use Rattle.region.specs.Tries.{byte_of, members, follow, Path}
use Rattle.region.specs.WellFormed.{Child, NonEmpty, AllNonEmpty}
use Rattle.region.specs.Linked.{Above, Wf}
use Rattle.region.proofs.Bytes.{byte-lt}
use Rattle.region.proofs.Paths.{At, reach}
use Rattle.region.proofs.Listing.{member-path}
use Rattle.arena.specs.Arena.{spare_in, nodes_in, Root, Arena, OthersStay, Planted}
use Rattle.arena.specs.Changes.{SpareStays, BitMade, NodeMade}
use Rattle.arena.proofs.Stays.{Bytes, root-at, below_suc, same_lists, stay-others, others-trans}
use Rattle.arena.proofs.Setting.{wf-bit, set-others, set-suffixes}
use Rattle.arena.proofs.Stacks.{arena-stack, stack-arena, stack-stays, stack-taken, top-node}
use Rattle.arena.proofs.Fullness.{FullBut, full-all, full-bit}
use Rattle.trie.proofs.Lookup.{start}
use Rattle.trie.proofs.Room.{nodes-single}
use Rattle.trie.proofs.Open.{Open, here}
use Rattle.trie.proofs.Growing.{Growing, begin}

module _ (v w : Nodes) (N b f c x : ℕ) (wf : Wf v N b) (hb : 1 ≤ b) (hf : f < N) (free : v.level1 f ≡ 0) (nm : NodeMade v f 1 c x w) where
  -- a node in use is not f
  not_f : (m k : ℕ) → v.level1 m ≡ suc k → m ≢ f
  not_f m k e q = let z : suc k ≡ 0 = sym e ∙ ap v.level1 q ∙ free in omega arith

  pub wf-made : Wf w N b
  wf-made = record {
    levels = λ m hm. levels m hm (ℕ_discrete m f);
    down = λ k m y hm e hk hy s. down k m y hm e hk hy s (ℕ_discrete m f);
    up = λ k m hm e. up k m hm e (ℕ_discrete m f);
  }
    where
      levels : (m : ℕ) → m < N → Dec (m ≡ f) → w.level1 m ≤ b
      levels m hm (yes e) = let z : w.level1 m ≡ 1 = ap w.level1 e ∙ nm.level-new in omega arith
      levels m hm (no ne) = let z : w.level1 m ≡ v.level1 m = nm.level-else m ne in omega (arith, wf.levels m hm)

      down : (k m y : ℕ) → m < N → w.level1 m ≡ suc k → suc k < b → y < 256 → w.bit m y ≡ 1 → Dec (m ≡ f) → Child w N k m y (w.child m y)
      down k m y hm e hk hy s (yes q) = let z : ◌≡◌ {A = ℕ} 1 0 = sym s ∙ ap (λ (u : ℕ). w.bit u y) q ∙ nm.bit-new y hy in absurd (omega arith)
      down k m y hm e hk hy s (no ne) =
          let d : Child v N k m y (v.child m y) = wf.down k m y hm (sym (nm.level-else m ne) ∙ e) hk hy (sym (nm.bit-else m y hy ne) ∙ s) in
          let nc : v.child m y ≢ f = not_f (v.child m y) (suc k) d.level in
          subst (Child w N k m y) (sym (nm.child m y hy)) record {
            in-range = d.in-range;
            level = nm.level-else (v.child m y) nc ∙ d.level;
            parent = nm.parent-else (v.child m y) nc ∙ d.parent;
            byte = nm.byte-else (v.child m y) nc ∙ d.byte;
          }

      up : (k m : ℕ) → m < N → w.level1 m ≡ suc (suc k) → Dec (m ≡ f) → Above w N k m
      up k m hm e (yes q) = let z : ◌≡◌ {A = ℕ} (suc (suc k)) 1 = sym e ∙ ap w.level1 q ∙ nm.level-new in absurd (omega arith)
      up k m hm e (no ne) =
          let a : Above v N k m = wf.up k m hm (sym (nm.level-else m ne) ∙ e) in
          let ep : w.parent m ≡ v.parent m = nm.parent-else m ne in
          let eb : w.byte m ≡ v.byte m = nm.byte-else m ne in
          let np : v.parent m ≢ f = not_f (v.parent m) k a.level in
          record {
            in-range = rw ep a.in-range;
            level = ap w.level1 ep ∙ nm.level-else (v.parent m) np ∙ a.level;
            byte = rw eb a.byte;
            is_set = ap₂ w.bit ep eb ∙ nm.bit-else (v.parent m) (v.byte m) a.byte np ∙ a.is_set;
            is-child = ap₂ w.child ep eb ∙ nm.child (v.parent m) (v.byte m) a.byte ∙ a.is-child;
          }

  pub full-made : AllNonEmpty v N → FullBut w N f
  full-made full m hm used ne =
      let s : NonEmpty v m = full m hm (λ z. used (nm.level-else m ne ∙ z)) in
      record { at = s.at; small = s.small; is_set = nm.bit-else m s.at s.small ne ∙ s.is_set }

  pub root-made : Root w N f
  root-made = record { in-range = hf; level = nm.level-new }

  module _ (m : ℕ) (g : ℕ → ℕ) (hg : Bytes g) (rt : Root v N m) where
    follow-made : (k : ℕ) → follow w m g k ≡ follow v m g k
    follow-made zero = refl
    follow-made (suc k) = nm.child (follow w m g k) (g k) (hg k) ∙ ap (λ (z : ℕ). v.child z (g k)) (follow-made k)

    -- where a path leads, the map is as it was
    same_bit : (k : ℕ) → k < b → Path v m g k → w.bit (follow w m g k) (g k) ≡ v.bit (follow v m g k) (g k)
    same_bit k h p =
        let a : At v N k (follow v m g k) = reach v N b wf.down m g (root-at rt) hg k h p in
        ap (λ (u : ℕ). w.bit u (g k)) (follow-made k) ∙ nm.bit-else (follow v m g k) (g k) (hg k) (not_f (follow v m g k) k a.level)

    path-made : Path v m g b → Path w m g b
    path-made p i h = same_bit i h (λ j z. p j (omega arith)) ∙ p i h

    path-back : Path w m g b → (k : ℕ) → k ≤ b → Path v m g k
    path-back p zero h = λ i q. absurd (omega arith)
    path-back p (suc k) h =
        let q : Path v m g k = path-back p k (omega arith) in
        below_suc (λ i. v.bit (follow v m g i) (g i) ≡ 1) k q (sym (same_bit k h q) ∙ p k h)

  pub others-made : OthersStay v w N b f
  others-made = record {
    root = λ m ne r. record { in-range = r.in-range; level = nm.level-else m ne ∙ r.level };
    container = λ m ne r. nm.parent-else m ne;
    suffixes = λ m ne r. same_lists v w b m (λ t h p. path-made m (byte_of b t) (byte-lt b t) r p) (λ t h p. path-back m (byte_of b t) (byte-lt b t) r p b (omega arith));
    no-new = λ m ne r. record { in-range = r.in-range; level = sym (nm.level-else m ne) ∙ r.level };
  }

  pub none_made : members w b f ≡ []
  none_made = nothing (members w b f) (λ t i. let z : ◌≡◌ {A = ℕ} 1 0 = sym (member-path w b f t i 0 hb) ∙ nm.bit-new (byte_of b t 0) (byte-lt b t 0) in omega arith)
    where
      nothing : (xs : List ℕ) → ((t : ℕ) → mem t xs ≡ true → ⊥) → xs ≡ []
      nothing [] h = refl
      nothing (y ∷ ys) h = absurd (h y (or_left (eqb y y) (mem y ys) (eqb-self y)))

-- l₁ is the arena l with a new root f under the container c, whose map is empty
pub record Bare (N b : ℕ) (l : List ℕ) (c f : ℕ) (l₁ : List ℕ) : Type 0 where
  pub was_free : (nodes_in N l).level1 f ≡ 0
  pub root : Root (nodes_in N l₁) N f
  pub container : (nodes_in N l₁).parent f ≡ c
  pub suffixes : members (nodes_in N l₁) b f ≡ []
  pub others : OthersStay (nodes_in N l) (nodes_in N l₁) N b f

module _ {N b used : ℕ} {l : List ℕ} (a : Arena N b used l) (hb : 1 ≤ b) (room : used < N) (f : ℕ) (ef : f ≡ spare_in l (N - (used + 1))) where
  pub top-range : f < N
  top-range = rw ef (top-node room (arena-stack a)).in-range

  top-free : (nodes_in N l).level1 f ≡ 0
  top-free = ap (nodes_in N l).level1 ef ∙ (top-node room (arena-stack a)).is_free

  module _ (p c x : ℕ) (l₁ : List ℕ) (el : length l₁ ≡ length l) (nm : NodeMade (nodes_in N l) f 1 p x (nodes_in N l₁)) (keep : SpareStays N l l₁) (ep : p ≡ c) where
    pub bare : Bare N b l c f l₁
    bare = record {
      was_free = top-free;
      root = root-made (nodes_in N l) (nodes_in N l₁) N b f p x a.tries.wf hb top-range top-free nm;
      container = nm.parent-new ∙ ep;
      suffixes = none_made (nodes_in N l) (nodes_in N l₁) N b f p x a.tries.wf hb top-range top-free nm;
      others = others-made (nodes_in N l) (nodes_in N l₁) N b f p x a.tries.wf hb top-range top-free nm;
    }

    pub rooted : (s : ℕ) → used + b ≤ N → Growing N b (used + 1) l₁ f s 0 (used + 1) l₁ f 0
    rooted s h = begin record {
      long = el ∙ a.tries.long;
      wf = wf-made (nodes_in N l) (nodes_in N l₁) N b f p x a.tries.wf hb top-range top-free nm;
      full = full-made (nodes_in N l) (nodes_in N l₁) N b f p x a.tries.wf hb top-range top-free nm a.tries.non-empty;
      stack = stack-taken l l₁ f 0 keep room ef nm.level-new nm.level-else nm.parent-else (arena-stack a);
      is-root = bare.root;
      walked = start (nodes_in N l₁) f s b hb;
      clear = nm.bit-new (byte_of b s 0) (byte-lt b s 0);
    } (omega arith)

-- the last bit is set: a trie of one suffix
module _ (N used : ℕ) (l : List ℕ) (c root s left : ℕ) (l₁ lₙ : List ℕ) (n j : ℕ) (l' : List ℕ) (y : ℕ) where
  abbrev Finish : ℕ → Type 0
  Finish b = s < 2 ^ (8 * b) → Bare N b l c root l₁ → Growing N b (used + 1) l₁ root s 0 left lₙ n j → y ≡ byte_of b s j
      → BitMade (nodes_in N lₙ) n y 1 (nodes_in N l') → SpareStays N lₙ l' → length l' ≡ length lₙ → Planted N b used l c root (s ∷ []) (used + b) l'

  finish-suc : Finish (suc j)
  finish-suc hs bare g ey st keep el =
      let o : Open N (suc j) left lₙ root s n j = g.state in
      let v : Nodes = nodes_in N lₙ in
      let w : Nodes = nodes_in N l' in
      let st' : BitMade v (follow v root (byte_of (suc j) s) j) (byte_of (suc j) s j) 1 w =
      subst (λ (u : ℕ). BitMade v u (byte_of (suc j) s j) 1 w) o.walked.at (subst (λ (u : ℕ). BitMade v n u 1 w) ey st) in
      let count : left ≡ used + suc j = omega (arith, g.count) in
      record {
        arena = subst (λ (u : ℕ). Arena N (suc j) u l') count
            (stack-arena record { long = el ∙ o.long; wf = wf-bit v w N j n y 1 o.wf (here o) st; non-empty = full-all (full-bit N st o.full) (record { at = y; small = rw ey (byte-lt (suc j) s j); is_set = st.here }) }
            (stack-stays lₙ l' keep st.level st.parent o.stack));
        was_free = bare.was_free;
        root = record { in-range = o.is-root.in-range; level = st.level root ∙ o.is-root.level };
        container = st.parent root ∙ g.stay.container root bare.root ∙ bare.container;
        suffixes = set-suffixes v w N j root s o.wf o.is-root hs o.walked.path st' ∙ ap (put s) (g.stay.suffixes root bare.root ∙ bare.suffixes);
        others = others-trans bare.others (others-trans (stay-others root g.stay) (set-others v w N j root s o.wf o.is-root hs o.walked.path st'));
        room = ap (λ (k : ℕ). used + k) (sym (nodes-single (suc j) s));
      }

  pub finish : (b : ℕ) → b ≤ j + 1 → Finish b
  finish b h hs bare g = let l : j < b = g.state.walked.small in let e : suc j ≡ b = omega arith in subst Finish e finish-suc hs bare g
