-- A node with an empty map is freed, from under its parent or as a root: the nodes hang together, and every other trie stays, since no whole path goes through it. Assumes nothing.
use Prim.Native.Nat.{ℕ, zero, suc, ◌≤◌, ◌<◌}
use mathlib.Core.Path.{◌≡◌, refl, sym, ap, ap₂, ◌∙◌, subst}
use mathlib.Core.Logic.{◌≢◌}
use native.Mathlib.Omega.{arith}
use native.Mathlib.Decide.{ℕ_discrete}
use Rattle.region.specs.Nodes.{Nodes}
use Rattle.region.specs.Tries.{byte_of, follow, Path}
use Rattle.region.specs.WellFormed.{Child}
use Rattle.region.specs.Linked.{Above, Wf}
use Rattle.region.proofs.Bytes.{byte-lt}
use Rattle.region.proofs.Paths.{At, reach}
use Rattle.arena.specs.Arena.{Root, OthersStay}
use Rattle.arena.specs.Changes.{Freed, Unhung}
use Rattle.arena.proofs.Stays.{Bytes, root-at, Stay, same_lists}

-- bit x of p is cleared and f freed, whose map is empty: by that bit alone f was reached, and by it nothing else
module _ (v w : Nodes) (N b l f p x k : ℕ) (wf : Wf v N b) (at : At v N l f) (empty : (y : ℕ) → y < 256 → v.bit f y ≡ 0) (un : Unhung v p x f k w)
    (lone : (j m y : ℕ) → Child v N j m y f → (m ≡ p) × (y ≡ x))
    (through : (i u y : ℕ) → At v N i u → y < 256 → v.bit u y ≡ 1 → (u ≡ p) × (y ≡ x) → (suc i < b) × (v.child u y ≡ f)) where
  -- a node in use is not f any more
  now-used : (m j : ℕ) → w.level1 m ≡ suc j → m ≢ f
  now-used m j e q = let z : suc j ≡ 0 = sym e ∙ ap w.level1 q ∙ un.level-new in omega arith

  -- a bit that is set is as it was
  still : (m y : ℕ) → w.bit m y ≡ 1 → (m ≡ p) × (y ≡ x) → ⊥
  still m y e q = let z : ◌≡◌ {A = ℕ} 1 0 = sym e ∙ ap₂ w.bit q.0 q.1 ∙ un.bit-here in omega arith

  -- no path goes through f
  shut : (y : ℕ) → y < 256 → v.bit f y ≡ 1 → ⊥
  shut y hy e = let z : ◌≡◌ {A = ℕ} 1 0 = sym e ∙ empty y hy in omega arith

  pub wf-unhung : Wf w N b
  wf-unhung = record {
    levels = λ m hm. levels m hm (ℕ_discrete m f);
    down = λ j m y hm e hj hy s. down j m y hm e hj hy s (now-used m j e);
    up = λ j m hm e. up j m (now-used m (suc j) e) (wf.up j m hm (sym (un.level-else m (now-used m (suc j) e)) ∙ e));
  }
    where
      levels : (m : ℕ) → m < N → Dec (m ≡ f) → w.level1 m ≤ b
      levels m hm (yes e) = let z : w.level1 m ≡ 0 = ap w.level1 e ∙ un.level-new in omega arith
      levels m hm (no ne) = let z : w.level1 m ≡ v.level1 m = un.level-else m ne in omega (arith, wf.levels m hm)

      down : (j m y : ℕ) → m < N → w.level1 m ≡ suc j → suc j < b → y < 256 → w.bit m y ≡ 1 → m ≢ f → Child w N j m y (w.child m y)
      down j m y hm e hj hy s ne =
          let other : (m ≡ p) × (y ≡ x) → ⊥ = still m y s in
          let d : Child v N j m y (v.child m y) = wf.down j m y hm (sym (un.level-else m ne) ∙ e) hj hy (sym (un.bit-else m y hy other) ∙ s) in
          let nc : v.child m y ≢ f = λ q. other (lone j m y (subst (Child v N j m y) q d)) in
          subst (Child w N j m y) (sym (un.child m y hy)) record {
            in-range = d.in-range;
            level = un.level-else (v.child m y) nc ∙ d.level;
            parent = un.parent-else (v.child m y) nc ∙ d.parent;
            byte = un.byte (v.child m y) ∙ d.byte;
          }

      up : (j m : ℕ) → m ≢ f → Above v N j m → Above w N j m
      up j m ne a =
          let ep : w.parent m ≡ v.parent m = un.parent-else m ne in
          let eb : w.byte m ≡ v.byte m = un.byte m in
          let np : v.parent m ≢ f = λ q. shut (v.byte m) a.byte (ap (λ (z : ℕ). v.bit z (v.byte m)) (sym q) ∙ a.is_set) in
          let other : (v.parent m ≡ p) × (v.byte m ≡ x) → ⊥ =
          λ q. ne (sym a.is-child ∙ (through j (v.parent m) (v.byte m) (record { in-range = a.in-range; level = a.level }) a.byte a.is_set q).1) in
          record {
            in-range = rw ep a.in-range;
            level = ap w.level1 ep ∙ un.level-else (v.parent m) np ∙ a.level;
            byte = rw eb a.byte;
            is_set = ap₂ w.bit ep eb ∙ un.bit-else (v.parent m) (v.byte m) a.byte other ∙ a.is_set;
            is-child = ap₂ w.child ep eb ∙ un.child (v.parent m) (v.byte m) a.byte ∙ a.is-child;
          }

  module _ (m : ℕ) (g : ℕ → ℕ) (hg : Bytes g) where
    pub follow-unhung : (i : ℕ) → follow w m g i ≡ follow v m g i
    follow-unhung zero = refl
    follow-unhung (suc i) = un.child (follow w m g i) (g i) (hg i) ∙ ap (λ (z : ℕ). v.child z (g i)) (follow-unhung i)

    only-unhung : Path w m g b → Path v m g b
    only-unhung q i h =
        let e : w.bit (follow v m g i) (g i) ≡ 1 = sym (ap (λ (z : ℕ). w.bit z (g i)) (follow-unhung i)) ∙ q i h in
        sym (un.bit-else (follow v m g i) (g i) (hg i) (still (follow v m g i) (g i) e)) ∙ e

    kept-unhung : Root v N m → Path v m g b → Path w m g b
    kept-unhung rt q i h = ap (λ (z : ℕ). w.bit z (g i)) (follow-unhung i) ∙ un.bit-else (follow v m g i) (g i) (hg i) other ∙ q i h
      where
        other : (follow v m g i ≡ p) × (g i ≡ x) → ⊥
        other e =
            let a : At v N i (follow v m g i) = reach v N b wf.down m g (root-at rt) hg i h (λ j z. q j (omega arith)) in
            let t : (suc i < b) × (v.child (follow v m g i) (g i) ≡ f) = through i (follow v m g i) (g i) a (hg i) (q i h) e in
            shut (g (suc i)) (hg (suc i)) (ap (λ (u : ℕ). v.bit u (g (suc i))) (sym t.1) ∙ q (suc i) t.0)

  pub others-unhung : OthersStay v w N b f
  others-unhung = record {
    root = λ m ne r. record { in-range = r.in-range; level = un.level-else m ne ∙ r.level };
    container = λ m ne r. un.parent-else m ne;
    suffixes = λ m ne r. same_lists v w b m (λ t h q. kept-unhung m (byte_of b t) (byte-lt b t) r q) (λ t h q. only-unhung m (byte_of b t) (byte-lt b t) q);
    no-new = λ m ne r. record { in-range = r.in-range; level = sym (un.level-else m ne) ∙ r.level };
  }

-- f is a child: it is reached by the bit that its back link names
module _ (v w : Nodes) (N b l f k : ℕ) (wf : Wf v N b) (at : At v N (suc l) f) (empty : (y : ℕ) → y < 256 → v.bit f y ≡ 0) (un : Unhung v (v.parent f) (v.byte f) f k w) where
  pub above : Above v N l f
  above = wf.up l f at.in-range at.level

  lone-child : (j m y : ℕ) → Child v N j m y f → (m ≡ v.parent f) × (y ≡ v.byte f)
  lone-child j m y d = (sym d.parent, sym d.byte)

  through-child : (i u y : ℕ) → At v N i u → y < 256 → v.bit u y ≡ 1 → (u ≡ v.parent f) × (y ≡ v.byte f) → (suc i < b) × (v.child u y ≡ f)
  through-child i u y a hy e q =
      let z : suc i ≡ suc l = sym a.level ∙ ap v.level1 q.0 ∙ above.level in
      (omega (arith, wf.levels f at.in-range, at.level), ap₂ v.child q.0 q.1 ∙ above.is-child)

  pub wf-child : Wf w N b
  wf-child = wf-unhung v w N b (suc l) f (v.parent f) (v.byte f) k wf at empty un lone-child through-child

  -- f is no root, so every trie stays
  pub stay-child : Stay v w N b
  stay-child =
      let o : OthersStay v w N b f = others-unhung v w N b (suc l) f (v.parent f) (v.byte f) k wf at empty un lone-child through-child in
      record {
        root = λ m r. o.root m (other m r.level) r;
        container = λ m r. o.container m (other m r.level) r;
        suffixes = λ m r. o.suffixes m (other m r.level) r;
        no-new = λ m r. o.no-new m (λ q. let z : ◌≡◌ {A = ℕ} 1 0 = sym r.level ∙ ap w.level1 q ∙ un.level-new in omega arith) r;
      }
    where
      other : (m : ℕ) → v.level1 m ≡ 1 → m ≢ f
      other m e q = let z : ◌≡◌ {A = ℕ} 1 (suc (suc l)) = sym e ∙ ap v.level1 q ∙ at.level in omega arith

  -- the parent is in use as before
  pub at-parent : At w N l (v.parent f)
  at-parent = record {
    in-range = above.in-range;
    level = un.level-else (v.parent f) (λ q. let z : suc l ≡ suc (suc l) = sym above.level ∙ ap v.level1 q ∙ at.level in omega arith) ∙ above.level;
  }

  -- a path that leads to the parent stays
  pub path-child : (m : ℕ) (g : ℕ → ℕ) → Bytes g → Root v N m → (i : ℕ) → i ≤ l → Path v m g i → Path w m g i
  path-child m g hg rt i h q j z =
      let a : At v N j (follow v m g j) = reach v N b wf.down m g (root-at rt) hg j (omega (arith, wf.levels f at.in-range, at.level)) (λ u y. q u (omega arith)) in
      ap (λ (u : ℕ). w.bit u (g j)) (follow-unhung v w N b (suc l) f (v.parent f) (v.byte f) k wf at empty un lone-child through-child m g hg j)
      ∙ un.bit-else (follow v m g j) (g j) (hg j) (λ e. let c : suc j ≡ suc l = sym a.level ∙ ap v.level1 e.0 ∙ above.level in omega arith) ∙ q j z

  pub follow-child : (m : ℕ) (g : ℕ → ℕ) → Bytes g → (i : ℕ) → follow w m g i ≡ follow v m g i
  follow-child m g hg = follow-unhung v w N b (suc l) f (v.parent f) (v.byte f) k wf at empty un lone-child through-child m g hg

-- f is a root: nothing reaches it
module _ (v w : Nodes) (N b f k : ℕ) (wf : Wf v N b) (rt : Root v N f) (empty : (y : ℕ) → y < 256 → v.bit f y ≡ 0) (fr : Freed v f k w) where
  un-root : Unhung v f 0 f k w
  un-root = record {
    bit-here = fr.bit f 0 (omega arith) ∙ empty 0 (omega arith);
    bit-else = λ m y hy ne. fr.bit m y hy;
    child = fr.child;
    level-new = fr.level-new;
    level-else = fr.level-else;
    parent-new = fr.parent-new;
    parent-else = fr.parent-else;
    byte = fr.byte;
  }

  lone-root : (j m y : ℕ) → Child v N j m y f → (m ≡ f) × (y ≡ 0)
  lone-root j m y d = let z : ◌≡◌ {A = ℕ} 1 (suc (suc j)) = sym rt.level ∙ d.level in absurd (omega arith)

  through-root : (i u y : ℕ) → At v N i u → y < 256 → v.bit u y ≡ 1 → (u ≡ f) × (y ≡ 0) → (suc i < b) × (v.child u y ≡ f)
  through-root i u y a hy e q = let z : ◌≡◌ {A = ℕ} 1 0 = sym e ∙ ap (λ (m : ℕ). v.bit m y) q.0 ∙ empty y hy in absurd (omega arith)

  pub wf-root : Wf w N b
  wf-root = wf-unhung v w N b 0 f f 0 k wf (root-at rt) empty un-root lone-root through-root

  pub others-root : OthersStay v w N b f
  others-root = others-unhung v w N b 0 f f 0 k wf (root-at rt) empty un-root lone-root through-root
