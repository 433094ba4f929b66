-- A free node hung under a clear bit: the nodes hang together, and every trie stays, since the new map is empty and no whole path goes through it. Assumes nothing.
use Prim.Native.Nat.{ℕ, zero, suc, ◌≤◌, ◌<◌}
use mathlib.Core.Path.{◌≡◌, refl, sym, ap, ap₂, ◌∙◌, subst}
use mathlib.Core.Logic.{◌≢◌}
use native.Mathlib.Omega.{arith}
use native.Mathlib.Decide.{ℕ_discrete}
use Rattle.region.specs.Nodes.{Nodes}
use Rattle.region.specs.Tries.{byte_of, follow, Path}
use Rattle.region.specs.WellFormed.{Child}
use Rattle.region.specs.Linked.{Above, Wf}
use Rattle.region.proofs.Bytes.{byte-lt}
use Rattle.region.proofs.Paths.{At, reach}
use Rattle.arena.specs.Arena.{Root}
use Rattle.arena.specs.Changes.{Hung}
use Rattle.arena.proofs.Stays.{Bytes, root-at, both?, below_suc, Stay, same_lists}

module _ (v w : Nodes) (N b l n x f : ℕ) (wf : Wf v N b) (at : At v N l n) (hl : suc l < b) (hx : x < 256) (clear : v.bit n x ≡ 0)
    (hf : f < N) (free : v.level1 f ≡ 0) (hu : Hung v n x f (suc l) w) where
  -- a node in use is not f
  not_f : (m k : ℕ) → v.level1 m ≡ suc k → m ≢ f
  not_f m k e q = let z : suc k ≡ 0 = sym e ∙ ap v.level1 q ∙ free in omega arith

  -- a set bit is not the one of n and x
  set_else : (m y : ℕ) → v.bit m y ≡ 1 → (m ≡ n) × (y ≡ x) → ⊥
  set_else m y e q = let z : ◌≡◌ {A = ℕ} 1 0 = sym e ∙ ap₂ v.bit q.0 q.1 ∙ clear in omega arith

  pub wf-hung : Wf w N b
  wf-hung = record {
    levels = λ m hm. levels m hm (ℕ_discrete m f);
    down = λ k m y hm e hk hy s. down k m y hm e hk hy s (ℕ_discrete m f) (both? m n y x);
    up = λ k m hm e. up k m hm e (ℕ_discrete m f);
  }
    where
      levels : (m : ℕ) → m < N → Dec (m ≡ f) → w.level1 m ≤ b
      levels m hm (yes e) = let z : w.level1 m ≡ suc (suc l) = ap w.level1 e ∙ hu.level-new in omega arith
      levels m hm (no ne) = let z : w.level1 m ≡ v.level1 m = hu.level-else m ne in omega (arith, wf.levels m hm)

      old : (k m y : ℕ) → Child v N k m y (v.child m y) → w.child m y ≡ v.child m y → Child w N k m y (w.child m y)
      old k m y d e =
          let ne : v.child m y ≢ f = not_f (v.child m y) (suc k) d.level in
          subst (Child w N k m y) (sym e) record {
            in-range = d.in-range;
            level = hu.level-else (v.child m y) ne ∙ d.level;
            parent = hu.parent-else (v.child m y) ne ∙ d.parent;
            byte = hu.byte-else (v.child m y) ne ∙ d.byte;
          }

      down : (k m y : ℕ) → m < N → w.level1 m ≡ suc k → suc k < b → y < 256 → w.bit m y ≡ 1 → Dec (m ≡ f) → Dec ((m ≡ n) × (y ≡ x)) → Child w N k m y (w.child m y)
      down k m y hm e hk hy s (yes q) d = let z : ◌≡◌ {A = ℕ} 1 0 = sym s ∙ ap (λ (u : ℕ). w.bit u y) q ∙ hu.bit-new y hy in absurd (omega arith)
      down k m y hm e hk hy s (no ne) (yes q) =
          let z : suc k ≡ suc l = sym e ∙ hu.level-else m ne ∙ ap v.level1 q.0 ∙ at.level in
          subst (Child w N k m y) (sym (ap₂ w.child q.0 q.1 ∙ hu.child-here)) record {
            in-range = hf;
            level = hu.level-new ∙ sym (ap suc z);
            parent = hu.parent-new ∙ sym q.0;
            byte = hu.byte-new ∙ sym q.1;
          }
      down k m y hm e hk hy s (no ne) (no q) =
          old k m y (wf.down k m y hm (sym (hu.level-else m ne) ∙ e) hk hy (sym (hu.bit-else m y hy ne q) ∙ s)) (hu.child-else m y hy q)

      kept : (k m : ℕ) → m ≢ f → Above v N k m → Above w N k m
      kept k m ne a =
          let ep : w.parent m ≡ v.parent m = hu.parent-else m ne in
          let eb : w.byte m ≡ v.byte m = hu.byte-else m ne in
          let np : v.parent m ≢ f = not_f (v.parent m) k a.level in
          let other : (v.parent m ≡ n) × (v.byte m ≡ x) → ⊥ = set_else (v.parent m) (v.byte m) a.is_set in
          record {
            in-range = rw ep a.in-range;
            level = ap w.level1 ep ∙ hu.level-else (v.parent m) np ∙ a.level;
            byte = rw eb a.byte;
            is_set = ap₂ w.bit ep eb ∙ hu.bit-else (v.parent m) (v.byte m) a.byte np other ∙ a.is_set;
            is-child = ap₂ w.child ep eb ∙ hu.child-else (v.parent m) (v.byte m) a.byte other ∙ a.is-child;
          }

      up : (k m : ℕ) → m < N → w.level1 m ≡ suc (suc k) → Dec (m ≡ f) → Above w N k m
      up k m hm e (yes q) =
          let ep : w.parent m ≡ n = ap w.parent q ∙ hu.parent-new in
          let eb : w.byte m ≡ x = ap w.byte q ∙ hu.byte-new in
          let z : suc (suc k) ≡ suc (suc l) = sym e ∙ ap w.level1 q ∙ hu.level-new in
          let zl : suc l ≡ suc k = omega arith in
          record {
            in-range = rw ep at.in-range;
            level = ap w.level1 ep ∙ hu.level-else n (not_f n l at.level) ∙ at.level ∙ zl;
            byte = rw eb hx;
            is_set = ap₂ w.bit ep eb ∙ hu.bit-here;
            is-child = ap₂ w.child ep eb ∙ hu.child-here ∙ sym q;
          }
      up k m hm e (no ne) = kept k m ne (wf.up k m hm (sym (hu.level-else m ne) ∙ e))

  pub root-hung : (m : ℕ) → Root v N m → Root w N m
  root-hung m rt = record { in-range = rt.in-range; level = hu.level-else m (not_f m 0 rt.level) ∙ rt.level }

  module _ (m : ℕ) (g : ℕ → ℕ) (hg : Bytes g) (rt : Root v N m) where
    -- along a path of v the nodes are the same, and the bits
    pub follow-hung : (k : ℕ) → k ≤ b → Path v m g k → follow w m g k ≡ follow v m g k
    follow-hung zero h p = refl
    follow-hung (suc k) h p =
        let e : follow w m g k ≡ follow v m g k = follow-hung k (omega arith) (λ i q. p i (omega arith)) in
        ap (λ (u : ℕ). w.child u (g k)) e ∙ hu.child-else (follow v m g k) (g k) (hg k) (set_else (follow v m g k) (g k) (p k (omega arith)))

    pub path-hung : (k : ℕ) → k ≤ b → Path v m g k → Path w m g k
    path-hung k h p i q =
        let a : At v N i (follow v m g i) = reach v N b wf.down m g (root-at rt) hg i (omega arith) (λ j z. p j (omega arith)) in
        ap (λ (u : ℕ). w.bit u (g i)) (follow-hung i (omega arith) (λ j z. p j (omega arith)))
        ∙ hu.bit-else (follow v m g i) (g i) (hg i) (not_f (follow v m g i) i a.level) (set_else (follow v m g i) (g i) (p i q)) ∙ p i q

    -- a whole path of w is one of v: it did not go through f, whose map is empty
    module _ (p : Path w m g b) where
      next : (k : ℕ) → k < b → Path v m g k → v.bit (follow v m g k) (g k) ≡ 1
      next k h q = go (both? (follow v m g k) n (g k) x)
        where
          a : At v N k (follow v m g k)
          a = reach v N b wf.down m g (root-at rt) hg k h q

          same : follow w m g k ≡ follow v m g k
          same = follow-hung k (omega arith) q

          go : Dec ((follow v m g k ≡ n) × (g k ≡ x)) → v.bit (follow v m g k) (g k) ≡ 1
          go (yes e) =
              let z : suc k ≡ suc l = sym a.level ∙ ap v.level1 e.0 ∙ at.level in
              let there : follow w m g (suc k) ≡ f = ap₂ w.child (same ∙ e.0) e.1 ∙ hu.child-here in
              let no-bit : ◌≡◌ {A = ℕ} 1 0 = sym (p (suc k) (omega arith)) ∙ ap (λ (u : ℕ). w.bit u (g (suc k))) there ∙ hu.bit-new (g (suc k)) (hg (suc k)) in
              absurd (omega arith)
          go (no ne) =
              sym (hu.bit-else (follow v m g k) (g k) (hg k) (not_f (follow v m g k) k a.level) ne) ∙ ap (λ (u : ℕ). w.bit u (g k)) (sym same) ∙ p k h

      path-back : (k : ℕ) → k ≤ b → Path v m g k
      path-back zero h = λ i q. absurd (omega arith)
      path-back (suc k) h = below_suc (λ i. v.bit (follow v m g i) (g i) ≡ 1) k (path-back k (omega arith)) (next k h (path-back k (omega arith)))

  pub stay-hung : Stay v w N b
  stay-hung = record {
    root = root-hung;
    container = λ m rt. hu.parent-else m (not_f m 0 rt.level);
    suffixes = λ m rt. same_lists v w b m (λ t h p. path-hung m (byte_of b t) (byte-lt b t) rt b (omega arith) p) (λ t h p. path-back m (byte_of b t) (byte-lt b t) rt p b (omega arith));
    no-new = λ m rt. record { in-range = rt.in-range; level = sym (hu.level-else m (old-root m rt.level)) ∙ rt.level };
  }
    where
      old-root : (m : ℕ) → w.level1 m ≡ 1 → m ≢ f
      old-root m e q = let z : ◌≡◌ {A = ℕ} 1 (suc (suc l)) = sym e ∙ ap w.level1 q ∙ hu.level-new in omega arith
