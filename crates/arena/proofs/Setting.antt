-- One bit of a last-level node: made 1 it adds one suffix, made 0 it takes one away, since two paths that meet there are one. Assumes nothing.
use Prim.Native.Nat.{ℕ, zero, suc, ◌*◌, ◌^◌, ◌≤◌, ◌<◌}
use mathlib.Core.Path.{◌≡◌, refl, sym, ap, ap₂, ◌∙◌, subst}
use mathlib.Core.Logic.{◌≢◌, ◌⊎◌, inl, inr, ⊎_elim}
use mathlib.Core.Bool.{true, false}
use native.Mathlib.Omega.{arith}
use lib.Dec.{eqb}
use borrow.Author.Tests.{eqb-true, eq-eqb}
use Rattle.lists.specs.Lists.{mem, put, without}
use Rattle.lists.proofs.Laws.{iff-eq, not-true-false, or_left, or_right, or_cases, mem-put, ascending-put, ascending-unique}
use Rattle.region.specs.Nodes.{Nodes}
use Rattle.region.specs.Tries.{byte_of, members, follow, Path}
use Rattle.region.specs.WellFormed.{Child}
use Rattle.region.specs.Linked.{Above, Wf}
use Rattle.region.proofs.Bytes.{byte-lt, bytes-inj}
use Rattle.region.proofs.Paths.{At, reach, meet}
use Rattle.region.proofs.Listing.{members-ascend, path-member, member-path, member-small}
use Rattle.arena.specs.Arena.{Root, OthersStay}
use Rattle.arena.specs.Changes.{BitMade}
use Rattle.arena.proofs.Putting.{without-put}
use Rattle.arena.proofs.Stays.{Bytes, root-at, both?, below_suc, same_lists}

pub bit-back : {v w : Nodes} {n x d : ℕ} (e : ℕ) → BitMade v n x d w → v.bit n x ≡ e → BitMade w n x e v
bit-back e st h = record {
  here = h;
  else = λ m y hy ne. sym (st.else m y hy ne);
  child = λ m y hy. sym (st.child m y hy);
  level = λ m. sym (st.level m);
  parent = λ m. sym (st.parent m);
  byte = λ m. sym (st.byte m);
}

-- a bit of node n, at the last level k, made d
module _ (v w : Nodes) (N k n x d : ℕ) (wf : Wf v N (suc k)) (at : At v N k n) (st : BitMade v n x d w) where
  -- a node of an upper level is another one
  upper : (l m : ℕ) → l < k → v.level1 m ≡ suc l → m ≢ n
  upper l m h e q = let z : suc l ≡ suc k = sym e ∙ ap v.level1 q ∙ at.level in omega arith

  pub wf-bit : Wf w N (suc k)
  wf-bit = record {
    levels = λ m hm. rw (st.level m) (wf.levels m hm);
    down = λ l m y hm e hl hy s. moved l m y hy
        (wf.down l m y hm (sym (st.level m) ∙ e) hl hy (sym (st.else m y hy (λ q. upper l m (omega arith) (sym (st.level m) ∙ e) q.0)) ∙ s));
    up = λ l m hm e. kept l m (omega (arith, st.level m, wf.levels m hm)) (wf.up l m hm (sym (st.level m) ∙ e));
  }
    where
      moved : (l m y : ℕ) → y < 256 → Child v N l m y (v.child m y) → Child w N l m y (w.child m y)
      moved l m y hy d = subst (Child w N l m y) (sym (st.child m y hy)) record {
        in-range = d.in-range;
        level = st.level (v.child m y) ∙ d.level;
        parent = st.parent (v.child m y) ∙ d.parent;
        byte = st.byte (v.child m y) ∙ d.byte;
      }

      kept : (l m : ℕ) → l < k → Above v N l m → Above w N l m
      kept l m h a = record {
        in-range = rw (st.parent m) a.in-range;
        level = st.level (w.parent m) ∙ ap v.level1 (st.parent m) ∙ a.level;
        byte = rw (st.byte m) a.byte;
        is_set = ap₂ w.bit (st.parent m) (st.byte m) ∙ st.else (v.parent m) (v.byte m) a.byte (λ z. upper l (v.parent m) h a.level z.0) ∙ a.is_set;
        is-child = ap₂ w.child (st.parent m) (st.byte m) ∙ st.child (v.parent m) (v.byte m) a.byte ∙ a.is-child;
      }

  pub at-bit : (l m : ℕ) → At v N l m → At w N l m
  at-bit l m a = record { in-range = a.in-range; level = st.level m ∙ a.level }

  module _ (m : ℕ) (f : ℕ → ℕ) (hf : Bytes f) where
    pub follow-bit : (i : ℕ) → follow w m f i ≡ follow v m f i
    follow-bit zero = refl
    follow-bit (suc i) = st.child (follow w m f i) (f i) (hf i) ∙ ap (λ (z : ℕ). v.child z (f i)) (follow-bit i)

    -- above the last level nothing changed
    pub path-bit : At v N 0 m → (i : ℕ) → i ≤ k → Path v m f i → Path w m f i
    path-bit rt i h p j l =
        let a : At v N j (follow v m f j) = reach v N (suc k) wf.down m f rt hf j (omega arith) (λ u q. p u (omega arith)) in
        ap (λ (z : ℕ). w.bit z (f j)) (follow-bit j) ∙ st.else (follow v m f j) (f j) (hf j) (λ q. upper j (follow v m f j) (omega arith) a.level q.0) ∙ p j l

-- the bit of s, to which a path leads from the root n, is set
module _ (v w : Nodes) (N k n s : ℕ) (wf : Wf v N (suc k)) (rt : Root v N n) (hs : s < 2 ^ (8 * suc k))
    (path : Path v n (byte_of (suc k) s) k) (st : BitMade v (follow v n (byte_of (suc k) s) k) (byte_of (suc k) s k) 1 w) where
  abbrev bs : ℕ → ℕ → ℕ
  bs t = byte_of (suc k) t

  abbrev n₀ : ℕ
  n₀ = follow v n (byte_of (suc k) s) k

  at : At v N k n₀
  at = reach v N (suc k) wf.down n (bs s) (root-at rt) (byte-lt (suc k) s) k (omega arith) path

  follow-set : (m t i : ℕ) → follow w m (bs t) i ≡ follow v m (bs t) i
  follow-set m t i = follow-bit v w N k n₀ (bs s k) 1 wf at st m (bs t) (byte-lt (suc k) t) i

  -- a set bit stays set
  mono : (m y : ℕ) → y < 256 → v.bit m y ≡ 1 → w.bit m y ≡ 1
  mono m y hy e = pick (both? m n₀ y (bs s k))
    where
      pick : Dec ((m ≡ n₀) × (y ≡ bs s k)) → w.bit m y ≡ 1
      pick (yes q) = ap₂ w.bit q.0 q.1 ∙ st.here
      pick (no q) = st.else m y hy q ∙ e

  kept : (m t : ℕ) → Path v m (bs t) (suc k) → Path w m (bs t) (suc k)
  kept m t q i l = ap (λ (z : ℕ). w.bit z (bs t i)) (follow-set m t i) ∙ mono (follow v m (bs t) i) (bs t i) (byte-lt (suc k) t i) (q i l)

  added : Path w n (bs s) (suc k)
  added =
      below_suc (λ i. w.bit (follow w n (bs s) i) (bs s i) ≡ 1) k (path-bit v w N k n₀ (bs s k) 1 wf at st n (bs s) (byte-lt (suc k) s) (root-at rt) k (omega arith) path)
      (ap (λ (z : ℕ). w.bit z (bs s k)) (follow-set n s k) ∙ st.here)

  only : (m t : ℕ) → Root v N m → t < 2 ^ (8 * suc k) → Path w m (bs t) (suc k) → Path v m (bs t) (suc k) ⊎ ((m ≡ n) × (t ≡ s))
  only m t rm ht q = pick (both? (follow v m (bs t) k) n₀ (bs t k) (bs s k))
    where
      back : BitMade w n₀ (bs s k) (v.bit n₀ (bs s k)) v
      back = bit-back (v.bit n₀ (bs s k)) st refl

      before : Path v m (bs t) k
      before = path-bit w v N k n₀ (bs s k) (v.bit n₀ (bs s k)) (wf-bit v w N k n₀ (bs s k) 1 wf at st) (at-bit v w N k n₀ (bs s k) 1 wf at st k n₀ at) back m (bs t) (byte-lt (suc k) t)
          (at-bit v w N k n₀ (bs s k) 1 wf at st 0 m (root-at rm)) k (omega arith) (λ i l. q i (omega arith))

      pick : Dec ((follow v m (bs t) k ≡ n₀) × (bs t k ≡ bs s k)) → Path v m (bs t) (suc k) ⊎ ((m ≡ n) × (t ≡ s))
      pick (yes e) =
          let r : (m ≡ n) × ((i : ℕ) → i < k → bs t i ≡ bs s i) =
          meet v N (suc k) wf.down m n (bs t) (bs s) (root-at rm) (root-at rt) (byte-lt (suc k) t) (byte-lt (suc k) s) k (omega arith) before path e.0 in
          inr (r.0, bytes-inj (suc k) t s ht hs (below_suc (λ i. bs t i ≡ bs s i) k r.1 e.1))
      pick (no ne) =
          inl (below_suc (λ i. v.bit (follow v m (bs t) i) (bs t i) ≡ 1) k before
          (sym (st.else (follow v m (bs t) k) (bs t k) (byte-lt (suc k) t k) ne) ∙ ap (λ (z : ℕ). w.bit z (bs t k)) (sym (follow-set m t k)) ∙ q k (omega arith)))

  pub set-others : OthersStay v w N (suc k) n
  set-others = record {
    root = λ m ne r. record { in-range = r.in-range; level = st.level m ∙ r.level };
    container = λ m ne r. st.parent m;
    suffixes = λ m ne r. same_lists v w (suc k) m (λ t h. kept m t) (λ t h q. ⊎_elim (λ p. p) (λ e. absurd (ne e.0)) (only m t r h q));
    no-new = λ m ne r. record { in-range = r.in-range; level = sym (st.level m) ∙ r.level };
  }

  pub set-suffixes : members w (suc k) n ≡ put s (members v (suc k) n)
  set-suffixes =
      ascending-unique (members w (suc k) n) (put s (members v (suc k) n)) (members-ascend w (suc k) n) (ascending-put s (members v (suc k) n) (members-ascend v (suc k) n)) (λ t. iff-eq (mem t (members w (suc k) n)) (mem t (put s (members v (suc k) n))) (to t) (from t))
    where
      to : (t : ℕ) → mem t (members w (suc k) n) ≡ true → mem t (put s (members v (suc k) n)) ≡ true
      to t i =
          let h = member-small w (suc k) n t i in
          mem-put t s (members v (suc k) n) ∙ ⊎_elim (λ p. or_right (eqb t s) (mem t (members v (suc k) n)) (path-member v (suc k) n t h p)) (λ e. or_left (eqb t s) (mem t (members v (suc k) n)) (eq-eqb t s e.1))
          (only n t rt h (member-path w (suc k) n t i))

      from : (t : ℕ) → mem t (put s (members v (suc k) n)) ≡ true → mem t (members w (suc k) n) ≡ true
      from t i =
          or_cases (eqb t s) (mem t (members v (suc k) n)) (sym (mem-put t s (members v (suc k) n)) ∙ i)
          (λ e. subst (λ (z : ℕ). mem z (members w (suc k) n) ≡ true) (sym (eqb-true t s e)) (path-member w (suc k) n s hs added))
          (λ j. path-member w (suc k) n t (member-small v (suc k) n t j) (kept n t (member-path v (suc k) n t j)))

-- the bit of s is cleared: read backwards, it is set
module _ (v w : Nodes) (N k n s : ℕ) (wf : Wf v N (suc k)) (rt : Root v N n) (hs : s < 2 ^ (8 * suc k))
    (path : Path v n (byte_of (suc k) s) k) (was : v.bit (follow v n (byte_of (suc k) s) k) (byte_of (suc k) s k) ≡ 1)
    (st : BitMade v (follow v n (byte_of (suc k) s) k) (byte_of (suc k) s k) 0 w) where
  abbrev n₁ : ℕ
  n₁ = follow v n (byte_of (suc k) s) k

  at₁ : At v N k n₁
  at₁ = reach v N (suc k) wf.down n (byte_of (suc k) s) (root-at rt) (byte-lt (suc k) s) k (omega arith) path

  follow-clear : (i : ℕ) → follow w n (byte_of (suc k) s) i ≡ follow v n (byte_of (suc k) s) i
  follow-clear = follow-bit v w N k n₁ (byte_of (suc k) s k) 0 wf at₁ st n (byte_of (suc k) s) (byte-lt (suc k) s)

  pub path-clear : Path w n (byte_of (suc k) s) k
  path-clear = path-bit v w N k n₁ (byte_of (suc k) s k) 0 wf at₁ st n (byte_of (suc k) s) (byte-lt (suc k) s) (root-at rt) k (omega arith) path

  pub root-clear : Root w N n
  root-clear = record { in-range = rt.in-range; level = st.level n ∙ rt.level }

  back : BitMade w (follow w n (byte_of (suc k) s) k) (byte_of (suc k) s k) 1 v
  back = rw (follow-clear k) (bit-back 1 st was)

  abbrev wf' : Wf w N (suc k)
  wf' = wf-bit v w N k n₁ (byte_of (suc k) s k) 0 wf at₁ st

  gone : mem s (members w (suc k) n) ≡ false
  gone = not-true-false (mem s (members w (suc k) n)) (λ i.
      let z : ◌≡◌ {A = ℕ} 1 0 = sym (member-path w (suc k) n s i k (omega arith)) ∙ ap (λ (u : ℕ). w.bit u (byte_of (suc k) s k)) (follow-clear k) ∙ st.here in omega arith)

  pub clear-suffixes : members w (suc k) n ≡ without s (members v (suc k) n)
  clear-suffixes = sym (ap (without s) (set-suffixes w v N k n s wf' root-clear hs path-clear back) ∙ without-put s (members w (suc k) n) (members-ascend w (suc k) n) gone)

  pub clear-others : OthersStay v w N (suc k) n
  clear-others =
      let o : OthersStay w v N (suc k) n = set-others w v N k n s wf' root-clear hs path-clear back in
      record { root = o.no-new; container = λ m ne r. st.parent m; suffixes = λ m ne r. sym (o.suffixes m ne (o.no-new m ne r)); no-new = o.root }
