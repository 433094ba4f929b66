-- Paths in nodes whose children link back: where a path leads, that two paths which meet are one, and the path that back links give. Assumes nothing.
use Prim.Native.Nat.{ℕ, zero, suc, ◌+◌, ◌*◌, ◌^◌, ◌<◌}
use mathlib.Core.Path.{◌≡◌, refl, sym, ap, ap₂, ◌∙◌, subst}
use native.Mathlib.Omega.{arith}
use native.Mathlib.Decide.{ℕ_discrete}
use Rattle.region.specs.Nodes.{Nodes}
use Rattle.region.specs.Tries.{byte_of, follow, Path}
use Rattle.region.specs.WellFormed.{Child, Children}
use Rattle.region.specs.Linked.{Above}
use Rattle.region.proofs.Bytes.{more-old, more-new, more-small}

-- what holds below k and at k holds below k + 1
below_suc : (P : ℕ → Type 0) (k : ℕ) → ((i : ℕ) → i < k → P i) → P k → (i : ℕ) → i < suc k → P i
below_suc P k h hk i l = pick (ℕ_discrete i k)
  where
    pick : Dec (i ≡ k) → P i
    pick (yes e) = subst P (sym e) hk
    pick (no ne) = h i (omega arith)

-- only the bytes passed matter
pub follow-ext : (v : Nodes) (n : ℕ) (f g : ℕ → ℕ) (k : ℕ) → ((i : ℕ) → i < k → f i ≡ g i) → follow v n f k ≡ follow v n g k
follow-ext v n f g zero h = refl
follow-ext v n f g (suc k) h = ap₂ v.child (follow-ext v n f g k (λ i l. h i (omega arith))) (h k (omega arith))

pub path-ext : (v : Nodes) (n : ℕ) (f g : ℕ → ℕ) (k : ℕ) → ((i : ℕ) → i < k → f i ≡ g i) → Path v n f k → Path v n g k
path-ext v n f g k h p i l = sym (ap₂ v.bit (follow-ext v n f g i (λ j q. h j (omega arith))) (h i l)) ∙ p i l

-- a string q of k bytes and one byte y more
module _ (v : Nodes) (m k q y : ℕ) (hy : y < 256) where
  more_same : follow v m (byte_of (suc k) (q * 256 + y)) k ≡ follow v m (byte_of k q) k
  more_same = sym (follow-ext v m (byte_of k q) (byte_of (suc k) (q * 256 + y)) k (more-old k q y hy))

  more-there : follow v m (byte_of (suc k) (q * 256 + y)) (suc k) ≡ v.child (follow v m (byte_of k q) k) y
  more-there = ap₂ v.child more_same (more-new k q y hy)

  pub more-path : Path v m (byte_of k q) k → v.bit (follow v m (byte_of k q) k) y ≡ 1 → Path v m (byte_of (suc k) (q * 256 + y)) (suc k)
  more-path p e =
      below_suc (λ i. v.bit (follow v m (byte_of (suc k) (q * 256 + y)) i) (byte_of (suc k) (q * 256 + y) i) ≡ 1) k
      (path-ext v m (byte_of k q) (byte_of (suc k) (q * 256 + y)) k (more-old k q y hy) p)
      (ap₂ v.bit more_same (more-new k q y hy) ∙ e)

-- node n is in use at level k
pub record At (v : Nodes) (N k n : ℕ) : Type 0 where
  pub in-range : n < N
  pub level : v.level1 n ≡ suc k

module _ (v : Nodes) (N b : ℕ) (down : Children v N b) where
  -- a path of k steps leads to a node in use at level k
  pub reach : (n : ℕ) (f : ℕ → ℕ) → At v N 0 n → ((i : ℕ) → f i < 256) → (k : ℕ) → k < b → Path v n f k → At v N k (follow v n f k)
  reach n f rt hf zero h p = rt
  reach n f rt hf (suc k) h p =
      let a : At v N k (follow v n f k) = reach n f rt hf k (omega arith) (λ i l. p i (omega arith)) in
      let d : Child v N k (follow v n f k) (f k) (follow v n f (suc k)) = down k (follow v n f k) (f k) a.in-range a.level h (hf k) (p k (omega arith)) in
      record { in-range = d.in-range; level = d.level }

  -- what the last step of a path says
  pub last : (n : ℕ) (f : ℕ → ℕ) → At v N 0 n → ((i : ℕ) → f i < 256) → (k : ℕ) → suc k < b → Path v n f (suc k) → Child v N k (follow v n f k) (f k) (follow v n f (suc k))
  last n f rt hf k h p =
      let a : At v N k (follow v n f k) = reach n f rt hf k (omega arith) (λ i l. p i (omega arith)) in
      down k (follow v n f k) (f k) a.in-range a.level h (hf k) (p k (omega arith))

  -- two paths as long that meet are one: the roots are equal, and so are the bytes
  pub meet : (n n' : ℕ) (f f' : ℕ → ℕ) → At v N 0 n → At v N 0 n' → ((i : ℕ) → f i < 256) → ((i : ℕ) → f' i < 256) → (k : ℕ) → k < b → Path v n f k → Path v n' f' k
      → follow v n f k ≡ follow v n' f' k → (n ≡ n') × ((i : ℕ) → i < k → f i ≡ f' i)
  meet n n' f f' rt rt' hf hf' zero h p p' e = (e, λ i l. absurd (omega arith))
  meet n n' f f' rt rt' hf hf' (suc k) h p p' e =
      let d : Child v N k (follow v n f k) (f k) (follow v n f (suc k)) = last n f rt hf k h p in
      let d' : Child v N k (follow v n' f' k) (f' k) (follow v n' f' (suc k)) = last n' f' rt' hf' k h p' in
      let r : (n ≡ n') × ((i : ℕ) → i < k → f i ≡ f' i) =
      meet n n' f f' rt rt' hf hf' k (omega arith) (λ i l. p i (omega arith)) (λ i l. p' i (omega arith)) (sym d.parent ∙ ap v.parent e ∙ d'.parent) in
      (r.0, below_suc (λ i. f i ≡ f' i) k r.1 (sym d.byte ∙ ap v.byte e ∙ d'.byte))

-- a string of k bytes that leads to n from a root
pub record Led (v : Nodes) (N k n : ℕ) : Type 0 where
  pub root : ℕ
  pub is-root : At v N 0 root
  pub lead : ℕ
  pub small : lead < 2 ^ (8 * k)
  pub path : Path v root (byte_of k lead) k
  pub there : follow v root (byte_of k lead) k ≡ n

pub led : (v : Nodes) (N : ℕ) → ((l n : ℕ) → n < N → v.level1 n ≡ suc (suc l) → Above v N l n) → (k n : ℕ) → At v N k n → Led v N k n
led v N up zero n a = record { root = n; is-root = a; lead = 0; small = omega arith; path = λ i l. absurd (omega arith); there = refl }
led v N up (suc k) n a =
    let u : Above v N k n = up k n a.in-range a.level in
    let p : Led v N k (v.parent n) = led v N up k (v.parent n) (record { in-range = u.in-range; level = u.level }) in
    record {
      root = p.root;
      is-root = p.is-root;
      lead = p.lead * 256 + v.byte n;
      small = more-small k p.lead (v.byte n) u.byte p.small;
      path = more-path v p.root k p.lead (v.byte n) u.byte p.path (ap (λ (z : ℕ). v.bit z (v.byte n)) p.there ∙ u.is_set);
      there = more-there v p.root k p.lead (v.byte n) u.byte ∙ ap (λ (z : ℕ). v.child z (v.byte n)) p.there ∙ u.is-child;
    }
