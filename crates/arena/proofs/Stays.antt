-- What a change leaves of the tries: said of all of them it composes, and paths that stay give lists that stay. Assumes nothing.
use Prim.Native.Nat.{ℕ, suc, ◌*◌, ◌^◌, ◌<◌}
use mathlib.Core.Path.{◌≡◌, refl, sym, subst, ◌∙◌}
use native.Mathlib.Omega.{arith}
use native.Mathlib.Decide.{ℕ_discrete}
use Rattle.lists.specs.Lists.{mem}
use Rattle.lists.proofs.Laws.{iff-eq, ascending-unique}
use Rattle.region.specs.Nodes.{Nodes}
use Rattle.region.specs.Tries.{byte_of, members, Path}
use Rattle.region.proofs.Paths.{At}
use Rattle.region.proofs.Listing.{members-ascend, path-member, member-path, member-small}
use Rattle.arena.specs.Arena.{Root, OthersStay}

-- bytes are below 256
abbrev pub Bytes : (ℕ → ℕ) → Type 0
Bytes f = (i : ℕ) → f i < 256

pub root-at : {v : Nodes} {N n : ℕ} → Root v N n → At v N 0 n
root-at r = record { in-range = r.in-range; level = r.level }

pub both? : (a b c d : ℕ) → Dec ((a ≡ b) × (c ≡ d))
both? a b c d = pick (ℕ_discrete a b) (ℕ_discrete c d)
  where
    pick : Dec (a ≡ b) → Dec (c ≡ d) → Dec ((a ≡ b) × (c ≡ d))
    pick (yes p) (yes q) = yes (p, q)
    pick (yes p) (no q) = no (λ h. q h.1)
    pick (no p) d = no (λ h. p h.0)

-- what holds below k and at k holds below k + 1
pub below_suc : (P : ℕ → Type 0) (k : ℕ) → ((i : ℕ) → i < k → P i) → P k → (i : ℕ) → i < suc k → P i
below_suc P k h hk i l = pick (ℕ_discrete i k)
  where
    pick : Dec (i ≡ k) → P i
    pick (yes e) = subst P (sym e) hk
    pick (no ne) = h i (omega arith)

-- every trie stays: its root, its container and its suffixes; and no root is new
pub record Stay (v w : Nodes) (N b : ℕ) : Type 0 where
  pub root : (m : ℕ) → Root v N m → Root w N m
  pub container : (m : ℕ) → Root v N m → w.parent m ≡ v.parent m
  pub suffixes : (m : ℕ) → Root v N m → members w b m ≡ members v b m
  pub no-new : (m : ℕ) → Root w N m → Root v N m

pub stay-refl : (v : Nodes) (N b : ℕ) → Stay v v N b
stay-refl v N b = record { root = λ m r. r; container = λ m r. refl; suffixes = λ m r. refl; no-new = λ m r. r }

pub stay-trans : {u v w : Nodes} {N b : ℕ} → Stay u v N b → Stay v w N b → Stay u w N b
stay-trans p q = record {
  root = λ m r. q.root m (p.root m r);
  container = λ m r. q.container m (p.root m r) ∙ p.container m r;
  suffixes = λ m r. q.suffixes m (p.root m r) ∙ p.suffixes m r;
  no-new = λ m r. p.no-new m (q.no-new m r);
}

pub stay-others : {v w : Nodes} {N b : ℕ} (n : ℕ) → Stay v w N b → OthersStay v w N b n
stay-others n s = record { root = λ m ne. s.root m; container = λ m ne. s.container m; suffixes = λ m ne. s.suffixes m; no-new = λ m ne. s.no-new m }

pub others-trans : {u v w : Nodes} {N b n : ℕ} → OthersStay u v N b n → OthersStay v w N b n → OthersStay u w N b n
others-trans p q = record {
  root = λ m ne r. q.root m ne (p.root m ne r);
  container = λ m ne r. q.container m ne (p.root m ne r) ∙ p.container m ne r;
  suffixes = λ m ne r. q.suffixes m ne (p.root m ne r) ∙ p.suffixes m ne r;
  no-new = λ m ne r. p.no-new m ne (q.no-new m ne r);
}

-- the same whole paths give the same list
pub same_lists : (v w : Nodes) (b m : ℕ) → ((t : ℕ) → t < 2 ^ (8 * b) → Path v m (byte_of b t) b → Path w m (byte_of b t) b)
    → ((t : ℕ) → t < 2 ^ (8 * b) → Path w m (byte_of b t) b → Path v m (byte_of b t) b) → members w b m ≡ members v b m
same_lists v w b m to from = ascending-unique (members w b m) (members v b m) (members-ascend w b m) (members-ascend v b m) (λ t. iff-eq (mem t (members w b m)) (mem t (members v b m))
    (λ i. let h = member-small w b m t i in path-member v b m t h (from t h (member-path w b m t i)))
    (λ i. let h = member-small v b m t i in path-member w b m t h (to t h (member-path v b m t i))))
