-- The suffixes of a trie of S bits are below 2^S exactly if the bytes of its root are below 2^(S - 8 (b - 1)): no map is empty, so each byte leads a suffix. Assumes nothing.
use Prim.Native.Nat.{ℕ, suc, ◌+◌, ◌-◌, ◌*◌, ◌/◌, ◌^◌, ◌<◌, ◌≤◌}
use mathlib.Core.Path.{◌≡◌, sym, ap, ◌∙◌, subst}
use mathlib.Core.Bool.{true}
use native.Mathlib.Omega.{arith}
use native.Mathlib.Nat.{div-lt_iff_lt-mul, mod-eq_of_lt}
use lib.Pow.{pow-add, pow_pos, shr_lt}
use Rattle.lists.specs.Lists.{mem}
use Rattle.lists.proofs.Laws.{Source, source}
use Rattle.model.specs.Words.{bytes_of}
use Rattle.region.specs.Nodes.{Nodes}
use Rattle.region.specs.Tries.{byte_of, members, Path}
use Rattle.region.specs.WellFormed.{AllNonEmpty, Children}
use Rattle.region.proofs.Bytes.{pow-bytes, byte-first}
use Rattle.region.proofs.Paths.{At, more-path}
use Rattle.region.proofs.Listing.{member-path, member-small}
use Rattle.region.proofs.Leading.{heads, path-heads}

-- the bytes in the map of node n are below end
abbrev pub BytesBelow : Nodes → ℕ → ℕ → Type 0
BytesBelow v n end = (x : ℕ) → x < 256 → v.bit n x ≡ 1 → x < end

-- the suffixes of the trie of b levels with the root n are below end
abbrev pub AllBelow : Nodes → ℕ → ℕ → ℕ → Type 0
AllBelow v b n end = (s : ℕ) → mem s (members v b n) ≡ true → s < end

-- d + 1 levels, and t bits of the first byte
module _ (v : Nodes) (d t n : ℕ) where
  small-down : BytesBelow v n (2 ^ t) → AllBelow v (suc d) n (2 ^ (t + 8 * d))
  small-down h s i =
      let e : 8 * suc d ≡ 8 + 8 * d = omega arith in
      let hs : s / 2 ^ (8 * d) < 2 ^ 8 = shr_lt 8 (8 * d) (subst (λ (k : ℕ). s < 2 ^ k) e (member-small v (suc d) n s i)) in
      let eb : byte_of (suc d) s 0 ≡ s / 2 ^ (8 * d) = byte-first d s ∙ mod-eq_of_lt hs in
      let lt : s / 2 ^ (8 * d) < 2 ^ t = h (s / 2 ^ (8 * d)) hs (ap (v.bit n) (sym eb) ∙ member-path v (suc d) n s i 0 (omega arith)) in
      subst (λ (k : ℕ). s < k) (sym (pow-add 2 t (8 * d))) ((div-lt_iff_lt-mul (pow_pos (8 * d))).0 lt)

  small-up : (N : ℕ) → Children v N (suc d) → AllNonEmpty v N → At v N 0 n → AllBelow v (suc d) n (2 ^ (t + 8 * d)) → BytesBelow v n (2 ^ t)
  small-up N down full rt h x hx e =
      let o : 0 * 256 + x ≡ x = omega arith in
      let p : Path v n (byte_of 1 x) 1 = subst (λ (k : ℕ). Path v n (byte_of 1 k) 1) o (more-path v n 0 0 x hx (λ j l. absurd (omega arith)) e) in
      let i : mem x (heads v (suc d) n 1) ≡ true = path-heads v N (suc d) down full n rt 1 x (omega arith) hx p in
      let a : Source (λ s. s / 256 ^ (suc d - 1)) (members v (suc d) n) x = source (λ s. s / 256 ^ (suc d - 1)) x (members v (suc d) n) i in
      let z : suc d - 1 ≡ d = omega arith in
      let ex : a.from / 2 ^ (8 * d) ≡ x = ap (λ (k : ℕ). a.from / k) (sym (pow-bytes d)) ∙ ap (λ (k : ℕ). a.from / 256 ^ k) (sym z) ∙ a.is in
      subst (λ (k : ℕ). k < 2 ^ t) ex (shr_lt t (8 * d) (h a.from a.there))

module _ (v : Nodes) (S n end : ℕ) (some : 1 ≤ S) (is : end ≡ 2 ^ (S - 8 * (bytes_of S - 1))) where
  abbrev d : ℕ
  d = bytes_of S - 1

  levels : suc d ≡ bytes_of S
  levels = omega arith

  bits : (S - 8 * d) + 8 * d ≡ S
  bits = omega arith

  pub bytes-suffixes : BytesBelow v n end → AllBelow v (bytes_of S) n (2 ^ S)
  bytes-suffixes h =
      subst (λ (b : ℕ). AllBelow v b n (2 ^ S)) levels
      (subst (λ (k : ℕ). AllBelow v (suc d) n (2 ^ k)) bits (small-down v d (S - 8 * d) n (subst (BytesBelow v n) is h)))

  pub suffixes-bytes : (N : ℕ) → Children v N (bytes_of S) → AllNonEmpty v N → At v N 0 n → AllBelow v (bytes_of S) n (2 ^ S) → BytesBelow v n end
  suffixes-bytes N down full rt h =
      subst (BytesBelow v n) (sym is)
      (small-up v d (S - 8 * d) n N (subst (Children v N) (sym levels) down) full rt
      (subst (λ (k : ℕ). AllBelow v (suc d) n (2 ^ k)) (sym bits) (subst (λ (b : ℕ). AllBelow v b n (2 ^ S)) (sym levels) h)))
