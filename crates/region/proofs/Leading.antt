-- In a trie without empty maps, the strings that lead to its nodes are the leading bytes of its suffixes. Assumes nothing.
use Prim.Native.Nat.{ℕ, zero, suc, ◌+◌, ◌-◌, ◌*◌, ◌/◌, ◌^◌, ◌≤◌, ◌<◌}
use mathlib.Core.Path.{◌≡◌, sym, ap, ◌∙◌, subst}
use mathlib.Core.Bool.{true}
use mathlib.Core.List.{List, map}
use native.Mathlib.Omega.{arith}
use lib.Arith.{digits_div}
use lib.Pow.{shr-shr, shr_lt}
use Rattle.lists.specs.Lists.{mem}
use Rattle.lists.proofs.Laws.{mem-map, Source, source}
use Rattle.region.specs.Nodes.{Nodes}
use Rattle.region.specs.Tries.{byte_of, members, follow, Path}
use Rattle.region.specs.WellFormed.{AllNonEmpty, Children, NonEmpty}
use Rattle.region.proofs.Bytes.{pow-bytes, byte-lt, byte-lead, more-small}
use Rattle.region.proofs.Paths.{At, path-ext, more-path, reach}
use Rattle.region.proofs.Listing.{path-member, member-path, member-small}

-- the leading j bytes of the suffixes of the trie of b levels with the root m
abbrev pub heads : Nodes → ℕ → ℕ → ℕ → List ℕ
heads v b m j = map (λ s. s / 256 ^ (b - j)) (members v b m)

module _ (v : Nodes) (b m j : ℕ) (hj : j ≤ b) (q : ℕ) (h : mem q (heads v b m j) ≡ true) where
  from : Source (λ s. s / 256 ^ (b - j)) (members v b m) q
  from = source (λ s. s / 256 ^ (b - j)) q (members v b m) h

  lead : from.from / 2 ^ (8 * (b - j)) ≡ q
  lead = ap (λ (z : ℕ). from.from / z) (sym (pow-bytes (b - j))) ∙ from.is

  pub heads-small : q < 2 ^ (8 * j)
  heads-small =
      let e : 8 * b ≡ 8 * j + 8 * (b - j) = omega arith in
      subst (λ (z : ℕ). z < 2 ^ (8 * j)) lead (shr_lt (8 * j) (8 * (b - j)) (subst (λ (c : ℕ). from.from < 2 ^ c) e (member-small v b m from.from from.there)))

  pub heads-path : Path v m (byte_of j q) j
  heads-path =
      path-ext v m (byte_of b from.from) (byte_of j q) j (λ i l. byte-lead b j from.from i hj l ∙ ap (λ (z : ℕ). byte_of j z i) lead)
      (λ i l. member-path v b m from.from from.there i (omega arith))

-- a suffix whose leading k bytes are q
record Leader (v : Nodes) (b m k q : ℕ) : Type 0 where
  pub member : ℕ
  pub there : mem member (members v b m) ≡ true
  pub leads : member / 2 ^ (8 * (b - k)) ≡ q

leader-up : {v : Nodes} {b m k q y : ℕ} → k < b → y < 256 → Leader v b m (suc k) (q * 256 + y) → Leader v b m k q
leader-up {b = b} {k = k} {q = q} h hy l =
    let e : 8 * (b - k) ≡ 8 * (b - suc k) + 8 = omega arith in
    record {
      member = l.member;
      there = l.there;
      leads = ap (λ (c : ℕ). l.member / 2 ^ c) e ∙ sym (shr-shr l.member (8 * (b - suc k)) 8) ∙ ap (λ (c : ℕ). c / 256) l.leads ∙ digits_div q hy;
    }

module _ (v : Nodes) (N b : ℕ) (down : Children v N b) (full : AllNonEmpty v N) (m : ℕ) (rt : At v N 0 m) where
  -- the path goes on, until no level is left
  leader : (d k q : ℕ) → k + d ≡ b → q < 2 ^ (8 * k) → Path v m (byte_of k q) k → Leader v b m k q
  leader zero k q e h p =
      let z : k ≡ b = omega arith in
      let w : b - k ≡ 0 = omega arith in
      record {
        member = q;
        there = path-member v b m q (subst (λ (c : ℕ). q < 2 ^ (8 * c)) z h) (subst (λ (c : ℕ). Path v m (byte_of c q) c) z p);
        leads = ap (λ (c : ℕ). q / 2 ^ (8 * c)) w ∙ omega arith;
      }
  leader (suc d) k q e h p =
      let a : At v N k (follow v m (byte_of k q) k) = reach v N b down m (byte_of k q) rt (byte-lt k q) k (omega arith) p in
      let s : NonEmpty v (follow v m (byte_of k q) k) = full (follow v m (byte_of k q) k) a.in-range (λ z. omega (arith, a.level)) in
      leader-up (omega arith) s.small (leader d (suc k) (q * 256 + s.at) (omega arith) (more-small k q s.at s.small h) (more-path v m k q s.at s.small p s.is_set))

  pub path-heads : (j q : ℕ) → j ≤ b → q < 2 ^ (8 * j) → Path v m (byte_of j q) j → mem q (heads v b m j) ≡ true
  path-heads j q hj hq p =
      let l : Leader v b m j q = leader (b - j) j q (omega arith) hq p in
      subst (λ (z : ℕ). mem z (heads v b m j) ≡ true) (ap (λ (z : ℕ). l.member / z) (pow-bytes (b - j)) ∙ l.leads) (mem-map (λ s. s / 256 ^ (b - j)) l.member (members v b m) l.there)
