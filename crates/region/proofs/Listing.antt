-- The suffixes of a trie ascend, whatever the nodes hold, and are exactly those of b bytes whose path is set. Assumes nothing.
use Prim.Native.Nat.{ℕ, zero, suc, ◌+◌, ◌*◌, ◌/◌, ◌%◌, ◌^◌, ◌<◌}
use mathlib.Core.Path.{◌≡◌, refl, sym, ap, ◌∙◌, subst}
use mathlib.Core.Bool.{Bool, true, false, cond, false≢true}
use mathlib.Core.List.{List, []}
use native.Mathlib.Omega.{arith}
use native.Mathlib.Nat.{div-lt_iff_lt-mul, div-eq_of_lt, div-add-mod', one-mul}
use lib.Dec.{eqb}
use lib.Pow.{shr-shr, pow_pos}
use borrow.Author.Tests.{eqb-true, eq-eqb}
use Rattle.lists.specs.Lists.{mem, Ascending}
use Rattle.lists.proofs.Laws.{or-false, or_left}
use Rattle.lists.proofs.Each.{InOne, mem-each, each-mem, ascending-each}
use Rattle.region.specs.Nodes.{Nodes}
use Rattle.region.specs.Tries.{byte_of, listed, members, follow, Path}
use Rattle.region.proofs.Bytes.{byte-first, byte-rest}
use Rattle.region.proofs.Paths.{path-ext}

-- a list that is there only where a test holds
where-set : (s : ℕ) (t : Bool) (l : List ℕ) → mem s (cond t l []) ≡ true → (t ≡ true) × (mem s l ≡ true)
where-set s true l h = (refl, h)
where-set s false l h = absurd (false≢true h)

ascending-where : (t : Bool) (l : List ℕ) → Ascending l → Ascending (cond t l [])
ascending-where true l h = h
ascending-where false l h = tt

-- one step down: by a byte whose bit is set
record Down (v : Nodes) (d n q s : ℕ) : Type 0 where
  pub at : ℕ
  pub small : at < 256
  pub is_set : v.bit n at ≡ 1
  pub there : mem s (listed v d (v.child n at) (q * 256 + at)) ≡ true

module _ (v : Nodes) where
  -- what stands behind the byte x of node n
  abbrev behind : ℕ → ℕ → ℕ → ℕ → List ℕ
  behind d n q x = cond (eqb (v.bit n x) 1) (listed v d (v.child n x) (q * 256 + x)) []

  listed-down : (d n q s : ℕ) → mem s (listed v (suc d) n q) ≡ true → Down v d n q s
  unfolding listed
  listed-down d n q s h =
      let r : InOne s (behind d n q) 256 = mem-each s (behind d n q) 256 h in
      let i = where-set s (eqb (v.bit n r.at) 1) (listed v d (v.child n r.at) (q * 256 + r.at)) r.there in
      record { at = r.at; small = r.small; is_set = eqb-true (v.bit n r.at) 1 i.0; there = i.1 }

  listed-up : (d n q s x : ℕ) → x < 256 → v.bit n x ≡ 1 → mem s (listed v d (v.child n x) (q * 256 + x)) ≡ true → mem s (listed v (suc d) n q) ≡ true
  unfolding listed
  listed-up d n q s x l e i = each-mem s (behind d n q) 256 x l (rw (eq-eqb (v.bit n x) 1 e) i)

  -- the leading bytes of what is listed
  listed-lead : (d n q s : ℕ) → mem s (listed v d n q) ≡ true → s / 2 ^ (8 * d) ≡ q
  unfolding listed
  listed-lead zero n q s h = let e : s ≡ q = eqb-true s q (sym (or-false (eqb s q)) ∙ h) in omega arith
  listed-lead (suc d) n q s h =
      let r : Down v d n q s = listed-down d n q s h in
      let e : s / 2 ^ (8 * d) ≡ q * 256 + r.at = listed-lead d (v.child n r.at) (q * 256 + r.at) s r.there in
      let z : 8 * suc d ≡ 8 * d + 8 = omega arith in
      ap (λ (k : ℕ). s / 2 ^ k) z ∙ sym (shr-shr s (8 * d) 8) ∙ ap (λ (k : ℕ). k / 256) e ∙ omega (arith, r.small)

  -- Order

  listed-ascends : (d n q : ℕ) → Ascending (listed v d n q)
  unfolding listed
  listed-ascends zero n q = (tt, tt)
  listed-ascends (suc d) n q =
      ascending-each (behind d n q) 256 (λ x l. ascending-where (eqb (v.bit n x) 1) (listed v d (v.child n x) (q * 256 + x)) (listed-ascends d (v.child n x) (q * 256 + x)))
      (λ x y s t l u i j. div-less s t (2 ^ (8 * d)) (pow_pos (8 * d)) (less x y s t l (lead x s i) (lead y t j)))
    where
      lead : (x s : ℕ) → mem s (behind d n q x) ≡ true → s / 2 ^ (8 * d) ≡ q * 256 + x
      lead x s i = listed-lead d (v.child n x) (q * 256 + x) s (where-set s (eqb (v.bit n x) 1) (listed v d (v.child n x) (q * 256 + x)) i).1

      less : (x y s t : ℕ) → x < y → s / 2 ^ (8 * d) ≡ q * 256 + x → t / 2 ^ (8 * d) ≡ q * 256 + y → s / 2 ^ (8 * d) < t / 2 ^ (8 * d)
      less x y s t l e e' = omega arith

      -- a lesser quotient is of a lesser number
      div-less : (s t B : ℕ) → 0 < B → s / B < t / B → s < t
      div-less s t B p h =
          let l : s < t / B * B = (div-lt_iff_lt-mul p).0 h in
          let e : t / B * B + t % B ≡ t = div-add-mod' t B in omega arith

  -- Paths, taken apart at their first step

  follow-first : (n : ℕ) (f : ℕ → ℕ) (k : ℕ) → follow v n f (suc k) ≡ follow v (v.child n (f 0)) (λ i. f (suc i)) k
  follow-first n f zero = refl
  follow-first n f (suc k) = ap (λ (z : ℕ). v.child z (f (suc k))) (follow-first n f k)

  path-cons : (n : ℕ) (f : ℕ → ℕ) (k : ℕ) → v.bit n (f 0) ≡ 1 → Path v (v.child n (f 0)) (λ i. f (suc i)) k → Path v n f (suc k)
  path-cons n f k e p zero l = e
  path-cons n f k e p (suc i) l = ap (λ (z : ℕ). v.bit z (f (suc i))) (follow-first n f i) ∙ p i (omega arith)

  path-tail : (n : ℕ) (f : ℕ → ℕ) (k : ℕ) → Path v n f (suc k) → Path v (v.child n (f 0)) (λ i. f (suc i)) k
  path-tail n f k p i l = ap (λ (z : ℕ). v.bit z (f (suc i))) (sym (follow-first n f i)) ∙ p (suc i) (omega arith)

  listed-path : (d n q s : ℕ) → mem s (listed v d n q) ≡ true → Path v n (byte_of d s) d
  listed-path zero n q s h = λ i l. absurd (omega arith)
  listed-path (suc d) n q s h =
      let r : Down v d n q s = listed-down d n q s h in
      let e : s / 2 ^ (8 * d) ≡ q * 256 + r.at = listed-lead d (v.child n r.at) (q * 256 + r.at) s r.there in
      let x : byte_of (suc d) s 0 ≡ r.at = byte-first d s ∙ ap (λ (k : ℕ). k % 256) e ∙ omega (arith, r.small) in
      path-cons n (byte_of (suc d) s) d (ap (v.bit n) x ∙ r.is_set)
      (path-ext v (v.child n (byte_of (suc d) s 0)) (byte_of d s) (λ i. byte_of (suc d) s (suc i)) d (λ i l. sym (byte-rest d s i))
      (subst (λ (z : ℕ). Path v (v.child n z) (byte_of d s) d) (sym x) (listed-path d (v.child n r.at) (q * 256 + r.at) s r.there)))

  path-listed : (d n q s : ℕ) → s / 2 ^ (8 * d) ≡ q → Path v n (byte_of d s) d → mem s (listed v d n q) ≡ true
  unfolding listed
  path-listed zero n q s e p = or_left (eqb s q) false (eq-eqb s q (omega arith))
  path-listed (suc d) n q s e p =
      let x : ℕ = byte_of (suc d) s 0 in
      let ex : x ≡ s / 2 ^ (8 * d) % 256 = byte-first d s in
      let z : 8 * suc d ≡ 8 * d + 8 = omega arith in
      let eq : s / 2 ^ (8 * d) / 256 ≡ q = shr-shr s (8 * d) 8 ∙ ap (λ (k : ℕ). s / 2 ^ k) (sym z) ∙ e in
      listed-up d n q s x (omega arith) (p 0 (omega arith))
      (path-listed d (v.child n x) (q * 256 + x) s (omega arith)
      (path-ext v (v.child n x) (λ i. byte_of (suc d) s (suc i)) (byte_of d s) d (λ i l. byte-rest d s i) (path-tail n (byte_of (suc d) s) d p)))

  -- The suffixes of the trie of b levels with the root n

  module _ (b n : ℕ) where
    pub members-ascend : Ascending (members v b n)
    unfolding members
    members-ascend = listed-ascends b n 0

    pub path-member : (s : ℕ) → s < 2 ^ (8 * b) → Path v n (byte_of b s) b → mem s (members v b n) ≡ true
    unfolding members
    path-member s h p = path-listed b n 0 s (div-eq_of_lt h) p

    pub member-path : (s : ℕ) → mem s (members v b n) ≡ true → Path v n (byte_of b s) b
    unfolding members
    member-path s m = listed-path b n 0 s m

    pub member-small : (s : ℕ) → mem s (members v b n) ≡ true → s < 2 ^ (8 * b)
    unfolding members
    member-small s m =
        let l : s / 2 ^ (8 * b) < 1 = omega (arith, listed-lead b n 0 s m) in
        subst (λ (z : ℕ). s < z) (one-mul (2 ^ (8 * b))) ((div-lt_iff_lt-mul (pow_pos (8 * b))).0 l)
