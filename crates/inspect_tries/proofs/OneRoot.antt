-- Under the only root hang all nodes: its trie has as many suffixes as the maps of the last level have bits.
-- The idea: each suffix leads to one bit of the last level, and back links lead from each such bit up to the root, by one string. Assumes nothing.
use Prim.Native.Nat.{ℕ, zero, suc, ◌+◌, ◌*◌, ◌/◌, ◌%◌, ◌^◌, ◌<◌}
use mathlib.Core.Path.{◌≡◌, sym, ap, ap₂, ◌∙◌, subst}
use mathlib.Core.Bool.{Bool, true, ◌&&◌, cond}
use mathlib.Core.List.{List}
use native.Mathlib.Omega.{arith}
use native.Mathlib.Decide.{ℕ_discrete, dec_lt}
use lib.Dec.{eqb}
use lib.ListN.{length}
use borrow.Author.Tests.{eqb-true, eq-eqb, ne_eqb}
use Rattle.lists.specs.Lists.{one, mem}
use Rattle.lists.specs.Sums.{sum}
use Rattle.lists.proofs.Laws.{and_both, both-and, not-true-false, by-test, eqb-self, ascending-distinct}
use Rattle.lists.proofs.Sums.{sum_same, sum-zero, sum-single, sum-match, sum_less}
use Rattle.lists.proofs.Counts.{length-count}
use Rattle.lists.proofs.Matching.{sum_rows}
use Rattle.region.specs.Nodes.{Nodes}
use Rattle.region.specs.Tries.{byte_of, members, follow, Path}
use Rattle.region.specs.Linked.{Wf}
use Rattle.region.proofs.Bytes.{byte-lt, bytes-inj, more-old, more-new, more-small}
use Rattle.region.proofs.Paths.{At, reach, meet, more-path, follow-ext, Led, led}
use Rattle.region.proofs.Listing.{members-ascend, path-member, member-path, member-small}
use Rattle.arena.proofs.Stays.{below_suc}
use Rattle.arena_check.specs.Checks.{set_bits, roots_in, last_bits}

-- of two roots the count would be 2
module _ (v : Nodes) (N : ℕ) (e : roots_in v N ≡ 1) where
  abbrev root : ℕ → ℕ
  root n = one (eqb (v.level1 n) 1)

  two : (m n : ℕ) → m < n → At v N 0 m → At v N 0 n → ⊥
  two m n l a b = omega (arith, e, sum_less root m n l (ap one (eq-eqb (v.level1 m) 1 a.level)), sum_less root n N b.in-range (ap one (eq-eqb (v.level1 n) 1 b.level)))

  same-root : (m n : ℕ) → At v N 0 m → At v N 0 n → m ≡ n
  same-root m n a b = pick (ℕ_discrete m n) (dec_lt m n)
    where
      pick : Dec (m ≡ n) → Dec (m < n) → m ≡ n
      pick (yes q) l = q
      pick (no q) (yes l) = absurd (two m n l a b)
      pick (no q) (no l) = absurd (two n m (omega arith) b a)

-- d + 1 levels under the root r
module _ (v : Nodes) (N d r : ℕ) (bits : (n x : ℕ) → v.bit n x < 2) (wf : Wf v N (suc d)) (rt : At v N 0 r) (only : (n : ℕ) → At v N 0 n → n ≡ r) where
  abbrev b : ℕ
  b = suc d

  abbrev suffixes : List ℕ
  suffixes = members v b r

  -- bit x of node n, if it is at the last level
  abbrev last_bit : ℕ → ℕ → ℕ
  last_bit n x = cond (eqb (v.level1 n) b) (v.bit n x) 0

  -- the places are numbered: 256 for each node
  abbrev last_at : ℕ → ℕ
  last_at k = last_bit (k / 256) (k % 256)

  last-bits : (n x : ℕ) → last_bit n x < 2
  last-bits n x = by-test (eqb (v.level1 n) b) (λ e. rw e (bits n x)) (λ e. rw e (omega arith))

  last_sum : sum last_at (N * 256) ≡ last_bits v b N
  last_sum = sum_rows last_bit N ∙ sum_same (λ n. cond (eqb (v.level1 n) b) (set_bits v n) 0) (λ n. sum (last_bit n) 256) N (λ n l. by-test (eqb (v.level1 n) b)
      (λ e. sum_same (v.bit n) (last_bit n) 256 (λ x h. rw e) ∙ rw e)
      (λ e. sum-zero (last_bit n) 256 (λ x h. rw e) ∙ rw e))

  -- the place that a suffix leads to
  abbrev to : ℕ → ℕ
  to s = follow v r (byte_of b s) d * 256 + byte_of b s d

  to-node : (s : ℕ) → to s / 256 ≡ follow v r (byte_of b s) d
  to-node s = omega (arith, byte-lt b s d)

  to-byte : (s : ℕ) → to s % 256 ≡ byte_of b s d
  to-byte s = omega (arith, byte-lt b s d)

  module _ (s : ℕ) (i : mem s suffixes ≡ true) where
    path : Path v r (byte_of b s) b
    path = member-path v b r s i

    at_last : At v N d (follow v r (byte_of b s) d)
    at_last = reach v N b wf.down r (byte_of b s) rt (byte-lt b s) d (omega arith) (λ j l. path j (omega arith))

    to-small : to s < N * 256
    to-small = omega (arith, at_last.in-range, byte-lt b s d)

    to_set : last_at (to s) ≡ 1
    to_set = ap₂ last_bit (to-node s) (to-byte s) ∙ rw (eq-eqb (v.level1 (follow v r (byte_of b s) d)) b at_last.level) (path d (omega arith))

  -- two suffixes that lead to one place are one
  to-inj : (s t : ℕ) → mem s suffixes ≡ true → mem t suffixes ≡ true → to s ≡ to t → s ≡ t
  to-inj s t i j e =
      let en : follow v r (byte_of b s) d ≡ follow v r (byte_of b t) d = sym (to-node s) ∙ ap (λ (k : ℕ). k / 256) e ∙ to-node t in
      let eb : byte_of b s d ≡ byte_of b t d = sym (to-byte s) ∙ ap (λ (k : ℕ). k % 256) e ∙ to-byte t in
      let m = meet v N b wf.down r r (byte_of b s) (byte_of b t) rt rt (byte-lt b s) (byte-lt b t) d (omega arith) (λ k l. path s i k (omega arith)) (λ k l. path t j k (omega arith)) en in
      bytes-inj b s t (member-small v b r s i) (member-small v b r t j) (below_suc (λ k. byte_of b s k ≡ byte_of b t k) d m.1 eb)

  -- a suffix that leads to the place k
  record Leads (k : ℕ) : Type 0 where
    pub from : ℕ
    pub there : mem from suffixes ≡ true
    pub is : to from ≡ k

  leads : (n x : ℕ) → x < 256 → At v N d n → v.bit n x ≡ 1 → Leads (n * 256 + x)
  leads n x hx a e =
      let l : Led v N d n = led v N wf.up d n a in
      let w : l.root ≡ r = only l.root l.is-root in
      let s : ℕ = l.lead * 256 + x in
      let p : Path v r (byte_of b s) b = subst (λ (m : ℕ). Path v m (byte_of b s) b) w (more-path v l.root d l.lead x hx l.path (ap (λ (m : ℕ). v.bit m x) l.there ∙ e)) in
      let en : follow v r (byte_of b s) d ≡ n = sym (follow-ext v r (byte_of d l.lead) (byte_of b s) d (more-old d l.lead x hx)) ∙ ap (λ (m : ℕ). follow v m (byte_of d l.lead) d) (sym w) ∙ l.there in
      record {
        from = s;
        there = path-member v b r s (more-small d l.lead x hx l.small) p;
        is = ap₂ (λ (m y : ℕ). m * 256 + y) en (more-new d l.lead x hx);
      }

  led-to : (k : ℕ) → k < N * 256 → last_at k ≡ 1 → Leads k
  led-to k h e = by-test (eqb (v.level1 (k / 256)) b)
      (λ t. let z : k / 256 * 256 + k % 256 ≡ k = omega arith in
      subst Leads z (leads (k / 256) (k % 256) (omega arith) (record { in-range = omega arith; level = eqb-true (v.level1 (k / 256)) b t }) (rw t at e)))
      (λ t. let z : ◌≡◌ {A = ℕ} 0 1 = rw t at e in absurd (omega arith))

  -- s is a suffix and leads to k
  abbrev leads_to : ℕ → ℕ → Bool
  leads_to s k = mem s suffixes && eqb (to s) k

  row : (s : ℕ) → sum (λ k. one (leads_to s k)) (N * 256) ≡ one (mem s suffixes)
  row s = by-test (mem s suffixes)
      (λ i. sum-single (λ k. one (leads_to s k)) (N * 256) (to s) (to-small s i) (λ k l ne. rw (i, ne_eqb (to s) k (λ q. ne (sym q)))) ∙ rw (i, eqb-self (to s)))
      (λ i. sum-zero (λ k. one (leads_to s k)) (N * 256) (λ k l. rw i) ∙ rw i)

  column : (k : ℕ) → k < N * 256 → sum (λ s. one (leads_to s k)) (2 ^ (8 * b)) ≡ last_at k
  column k h = pick (ℕ_discrete (last_at k) 1)
    where
      pick : Dec (last_at k ≡ 1) → sum (λ s. one (leads_to s k)) (2 ^ (8 * b)) ≡ last_at k
      pick (yes e) =
          let w : Leads k = led-to k h e in
          sum-single (λ s. one (leads_to s k)) (2 ^ (8 * b)) w.from (member-small v b r w.from w.there) (λ s l ne. ap one (not-true-false (leads_to s k) (λ t.
          let a = and_both (mem s suffixes) (eqb (to s) k) t in
          ne (to-inj s w.from a.0 w.there (eqb-true (to s) k a.1 ∙ sym w.is)))))
          ∙ ap one (both-and (mem w.from suffixes) (eqb (to w.from) k) w.there (eq-eqb (to w.from) k w.is)) ∙ sym e
      pick (no ne) =
          sum-zero (λ s. one (leads_to s k)) (2 ^ (8 * b)) (λ s l. ap one (not-true-false (leads_to s k) (λ t.
          let a = and_both (mem s suffixes) (eqb (to s) k) t in
          ne (ap last_at (sym (eqb-true (to s) k a.1)) ∙ to_set s a.0))))
          ∙ omega (arith, last-bits (k / 256) (k % 256))

  all_under : length suffixes ≡ last_bits v b N
  all_under =
      length-count suffixes (2 ^ (8 * b)) (ascending-distinct suffixes (members-ascend v b r)) (member-small v b r)
      ∙ sum-match (λ s k. one (leads_to s k)) (λ s. one (mem s suffixes)) last_at (2 ^ (8 * b)) (N * 256) (λ s l. row s) column
      ∙ last_sum

pub one-root : (v : Nodes) (N b r : ℕ) → ((n x : ℕ) → v.bit n x < 2) → Wf v N b → At v N 0 r → roots_in v N ≡ 1 → length (members v b r) ≡ last_bits v b N
one-root v N zero r bits wf rt e = absurd (omega (arith, wf.levels r rt.in-range, rt.level))
one-root v N (suc d) r bits wf rt e = all_under v N d r bits wf rt (λ n a. same-root v N e n r a rt)
