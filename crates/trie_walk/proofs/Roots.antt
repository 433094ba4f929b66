-- From the root: a row of one node with no leading bytes, whose suffixes are the trie's, and few enough to be counted. Assumes nothing.
use mathlib.Core.Path.{◌≡◌, refl, sym, ap, ap₂, ◌∙◌, subst}
use mathlib.Core.Bool.{Bool, true, false, cond}
use mathlib.Core.List.{List, [], ◌∷◌, ◌++◌}
use Prim.Native.Nat.{ℕ, zero, suc, ◌+◌, ◌-◌, ◌*◌, ◌^◌, ◌≤◌, ◌<◌}
use native.Mathlib.Omega.{arith}
use native.Mathlib.Nat.{pow-suc}
use lib.Dec.{eqb}
use lib.Pow.{pow_pos, pow_mono}
use lib.ListN.{length, get_or, drop}
use Rattle.lists.specs.Lists.{each}
use Rattle.region.specs.Nodes.{Nodes}
use Rattle.region.specs.Tries.{listed, members}
use Rattle.region.proofs.Bytes.{pow-bytes}
use Rattle.arena.specs.Arena.{Tries, Root, nodes_in}
use Rattle.trie_walk.specs.Pour.{Pour, state, poured, not_below, window}
use Rattle.trie_walk.specs.Batch.{Left, Batch, all_listed}
use Rattle.trie_walk.proofs.Pours.{poured-over, poured-window}
use Rattle.trie_walk.proofs.Behind.{each-few}
use Rattle.trie_walk.proofs.Onward.{all-kept}

module _ (nodes leads : List ℕ) (n : ℕ) (en : get_or nodes 0 0 ≡ n) (el : get_or leads 0 0 ≡ 0) where
  pub root-batch : (N b : ℕ) (l : List ℕ) → Tries N b l → Root (nodes_in N l) N n → 1 ≤ b → b ≤ 5 → Batch N b 1 nodes leads l
  root-batch N b l t r some few = record {
    levels = b;
    row = record {
      few = few;
      tries = t;
      some = some;
      short = omega arith;
      node = λ i h. subst (Left (nodes_in N l) N b b) (sym (ap (λ (k : ℕ). get_or nodes k 0) (first i h) ∙ en)) (record { in-range = r.in-range; level = omega (arith, r.level) });
      lead = λ i h. subst (λ (k : ℕ). k < 2 ^ (8 * (5 - b))) (sym (ap (λ (k : ℕ). get_or leads k 0) (first i h) ∙ el)) (pow_pos (8 * (5 - b)));
    };
  }
    where
      first : (i : ℕ) → i < 1 → i ≡ 0
      first i h = omega arith

  pub root-listed : (v : Nodes) (b : ℕ) → all_listed v b nodes leads 1 ≡ members v b n
  unfolding each members
  root-listed v b = ap₂ (listed v b) en el

-- at most 256 times as many a level
listed-few : (v : Nodes) (d n q : ℕ) → length (listed v d n q) ≤ 256 ^ d
unfolding listed
listed-few v zero n q = omega arith
listed-few v (suc d) n q =
    let h : length (each (λ x. cond (eqb (v.bit n x) 1) (listed v d (v.child n x) (q * 256 + x)) []) 256) ≤ 256 * 256 ^ d =
    each-few _ 256 (256 ^ d) (λ x. if-set (eqb (v.bit n x) 1) (listed v d (v.child n x) (q * 256 + x)) (listed-few v d (v.child n x) (q * 256 + x))) in
    omega (arith, pow-suc 256 d)
  where
    if-set : (b : Bool) (xs : List ℕ) → length xs ≤ 256 ^ d → length (cond b xs []) ≤ 256 ^ d
    if-set true xs h = h
    if-set false xs h = omega arith

members-few : (v : Nodes) (b n : ℕ) → b ≤ 5 → length (members v b n) < 2 ^ 64
unfolding members
members-few v b n h =
    let a : length (listed v b n 0) ≤ 256 ^ b = listed-few v b n 0 in
    let z : 8 * b ≤ 40 = omega arith in
    let p : 2 ^ (8 * b) ≤ 2 ^ 40 = pow_mono z in
    omega (arith, pow-bytes b)

-- what is passed over, where as many as a number can say would be
pub counted : (v : Nodes) (b n s i : ℕ) (o o' : List ℕ) → b ≤ 5 → state s i o ≡ poured (not_below 0 (members v b n)) (state (2 ^ 64 - 1) 0 o') → (2 ^ 64 - 1) - s ≡ length (members v b n)
counted v b n s i o o' h e =
    let f : length (members v b n) < 2 ^ 64 = members-few v b n h in
    let k : s ≡ (2 ^ 64 - 1) - length (members v b n) = ap (λ (p : Pour). p.skip) (e ∙ ap (λ (xs : List ℕ). poured xs (state (2 ^ 64 - 1) 0 o')) (all-kept (members v b n)) ∙ poured-over (members v b n) (2 ^ 64 - 1) 0 o' (omega arith)) in
    omega arith

-- without room nothing is written
pub no_room : (start : ℕ) (xs o : List ℕ) → length o ≡ 0 → (0 ≡ length (window start (length o) xs)) × (o ≡ window start (length o) xs ++ drop (length (window start (length o) xs)) o)
no_room start xs [] e = (refl, refl)
no_room start xs (x ∷ o) e = absurd (omega arith)

-- what was poured from the first place on
pub written : (start s i : ℕ) (xs o o' : List ℕ) → state s i o' ≡ poured xs (state start 0 o) → (i ≡ length (window start (length o) xs)) × (o' ≡ window start (length o) xs ++ drop (length (window start (length o) xs)) o)
written start s i xs o o' e = let q = e ∙ poured-window xs start o in (ap (λ (p : Pour). p.at) q, ap (λ (p : Pour). p.out) q)

-- the same, where no bound was set
pub written_all : (start s i : ℕ) (xs o o' : List ℕ) → state s i o' ≡ poured (not_below 0 xs) (state start 0 o)
    → (i ≡ length (window start (length o) xs)) × (o' ≡ window start (length o) xs ++ drop (length (window start (length o) xs)) o)
written_all start s i xs o o' e = written start s i xs o o' (e ∙ ap (λ (ys : List ℕ). poured ys (state start 0 o)) (all-kept xs))
