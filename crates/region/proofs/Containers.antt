-- The containers of a region with well-placed records: prefixes ascend with the rank, each holds what a good reading asks, and every slot is in use or free. Assumes nothing.
use Prim.Native.Nat.{ℕ, ◌+◌, ◌-◌, ◌^◌, ◌<◌, ◌≤◌, min}
use mathlib.Core.Path.{◌≡◌, sym, ap, ◌∙◌, subst}
use mathlib.Core.Logic.{◌≢◌}
use mathlib.Core.Bool.{Bool, true, false, ◌||◌, false≢true}
use mathlib.Core.List.{List, ◌++◌}
use native.Mathlib.Omega.{arith}
use native.Mathlib.Decide.{ℕ_discrete, dec_lt}
use lib.Dec.{ltb}
use lib.ListN.{length}
use borrow.Author.Tests.{eq-eqb, ne_eqb, lt-ltb, le-ltb, ltb-true}
use Rattle.lists.specs.Lists.{one, mem, up_to, down_from, Ascending, Distinct, Every}
use Rattle.lists.specs.Sums.{sum}
use Rattle.lists.proofs.Laws.{or_left, or_right, or_cases, iff-eq, not-true-false, mem-append, ascending-distinct}
use Rattle.lists.proofs.Sums.{sum_same, sum_mono, sum_less, Nth, nth}
use Rattle.lists.proofs.Counts.{sum-few, length-count}
use Rattle.lists.proofs.Each.{Place, mem-up_to, up_to-mem, length-up_to, map-up_to, ascending-up_to, distinct-up_to, each-up_to, length-down_from, mem-down_from}
use Rattle.model.specs.Words.{bytes_of}
use Rattle.model.specs.Room.{threshold, is_trie}
use Rattle.model.specs.Reading.{Container, prefixes_of, slots_of}
use Rattle.model.specs.Good.{GoodContainer, GoodSuffixes}
use Rattle.region.specs.Areas.{Numbers}
use Rattle.region.specs.Tries.{members}
use Rattle.region.specs.Seen.{Seen}
use Rattle.region.specs.Read.{suffixes, container, read}
use Rattle.region.specs.WellFormed.{rank_of, Bears, Ranked, Placed, Vector, Held, Stacked, Stacks}
use Rattle.region.proofs.Listing.{members-ascend}

-- the slot at rank r is in use, and r is the rank of its prefix
pub record AtRank (g : Numbers) (v : Seen) (r : ℕ) : Type 0 where
  pub in-range : v.slot r < g.C
  pub in_use : v.kind (v.slot r) ≢ 0
  pub small : v.prefix (v.slot r) < 2 ^ g.P
  pub rank_is : rank_of g v (v.prefix (v.slot r)) ≡ r

-- the rank of a set prefix is one of the first k
pub rank-small : (g : Numbers) (v : Seen) → Placed g v → (p : ℕ) → p < 2 ^ g.P → v.bit p ≡ 1 → rank_of g v p < g.k
rank-small g v pl p h e = let l : rank_of g v p < rank_of g v (2 ^ g.P) = sum_less v.bit p (2 ^ g.P) h e in omega (arith, pl.prefixes)

module _ (g : Numbers) (v : Seen) (pl : Placed g v) (bits : (p : ℕ) → v.bit p < 2) where
  pub at-rank : (r : ℕ) → r < g.k → AtRank g v r
  at-rank r h =
      let q : Nth v.bit (2 ^ g.P) r = nth v.bit bits (2 ^ g.P) r (omega (arith, pl.prefixes)) in
      let b : Bears g v q.at (v.slot (rank_of g v q.at)) = pl.borne q.at q.small q.is_set in
      let es : v.slot (rank_of g v q.at) ≡ v.slot r = ap v.slot q.rank in
      let ep : v.prefix (v.slot r) ≡ q.at = ap v.prefix (sym es) ∙ b.prefix in
      record {
        in-range = omega (arith, b.in-range);
        in_use = λ z. b.in_use (ap v.kind es ∙ z);
        small = omega (arith, q.small);
        rank_is = ap (rank_of g v) ep ∙ q.rank;
      }

  -- and so is that of a slot in use
  pub rank_lt : (c : ℕ) → c < g.C → v.kind c ≢ 0 → rank_of g v (v.prefix c) < g.k
  rank_lt c h ne = let q : Ranked g v c = pl.ranked c h ne in rank-small g v pl (v.prefix c) q.in-range q.is_set

  -- Order

  -- a greater rank is of a greater prefix
  prefix-less : (i j : ℕ) → i < j → j < g.k → v.prefix (v.slot i) < v.prefix (v.slot j)
  prefix-less i j l u = pick (at-rank i (omega arith)) (at-rank j u) (dec_lt (v.prefix (v.slot i)) (v.prefix (v.slot j)))
    where
      pick : AtRank g v i → AtRank g v j → Dec (v.prefix (v.slot i) < v.prefix (v.slot j)) → v.prefix (v.slot i) < v.prefix (v.slot j)
      pick a b (yes h) = h
      pick a b (no h) =
          let le : rank_of g v (v.prefix (v.slot j)) ≤ rank_of g v (v.prefix (v.slot i)) = sum_mono v.bit (v.prefix (v.slot j)) (v.prefix (v.slot i)) (omega arith) in
          absurd (omega (arith, a.rank_is, b.rank_is))

  pub prefixes-ascend : Ascending (prefixes_of (read g v).containers)
  unfolding read
  prefixes-ascend = subst Ascending (sym (map-up_to (λ (c : Container). c.prefix) (λ r. container g v (v.slot r)) g.k)) (ascending-up_to (λ r. v.prefix (v.slot r)) g.k prefix-less)

  -- Slots

  -- the first k places of the rank table
  abbrev used : List ℕ
  used = up_to v.slot g.k

  used-mem : (c : ℕ) → c < g.C → v.kind c ≢ 0 → mem c used ≡ true
  used-mem c h ne = subst (λ (z : ℕ). mem z used ≡ true) (pl.ranked c h ne).there (up_to-mem v.slot g.k (rank_of g v (v.prefix c)) (rank_lt c h ne))

  mem-used : (c : ℕ) → mem c used ≡ true → (c < g.C) × (v.kind c ≢ 0)
  mem-used c m =
      let p : Place c v.slot g.k = mem-up_to c v.slot g.k m in
      let a : AtRank g v p.at = at-rank p.at p.small in
      subst (λ (z : ℕ). (z < g.C) × (v.kind z ≢ 0)) p.is (a.in-range, a.in_use)

  used-distinct : Distinct used
  used-distinct = distinct-up_to v.slot g.k (λ i j l u e. let z : v.prefix (v.slot i) < v.prefix (v.slot j) = prefix-less i j l u in let w : v.prefix (v.slot i) ≡ v.prefix (v.slot j) = ap v.prefix e in omega arith)

  -- k is the number of slots in use
  pub slots-in-use : sum (λ c. min 1 (v.kind c)) g.C ≡ g.k
  slots-in-use =
      sum_same (λ c. one (mem c used)) (λ c. min 1 (v.kind c)) g.C (λ c h. here c h (ℕ_discrete (v.kind c) 0))
      ∙ sym (length-count used g.C used-distinct (λ c m. (mem-used c m).0)) ∙ length-up_to v.slot g.k
    where
      here : (c : ℕ) → c < g.C → Dec (v.kind c ≡ 0) → min 1 (v.kind c) ≡ one (mem c used)
      here c h (yes e) = ap (min 1) e ∙ sym (ap one (not-true-false (mem c used) (λ m. (mem-used c m).1 e)))
      here c h (no ne) = let z : one (mem c used) ≡ 1 = ap one (used-mem c h ne) in omega arith

  -- which the document does not write
  pub k-fits : g.k ≤ g.C
  k-fits = let l : sum (λ c. min 1 (v.kind c)) g.C ≤ g.C = sum-few (λ c. min 1 (v.kind c)) g.C (λ c. omega arith) in omega (arith, slots-in-use)

  pub containers-length : length (read g v).containers ≡ g.k
  unfolding read
  containers-length = length-up_to (λ r. container g v (v.slot r)) g.k

  pub slots_length : length (read g v).containers + length (read g v).free ≡ g.C
  unfolding read
  slots_length =
      let a : length (up_to (λ r. container g v (v.slot r)) g.k) ≡ g.k = length-up_to (λ r. container g v (v.slot r)) g.k in
      let b : length (down_from v.free (g.C - g.k)) ≡ g.C - g.k = length-down_from v.free (g.C - g.k) in
      omega (arith, k-fits)

  -- a slot below C is in use or free, and no other is
  pub slots-named : Stacks g v → (t : ℕ) → mem t (slots_of (read g v).containers ++ (read g v).free) ≡ ltb t g.C
  unfolding read
  slots-named st t =
      ap (λ (l : List ℕ). mem t (l ++ down_from v.free (g.C - g.k))) (map-up_to (λ (c : Container). c.slot) (λ r. container g v (v.slot r)) g.k)
      ∙ mem-append t used (down_from v.free (g.C - g.k))
      ∙ ap (λ (b : Bool). mem t used || b) (mem-down_from t v.free (g.C - g.k))
      ∙ iff-eq (mem t used || mem t free) (ltb t g.C) forth (λ e. back (ltb-true t g.C e) (ℕ_discrete (v.kind t) 0))
    where
      free : List ℕ
      free = up_to v.free (g.C - g.k)

      forth : (mem t used || mem t free) ≡ true → ltb t g.C ≡ true
      forth h = lt-ltb t g.C (or_cases (mem t used) (mem t free) h (λ m. (mem-used t m).0) (λ m.
          let p : Place t v.free (g.C - g.k) = mem-up_to t v.free (g.C - g.k) m in
          subst (λ (c : ℕ). c < g.C) p.is (st.free-slots p.at p.small).in-range))

      back : t < g.C → Dec (v.kind t ≡ 0) → (mem t used || mem t free) ≡ true
      back l (yes e) =
          let s : Stacked g v t = st.stacked t l e in
          or_right (mem t used) (mem t free) (subst (λ (c : ℕ). mem c free ≡ true) s.there (up_to-mem v.free (g.C - g.k) (v.link t) s.in-range))
      back l (no ne) = or_left (mem t used) (mem t free) (used-mem t l ne)

-- Suffixes

module _ (g : Numbers) (v : Seen) (hd : Held g v) where
  pub suffixes-trie : (c : ℕ) → v.kind c ≡ 2 → suffixes g v c ≡ members v.node (bytes_of g.S) (v.link c)
  unfolding suffixes
  suffixes-trie c e = rw (eq-eqb (v.kind c) 2 e)

  suffixes-vector : (c : ℕ) → v.kind c ≡ 1 → suffixes g v c ≡ up_to (v.entry c) (v.size c)
  unfolding suffixes
  suffixes-vector c e = rw (ne_eqb (v.kind c) 2 (λ z. omega arith))

  trie-length : (c : ℕ) → c < g.C → v.kind c ≡ 2 → length (suffixes g v c) ≡ v.size c
  trie-length c h e = ap length (suffixes-trie c e) ∙ sym (hd.trie c h e).true-size

  vector-length : (c : ℕ) → v.kind c ≡ 1 → length (suffixes g v c) ≡ v.size c
  vector-length c e = ap length (suffixes-vector c e) ∙ length-up_to (v.entry c) (v.size c)

  -- kind follows from the number of suffixes
  pub trie-is : (c : ℕ) → c < g.C → v.kind c ≡ 2 → is_trie (suffixes g v c) ≡ true
  trie-is c h e = lt-ltb threshold (length (suffixes g v c)) (omega (arith, trie-length c h e, (hd.trie c h e).many))

  pub vector-is : (c : ℕ) → c < g.C → v.kind c ≡ 1 → is_trie (suffixes g v c) ≡ false
  vector-is c h e = le-ltb threshold (length (suffixes g v c)) (omega (arith, vector-length c e, (hd.vector c h e).few))

  good-trie : (c : ℕ) → c < g.C → v.kind c ≡ 2 → GoodSuffixes g.S (suffixes g v c)
  good-trie c h e =
      let es : suffixes g v c ≡ members v.node (bytes_of g.S) (v.link c) = suffixes-trie c e in
      let a : Ascending (suffixes g v c) = subst Ascending (sym es) (members-ascend v.node (bytes_of g.S) (v.link c)) in
      record {
        below = λ s m. (hd.trie c h e).small s (ap (mem s) (sym es) ∙ m);
        distinct = ascending-distinct (suffixes g v c) a;
        ordered = λ t. a;
      }

  good-vector : (c : ℕ) → c < g.C → v.kind c ≡ 1 → GoodSuffixes g.S (suffixes g v c)
  good-vector c h e =
      let es : suffixes g v c ≡ up_to (v.entry c) (v.size c) = suffixes-vector c e in
      let x : Vector g v c = hd.vector c h e in
      record {
        below = λ s m. let p : Place s (v.entry c) (v.size c) = mem-up_to s (v.entry c) (v.size c) (ap (mem s) (sym es) ∙ m) in subst (λ (z : ℕ). z < 2 ^ g.S) p.is (x.small p.at p.small);
        distinct = subst Distinct (sym es) (distinct-up_to (v.entry c) (v.size c) x.distinct);
        ordered = λ t. absurd (false≢true (sym (vector-is c h e) ∙ t));
      }

  module _ (pl : Placed g v) (bits : (p : ℕ) → v.bit p < 2) where
    good-at : (r : ℕ) → r < g.k → GoodContainer g.P g.S (container g v (v.slot r))
    good-at r h = pick (at-rank g v pl bits r h) (ℕ_discrete (v.kind (v.slot r)) 2)
      where
        pick : AtRank g v r → Dec (v.kind (v.slot r) ≡ 2) → GoodContainer g.P g.S (container g v (v.slot r))
        pick a (yes e) = record {
          inside = a.small;
          some = omega (arith, trie-length (v.slot r) a.in-range e, (hd.trie (v.slot r) a.in-range e).many);
          good = good-trie (v.slot r) a.in-range e;
        }
        pick a (no n) =
            let e : v.kind (v.slot r) ≡ 1 = let u : v.kind (v.slot r) ≢ 0 = a.in_use in omega (arith, pl.kinds (v.slot r) a.in-range) in
            record {
              inside = a.small;
              some = omega (arith, vector-length (v.slot r) e, (hd.vector (v.slot r) a.in-range e).some);
              good = good-vector (v.slot r) a.in-range e;
            }

    pub containers-good : Every (GoodContainer g.P g.S) (read g v).containers
    unfolding read
    containers-good = each-up_to (GoodContainer g.P g.S) (λ r. container g v (v.slot r)) g.k good-at
