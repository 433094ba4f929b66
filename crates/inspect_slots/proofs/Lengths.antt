-- The stored lengths of the slots in use add up to the length of the walk: ranks and slots in use lead to each other, and a container's length is that of its suffixes. Assumes nothing.
use Prim.Native.Nat.{ℕ, ◌+◌, ◌*◌, ◌^◌, ◌<◌, ◌≤◌}
use mathlib.Core.Path.{◌≡◌, refl, sym, ap, ◌∙◌}
use mathlib.Core.Logic.{◌≢◌}
use mathlib.Core.Bool.{cond}
use mathlib.Core.List.{List, [], ◌∷◌}
use native.Mathlib.Omega.{arith}
use native.Mathlib.Decide.{ℕ_discrete}
use native.Mathlib.Numerals.{add-one}
use lib.Dec.{eqb}
use lib.ListN.{length, length-append, length-map}
use borrow.Author.Tests.{eq-eqb, ne_eqb}
use Rattle.lists.specs.Lists.{up_to}
use Rattle.lists.specs.Sums.{sum, sum_over}
use Rattle.lists.proofs.Sums.{sum_same, sum-zero, sum-single, sum-match}
use Rattle.lists.proofs.Each.{length-up_to, sum-up_to}
use Rattle.model.specs.Words.{bytes_of, joined}
use Rattle.model.specs.Reading.{Container, container_words, words_of, walk}
use Rattle.region.specs.Areas.{Numbers}
use Rattle.region.specs.Tries.{members}
use Rattle.region.specs.Seen.{Seen}
use Rattle.region.specs.Read.{suffixes, container, read}
use Rattle.region.specs.WellFormed.{rank_of, Placed}
use Rattle.region.proofs.Containers.{at-rank, rank_lt}
use Rattle.inspect_slots.specs.Slots.{stored}
use Rattle.lists.proofs.Matching.{sum_step}

module _ (v : Seen) (c : ℕ) where
  stored-free : v.kind c ≡ 0 → stored v c ≡ 0
  stored-free e = rw (eq-eqb (v.kind c) 0 e)

  stored-used : v.kind c ≢ 0 → stored v c ≡ v.size c
  stored-used n = rw (ne_eqb (v.kind c) 0 n)

  pub stored-le : (m : ℕ) → (v.kind c ≢ 0 → v.size c ≤ m) → stored v c ≤ m
  stored-le m h = pick (ℕ_discrete (v.kind c) 0)
    where
      pick : Dec (v.kind c ≡ 0) → stored v c ≤ m
      pick (yes e) = omega (arith, stored-free e)
      pick (no n) = omega (arith, stored-used n, h n)

-- the slots below c are added up to t

pub record Added (v : Seen) (c t : ℕ) : Type 0 where
  pub few : t ≤ c * 2 ^ 40
  pub all : t ≡ sum (stored v) c

module _ (v : Seen) where
  pub added-start : Added v 0 0
  unfolding sum
  added-start = record { few = omega arith; all = refl }

  pub added_next : {c t : ℕ} → Added v c t → (x : ℕ) → x ≡ stored v c → x ≤ 2 ^ 40 → Added v (c + 1) (t + x)
  added_next {c} {t} a x e h = record {
    few = omega (arith, a.few);
    all = omega (arith, a.all, ap (sum (stored v)) (add-one c), sum_step (stored v) c);
  }

-- Ranks and slots

module _ (g : Numbers) (v : Seen) (pl : Placed g v) (bits : (p : ℕ) → v.bit p < 2) (f : ℕ → ℕ) (free : (c : ℕ) → v.kind c ≡ 0 → f c ≡ 0) where
  -- what slot c counts at rank r
  abbrev at : ℕ → ℕ → ℕ
  at r c = cond (eqb (v.slot r) c) (f c) 0

  at-is : (r c : ℕ) → v.slot r ≡ c → at r c ≡ f c
  at-is r c e = rw (eq-eqb (v.slot r) c e)

  at-not : (r c : ℕ) → v.slot r ≢ c → at r c ≡ 0
  at-not r c n = rw (ne_eqb (v.slot r) c n)

  row : (r : ℕ) → r < g.k → sum (at r) g.C ≡ f (v.slot r)
  row r h = sum-single (at r) g.C (v.slot r) (at-rank g v pl bits r h).in-range (λ c l n. at-not r c (λ e. n (sym e))) ∙ at-is r (v.slot r) refl

  column : (c : ℕ) → c < g.C → sum (λ r. at r c) g.k ≡ f c
  column c h = pick (ℕ_discrete (v.kind c) 0)
    where
      nought : (r : ℕ) → v.kind c ≡ 0 → Dec (v.slot r ≡ c) → at r c ≡ 0
      nought r e (yes q) = at-is r c q ∙ free c e
      nought r e (no n) = at-not r c n

      pick : Dec (v.kind c ≡ 0) → sum (λ r. at r c) g.k ≡ f c
      pick (yes e) = sum-zero (λ r. at r c) g.k (λ r l. nought r e (ℕ_discrete (v.slot r) c)) ∙ sym (free c e)
      pick (no ne) =
          sum-single (λ r. at r c) g.k (rank_of g v (v.prefix c)) (rank_lt g v pl bits c h ne)
          (λ r l n. at-not r c (λ e. n (sym (at-rank g v pl bits r l).rank_is ∙ ap (λ (z : ℕ). rank_of g v (v.prefix z)) e)))
          ∙ at-is (rank_of g v (v.prefix c)) c (pl.ranked c h ne).there

  by_slots : sum (λ r. f (v.slot r)) g.k ≡ sum f g.C
  by_slots = sum-match at (λ r. f (v.slot r)) f g.k g.C row column

-- The walk

length-words : (S : ℕ) (cs : List Container) → length (words_of S cs) ≡ sum_over (λ c. length c.suffixes) cs
length-words S [] = refl
length-words S (c ∷ cs) =
    length-append (container_words S c) (words_of S cs) ∙ omega (arith, length-map c.suffixes (joined S c.prefix), length-words S cs)

module _ (g : Numbers) (v : Seen) (pl : Placed g v) (bits : (p : ℕ) → v.bit p < 2) where
  -- given the bitmap, ranks and records, the lengths by slots are the lengths by ranks
  pub stored-by-rank : sum (λ r. v.size (v.slot r)) g.k ≡ sum (stored v) g.C
  stored-by-rank =
      sum_same (λ r. stored v (v.slot r)) (λ r. v.size (v.slot r)) g.k (λ r h. sym (stored-used v (v.slot r) (at-rank g v pl bits r h).in_use))
      ∙ by_slots g v pl bits (stored v) (stored-free v)

  module _ (true-size : (c : ℕ) → c < g.C → v.kind c ≡ 2 → v.size c ≡ length (members v.node (bytes_of g.S) (v.link c))) where
    suffixes-length : (c : ℕ) → c < g.C → length (suffixes g v c) ≡ v.size c
    unfolding suffixes
    suffixes-length c h = pick (ℕ_discrete (v.kind c) 2)
      where
        pick : Dec (v.kind c ≡ 2) → length (cond (eqb (v.kind c) 2) (members v.node (bytes_of g.S) (v.link c)) (up_to (v.entry c) (v.size c))) ≡ v.size c
        pick (yes e) = rw (eq-eqb (v.kind c) 2 e) (sym (true-size c h e))
        pick (no n) = rw (ne_eqb (v.kind c) 2 n) (length-up_to (v.entry c) (v.size c))

    -- where each trie's stored length is true too, they are the length of the walk
    pub walk-length : length (walk (read g v)) ≡ sum (stored v) g.C
    unfolding read walk
    walk-length =
        length-words g.S (up_to (λ r. container g v (v.slot r)) g.k)
        ∙ sum-up_to (λ c. length c.suffixes) (λ r. container g v (v.slot r)) g.k
        ∙ sum_same (λ r. v.size (v.slot r)) (λ r. length (suffixes g v (v.slot r))) g.k (λ r h. suffixes-length (v.slot r) (at-rank g v pl bits r h).in-range)
        ∙ stored-by-rank
