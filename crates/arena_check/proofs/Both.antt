-- What the test asks of each node, with its two counts, is what makes an arena: both ways. The stack's places are met because the free nodes are as many. Assumes nothing.
use Prim.Native.Nat.{ℕ, ◌+◌, ◌-◌, ◌*◌, ◌≤◌, ◌<◌, min}
use mathlib.Core.Path.{◌≡◌, refl, sym, ◌∙◌}
use mathlib.Core.List.{List}
use native.Mathlib.Omega.{arith}
use lib.ListN.{length}
use Rattle.lists.specs.Sums.{sum}
use Rattle.lists.proofs.Sums.{sum_same, sum-add}
use Rattle.lists.proofs.Counts.{sum-few}
use Rattle.region.specs.Geometry.{node_words}
use Rattle.region.specs.Nodes.{Nodes}
use Rattle.region.specs.WellFormed.{StackedNode, SpareNode, nodes_used}
use Rattle.region.specs.Linked.{Above}
use Rattle.arena.specs.Arena.{Arena, nodes_in, spare_in}
use Rattle.arena_check.specs.Checks.{OwnOk, Hangs, below_root, branches}
use Rattle.arena_check.proofs.Maps.{bits_of}
use Rattle.lists.proofs.Matching.{Lands, Met, all-met, sum_ones}
use Rattle.arena_check.proofs.Down.{children, balanced}

module _ (v : Nodes) (spare : ℕ → ℕ) (N used : ℕ) (small : used ≤ N) (count : nodes_used v N ≡ used)
    (stacked : (n : ℕ) → n < N → v.level1 n ≡ 0 → StackedNode (N - used) spare v n) where
  -- 1 for a free node, else 0
  abbrev free : ℕ → ℕ
  free n = 1 - v.level1 n

  free-count : sum free N ≡ N - used
  free-count =
      let a : sum (λ n. free n + min 1 (v.level1 n)) N ≡ N = sum_same (λ n. 1) (λ n. free n + min 1 (v.level1 n)) N (λ n h. omega arith) ∙ sum_ones N in
      omega (arith, sum-add free (λ n. min 1 (v.level1 n)) N)

  lands : (n : ℕ) → n < N → free n ≡ 1 → Lands (λ k. 1) v.parent spare (N - used) n
  lands n h e = let s : StackedNode (N - used) spare v n = stacked n h (omega arith) in record { small = s.in-range; marked = refl; home = s.there }

  spare-nodes : (i : ℕ) → i < N - used → SpareNode N spare v i
  spare-nodes i h =
      let m : Met free v.parent spare N i = all-met free (λ k. 1) v.parent spare N (N - used) (λ n. omega arith) lands (free-count ∙ sym (sum_ones (N - used))) i h refl in
      record { in-range = m.small; is_free = omega (arith, m.marked); place = m.there }

module _ (N b used : ℕ) (l : List ℕ) where
  abbrev v : Nodes
  v = nodes_in N l

  pub arena-of : length l ≡ N + node_words * N → used ≤ N → ((n : ℕ) → n < N → OwnOk N b (N - used) (spare_in l) v n) → ((n : ℕ) → n < N → Hangs N v n)
      → nodes_used v N ≡ used → sum (below_root v) N ≡ sum (branches v b) N → Arena N b used l
  arena-of long small own hung count even =
      record {
        tries = record {
          long = long;
          wf = record {
            levels = λ n h. (own n h).level;
            down = children v N b (bits_of N l) (λ n h. (own n h).level) (λ k n h. hung n h k) even;
            up = λ k n h. hung n h k;
          };
          non-empty = λ n h. (own n h).non-empty;
        };
        spare-nodes = spare-nodes v (spare_in l) N used small count (λ n h. (own n h).stacked);
        stacked-nodes = λ n h. (own n h).stacked;
        used-true = count;
      }

  module _ (A : Arena N b used l) where
    pub few : used ≤ N
    few = omega (arith, A.used-true, sum-few (λ n. min 1 (v.level1 n)) N (λ n. omega arith))

    pub own_of : (n : ℕ) → n < N → OwnOk N b (N - used) (spare_in l) v n
    own_of n h = record {
      level = A.tries.wf.levels n h;
      stacked = A.stacked-nodes n h;
      non-empty = A.tries.non-empty n h;
      back = λ e. let a : Above v N (v.level1 n - 2) n = A.tries.wf.up (v.level1 n - 2) n h (omega arith) in (a.in-range, a.byte);
    }

    pub hangs-of : (n : ℕ) → n < N → Hangs N v n
    hangs-of n h k = A.tries.wf.up k n h

    pub even-of : sum (below_root v) N ≡ sum (branches v b) N
    even-of = balanced v N b (bits_of N l) A.tries.wf.levels A.tries.wf.up A.tries.wf.down
