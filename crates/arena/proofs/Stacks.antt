-- The free nodes: one is taken off the top of the stack, one is put onto it, and the count of those in use goes with it. Assumes nothing.
use Prim.Native.Nat.{ℕ, suc, ◌+◌, ◌-◌, ◌≤◌, ◌<◌, min}
use mathlib.Core.Path.{◌≡◌, sym, ap, ◌∙◌}
use mathlib.Core.Logic.{◌≢◌}
use mathlib.Core.List.{List}
use native.Mathlib.Omega.{arith}
use native.Mathlib.Decide.{ℕ_discrete}
use Rattle.lists.proofs.Sums.{sum_same, sum_more, sum-le}
use Rattle.lists.proofs.Counts.{sum-few}
use Rattle.region.specs.Nodes.{Nodes}
use Rattle.region.specs.WellFormed.{SpareNode, StackedNode, nodes_used}
use Rattle.arena.specs.Arena.{Arena, Tries, spare_in, nodes_in}
use Rattle.arena.specs.Changes.{SpareStays, Pushed}

-- every free node, of N, once in the stack and linked to its place; used is true
pub record Stack (N used : ℕ) (spare : ℕ → ℕ) (v : Nodes) : Type 0 where
  pub spare-nodes : (i : ℕ) → i < N - used → SpareNode N spare v i
  pub stacked-nodes : (n : ℕ) → n < N → v.level1 n ≡ 0 → StackedNode (N - used) spare v n
  pub used-true : nodes_used v N ≡ used

pub arena-stack : {N b used : ℕ} {l : List ℕ} → Arena N b used l → Stack N used (spare_in l) (nodes_in N l)
arena-stack a = record { spare-nodes = a.spare-nodes; stacked-nodes = a.stacked-nodes; used-true = a.used-true }

pub stack-arena : {N b used : ℕ} {l : List ℕ} → Tries N b l → Stack N used (spare_in l) (nodes_in N l) → Arena N b used l
stack-arena t s = record { tries = t; spare-nodes = s.spare-nodes; stacked-nodes = s.stacked-nodes; used-true = s.used-true }

-- at most all nodes are in use
pub used-fits : {N used : ℕ} {spare : ℕ → ℕ} {v : Nodes} → Stack N used spare v → used ≤ N
used-fits {N} {used} {spare} {v} s = omega (arith, s.used-true, sum-few (λ n. min 1 (v.level1 n)) N (λ n. omega arith))

-- and one that is in use counts
pub used-some : {N used : ℕ} {spare : ℕ → ℕ} {v : Nodes} (f l : ℕ) → f < N → v.level1 f ≡ suc l → Stack N used spare v → 1 ≤ used
used-some {N} {v = v} f l hf e s = omega (arith, s.used-true, sum-le (λ n. min 1 (v.level1 n)) N f hf)

-- where neither a level nor a link nor the stack changed
pub stack-stays : {N used : ℕ} {v w : Nodes} (l l' : List ℕ) → SpareStays N l l' → ((m : ℕ) → w.level1 m ≡ v.level1 m) → ((m : ℕ) → w.parent m ≡ v.parent m)
    → Stack N used (spare_in l) v → Stack N used (spare_in l') w
stack-stays {N} {used} {v} {w} l l' keep level parent s = record {
  spare-nodes = λ i h.
      let a : SpareNode N (spare_in l) v i = s.spare-nodes i h in
      let e : spare_in l' i ≡ spare_in l i = keep i (omega arith) in
      record { in-range = rw e a.in-range; is_free = level (spare_in l' i) ∙ ap v.level1 e ∙ a.is_free; place = parent (spare_in l' i) ∙ ap v.parent e ∙ a.place };
  stacked-nodes = λ m hm e.
      let a : StackedNode (N - used) (spare_in l) v m = s.stacked-nodes m hm (sym (level m) ∙ e) in
      record { in-range = rw (parent m) a.in-range; there = ap (spare_in l') (parent m) ∙ keep (v.parent m) (omega (arith, a.in-range)) ∙ a.there };
  used-true = sum_same (λ m. min 1 (v.level1 m)) (λ m. min 1 (w.level1 m)) N (λ m h. ap (min 1) (level m)) ∙ s.used-true;
}

-- the node at the top
pub top-node : {N used : ℕ} {spare : ℕ → ℕ} {v : Nodes} → used < N → Stack N used spare v → SpareNode N spare v (N - (used + 1))
top-node {N} {used} h s = s.spare-nodes (N - (used + 1)) (omega arith)

-- f, the node at the top, is taken
module _ {N used : ℕ} {v w : Nodes} (l l' : List ℕ) (f e : ℕ) (keep : SpareStays N l l') (hu : used < N) (top : f ≡ spare_in l (N - (used + 1))) (level-new : w.level1 f ≡ suc e)
    (level-else : (m : ℕ) → m ≢ f → w.level1 m ≡ v.level1 m) (parent-else : (m : ℕ) → m ≢ f → w.parent m ≡ v.parent m) (s : Stack N used (spare_in l) v) where
  pub stack-taken : Stack N (used + 1) (spare_in l') w
  stack-taken = record {
    spare-nodes = λ i h. spare i h;
    stacked-nodes = λ m hm z. stacked m hm z;
    used-true =
        let z : v.level1 f ≡ 0 = ap v.level1 top ∙ (top-node hu s).is_free in
        let hf : f < N = rw top (top-node hu s).in-range in
        let c : nodes_used w N ≡ suc (nodes_used v N) = sum_more (λ m. min 1 (v.level1 m)) (λ m. min 1 (w.level1 m)) N f hf (omega arith) (λ m h ne. ap (min 1) (level-else m ne)) in
        omega (arith, s.used-true);
  }
    where
      spare : (i : ℕ) → i < N - (used + 1) → SpareNode N (spare_in l') w i
      spare i h =
          let a : SpareNode N (spare_in l) v i = s.spare-nodes i (omega arith) in
          let e : spare_in l' i ≡ spare_in l i = keep i (omega arith) in
          let ne : spare_in l' i ≢ f = λ q. let z : i ≡ N - (used + 1) = sym a.place ∙ ap v.parent (sym e ∙ q ∙ top) ∙ (top-node hu s).place in omega arith in
          record { in-range = rw e a.in-range; is_free = level-else (spare_in l' i) ne ∙ ap v.level1 e ∙ a.is_free; place = parent-else (spare_in l' i) ne ∙ ap v.parent e ∙ a.place }

      stacked : (m : ℕ) → m < N → w.level1 m ≡ 0 → StackedNode (N - (used + 1)) (spare_in l') w m
      stacked m hm z =
          let ne : m ≢ f = λ q. let c : ◌≡◌ {A = ℕ} 0 (suc e) = sym z ∙ ap w.level1 q ∙ level-new in omega arith in
          let a : StackedNode (N - used) (spare_in l) v m = s.stacked-nodes m hm (sym (level-else m ne) ∙ z) in
          let h : v.parent m < N - used = a.in-range in
          let np : v.parent m ≢ N - (used + 1) = λ q. ne (sym a.there ∙ ap (spare_in l) q ∙ sym top) in
          let ep : w.parent m ≡ v.parent m = parent-else m ne in
          record { in-range = omega arith; there = ap (spare_in l') ep ∙ keep (v.parent m) (omega arith) ∙ a.there }

-- f, a node in use, is freed onto the top
module _ {N used : ℕ} {v w : Nodes} (l l' : List ℕ) (f e : ℕ) (hf : f < N) (was : v.level1 f ≡ suc e) (push : Pushed N l (N - used) f l') (level-new : w.level1 f ≡ 0)
    (level-else : (m : ℕ) → m ≢ f → w.level1 m ≡ v.level1 m) (parent-new : w.parent f ≡ N - used) (parent-else : (m : ℕ) → m ≢ f → w.parent m ≡ v.parent m)
    (s : Stack N used (spare_in l) v) where
  pub stack-freed : Stack N (used - 1) (spare_in l') w
  stack-freed = record {
    spare-nodes = λ i h. spare i h (ℕ_discrete i (N - used));
    stacked-nodes = λ m hm z. stacked m hm z (ℕ_discrete m f);
    used-true =
        let c : nodes_used v N ≡ suc (nodes_used w N) = sum_more (λ m. min 1 (w.level1 m)) (λ m. min 1 (v.level1 m)) N f hf (omega arith) (λ m h ne. ap (min 1) (sym (level-else m ne))) in
        omega (arith, s.used-true);
  }
    where
      some : 1 ≤ used
      some = used-some f e hf was s

      fits : used ≤ N
      fits = used-fits s

      spare : (i : ℕ) → i < N - (used - 1) → Dec (i ≡ N - used) → SpareNode N (spare_in l') w i
      spare i h (yes q) =
          let t : spare_in l' i ≡ f = ap (spare_in l') q ∙ push.here in
          record { in-range = rw t hf; is_free = ap w.level1 t ∙ level-new; place = ap w.parent t ∙ parent-new ∙ sym q }
      spare i h (no ne) =
          let a : SpareNode N (spare_in l) v i = s.spare-nodes i (omega (arith, some, fits)) in
          let e' : spare_in l' i ≡ spare_in l i = push.else i (omega (arith, some, fits)) ne in
          let nf : spare_in l' i ≢ f = λ q. let z : ◌≡◌ {A = ℕ} 0 (suc e) = sym a.is_free ∙ ap v.level1 (sym e' ∙ q) ∙ was in omega arith in
          record { in-range = rw e' a.in-range; is_free = level-else (spare_in l' i) nf ∙ ap v.level1 e' ∙ a.is_free; place = parent-else (spare_in l' i) nf ∙ ap v.parent e' ∙ a.place }

      stacked : (m : ℕ) → m < N → w.level1 m ≡ 0 → Dec (m ≡ f) → StackedNode (N - (used - 1)) (spare_in l') w m
      stacked m hm z (yes q) =
          let ep : w.parent m ≡ N - used = ap w.parent q ∙ parent-new in
          record { in-range = omega (arith, some, fits); there = ap (spare_in l') ep ∙ push.here ∙ sym q }
      stacked m hm z (no ne) =
          let a : StackedNode (N - used) (spare_in l) v m = s.stacked-nodes m hm (sym (level-else m ne) ∙ z) in
          let ep : w.parent m ≡ v.parent m = parent-else m ne in
          let h : v.parent m < N - used = a.in-range in
          record { in-range = omega (arith, some, fits); there = ap (spare_in l') ep ∙ push.else (v.parent m) (omega arith) (omega arith) ∙ a.there }
