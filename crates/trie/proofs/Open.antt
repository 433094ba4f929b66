-- What both loops keep: the arena is whole but for the map of the node n, to which j bytes of s lead and whose next bit is clear. A step down hangs a node there, a step up frees it. Assumes nothing.
use Prim.Native.Nat.{ℕ, suc, ◌+◌, ◌-◌, ◌*◌, ◌<◌}
use mathlib.Core.Path.{◌≡◌, sym, ap, ap₂, ◌∙◌, subst}
use mathlib.Core.Logic.{◌≢◌}
use mathlib.Core.List.{List}
use native.Mathlib.Omega.{arith}
use native.Mathlib.Numerals.{add-one}
use lib.ListN.{length}
use Rattle.region.specs.Geometry.{node_words}
use Rattle.region.specs.Nodes.{Nodes}
use Rattle.region.specs.Tries.{byte_of, follow}
use Rattle.region.specs.WellFormed.{Child}
use Rattle.region.specs.Linked.{Above, Wf}
use Rattle.region.proofs.Bytes.{byte-lt}
use Rattle.region.proofs.Paths.{At, last}
use Rattle.arena.specs.Arena.{spare_in, nodes_in, Root, Arena}
use Rattle.arena.specs.Changes.{SpareStays, Pushed, Hung, Unhung}
use Rattle.arena.proofs.Stays.{root-at, below_suc, Stay}
use Rattle.arena.proofs.Stacks.{Stack, arena-stack, top-node, stack-taken, stack-freed, used-some, used-fits}
use Rattle.arena.proofs.Fullness.{FullBut, full-hung, full-unhung}
use Rattle.arena.proofs.Hanging as hanging
use Rattle.arena.proofs.Unhanging as unhanging
use Rattle.trie.specs.Walked.{Walked}
use Rattle.trie.proofs.Lookup.{there}

pub record Open (N b used : ℕ) (l : List ℕ) (root s n j : ℕ) : Type 0 where
  pub long : length l ≡ N + node_words * N
  pub wf : Wf (nodes_in N l) N b
  pub full : FullBut (nodes_in N l) N n
  pub stack : Stack N used (spare_in l) (nodes_in N l)
  pub is-root : Root (nodes_in N l) N root
  pub walked : Walked (nodes_in N l) root s b n j
  pub clear : (nodes_in N l).bit n (byte_of b s j) ≡ 0

pub whole : {N b used : ℕ} {l : List ℕ} {root s n j : ℕ} → Arena N b used l → Root (nodes_in N l) N root → Walked (nodes_in N l) root s b n j → (nodes_in N l).bit n (byte_of b s j) ≡ 0
    → Open N b used l root s n j
whole a rt w c = record {
  long = a.tries.long;
  wf = a.tries.wf;
  full = λ m hm u ne. a.tries.non-empty m hm u;
  stack = arena-stack a;
  is-root = rt;
  walked = w;
  clear = c;
}

module _ {N b used : ℕ} {l : List ℕ} {root s n j : ℕ} (o : Open N b used l root s n j) where
  pub here : At (nodes_in N l) N j n
  here = there o.wf o.is-root o.walked

  -- the stack has a place for it
  pub place : N - used < N
  place = omega (arith, used-some n j here.in-range here.level o.stack, used-fits o.stack)

  -- one node down: the one at the top of the stack
  module _ (more : j + 1 < b) (room : used < N) (f : ℕ) (ef : f ≡ spare_in l (N - (used + 1))) where
    pub top-range : f < N
    top-range = rw ef (top-node room o.stack).in-range

    is_free : (nodes_in N l).level1 f ≡ 0
    is_free = ap (nodes_in N l).level1 ef ∙ (top-node room o.stack).is_free

    pub apart : n ≢ f
    apart e = let z : suc j ≡ 0 = sym here.level ∙ ap (nodes_in N l).level1 e ∙ is_free in omega arith

    module _ (l' : List ℕ) (x : ℕ) (ex : x ≡ byte_of b s j) (el : length l' ≡ length l) (hu : Hung (nodes_in N l) n x f (j + 1) (nodes_in N l')) (keep : SpareStays N l l') where
      hl : suc j < b
      hl = omega arith

      hx : x < 256
      hx = rw ex (byte-lt b s j)

      clear-x : (nodes_in N l).bit n x ≡ 0
      clear-x = ap ((nodes_in N l).bit n) ex ∙ o.clear

      hung : Hung (nodes_in N l) n x f (suc j) (nodes_in N l')
      hung = rw add-one at hu

      pub stay-down : Stay (nodes_in N l) (nodes_in N l') N b
      stay-down = hanging.stay-hung (nodes_in N l) (nodes_in N l') N b j n x f o.wf here hl hx clear-x top-range is_free hung

      same-n : follow (nodes_in N l') root (byte_of b s) j ≡ n
      same-n =
          hanging.follow-hung (nodes_in N l) (nodes_in N l') N b j n x f o.wf here hl hx clear-x top-range is_free hung root (byte_of b s) (byte-lt b s) o.is-root j (omega arith) o.walked.path
          ∙ sym o.walked.at

      pub open-down : Open N b (used + 1) l' root s f (j + 1)
      open-down = record {
        long = el ∙ o.long;
        wf = hanging.wf-hung (nodes_in N l) (nodes_in N l') N b j n x f o.wf here hl hx clear-x top-range is_free hung;
        full = full-hung N hx hu o.full;
        stack = stack-taken l l' f (suc j) keep room ef hung.level-new hu.level-else hu.parent-else o.stack;
        is-root = stay-down.root root o.is-root;
        walked = subst (Walked (nodes_in N l') root s b f) (sym (add-one j)) record {
          small = hl;
          at = sym (ap₂ (nodes_in N l').child same-n (sym ex) ∙ hu.child-here);
          path = below_suc (λ i. (nodes_in N l').bit (follow (nodes_in N l') root (byte_of b s) i) (byte_of b s i) ≡ 1) j
              (hanging.path-hung (nodes_in N l) (nodes_in N l') N b j n x f o.wf here hl hx clear-x top-range is_free hung root (byte_of b s) (byte-lt b s) o.is-root j (omega arith) o.walked.path)
              (ap₂ (nodes_in N l').bit same-n (sym ex) ∙ hu.bit-here);
        };
        clear = hu.bit-new (byte_of b s (j + 1)) (byte-lt b s (j + 1));
      }

-- one node up: n, whose map is empty, is freed
module _ {N b used : ℕ} {l : List ℕ} {root s n i : ℕ} (o : Open N b used l root s n (suc i)) where
  abbrev v : Nodes
  v = nodes_in N l

  -- the last step to n, and its back link
  step : Child v N i (follow v root (byte_of b s) i) (byte_of b s i) n
  step = subst (Child v N i (follow v root (byte_of b s) i) (byte_of b s i)) (sym o.walked.at)
      (last v N b o.wf.down root (byte_of b s) (root-at o.is-root) (byte-lt b s) i o.walked.small o.walked.path)

  pub above-suc : Above v N i n
  above-suc = o.wf.up i n (here o).in-range (here o).level

  module _ (empty : (y : ℕ) → y < 256 → v.bit n y ≡ 0) (l' : List ℕ) (el : length l' ≡ length l) (un : Unhung v (v.parent n) (v.byte n) n (N - used) (nodes_in N l')) (push : Pushed N l (N - used) n l') where
    pub stay-suc : Stay v (nodes_in N l') N b
    stay-suc = unhanging.stay-child v (nodes_in N l') N b i n (N - used) o.wf (here o) empty un

    pub open-suc : Open N b (used - 1) l' root s (v.parent n) i
    open-suc = record {
      long = el ∙ o.long;
      wf = unhanging.wf-child v (nodes_in N l') N b i n (N - used) o.wf (here o) empty un;
      full = full-unhung N un o.full;
      stack = stack-freed l l' n (suc i) (here o).in-range (here o).level push un.level-new un.level-else un.parent-new un.parent-else o.stack;
      is-root = stay-suc.root root o.is-root;
      walked = record {
        small = omega (arith, o.walked.small);
        at = step.parent ∙ sym (unhanging.follow-child v (nodes_in N l') N b i n (N - used) o.wf (here o) empty un root (byte_of b s) (byte-lt b s) i);
        path = unhanging.path-child v (nodes_in N l') N b i n (N - used) o.wf (here o) empty un root (byte_of b s) (byte-lt b s) o.is-root i (omega arith) (λ k h. o.walked.path k (omega arith));
      };
      clear = ap ((nodes_in N l').bit (v.parent n)) (sym step.byte) ∙ un.bit-here;
    }

-- the same, from the code's j
module _ {N b used : ℕ} {l : List ℕ} {root s n j : ℕ} (o : Open N b used l root s n j) (hj : 0 < j) where
  o' : Open N b used l root s n (suc (j - 1))
  o' = let e : j ≡ suc (j - 1) = omega arith in subst (Open N b used l root s n) e o

  pub above : Above (nodes_in N l) N (j - 1) n
  above = above-suc o'

  module _ (empty : (y : ℕ) → y < 256 → (nodes_in N l).bit n y ≡ 0) (l' : List ℕ) (el : length l' ≡ length l) (p x : ℕ) (ep : p ≡ (nodes_in N l).parent n) (ex : x ≡ (nodes_in N l).byte n)
      (un : Unhung (nodes_in N l) p x n (N - used) (nodes_in N l')) (push : Pushed N l (N - used) n l') where
    un' : Unhung (nodes_in N l) ((nodes_in N l).parent n) ((nodes_in N l).byte n) n (N - used) (nodes_in N l')
    un' =
        subst (λ (z : ℕ). Unhung (nodes_in N l) z ((nodes_in N l).byte n) n (N - used) (nodes_in N l')) ep
        (subst (λ (z : ℕ). Unhung (nodes_in N l) p z n (N - used) (nodes_in N l')) ex un)

    pub stay-up : Stay (nodes_in N l) (nodes_in N l') N b
    stay-up = stay-suc o' empty l' el un' push

    pub open_up : Open N b (used - 1) l' root s p (j - 1)
    open_up = subst (λ (z : ℕ). Open N b (used - 1) l' root s z (j - 1)) (sym ep) (open-suc o' empty l' el un' push)
