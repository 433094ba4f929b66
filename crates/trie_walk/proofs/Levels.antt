-- From one level to the next: the suffixes below nodes are those below the children behind the set bits of their maps, laid side by side. Assumes nothing.
use mathlib.Core.Path.{◌≡◌, sym, ap, ap₂, ◌∙◌, subst}
use mathlib.Core.Bool.{cond}
use mathlib.Core.List.{List, [], ◌∷◌, ◌++◌}
use Prim.Native.Nat.{ℕ, suc, ◌+◌, ◌-◌, ◌*◌, ◌/◌, ◌%◌, ◌^◌, ◌≤◌, ◌<◌}
use native.Mathlib.Omega.{arith}
use native.Mathlib.Numerals.{add-one}
use native.Mathlib.Decide.{ℕ_discrete}
use lib.Dec.{eqb}
use lib.ListN.{length, get_or, drop, set}
use lib.Seq.{get_or-set_same, get_or-set_other}
use Rattle.lists.specs.Lists.{each}
use Rattle.lists.proofs.Same.{each_same}
use Rattle.region.specs.Bits.{word_bit, bit_at}
use Rattle.region.specs.Nodes.{Nodes, node_word}
use Rattle.region.specs.Tries.{listed}
use Rattle.region.specs.WellFormed.{Child}
use Rattle.region.proofs.Bytes.{more-small}
use Rattle.arena.specs.Arena.{nodes_in}
use Rattle.trie_walk.specs.Words.{behind_all}
use Rattle.trie_walk.specs.Batch.{Left, Row, all_listed}
use Rattle.trie_walk.proofs.Behind.{each-each, each-words}

-- what stands behind place x of the maps, where the children have d levels left
abbrev pub deeper : Nodes → ℕ → List ℕ → List ℕ → ℕ → List ℕ
deeper v d nodes leads x = listed v d (v.child (get_or nodes (x / 256) 0) (x % 256)) (get_or leads (x / 256) 0 * 256 + x % 256)

-- the maps hold those of the nodes
abbrev pub Held : ℕ → List ℕ → List ℕ → List ℕ → ℕ → Type 0
Held N l nodes maps count = (e : ℕ) → e < 4 * count → get_or maps e 0 ≡ node_word (drop N l) (get_or nodes (e / 4) 0) (e % 4)

pub bit-held : (N : ℕ) (l nodes maps : List ℕ) (count : ℕ) → Held N l nodes maps count → (x : ℕ) → x < 256 * count
    → (nodes_in N l).bit (get_or nodes (x / 256) 0) (x % 256) ≡ bit_at (λ e. get_or maps e 0) x
bit-held N l nodes maps count C x h =
    let a : x % 256 / 64 ≡ x / 64 % 4 = omega arith in
    let b : x / 256 ≡ x / 64 / 4 = omega arith in
    let c : x % 256 % 64 ≡ x % 64 = omega arith in
    ap₂ (λ (w k : ℕ). word_bit w k) (ap₂ (λ (n i : ℕ). node_word (drop N l) (get_or nodes n 0) i) b a ∙ sym (C (x / 64) (omega arith))) c

pub all-behind : (N d : ℕ) (l nodes leads maps : List ℕ) (count : ℕ) → Held N l nodes maps count
    → all_listed (nodes_in N l) (suc d) nodes leads count ≡ behind_all (λ e. get_or maps e 0) (deeper (nodes_in N l) d nodes leads) 0 (4 * count)
unfolding listed
all-behind N d l nodes leads maps count C =
    let z : count * 256 ≡ 4 * count * 64 = omega arith in
    each-each f count
    ∙ each_same F (λ x. f (x / 256) (x % 256)) (count * 256) (λ x h.
    let q : x ≡ 0 * 64 + x = omega arith in
    ap (λ (b : ℕ). cond (eqb b 1) (g x) []) (bit-held N l nodes maps count C x (omega arith)) ∙ ap H q)
    ∙ ap (each F) z ∙ each-words ws g 0 (4 * count)
  where
    v : Nodes
    v = nodes_in N l

    ws : ℕ → ℕ
    ws e = get_or maps e 0

    g : ℕ → List ℕ
    g = deeper v d nodes leads

    f : ℕ → ℕ → List ℕ
    f i x = cond (eqb (v.bit (get_or nodes i 0) x) 1) (listed v d (v.child (get_or nodes i 0) x) (get_or leads i 0 * 256 + x)) []

    H : ℕ → List ℕ
    H x = cond (eqb (bit_at ws x) 1) (g x) []

    F : ℕ → List ℕ
    F i = H (0 * 64 + i)

-- the maps of the last level
pub all-suffixes : (N : ℕ) (l nodes leads maps : List ℕ) (count : ℕ) → Held N l nodes maps count
    → all_listed (nodes_in N l) 1 nodes leads count ≡ behind_all (λ e. get_or maps e 0) (λ x. (get_or leads (x / 256) 0 * 256 + x % 256) ∷ []) 0 (4 * count)
unfolding listed
all-suffixes N l nodes leads maps count C = all-behind N 0 l nodes leads maps count C

-- one node more
pub all_more : (v : Nodes) (d : ℕ) (nodes leads : List ℕ) (c m q : ℕ) → c < length nodes → c < length leads
    → all_listed v d (set nodes c m) (set leads c q) (c + 1) ≡ all_listed v d nodes leads c ++ listed v d m q
unfolding each
all_more v d nodes leads c m q hn hl =
    ap (each f) (add-one c) ∙ ap₂ ◌++◌
    (each_same g f c (λ i h. ap₂ (listed v d) (get_or-set_other nodes c i m 0 (λ e. omega arith)) (get_or-set_other leads c i q 0 (λ e. omega arith))))
    (ap₂ (listed v d) (get_or-set_same nodes c m 0 hn) (get_or-set_same leads c q 0 hl))
  where
    f : ℕ → List ℕ
    f i = listed v d (get_or (set nodes c m) i 0) (get_or (set leads c q) i 0)

    g : ℕ → List ℕ
    g i = listed v d (get_or nodes i 0) (get_or leads i 0)

-- the child behind a set bit has one level fewer left, and one leading byte more
module _ (N b d count : ℕ) (nodes leads l : List ℕ) (R : Row N b (suc d) count nodes leads l) (some : 1 ≤ d) (x : ℕ) (h : x < 256 * count) (e : (nodes_in N l).bit (get_or nodes (x / 256) 0) (x % 256) ≡ 1) where
  pub child-left : Left (nodes_in N l) N b d ((nodes_in N l).child (get_or nodes (x / 256) 0) (x % 256))
  child-left =
      let n : ℕ = get_or nodes (x / 256) 0 in
      let A : Left (nodes_in N l) N b (suc d) n = R.node (x / 256) (omega arith) in
      let s : suc d ≤ b = R.short in
      let lv : (nodes_in N l).level1 n + suc d ≡ suc b = A.level in
      let k : (nodes_in N l).level1 n ≡ suc (b - suc d) = omega arith in
      let D : Child (nodes_in N l) N (b - suc d) n (x % 256) ((nodes_in N l).child n (x % 256)) = R.tries.wf.down (b - suc d) n (x % 256) A.in-range k (omega arith) (omega arith) e in
      record { in-range = D.in-range; level = omega (arith, D.level) }

  pub child-lead : get_or leads (x / 256) 0 * 256 + x % 256 < 2 ^ (8 * (5 - d))
  child-lead =
      let s : suc d ≤ b = R.short in
      let t : b ≤ 5 = R.few in
      let z : suc (5 - suc d) ≡ 5 - d = omega arith in
      subst (λ (k : ℕ). get_or leads (x / 256) 0 * 256 + x % 256 < 2 ^ (8 * k)) z (more-small (5 - suc d) (get_or leads (x / 256) 0) (x % 256) (omega arith) (R.lead (x / 256) (omega arith)))

-- and so the row of the children grows
pub row_more : (N b d c : ℕ) (nodes leads l : List ℕ) (m q : ℕ) → Row N b d c nodes leads l → c < length nodes → c < length leads → Left (nodes_in N l) N b d m → q < 2 ^ (8 * (5 - d))
    → Row N b d (c + 1) (set nodes c m) (set leads c q) l
row_more N b d c nodes leads l m q R hn hl L hq = record {
  few = R.few;
  tries = R.tries;
  some = R.some;
  short = R.short;
  node = λ i h. node i h (ℕ_discrete i c);
  lead = λ i h. lead i h (ℕ_discrete i c);
}
  where
    node : (i : ℕ) → i < c + 1 → Dec (i ≡ c) → Left (nodes_in N l) N b d (get_or (set nodes c m) i 0)
    node i h (yes e) = subst (Left (nodes_in N l) N b d) (sym (ap (λ (k : ℕ). get_or (set nodes c m) k 0) e ∙ get_or-set_same nodes c m 0 hn)) L
    node i h (no n) = subst (Left (nodes_in N l) N b d) (sym (get_or-set_other nodes c i m 0 n)) (R.node i (omega arith))

    lead : (i : ℕ) → i < c + 1 → Dec (i ≡ c) → get_or (set leads c q) i 0 < 2 ^ (8 * (5 - d))
    lead i h (yes e) = subst (λ (k : ℕ). k < 2 ^ (8 * (5 - d))) (sym (ap (λ (k : ℕ). get_or (set leads c q) k 0) e ∙ get_or-set_same leads c q 0 hl)) hq
    lead i h (no n) = subst (λ (k : ℕ). k < 2 ^ (8 * (5 - d))) (sym (get_or-set_other leads c i q 0 n)) (R.lead i (omega arith))
