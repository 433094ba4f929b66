-- What a trie may hold, by its record and by its root in the lent arena. Assumes nothing.
use Prim.Native.Nat.{ℕ, ◌-◌, ◌<◌}
use mathlib.Core.Path.{◌≡◌, sym, ◌∙◌, subst, transport}
use mathlib.Core.List.{List}
use native.Mathlib.Omega.{arith}
use lib.ListN.{take, drop, get_or}
use Rattle.model.specs.Words.{bytes_of}
use Rattle.model.specs.Room.{threshold}
use Rattle.region.specs.Areas.{Numbers, numbers}
use Rattle.region.specs.Nodes.{Nodes}
use Rattle.region.specs.Seen.{Seen, seen}
use Rattle.region.specs.WellFormed.{Trie, Ready}
use Rattle.arena.specs.Arena.{nodes_in, Tries, Arena}
use Rattle.arena_check.specs.Checks.{roots_in, last_bits}
use Rattle.lens.specs.Parts.{arena_of}
use Rattle.inspect_tries.specs.TrieAt.{TrieAt}
use Rattle.inspect_tries.proofs.Lent.{lent_is, nodes-are}

-- the same root, said of what the code has read
trie-at : {v w : Nodes} {S S' n n' c size size' : ℕ} → v ≡ w → S ≡ S' → n ≡ n' → size ≡ size' → TrieAt v S n c size ≡ TrieAt w S' n' c size'
trie-at {c = c} ev es en ez = λ i. TrieAt (ev i) (es i) (en i) c (ez i)

module _ (l : List ℕ) (r : Ready l) where
  abbrev g : Numbers
  g = numbers l

  abbrev v : Seen
  v = seen g l

  abbrev lent : List ℕ
  lent = take (get_or l 15 0 - get_or l 13 0) (drop (get_or l 13 0) l)

  -- what the look at the root asks
  module _ (N : ℕ) (en : N ≡ g.N) (b : ℕ) (eb : b ≡ bytes_of g.S) where
    pub lent-tries : Arena g.N (bytes_of g.S) g.used (arena_of g l) → Tries N b lent
    lent-tries a = subst (λ (z : ℕ). Tries z b lent) (sym en) (subst (λ (z : ℕ). Tries g.N z lent) (sym eb) (subst (Tries g.N (bytes_of g.S)) (sym (lent_is l r)) a.tries))

    pub lent-roots : roots_in (nodes_in g.N (arena_of g l)) g.N ≡ roots_in (nodes_in N lent) N
    lent-roots = sym (λ i. roots_in (nodes_in (en i) (lent_is l r i)) (en i))

    pub lent-last : last_bits (nodes_in g.N (arena_of g l)) (bytes_of g.S) g.N ≡ last_bits (nodes_in N lent) b N
    lent-last = sym (λ i. last_bits (nodes_in (en i) (lent_is l r i)) (eb i) (en i))

  module _ (c N : ℕ) (en : N ≡ g.N) (S : ℕ) (es : S ≡ g.S) (n : ℕ) (er : n ≡ v.link c) (size : ℕ) (ez : size ≡ v.size c) where
    same : TrieAt (nodes_in N lent) S n c size ≡ TrieAt v.node g.S (v.link c) c (v.size c)
    same = trie-at ((λ i. nodes_in (en i) (lent_is l r i)) ∙ nodes-are l r) es er ez

    pub read-root : Trie g v c → TrieAt (nodes_in N lent) S n c size
    read-root t = transport (sym same) (record { level = t.root-level; back = t.root-back; small = t.small; true-size = t.true-size })

    pub root-read : threshold < size → n < g.N → TrieAt (nodes_in N lent) S n c size → Trie g v c
    root-read many h y =
        let t : TrieAt v.node g.S (v.link c) c (v.size c) = transport same y in
        record { many = omega arith; small = t.small; root-in-range = omega arith; root-level = t.level; root-back = t.back; true-size = t.true-size }
