-- Room depends on the set of members alone, and a part of a set takes no more than the set. Assumes nothing.
use mathlib.Core.Path.{◌≡◌, refl}
use mathlib.Core.Bool.{Bool, true, false, cond}
use mathlib.Core.List.{List, map}
use Prim.Native.Nat.{ℕ, ◌-◌, ◌/◌, ◌^◌, ◌≤◌}
use native.Mathlib.Omega.{arith}
use lib.Dec.{eqb, leb}
use lib.ListN.{length}
use borrow.Author.Tests.{ltb-true, lt-ltb, leb-true, le-leb}
use Rattle.lists.specs.Lists.{Distinct, SameMembers, Within, keep}
use Rattle.model.specs.Room.{container_nodes, containers_needed, fits, is_trie, leading, nodes_needed, prefixes, suffixes_under, threshold, trie_nodes}
use Rattle.model.specs.Words.{bytes_of, prefix_of, suffix_of}
use Rattle.lists.proofs.Laws.{and_both, both-and, iff-eq, map-within, keep-within, sorted-within, distinct-sorted, sum-within, sum-le, below-le, length-within, different-within, same-within, same-sym}

pub trie-within : (b : ℕ) (ss ts : List ℕ) → Within ss ts → trie_nodes b ss ≤ trie_nodes b ts
unfolding trie_nodes
trie-within b ss ts h = below-le (leading b ss) (leading b ts) b (λ j. different-within (map (λ s. s / 256 ^ (b - j)) ss) (map (λ s. s / 256 ^ (b - j)) ts) (map-within (λ s. s / 256 ^ (b - j)) ss ts h))

pub container-within : (b : ℕ) (ss ts : List ℕ) → Distinct ss → Within ss ts → container_nodes b ss ≤ container_nodes b ts
unfolding container_nodes
container-within b ss ts d h = go (is_trie ss) refl (length-within ss ts d h) (trie-within b ss ts h)
  where
    go : (t : Bool) → is_trie ss ≡ t → length ss ≤ length ts → trie_nodes b ss ≤ trie_nodes b ts → cond (is_trie ss) (trie_nodes b ss) 0 ≤ cond (is_trie ts) (trie_nodes b ts) 0
    go true e l n = let m = ltb-true threshold (length ss) e in rw (e, lt-ltb threshold (length ts) (omega arith)) n
    go false e l n = rw e (omega arith)

module _ (S : ℕ) (vs ws : List ℕ) (h : Within vs ws) where
  prefixes-within : Within (prefixes S vs) (prefixes S ws)
  prefixes-within = sorted-within (map (prefix_of S) vs) (map (prefix_of S) ws) (map-within (prefix_of S) vs ws h)

  suffixes-within : (p : ℕ) → Within (suffixes_under S vs p) (suffixes_under S ws p)
  suffixes-within p =
      let t : ℕ → Bool = λ w. eqb (prefix_of S w) p in
      sorted-within (map (suffix_of S) (keep t vs)) (map (suffix_of S) (keep t ws)) (map-within (suffix_of S) (keep t vs) (keep t ws) (keep-within t vs ws h))

  pub containers-within : containers_needed S vs ≤ containers_needed S ws
  unfolding containers_needed
  containers-within = length-within (prefixes S vs) (prefixes S ws) (distinct-sorted (map (prefix_of S) vs)) prefixes-within

  pub nodes-within : nodes_needed S vs ≤ nodes_needed S ws
  unfolding nodes_needed
  nodes-within =
      let f : ℕ → ℕ = λ p. container_nodes (bytes_of S) (suffixes_under S vs p) in
      let g : ℕ → ℕ = λ p. container_nodes (bytes_of S) (suffixes_under S ws p) in
      let a = sum-le f g (prefixes S vs) (λ p. container-within (bytes_of S) (suffixes_under S vs p) (suffixes_under S ws p) (distinct-sorted (map (suffix_of S) (keep (λ w. eqb (prefix_of S w) p) vs))) (suffixes-within p)) in
      let b = sum-within g (prefixes S vs) (prefixes S ws) (distinct-sorted (map (prefix_of S) vs)) prefixes-within in
      omega arith

  -- what holds a set holds its parts
  pub fits-within : (C N : ℕ) → fits S C N ws ≡ true → fits S C N vs ≡ true
  unfolding fits
  fits-within C N e =
      let b = and_both (leb (containers_needed S ws) C) (leb (nodes_needed S ws) N) e in
      let c = leb-true (containers_needed S ws) C b.0 in
      let n = leb-true (nodes_needed S ws) N b.1 in
      let c' = containers-within in
      let n' = nodes-within in
      both-and (leb (containers_needed S vs) C) (leb (nodes_needed S vs) N) (le-leb (containers_needed S vs) C (omega arith)) (le-leb (nodes_needed S vs) N (omega arith))

module _ (S : ℕ) (vs ws : List ℕ) (h : SameMembers vs ws) where
  forth : Within vs ws
  forth = same-within vs ws h

  back : Within ws vs
  back = same-within ws vs (same-sym vs ws h)

  pub containers-same : containers_needed S vs ≡ containers_needed S ws
  containers-same = let a = containers-within S vs ws forth in let b = containers-within S ws vs back in omega arith

  pub nodes-same : nodes_needed S vs ≡ nodes_needed S ws
  nodes-same = let a = nodes-within S vs ws forth in let b = nodes-within S ws vs back in omega arith

  pub fits-same : (C N : ℕ) → fits S C N vs ≡ fits S C N ws
  fits-same C N = iff-eq (fits S C N vs) (fits S C N ws) (fits-within S ws vs back C N) (fits-within S vs ws forth C N)
