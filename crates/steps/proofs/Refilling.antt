-- A container in use that is refilled: the region stays well formed, and it reads as before with other suffixes under one prefix. Assumes nothing.
use Prim.Native.Nat.{ℕ, ◌+◌, ◌-◌, ◌^◌, ◌<◌, ◌≤◌}
use mathlib.Core.Path.{◌≡◌, sym, ap, ap₂, ◌∙◌, subst}
use mathlib.Core.Logic.{◌≢◌}
use mathlib.Core.Bool.{cond}
use mathlib.Core.List.{List}
use native.Mathlib.Omega.{arith}
use native.Mathlib.Decide.{ℕ_discrete}
use lib.Dec.{eqb}
use lib.ListN.{length}
use borrow.Author.Tests.{eq-eqb, ne_eqb}
use Rattle.lists.specs.Lists.{up_to}
use Rattle.lists.proofs.Sums.{sum_same}
use Rattle.lists.proofs.Same.{up_to-same, down_from-same}
use Rattle.lists.proofs.Each.{map-up_to}
use Rattle.model.specs.Words.{bytes_of}
use Rattle.model.specs.Reading.{Container, Reading, walk, under}
use Rattle.model.specs.Change.{placed, with}
use Rattle.region.specs.Areas.{Numbers}
use Rattle.region.specs.Tries.{members}
use Rattle.region.specs.Seen.{Seen}
use Rattle.region.specs.Read.{suffixes, container, read}
use Rattle.region.specs.WellFormed.{rank_of, Bears, Ranked, Placed, Vector, Trie, Held, FreeSlot, Stacked, Stacks, Shape}
use Rattle.region.proofs.Containers.{rank-small, AtRank, at-rank, prefixes-ascend}
use Rattle.steps.specs.Steps.{counted, Holds, vector, trie, Refilled}
use Rattle.steps.proofs.Kept.{Kept, placed-stays, held_stays, hung-stays, free-slot-stays, stacked-stays, stacks-stay, container-stays}
use Rattle.steps.proofs.Places.{renewed, placed-renewed, length-placed, set_known, under-set}

module _ (g : Numbers) (v : Seen) (sh : Shape g v) (bits : (p : ℕ) → v.bit p < 2) (w : Seen) (c : ℕ) (ss : List ℕ) (used' count' : ℕ) (r : Refilled g v w c ss used') where
  -- the numbers afterwards, and the prefix
  abbrev g' : Numbers
  g' = counted g g.k used' count'

  abbrev p : ℕ
  p = v.prefix c

  here : Ranked g v c
  here = sh.placed.ranked c r.in-range r.in_use

  rank_is : (q : ℕ) → rank_of g w q ≡ rank_of g v q
  rank_is q = sum_same v.bit w.bit q (λ i l. r.bit i)

  slot_is : (q : ℕ) → q < 2 ^ g.P → v.bit q ≡ 1 → w.slot (rank_of g w q) ≡ v.slot (rank_of g v q)
  slot_is q h e = ap w.slot (rank_is q) ∙ r.slot (rank_of g v q) (rank-small g v sh.placed q h e)

  -- no other slot bears the prefix
  one-slot : (d : ℕ) → d < g.C → v.kind d ≢ 0 → v.prefix d ≡ p → d ≡ c
  one-slot d h u e = sym (sh.placed.ranked d h u).there ∙ ap (λ (q : ℕ). v.slot (rank_of g v q)) e ∙ here.there

  kept : Kept g v w c p used'
  kept = record {
    others = r.others;
    nodes = r.nodes;
    bit-else = λ q ne. r.bit q;
    slot-else = λ q h ne e. slot_is q h e;
    only-slot = λ d b. one-slot d b.in-range b.in_use b.prefix;
    only-prefix = λ q b. sym b.prefix;
  }

  -- What slot c has to show

  kind-some : w.kind c ≢ 0
  kind-some = pick r.holds
    where
      pick : Holds g w c ss → w.kind c ≢ 0
      pick (vector e x q) z = omega arith
      pick (trie e x q) z = omega arith

  kind-small : w.kind c ≤ 2
  kind-small = pick r.holds
    where
      pick : Holds g w c ss → w.kind c ≤ 2
      pick (vector e x q) = omega arith
      pick (trie e x q) = omega arith

  vector-here : w.kind c ≡ 1 → Vector g' w c
  vector-here k = pick r.holds
    where
      pick : Holds g w c ss → Vector g' w c
      pick (vector e x q) = record { some = x.some; few = x.few; distinct = x.distinct; small = x.small }
      pick (trie e x q) = absurd (omega arith)

  trie-here : w.kind c ≡ 2 → Trie g' w c
  trie-here k = pick r.holds
    where
      pick : Holds g w c ss → Trie g' w c
      pick (vector e x q) = absurd (omega arith)
      pick (trie e x q) = record { many = x.many; small = x.small; root-in-range = x.root-in-range; root-level = x.root-level; root-back = x.root-back; true-size = x.true-size }

  suffixes-here : suffixes g' w c ≡ ss
  unfolding suffixes
  suffixes-here = pick r.holds
    where
      pick : Holds g w c ss → cond (eqb (w.kind c) 2) (members w.node (bytes_of g.S) (w.link c)) (up_to (w.entry c) (w.size c)) ≡ ss
      pick (vector e x q) = rw (ne_eqb (w.kind c) 2 (λ z. omega arith)) q
      pick (trie e x q) = rw (eq-eqb (w.kind c) 2 e) q

  -- Shape

  slot-here : w.slot (rank_of g w p) ≡ c
  slot-here = slot_is p here.in-range here.is_set ∙ here.there

  still_placed : Placed g' w
  still_placed = placed-stays g v w c p used' kept sh g.k count' here.in-range (rank_is (2 ^ g.P) ∙ sh.placed.prefixes)
      (λ e. subst (Bears g' w p) (sym slot-here) record { in-range = r.in-range; in_use = kind-some; prefix = r.prefix })
      (λ u. record {
        in-range = subst (λ (q : ℕ). q < 2 ^ g.P) (sym r.prefix) here.in-range;
        is_set = ap w.bit r.prefix ∙ r.bit p ∙ here.is_set;
        there = ap (λ (q : ℕ). w.slot (rank_of g w q)) r.prefix ∙ slot-here;
      })
      kind-small

  still-held : Held g' w
  still-held = held_stays g v w c p used' kept sh g.k count' vector-here trie-here

  still-stacked : Stacks g' w
  still-stacked = stacks-stay g v w c p used' kept sh g.k count' free stacked
    where
      free : (i : ℕ) → i < g.C - g.k → FreeSlot g' w i
      free i h = free-slot-stays g v w c p used' kept sh g.k count' i h (λ z. r.in_use (ap v.kind (sym z) ∙ (sh.stacks.free-slots i h).is_free)) (r.free i h)

      stacked : (d : ℕ) → d < g.C → w.kind d ≡ 0 → Stacked g' w d
      stacked d h e =
          let nc : d ≢ c = λ z. kind-some (ap w.kind (sym z) ∙ e) in
          let e' : v.kind d ≡ 0 = sym (r.others.kind d h nc) ∙ e in
          let l : v.link d < g.C - g.k = (sh.stacks.stacked d h e').in-range in
          stacked-stays g v w c p used' kept sh g.k count' d h nc e' l (r.free (v.link d) l)

  -- Reading

  container-is : (d : ℕ) → d < g.C → v.kind d ≢ 0 → container g' w d ≡ renewed p ss (container g v d)
  container-is d h u = pick (ℕ_discrete d c)
    where
      pick : Dec (d ≡ c) → container g' w d ≡ renewed p ss (container g v d)
      pick (yes z) = rw (eq-eqb p (v.prefix d) (ap v.prefix (sym z)))
          (ap₂ (λ (q : ℕ) (xs : List ℕ). record { prefix = q; slot = d; suffixes = xs }) (ap w.prefix z ∙ r.prefix) (ap (suffixes g' w) z ∙ suffixes-here))
      pick (no nc) = rw (ne_eqb p (v.prefix d) (λ q. nc (one-slot d h u (sym q)))) (container-stays g v w c p used' kept sh g.k count' d h nc u)

  containers-are : (read g' w).containers ≡ placed p 0 ss (read g v).containers
  unfolding read
  containers-are =
      up_to-same (λ i. renewed p ss (container g v (v.slot i))) (λ i. container g' w (w.slot i)) g.k
      (λ i l. let x : AtRank g v i = at-rank g v sh.placed bits i l in ap (container g' w) (r.slot i l) ∙ container-is (v.slot i) x.in-range x.in_use)
      ∙ sym (map-up_to (renewed p ss) (λ i. container g v (v.slot i)) g.k)
      ∙ sym (placed-renewed p 0 ss (read g v).containers (prefixes-ascend g v sh.placed bits) (set_known g v sh.placed bits p here.in-range here.is_set))

  pub refill-reads : read g' w ≡ with (read g v) (placed p 0 ss (read g v).containers) (read g v).free
  unfolding read
  refill-reads = ap₂ (λ (cs : List Container) (fs : List ℕ). record { P = g.P; S = g.S; C = g.C; N = g.N; containers = cs; free = fs })
      containers-are (down_from-same v.free w.free (g.C - g.k) r.free)

  -- the words under the prefix are replaced
  words_are : length (walk (read g' w)) + length (suffixes g v c) ≡ g.count + length ss
  unfolding read walk
  words_are =
      let u : under p (read g v).containers ≡ suffixes g v c = under-set g v sh.placed bits p here.in-range here.is_set ∙ ap (suffixes g v) here.there in
      ap₂ ◌+◌ (ap (λ (x : Reading). length (walk x)) refill-reads) (ap length (sym u))
      ∙ length-placed g.S p 0 ss (read g v).containers (prefixes-ascend g v sh.placed bits)
      ∙ ap (λ (n : ℕ). n + length ss) sh.counts.count-true

  pub refill-shape : count' + length (suffixes g v c) ≡ g.count + length ss → Shape g' w
  refill-shape e = record {
    placed = still_placed;
    held = still-held;
    hung = hung-stays g v w c p used' kept sh g.k count' still-held;
    stacks = still-stacked;
    counts = record { used-true = r.nodes.used-true; count-true = omega (arith, words_are, e) };
  }
