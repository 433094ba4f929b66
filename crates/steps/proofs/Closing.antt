-- Closing a container keeps a region well formed, and it reads without that container and with its slot as the next free one. Assumes nothing.
use Prim.Native.Nat.{ℕ, suc, ◌+◌, ◌-◌, ◌^◌, ◌<◌}
use mathlib.Core.Path.{◌≡◌, refl, sym, ap, ap₂, ◌∙◌, subst}
use mathlib.Core.Logic.{◌≢◌}
use mathlib.Core.List.{List, ◌∷◌}
use native.Mathlib.Omega.{arith}
use native.Mathlib.Decide.{ℕ_discrete, dec_lt}
use lib.ListN.{length}
use Rattle.lists.specs.Lists.{up_to, down_from}
use Rattle.lists.proofs.Same.{down_from-same}
use Rattle.model.specs.Reading.{Container, walk, words_of}
use Rattle.model.specs.Change.{dropped, with}
use Rattle.region.specs.Areas.{Numbers}
use Rattle.region.specs.Seen.{Seen}
use Rattle.region.specs.Read.{suffixes, container, read}
use Rattle.region.specs.WellFormed.{rank_of, Ranked, Placed, Held, FreeSlot, Stacked, Stacks, Shape}
use Rattle.region.proofs.Containers.{rank-small, k-fits}
use Rattle.steps.specs.Steps.{counted, Closed}
use Rattle.steps.proofs.OneMore.{OneMore}
use Rattle.steps.proofs.Ranks.{OneBit, rank-upto, rank-past, bits-narrower, Wider, slot-old, by_rank, narrower-dropped, words-wider}
use Rattle.steps.proofs.Kept.{Kept, own-slot, suffixes-one, placed-stays, held_stays, hung-stays, free-slot-stays, stacked-stays, stacks-stay, container-stays, nodes-stay}

-- one container and one member less
abbrev pub shrunk : Numbers → Numbers
shrunk g = counted g (g.k - 1) g.used (g.count - 1)

module _ (g : Numbers) (v w : Seen) (c : ℕ) (sh : Shape g v) (bits : (q : ℕ) → v.bit q < 2) (x : Closed g v w c) where
  abbrev p : ℕ
  p = v.prefix c

  -- the slot was in use
  in_use : v.kind c ≢ 0
  in_use z = omega (arith, x.was-vector)

  ranked : Ranked g v c
  ranked = sh.placed.ranked c x.in-range in_use

  rank-in : rank_of g v p < g.k
  rank-in = rank-small g v sh.placed p ranked.in-range ranked.is_set

  k-is : suc (g.k - 1) ≡ g.k
  k-is = omega (arith, rank-in)

  -- one prefix less, and all else as before
  bit : OneBit w.bit v.bit p
  bit = record { clear = x.bit-here; is_set = ranked.is_set; else = λ q ne. sym (x.bit-else q ne) }

  total : rank_of g w (2 ^ g.P) ≡ g.k - 1
  total = let e : rank_of g v (2 ^ g.P) ≡ suc (rank_of g w (2 ^ g.P)) = rank-past w.bit v.bit p bit (2 ^ g.P) ranked.in-range in omega (arith, sh.placed.prefixes)

  slots : OneMore w.slot v.slot c (rank_of g v p) (g.k - 1)
  slots = record { fits = omega (arith, rank-in); below = λ r l. sym (x.slot-below r l); here = ranked.there; above = λ r l u. sym (x.slot-above r l (omega arith)) }

  wider : Wider (shrunk g) w v c p
  wider = record {
    small = ranked.in-range;
    bits = bit;
    total = total;
    slots = subst (λ (i : ℕ). OneMore w.slot v.slot c i (g.k - 1)) (rank-upto w.bit v.bit p bit p (omega arith)) slots;
  }

  kept : Kept g v w c p g.used
  kept = record {
    others = x.others;
    nodes = nodes-stay g v w c x.others sh (λ z. omega (arith, x.was-vector)) x.spare x.node;
    bit-else = x.bit-else;
    slot-else = λ q h ne e. sym (slot-old (shrunk g) w v c p wider q h (x.bit-else q ne ∙ e));
    only-slot = own-slot g v sh.placed c x.in-range in_use;
    only-prefix = λ q b. sym b.prefix;
  }

  -- Shape

  still_placed : Placed (shrunk g) w
  still_placed =
      placed-stays g v w c p g.used kept sh (g.k - 1) (g.count - 1) ranked.in-range total
      (λ e. absurd (omega (arith, x.bit-here))) (λ u. absurd (u x.kind)) (omega (arith, x.kind))

  still-held : Held (shrunk g) w
  still-held = held_stays g v w c p g.used kept sh (g.k - 1) (g.count - 1) (λ e. absurd (omega (arith, x.kind))) (λ e. absurd (omega (arith, x.kind)))

  -- the freed slot's place is the last
  free-is : g.C - (g.k - 1) ≡ suc (g.C - g.k)
  free-is = omega (arith, rank-in, k-fits g v sh.placed bits)

  still-stacked : Stacks (shrunk g) w
  still-stacked = stacks-stay g v w c p g.used kept sh (g.k - 1) (g.count - 1) (λ i h. free i h (dec_lt i (g.C - g.k))) (λ d h e. stacked d h e (ℕ_discrete d c))
    where
      last : FreeSlot (shrunk g) w (g.C - g.k)
      last = record {
        in-range = subst (λ (d : ℕ). d < g.C) (sym x.free-here) x.in-range;
        is_free = ap w.kind x.free-here ∙ x.kind;
        place = ap w.link x.free-here ∙ x.link;
      }

      free : (i : ℕ) → i < g.C - (g.k - 1) → Dec (i < g.C - g.k) → FreeSlot (shrunk g) w i
      free i h (yes l) =
          let y : FreeSlot g v i = sh.stacks.free-slots i l in
          let nc : v.free i ≢ c = λ z. let e : v.kind c ≡ 0 = ap v.kind (sym z) ∙ y.is_free in omega (arith, x.was-vector) in
          free-slot-stays g v w c p g.used kept sh (g.k - 1) (g.count - 1) i l nc (x.free-else i l)
      free i h (no n) = let e : g.C - g.k ≡ i = omega (arith, free-is) in subst (FreeSlot (shrunk g) w) e last

      stacked : (d : ℕ) → d < g.C → w.kind d ≡ 0 → Dec (d ≡ c) → Stacked (shrunk g) w d
      stacked d h e (yes z) = subst (Stacked (shrunk g) w) (sym z) record { in-range = omega (arith, x.link, free-is); there = ap w.free x.link ∙ x.free-here }
      stacked d h e (no nc) =
          let e' : v.kind d ≡ 0 = sym (x.others.kind d h nc) ∙ e in
          let y : Stacked g v d = sh.stacks.stacked d h e' in
          stacked-stays g v w c p g.used kept sh (g.k - 1) (g.count - 1) d h nc e' (omega (arith, y.in-range, free-is)) (x.free-else (v.link d) y.in-range)

  -- the containers that are left
  bits' : (q : ℕ) → w.bit q < 2
  bits' = bits-narrower w.bit v.bit p bit bits

  container-left : (d : ℕ) → d < g.C → w.kind d ≢ 0 → container g v d ≡ container (shrunk g) w d
  container-left d h u =
      let nc : d ≢ c = λ z. u (ap w.kind z ∙ x.kind) in
      sym (container-stays g v w c p g.used kept sh (g.k - 1) (g.count - 1) d h nc (λ z. u (x.others.kind d h nc ∙ z)))

  one-shorter : length (walk (read (shrunk g) w)) ≡ g.count - 1
  unfolding read walk
  one-shorter =
      let all : ℕ → List Container = up_to (by_rank g v) in
      let left : List Container = up_to (by_rank (shrunk g) w) (g.k - 1) in
      let a : length (words_of g.S (all (suc (g.k - 1)))) ≡ length (suffixes g v c) + length (words_of g.S left) = words-wider (shrunk g) g w v c p wider still_placed bits' container-left g.S in
      let b : length (suffixes g v c) ≡ 1 = ap length (suffixes-one g v c x.was-vector x.was-one) in
      let e : length (words_of g.S (all (suc (g.k - 1)))) ≡ g.count = ap (λ (n : ℕ). length (words_of g.S (all n))) k-is ∙ sh.counts.count-true in
      omega (arith, a, b, e)

  pub close-shape : Shape (shrunk g) w
  close-shape = record {
    placed = still_placed;
    held = still-held;
    hung = hung-stays g v w c p g.used kept sh (g.k - 1) (g.count - 1) still-held;
    stacks = still-stacked;
    counts = record { used-true = kept.nodes.used-true; count-true = one-shorter };
  }

  -- Reading

  pub close-reads : read (shrunk g) w ≡ with (read g v) (dropped (v.prefix c) (read g v).containers) (c ∷ (read g v).free)
  unfolding read
  close-reads = ap₂ (λ (cs : List Container) (fs : List ℕ). record { P = g.P; S = g.S; C = g.C; N = g.N; containers = cs; free = fs })
      (narrower-dropped (shrunk g) g w v c p wider still_placed bits' container-left refl ∙ ap (λ (n : ℕ). dropped p (up_to (by_rank g v) n)) k-is)
      (ap (down_from w.free) free-is ∙ ap₂ ◌∷◌ x.free-here (down_from-same v.free w.free (g.C - g.k) x.free-else))
