-- Opening a container keeps a region well formed, and it reads with the new container at its place and one free slot less. Assumes nothing.
use Prim.Native.Nat.{ℕ, suc, ◌+◌, ◌-◌, ◌^◌, ◌<◌}
use mathlib.Core.Path.{◌≡◌, sym, ap, ap₂, ◌∙◌, subst}
use mathlib.Core.Logic.{◌≢◌}
use mathlib.Core.List.{List, [], ◌∷◌}
use native.Mathlib.Omega.{arith}
use lib.ListN.{length}
use Rattle.lists.specs.Lists.{up_to, down_from}
use Rattle.lists.proofs.Same.{down_from-same}
use Rattle.model.specs.Reading.{Container, walk}
use Rattle.model.specs.Change.{placed, top, rest, with}
use Rattle.region.specs.Areas.{Numbers}
use Rattle.region.specs.Seen.{Seen}
use Rattle.region.specs.Read.{container, read}
use Rattle.region.specs.WellFormed.{rank_of, Bears, Ranked, Placed, Vector, Held, FreeSlot, Stacked, Stacks, Shape}
use Rattle.steps.specs.Steps.{counted, Opened}
use Rattle.steps.proofs.Ranks.{OneBit, not-clear, Wider, rank-fits, total-wider, slot-new, slot-old, by_rank, wider-placed, words-wider}
use Rattle.steps.proofs.Kept.{Kept, suffixes-one, placed-stays, held_stays, hung-stays, free-slot-stays, stacked-stays, stacks-stay, container-stays, nodes-stay}

-- one container and one member more
abbrev pub grown : Numbers → Numbers
grown g = counted g (suc g.k) g.used (suc g.count)

module _ (g : Numbers) (v w : Seen) (c p s : ℕ) (sh : Shape g v) (bits : (q : ℕ) → v.bit q < 2) (o : Opened g v w c p s) where
  -- the slot was the next free one
  last : FreeSlot g v (g.C - suc g.k)
  last = sh.stacks.free-slots (g.C - suc g.k) (omega (arith, o.some-free))

  c-small : c < g.C
  c-small = subst (λ (d : ℕ). d < g.C) o.next last.in-range

  c-free : v.kind c ≡ 0
  c-free = ap v.kind (sym o.next) ∙ last.is_free

  c-link : v.link c ≡ g.C - suc g.k
  c-link = ap v.link (sym o.next) ∙ last.place

  -- one prefix more, and all else as before
  bit : OneBit v.bit w.bit p
  bit = record { clear = o.was-clear; is_set = o.bit-here; else = o.bit-else }

  wider : Wider g v w c p
  wider = record {
    small = o.prefix-small;
    bits = bit;
    total = sh.placed.prefixes;
    slots = record { fits = rank-fits g v p o.prefix-small sh.placed.prefixes; below = o.slot-below; here = o.slot-here; above = o.slot-above };
  }

  none-bears : (d : ℕ) → Bears g v p d → ⊥
  none-bears d b = not-clear v.bit w.bit p bit (v.prefix d) (sh.placed.ranked d b.in-range b.in_use).is_set b.prefix

  kept : Kept g v w c p g.used
  kept = record {
    others = o.others;
    nodes = nodes-stay g v w c o.others sh (λ z. omega (arith, c-free)) o.spare o.node;
    bit-else = o.bit-else;
    slot-else = λ q h ne e. slot-old g v w c p wider q h e;
    only-slot = λ d b. absurd (none-bears d b);
    only-prefix = λ q b. absurd (b.in_use c-free);
  }

  -- the new container
  in_use : w.kind c ≢ 0
  in_use z = omega (arith, o.kind)

  ranked : Ranked (grown g) w c
  ranked = record {
    in-range = subst (λ (q : ℕ). q < 2 ^ g.P) (sym o.prefix) o.prefix-small;
    is_set = ap w.bit o.prefix ∙ o.bit-here;
    there = ap (λ (q : ℕ). w.slot (rank_of g w q)) o.prefix ∙ slot-new g v w c p wider;
  }

  vector : Vector (grown g) w c
  vector = record {
    some = omega (arith, o.size);
    few = omega (arith, o.size);
    distinct = λ i j l u. absurd (omega (arith, o.size));
    small = λ i l. let z : i ≡ 0 = omega (arith, o.size) in subst (λ (t : ℕ). t < 2 ^ g.S) (sym (ap (w.entry c) z ∙ o.entry)) o.suffix-small;
  }

  container-new : container (grown g) w c ≡ record { prefix = p; slot = c; suffixes = s ∷ [] }
  container-new = ap₂ (λ (q : ℕ) (ss : List ℕ). record { prefix = q; slot = c; suffixes = ss }) o.prefix (suffixes-one (grown g) w c o.kind o.size ∙ ap (λ (t : ℕ). t ∷ []) o.entry)

  -- the others
  container-old : (d : ℕ) → d < g.C → v.kind d ≢ 0 → container (grown g) w d ≡ container g v d
  container-old d h u = container-stays g v w c p g.used kept sh (suc g.k) (suc g.count) d h (λ z. u (ap v.kind z ∙ c-free)) u

  -- Shape

  still_placed : Placed (grown g) w
  still_placed =
      placed-stays g v w c p g.used kept sh (suc g.k) (suc g.count) o.prefix-small (total-wider g v w c p wider)
      (λ e. subst (Bears (grown g) w p) (sym (slot-new g v w c p wider)) record { in-range = c-small; in_use = in_use; prefix = o.prefix })
      (λ u. ranked) (omega (arith, o.kind))

  still-held : Held (grown g) w
  still-held = held_stays g v w c p g.used kept sh (suc g.k) (suc g.count) (λ e. vector) (λ e. absurd (omega (arith, o.kind)))

  still-stacked : Stacks (grown g) w
  still-stacked = stacks-stay g v w c p g.used kept sh (suc g.k) (suc g.count) free stacked
    where
      free : (i : ℕ) → i < g.C - suc g.k → FreeSlot (grown g) w i
      free i h =
          let y : FreeSlot g v i = sh.stacks.free-slots i (omega arith) in
          let nc : v.free i ≢ c = λ z. let e : i ≡ g.C - suc g.k = sym y.place ∙ ap v.link z ∙ c-link in omega arith in
          free-slot-stays g v w c p g.used kept sh (suc g.k) (suc g.count) i (omega arith) nc (o.free i h)

      stacked : (d : ℕ) → d < g.C → w.kind d ≡ 0 → Stacked (grown g) w d
      stacked d h e =
          let nc : d ≢ c = λ z. in_use (ap w.kind (sym z) ∙ e) in
          let e' : v.kind d ≡ 0 = sym (o.others.kind d h nc) ∙ e in
          let y : Stacked g v d = sh.stacks.stacked d h e' in
          let nl : v.link d ≢ g.C - suc g.k = λ z. nc (sym y.there ∙ ap v.free z ∙ o.next) in
          let l : v.link d < g.C - suc g.k = omega (arith, y.in-range) in
          stacked-stays g v w c p g.used kept sh (suc g.k) (suc g.count) d h nc e' l (o.free (v.link d) l)

  one-longer : length (walk (read (grown g) w)) ≡ suc g.count
  unfolding read walk
  one-longer =
      words-wider g (grown g) v w c p wider sh.placed bits container-old g.S
      ∙ ap₂ ◌+◌ (ap length (suffixes-one (grown g) w c o.kind o.size)) sh.counts.count-true ∙ omega arith

  pub open-shape : Shape (grown g) w
  open-shape = record {
    placed = still_placed;
    held = still-held;
    hung = hung-stays g v w c p g.used kept sh (suc g.k) (suc g.count) still-held;
    stacks = still-stacked;
    counts = record { used-true = kept.nodes.used-true; count-true = one-longer };
  }

  -- Reading

  free_was : down_from v.free (g.C - g.k) ≡ c ∷ down_from v.free (g.C - suc g.k)
  free_was = let e : g.C - g.k ≡ suc (g.C - suc g.k) = omega (arith, o.some-free) in ap (down_from v.free) e ∙ ap (λ (d : ℕ). d ∷ down_from v.free (g.C - suc g.k)) o.next

  pub open-top : top (read g v).free ≡ c
  unfolding read
  open-top = ap top free_was

  pub open-reads : read (grown g) w ≡ with (read g v) (placed p (top (read g v).free) (s ∷ []) (read g v).containers) (rest (read g v).free)
  unfolding read
  open-reads = ap₂ (λ (cs : List Container) (fs : List ℕ). record { P = g.P; S = g.S; C = g.C; N = g.N; containers = cs; free = fs })
      (wider-placed g (grown g) v w c p wider sh.placed bits container-old (s ∷ []) container-new ∙ ap (λ (t : ℕ). placed p t (s ∷ []) (up_to (by_rank g v) g.k)) (sym open-top))
      (down_from-same v.free w.free (g.C - suc g.k) o.free ∙ sym (ap rest free_was))
