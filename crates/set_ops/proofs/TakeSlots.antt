-- A prefix that stands in a slot stays there while words under it are inserted; and a word that was inserted has its prefix in a slot. Assumes nothing.
use Rattle.std.proofs.Common.{◌≡◌, ℕ, ◌+◌, ◌^◌, ◌<◌, Bool, true, false, ◌||◌, eqb, List, [], ◌∷◌, map, sym, refl, ap, ◌∙◌, subst, true≢false, arith}
use mathlib.Core.Bool.{false≢true}
use Rattle.lists.specs.Lists.{mem}
use Rattle.lists.proofs.Laws.{by-test, eqb-self, mem-put}
use Rattle.model.specs.Words.{prefix_of, suffix_of}
use Rattle.model.specs.Reading.{Container, Reading, has, prefixes_of, under}
use Rattle.model.specs.Change.{added, insert, placed, slot_of, top, with}
use Rattle.model.specs.Commands.{Code, Run, has_room, run}
use Rattle.model.specs.Good.{Good}
use Rattle.model.proofs.ContainerLaws.{prefixes-placed, under_none}
use Rattle.model.proofs.Runs.{run_on, run-stop}
use Rattle.model.proofs.Steps.{has-is, insert-new, insert-old}
use Rattle.region.specs.Areas.{numbers}
use Rattle.region.specs.Seen.{seen}
use Rattle.region.specs.Read.{reading}
use Rattle.region.specs.WellFormed.{Bears, Ranked, rank_of, WellFormed}
use Rattle.region.proofs.SeenBits.{seen-bits}
use Rattle.steps.proofs.Places.{clear-unknown, placed-renewed, renewed, set_known, slot-set}
use Rattle.set_ops.specs.Poured.{Ended, pouring}
use Rattle.set_ops.proofs.Pouring.{one_word}

-- On readings

-- the prefix p has a container, in slot c
pub record Stands (r : Reading) (p c : ℕ) : Type 0 where
  pub known : mem p (prefixes_of r.containers) ≡ true
  pub slot : slot_of p r.containers ≡ c

-- other suffixes leave the slot
slot-renewed : (p : ℕ) (ss : List ℕ) (cs : List Container) → slot_of p (map (renewed p ss) cs) ≡ slot_of p cs
slot-renewed p ss [] = refl
slot-renewed p ss (c ∷ cs) = go (eqb p c.prefix) refl (slot-renewed p ss cs)
  where
    go : (b : Bool) → eqb p c.prefix ≡ b → slot_of p (map (renewed p ss) cs) ≡ slot_of p cs → slot_of p (map (renewed p ss) (c ∷ cs)) ≡ slot_of p (c ∷ cs)
    go true e ih = rw (e, eqb-self p)
    go false e ih = rw (e, e) ih

-- a prefix under which suffixes are placed is known
pub known-placed : (p t : ℕ) (ss : List ℕ) (cs : List Container) → mem p (prefixes_of (placed p t ss cs)) ≡ true
known-placed p t ss cs = ap (mem p) (prefixes-placed p t ss cs) ∙ mem-put p p (prefixes_of cs) ∙ ap (λ (b : Bool). b || mem p (prefixes_of cs)) (eqb-self p)

-- and keeps the slot that it had
slot_placed : (r : Reading) → Good r → (p c : ℕ) → Stands r p c → (t : ℕ) (ss : List ℕ) → slot_of p (placed p t ss r.containers) ≡ c
slot_placed r g p c h t ss = ap (slot_of p) (placed-renewed p t ss r.containers g.ascending h.known) ∙ slot-renewed p ss r.containers ∙ h.slot

pub placed-stands : (r : Reading) → Good r → (p c : ℕ) → Stands r p c → (t : ℕ) (ss : List ℕ) → Stands (with r (placed p t ss r.containers) r.free) p c
placed-stands r g p c h t ss = record { known = known-placed p t ss r.containers; slot = slot_placed r g p c h t ss }

module _ (r : Reading) (g : Good r) (w : ℕ) (l : w < 2 ^ (r.P + r.S)) where
  abbrev q : ℕ
  q = prefix_of r.S w

  abbrev ss : List ℕ
  ss = added (suffix_of r.S w) (under q r.containers)

  -- a word's prefix is known once the word is inserted
  pub insert-known : mem q (prefixes_of (insert w r).containers) ≡ true
  insert-known = by-test (has r w) member new
    where
      member : has r w ≡ true → mem q (prefixes_of (insert w r).containers) ≡ true
      member e = rw (insert-old r g w l e) (by-test (mem q (prefixes_of r.containers)) (λ k. k) (λ k. absurd (true≢false (sym e ∙ has-is r g w ∙ ap (mem (suffix_of r.S w)) (under_none q r.containers k)))))

      new : has r w ≡ false → mem q (prefixes_of (insert w r).containers) ≡ true
      new e = ap (λ (x : Reading). mem q (prefixes_of x.containers)) (insert-new r g w l e) ∙ known-placed q (top r.free) ss r.containers

  -- and keeps the slot that it had
  pub insert-stands : (c : ℕ) → Stands r q c → Stands (insert w r) q c
  insert-stands c h = record { known = insert-known; slot = by-test (has r w) member new }
    where
      member : has r w ≡ true → slot_of q (insert w r).containers ≡ c
      member e = ap (λ (x : Reading). slot_of q x.containers) (insert-old r g w l e) ∙ h.slot

      new : has r w ≡ false → slot_of q (insert w r).containers ≡ c
      new e = ap (λ (x : Reading). slot_of q x.containers) (insert-new r g w l e) ∙ slot_placed r g q c h (top r.free) ss

-- On regions

module _ {l : List ℕ} (wf : WellFormed l) (p : ℕ) where
  -- a known prefix is set
  pub known-set : mem p (prefixes_of (reading l).containers) ≡ true → (seen (numbers l) l).bit p ≡ 1
  unfolding reading
  known-set k = by_bit (seen-bits (numbers l) l p) (λ z. false≢true (sym (clear-unknown (numbers l) (seen (numbers l) l) wf.shape.placed (seen-bits (numbers l) l) p z) ∙ k))
    where
      by_bit : {b : ℕ} → b < 2 → (b ≡ 0 → ⊥) → b ≡ 1
      by_bit h n = omega arith

  -- what a slot bears, as the reading has it
  pub bears-stands : {c : ℕ} → Bears (numbers l) (seen (numbers l) l) p c → Stands (reading l) p c
  unfolding reading
  bears-stands {c} b =
      let k : Ranked (numbers l) (seen (numbers l) l) c = wf.shape.placed.ranked c b.in-range b.in_use in
      let h : p < 2 ^ (numbers l).P = subst (λ (z : ℕ). z < 2 ^ (numbers l).P) b.prefix k.in-range in
      let e : (seen (numbers l) l).bit p ≡ 1 = subst (λ (z : ℕ). (seen (numbers l) l).bit z ≡ 1) b.prefix k.is_set in
      let t : (seen (numbers l) l).slot (rank_of (numbers l) (seen (numbers l) l) p) ≡ c = subst (λ (z : ℕ). (seen (numbers l) l).slot (rank_of (numbers l) (seen (numbers l) l) z) ≡ c) b.prefix k.there in
      record {
        known = set_known (numbers l) (seen (numbers l) l) wf.shape.placed (seen-bits (numbers l) l) p h e;
        slot = slot-set (numbers l) (seen (numbers l) l) wf.shape.placed (seen-bits (numbers l) l) p h e ∙ t;
      }

  module _ (h : p < 2 ^ (numbers l).P) where
    -- a set prefix is borne by the slot at its rank
    pub set-bears : {c : ℕ} → (seen (numbers l) l).bit p ≡ 1 → c ≡ (seen (numbers l) l).slot (rank_of (numbers l) (seen (numbers l) l) p) → Bears (numbers l) (seen (numbers l) l) p c
    set-bears {c} e i = subst (Bears (numbers l) (seen (numbers l) l) p) (sym i) (wf.shape.placed.borne p h e)

    pub stands-bears : {c : ℕ} → Stands (reading l) p c → Bears (numbers l) (seen (numbers l) l) p c
    unfolding reading
    stands-bears {c} s =
        let e : (seen (numbers l) l).bit p ≡ 1 = known-set s.known in
        set-bears e (sym s.slot ∙ slot-set (numbers l) (seen (numbers l) l) wf.shape.placed (seen-bits (numbers l) l) p h e)

-- One word poured

-- a word that was poured was inserted
pub poured-reads : {l m : List ℕ} (w : ℕ) → Ended (pouring (w ∷ []) l) l m → reading m ≡ insert w (reading l)
poured-reads {l} {m} w h = by-test (has_room Code.Insert w (reading l))
    (λ e. h.reads.reads ∙ ap (λ (o : Run). o.reading) (run_on (one_word w) [] (reading l) e) ∙ unfold run in refl)
    (λ e. absurd (true≢false (sym (ap (λ (o : Run). o.stopped) (run-stop (one_word w) [] (reading l) e)) ∙ h.went_on)))
