-- What is decided over four areas holds of a region's seven: `Placed` and `FreeStack` look at no other number and no other area. Assumes nothing.
use Prim.Native.Nat.{ℕ, ◌<◌}
use mathlib.Core.Path.{◌≡◌, sym}
use mathlib.Core.List.{List, []}
use lib.ListN.{length}
use Rattle.lists.specs.Sums.{sum}
use Rattle.model.specs.Words.{bytes_of}
use Rattle.model.specs.Reading.{walk}
use Rattle.region.specs.Areas.{Numbers, bitmap, ranks, stack, records}
use Rattle.region.specs.Tries.{members}
use Rattle.region.specs.Seen.{Seen, seen}
use Rattle.region.specs.Read.{read}
use Rattle.region.specs.WellFormed.{rank_of, Bears, Ranked, Placed, FreeSlot, Stacked}
use Rattle.region.proofs.SeenBits.{seen-bits}
use Rattle.inspect_slots.specs.Slots.{slot_numbers, slot_seen, FreeStack, stored}
use Rattle.inspect_slots.proofs.Lengths.{walk-length}

-- a region's numbers and areas: its words say the same in both
module _ (g : Numbers) (l : List ℕ) where
  abbrev h : Numbers
  h = slot_numbers g.P g.C g.k

  abbrev placed_part : Seen
  placed_part = slot_seen (bitmap g l) (ranks g l) [] (records g l)

  -- of the stack alone P is not looked at either
  abbrev f : Numbers
  f = slot_numbers 0 g.C g.k

  abbrev stack_part : Seen
  stack_part = slot_seen [] [] (stack g l) (records g l)

  pub placed-seen : Placed h placed_part → Placed g (seen g l)
  unfolding seen
  placed-seen pl = record {
    past = pl.past;
    prefixes = pl.prefixes;
    borne = λ p b e. let x : Bears h placed_part p (placed_part.slot (rank_of h placed_part p)) = pl.borne p b e in record { in-range = x.in-range; in_use = x.in_use; prefix = x.prefix };
    ranked = λ c b u. let x : Ranked h placed_part c = pl.ranked c b u in record { in-range = x.in-range; is_set = x.is_set; there = x.there };
    kinds = pl.kinds;
  }

  pub seen_placed : Placed g (seen g l) → Placed h placed_part
  unfolding seen
  seen_placed pl = record {
    past = pl.past;
    prefixes = pl.prefixes;
    borne = λ p b e. let x : Bears g (seen g l) p ((seen g l).slot (rank_of g (seen g l) p)) = pl.borne p b e in record { in-range = x.in-range; in_use = x.in_use; prefix = x.prefix };
    ranked = λ c b u. let x : Ranked g (seen g l) c = pl.ranked c b u in record { in-range = x.in-range; is_set = x.is_set; there = x.there };
    kinds = pl.kinds;
  }

  pub stack-seen : FreeStack f stack_part → FreeStack g (seen g l)
  unfolding seen
  stack-seen s = record {
    free-slots = λ i b. let x : FreeSlot f stack_part i = s.free-slots i b in record { in-range = x.in-range; is_free = x.is_free; place = x.place };
    stacked = λ c b e. let x : Stacked f stack_part c = s.stacked c b e in record { in-range = x.in-range; there = x.there };
  }

  pub seen-stack : FreeStack g (seen g l) → FreeStack f stack_part
  unfolding seen
  seen-stack s = record {
    free-slots = λ i b. let x : FreeSlot g (seen g l) i = s.free-slots i b in record { in-range = x.in-range; is_free = x.is_free; place = x.place };
    stacked = λ c b e. let x : Stacked g (seen g l) c = s.stacked c b e in record { in-range = x.in-range; there = x.there };
  }

  -- what `sizes` answers is the length of the walk, where each trie's stored length is true
  pub sizes-walk : Placed g (seen g l) → ((c : ℕ) → c < g.C → (seen g l).kind c ≡ 2 → (seen g l).size c ≡ length (members (seen g l).node (bytes_of g.S) ((seen g l).link c)))
      → sum (stored (slot_seen [] [] [] (records g l))) g.C ≡ length (walk (read g (seen g l)))
  unfolding seen
  sizes-walk pl true-size = sym (walk-length g (seen g l) pl (seen-bits g l) true-size)
