-- The parts of a region that each test is lent are its areas: what is asked of them holds, and what is told of them is told of the region. Assumes nothing.
use Prim.Native.Nat.{ℕ, ◌+◌, ◌-◌, ◌*◌, ◌^◌, ◌≤◌, ◌<◌}
use mathlib.Core.Path.{◌≡◌, sym, ap, ◌∙◌, subst}
use mathlib.Core.Logic.{◌≢◌}
use mathlib.Core.Bool.{Bool, true, false}
use mathlib.Core.List.{List, []}
use native.Mathlib.Omega.{arith}
use native.Mathlib.Decide.{ℕ_discrete}
use lib.ListN.{length, take, drop, get_or}
use lib.Pow.{pow_mono}
use Rattle.lists.specs.Lists.{mem, one, Distinct}
use Rattle.lists.specs.Sums.{sum}
use Rattle.lists.proofs.Laws.{ascending-distinct}
use Rattle.lists.proofs.Counts.{sum-few, length-count}
use Rattle.model.specs.Words.{bytes_of}
use Rattle.model.specs.Reading.{walk}
use Rattle.region.specs.Geometry.{bitmap_words, record_words, node_words, off_bitmap, off_ranks, off_stack, off_records}
use Rattle.region.specs.Areas.{Numbers, numbers, area, bitmap, ranks, stack, records}
use Rattle.region.specs.Tries.{members}
use Rattle.region.specs.Seen.{Seen, seen}
use Rattle.region.specs.Read.{read}
use Rattle.region.specs.WellFormed.{Placed, Trie, Held, Ready}
use Rattle.region.proofs.Listing.{members-ascend}
use Rattle.arena_check.specs.Answers.{CheckedAs}
use Rattle.arena_check.specs.declared.Sound.{Sound}
use Rattle.std.specs.Prelude.{Option}
use Rattle.lens.specs.Parts.{parts_of, arena_of}
use Rattle.lens.proofs.Holding.{Sized, begin, sized}
use Rattle.make.proofs.Ranges.{Ranges, ranges}
use Rattle.inspect_slots.specs.Slots.{slot_numbers, slot_seen, kind_in, size_in, FreeStack, stored}
use Rattle.inspect_slots.proofs.Carried.{placed-seen, seen_placed, stack-seen, seen-stack, sizes-walk}
use Rattle.inspect_tries.proofs.Lent.{suffix-bits, lent_is, arena-long}

-- from word a to before word b
abbrev pub part_of : ℕ → ℕ → List ℕ → List ℕ
part_of a b l = take (b - a) (drop a l)

part-is : (l : List ℕ) (a b o k : ℕ) → a ≡ o → b ≡ o + k → part_of a b l ≡ area o k l
unfolding area
part-is l a b o k ea eb = let n : b - a ≡ k = omega arith in ap (λ (z : ℕ). take z (drop a l)) n ∙ ap (λ (z : ℕ). take k (drop z l)) ea

one-few : (b : Bool) → one b ≤ 1
one-few true = omega arith
one-few false = omega arith

-- different numbers below M are at most M
few-below : (xs : List ℕ) (M : ℕ) → Distinct xs → ((s : ℕ) → mem s xs ≡ true → s < M) → length xs ≤ M
few-below xs M d small = omega (arith, length-count xs M d small, sum-few (λ x. one (mem x xs)) M (λ x. one-few (mem x xs)))

module _ (l : List ℕ) (r : Ready l) where
  abbrev g : Numbers
  g = numbers l

  abbrev v : Seen
  v = seen g l

  z : Sized g (parts_of g l)
  z = sized (begin l r)

  good : Ranges g.P g.C g.N
  good = ranges g.P g.S g.C g.N r.header.ranges

  bitmap-part : part_of (get_or l 8 0) (get_or l 9 0) l ≡ bitmap g l
  bitmap-part = part-is l (get_or l 8 0) (get_or l 9 0) off_bitmap (bitmap_words g.P) r.header.bitmap r.header.ranks

  ranks-part : part_of (get_or l 9 0) (get_or l 10 0) l ≡ ranks g l
  ranks-part = part-is l (get_or l 9 0) (get_or l 10 0) (off_ranks g.P) g.C r.header.ranks r.header.stack

  stack-part : part_of (get_or l 10 0) (get_or l 11 0) l ≡ stack g l
  stack-part = part-is l (get_or l 10 0) (get_or l 11 0) (off_stack g.P g.C) g.C r.header.stack r.header.records

  records-part : part_of (get_or l 11 0) (get_or l 12 0) l ≡ records g l
  records-part = part-is l (get_or l 11 0) (get_or l 12 0) (off_records g.P g.C) (record_words * g.C) r.header.records r.header.entries

  records-long : length (part_of (get_or l 11 0) (get_or l 12 0) l) ≡ record_words * g.C
  records-long = ap length records-part ∙ z.records

  -- Prefixes, ranks and records

  pub placing-asks : ((length (part_of (get_or l 8 0) (get_or l 9 0) l) ≡ bitmap_words g.P) × (g.P ≤ 24)) × ((length (part_of (get_or l 9 0) (get_or l 10 0) l) ≡ g.C) × (length (part_of (get_or l 11 0) (get_or l 12 0) l) ≡ record_words * g.C))
  placing-asks = ((ap length bitmap-part ∙ z.bitmap, good.P-high), (ap length ranks-part ∙ z.ranks, records-long))

  placing-part : slot_seen (part_of (get_or l 8 0) (get_or l 9 0) l) (part_of (get_or l 9 0) (get_or l 10 0) l) [] (part_of (get_or l 11 0) (get_or l 12 0) l) ≡ slot_seen (bitmap g l) (ranks g l) [] (records g l)
  placing-part = λ i. slot_seen (bitmap-part i) (ranks-part i) [] (records-part i)

  pub placing-told : Placed (slot_numbers g.P g.C g.k) (slot_seen (part_of (get_or l 8 0) (get_or l 9 0) l) (part_of (get_or l 9 0) (get_or l 10 0) l) [] (part_of (get_or l 11 0) (get_or l 12 0) l)) → Placed g v
  placing-told p = placed-seen g l (subst (Placed (slot_numbers g.P g.C g.k)) placing-part p)

  pub told-placing : Placed g v → Placed (slot_numbers g.P g.C g.k) (slot_seen (part_of (get_or l 8 0) (get_or l 9 0) l) (part_of (get_or l 9 0) (get_or l 10 0) l) [] (part_of (get_or l 11 0) (get_or l 12 0) l))
  told-placing p = subst (Placed (slot_numbers g.P g.C g.k)) (sym placing-part) (seen_placed g l p)

  -- The container free stack

  pub stacking-asks : (length (part_of (get_or l 10 0) (get_or l 11 0) l) ≡ g.C) × (length (part_of (get_or l 11 0) (get_or l 12 0) l) ≡ record_words * g.C)
  stacking-asks = (ap length stack-part ∙ z.stack, records-long)

  stacking-part : slot_seen [] [] (part_of (get_or l 10 0) (get_or l 11 0) l) (part_of (get_or l 11 0) (get_or l 12 0) l) ≡ slot_seen [] [] (stack g l) (records g l)
  stacking-part = λ i. slot_seen [] [] (stack-part i) (records-part i)

  pub stacking-told : FreeStack (slot_numbers 0 g.C g.k) (slot_seen [] [] (part_of (get_or l 10 0) (get_or l 11 0) l) (part_of (get_or l 11 0) (get_or l 12 0) l)) → FreeStack g v
  stacking-told p = stack-seen g l (subst (FreeStack (slot_numbers 0 g.C g.k)) stacking-part p)

  pub told-stacking : FreeStack g v → FreeStack (slot_numbers 0 g.C g.k) (slot_seen [] [] (part_of (get_or l 10 0) (get_or l 11 0) l) (part_of (get_or l 11 0) (get_or l 12 0) l))
  told-stacking p = subst (FreeStack (slot_numbers 0 g.C g.k)) (sym stacking-part) (seen-stack g l p)

  -- The nodes

  pub hanging-asks : (n : ℕ) → n ≡ g.N → length (part_of (get_or l 13 0) (get_or l 15 0) l) ≡ n + node_words * n
  hanging-asks n en = ap length (lent_is l r) ∙ omega (arith, arena-long l r)

  module _ (n u b : ℕ) (en : n ≡ g.N) (eu : u ≡ g.used) (eb : b ≡ bytes_of g.S) where
    pub hanging-told : (a : Option Sound) → CheckedAs n b u (part_of (get_or l 13 0) (get_or l 15 0) l) a → CheckedAs g.N (bytes_of g.S) g.used (arena_of g l) a
    hanging-told a = subst (λ (A : Type 0). A) (λ i. CheckedAs (en i) (eb i) (eu i) (lent_is l r i) a)

  -- The member count

  module _ (pl : Placed g v) (he : Held g v) where
    -- a vector is short, and a trie's suffixes are different and below 2^S
    size_few : (c : ℕ) → c < g.C → v.kind c ≢ 0 → v.size c ≤ 2 ^ 40
    size_few c h ne = pick (ℕ_discrete (v.kind c) 2)
      where
        pick : Dec (v.kind c ≡ 2) → v.size c ≤ 2 ^ 40
        pick (yes e) =
            let t : Trie g v c = he.trie c h e in
            let p : 2 ^ g.S ≤ 2 ^ 40 = pow_mono (suffix-bits l r).1 in
            omega (arith, t.true-size, few-below (members v.node (bytes_of g.S) (v.link c)) (2 ^ g.S) (ascending-distinct (members v.node (bytes_of g.S) (v.link c)) (members-ascend v.node (bytes_of g.S) (v.link c))) t.small)
        pick (no n) =
            let k : v.kind c ≤ 2 = pl.kinds c h in
            let e : v.kind c ≡ 1 = omega arith in
            omega (arith, (he.vector c h e).few)

    pub counting-asks : ((length (part_of (get_or l 11 0) (get_or l 12 0) l) ≡ record_words * g.C) × (g.C ≤ 65536)) × ((c : ℕ) → c < g.C → kind_in (part_of (get_or l 11 0) (get_or l 12 0) l) c ≢ 0 → size_in (part_of (get_or l 11 0) (get_or l 12 0) l) c ≤ 2 ^ 40)
    unfolding seen
    counting-asks = ((records-long, good.C-high), subst (λ (x : List ℕ). (c : ℕ) → c < g.C → kind_in x c ≢ 0 → size_in x c ≤ 2 ^ 40) (sym records-part) size_few)

    pub counting-told : sum (stored (slot_seen [] [] [] (part_of (get_or l 11 0) (get_or l 12 0) l))) g.C ≡ length (walk (read g v))
    counting-told = ap (λ (x : List ℕ). sum (stored (slot_seen [] [] [] x)) g.C) records-part ∙ sizes-walk g l pl (λ c h e. (he.trie c h e).true-size)
