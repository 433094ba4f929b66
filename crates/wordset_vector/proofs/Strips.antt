-- The strip of a vector, lent and given back: what the vector holds is what stands in front, and with another strip, length and member count the region reads as before but for the suffixes under the vector's prefix. Assumes nothing.
use Prim.Native.Nat.{ℕ, suc, ◌+◌, ◌-◌, ◌*◌, ◌^◌, ◌<◌, ◌≤◌}
use mathlib.Core.Path.{◌≡◌, refl, sym, ap, ap₂, ◌∙◌, subst}
use mathlib.Core.Bool.{Bool, false, cond}
use mathlib.Core.List.{List, [], ◌∷◌, ◌++◌}
use native.Mathlib.Omega.{arith}
use lib.ListN.{length, take, get_or}
use lib.Seq.{length-take-le}
use borrow.Author.Tests.{ne_eqb}
use borrow.Rule.Slice.PartMut.{put_mid, mid_of}
use Rattle.lists.specs.Lists.{mem, up_to, without}
use Rattle.lists.proofs.Laws.{not-true-false}
use Rattle.lists.proofs.Each.{Place, length-up_to, take-up_to}
use Rattle.lists.proofs.Same.{up_to-same}
use Rattle.model.specs.Room.{threshold}
use Rattle.model.specs.Reading.{under}
use Rattle.model.specs.Change.{placed, swap_out, taken, with}
use Rattle.model.specs.Good.{GoodSuffixes}
use Rattle.model.proofs.ContainerLaws.{each-under}
use Rattle.model.proofs.StoredLaws.{good-taken, good-added, appended}
use Rattle.region.specs.Geometry.{strip_words, off_entries}
use Rattle.region.specs.Areas.{Numbers, numbers, area, entries}
use Rattle.region.specs.Seen.{Seen, seen}
use Rattle.region.specs.Read.{suffixes, read, reading}
use Rattle.region.specs.WellFormed.{Ranked, Ready, WellFormed}
use Rattle.region.proofs.Areas.{get_or-area}
use Rattle.region.proofs.SeenBits.{seen-bits}
use Rattle.region.proofs.Containers.{vector-is, containers-good}
use Rattle.promises.specs.Reads.{ReadsAs}
use Rattle.lens.specs.Parts.{parts_of, seen_in, with_entries}
use Rattle.lens.specs.Holding.{Holding}
use Rattle.lens.proofs.Only.{area-length}
use Rattle.lens.proofs.Holding.{begin, sized, well-formed, reads_as, lent-strip, give-strip}
use Rattle.strip.specs.Entries.{Appended, Gathered, Removed, gathered}
use Rattle.strip.proofs.GatherLaws.{good-gathered}
use Rattle.strip.proofs.PlaceLaws.{place-before}
use Rattle.steps.specs.Steps.{counted, Refilled}
use Rattle.steps.proofs.Places.{under-set}
use Rattle.steps.proofs.Refilling.{refill-shape, refill-reads}
use Rattle.wordset_vector.specs.Settled.{Settled}
use Rattle.wordset_vector.proofs.Counting.{count-covers}
use Rattle.wordset_vector.proofs.Refill.{refilled_parts, refilled}

-- where the strip of slot c starts, the strip as it is lent, and the region with another
abbrev pub start_of : List ℕ → ℕ → ℕ
start_of l c = get_or l 12 0 + strip_words * c

abbrev pub strip_of : List ℕ → ℕ → List ℕ
strip_of l c = mid_of (start_of l c) ((start_of l c + strip_words) - start_of l c) l

abbrev pub with_strip : List ℕ → ℕ → List ℕ → List ℕ
with_strip l c new = put_mid (start_of l c) ((start_of l c + strip_words) - start_of l c) l new

module _ (l : List ℕ) (wf : WellFormed l) (c : ℕ) (h : c < (numbers l).C) where
  abbrev g : Numbers
  g = numbers l

  abbrev v : Seen
  v = seen g l

  start_is : start_of l c ≡ off_entries g.P g.C + strip_words * c
  start_is = ap (λ (z : ℕ). z + strip_words * c) wf.ready.header.entries

  strip-is : strip_of l c ≡ area (strip_words * c) strip_words (entries g l)
  strip-is = lent-strip (begin l wf.ready) (start_of l c) (start_of l c + strip_words) c h start_is refl

  strip-long : length (strip_of l c) ≡ strip_words
  strip-long = ap length strip-is ∙ area-length (strip_words * c) strip_words (entries g l) (omega (arith, (sized (begin l wf.ready)).entries))

  strip-at : (i : ℕ) → i < strip_words → get_or (strip_of l c) i 0 ≡ v.entry c i
  unfolding seen
  strip-at i s = ap (λ (z : List ℕ). get_or z i 0) strip-is ∙ get_or-area (strip_words * c) strip_words (entries g l) i s

  given : (new : List ℕ) → length new ≡ strip_words → Holding g (with_entries (put_mid (strip_words * c) strip_words (entries g l) new) (parts_of g l)) l (with_strip l c new)
  given new long = give-strip (begin l wf.ready) (start_of l c) (start_of l c + strip_words) new c h start_is refl long

  pub given-ready : (new : List ℕ) → length new ≡ length (strip_of l c) → Ready (with_strip l c new) × (c < (numbers (with_strip l c new)).C)
  given-ready new e = let y = given new (e ∙ strip-long) in (y.ready, subst (λ (n : Numbers). c < n.C) (sym y.numbers-are) h)

  module _ (k : v.kind c ≡ 1) where
    size_few : v.size c ≤ strip_words
    size_few = (wf.shape.held.vector c h k).few

    suffixes-vector : suffixes g v c ≡ up_to (v.entry c) (v.size c)
    unfolding suffixes
    suffixes-vector = rw (ne_eqb (v.kind c) 2 (λ z. omega arith))

    pub suffixes-length : length (suffixes g v c) ≡ v.size c
    suffixes-length = ap length suffixes-vector ∙ length-up_to (v.entry c) (v.size c)

    -- what the reading has under the vector's prefix
    pub suffixes-under : under (v.prefix c) (reading l).containers ≡ suffixes g v c
    unfolding reading
    suffixes-under =
        let here : Ranked g v c = wf.shape.placed.ranked c h (λ e. omega arith) in
        under-set g v wf.shape.placed (seen-bits g l) (v.prefix c) here.in-range here.is_set ∙ ap (suffixes g v) here.there

    suffixes-good : GoodSuffixes g.S (suffixes g v c)
    unfolding reading
    suffixes-good = subst (GoodSuffixes g.S) suffixes-under (each-under g.P g.S (v.prefix c) (read g v).containers (containers-good g v wf.shape.held wf.shape.placed (seen-bits g l)))

    pub size-counted : v.size c ≤ g.count
    size-counted = omega (arith, suffixes-length, count-covers l wf c h (λ e. omega arith))

    strip-suffixes : take (v.size c) (strip_of l c) ≡ suffixes g v c
    strip-suffixes =
        take-up_to (strip_of l c) 0 (v.size c) (omega (arith, strip-long, size_few))
        ∙ up_to-same (v.entry c) (λ i. get_or (strip_of l c) i 0) (v.size c) (λ i s. strip-at i (omega (arith, size_few))) ∙ sym suffixes-vector

    -- no entry stands before its place
    strip-first : (i : ℕ) → i < v.size c → mem (get_or (strip_of l c) i 0) (take i (strip_of l c)) ≡ false
    strip-first i s = not-true-false (mem (get_or (strip_of l c) i 0) (take i (strip_of l c))) (λ m.
        let p : Place (get_or (strip_of l c) i 0) (λ j. get_or (strip_of l c) j 0) i = place-before (get_or (strip_of l c) i 0) (strip_of l c) i (omega (arith, strip-long, size_few)) m in
        (wf.shape.held.vector c h k).distinct p.at i p.small s
        (sym (strip-at p.at (omega (arith, p.small, size_few))) ∙ p.is ∙ strip-at i (omega (arith, size_few))))

    -- what is asked where entry i is taken out of n
    pub strip-ready : (i n : ℕ) → i < v.size c → n ≡ v.size c → ((i < n) × (n ≤ length (strip_of l c))) × (mem (get_or (strip_of l c) i 0) (take i (strip_of l c)) ≡ false)
    strip-ready i n s e = ((omega arith, omega (arith, strip-long, size_few)), strip-first i s)

    -- Another strip, another length and another member count

    module _ (new : List ℕ) (long : length new ≡ strip_words) (n m : ℕ) (some : 1 ≤ n) (few : n ≤ threshold) (true-count : m + v.size c ≡ g.count + n) (l' : List ℕ) (s : Settled c n m (with_strip l c new) l') where
      settled : Holding (counted g g.k g.used m) (refilled_parts (parts_of g l) c new n) l l'
      settled = s.holds g (with_entries (put_mid (strip_words * c) strip_words (entries g l) new) (parts_of g l)) l (given new long) h

      reads-front : GoodSuffixes g.S (take n new) → ReadsAs l (with (reading l) (placed (v.prefix c) 0 (take n new) (reading l).containers) (reading l).free) l'
      unfolding seen reading read
      reads-front good =
          let w : Seen = seen_in (refilled_parts (parts_of g l) c new n) in
          let r : Refilled g v w c (take n new) g.used = refilled g (parts_of g l) wf.shape (sized (begin l wf.ready)) c h k new long n some few good in
          let len : length (take n new) ≡ n = length-take-le n new (omega arith) in
          record {
            well-formed = well-formed settled (refill-shape g v wf.shape (seen-bits g l) w c (take n new) g.used m r (omega (arith, len, suffixes-length, true-count)));
            reads = reads_as settled ∙ refill-reads g v wf.shape (seen-bits g l) w c (take n new) g.used m r;
            past-stays = settled.same_rest;
          }

      reads-with : (ss : List ℕ) → take n new ≡ ss → GoodSuffixes g.S ss → ReadsAs l (with (reading l) (placed (v.prefix c) 0 ss (reading l).containers) (reading l).free) l'
      reads-with ss e good =
          subst (λ (z : List ℕ). ReadsAs l (with (reading l) (placed (v.prefix c) 0 z (reading l).containers) (reading l).free) l') e
          (reads-front (subst (GoodSuffixes g.S) (sym e) good))

    -- n entries are there before
    front-is : (n : ℕ) → n ≡ v.size c → take n (strip_of l c) ≡ suffixes g v c
    front-is n e = ap (λ (z : ℕ). take z (strip_of l c)) e ∙ strip-suffixes

    -- an entry more
    pub pushed : {s : ℕ} → v.size c < threshold → s < 2 ^ g.S → mem s (suffixes g v c) ≡ false
        → {n : ℕ} {new : List ℕ} → Appended (strip_of l c) n s new → n ≡ v.size c
        → {n' m' : ℕ} {l' : List ℕ} → Settled c n' m' (with_strip l c new) l' → n' ≡ v.size c + 1 → m' ≡ g.count + 1
        → ReadsAs l (with (reading l) (placed (v.prefix c) 0 (suffixes g v c ++ (s ∷ [])) (reading l).containers) (reading l).free) l'
    pushed {s} room small none {n} {new} a e {n'} {m'} {l'} st en em =
        let one_more : n' ≡ suc n = omega arith in
        reads-with new (a.long ∙ strip-long) n' m' (omega arith) (omega arith) (omega arith) l' st (suffixes g v c ++ (s ∷ []))
        (ap (λ (z : ℕ). take z new) one_more ∙ a.grown ∙ ap (λ (z : List ℕ). z ++ (s ∷ [])) (front-is n e))
        (subst (GoodSuffixes g.S) (appended s (suffixes g v c) (omega (arith, suffixes-length))) (good-added g.S s (suffixes g v c) suffixes-good small none))

    -- an entry less
    pub took : {i : ℕ} → 2 ≤ v.size c → i < v.size c
        → {n : ℕ} {new : List ℕ} → Removed (strip_of l c) n i new → n ≡ v.size c
        → {n' m' : ℕ} {l' : List ℕ} → Settled c n' m' (with_strip l c new) l' → n' + 1 ≡ v.size c → m' + 1 ≡ g.count
        → ReadsAs l (with (reading l) (placed (v.prefix c) 0 (swap_out (v.entry c i) (suffixes g v c)) (reading l).containers) (reading l).free) l'
    took {i} two s {n} {new} r e {n'} {m'} {l'} st en em =
        let gone : ℕ = v.entry c i in
        let vector : taken gone (suffixes g v c) ≡ swap_out gone (suffixes g v c) = ap (λ (b : Bool). cond b (without gone (suffixes g v c)) (swap_out gone (suffixes g v c))) (vector-is g v wf.shape.held c h k) in
        let one_less : n' ≡ n - 1 = omega arith in
        reads-with new (r.long ∙ strip-long) n' m' (omega arith) (omega (arith, size_few)) (omega arith) l' st (swap_out gone (suffixes g v c))
        (ap (λ (z : ℕ). take z new) one_less ∙ r.gone ∙ ap₂ (λ (x : ℕ) (z : List ℕ). swap_out x z) (strip-at i (omega (arith, size_few))) (front-is n e))
        (subst (GoodSuffixes g.S) vector (good-taken g.S gone (suffixes g v c) suffixes-good))

    -- what is asked where some entries come behind n
    pub gather-ready : (n k : ℕ) → n ≡ v.size c → v.size c + k ≤ threshold → n + k ≤ length (strip_of l c)
    gather-ready n k e room = omega (arith, strip-long)

    -- some entries more
    pub pushed-all : {ss : List ℕ} → v.size c + length ss ≤ threshold → ((i : ℕ) → i < length ss → get_or ss i 0 < 2 ^ g.S)
        → {n r : ℕ} {new : List ℕ} → Gathered (strip_of l c) n ss r new → n ≡ v.size c
        → {m' : ℕ} {l' : List ℕ} → Settled c r m' (with_strip l c new) l' → m' ≡ g.count + (r - n)
        → ReadsAs l (with (reading l) (placed (v.prefix c) 0 (gathered (suffixes g v c) ss) (reading l).containers) (reading l).free) l'
    pushed-all {ss} room small {n} {r} {new} a e {m'} {l'} st em =
        reads-with new (a.long ∙ strip-long) r m' (omega (arith, a.more, (wf.shape.held.vector c h k).some)) (omega (arith, a.few)) (omega (arith, a.more)) l' st (gathered (suffixes g v c) ss)
        (a.front ∙ ap (λ (z : List ℕ). gathered z ss) (front-is n e))
        (good-gathered g.S (suffixes g v c) ss suffixes-good small (omega (arith, suffixes-length)))
