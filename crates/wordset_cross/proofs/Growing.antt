-- A full vector of a region and a suffix more become a trie: what planting asks, and what the region reads as. Assumes nothing.
use Rattle.std.specs.Prelude.{Result, Ok, Err}
use Prim.Native.Nat.{ℕ, ◌+◌, ◌-◌, ◌*◌, ◌^◌, ◌<◌, ◌≤◌}
use mathlib.Core.Path.{◌≡◌, refl, sym, ap, ◌∙◌, subst}
use mathlib.Core.Bool.{true, false, ◌&&◌, false≢true}
use mathlib.Core.List.{List, [], ◌∷◌, ◌++◌}
use native.Mathlib.Omega.{arith}
use lib.Dec.{eqb, leb}
use lib.Pow.{pow_mono}
use lib.ListN.{length, take, drop, get_or, length-append}
use lib.Seq.{take_all}
use borrow.Author.Tests.{leb-true, lt-ltb, ne_eqb}
use borrow.Rule.Slice.PartMut.{put_same}
use Rattle.lists.specs.Lists.{mem, sorted, Distinct}
use Rattle.lists.proofs.Laws.{and_both, none_or, mem-sorted, distinct-sorted, distinct_append, length-same}
use Rattle.lists.proofs.Each.{take-up_to, up_to-mem, length-up_to}
use Rattle.model.specs.Words.{bytes_of}
use Rattle.model.specs.Room.{threshold, trie_nodes}
use Rattle.model.specs.Change.{added}
use Rattle.model.specs.Good.{GoodSuffixes}
use Rattle.model.proofs.ContainerLaws.{each-under}
use Rattle.model.proofs.StoredLaws.{good-added}
use Rattle.region.specs.Ranges.{good_p, good_s, good_c, good_n}
use Rattle.region.specs.Geometry.{strip_words, node_words}
use Rattle.region.specs.Areas.{Numbers, numbers}
use Rattle.region.specs.Seen.{Seen, seen}
use Rattle.region.specs.Read.{suffixes, read, reading}
use Rattle.region.specs.WellFormed.{Ranked, Ready, WellFormed}
use Rattle.region.proofs.SeenBits.{seen-bits}
use Rattle.region.proofs.Containers.{containers-good}
use Rattle.lists.specs.Lists.{up_to}
use Rattle.arena.specs.Arena.{Arena, Planted}
use Rattle.arena.specs.declared.NoRoom.{NoRoom}
use Rattle.trie_pour.specs.Answers.{PlantedAs}
use Rattle.lens.specs.Parts.{Parts, parts_of, seen_in, with_arena}
use Rattle.lens.specs.Holding.{Holding}
use Rattle.lens.proofs.Holding.{begin, sized, well-formed, reads_as, lent-arena, give-arena}
use Rattle.steps.specs.Steps.{counted, Refilled}
use Rattle.steps.proofs.Places.{under-set}
use Rattle.steps.proofs.Refilling.{refill-shape, refill-reads}
use Rattle.wordset_lookup.proofs.Looks.{vector-part}
use Rattle.wordset_trie.specs.Answers.{ReadsWith}
use Rattle.wordset_trie.proofs.Arenas.{arena-of}
use Rattle.wordset_trie.proofs.Lent.{as-shown, lent_of, with_lent}
use Rattle.wordset_cross.specs.Settled.{Settled}
use Rattle.wordset_cross.proofs.Planting.{planted_parts, refilled}

-- what stands in a list is one of it
stands : (xs : List ℕ) (i : ℕ) → i < length xs → mem (get_or xs i 0) xs ≡ true
stands xs i h = subst (λ (y : List ℕ). mem (get_or xs i 0) y ≡ true) (sym (take-up_to xs 0 (length xs) (omega arith)) ∙ take_all (length xs) xs (omega arith)) (up_to-mem (λ j. get_or xs j 0) (length xs) i h)

module _ (l : List ℕ) (wf : WellFormed l) where
  abbrev g : Numbers
  g = numbers l

  abbrev v : Seen
  v = seen g l

  abbrev b : ℕ
  b = bytes_of g.S

  pub suffix-bits : (1 ≤ g.S) × (g.S ≤ 40)
  suffix-bits =
      let r = (and_both (good_p g.P && good_s g.S && good_c g.C) (good_n g.N) wf.ready.header.ranges).0 in
      let s = and_both (good_p g.P && good_s g.S) (good_c g.C) r in
      let t = and_both (leb 1 g.S) (leb g.S 40) (and_both (good_p g.P) (good_s g.S) s.0).1 in
      (leb-true 1 g.S t.0, leb-true g.S 40 t.1)

  lent_is : lent_of l ≡ (parts_of g l).node_stack ++ (parts_of g l).nodes
  lent_is = lent-arena (begin l wf.ready) (get_or l 13 0) (get_or l 15 0) wf.ready.header.node-stack wf.ready.header.total-length

  lent-ready : Arena g.N b g.used (lent_of l)
  unfolding seen
  lent-ready = subst (Arena g.N b g.used) (sym lent_is) (arena-of g (parts_of g l) wf.shape (sized (begin l wf.ready)))

  given : (new : List ℕ) → length new ≡ g.N + node_words * g.N → Holding g (with_arena (take g.N new) (drop g.N new) (parts_of g l)) l (with_lent l new)
  given new long = give-arena (begin l wf.ready) (get_or l 13 0) (get_or l 15 0) new wf.ready.header.node-stack wf.ready.header.total-length long

  module _ (c : ℕ) (h : c < g.C) (k : v.kind c ≡ 1) (full : v.size c ≡ threshold) (s : ℕ) (small : s < 2 ^ g.S) (none : mem s (suffixes g v c) ≡ false) where
    abbrev ms : List ℕ
    ms = suffixes g v c

    abbrev all : List ℕ
    all = ms ++ (s ∷ [])

    -- The suffixes

    suffixes-vector : ms ≡ up_to (v.entry c) (v.size c)
    unfolding suffixes
    suffixes-vector = rw (ne_eqb (v.kind c) 2 (λ z. omega arith))

    ms-length : length ms ≡ threshold
    ms-length = ap length suffixes-vector ∙ length-up_to (v.entry c) (v.size c) ∙ full

    all-length : length all ≡ 1025
    all-length = length-append ms (s ∷ []) ∙ omega (arith, ms-length)

    ms-good : GoodSuffixes g.S ms
    ms-good =
        let here : Ranked g v c = wf.shape.placed.ranked c h (λ e. omega arith) in
        subst (GoodSuffixes g.S) (under-set g v wf.shape.placed (seen-bits g l) (v.prefix c) here.in-range here.is_set ∙ ap (suffixes g v) here.there)
        (each-under g.P g.S (v.prefix c) (read g v).containers (containers-good g v wf.shape.held wf.shape.placed (seen-bits g l)))

    all-distinct : Distinct all
    all-distinct = distinct_append ms (s ∷ []) ms-good.distinct (refl, tt) apart
      where
        apart : (x : ℕ) → mem x ms ≡ true → mem x (s ∷ []) ≡ false
        apart x m = none_or (eqb x s) false (ne_eqb x s (λ q. false≢true (sym none ∙ subst (λ (j : ℕ). mem j ms ≡ true) q m))) refl

    added_is : added s ms ≡ sorted all
    added_is = rw (lt-ltb threshold (length all) (omega (arith, all-length)))

    sorted-good : GoodSuffixes g.S (sorted all)
    sorted-good = subst (GoodSuffixes g.S) added_is (good-added g.S s ms ms-good small none)

    sorted-length : length (sorted all) ≡ 1025
    sorted-length = length-same (sorted all) all (distinct-sorted all) all-distinct (λ z. mem-sorted z all) ∙ all-length

    -- the array
    module _ (out : List ℕ) (long : length out ≡ 1025) (copied : take 1025 out ≡ take 1024 (take (((get_or l 12 0 + strip_words * c) + 1024) - (get_or l 12 0 + strip_words * c)) (drop (get_or l 12 0 + strip_words * c) l)) ++ (s ∷ [])) where
      out-is : out ≡ all
      out-is =
          sym (take_all 1025 out (omega arith)) ∙ copied
          ∙ ap (λ (y : List ℕ). take 1024 y ++ (s ∷ [])) (vector-part l wf c h k (get_or l 12 0 + strip_words * c) 1024 refl (sym full))
          ∙ ap (λ (y : List ℕ). y ++ (s ∷ [])) (take_all 1024 ms (omega (arith, ms-length)))

      -- what planting asks, in an arena of a shape with as many slots and levels
      module _ (N d : ℕ) (en : N ≡ g.N) (ed : d ≡ b) where
        pub asked : Arena N d g.used (lent_of l) × ((1 ≤ length out) × ((length out ≤ 1025) × (((i : ℕ) → i < length out → get_or out i 0 < 2 ^ (8 * d)) × Distinct out)))
        asked =
            let p : 2 ^ g.S ≤ 2 ^ (8 * d) = pow_mono (omega arith) in
            let each : (i : ℕ) → i < length out → get_or out i 0 < 2 ^ (8 * d) = λ i j.
            let m : mem (get_or out i 0) all ≡ true = subst (λ (y : List ℕ). mem (get_or out i 0) y ≡ true) out-is (stands out i j) in
            let q : get_or out i 0 < 2 ^ g.S = sorted-good.below (get_or out i 0) (mem-sorted (get_or out i 0) all ∙ m) in
            omega (arith, p, q) in
            (as-shown (λ x y. Arena x y g.used (lent_of l)) (sym en) (sym ed) lent-ready, (omega arith, (omega arith, (each, subst Distinct (sym out-is) all-distinct))))

      module _ (N d : ℕ) (en : N ≡ g.N) (ed : d ≡ b) (o : Result (ℕ × ℕ) NoRoom) (new : List ℕ) (i : PlantedAs N d g.used c out (lent_of l) o new) where
        abbrev As : Result (ℕ × ℕ) NoRoom → Type 0
        As a = PlantedAs g.N b g.used c all (lent_of l) a new

        as-all : As o
        as-all = as-shown (λ x y. PlantedAs x y g.used c all (lent_of l) o new) en ed (subst (λ (y : List ℕ). PlantedAs N d g.used c y (lent_of l) o new) out-is i)

        module _ {root used' : ℕ} (e : o ≡ Ok (root, used')) where
          planted : Planted g.N b g.used (lent_of l) c root (sorted all) used' new
          planted = subst As e as-all

          pub grow-ready : Ready (with_lent l new) × (c < (numbers (with_lent l new)).C)
          grow-ready =
              let x : Holding g (with_arena (take g.N new) (drop g.N new) (parts_of g l)) l (with_lent l new) = given new planted.arena.tries.long in
              (x.ready, subst (λ (n : Numbers). c < n.C) (sym x.numbers-are) h)

          pub grow-done : {n m : ℕ} {l' : List ℕ} → Settled c 2 n root used' m (with_lent l new) l' → n ≡ 1025 → m ≡ g.count + 1 → ReadsWith c (sorted all) l l'
          unfolding seen reading read
          grow-done {n} {m} {l'} st₀ en em =
              let st : Settled c 2 1025 root used' m (with_lent l new) l' = subst (λ (z : ℕ). Settled c 2 z root used' m (with_lent l new) l') en st₀ in
              let x : Parts = parts_of g l in
              let w : Seen = seen_in (planted_parts g x c new 1025 root) in
              let settled : Holding (counted g g.k used' m) (planted_parts g x c new 1025 root) l l' = st.holds g (with_arena (take g.N new) (drop g.N new) x) l (given new planted.arena.tries.long) h in
              let y : Planted g.N b g.used (x.node_stack ++ x.nodes) c root (sorted all) used' new = subst (λ (a : List ℕ). Planted g.N b g.used a c root (sorted all) used' new) lent_is planted in
              let r : Refilled g v w c (sorted all) used' = refilled g x wf.shape (sized (begin l wf.ready)) c h k new (sorted all) root used' 1025 y (omega arith) (sym sorted-length) sorted-good in
              record {
                well-formed = well-formed settled (refill-shape g v wf.shape (seen-bits g l) w c (sorted all) used' m r (omega (arith, ms-length, sorted-length, em)));
                reads = reads_as settled ∙ refill-reads g v wf.shape (seen-bits g l) w c (sorted all) used' m r;
                past-stays = settled.same_rest;
              }

        pub grow-full : {q : NoRoom} → o ≡ Err q → (g.N < g.used + trie_nodes b all) × (with_lent l new ≡ l)
        grow-full e =
            let a = subst As e as-all in
            (a.0, ap (with_lent l) a.1 ∙ put_same (get_or l 13 0) (get_or l 15 0 - get_or l 13 0) l)
