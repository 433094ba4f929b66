-- What a lookup reads: the first entries of a vector's strip are its suffixes, and node stack and nodes are an arena whose tries are the region's; so the answer is the reading's. Assumes nothing.
use Prim.Native.Nat.{ℕ, ◌+◌, ◌-◌, ◌*◌, ◌^◌, ◌<◌, ◌≤◌}
use mathlib.Core.Path.{◌≡◌, sym, ap, ◌∙◌, subst}
use mathlib.Core.Logic.{◌≢◌}
use mathlib.Core.Bool.{Bool, true, false, ◌&&◌}
use mathlib.Core.List.{List, ◌++◌}
use native.Mathlib.Omega.{arith}
use lib.Dec.{eqb, leb}
use lib.ListN.{length, take, drop, get_or, length-drop, length-append}
use lib.Pow.{pow_mono, shr_lt}
use lib.Seq.{get_or-drop, drop_at}
use borrow.Author.Tests.{eqb-true, eqb-false, eq-eqb, ne_eqb, leb-true}
use Rattle.lists.specs.Lists.{mem, up_to}
use Rattle.lists.proofs.Laws.{and_both}
use Rattle.lists.proofs.Each.{take-up_to}
use Rattle.lists.proofs.Same.{up_to-same}
use Rattle.model.specs.Words.{prefix_of, suffix_of, bytes_of}
use Rattle.model.specs.Reading.{has}
use Rattle.model.proofs.ContainerLaws.{suffix-lt}
use Rattle.region.specs.Ranges.{good_p, good_s, good_c, good_n}
use Rattle.region.specs.Geometry.{strip_words}
use Rattle.region.specs.Areas.{Numbers, numbers, node_stack, nodes}
use Rattle.region.specs.Nodes.{Nodes, nodes_of}
use Rattle.region.specs.Tries.{members}
use Rattle.region.specs.Seen.{Seen, seen}
use Rattle.region.specs.Read.{suffixes, reading}
use Rattle.region.specs.WellFormed.{rank_of, AllNonEmpty, Trie, WellFormed}
use Rattle.region.specs.Linked.{Wf, Linked}
use Rattle.region.proofs.SeenBits.{seen-bits}
use Rattle.region.proofs.OnePath.{linked_of}
use Rattle.region.proofs.Facts.{reads-good}
use Rattle.arena.specs.Arena.{nodes_in, Root, Tries}
use Rattle.lens.proofs.Holding.{begin, sized, lent-arena}
use Rattle.lens.proofs.Ranks.{rank-in-use, slot_small}
use Rattle.lens.proofs.Words.{entry-is}
use Rattle.steps.proofs.Bridge.{has-clear, has-set}

-- a word's prefix is below 2^P
pub prefix-small : (P S w : ℕ) → w < 2 ^ (P + S) → prefix_of S w < 2 ^ P
prefix-small P S w h = shr_lt P S h

-- S bits fill at most b bytes
pub bytes-cover : (S s : ℕ) → s < 2 ^ S → s < 2 ^ (8 * bytes_of S)
bytes-cover S s h = let l : S ≤ 8 * bytes_of S = omega arith in let z : 2 ^ S ≤ 2 ^ (8 * bytes_of S) = pow_mono l in omega arith

module _ (l : List ℕ) (wf : WellFormed l) where
  abbrev g : Numbers
  g = numbers l

  abbrev v : Seen
  v = seen g l

  ranges : (1 ≤ g.S) × (g.S ≤ 40)
  ranges =
      let r = (and_both (good_p g.P && good_s g.S && good_c g.C) (good_n g.N) wf.ready.header.ranges).0 in
      let s = and_both (good_p g.P && good_s g.S) (good_c g.C) r in
      let t = (and_both (good_p g.P) (good_s g.S) s.0).1 in
      (leb-true 1 g.S (and_both (leb 1 g.S) (leb g.S 40) t).0, leb-true g.S 40 (and_both (leb 1 g.S) (leb g.S 40) t).1)

  pub S-high : g.S ≤ 40
  S-high = ranges.1

  -- A vector

  module _ (c : ℕ) (h : c < g.C) (k : v.kind c ≡ 1) where
    -- its entries lie within the region
    pub entries-inside : (n : ℕ) → n ≡ v.size c → (get_or l 12 0 + strip_words * c) + n ≤ length l
    entries-inside n e = let f : v.size c ≤ strip_words = (wf.shape.held.vector c h k).few in omega (arith, wf.ready.header.entries, wf.ready.long)

    suffixes-vector : suffixes g v c ≡ up_to (v.entry c) (v.size c)
    unfolding suffixes
    suffixes-vector = rw (ne_eqb (v.kind c) 2 (λ z. omega arith))

    pub vector-part : (a n : ℕ) → a ≡ get_or l 12 0 + strip_words * c → n ≡ v.size c → take ((a + n) - a) (drop a l) ≡ suffixes g v c
    vector-part a n ea en =
        let f : v.size c ≤ strip_words = (wf.shape.held.vector c h k).few in
        let i : a + n ≤ length l = omega (arith, entries-inside n en) in
        let m : (a + n) - a ≡ v.size c = omega arith in
        ap (λ (z : ℕ). take z (drop a l)) m
        ∙ take-up_to (drop a l) 0 (v.size c) (omega (arith, length-drop a l))
        ∙ up_to-same (v.entry c) (λ j. get_or (drop a l) j 0) (v.size c) (λ j s.
        let e : a + j ≡ get_or l 12 0 + (strip_words * c + j) = omega arith in
        get_or-drop a l j 0 ∙ ap (λ (z : ℕ). get_or l z 0) e ∙ entry-is l wf.ready c j h (omega arith))
        ∙ sym suffixes-vector

  -- A trie

  abbrev pub arena_part : List ℕ
  arena_part = take (get_or l 15 0 - get_or l 13 0) (drop (get_or l 13 0) l)

  part-is : arena_part ≡ node_stack g l ++ nodes g l
  part-is = lent-arena (begin l wf.ready) (get_or l 13 0) (get_or l 15 0) wf.ready.header.node-stack wf.ready.header.total-length

  nodes-are : nodes_in g.N arena_part ≡ v.node
  unfolding seen
  nodes-are = ap (λ (z : List ℕ). nodes_in g.N z) part-is ∙ ap nodes_of (drop_at (node_stack g l) (nodes g l) g.N (sized (begin l wf.ready)).node_stack)

  tries : Tries g.N (bytes_of g.S) arena_part
  tries =
      let li : Linked g v = linked_of g v wf.shape.held wf.shape.hung in
      let z = sized (begin l wf.ready) in
      record {
        long = ap length part-is ∙ length-append (node_stack g l) (nodes g l) ∙ omega (arith, z.node_stack, z.nodes);
        wf = subst (λ (m : Nodes). Wf m g.N (bytes_of g.S)) (sym nodes-are) li.wf;
        non-empty = subst (λ (m : Nodes). AllNonEmpty m g.N) (sym nodes-are) li.non-empty;
      }

  module _ (n b : ℕ) (en : n ≡ g.N) (eb : b ≡ bytes_of g.S) where
    -- what a search asks
    pub tries-ready : Tries n b arena_part × ((1 ≤ b) × (b ≤ 5))
    tries-ready = (
      subst (λ (z : ℕ). Tries z b arena_part) (sym en) (subst (λ (z : ℕ). Tries g.N z arena_part) (sym eb) tries),
      (omega (arith, ranges.0), omega (arith, ranges.1)),
    )

    pub root-ready : (r : ℕ) → Root v.node g.N r → Root (nodes_in n arena_part) n r
    root-ready r h = subst (λ (z : ℕ). Root (nodes_in z arena_part) z r) (sym en) (subst (λ (m : Nodes). Root m g.N r) (sym nodes-are) h)

    pub suffix-ready : (s : ℕ) → s < 2 ^ g.S → s < 2 ^ (8 * b)
    suffix-ready s small = subst (λ (z : ℕ). s < 2 ^ (8 * z)) (sym eb) (bytes-cover g.S s small)

    -- and what it reads
    pub members-are : (r : ℕ) → members (nodes_in n arena_part) b r ≡ members v.node (bytes_of g.S) r
    members-are r =
        ap (λ (z : ℕ). members (nodes_in z arena_part) b r) en
        ∙ ap (λ (z : ℕ). members (nodes_in g.N arena_part) z r) eb
        ∙ ap (λ (z : Nodes). members z (bytes_of g.S) r) nodes-are

  pub kind-two : (c : ℕ) → c < g.C → v.kind c ≢ 0 → v.kind c ≢ 1 → v.kind c ≡ 2
  kind-two c h used ne = let t : v.kind c ≤ 2 = wf.shape.placed.kinds c h in omega arith

  module _ (c : ℕ) (h : c < g.C) (k : v.kind c ≡ 2) where
    module _ (r : ℕ) (er : r ≡ v.link c) where
      pub root-of : Root v.node g.N r
      root-of = let t : Trie g v c = wf.shape.held.trie c h k in subst (Root v.node g.N) (sym er) (record { in-range = t.root-in-range; level = t.root-level })

      pub suffixes-trie : members v.node (bytes_of g.S) r ≡ suffixes g v c
      unfolding suffixes
      suffixes-trie = rw (eq-eqb (v.kind c) 2 k) (ap (members v.node (bytes_of g.S)) er)

    module _ (n b r : ℕ) (en : n ≡ g.N) (eb : b ≡ bytes_of g.S) (er : r ≡ v.link c) where
      pub trie-ready : (s : ℕ) → s < 2 ^ g.S → Tries n b arena_part × (Root (nodes_in n arena_part) n r × ((1 ≤ b) × ((b ≤ 5) × (s < 2 ^ (8 * b)))))
      trie-ready s small =
          let t = tries-ready n b en eb in
          (t.0, (root-ready n b en eb r (root-of r er), (t.1.0, (t.1.1, suffix-ready n b en eb s small))))

      pub trie-says : (s : ℕ) (found : Bool) → found ≡ mem s (members (nodes_in n arena_part) b r) → found ≡ mem s (suffixes g v c)
      trie-says s found e = e ∙ ap (mem s) (members-are n b en eb r ∙ suffixes-trie r er)

  -- A word

  module _ (w : ℕ) (small : w < 2 ^ (g.P + g.S)) (bits : ℕ) (eb : bits ≡ g.S) (p : ℕ) (ep : p ≡ prefix_of bits w) where
    prefix-is : p ≡ prefix_of g.S w
    prefix-is = ep ∙ ap (λ (z : ℕ). prefix_of z w) eb

    pub prefix-fits : p < 2 ^ g.P
    prefix-fits = subst (λ (z : ℕ). z < 2 ^ g.P) (sym prefix-is) (prefix-small g.P g.S w small)

    -- the bit as it is tested
    pub bit-set : (t : Bool) → t ≡ eqb (v.bit p) 1 → t ≡ true → v.bit p ≡ 1
    bit-set t e i = eqb-true (v.bit p) 1 (sym e ∙ i)

    pub clear-answer : (t : Bool) → t ≡ eqb (v.bit p) 1 → t ≡ false → false ≡ has (reading l) w
    unfolding reading
    clear-answer t e i =
        let ne = eqb-false (v.bit p) 1 (sym e ∙ i) in
        let b : v.bit p < 2 = seen-bits g l p in
        let z : v.bit p ≡ 0 = omega arith in
        sym (has-clear g v wf.shape.placed (seen-bits g l) (reads-good g v wf.shape (seen-bits g l)) w (prefix-small g.P g.S w small) (ap v.bit (sym prefix-is) ∙ z))

    module _ (set : v.bit p ≡ 1) (c : ℕ) (ec : c ≡ v.slot (rank_of g v p)) where
      pub slot-fits : c < g.C
      slot-fits = subst (λ (z : ℕ). z < g.C) (sym ec) (slot_small wf (rank_of g v p) (rank-in-use wf p prefix-fits set))

      pub slot-used : v.kind c ≢ 0
      slot-used z = (wf.shape.placed.borne p prefix-fits set).in_use (ap v.kind (sym ec) ∙ z)

      pub slot-kind : v.kind c ≢ 1 → v.kind c ≡ 2
      slot-kind = kind-two c slot-fits slot-used

      module _ (s : ℕ) (es : s ≡ suffix_of bits w) where
        pub suffix-is : s ≡ suffix_of g.S w
        suffix-is = es ∙ ap (λ (z : ℕ). suffix_of z w) eb

        pub suffix-fits : s < 2 ^ g.S
        suffix-fits = subst (λ (z : ℕ). z < 2 ^ g.S) (sym suffix-is) (suffix-lt g.S w)

        pub set-answer : (found : Bool) → found ≡ mem s (suffixes g v c) → found ≡ has (reading l) w
        unfolding reading
        set-answer found e =
            e
            ∙ ap (λ (z : ℕ). mem z (suffixes g v c)) suffix-is
            ∙ ap (λ (z : ℕ). mem (suffix_of g.S w) (suffixes g v z)) (ec ∙ ap (λ (z : ℕ). v.slot (rank_of g v z)) prefix-is)
            ∙ sym (has-set g v wf.shape.placed (seen-bits g l) (reads-good g v wf.shape (seen-bits g l)) w (prefix-small g.P g.S w small) (ap v.bit (sym prefix-is) ∙ set))
