-- Each store turns one holding into the next, so a run of stores is a run of applications: a store or a part given back meets one area, by what the header says of its start. Assumes nothing.
use Rattle.std.proofs.Common.{◌≡◌, ℕ, ◌+◌, ◌-◌, ◌*◌, ◌<◌, ◌≤◌, List, ◌++◌, length, take, drop, set, sym, refl, ap, ◌∙◌, subst, arith}
use borrow.Rule.Slice.PartMut.{put_mid, mid_of}
use Rattle.region.specs.Geometry.{header_words, bitmap_words, record_words, strip_words, node_words, off_bitmap, off_ranks, off_stack, off_records, off_entries, off_node_stack, off_nodes, total}
use Rattle.region.specs.Areas.{Numbers, numbers, area}
use Rattle.region.specs.Read.{read, reading}
use Rattle.region.specs.WellFormed.{Header, Shape, Ready, WellFormed}
use Rattle.lens.specs.Parts.{Parts, parts_of, seen_in, with_bitmap, with_ranks, with_stack, with_records, with_entries, with_arena}
use Rattle.lens.specs.Holding.{Holding}
use Rattle.lens.proofs.Only.{Only, store-only, put_only, area-length, area-area, past}
use Rattle.lens.proofs.Stores.{in-header, store-ranks, store-stack, store-records, store-entries, put-bitmap, put-ranks, put-strip, put-arena, arena-is}
use Rattle.lens.proofs.Header.{numbers-5, numbers-6, numbers-7, numbers-behind, ready-behind, ready-counts}
use Rattle.lens.proofs.Rebuild.{rebuilt, reading-parts}

-- areas as long as the numbers say
pub record Sized (g : Numbers) (x : Parts) : Type 0 where
  pub bitmap : length x.bitmap ≡ bitmap_words g.P
  pub ranks : length x.ranks ≡ g.C
  pub stack : length x.stack ≡ g.C
  pub records : length x.records ≡ record_words * g.C
  pub entries : length x.entries ≡ strip_words * g.C
  pub node_stack : length x.node_stack ≡ g.N
  pub nodes : length x.nodes ≡ node_words * g.N

-- the first holding
pub begin : (l : List ℕ) → Ready l → Holding (numbers l) (parts_of (numbers l) l) l l
begin l r = record { ready = r; numbers-are = refl; parts_are = refl; same_length = refl; same_rest = refl }

module _ {g : Numbers} {x : Parts} {l₀ l : List ℕ} (h : Holding g x l₀ l) where
  -- the last one
  pub well-formed : Shape g (seen_in x) → WellFormed l
  well-formed s = rebuilt l h.ready
      (subst (λ (n : Numbers). Shape n (seen_in (parts_of n l))) (sym h.numbers-are) (subst (λ (z : Parts). Shape g (seen_in z)) (sym h.parts_are) s))

  pub reads_as : reading l ≡ read g (seen_in x)
  reads_as = reading-parts l ∙ ap (λ (n : Numbers). read n (seen_in (parts_of n l))) h.numbers-are ∙ ap (λ (z : Parts). read g (seen_in z)) h.parts_are

  -- what the header says
  pub header_is : Header l g
  header_is = subst (Header l) h.numbers-are h.ready.header

  fits : total g.P g.C g.N ≤ length l
  fits = subst (λ (n : Numbers). total n.P n.C n.N ≤ length l) h.numbers-are h.ready.long

  pub sized : Sized g x
  sized = subst (Sized g) h.parts_are (record {
    bitmap = area-length off_bitmap (bitmap_words g.P) l (omega (arith, fits));
    ranks = area-length (off_ranks g.P) g.C l (omega (arith, fits));
    stack = area-length (off_stack g.P g.C) g.C l (omega (arith, fits));
    records = area-length (off_records g.P g.C) (record_words * g.C) l (omega (arith, fits));
    entries = area-length (off_entries g.P g.C) (strip_words * g.C) l (omega (arith, fits));
    node_stack = area-length (off_node_stack g.P g.C) g.N l (omega (arith, fits));
    nodes = area-length (off_nodes g.P g.C g.N) (node_words * g.N) l (omega (arith, fits));
  })

  -- Behind the header

  step : {o k : ℕ} {m : List ℕ} {y : Parts} → Only o k l m → header_words ≤ o → o + k ≤ total g.P g.C g.N → parts_of g m ≡ y → Holding g y l₀ m
  step c low high e = record {
    ready = ready-behind c low h.ready;
    numbers-are = numbers-behind c low ∙ h.numbers-are;
    parts_are = e;
    same_length = c.same_length ∙ h.same_length;
    same_rest = past c (total g.P g.C g.N) high ∙ h.same_rest;
  }

  -- stores: an area starts at word a
  module _ (a i v : ℕ) where
    pub hold-ranks : a ≡ off_ranks g.P → i < g.C → Holding g (with_ranks (set x.ranks i v) x) l₀ (set l (a + i) v)
    hold-ranks e s = step (store-only l (a + i) v) (omega arith) (omega arith)
        (ap (λ (z : ℕ). parts_of g (set l (z + i) v)) e ∙ store-ranks g l i v s ∙ ap (λ (z : Parts). with_ranks (set z.ranks i v) z) h.parts_are)

    pub hold-stack : a ≡ off_stack g.P g.C → i < g.C → Holding g (with_stack (set x.stack i v) x) l₀ (set l (a + i) v)
    hold-stack e s = step (store-only l (a + i) v) (omega arith) (omega arith)
        (ap (λ (z : ℕ). parts_of g (set l (z + i) v)) e ∙ store-stack g l i v s ∙ ap (λ (z : Parts). with_stack (set z.stack i v) z) h.parts_are)

    pub hold-records : a ≡ off_records g.P g.C → i < record_words * g.C → Holding g (with_records (set x.records i v) x) l₀ (set l (a + i) v)
    hold-records e s = step (store-only l (a + i) v) (omega arith) (omega arith)
        (ap (λ (z : ℕ). parts_of g (set l (z + i) v)) e ∙ store-records g l i v s ∙ ap (λ (z : Parts). with_records (set z.records i v) z) h.parts_are)

    pub hold-entries : a ≡ off_entries g.P g.C → i < strip_words * g.C → Holding g (with_entries (set x.entries i v) x) l₀ (set l (a + i) v)
    hold-entries e s = step (store-only l (a + i) v) (omega arith) (omega arith)
        (ap (λ (z : ℕ). parts_of g (set l (z + i) v)) e ∙ store-entries g l i v s ∙ ap (λ (z : Parts). with_entries (set z.entries i v) z) h.parts_are)

  -- parts given back: from word a to before word b
  module _ (a b : ℕ) (new : List ℕ) where
    given : {o k : ℕ} {y : Parts} → a ≡ o → b ≡ o + k → header_words ≤ o → o + k ≤ total g.P g.C g.N → length new ≡ k → parts_of g (put_mid o k l new) ≡ y → Holding g y l₀ (put_mid a (b - a) l new)
    given {o} {k} {y} ea eb low high e p =
        let len : b - a ≡ k = omega arith in
        subst (λ (z : ℕ). Holding g y l₀ (put_mid a z l new)) (sym len)
        (subst (λ (z : ℕ). Holding g y l₀ (put_mid z k l new)) (sym ea) (step (put_only o k l new (omega (arith, fits)) e) low high p))

    pub give-bitmap : a ≡ off_bitmap → b ≡ off_ranks g.P → length new ≡ bitmap_words g.P → Holding g (with_bitmap new x) l₀ (put_mid a (b - a) l new)
    give-bitmap ea eb e = given ea eb (omega arith) (omega arith) e (put-bitmap g l new fits e ∙ ap (with_bitmap new) h.parts_are)

    pub give-ranks : a ≡ off_ranks g.P → b ≡ off_stack g.P g.C → length new ≡ g.C → Holding g (with_ranks new x) l₀ (put_mid a (b - a) l new)
    give-ranks ea eb e = given ea eb (omega arith) (omega arith) e (put-ranks g l new fits e ∙ ap (with_ranks new) h.parts_are)

    pub give-strip : (c : ℕ) → c < g.C → a ≡ off_entries g.P g.C + strip_words * c → b ≡ a + strip_words → length new ≡ strip_words
        → Holding g (with_entries (put_mid (strip_words * c) strip_words x.entries new) x) l₀ (put_mid a (b - a) l new)
    give-strip c s ea eb e =
        let eb' : b ≡ (off_entries g.P g.C + strip_words * c) + strip_words = omega arith in
        given ea eb' (omega arith) (omega arith) e (put-strip g l new fits c s e ∙ ap (λ (z : Parts). with_entries (put_mid (strip_words * c) strip_words z.entries new) z) h.parts_are)

    pub give-arena : a ≡ off_node_stack g.P g.C → b ≡ total g.P g.C g.N → length new ≡ g.N + node_words * g.N → Holding g (with_arena (take g.N new) (drop g.N new) x) l₀ (put_mid a (b - a) l new)
    give-arena ea eb e =
        let eb' : b ≡ off_node_stack g.P g.C + (g.N + node_words * g.N) = omega arith in
        given ea eb' (omega arith) (omega arith) e (put-arena g l new fits e ∙ ap (with_arena (take g.N new) (drop g.N new)) h.parts_are)

  -- what is lent
  module _ (a b : ℕ) where
    lent : (o k : ℕ) → a ≡ o → b ≡ o + k → mid_of a (b - a) l ≡ area o k l
    unfolding area
    lent o k ea eb = let len : b - a ≡ k = omega arith in ap (λ (z : ℕ). mid_of a z l) len ∙ ap (λ (z : ℕ). mid_of z k l) ea

    pub lent-bitmap : a ≡ off_bitmap → b ≡ off_ranks g.P → mid_of a (b - a) l ≡ x.bitmap
    lent-bitmap ea eb = lent off_bitmap (bitmap_words g.P) ea eb ∙ ap (λ (z : Parts). z.bitmap) h.parts_are

    pub lent-ranks : a ≡ off_ranks g.P → b ≡ off_stack g.P g.C → mid_of a (b - a) l ≡ x.ranks
    lent-ranks ea eb = lent (off_ranks g.P) g.C ea eb ∙ ap (λ (z : Parts). z.ranks) h.parts_are

    pub lent-strip : (c : ℕ) → c < g.C → a ≡ off_entries g.P g.C + strip_words * c → b ≡ a + strip_words → mid_of a (b - a) l ≡ area (strip_words * c) strip_words x.entries
    lent-strip c s ea eb =
        let eb' : b ≡ (off_entries g.P g.C + strip_words * c) + strip_words = omega arith in
        lent (off_entries g.P g.C + strip_words * c) strip_words ea eb' ∙ sym (area-area (off_entries g.P g.C) (strip_words * g.C) (strip_words * c) strip_words l (omega arith)) ∙ ap (λ (z : Parts). area (strip_words * c) strip_words z.entries) h.parts_are

    pub lent-arena : a ≡ off_node_stack g.P g.C → b ≡ total g.P g.C g.N → mid_of a (b - a) l ≡ x.node_stack ++ x.nodes
    lent-arena ea eb =
        let eb' : b ≡ off_node_stack g.P g.C + (g.N + node_words * g.N) = omega arith in
        lent (off_node_stack g.P g.C) (g.N + node_words * g.N) ea eb' ∙ arena-is g l ∙ ap (λ (z : Parts). z.node_stack ++ z.nodes) h.parts_are

  -- The counts

  module _ (v : ℕ) where
    recount : (i : ℕ) → 5 ≤ i → i < 8 → (k used count : ℕ) → numbers (set l i v) ≡ record { P = g.P; S = g.S; C = g.C; N = g.N; k = k; used = used; count = count }
        → Holding (record { P = g.P; S = g.S; C = g.C; N = g.N; k = k; used = used; count = count }) x l₀ (set l i v)
    recount i low high k used count e = record {
      ready = ready-counts (store-only l i v) low (omega arith) h.ready;
      numbers-are = e;
      parts_are = in-header g (store-only l i v) (omega arith) ∙ h.parts_are;
      same_length = (store-only l i v).same_length ∙ h.same_length;
      same_rest = past (store-only l i v) (total g.P g.C g.N) (omega arith) ∙ h.same_rest;
    }

    pub hold-k : Holding (record { P = g.P; S = g.S; C = g.C; N = g.N; k = v; used = g.used; count = g.count }) x l₀ (set l 5 v)
    hold-k = recount 5 (omega arith) (omega arith) v g.used g.count
        (numbers-5 l v h.ready.has-header ∙ ap (λ (n : Numbers). record { P = n.P; S = n.S; C = n.C; N = n.N; k = v; used = n.used; count = n.count }) h.numbers-are)

    pub hold-used : Holding (record { P = g.P; S = g.S; C = g.C; N = g.N; k = g.k; used = v; count = g.count }) x l₀ (set l 6 v)
    hold-used = recount 6 (omega arith) (omega arith) g.k v g.count
        (numbers-6 l v h.ready.has-header ∙ ap (λ (n : Numbers). record { P = n.P; S = n.S; C = n.C; N = n.N; k = n.k; used = v; count = n.count }) h.numbers-are)

    pub hold-count : Holding (record { P = g.P; S = g.S; C = g.C; N = g.N; k = g.k; used = g.used; count = v }) x l₀ (set l 7 v)
    hold-count = recount 7 (omega arith) (omega arith) g.k g.used v
        (numbers-7 l v h.ready.has-header ∙ ap (λ (n : Numbers). record { P = n.P; S = n.S; C = n.C; N = n.N; k = n.k; used = n.used; count = v }) h.numbers-are)
