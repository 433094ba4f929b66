-- The seven areas after a change within one of them: the other six lie before it or after it, and stay. Assumes nothing.
use Rattle.std.proofs.Common.{◌≡◌, ℕ, ◌+◌, ◌*◌, ◌<◌, ◌≤◌, List, ◌++◌, length, take, drop, set, sym, refl, ap, ◌∙◌, arith, drop-drop, take_at, take-add, drop_at}
use borrow.Rule.Slice.PartMut.{put_mid}
use Rattle.region.specs.Geometry.{header_words, bitmap_words, record_words, strip_words, node_words, off_bitmap, off_ranks, off_stack, off_records, off_entries, off_node_stack, total}
use Rattle.region.specs.Areas.{Numbers, area, bitmap, ranks, stack, records, entries, node_stack, nodes}
use Rattle.region.proofs.Areas.{area-set-in}
use Rattle.lens.specs.Parts.{Parts, parts_of, with_bitmap, with_ranks, with_stack, with_records, with_entries, with_arena, arena_of}
use Rattle.lens.proofs.Only.{Only, store-only, put_only, area-put, area-put-in, area-length, area-below, area-above}

-- the same areas
alike : {b b' r r' s s' c c' e e' t t' n n' : List ℕ} → b ≡ b' → r ≡ r' → s ≡ s' → c ≡ c' → e ≡ e' → t ≡ t' → n ≡ n'
    → ◌≡◌ {A = Parts} (record { bitmap = b; ranks = r; stack = s; records = c; entries = e; node_stack = t; nodes = n }) (record { bitmap = b'; ranks = r'; stack = s'; records = c'; entries = e'; node_stack = t'; nodes = n' })
alike hb hr hs hc he ht hn = λ i. record { bitmap = hb i; ranks = hr i; stack = hs i; records = hc i; entries = he i; node_stack = ht i; nodes = hn i }

-- Changes

module _ (g : Numbers) {o k : ℕ} {l m : List ℕ} (c : Only o k l m) where
  pub in-header : o + k ≤ header_words → parts_of g m ≡ parts_of g l
  in-header h = alike (area-above c _ _ (omega arith)) (area-above c _ _ (omega arith)) (area-above c _ _ (omega arith)) (area-above c _ _ (omega arith)) (area-above c _ _ (omega arith)) (area-above c _ _ (omega arith)) (area-above c _ _ (omega arith))

  pub in-bitmap : off_bitmap ≤ o → o + k ≤ off_ranks g.P → parts_of g m ≡ with_bitmap (bitmap g m) (parts_of g l)
  in-bitmap a b = alike refl (area-above c _ _ (omega arith)) (area-above c _ _ (omega arith)) (area-above c _ _ (omega arith)) (area-above c _ _ (omega arith)) (area-above c _ _ (omega arith)) (area-above c _ _ (omega arith))

  pub in-ranks : off_ranks g.P ≤ o → o + k ≤ off_stack g.P g.C → parts_of g m ≡ with_ranks (ranks g m) (parts_of g l)
  in-ranks a b = alike (area-below c _ _ (omega arith)) refl (area-above c _ _ (omega arith)) (area-above c _ _ (omega arith)) (area-above c _ _ (omega arith)) (area-above c _ _ (omega arith)) (area-above c _ _ (omega arith))

  pub in_stack : off_stack g.P g.C ≤ o → o + k ≤ off_records g.P g.C → parts_of g m ≡ with_stack (stack g m) (parts_of g l)
  in_stack a b = alike (area-below c _ _ (omega arith)) (area-below c _ _ (omega arith)) refl (area-above c _ _ (omega arith)) (area-above c _ _ (omega arith)) (area-above c _ _ (omega arith)) (area-above c _ _ (omega arith))

  pub in-records : off_records g.P g.C ≤ o → o + k ≤ off_entries g.P g.C → parts_of g m ≡ with_records (records g m) (parts_of g l)
  in-records a b = alike (area-below c _ _ (omega arith)) (area-below c _ _ (omega arith)) (area-below c _ _ (omega arith)) refl (area-above c _ _ (omega arith)) (area-above c _ _ (omega arith)) (area-above c _ _ (omega arith))

  pub in-entries : off_entries g.P g.C ≤ o → o + k ≤ off_node_stack g.P g.C → parts_of g m ≡ with_entries (entries g m) (parts_of g l)
  in-entries a b = alike (area-below c _ _ (omega arith)) (area-below c _ _ (omega arith)) (area-below c _ _ (omega arith)) (area-below c _ _ (omega arith)) refl (area-above c _ _ (omega arith)) (area-above c _ _ (omega arith))

  pub in-arena : off_node_stack g.P g.C ≤ o → parts_of g m ≡ with_arena (node_stack g m) (nodes g m) (parts_of g l)
  in-arena a = alike (area-below c _ _ (omega arith)) (area-below c _ _ (omega arith)) (area-below c _ _ (omega arith)) (area-below c _ _ (omega arith)) (area-below c _ _ (omega arith)) refl refl

-- Stores

module _ (g : Numbers) (l : List ℕ) (i x : ℕ) where
  pub store-ranks : i < g.C → parts_of g (set l (off_ranks g.P + i) x) ≡ with_ranks (set (ranks g l) i x) (parts_of g l)
  store-ranks h =
      in-ranks g (store-only l (off_ranks g.P + i) x) (omega arith) (omega arith)
      ∙ ap (λ (new : List ℕ). with_ranks new (parts_of g l)) (area-set-in (off_ranks g.P) g.C l i x h)

  pub store-stack : i < g.C → parts_of g (set l (off_stack g.P g.C + i) x) ≡ with_stack (set (stack g l) i x) (parts_of g l)
  store-stack h =
      in_stack g (store-only l (off_stack g.P g.C + i) x) (omega arith) (omega arith)
      ∙ ap (λ (new : List ℕ). with_stack new (parts_of g l)) (area-set-in (off_stack g.P g.C) g.C l i x h)

  pub store-records : i < record_words * g.C → parts_of g (set l (off_records g.P g.C + i) x) ≡ with_records (set (records g l) i x) (parts_of g l)
  store-records h =
      in-records g (store-only l (off_records g.P g.C + i) x) (omega arith) (omega arith)
      ∙ ap (λ (new : List ℕ). with_records new (parts_of g l)) (area-set-in (off_records g.P g.C) (record_words * g.C) l i x h)

  pub store-entries : i < strip_words * g.C → parts_of g (set l (off_entries g.P g.C + i) x) ≡ with_entries (set (entries g l) i x) (parts_of g l)
  store-entries h =
      in-entries g (store-only l (off_entries g.P g.C + i) x) (omega arith) (omega arith)
      ∙ ap (λ (new : List ℕ). with_entries new (parts_of g l)) (area-set-in (off_entries g.P g.C) (strip_words * g.C) l i x h)

-- Parts given back

-- the arena is the node stack, then the nodes
pub arena-is : (g : Numbers) (l : List ℕ) → arena_of g l ≡ node_stack g l ++ nodes g l
unfolding area
arena-is g l =
    take-add g.N (node_words * g.N) (drop (off_node_stack g.P g.C) l)
    ∙ ap (λ (z : List ℕ). node_stack g l ++ take (node_words * g.N) z) (drop-drop g.N (off_node_stack g.P g.C) l)

module _ (g : Numbers) (l : List ℕ) (fits : total g.P g.C g.N ≤ length l) where
  pub arena-stack : take g.N (arena_of g l) ≡ node_stack g l
  arena-stack = ap (take g.N) (arena-is g l) ∙ take_at (node_stack g l) (nodes g l) g.N (area-length (off_node_stack g.P g.C) g.N l (omega arith))

  pub arena-nodes : drop g.N (arena_of g l) ≡ nodes g l
  arena-nodes = ap (drop g.N) (arena-is g l) ∙ drop_at (node_stack g l) (nodes g l) g.N (area-length (off_node_stack g.P g.C) g.N l (omega arith))

module _ (g : Numbers) (l new : List ℕ) (fits : total g.P g.C g.N ≤ length l) where
  pub put-bitmap : length new ≡ bitmap_words g.P → parts_of g (put_mid off_bitmap (bitmap_words g.P) l new) ≡ with_bitmap new (parts_of g l)
  put-bitmap e =
      in-bitmap g (put_only off_bitmap (bitmap_words g.P) l new (omega arith) e) (omega arith) (omega arith)
      ∙ ap (λ (z : List ℕ). with_bitmap z (parts_of g l)) (area-put off_bitmap (bitmap_words g.P) l new (omega arith) e)

  pub put-ranks : length new ≡ g.C → parts_of g (put_mid (off_ranks g.P) g.C l new) ≡ with_ranks new (parts_of g l)
  put-ranks e =
      in-ranks g (put_only (off_ranks g.P) g.C l new (omega arith) e) (omega arith) (omega arith)
      ∙ ap (λ (z : List ℕ). with_ranks z (parts_of g l)) (area-put (off_ranks g.P) g.C l new (omega arith) e)

  -- the strip of slot c
  pub put-strip : (c : ℕ) → c < g.C → length new ≡ strip_words
      → parts_of g (put_mid (off_entries g.P g.C + strip_words * c) strip_words l new) ≡ with_entries (put_mid (strip_words * c) strip_words (entries g l) new) (parts_of g l)
  put-strip c h e =
      in-entries g (put_only (off_entries g.P g.C + strip_words * c) strip_words l new (omega arith) e) (omega arith) (omega arith)
      ∙ ap (λ (z : List ℕ). with_entries z (parts_of g l)) (area-put-in (off_entries g.P g.C) (strip_words * g.C) (strip_words * c) strip_words l new (omega arith) (omega arith) e)

  pub put-arena : length new ≡ g.N + node_words * g.N → parts_of g (put_mid (off_node_stack g.P g.C) (g.N + node_words * g.N) l new) ≡ with_arena (take g.N new) (drop g.N new) (parts_of g l)
  put-arena e =
      let m : List ℕ = put_mid (off_node_stack g.P g.C) (g.N + node_words * g.N) l new in
      let c : Only (off_node_stack g.P g.C) (g.N + node_words * g.N) l m = put_only (off_node_stack g.P g.C) (g.N + node_words * g.N) l new (omega arith) e in
      let w : arena_of g m ≡ new = area-put (off_node_stack g.P g.C) (g.N + node_words * g.N) l new (omega arith) e in
      let f : total g.P g.C g.N ≤ length m = omega (arith, c.same_length) in
      let s : node_stack g m ≡ take g.N new = sym (arena-stack g m f) ∙ ap (take g.N) w in
      let n : nodes g m ≡ drop g.N new = sym (arena-nodes g m f) ∙ ap (drop g.N) w in
      in-arena g c (omega arith) ∙ alike refl refl refl refl refl s n
