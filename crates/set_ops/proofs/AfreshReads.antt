-- Areas that look the same as fresh ones: they have a shape, and read as the empty set, whatever the rest of their words is. Assumes nothing.
use Rattle.std.proofs.Common.{◌≡◌, ℕ, ◌+◌, ◌-◌, ◌*◌, ◌<◌, true, List, [], ◌++◌, get_or, sym, refl, ap, ◌∙◌, subst, arith}
use Rattle.lists.specs.Lists.{blocks}
use Rattle.lists.proofs.Blocks.{block-word}
use Rattle.model.specs.Reading.{empty}
use Rattle.region.specs.Ranges.{good_numbers}
use Rattle.region.specs.Geometry.{bitmap_words, record_words, node_words}
use Rattle.region.specs.Areas.{Numbers}
use Rattle.region.specs.Nodes.{nodes_of}
use Rattle.region.specs.Seen.{Seen, seen_of, seen}
use Rattle.region.specs.Fresh.{zeros, fresh_stack, free_record, free_node, fresh}
use Rattle.region.specs.Read.{read, reading}
use Rattle.region.specs.WellFormed.{Shape}
use Rattle.region.specs.LookedAt.{SameLookedAt}
use Rattle.region.proofs.SeenBits.{seen-bits}
use Rattle.region.proofs.SeenAlike.{read_alike, shape-alike}
use Rattle.region.proofs.FreshAreas.{fresh_numbers, fresh_seen, fresh-numbers, fresh-seen}
use Rattle.region.proofs.FreshShape.{fresh-well-formed, fresh-reads}

-- what the fresh image says

module _ (P S C N : ℕ) where
  abbrev g : Numbers
  g = fresh_numbers P S C N

  abbrev v : Seen
  v = fresh_seen P S C N

  image-bits : (p : ℕ) → v.bit p < 2
  image-bits p = subst (λ (z : Seen). z.bit p < 2) (fresh-seen P S C N []) (seen-bits g (fresh P S C N ++ []) p)

  image-shape : good_numbers P S C N ≡ true → Shape g v
  image-shape good =
      subst (Shape g) (fresh-seen P S C N [])
      (subst (λ (z : Numbers). Shape z (seen z (fresh P S C N ++ []))) (fresh-numbers P S C N []) (fresh-well-formed P S C N [] good).shape)

  image-read : read g v ≡ empty P S C N
  unfolding reading
  image-read = sym (ap (λ (z : Numbers). read z (seen z (fresh P S C N ++ []))) (fresh-numbers P S C N []) ∙ ap (read g) (fresh-seen P S C N [])) ∙ fresh-reads P S C N []

  image-kind : (c : ℕ) → c < C → v.kind c ≡ 0
  image-kind c h =
      let e : record_words * c ≡ record_words * c + 0 = omega arith in
      ap (λ (z : ℕ). get_or (blocks free_record C) z 0) e ∙ block-word free_record record_words (λ k. refl) 0 C c 0 h (omega arith)

  image-level : (n : ℕ) → n < N → v.node.level1 n ≡ 0
  image-level n h =
      let e : n * node_words + 4 ≡ node_words * n + 4 = omega arith in
      ap (λ (z : ℕ). get_or (blocks free_node N) z 0) e ∙ block-word free_node node_words (λ k. refl) 0 N n 4 h (omega arith)

  image-place : (n : ℕ) → n < N → v.node.parent n ≡ N - 1 - n
  image-place n h =
      let e : n * node_words + 5 ≡ node_words * n + 5 = omega arith in
      ap (λ (z : ℕ). get_or (blocks free_node N) z 0) e ∙ block-word free_node node_words (λ k. refl) 0 N n 5 h (omega arith)

  -- any rank table and entries, and nodes of which levels and places are those of free ones
  module _ (rk ent nod : List ℕ) (levels : (n : ℕ) → n < N → (nodes_of nod).level1 n ≡ 0) (places : (n : ℕ) → n < N → (nodes_of nod).parent n ≡ N - 1 - n) where
    abbrev w : Seen
    w = seen_of (zeros (bitmap_words P)) rk (fresh_stack C) (blocks free_record C) ent (fresh_stack N) nod

    same : SameLookedAt g v w
    same = record {
      bit = λ p. refl;
      slot = λ r h. absurd (omega arith);
      free = λ i h. refl;
      kind = λ c h. refl;
      prefix = λ c h ne. refl;
      size = λ c h ne. refl;
      link = λ c h ne. refl;
      entry = λ c i h e l. let z = image-kind c h in absurd (omega arith);
      spare = λ i h. refl;
      nodes = record {
        level1 = λ n h. levels n h ∙ sym (image-level n h);
        parent = λ n h. places n h ∙ sym (image-place n h);
        byte = λ l n h e. let z = image-level n h in absurd (omega arith);
        bit = λ n x h ne hx. absurd (ne (image-level n h));
        child = λ l n x h e hl hx eb. let z = image-level n h in absurd (omega arith);
      };
    }

    pub afresh-shape : good_numbers P S C N ≡ true → Shape g w
    afresh-shape good = shape-alike g v w same (image-shape good) image-bits

    pub afresh-read : good_numbers P S C N ≡ true → read g w ≡ empty P S C N
    afresh-read good = read_alike g v w same (image-shape good) image-bits ∙ image-read
