-- Fields not named for a kind are not looked at: regions with the same header that are alike are well formed alike and read alike. Assumes nothing.
use Prim.Native.Nat.{ℕ, ◌*◌, ◌<◌, ◌≤◌}
use mathlib.Core.Path.{◌≡◌, sym, ap, ◌∙◌, subst}
use mathlib.Core.List.{List}
use native.Mathlib.Omega.{arith}
use lib.ListN.{length, take, get_or, length-take}
use lib.Seq.{get_or-take}
use Rattle.region.specs.Geometry.{header_words, bitmap_words, record_words, strip_words, node_words, off_bitmap, off_ranks, off_stack, off_records, off_entries, off_node_stack, off_nodes, total}
use Rattle.region.specs.Areas.{Numbers, numbers}
use Rattle.region.specs.Seen.{seen_of, seen}
use Rattle.region.specs.Read.{read, reading}
use Rattle.region.specs.WellFormed.{Header, Shape, WellFormed}
use Rattle.region.specs.LookedAt.{SameLookedAt}
use Rattle.region.proofs.Areas.{area-take}
use Rattle.region.proofs.SeenBits.{seen-bits}
use Rattle.region.proofs.SeenAlike.{read_alike, shape-alike}

-- the header's sixteen words are the same
abbrev pub SameHeader : List ℕ → List ℕ → Type 0
SameHeader l m = (i : ℕ) → i < header_words → get_or m i 0 ≡ get_or l i 0

module _ (l m : List ℕ) (h : SameHeader l m) where
  same_numbers : numbers m ≡ numbers l
  same_numbers = λ i. record {
    P = h 1 (omega arith) i;
    S = h 2 (omega arith) i;
    C = h 3 (omega arith) i;
    N = h 4 (omega arith) i;
    k = h 5 (omega arith) i;
    used = h 6 (omega arith) i;
    count = h 7 (omega arith) i;
  }

  same-header : (g : Numbers) → Header l g → Header m g
  same-header g x = record {
    form-is = h 0 (omega arith) ∙ x.form-is;
    ranges = x.ranges;
    bitmap = h 8 (omega arith) ∙ x.bitmap;
    ranks = h 9 (omega arith) ∙ x.ranks;
    stack = h 10 (omega arith) ∙ x.stack;
    records = h 11 (omega arith) ∙ x.records;
    entries = h 12 (omega arith) ∙ x.entries;
    node-stack = h 13 (omega arith) ∙ x.node-stack;
    nodes = h 14 (omega arith) ∙ x.nodes;
    total-length = h 15 (omega arith) ∙ x.total-length;
  }

  -- a region with the same header is well formed if it is long enough and its areas have a shape
  with-shape : WellFormed l → total (numbers l).P (numbers l).C (numbers l).N ≤ length m → Shape (numbers l) (seen (numbers l) m) → WellFormed m
  with-shape wf long sh = record {
    ready = record {
      has-header = omega arith;
      long = subst (λ (g : Numbers). total g.P g.C g.N ≤ length m) (sym same_numbers) long;
      header = subst (Header m) (sym same_numbers) (same-header (numbers l) wf.ready.header);
    };
    shape = subst (λ (g : Numbers). Shape g (seen g m)) (sym same_numbers) sh;
  }

  with-reading : read (numbers l) (seen (numbers l) m) ≡ reading l → reading m ≡ reading l
  unfolding reading
  with-reading e = ap (λ (g : Numbers). read g (seen g m)) same_numbers ∙ e

module _ (l m : List ℕ) (wf : WellFormed l) (h : SameHeader l m) (a : SameLookedAt (numbers l) (seen (numbers l) l) (seen (numbers l) m)) where
  pub alike-well-formed : total (numbers l).P (numbers l).C (numbers l).N ≤ length m → WellFormed m
  alike-well-formed long = with-shape l m h wf long (shape-alike (numbers l) (seen (numbers l) l) (seen (numbers l) m) a wf.shape (seen-bits (numbers l) l))

  pub alike-reads : reading m ≡ reading l
  unfolding reading
  alike-reads = with-reading l m h (read_alike (numbers l) (seen (numbers l) l) (seen (numbers l) m) a wf.shape (seen-bits (numbers l) l))

-- the words past the total are not looked at

seen-take : (g : Numbers) (l : List ℕ) → seen g (take (total g.P g.C g.N) l) ≡ seen g l
unfolding seen
seen-take g l = λ i. seen_of
    (area-take off_bitmap (bitmap_words g.P) (total g.P g.C g.N) l (omega arith) i)
    (area-take (off_ranks g.P) g.C (total g.P g.C g.N) l (omega arith) i)
    (area-take (off_stack g.P g.C) g.C (total g.P g.C g.N) l (omega arith) i)
    (area-take (off_records g.P g.C) (record_words * g.C) (total g.P g.C g.N) l (omega arith) i)
    (area-take (off_entries g.P g.C) (strip_words * g.C) (total g.P g.C g.N) l (omega arith) i)
    (area-take (off_node_stack g.P g.C) g.N (total g.P g.C g.N) l (omega arith) i)
    (area-take (off_nodes g.P g.C g.N) (node_words * g.N) (total g.P g.C g.N) l (omega arith) i)

module _ (l m : List ℕ) (wf : WellFormed l) where
  abbrev whole : ℕ
  whole = total (numbers l).P (numbers l).C (numbers l).N

  pub past-not-looked-at : take (total (numbers l).P (numbers l).C (numbers l).N) m ≡ take (total (numbers l).P (numbers l).C (numbers l).N) l → WellFormed m × (reading m ≡ reading l)
  unfolding reading
  past-not-looked-at e = (with-shape l m head wf long (subst (Shape (numbers l)) (sym same) wf.shape), with-reading l m head (ap (read (numbers l)) same))
    where
      head : SameHeader l m
      head i hi = sym (get_or-take whole m i 0 (omega arith)) ∙ ap (λ (x : List ℕ). get_or x i 0) e ∙ get_or-take whole l i 0 (omega arith)

      long : whole ≤ length m
      long = omega (arith, length-take whole m, ap length e, length-take whole l, wf.ready.long)

      same : seen (numbers l) m ≡ seen (numbers l) l
      same = sym (seen-take (numbers l) m) ∙ ap (seen (numbers l)) e ∙ seen-take (numbers l) l
