-- A vector whose strip and length are changed is refilled, whatever the change: what is seen of the other containers stays. Assumes nothing.
use Prim.Native.Nat.{ℕ, ◌+◌, ◌*◌, ◌^◌, ◌<◌, ◌≤◌}
use mathlib.Core.Path.{◌≡◌, refl, sym, ap, ◌∙◌, subst}
use mathlib.Core.Logic.{◌≢◌}
use mathlib.Core.Bool.{true}
use mathlib.Core.List.{List}
use native.Mathlib.Omega.{arith}
use native.Mathlib.Decide.{dec_lt}
use lib.ListN.{length, take, set, get_or}
use lib.Seq.{length-take-le, get_or-take, get_or-set_same, get_or-set_other}
use borrow.Rule.Slice.PartMut.{put_mid}
use Rattle.lists.specs.Lists.{mem, up_to}
use Rattle.lists.proofs.Each.{take-up_to, up_to-mem}
use Rattle.lists.proofs.Same.{up_to-same}
use Rattle.model.specs.Room.{threshold}
use Rattle.model.specs.Good.{GoodSuffixes}
use Rattle.region.specs.Geometry.{record_words, strip_words}
use Rattle.region.specs.Areas.{Numbers}
use Rattle.region.specs.Seen.{Seen}
use Rattle.region.specs.WellFormed.{Vector, Shape}
use Rattle.region.proofs.Areas.{get_or-area}
use Rattle.lens.specs.Parts.{Parts, seen_in, with_records, with_entries}
use Rattle.lens.proofs.Only.{Only, put_only, area-put, word_below, word-above}
use Rattle.lens.proofs.Holding.{Sized}
use Rattle.strip.proofs.PlaceLaws.{distinct-places}
use Rattle.steps.specs.Steps.{OtherRecords, vector, Refilled}
use Rattle.steps.proofs.Kept.{nodes-stay}

-- the areas with another strip and another length of slot c
abbrev pub refilled_parts : Parts → ℕ → List ℕ → ℕ → Parts
refilled_parts x c new n = with_records (set x.records (record_words * c + 2) n) (with_entries (put_mid (strip_words * c) strip_words x.entries new) x)

module _ (g : Numbers) (x : Parts) (sh : Shape g (seen_in x)) (z : Sized g x) (c : ℕ) (h : c < g.C) (k : (seen_in x).kind c ≡ 1) (new : List ℕ) (long : length new ≡ strip_words) (n : ℕ) where
  abbrev v : Seen
  v = seen_in x

  abbrev w : Seen
  w = seen_in (refilled_parts x c new n)

  -- Words

  record-else : (i : ℕ) → i ≢ record_words * c + 2 → get_or (set x.records (record_words * c + 2) n) i 0 ≡ get_or x.records i 0
  record-else i ne = get_or-set_other x.records (record_words * c + 2) i n 0 ne

  size-here : w.size c ≡ n
  size-here = get_or-set_same x.records (record_words * c + 2) n 0 (omega (arith, z.records))

  kind-same : (d : ℕ) → w.kind d ≡ v.kind d
  kind-same d = record-else (record_words * d) (omega arith)

  prefix_same : (d : ℕ) → w.prefix d ≡ v.prefix d
  prefix_same d = record-else (record_words * d + 1) (omega arith)

  link-same : (d : ℕ) → w.link d ≡ v.link d
  link-same d = record-else (record_words * d + 3) (omega arith)

  size-else : (d : ℕ) → d ≢ c → w.size d ≡ v.size d
  size-else d ne = record-else (record_words * d + 2) (omega arith)

  inside : strip_words * c + strip_words ≤ length x.entries
  inside = omega (arith, z.entries)

  only : Only (strip_words * c) strip_words x.entries (put_mid (strip_words * c) strip_words x.entries new)
  only = put_only (strip_words * c) strip_words x.entries new inside long

  entry_here : (i : ℕ) → i < strip_words → w.entry c i ≡ get_or new i 0
  entry_here i l =
      sym (get_or-area (strip_words * c) strip_words (put_mid (strip_words * c) strip_words x.entries new) i l)
      ∙ ap (λ (e : List ℕ). get_or e i 0) (area-put (strip_words * c) strip_words x.entries new inside long)

  entry-else : (d i : ℕ) → d ≢ c → i < strip_words → w.entry d i ≡ v.entry d i
  entry-else d i ne l = pick (dec_lt d c)
    where
      pick : Dec (d < c) → w.entry d i ≡ v.entry d i
      pick (yes b) = word_below only (strip_words * d + i) (omega arith)
      pick (no b) = word-above only (strip_words * d + i) (omega arith)

  -- The step

  others : OtherRecords g v w c
  others = record {
    kind = λ d b ne. kind-same d;
    prefix = λ d b ne u. prefix_same d;
    size = λ d b ne u. size-else d ne;
    link = λ d b ne u. link-same d;
    entry = λ d i b ne e l. entry-else d i ne (omega (arith, (sh.held.vector d b e).few));
  }

  module _ (some : 1 ≤ n) (few : n ≤ threshold) (good : GoodSuffixes g.S (take n new)) where
    entry-mem : (i : ℕ) → i < n → mem (get_or new i 0) (take n new) ≡ true
    entry-mem i l = ap (mem (get_or new i 0)) (take-up_to new 0 n (omega arith)) ∙ up_to-mem (λ j. get_or new j 0) n i l

    is-vector : Vector g w c
    is-vector = record {
      some = omega (arith, size-here);
      few = omega (arith, size-here);
      distinct = λ i j a b e.
          let lj : j < n = omega (arith, size-here) in
          let len : length (take n new) ≡ n = length-take-le n new (omega arith) in
          distinct-places (take n new) good.distinct i j a (omega arith)
          (get_or-take n new i 0 (omega arith) ∙ sym (entry_here i (omega arith)) ∙ e ∙ entry_here j (omega arith) ∙ sym (get_or-take n new j 0 lj));
      small = λ i a.
          let li : i < n = omega (arith, size-here) in
          subst (λ (s : ℕ). s < 2 ^ g.S) (sym (entry_here i (omega arith))) (good.below (get_or new i 0) (entry-mem i li));
    }

    holds-it : up_to (w.entry c) (w.size c) ≡ take n new
    holds-it = ap (up_to (w.entry c)) size-here ∙ up_to-same (λ i. get_or new i 0) (w.entry c) n (λ i l. entry_here i (omega arith)) ∙ sym (take-up_to new 0 n (omega arith))

    pub refilled : Refilled g v w c (take n new) g.used
    refilled = record {
      in-range = h;
      in_use = λ e. omega arith;
      bit = λ p. refl;
      slot = λ r l. refl;
      free = λ i l. refl;
      prefix = prefix_same c;
      holds = vector (kind-same c ∙ k) is-vector holds-it;
      others = others;
      nodes = nodes-stay g v w c others sh (λ e. omega arith) (λ i. refl) refl;
    }
