-- The member count of a region fits a word, with one more, and is no less than a container's length. Assumes nothing.
use Prim.Native.Nat.{ℕ, ◌+◌, ◌*◌, ◌^◌, ◌<◌, ◌≤◌}
use mathlib.Core.Path.{◌≡◌, ap, ◌∙◌}
use mathlib.Core.Logic.{◌≢◌}
use mathlib.Core.Bool.{Bool, true, false, ◌&&◌}
use mathlib.Core.List.{List, [], ◌∷◌}
use native.Mathlib.Omega.{arith}
use lib.Dec.{leb}
use lib.Pow.{pow_mono}
use lib.ListN.{length, length-append, length-map}
use borrow.Author.Tests.{leb-true}
use Rattle.lists.specs.Lists.{mem, one, Every}
use Rattle.lists.specs.Sums.{sum}
use Rattle.lists.proofs.Laws.{and_both}
use Rattle.lists.proofs.Counts.{sum-few, length-count}
use Rattle.model.specs.Words.{joined}
use Rattle.model.specs.Reading.{Container, walk, container_words, words_of, under}
use Rattle.model.specs.Change.{placed}
use Rattle.model.specs.Good.{GoodSuffixes, GoodContainer}
use Rattle.region.specs.Ranges.{good_p, good_s, good_c, good_n}
use Rattle.region.specs.Areas.{Numbers, numbers}
use Rattle.region.specs.Seen.{Seen, seen}
use Rattle.region.specs.Read.{suffixes, read}
use Rattle.region.specs.WellFormed.{Ranked, WellFormed}
use Rattle.region.proofs.SeenBits.{seen-bits}
use Rattle.region.proofs.Containers.{k-fits, containers-length, containers-good, prefixes-ascend}
use Rattle.steps.proofs.Places.{length-placed, under-set}

-- different suffixes below 2^40
pub few-suffixes : (S : ℕ) (ss : List ℕ) → S ≤ 40 → GoodSuffixes S ss → length ss ≤ 1099511627776
few-suffixes S ss h good =
    let a : length ss ≡ sum (λ x. one (mem x ss)) (2 ^ S) = length-count ss (2 ^ S) good.distinct good.below in
    let b : sum (λ x. one (mem x ss)) (2 ^ S) ≤ 2 ^ S = sum-few (λ x. one (mem x ss)) (2 ^ S) (λ x. at_most (mem x ss)) in
    let d : 2 ^ S ≤ 2 ^ 40 = pow_mono h in
    omega arith
  where
    at_most : (b : Bool) → one b ≤ 1
    at_most true = omega arith
    at_most false = omega arith

few_words : (P S : ℕ) (cs : List Container) → S ≤ 40 → Every (GoodContainer P S) cs → length (words_of S cs) ≤ 1099511627776 * length cs
few_words P S [] h e = omega arith
few_words P S (c ∷ cs) h e =
    let a : length (words_of S (c ∷ cs)) ≡ length (container_words S c) + length (words_of S cs) = length-append (container_words S c) (words_of S cs) in
    let b : length (container_words S c) ≡ length c.suffixes = length-map c.suffixes (joined S c.prefix) in
    let d = few-suffixes S c.suffixes h e.0.good in
    let ih = few_words P S cs h e.1 in
    omega arith

module _ (l : List ℕ) (wf : WellFormed l) where
  abbrev g : Numbers
  g = numbers l

  ranges : (g.S ≤ 40) × (g.C ≤ 65536)
  ranges =
      let r = (and_both (good_p g.P && good_s g.S && good_c g.C) (good_n g.N) wf.ready.header.ranges).0 in
      let s = and_both (good_p g.P && good_s g.S) (good_c g.C) r in
      let t = (and_both (good_p g.P) (good_s g.S) s.0).1 in
      (leb-true g.S 40 (and_both (leb 1 g.S) (leb g.S 40) t).1, leb-true g.C 65536 (and_both (leb 1 g.C) (leb g.C 65536) s.1).1)

  -- at most 2^16 containers of at most 2^40
  pub count_small : g.count ≤ 72057594037927936
  unfolding read walk
  count_small =
      let v : Seen = seen g l in
      let a = few_words g.P g.S (read g v).containers ranges.0 (containers-good g v wf.shape.held wf.shape.placed (seen-bits g l)) in
      let b = containers-length g v wf.shape.placed (seen-bits g l) in
      let d = k-fits g v wf.shape.placed (seen-bits g l) in
      omega (arith, a, b, d, ranges.1, wf.shape.counts.count-true)

  -- the words under a prefix are among all
  pub count-covers : (c : ℕ) → c < g.C → (seen g l).kind c ≢ 0 → length (suffixes g (seen g l) c) ≤ g.count
  unfolding read walk
  count-covers c h u =
      let v : Seen = seen g l in
      let cs : List Container = (read g v).containers in
      let here : Ranked g v c = wf.shape.placed.ranked c h u in
      let a : under (v.prefix c) cs ≡ suffixes g v c = under-set g v wf.shape.placed (seen-bits g l) (v.prefix c) here.in-range here.is_set ∙ ap (suffixes g v) here.there in
      let b : length (words_of g.S (placed (v.prefix c) 0 [] cs)) + length (under (v.prefix c) cs) ≡ length (words_of g.S cs) + 0 = length-placed g.S (v.prefix c) 0 [] cs (prefixes-ascend g v wf.shape.placed (seen-bits g l)) in
      let d : length (under (v.prefix c) cs) ≡ length (suffixes g v c) = ap length a in
      omega (arith, b, d, wf.shape.counts.count-true)
