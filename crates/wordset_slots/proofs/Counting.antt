-- How many members a well-formed region can have: as many as its containers in use could hold, and at least one where one is in use. Assumes nothing.
use Prim.Native.Nat.{ℕ, ◌+◌, ◌*◌, ◌^◌, ◌<◌, ◌≤◌}
use mathlib.Core.Path.{◌≡◌, ap, ◌∙◌, subst}
use mathlib.Core.Bool.{Bool, true, false, ◌&&◌}
use mathlib.Core.List.{List, [], ◌∷◌}
use native.Mathlib.Nat.{suc-mul, mul-le-mul}
use native.Mathlib.Omega.{arith}
use lib.Dec.{leb}
use lib.ListN.{length, length-append, length-map}
use lib.Pow.{pow_mono}
use borrow.Author.Tests.{leb-true}
use Rattle.lists.specs.Lists.{Every, between, mem, one}
use Rattle.lists.specs.Sums.{sum}
use Rattle.lists.proofs.Laws.{and_both}
use Rattle.lists.proofs.Counts.{sum-few, length-count}
use Rattle.model.specs.Reading.{Container, walk, words_of, container_words, count, containers_in_use}
use Rattle.model.specs.Words.{joined}
use Rattle.model.specs.Good.{GoodContainer}
use Rattle.region.specs.Ranges.{good_p, good_s, good_c, good_n, good_numbers}
use Rattle.region.specs.Areas.{numbers}
use Rattle.region.specs.Seen.{seen}
use Rattle.region.specs.Read.{read, reading}
use Rattle.region.specs.WellFormed.{WellFormed}
use Rattle.region.proofs.SeenBits.{seen-bits}
use Rattle.region.proofs.Containers.{k-fits}
use Rattle.region.proofs.Facts.{good, word-5, word-7}

one-few : (b : Bool) → one b ≤ 1
one-few true = omega arith
one-few false = omega arith

few-suffixes : (P S : ℕ) (c : Container) → GoodContainer P S c → length c.suffixes ≤ 2 ^ S
few-suffixes P S c g =
    let a : sum (λ x. one (mem x c.suffixes)) (2 ^ S) ≤ 2 ^ S = sum-few (λ x. one (mem x c.suffixes)) (2 ^ S) (λ x. one-few (mem x c.suffixes)) in
    omega (arith, a, length-count c.suffixes (2 ^ S) g.good.distinct g.good.below)

words-cons : (S : ℕ) (c : Container) (cs : List Container) → length (words_of S (c ∷ cs)) ≡ length c.suffixes + length (words_of S cs)
words-cons S c cs = length-append (container_words S c) (words_of S cs) ∙ ap (λ (n : ℕ). n + length (words_of S cs)) (length-map c.suffixes (joined S c.prefix))

words-few : (P S : ℕ) (cs : List Container) → Every (GoodContainer P S) cs → length (words_of S cs) ≤ length cs * 2 ^ S
words-few P S [] h = omega arith
words-few P S (c ∷ cs) h = omega (arith, words-cons S c cs, few-suffixes P S c h.0, words-few P S cs h.1, suc-mul (length cs) (2 ^ S))

words-some : (P S : ℕ) (cs : List Container) → Every (GoodContainer P S) cs → 0 < length cs → 0 < length (words_of S cs)
words-some P S [] h l = absurd (omega arith)
words-some P S (c ∷ cs) h l = omega (arith, words-cons S c cs, h.0.some)

high : (lo hi x : ℕ) → between lo hi x ≡ true → x ≤ hi
high lo hi x e = leb-true x hi (and_both (leb lo x) (leb x hi) e).1

S-high : (P S C N : ℕ) → good_numbers P S C N ≡ true → S ≤ 40
S-high P S C N e = high 1 40 S (and_both (good_p P) (good_s S) (and_both (good_p P && good_s S) (good_c C) (and_both (good_p P && good_s S && good_c C) (good_n N) e).0).0).1

C-high : (P S C N : ℕ) → good_numbers P S C N ≡ true → C ≤ 65536
C-high P S C N e = high 1 65536 C (and_both (good_p P && good_s S) (good_c C) (and_both (good_p P && good_s S && good_c C) (good_n N) e).0).1

module _ (l : List ℕ) (wf : WellFormed l) where
  pub k-upto : (numbers l).k ≤ (numbers l).C
  k-upto = k-fits (numbers l) (seen (numbers l) l) wf.shape.placed (seen-bits (numbers l) l)

  pub few-slots : (numbers l).C ≤ 65536
  few-slots = C-high (numbers l).P (numbers l).S (numbers l).C (numbers l).N wf.ready.header.ranges

  few_words : (numbers l).count ≤ (numbers l).k * 2 ^ (numbers l).S
  unfolding reading read walk count containers_in_use
  few_words =
      let a : length (reading l).containers ≡ (numbers l).k = word-5 l wf in
      let b : length (words_of (numbers l).S (reading l).containers) ≤ length (reading l).containers * 2 ^ (numbers l).S = words-few (numbers l).P (numbers l).S (reading l).containers (good l wf).each in
      let d : length (words_of (numbers l).S (reading l).containers) ≡ (numbers l).count = word-7 l wf in
      let e : (numbers l).count ≤ length (reading l).containers * 2 ^ (numbers l).S = subst (λ (n : ℕ). n ≤ length (reading l).containers * 2 ^ (numbers l).S) d b in
      subst (λ (n : ℕ). (numbers l).count ≤ n * 2 ^ (numbers l).S) a e

  pub count_fits : (numbers l).count + 1 < 2 ^ 64
  count_fits =
      let s : (numbers l).S ≤ 40 = S-high (numbers l).P (numbers l).S (numbers l).C (numbers l).N wf.ready.header.ranges in
      let k : (numbers l).k ≤ 65536 = omega (arith, k-upto, few-slots) in
      let a : 2 ^ (numbers l).S ≤ 2 ^ 40 = pow_mono s in
      let b : (numbers l).k * 2 ^ (numbers l).S ≤ 65536 * 2 ^ 40 = mul-le-mul k a in
      omega (arith, few_words, b)

  pub count-some : 0 < (numbers l).k → 0 < (numbers l).count
  unfolding reading read walk count containers_in_use
  count-some h =
      let a : length (reading l).containers ≡ (numbers l).k = word-5 l wf in
      let b : 0 < length (words_of (numbers l).S (reading l).containers) = words-some (numbers l).P (numbers l).S (reading l).containers (good l wf).each (omega (arith, a)) in
      omega (arith, b, word-7 l wf)
