-- The words from e on are poured as all were; each turn pours word e, or passes it where it has no bit. Assumes nothing.
use mathlib.Core.Path.{refl, sym, ap, ◌∙◌}
use mathlib.Core.List.{[], ◌∷◌}
use Prim.Native.Nat.{◌+◌, ◌*◌, ◌/◌, ◌%◌}
use native.Mathlib.Omega.{arith}
use lib.ListN.{get_or}
use Rattle.trie_walk.specs.Pour.{state, poured, not_below}
use Rattle.trie_walk.proofs.Pours.{poured-none}
use Rattle.trie_walk.proofs.Numbers.{suffixes_from, start-words, no_words, empty-word, next-suffixes}
use Rattle.trie_walk.proofs.words.last.Goals as goal

pub loop-e-init : goal.loop-e-init
loop-e-init c =
    let a = c.args in
    (omega arith, refl, ap (λ xs. poured (not_below a.from xs) (state a.skip a.at a.out.now)) (start-words (λ j. get_or a.maps.now j 0) (λ x. (get_or a.leads.now (x / 256) 0 * 256 + x % 256) ∷ []) (4 * a.count)))

pub loop-e-preserved-then-w-eq0 : goal.loop-e-preserved-then-w-eq0
loop-e-preserved-then-w-eq0 c =
    let a = c.args in (
      omega arith,
      c.loop-e.invariant.1,
      ap (λ xs. poured (not_below a.from xs) (state c.loop-e.skip c.loop-e.at c.loop-e.out))
          (sym (empty-word (λ j. get_or a.maps.now j 0) (λ x. (get_or a.leads.now (x / 256) 0 * 256 + x % 256) ∷ []) c.loop-e.e (4 * a.count) c.loop-e-test.true c.if-w-eq0.true))
          ∙ c.loop-e.invariant.2,
    )

pub overflow_mul-base : goal.overflow_mul-base
overflow_mul-base c = omega (arith, c.requires.by_index (c.loop-e.e / 4) (omega arith))

pub overflow_mul-base-else-w-eq0 : goal.overflow_mul-base-else-w-eq0
overflow_mul-base-else-w-eq0 c = omega (arith, c.requires.by_index (c.loop-e.e / 4) (omega arith))

pub overflow_add-base : goal.overflow_add-base
overflow_add-base c = omega (arith, c.requires.by_index (c.loop-e.e / 4) (omega arith))

pub pour-s-requires : goal.pour-s-requires
pour-s-requires c = omega (arith, c.requires.by_index (c.loop-e.e / 4) (omega arith))

pub loop-e-preserved : goal.loop-e-preserved
loop-e-preserved c =
    let a = c.args in (
      omega arith,
      c.pour-s.auto.out ∙ c.loop-e.invariant.1,
      ap (poured (not_below a.from (suffixes_from a.maps.now a.leads.now (4 * a.count) (c.loop-e.e + 1)))) (c.pour-s.ensures ∙ ap (λ xs. poured xs (state c.loop-e.skip c.loop-e.at c.loop-e.out)) c.not_below.ensures)
          ∙ sym (next-suffixes a.maps.now a.leads.now a.from c.loop-e.e (4 * a.count) c.loop-e.skip c.loop-e.at c.loop-e.out c.loop-e-test.true) ∙ c.loop-e.invariant.2,
    )

pub shape_of-out : goal.shape_of-out
shape_of-out c = c.loop-e.invariant.1

pub returns : goal.returns
returns c =
    let a = c.args in
    sym (ap (λ xs. poured (not_below a.from xs) (state c.loop-e.skip c.loop-e.at c.loop-e.out)) (no_words (λ j. get_or a.maps.now j 0) (λ x. (get_or a.leads.now (x / 256) 0 * 256 + x % 256) ∷ []) c.loop-e.e (4 * a.count) c.loop-e-test.false) ∙ poured-none _) ∙ c.loop-e.invariant.2
