-- A slot in use is a vector or a trie. Assumes nothing.
use Rattle.std.proofs.Common.{ℕ, cond, List, get_or, sym, refl, ap, ◌∙◌, arith}
use Rattle.lists.specs.Lists.{mem}
use Rattle.wordset_lookup.proofs.Looks.{entries-inside, kind-two, vector-part}
use Rattle.set_ops.proofs.take.held_each.Goals as goal

pub overflow_add-start-then-kind-eq1 : goal.overflow_add-start-then-kind-eq1
overflow_add-start-then-kind-eq1 c = omega (arith, entries-inside c.args.other.now c.requires.well_formed c.args.d c.requires.d_bound (sym c.kind.ensures ∙ c.if-kind-eq1.true) c.size-len.result c.size-len.ensures)

pub slice_bounds-in_vector_each-end : goal.slice_bounds-in_vector_each-end
slice_bounds-in_vector_each-end c = omega (arith, entries-inside c.args.other.now c.requires.well_formed c.args.d c.requires.d_bound (sym c.kind.ensures ∙ c.if-kind-eq1.true) c.size-len.result c.size-len.ensures)

pub returns-then-kind-eq1 : goal.returns-then-kind-eq1
returns-then-kind-eq1 c = λ i h. c.in_vector_each.ensures.each i h ∙ ap (λ (xs : List ℕ). cond {A = ℕ} (mem (get_or c.args.suffixes.now i 0) xs) 1 0) (vector-part c.args.other.now c.requires.well_formed c.args.d c.requires.d_bound (sym c.kind.ensures ∙ c.if-kind-eq1.true) _ c.size-len.result refl c.size-len.ensures)

pub in_trie_each-requires : goal.in_trie_each-requires
in_trie_each-requires c =
    record {
      well_formed = c.requires.well_formed;
      d_bound = c.requires.d_bound;
      d_value = kind-two c.args.other.now c.requires.well_formed c.args.d c.requires.d_bound c.requires.d_nonzero (λ z. c.if-kind-eq1.false (c.kind.ensures ∙ z));
      all_small = c.requires.all_small;
      suffixes_len_bound = c.requires.suffixes_len_bound;
      suffixes_in_bounds = c.requires.suffixes_in_bounds;
    }
