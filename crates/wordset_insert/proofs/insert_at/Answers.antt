-- Each answer of an insert at a slot, from the step that gave it. Assumes nothing.
use mathlib.Core.Path.{refl, sym, ◌∙◌}
use mathlib.Core.Bool.{true, false}
use native.Mathlib.Omega.{arith}
use Rattle.std.proofs.lemmas.Result.{err_from_is_err_and}
use Rattle.wordset_insert.proofs.Inserting.{stands_set, stands-there, joined-parted, s-small, c-trie, found-is, set-old, put-done, small_is, full_is, push-done, grow-done, grow-full}
use Rattle.wordset_insert.proofs.insert_at.Goals as goal

pub put-requires : goal.put-requires
put-requires c =
    let a = joined-parted c.requires.well_formed c.requires.c_bound c.requires.c_nonzero c.requires.s_bound in
    let set = stands_set c.requires.well_formed c.requires.c_bound c.requires.c_nonzero in
    let there = stands-there c.requires.well_formed c.requires.c_bound c.requires.c_nonzero in
    let trie = c-trie a set there (λ y. c.if-kind-ne1.true (c.kind.ensures ∙ y)) in
    record {
      well_formed = c.requires.well_formed;
      c_bound = c.requires.c_bound;
      c_value = trie;
      s_bound = s-small a;
    }

pub returns-then-kind-ne1 : goal.returns-then-kind-ne1
returns-then-kind-ne1 c =
    let a = joined-parted c.requires.well_formed c.requires.c_bound c.requires.c_nonzero c.requires.s_bound in
    let set = stands_set c.requires.well_formed c.requires.c_bound c.requires.c_nonzero in
    let there = stands-there c.requires.well_formed c.requires.c_bound c.requires.c_nonzero in
    let trie = c-trie a set there (λ y. c.if-kind-ne1.true (c.kind.ensures ∙ y)) in
    put-done a set there trie c.put.result c.put.new.region c.put.ensures

pub returns-then-in_vector : goal.returns-then-in_vector
returns-then-in_vector c =
    let a = joined-parted c.requires.well_formed c.requires.c_bound c.requires.c_nonzero c.requires.s_bound in
    let set = stands_set c.requires.well_formed c.requires.c_bound c.requires.c_nonzero in
    let there = stands-there c.requires.well_formed c.requires.c_bound c.requires.c_nonzero in
    set-old a set there (found-is a set there c.in_vector.result true c.in_vector.ensures c.if-in_vector.true) refl

pub push-requires : goal.push-requires
push-requires c =
    let a = joined-parted c.requires.well_formed c.requires.c_bound c.requires.c_nonzero c.requires.s_bound in
    let set = stands_set c.requires.well_formed c.requires.c_bound c.requires.c_nonzero in
    let there = stands-there c.requires.well_formed c.requires.c_bound c.requires.c_nonzero in
    let vector = sym c.kind.ensures ∙ c.if-kind-ne1.false in
    let none = found-is a set there c.in_vector.result false c.in_vector.ensures c.if-in_vector.false in
    let few = small_is a set there c.size.result c.size.ensures (omega (arith, c.if-size-lt-THRESHOLD.true)) in
    record {
      well_formed = c.requires.well_formed;
      c_bound = c.requires.c_bound;
      c_value = vector;
      c_bound_2 = few;
      s_bound = s-small a;
      c_value_2 = none;
    }

pub returns-then-size-lt-THRESHOLD : goal.returns-then-size-lt-THRESHOLD
returns-then-size-lt-THRESHOLD c =
    let a = joined-parted c.requires.well_formed c.requires.c_bound c.requires.c_nonzero c.requires.s_bound in
    let set = stands_set c.requires.well_formed c.requires.c_bound c.requires.c_nonzero in
    let there = stands-there c.requires.well_formed c.requires.c_bound c.requires.c_nonzero in
    let vector = sym c.kind.ensures ∙ c.if-kind-ne1.false in
    let none = found-is a set there c.in_vector.result false c.in_vector.ensures c.if-in_vector.false in
    let few = small_is a set there c.size.result c.size.ensures (omega (arith, c.if-size-lt-THRESHOLD.true)) in
    push-done a set there vector none few c.push.ensures

pub grow-requires : goal.grow-requires
grow-requires c =
    let a = joined-parted c.requires.well_formed c.requires.c_bound c.requires.c_nonzero c.requires.s_bound in
    let set = stands_set c.requires.well_formed c.requires.c_bound c.requires.c_nonzero in
    let there = stands-there c.requires.well_formed c.requires.c_bound c.requires.c_nonzero in
    let vector = sym c.kind.ensures ∙ c.if-kind-ne1.false in
    let none = found-is a set there c.in_vector.result false c.in_vector.ensures c.if-in_vector.false in
    let full = full_is a set there vector c.size.result c.size.ensures (omega (arith, c.if-size-lt-THRESHOLD.false)) in
    record {
      well_formed = c.requires.well_formed;
      c_bound = c.requires.c_bound;
      c_value = vector;
      c_value_2 = full;
      s_bound = s-small a;
      c_value_3 = none;
    }

pub returns : goal.returns
returns c =
    let a = joined-parted c.requires.well_formed c.requires.c_bound c.requires.c_nonzero c.requires.s_bound in
    let set = stands_set c.requires.well_formed c.requires.c_bound c.requires.c_nonzero in
    let there = stands-there c.requires.well_formed c.requires.c_bound c.requires.c_nonzero in
    let vector = sym c.kind.ensures ∙ c.if-kind-ne1.false in
    let none = found-is a set there c.in_vector.result false c.in_vector.ensures c.if-in_vector.false in
    let full = full_is a set there vector c.size.result c.size.ensures (omega (arith, c.if-size-lt-THRESHOLD.false)) in
    grow-done a set there vector none full c.grow.result c.grow.new.region c.grow.ensures c.in_ok-grow.was

pub returns-in_err-grow : goal.returns-in_err-grow
returns-in_err-grow c =
    let a = joined-parted c.requires.well_formed c.requires.c_bound c.requires.c_nonzero c.requires.s_bound in
    let set = stands_set c.requires.well_formed c.requires.c_bound c.requires.c_nonzero in
    let there = stands-there c.requires.well_formed c.requires.c_bound c.requires.c_nonzero in
    let vector = sym c.kind.ensures ∙ c.if-kind-ne1.false in
    let none = found-is a set there c.in_vector.result false c.in_vector.ensures c.if-in_vector.false in
    let full = full_is a set there vector c.size.result c.size.ensures (omega (arith, c.if-size-lt-THRESHOLD.false)) in
    let p = err_from_is_err_and c.from_residual.result c.from_residual.ensures.1 in
    rw p.1 (grow-full a set there vector none full c.grow.result c.grow.new.region c.grow.ensures c.in_err-grow.was)
