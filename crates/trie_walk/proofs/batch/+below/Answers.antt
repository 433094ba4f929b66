-- One level of the walk: the loop's invariant is `Runs`, and each turn is one of its laws. The measure of the recursion is the levels left. Assumes nothing.
use mathlib.Core.Path.{refl, sym, ap, ◌∙◌, subst}
use mathlib.Core.List.{List}
use Prim.Native.Nat.{ℕ, ◌-◌, ◌*◌, ◌^◌, ◌<◌}
use native.Mathlib.Omega.{arith}
use lib.ListN.{get_or}
use Rattle.arena.specs.Arena.{nodes_in}
use Rattle.trie_walk.specs.Pour.{state, poured, not_below}
use Rattle.trie_walk.specs.Batch.{all_listed}
use Rattle.trie_walk.proofs.Numbers.{Without, fewer}
use Rattle.trie_walk.proofs.Levels.{all-suffixes}
use Rattle.trie_walk.proofs.Runs.{start, between, waiting, load, flush, push-place, push-node, push-lead, place, place-few, done, full, anew, back}
use Rattle.trie_walk.proofs.batch.+below.Goals as goal

pub gather-requires : goal.gather-requires
gather-requires t c =
    let R = c.requires.batch.row in
    record {
      arena_len = R.tries.long;
      count_bound = c.requires.count_bound;
      by_index = λ i h. (R.node i h).in-range;
      maps_len = refl;
    }

pub last-requires : goal.last-requires
last-requires t c =
    record {
      count_bound = c.requires.count_bound;
      by_index = λ i h. subst (λ (k : ℕ). get_or c.args.leads.now i 0 < 2 ^ (8 * (5 - k))) c.if-d-eq1.true (c.requires.batch.row.lead i h);
    }

pub shape_of-out-then-d-eq1 : goal.shape_of-out-then-d-eq1
shape_of-out-then-d-eq1 t c = c.last.auto.out

pub returns-then-d-eq1 : goal.returns-then-d-eq1
returns-then-d-eq1 t c =
    let a = c.args in
    c.last.ensures
    ∙ ap (λ (xs : List ℕ). poured (not_below a.from xs) (state a.skip a.at a.out.now))
    (sym (all-suffixes a.slots a.arena.now a.nodes.now a.leads.now c.gather.new.maps a.count c.gather.ensures) ∙ ap (λ (k : ℕ). all_listed (nodes_in a.slots a.arena.now) k a.nodes.now a.leads.now a.count) (sym c.if-d-eq1.true))

pub overflow_sub-bound : goal.overflow_sub-bound
overflow_sub-bound t c = let R = c.requires.batch.row in omega (arith, R.some, R.short, R.few)

pub overflow_mul-bound : goal.overflow_mul-bound
overflow_mul-bound t c = let R = c.requires.batch.row in omega (arith, R.some, R.short, R.few)

pub overflow_shr-bound : goal.overflow_shr-bound
overflow_shr-bound t c = let R = c.requires.batch.row in omega (arith, R.some, R.short, R.few)

pub loop-e-init : goal.loop-e-init
loop-e-init t c =
    let a = c.args in
    start a.slots a.d a.count a.from a.arena.now a.nodes.now a.leads.now _ (state a.skip a.at a.out.now) _ _ c.requires.batch c.if-d-eq1.false c.gather.ensures refl refl

pub overflow_mul-e-end : goal.overflow_mul-e-end
overflow_mul-e-end t c = omega (arith, c.requires.count_bound)

pub offset_bounds-maps-e : goal.offset_bounds-maps-e
offset_bounds-maps-e t c = omega arith

pub bounds-maps-e : goal.bounds-maps-e
bounds-maps-e t c = omega (arith, c.loop-e-test.true, c.requires.count_bound)

pub overflow_mul-p : goal.overflow_mul-p
overflow_mul-p t c = omega (arith, c.loop-e-test.true, c.requires.count_bound)

pub loop-w-init : goal.loop-w-init
loop-w-init t c = anew (load c.loop-e.invariant refl c.loop-e-test.true)

pub loop-e-preserved : goal.loop-e-preserved
loop-e-preserved t c = between (back (load c.loop-e.invariant refl c.loop-e-test.true) c.loop-w.invariant) c.loop-w-test.false

pub overflow_sub-d : goal.overflow_sub-d
overflow_sub-d t c = omega (arith, c.requires.batch.row.some)

pub below-s-requires : goal.below-s-requires
below-s-requires t c = (omega (arith, c.requires.batch.row.some), (waiting c.loop-w.invariant, c.loop-w.invariant.run.few))

pub shape_of-out-then-at-out : goal.shape_of-out-then-at-out
shape_of-out-then-at-out t c = c.below-s.auto.out ∙ c.loop-w.invariant.run.long ∙ c.loop-e.invariant.run.long

pub returns-then-at-out : goal.returns-then-at-out
returns-then-at-out t c = full (flush (back (load c.loop-e.invariant refl c.loop-e-test.true) c.loop-w.invariant) _ _ _ c.below-s.ensures c.below-s.auto.out) c.if-skip-eq0.true c.if-at-out.true

pub loop-w-smaller-else-at-out : goal.loop-w-smaller-else-at-out
loop-w-smaller-else-at-out t c = omega (arith, c.if-c-eq32.true)

pub loop-w-preserved-else-at-out : goal.loop-w-preserved-else-at-out
loop-w-preserved-else-at-out t c = flush c.loop-w.invariant _ _ _ c.below-s.ensures c.below-s.auto.out

pub loop-w-smaller-else-skip-eq0 : goal.loop-w-smaller-else-skip-eq0
loop-w-smaller-else-skip-eq0 t c = omega (arith, c.if-c-eq32.true)

pub loop-w-preserved-else-skip-eq0 : goal.loop-w-preserved-else-skip-eq0
loop-w-preserved-else-skip-eq0 t c = flush c.loop-w.invariant _ _ _ c.below-s.ensures c.below-s.auto.out

pub lowest-k-requires : goal.lowest-k-requires
lowest-k-requires t c = c.loop-w-test.true

pub overflow_add-p : goal.overflow_add-p
overflow_add-p t c = omega (arith, push-place c.loop-w.invariant c.lowest-k.ensures, c.requires.count_bound)

pub push-c-requires : goal.push-c-requires
push-c-requires t c =
    let r = c.loop-w.invariant in
    let L = c.lowest-k.ensures in
    record {
      arena_len = r.whole.tries.long;
      x_bound = omega (arith, push-place r L, c.requires.count_bound);
      x_bound_2 = push-node r L;
      x_bound_3 = push-lead r L;
      c_bound = omega (arith, r.run.few, c.if-c-eq32.false);
    }

pub without-w-requires : goal.without-w-requires
without-w-requires t c = c.lowest-k.ensures.small

pub loop-w-smaller : goal.loop-w-smaller
loop-w-smaller t c =
    let T : Without c.loop-w.w c.lowest-k.result c.without-w.result =
    record { lowest = c.lowest-k.ensures; here = c.without-w.ensures.here; other = c.without-w.ensures.other } in
    omega (arith, fewer T, place-few c.loop-w.invariant T c.push-c.result c.push-c.ensures.next, c.loop-w.invariant.run.few, c.if-c-eq32.false)

pub loop-w-preserved : goal.loop-w-preserved
loop-w-preserved t c =
    let T : Without c.loop-w.w c.lowest-k.result c.without-w.result =
    record { lowest = c.lowest-k.ensures; here = c.without-w.ensures.here; other = c.without-w.ensures.other } in
    place c.loop-w.invariant T (omega (arith, c.loop-w.invariant.run.few, c.if-c-eq32.false)) _ _ _ c.push-c.ensures.next c.push-c.ensures.child c.push-c.ensures.lead

pub overflow_sub-d-2 : goal.overflow_sub-d-2
overflow_sub-d-2 t c = omega (arith, c.requires.batch.row.some)

pub below-requires : goal.below-requires
below-requires t c = (omega (arith, c.requires.batch.row.some), (waiting c.loop-e.invariant, c.loop-e.invariant.run.few))

pub shape_of-out : goal.shape_of-out
shape_of-out t c = c.below.auto.out ∙ c.loop-e.invariant.run.long

pub returns : goal.returns
returns t c = done c.loop-e.invariant _ _ _ refl c.loop-e-test.false c.below.ensures
