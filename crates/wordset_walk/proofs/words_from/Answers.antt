-- Outside, the walk has come to a rank; inside, the output grows by the words of that rank; full, it holds the answer. Assumes nothing.
use mathlib.Core.Path.{◌≡◌, refl, sym, ap, subst, ◌∙◌}
use mathlib.Core.List.{List}
use lib.ListN.{length, take, drop, set, get_or, length-take, length-drop}
use Prim.Native.Nat.{ℕ, ◌+◌, ◌-◌, ◌*◌, ◌%◌, ◌^◌, ◌<◌, ◌≤◌}
use native.Mathlib.Omega.{arith}
use Rattle.std.proofs.Common.{add-zero}
use Rattle.model.specs.Words.{joined}
use Rattle.region.specs.Areas.{numbers}
use Rattle.region.specs.Seen.{seen}
use Rattle.lens.proofs.Ranks.{place-small}
use Rattle.wordset_lookup.proofs.Looks.{S-high, entries-inside}
use Rattle.wordset_walk.proofs.Filling.{long, at_most}
use Rattle.wordset_walk.proofs.Order.{set_out, all_done, no_room, slot-fits, slot-vector, base-is, base-fits, passed, poured, grow-start, grow-long, grow-next, grow-end, grow-stop, strip-long, strip-small, word-is, item-is, Grown, words_in}
use Rattle.wordset_walk.proofs.words_from.Goals as goal

pub k-k-requires : goal.k-k-requires
k-k-requires c = c.requires.ready

pub s-bits-requires : goal.s-bits-requires
s-bits-requires c = c.requires.ready

pub prefixes-init : goal.prefixes-init
prefixes-init c = set_out c.args.region.now c.args.start c.args.out.now

pub slot-c-requires : goal.slot-c-requires
slot-c-requires c =
    let l = c.args.region.now in
    let h : c.prefixes.r < (numbers l).k = omega (arith, c.k-k.ensures) in
    record {
      ready = c.requires.ready;
      i_bound = place-small c.requires c.prefixes.r h;
    }

pub size-len-requires : goal.size-len-requires
size-len-requires c =
    let l = c.args.region.now in
    let h : c.prefixes.r < (numbers l).k = omega (arith, c.k-k.ensures) in
    record {
      ready = c.requires.ready;
      c_bound = slot-fits l c.requires c.prefixes.r h c.slot-c.result c.slot-c.ensures;
    }

pub prefixes-preserved-then-skip-len : goal.prefixes-preserved-then-skip-len
prefixes-preserved-then-skip-len c =
    let l = c.args.region.now in
    let h : c.prefixes.r < (numbers l).k = omega (arith, c.k-k.ensures) in
    passed l c.requires c.prefixes.r h c.slot-c.result c.slot-c.ensures c.size-len.result c.size-len.ensures c.prefixes.invariant (omega arith)

pub prefix-requires : goal.prefix-requires
prefix-requires c =
    let l = c.args.region.now in
    let h : c.prefixes.r < (numbers l).k = omega (arith, c.k-k.ensures) in
    record {
      ready = c.requires.ready;
      c_bound = slot-fits l c.requires c.prefixes.r h c.slot-c.result c.slot-c.ensures;
    }

pub overflow_shl-base : goal.overflow_shl-base
overflow_shl-base c =
    let l = c.args.region.now in
    let h : c.prefixes.r < (numbers l).k = omega (arith, c.k-k.ensures) in
    omega (arith, c.s-bits.ensures, S-high l c.requires)

pub kind-requires : goal.kind-requires
kind-requires c =
    let l = c.args.region.now in
    let h : c.prefixes.r < (numbers l).k = omega (arith, c.k-k.ensures) in
    record {
      ready = c.requires.ready;
      c_bound = slot-fits l c.requires c.prefixes.r h c.slot-c.result c.slot-c.ensures;
    }

pub offset_bounds-out-at : goal.offset_bounds-out-at
offset_bounds-out-at c =
    let l = c.args.region.now in
    let h : c.prefixes.r < (numbers l).k = omega (arith, c.k-k.ensures) in
    omega (arith, long c.prefixes.invariant.filled)

pub slice_bounds-words-count : goal.slice_bounds-words-count
slice_bounds-words-count c = omega arith

pub slice_bounds-words-start : goal.slice_bounds-words-start
slice_bounds-words-start c = omega arith

pub slice_bounds-words-end : goal.slice_bounds-words-end
slice_bounds-words-end c = omega arith

pub words-at-requires : goal.words-at-requires
words-at-requires c =
    let l = c.args.region.now in
    let h : c.prefixes.r < (numbers l).k = omega (arith, c.k-k.ensures) in
    record {
      well_formed = c.requires;
      c_bound = slot-fits l c.requires c.prefixes.r h c.slot-c.result c.slot-c.ensures;
      c_value = sym c.kind.ensures ∙ c.if-kind-eq2.true;
      base_value = base-is l c.requires c.prefixes.r h c.slot-c.result c.slot-c.ensures c.prefix.result c.s-bits.result _ c.prefix.ensures c.s-bits.ensures refl;
      region_bound = base-fits l c.requires c.prefixes.r h c.slot-c.result c.slot-c.ensures c.prefix.result c.s-bits.result _ c.prefix.ensures c.s-bits.ensures refl;
    }

pub overflow_add-at : goal.overflow_add-at
overflow_add-at c =
    let l = c.args.region.now in
    let h : c.prefixes.r < (numbers l).k = omega (arith, c.k-k.ensures) in
    let m = poured l c.requires c.prefixes.r h c.slot-c.result c.slot-c.ensures c.size-len.result c.size-len.ensures c.prefixes.invariant c.if-skip-len.false c.if-at-out.false c.words-at.result c.words-at.new.out c.words-at.ensures.number c.words-at.ensures.written in
    omega (arith, at_most m.filled)

pub prefixes-preserved-then-kind-eq2 : goal.prefixes-preserved-then-kind-eq2
prefixes-preserved-then-kind-eq2 c =
    let l = c.args.region.now in
    let h : c.prefixes.r < (numbers l).k = omega (arith, c.k-k.ensures) in
    poured l c.requires c.prefixes.r h c.slot-c.result c.slot-c.ensures c.size-len.result c.size-len.ensures c.prefixes.invariant c.if-skip-len.false c.if-at-out.false c.words-at.result c.words-at.new.out c.words-at.ensures.number c.words-at.ensures.written

pub bounds-region-12 : goal.bounds-region-12
bounds-region-12 c =
    let l = c.args.region.now in
    let h : c.prefixes.r < (numbers l).k = omega (arith, c.k-k.ensures) in
    let k1 = slot-vector l c.requires c.prefixes.r h c.slot-c.result c.slot-c.ensures (λ z. c.if-kind-eq2.false (c.kind.ensures ∙ z)) in
    omega (arith, c.requires.ready.has-header)

pub overflow_mul-first : goal.overflow_mul-first
overflow_mul-first c =
    let l = c.args.region.now in
    let h : c.prefixes.r < (numbers l).k = omega (arith, c.k-k.ensures) in
    let k1 = slot-vector l c.requires c.prefixes.r h c.slot-c.result c.slot-c.ensures (λ z. c.if-kind-eq2.false (c.kind.ensures ∙ z)) in
    omega (arith, entries-inside l c.requires c.slot-c.result (slot-fits l c.requires c.prefixes.r h c.slot-c.result c.slot-c.ensures) k1 c.size-len.result c.size-len.ensures)

pub overflow_add-first : goal.overflow_add-first
overflow_add-first c =
    let l = c.args.region.now in
    let h : c.prefixes.r < (numbers l).k = omega (arith, c.k-k.ensures) in
    let k1 = slot-vector l c.requires c.prefixes.r h c.slot-c.result c.slot-c.ensures (λ z. c.if-kind-eq2.false (c.kind.ensures ∙ z)) in
    omega (arith, entries-inside l c.requires c.slot-c.result (slot-fits l c.requires c.prefixes.r h c.slot-c.result c.slot-c.ensures) k1 c.size-len.result c.size-len.ensures)

pub overflow_add-strip : goal.overflow_add-strip
overflow_add-strip c =
    let l = c.args.region.now in
    let h : c.prefixes.r < (numbers l).k = omega (arith, c.k-k.ensures) in
    let k1 = slot-vector l c.requires c.prefixes.r h c.slot-c.result c.slot-c.ensures (λ z. c.if-kind-eq2.false (c.kind.ensures ∙ z)) in
    omega (arith, entries-inside l c.requires c.slot-c.result (slot-fits l c.requires c.prefixes.r h c.slot-c.result c.slot-c.ensures) k1 c.size-len.result c.size-len.ensures)

pub offset_bounds-region-first : goal.offset_bounds-region-first
offset_bounds-region-first c =
    let l = c.args.region.now in
    let h : c.prefixes.r < (numbers l).k = omega (arith, c.k-k.ensures) in
    let k1 = slot-vector l c.requires c.prefixes.r h c.slot-c.result c.slot-c.ensures (λ z. c.if-kind-eq2.false (c.kind.ensures ∙ z)) in
    omega (arith, entries-inside l c.requires c.slot-c.result (slot-fits l c.requires c.prefixes.r h c.slot-c.result c.slot-c.ensures) k1 c.size-len.result c.size-len.ensures)

pub slice_bounds-strip-count : goal.slice_bounds-strip-count
slice_bounds-strip-count c =
    let l = c.args.region.now in
    let h : c.prefixes.r < (numbers l).k = omega (arith, c.k-k.ensures) in
    let k1 = slot-vector l c.requires c.prefixes.r h c.slot-c.result c.slot-c.ensures (λ z. c.if-kind-eq2.false (c.kind.ensures ∙ z)) in
    omega (arith, entries-inside l c.requires c.slot-c.result (slot-fits l c.requires c.prefixes.r h c.slot-c.result c.slot-c.ensures) k1 c.size-len.result c.size-len.ensures)

pub slice_bounds-strip-start : goal.slice_bounds-strip-start
slice_bounds-strip-start c =
    let l = c.args.region.now in
    let h : c.prefixes.r < (numbers l).k = omega (arith, c.k-k.ensures) in
    let k1 = slot-vector l c.requires c.prefixes.r h c.slot-c.result c.slot-c.ensures (λ z. c.if-kind-eq2.false (c.kind.ensures ∙ z)) in
    omega (arith, entries-inside l c.requires c.slot-c.result (slot-fits l c.requires c.prefixes.r h c.slot-c.result c.slot-c.ensures) k1 c.size-len.result c.size-len.ensures)

pub slice_bounds-strip-end : goal.slice_bounds-strip-end
slice_bounds-strip-end c =
    let l = c.args.region.now in
    let h : c.prefixes.r < (numbers l).k = omega (arith, c.k-k.ensures) in
    let k1 = slot-vector l c.requires c.prefixes.r h c.slot-c.result c.slot-c.ensures (λ z. c.if-kind-eq2.false (c.kind.ensures ∙ z)) in
    omega (arith, entries-inside l c.requires c.slot-c.result (slot-fits l c.requires c.prefixes.r h c.slot-c.result c.slot-c.ensures) k1 c.size-len.result c.size-len.ensures)

pub loop-suffix-init : goal.loop-suffix-init
loop-suffix-init c =
    let l = c.args.region.now in
    let h : c.prefixes.r < (numbers l).k = omega (arith, c.k-k.ensures) in
    rw add-zero (grow-start l c.requires c.prefixes.r h c.slot-c.result c.slot-c.ensures c.size-len.result c.size-len.ensures c.prefixes.invariant)

pub offset_bounds-strip-skip : goal.offset_bounds-strip-skip
offset_bounds-strip-skip c =
    let l = c.args.region.now in
    let h : c.prefixes.r < (numbers l).k = omega (arith, c.k-k.ensures) in
    let k1 = slot-vector l c.requires c.prefixes.r h c.slot-c.result c.slot-c.ensures (λ z. c.if-kind-eq2.false (c.kind.ensures ∙ z)) in
    omega (arith, entries-inside l c.requires c.slot-c.result (slot-fits l c.requires c.prefixes.r h c.slot-c.result c.slot-c.ensures) k1 c.size-len.result c.size-len.ensures)

pub overflow_add-out : goal.overflow_add-out
overflow_add-out c =
    let l = c.args.region.now in
    let h : c.prefixes.r < (numbers l).k = omega (arith, c.k-k.ensures) in
    let k1 = slot-vector l c.requires c.prefixes.r h c.slot-c.result c.slot-c.ensures (λ z. c.if-kind-eq2.false (c.kind.ensures ∙ z)) in
    let lp = c.loop-suffix in
    let first : ℕ = get_or l 12 0 + 1024 * c.slot-c.result in
    let strip : List ℕ = take ((first + c.size-len.result) - first) (drop first l) in
    let long : length strip ≡ c.size-len.result = strip-long l c.requires c.prefixes.r h c.slot-c.result c.slot-c.ensures c.size-len.result c.size-len.ensures k1 first refl in
    let inside : c.prefixes.skip + lp.suffix-index < c.size-len.result = omega (arith, c.loop-suffix-test.true, c.if-skip-len.false, long, length-take (length strip - c.prefixes.skip) (drop c.prefixes.skip strip)) in
    let item = item-is strip c.prefixes.skip lp.suffix-index (omega arith) in
    omega (arith, item, strip-small l c.requires c.prefixes.r h c.slot-c.result c.slot-c.ensures c.size-len.result c.size-len.ensures k1 first refl (c.prefixes.skip + lp.suffix-index) inside, base-fits l c.requires c.prefixes.r h c.slot-c.result c.slot-c.ensures c.prefix.result c.s-bits.result _ c.prefix.ensures c.s-bits.ensures refl)

pub loop-suffix-preserved : goal.loop-suffix-preserved
loop-suffix-preserved c =
    let l = c.args.region.now in
    let h : c.prefixes.r < (numbers l).k = omega (arith, c.k-k.ensures) in
    let k1 = slot-vector l c.requires c.prefixes.r h c.slot-c.result c.slot-c.ensures (λ z. c.if-kind-eq2.false (c.kind.ensures ∙ z)) in
    let lp = c.loop-suffix in
    let first : ℕ = get_or l 12 0 + 1024 * c.slot-c.result in
    let strip : List ℕ = take ((first + c.size-len.result) - first) (drop first l) in
    let long : length strip ≡ c.size-len.result = strip-long l c.requires c.prefixes.r h c.slot-c.result c.slot-c.ensures c.size-len.result c.size-len.ensures k1 first refl in
    let inside : c.prefixes.skip + lp.suffix-index < c.size-len.result = omega (arith, c.loop-suffix-test.true, c.if-skip-len.false, long, length-take (length strip - c.prefixes.skip) (drop c.prefixes.skip strip)) in
    let item = item-is strip c.prefixes.skip lp.suffix-index (omega arith) in
    let base : ℕ = (c.prefix.result * 2 ^ c.s-bits.result) % 18446744073709551616 in
    let is : base + get_or (take (length strip - c.prefixes.skip) (drop c.prefixes.skip strip)) lp.suffix-index 0 ≡ get_or (words_in l c.slot-c.result) (c.prefixes.skip + lp.suffix-index) (joined (numbers l).S ((seen (numbers l) l).prefix c.slot-c.result) 0) =
    ap (λ (z : ℕ). base + z) item
    ∙ word-is l c.requires c.prefixes.r h c.slot-c.result c.slot-c.ensures c.size-len.result c.size-len.ensures k1 first refl base (c.prefixes.skip + lp.suffix-index) (base-is l c.requires c.prefixes.r h c.slot-c.result c.slot-c.ensures c.prefix.result c.s-bits.result base c.prefix.ensures c.s-bits.ensures refl)
    in
    let e : (c.prefixes.skip + lp.suffix-index) + 1 ≡ c.prefixes.skip + (lp.suffix-index + 1) = omega arith in
    subst (λ (k : ℕ). Grown l c.args.start c.prefixes.at c.prefixes.out c.prefixes.r k (lp.at + 1) (set lp.out lp.at (base + get_or (take (length strip - c.prefixes.skip) (drop c.prefixes.skip strip)) lp.suffix-index 0))) e
    (grow-next l c.requires c.prefixes.r h c.slot-c.result c.slot-c.ensures c.size-len.result c.size-len.ensures c.prefixes.invariant (c.prefixes.skip + lp.suffix-index) lp.at lp.out lp.invariant (omega arith) inside c.if-at-out-2.false _ is)

pub offset_bounds-out-at-in-loop-suffix : goal.offset_bounds-out-at-in-loop-suffix
offset_bounds-out-at-in-loop-suffix c =
    let l = c.args.region.now in
    let h : c.prefixes.r < (numbers l).k = omega (arith, c.k-k.ensures) in
    let lp = c.loop-suffix in
    omega (arith, grow-long l c.requires c.prefixes.r h c.slot-c.result c.slot-c.ensures c.size-len.result c.size-len.ensures c.prefixes.invariant (c.prefixes.skip + lp.suffix-index) lp.at lp.out lp.invariant)

pub bounds-out-at : goal.bounds-out-at
bounds-out-at c = omega arith

pub overflow_add-at-in-loop-suffix : goal.overflow_add-at-in-loop-suffix
overflow_add-at-in-loop-suffix c =
    let l = c.args.region.now in
    let h : c.prefixes.r < (numbers l).k = omega (arith, c.k-k.ensures) in
    let lp = c.loop-suffix in
    omega (arith, grow-long l c.requires c.prefixes.r h c.slot-c.result c.slot-c.ensures c.size-len.result c.size-len.ensures c.prefixes.invariant (c.prefixes.skip + lp.suffix-index) lp.at lp.out lp.invariant)

pub prefixes-preserved : goal.prefixes-preserved
prefixes-preserved c =
    let l = c.args.region.now in
    let h : c.prefixes.r < (numbers l).k = omega (arith, c.k-k.ensures) in
    let k1 = slot-vector l c.requires c.prefixes.r h c.slot-c.result c.slot-c.ensures (λ z. c.if-kind-eq2.false (c.kind.ensures ∙ z)) in
    let lp = c.loop-suffix in
    let first : ℕ = get_or l 12 0 + 1024 * c.slot-c.result in
    let strip : List ℕ = take ((first + c.size-len.result) - first) (drop first l) in
    let long : length strip ≡ c.size-len.result = strip-long l c.requires c.prefixes.r h c.slot-c.result c.slot-c.ensures c.size-len.result c.size-len.ensures k1 first refl in
    let ended : c.size-len.result ≤ c.prefixes.skip + lp.suffix-index = omega (arith, c.loop-suffix-test.false, c.if-skip-len.false, long, length-take (length strip - c.prefixes.skip) (drop c.prefixes.skip strip), length-drop c.prefixes.skip strip) in
    grow-end l c.requires c.prefixes.r h c.slot-c.result c.slot-c.ensures c.size-len.result c.size-len.ensures c.prefixes.invariant (c.prefixes.skip + lp.suffix-index) lp.at lp.out lp.invariant c.if-skip-len.false ended

pub shape_of-out-after-prefixes : goal.shape_of-out-after-prefixes
shape_of-out-after-prefixes c = long c.prefixes.invariant.filled

pub returns-after-prefixes : goal.returns-after-prefixes
returns-after-prefixes c =
    let l = c.args.region.now in
    record {
      number = (all_done l c.prefixes.invariant (omega (arith, c.k-k.ensures))).0;
      written = (all_done l c.prefixes.invariant (omega (arith, c.k-k.ensures))).1;
    }

pub shape_of-out-then-at-out : goal.shape_of-out-then-at-out
shape_of-out-then-at-out c =
    let l = c.args.region.now in
    let h : c.prefixes.r < (numbers l).k = omega (arith, c.k-k.ensures) in
    long c.prefixes.invariant.filled

pub returns-then-at-out : goal.returns-then-at-out
returns-then-at-out c =
    let l = c.args.region.now in
    let h : c.prefixes.r < (numbers l).k = omega (arith, c.k-k.ensures) in
    record {
      number = (no_room l c.prefixes.invariant c.if-at-out.true).0;
      written = (no_room l c.prefixes.invariant c.if-at-out.true).1;
    }

pub shape_of-out-then-at-out-2 : goal.shape_of-out-then-at-out-2
shape_of-out-then-at-out-2 c =
    let l = c.args.region.now in
    let h : c.prefixes.r < (numbers l).k = omega (arith, c.k-k.ensures) in
    let lp = c.loop-suffix in
    grow-long l c.requires c.prefixes.r h c.slot-c.result c.slot-c.ensures c.size-len.result c.size-len.ensures c.prefixes.invariant (c.prefixes.skip + lp.suffix-index) lp.at lp.out lp.invariant

pub returns-then-at-out-2 : goal.returns-then-at-out-2
returns-then-at-out-2 c =
    let l = c.args.region.now in
    let h : c.prefixes.r < (numbers l).k = omega (arith, c.k-k.ensures) in
    let lp = c.loop-suffix in
    record {
      number = (grow-stop l c.requires c.prefixes.r h c.slot-c.result c.slot-c.ensures c.size-len.result c.size-len.ensures c.prefixes.invariant (c.prefixes.skip + lp.suffix-index) lp.at lp.out lp.invariant c.if-at-out-2.true).0;
      written = (grow-stop l c.requires c.prefixes.r h c.slot-c.result c.slot-c.ensures c.size-len.result c.size-len.ensures c.prefixes.invariant (c.prefixes.skip + lp.suffix-index) lp.at lp.out lp.invariant c.if-at-out-2.true).1;
    }
