-- The record is looked at first, then its root in the lent arena. Assumes nothing.
use mathlib.Core.Path.{sym, ap, ◌∙◌}
use native.Mathlib.Omega.{arith}
use Rattle.model.specs.Words.{bytes_of}
use Rattle.lists.proofs.Answers.{refused, told}
use Rattle.inspect_tries.proofs.Lent.{suffix-bits}
use Rattle.inspect_tries.proofs.Holds.{lent-tries, lent-roots, lent-last, read-root, root-read}
use Rattle.inspect_tries.proofs.trie_ok.Goals as goal

pub returns-then-len-le-THRESHOLD : goal.returns-then-len-le-THRESHOLD
returns-then-len-le-THRESHOLD c =
    record {
      yes = (refused (λ t. omega (arith, t.many, c.size-len.ensures, c.if-len-le-THRESHOLD.true))).0;
      no = (refused (λ t. omega (arith, t.many, c.size-len.ensures, c.if-len-le-THRESHOLD.true))).1;
    }

pub returns-then-root-shape : goal.returns-then-root-shape
returns-then-root-shape c =
    record {
      yes = (refused (λ t. omega (arith, t.root-in-range, c.link-root.ensures, c.shape-shape.ensures.slots, c.if-root-shape.true))).0;
      no = (refused (λ t. omega (arith, t.root-in-range, c.link-root.ensures, c.shape-shape.ensures.slots, c.if-root-shape.true))).1;
    }

pub root_ok-requires : goal.root_ok-requires
root_ok-requires c =
    let l = c.args.region.now in
    let s = c.shape-shape in
    record {
      tries = lent-tries l c.requires.ready s.result.slots s.ensures.slots s.result.b s.ensures.levels c.requires.arena;
      n_lt_slots = c.if-root-shape.false;
      le_bits = (omega (arith, (suffix-bits l c.requires.ready).0, c.s-bits.ensures), omega (arith, (suffix-bits l c.requires.ready).1, c.s-bits.ensures));
      levels = s.ensures.levels ∙ ap bytes_of (sym c.s-bits.ensures);
      roots_value = c.requires.roots_value ∙ lent-roots l c.requires.ready s.result.slots s.ensures.slots s.result.b s.ensures.levels;
      last_value = c.requires.last_value ∙ lent-last l c.requires.ready s.result.slots s.ensures.slots s.result.b s.ensures.levels;
    }

pub returns : goal.returns
returns c =
    let l = c.args.region.now in
    let r = told c.root_ok.result (c.root_ok.ensures.yes, c.root_ok.ensures.no)
    (λ t. root-read l c.requires.ready c.args.c c.shape-shape.result.slots c.shape-shape.ensures.slots c.s-bits.result c.s-bits.ensures c.link-root.result c.link-root.ensures c.size-len.result c.size-len.ensures (omega (arith, c.if-len-le-THRESHOLD.false)) (omega (arith, c.if-root-shape.false, c.shape-shape.ensures.slots)) t)
    (λ t. read-root l c.requires.ready c.args.c c.shape-shape.result.slots c.shape-shape.ensures.slots c.s-bits.result c.s-bits.ensures c.link-root.result c.link-root.ensures c.size-len.result c.size-len.ensures t) in
    record { yes = r.0; no = r.1 }
