-- The length is looked at first; then the first entries are those of a vector. Assumes nothing.
use mathlib.Core.Path.{refl}
use native.Mathlib.Omega.{arith}
use Rattle.lists.proofs.Answers.{refused, told}
use Rattle.inspect_vectors.proofs.Strips.{S-high, vector-of, of-vector}
use Rattle.inspect_vectors.proofs.vector_ok.Goals.{then-len-eq0-via-then-len-eq0, then-len-eq0-via-else-len-eq0+then-len-gt-THRESHOLD}
use Rattle.inspect_vectors.proofs.vector_ok.Goals as goal

pub returns-then-len-eq0 : goal.returns-then-len-eq0
returns-then-len-eq0 c =
    record {
      yes = (refused (λ w. elim c.then-len-eq0.branch [
        | then-len-eq0-via-then-len-eq0 u ↦ omega (arith, w.some, c.size-len.ensures)
        | then-len-eq0-via-else-len-eq0+then-len-gt-THRESHOLD u ↦ omega (arith, w.few, c.size-len.ensures)
      ])).0;
      no = (refused (λ w. elim c.then-len-eq0.branch [
        | then-len-eq0-via-then-len-eq0 u ↦ omega (arith, w.some, c.size-len.ensures)
        | then-len-eq0-via-else-len-eq0+then-len-gt-THRESHOLD u ↦ omega (arith, w.few, c.size-len.ensures)
      ])).1;
    }

pub suffixes_ok-requires : goal.suffixes_ok-requires
suffixes_ok-requires c = omega (arith, c.s.ensures, S-high c.args.region.now c.requires.ready)

pub returns : goal.returns
returns c =
    record {
      yes = (told _ (c.suffixes_ok.ensures.yes, c.suffixes_ok.ensures.no)
          (vector-of c.args.region.now c.requires.ready c.args.c c.requires.c_bound c.size-len.result c.size-len.ensures c.if-len-gt-THRESHOLD.false _ _ refl (omega arith) c.s.result c.s.ensures (omega (arith, c.if-len-eq0.false)))
          (of-vector c.args.region.now c.requires.ready c.args.c c.requires.c_bound c.size-len.result c.size-len.ensures c.if-len-gt-THRESHOLD.false _ _ refl (omega arith) c.s.result c.s.ensures)).0;
      no = (told _ (c.suffixes_ok.ensures.yes, c.suffixes_ok.ensures.no)
          (vector-of c.args.region.now c.requires.ready c.args.c c.requires.c_bound c.size-len.result c.size-len.ensures c.if-len-gt-THRESHOLD.false _ _ refl (omega arith) c.s.result c.s.ensures (omega (arith, c.if-len-eq0.false)))
          (of-vector c.args.region.now c.requires.ready c.args.c c.requires.c_bound c.size-len.result c.size-len.ensures c.if-len-gt-THRESHOLD.false _ _ refl (omega arith) c.s.result c.s.ensures)).1;
    }
