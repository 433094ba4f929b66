-- What the stored lengths add up to is the length of the walk. Assumes nothing.
use native.Mathlib.Omega.{arith}
use borrow.Author.Tests.{eqb-true, eqb-false}
use Rattle.inspect.proofs.Lending.{counting-asks, counting-told}
use Rattle.inspect.proofs.count_true.Goals as goal

pub sizes-requires : goal.sizes-requires
sizes-requires c =
    record {
      records_len = (counting-asks c.args.region.now c.requires.ready c.requires.placed c.requires.held).0;
      by_index = (counting-asks c.args.region.now c.requires.ready c.requires.placed c.requires.held).1;
    }

pub returns : goal.returns
returns c =
    let t = counting-told c.args.region.now c.requires.ready c.requires.placed c.requires.held in
    record {
      yes = λ e. omega (arith, eqb-true _ _ e, c.sizes.ensures, t);
      no = λ e n. omega (arith, eqb-false _ _ e, n, c.sizes.ensures, t);
    }
