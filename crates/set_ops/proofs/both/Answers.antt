-- What is wanted of a, then what is wanted of b. Assumes nothing.
use Rattle.std.proofs.Common.{refl}
use Rattle.std.specs.Prelude.{is_ok}
use Rattle.lists.specs.Lists.{keep}
use Rattle.model.specs.Reading.{walk}
use Rattle.region.specs.Read.{reading}
use Rattle.std.proofs.lemmas.Result.{err_from_is_err_and}
use Rattle.set_ops.specs.Poured.{wanted}
use Rattle.set_ops.proofs.Pouring.{framed_alike, told-err, told-ok}
use Rattle.set_ops.proofs.Choosing.{first-framed, first-halts, second-pours}
use Rattle.set_ops.proofs.both.Goals as goal

pub returns-in_err-pour : goal.returns-in_err-pour
returns-in_err-pour c =
    let p = err_from_is_err_and c.from_residual.result c.from_residual.ensures.1 in
    rw p.1 (first-halts (keep (wanted (reading c.args.b.now) c.args.wanted) (walk (reading c.args.a.now))) (keep (wanted (reading c.args.a.now) c.args.wanted) (walk (reading c.args.b.now))) c.args.dest.now (is_ok c.pour.result) c.pour.new.dest c.pour.ensures _ refl (told-err c.in_err-pour.was))

pub pour-requires-2 : goal.pour-requires-2
pour-requires-2 c =
    let f = first-framed (keep (wanted (reading c.args.b.now) c.args.wanted) (walk (reading c.args.a.now))) (keep (wanted (reading c.args.a.now) c.args.wanted) (walk (reading c.args.b.now))) c.args.dest.now (is_ok c.pour.result) c.pour.new.dest c.pour.ensures (told-ok c.in_ok-pour.was) in
    record {
      well_formed = c.requires.well_formed_2;
      well_formed_2 = c.requires.well_formed;
      well_formed_3 = f.well-formed;
      alike = framed_alike c.requires.alike_2 f;
      alike_2 = framed_alike c.requires.alike f;
    }

pub returns : goal.returns
returns c = second-pours (keep (wanted (reading c.args.b.now) c.args.wanted) (walk (reading c.args.a.now))) (keep (wanted (reading c.args.a.now) c.args.wanted) (walk (reading c.args.b.now))) c.args.dest.now (is_ok c.pour.result) c.pour.new.dest c.pour.ensures _ refl (told-ok c.in_ok-pour.was) (is_ok c.pour-2.result) c.pour-2.new.dest c.pour-2.ensures
