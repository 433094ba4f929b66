-- The containers of the ranks below r are poured. Assumes nothing.
use Rattle.std.proofs.Common.{◌∙◌, arith}
use Rattle.region.specs.Read.{reading}
use Rattle.lens.proofs.Ranks.{k-small}
use Rattle.std.proofs.lemmas.Result.{err_from_is_err_and}
use Rattle.set_ops.specs.Poured.{wanted}
use Rattle.std.specs.Prelude.{is_ok}
use Rattle.set_ops.proofs.Pouring.{told-err, told-ok}
use Rattle.set_ops.proofs.Pouring.{pour-ready}
use Rattle.set_ops.proofs.Sources.{rank-start, ranking-framed, ranking-long, rank-place, rank-slot, rank-next, rank-halt, rank-end}
use Rattle.set_ops.proofs.pour.pour.Goals as goal

pub k-k-requires : goal.k-k-requires
k-k-requires c = c.requires.well_formed.ready

pub loop-r-init : goal.loop-r-init
loop-r-init c = rank-start (wanted (reading c.args.other.now) c.args.wanted) c.args.src.now c.requires.well_formed c.args.dest.now c.requires.well_formed_3

pub look_ahead-requires : goal.look_ahead-requires
look_ahead-requires c =
    record {
      well_formed = c.requires.well_formed;
      well_formed_2 = c.requires.well_formed_2;
      well_formed_3 = (ranking-framed (wanted (reading c.args.other.now) c.args.wanted) c.args.src.now c.requires.well_formed c.args.dest.now c.loop-r.dest c.loop-r.r c.loop-r.invariant).well-formed;
      from_bound = omega (arith, c.loop-r-test.true, c.k-k.ensures, k-small c.requires.well_formed);
    }

pub slot-c-requires : goal.slot-c-requires
slot-c-requires c =
    record {
      ready = c.requires.well_formed.ready;
      i_bound = rank-place (wanted (reading c.args.other.now) c.args.wanted) c.args.src.now c.requires.well_formed c.args.dest.now c.loop-r.dest c.loop-r.r c.loop-r.invariant c.k-k.result c.k-k.ensures c.loop-r-test.true;
    }

pub pour_container-requires : goal.pour_container-requires
pour_container-requires c =
    record {
      well_formed = (pour-ready c.args.src.now c.args.other.now c.requires.well_formed c.requires.well_formed_2 c.requires.alike c.requires.alike_2 (ranking-framed (wanted (reading c.args.other.now) c.args.wanted) c.args.src.now c.requires.well_formed c.args.dest.now c.loop-r.dest c.loop-r.r c.loop-r.invariant)
          (rank-slot (wanted (reading c.args.other.now) c.args.wanted) c.args.src.now c.requires.well_formed c.args.dest.now c.loop-r.dest c.loop-r.r c.loop-r.invariant c.k-k.result c.k-k.ensures c.loop-r-test.true c.slot-c.result c.slot-c.ensures)).0;
      well_formed_2 = (pour-ready c.args.src.now c.args.other.now c.requires.well_formed c.requires.well_formed_2 c.requires.alike c.requires.alike_2 (ranking-framed (wanted (reading c.args.other.now) c.args.wanted) c.args.src.now c.requires.well_formed c.args.dest.now c.loop-r.dest c.loop-r.r c.loop-r.invariant)
          (rank-slot (wanted (reading c.args.other.now) c.args.wanted) c.args.src.now c.requires.well_formed c.args.dest.now c.loop-r.dest c.loop-r.r c.loop-r.invariant c.k-k.result c.k-k.ensures c.loop-r-test.true c.slot-c.result c.slot-c.ensures)).1.0;
      well_formed_3 = (pour-ready c.args.src.now c.args.other.now c.requires.well_formed c.requires.well_formed_2 c.requires.alike c.requires.alike_2 (ranking-framed (wanted (reading c.args.other.now) c.args.wanted) c.args.src.now c.requires.well_formed c.args.dest.now c.loop-r.dest c.loop-r.r c.loop-r.invariant)
          (rank-slot (wanted (reading c.args.other.now) c.args.wanted) c.args.src.now c.requires.well_formed c.args.dest.now c.loop-r.dest c.loop-r.r c.loop-r.invariant c.k-k.result c.k-k.ensures c.loop-r-test.true c.slot-c.result c.slot-c.ensures)).1.1.0;
      alike = (pour-ready c.args.src.now c.args.other.now c.requires.well_formed c.requires.well_formed_2 c.requires.alike c.requires.alike_2 (ranking-framed (wanted (reading c.args.other.now) c.args.wanted) c.args.src.now c.requires.well_formed c.args.dest.now c.loop-r.dest c.loop-r.r c.loop-r.invariant)
          (rank-slot (wanted (reading c.args.other.now) c.args.wanted) c.args.src.now c.requires.well_formed c.args.dest.now c.loop-r.dest c.loop-r.r c.loop-r.invariant c.k-k.result c.k-k.ensures c.loop-r-test.true c.slot-c.result c.slot-c.ensures)).1.1.1.0;
      alike_2 = (pour-ready c.args.src.now c.args.other.now c.requires.well_formed c.requires.well_formed_2 c.requires.alike c.requires.alike_2 (ranking-framed (wanted (reading c.args.other.now) c.args.wanted) c.args.src.now c.requires.well_formed c.args.dest.now c.loop-r.dest c.loop-r.r c.loop-r.invariant)
          (rank-slot (wanted (reading c.args.other.now) c.args.wanted) c.args.src.now c.requires.well_formed c.args.dest.now c.loop-r.dest c.loop-r.r c.loop-r.invariant c.k-k.result c.k-k.ensures c.loop-r-test.true c.slot-c.result c.slot-c.ensures)).1.1.1.1.0;
      c_bound = (pour-ready c.args.src.now c.args.other.now c.requires.well_formed c.requires.well_formed_2 c.requires.alike c.requires.alike_2 (ranking-framed (wanted (reading c.args.other.now) c.args.wanted) c.args.src.now c.requires.well_formed c.args.dest.now c.loop-r.dest c.loop-r.r c.loop-r.invariant)
          (rank-slot (wanted (reading c.args.other.now) c.args.wanted) c.args.src.now c.requires.well_formed c.args.dest.now c.loop-r.dest c.loop-r.r c.loop-r.invariant c.k-k.result c.k-k.ensures c.loop-r-test.true c.slot-c.result c.slot-c.ensures)).1.1.1.1.1.0;
      c_nonzero = (pour-ready c.args.src.now c.args.other.now c.requires.well_formed c.requires.well_formed_2 c.requires.alike c.requires.alike_2 (ranking-framed (wanted (reading c.args.other.now) c.args.wanted) c.args.src.now c.requires.well_formed c.args.dest.now c.loop-r.dest c.loop-r.r c.loop-r.invariant)
          (rank-slot (wanted (reading c.args.other.now) c.args.wanted) c.args.src.now c.requires.well_formed c.args.dest.now c.loop-r.dest c.loop-r.r c.loop-r.invariant c.k-k.result c.k-k.ensures c.loop-r-test.true c.slot-c.result c.slot-c.ensures)).1.1.1.1.1.1;
    }

pub shape_of-dest-in_err-pour_container : goal.shape_of-dest-in_err-pour_container
shape_of-dest-in_err-pour_container c = c.pour_container.auto.dest ∙ ranking-long (wanted (reading c.args.other.now) c.args.wanted) c.args.src.now c.requires.well_formed c.args.dest.now c.loop-r.dest c.loop-r.r c.loop-r.invariant c.requires.well_formed_3

pub returns-in_err-pour_container : goal.returns-in_err-pour_container
returns-in_err-pour_container c =
    let p = err_from_is_err_and c.from_residual.result c.from_residual.ensures.1 in
    rw p.1 (rank-halt (wanted (reading c.args.other.now) c.args.wanted) c.args.src.now c.requires.well_formed c.args.dest.now c.loop-r.dest c.loop-r.r c.loop-r.invariant c.k-k.result c.k-k.ensures c.loop-r-test.true c.slot-c.result c.slot-c.ensures (is_ok c.pour_container.result) c.pour_container.new.dest c.pour_container.ensures (told-err c.in_err-pour_container.was))

pub loop-r-preserved : goal.loop-r-preserved
loop-r-preserved c = rank-next (wanted (reading c.args.other.now) c.args.wanted) c.args.src.now c.requires.well_formed c.args.dest.now c.loop-r.dest c.loop-r.r c.loop-r.invariant c.k-k.result c.k-k.ensures c.loop-r-test.true c.slot-c.result c.slot-c.ensures (is_ok c.pour_container.result) c.pour_container.new.dest c.pour_container.ensures (told-ok c.in_ok-pour_container.was)

pub shape_of-dest : goal.shape_of-dest
shape_of-dest c = ranking-long (wanted (reading c.args.other.now) c.args.wanted) c.args.src.now c.requires.well_formed c.args.dest.now c.loop-r.dest c.loop-r.r c.loop-r.invariant c.requires.well_formed_3

pub returns : goal.returns
returns c = rank-end (wanted (reading c.args.other.now) c.args.wanted) c.args.src.now c.requires.well_formed c.args.dest.now c.loop-r.dest c.loop-r.r c.loop-r.invariant c.k-k.result c.k-k.ensures c.loop-r-test.false
