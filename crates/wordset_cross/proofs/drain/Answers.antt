-- A suffix is taken out, and what is left is poured out. Assumes nothing.
use Rattle.wordset_cross.proofs.Draining.{pour-asked, drained, drain-none}
use Rattle.wordset_cross.proofs.drain.Goals as goal

pub remove-requires : goal.remove-requires
remove-requires c =
    record {
      arena = c.requires.arena;
      root = c.requires.root;
      suffix_bound = c.requires.s_bound;
    }

pub pour-requires : goal.pour-requires
pour-requires c =
    let a = c.args in
    record {
      arena = (pour-asked a.shape.slots a.shape.b a.used a.root a.s a.arena.now c.remove.new.arena a.out.now c.requires.root_len c.remove.result c.remove.ensures c.in-Gone.is).0;
      root = (pour-asked a.shape.slots a.shape.b a.used a.root a.s a.arena.now c.remove.new.arena a.out.now c.requires.root_len c.remove.result c.remove.ensures c.in-Gone.is).1.0;
      root_in_bounds = (pour-asked a.shape.slots a.shape.b a.used a.root a.s a.arena.now c.remove.new.arena a.out.now c.requires.root_len c.remove.result c.remove.ensures c.in-Gone.is).1.1;
    }

pub returns-in-Gone : goal.returns-in-Gone
returns-in-Gone c =
    let a = c.args in
    drained a.shape.slots a.shape.b a.used a.root a.s a.arena.now c.remove.new.arena a.out.now c.requires.root_len c.remove.result c.remove.ensures c.in-Gone.is
    c.pour.result c.pour.new.arena c.pour.new.out c.pour.ensures.written c.pour.ensures.vanished

pub returns-in-Last : goal.returns-in-Last
returns-in-Last c =
    let a = c.args in
    drain-none a.shape.slots a.shape.b a.used a.root a.s a.arena.now c.remove.new.arena a.out.now c.requires.root_len c.remove.result c.remove.ensures c.requires.in_bounds c.in-Last.is
