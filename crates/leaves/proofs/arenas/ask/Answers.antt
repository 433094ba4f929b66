-- A part of the suffixes is as narrow as all of them, and every root is the same one. Assumes nothing.
use Rattle.std.proofs.Common.{◌+◌, ◌≤◌, length, sym, refl, ◌∙◌, arith, rules}
use Rattle.arena.specs.Arena.{nodes_in}
use Rattle.leaves.proofs.Checking.{part-long, roots-long, part-roots, part-narrow}
use Rattle.leaves.proofs.arenas.ask.Goals as goal

pub loop-i-init : goal.loop-i-init
loop-i-init c = (search rules, refl)

pub contains_each-requires : goal.contains_each-requires
contains_each-requires c =
    let a = c.args in
    let i = c.loop-i.i in
    let n = c.min-n.result in
    let few : n ≤ 64 = omega (arith, c.min-n.ensures) in
    let room : i + n ≤ length a.suffixes.now = search rules in
    let asked = part-long i n a.suffixes.now room in
    let answered = part-long i n c.loop-i.answers (omega (arith, c.loop-i.invariant.1, c.requires.answers_len)) in
    let rooted = roots-long a.root n few in
    record {
      tries = c.requires.kept.arena.tries;
      suffixes_len_bound = omega arith;
      roots_len = rooted ∙ sym asked;
      suffixes_in_bounds = omega arith;
      by_index = λ j l _. part-roots (nodes_in a.shape.slots a.arena.now) a.shape.slots a.root n c.requires.kept.root few j l;
      by_index_2 = part-narrow a.shape.b i (i + n) a.suffixes.now c.requires.narrow room;
    }
