-- The four words of the map, stored behind each other. Assumes nothing.
use mathlib.Core.Path.{◌≡◌}
use native.Mathlib.Omega.{arith}
use lib.ListN.{length, drop}
use Rattle.region.specs.Nodes.{node_word}
use Rattle.trie_walk.proofs.Copies.{four-stores}
use Rattle.trie_walk.proofs.batch.copy.Goals as goal

pub returns : goal.returns
returns c =
    let a = c.args in
    let len : length a.maps.now ≡ 128 = c.requires.maps_len in
    four-stores a.maps.now a.i c.word.result c.word-2.result c.word-3.result c.word-4.result
    (node_word (drop a.slots a.arena.now) a.n) (omega arith)
    c.word.ensures c.word-2.ensures c.word-3.ensures c.word-4.ensures
