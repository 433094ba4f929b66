-- Node stack and nodes are the arena that the tries lie in. Assumes nothing.
use Prim.Native.Nat.{ℕ, ◌<◌}
use mathlib.Core.Path.{subst, ◌∙◌}
use lib.ListN.{get_or}
use Rattle.wordset_lookup.proofs.Looks.{tries-ready, root-ready, suffix-ready}
use Rattle.wordset_lookup.proofs.Meets.{asked}
use Rattle.wordset_lookup.proofs.each.ask.Goals as goal

pub contains_each-requires : goal.contains_each-requires
contains_each-requires c =
    let l = c.args.region.now in
    let wf = c.requires.well_formed in
    let n = c.shape-shape.result.slots in
    let b = c.shape-shape.result.b in
    let en = c.shape-shape.ensures.slots in
    let eb = c.shape-shape.ensures.levels in
    let t = (tries-ready l wf n b en eb).0 in
    record {
      tries = t;
      suffixes_len_bound = c.requires.suffixes_len_bound;
      roots_len = c.requires.roots_len;
      suffixes_in_bounds = c.requires.suffixes_in_bounds;
      by_index = (λ i h k. root-ready l wf n b en eb _ (c.requires.by_index i h (subst (λ (z : ℕ). get_or c.args.roots.now i 0 < z) en k)));
      by_index_2 = (λ i h. suffix-ready l wf n b en eb _ (c.requires.by_index_2 i h));
    }

pub returns : goal.returns
returns c =
    let l = c.args.region.now in
    record {
      each = (λ i h. c.contains_each.ensures.each i h ∙ asked l c.requires.well_formed c.shape-shape.result.slots c.shape-shape.result.b c.shape-shape.ensures.slots c.shape-shape.ensures.levels (get_or c.args.roots.now i 0) (get_or c.args.suffixes.now i 0) (get_or c.args.answers.now i 0));
      long = c.contains_each.ensures.long;
      later = c.contains_each.ensures.later;
    }
