-- A geometry of the numbers P, S, C and N holds their offsets. Assumes nothing.
use Rattle.std.proofs.Common.{◌≡◌, ℕ, ◌+◌, ◌<◌, true, nat_eq, List, take, drop, get_or, ap, sym, ◌∙◌, arith}
use lib.Pointwise.{pointwise}
use Rattle.std.proofs.lemmas.List.{get_or-take, get_or-drop}
use Rattle.std.specs.Cmp.Lexicographic.{same_text}
use Rattle.region.specs.Geometry.{bitmap_words, off_ranks, off_stack, off_records, off_entries, off_node_stack, off_nodes, total}
use Rattle.make.specs.declared.geometry.Geometry.{Geometry}
use Rattle.make.specs.Laid.{GeometryOf}

module _ {P S C N : ℕ} {g : Geometry} (G : GeometryOf P S C N g) where
  pub ranks-is : g.ranks ≡ off_ranks P
  ranks-is = omega (arith, G.laid.ranks, ap bitmap_words G.p)

  pub stack_is : g.stack ≡ off_stack P C
  stack_is = omega (arith, G.laid.stack, ap bitmap_words G.p, G.c)

  pub records_is : g.records ≡ off_records P C
  records_is = omega (arith, G.laid.records, ap bitmap_words G.p, G.c)

  pub entries-is : g.entries ≡ off_entries P C
  entries-is = omega (arith, G.laid.entries, ap bitmap_words G.p, G.c)

  pub node-stack-is : g.node_stack ≡ off_node_stack P C
  node-stack-is = omega (arith, G.laid.node-stack, ap bitmap_words G.p, G.c)

  pub nodes-is : g.nodes ≡ off_nodes P C N
  nodes-is = omega (arith, G.laid.nodes, ap bitmap_words G.p, G.c, G.n)

  pub total-is : g.total ≡ total P C N
  total-is = omega (arith, G.laid.whole, ap bitmap_words G.p, G.c, G.n)

-- words 8 to 15 were compared with these, and are the same
pub word-is : (l these : List ℕ) → true ≡ pointwise nat_eq (take 8 (drop 8 l)) these → (i : ℕ) → i < 8 → get_or l (8 + i) 0 ≡ get_or these i 0
word-is l these e i h = sym (get_or-take 8 (drop 8 l) i 0 h ∙ get_or-drop 8 l i 0) ∙ ap (λ (xs : List ℕ). get_or xs i 0) (same_text (take 8 (drop 8 l)) these e)
