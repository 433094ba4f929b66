-- The fresh image put together from the parts that the code writes, by the numbers of a `Geometry`. Assumes nothing.
use mathlib.Core.Path.{◌≡◌, refl, ap, ◌∙◌}
use mathlib.Core.List.{List, [], ◌∷◌, ◌++◌, append_assoc}
use Prim.Native.Nat.{ℕ, ◌+◌, ◌-◌, ◌*◌, ◌≤◌}
use native.Mathlib.Omega.{arith}
use lib.ListN.{length, drop, length-append, length-replicate}
use borrow.Rule.Slice.PartMut.{mid_of, mid_len}
use Rattle.lists.specs.Lists.{blocks}
use Rattle.lists.proofs.Blocks.{length-blocks}
use Rattle.lists.proofs.Each.{length-down_from}
use Rattle.region.specs.Geometry.{bitmap_words, strip_words, total}
use Rattle.region.specs.Fresh.{zeros, fresh_header, fresh_stack, free_record, free_node, fresh}
use Rattle.make.specs.declared.geometry.Geometry.{Geometry}
use Rattle.make.specs.Laid.{Laid}
use Rattle.make.specs.Parts.{container_areas, node_areas}

pub header_is : (g : Geometry) → Laid g
    → 1 ∷ g.p ∷ g.s ∷ g.c ∷ g.n ∷ 0 ∷ 0 ∷ 0 ∷ 16 ∷ g.ranks ∷ g.stack ∷ g.records ∷ g.entries ∷ g.node_stack ∷ g.nodes ∷ g.total ∷ [] ≡ fresh_header g.p g.s g.c g.n
header_is g l = cc

pub length-containers : (C : ℕ) → length (container_areas C) ≡ 1030 * C
length-containers C =
    simp (length-append, length-replicate, length-down_from, length-blocks free_record 4 (λ k. refl)) (omega arith)

pub length-nodes : (N : ℕ) → length (node_areas N) ≡ 265 * N
length-nodes N = simp (length-append, length-down_from, length-blocks free_node 264 (λ k. refl)) (omega arith)

regroup : (x a b c d e f : List ℕ) → x ++ (a ++ b ++ c ++ d) ++ (e ++ f) ≡ x ++ a ++ b ++ c ++ d ++ e ++ f
regroup x a b c d e f = simp append_assoc

together : (P S C N : ℕ) → fresh_header P S C N ++ zeros (bitmap_words P) ++ container_areas C ++ node_areas N ≡ fresh P S C N
unfolding fresh
together P S C N =
    regroup (fresh_header P S C N ++ zeros (bitmap_words P)) (zeros C) (fresh_stack C) (blocks free_record C) (zeros (strip_words * C)) (fresh_stack N) (blocks free_node N)

-- the four parts, and the words past the total
pub finished : (g : Geometry) (d : List ℕ) {m : List ℕ} → Laid g → m ≡ (fresh_header g.p g.s g.c g.n ++ zeros (bitmap_words g.p) ++ container_areas g.c ++ node_areas g.n) ++ drop g.total d
    → m ≡ fresh g.p g.s g.c g.n ++ drop (total g.p g.c g.n) d
finished g d l e =
    e
    ∙ ap (λ (r : List ℕ). r ++ drop g.total d) (together g.p g.s g.c g.n)
    ∙ ap (λ (k : ℕ). fresh g.p g.s g.c g.n ++ drop k d) l.whole

-- how the four parts lie in a slice that is long enough
pub record Lies (g : Geometry) (size : ℕ) : Type 0 where
  pub bitmap : 16 ≤ g.ranks
  pub containers : g.ranks + 1030 * g.c ≡ g.node_stack
  pub nodes : g.node_stack + 265 * g.n ≡ g.total
  pub fits : g.total ≤ size

pub laid-lies : (g : Geometry) {size : ℕ} → Laid g → g.total ≤ size → Lies g size
laid-lies g l h = record { bitmap = omega arith; containers = omega arith; nodes = omega arith; fits = h }

module _ {g : Geometry} {size : ℕ} (o : Lies g size) where
  pub header-fits : 16 ≤ size
  header-fits = omega arith

  pub ranks-fit : g.ranks ≤ size
  ranks-fit = omega arith

  pub ranks-nodes : g.ranks ≤ g.node_stack
  ranks-nodes = omega arith

  pub containers-long : (m : List ℕ) → length m ≡ size → length (mid_of g.ranks (g.node_stack - g.ranks) m) ≡ 1030 * g.c
  containers-long m e = mid_len g.ranks g.node_stack m (omega arith) ∙ omega arith

pub le-eq : {a b c : ℕ} → a ≤ b → c ≡ b → a ≤ c
le-eq h e = omega arith
