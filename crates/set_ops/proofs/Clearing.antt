-- A cleared region is the fresh image of its own numbers. Assumes nothing.
use Rattle.std.proofs.Common.{◌≡◌, ℕ, ◌≤◌, List, ◌++◌, length, drop, sym, ap, ◌∙◌, subst}
use Rattle.region.specs.Geometry.{total}
use Rattle.region.specs.Areas.{numbers}
use Rattle.region.specs.Fresh.{fresh}
use Rattle.region.specs.Read.{read, reading}
use Rattle.region.specs.WellFormed.{WellFormed}
use Rattle.promises.specs.Combine.{fresh_again}
use Rattle.make.specs.declared.geometry.Geometry.{Geometry}
use Rattle.make.specs.Laid.{Laid, GeometryOf}

module _ (l : List ℕ) (wf : WellFormed l) where
  -- what writing the fresh image asks
  pub clear-ready : (g : Geometry) → GeometryOf (numbers l).P (numbers l).S (numbers l).C (numbers l).N g → Laid g × (g.total ≤ length l)
  clear-ready g o = (o.laid, subst (λ (z : ℕ). z ≤ length l) (sym (o.laid.whole ∙ ap (λ (P : ℕ). total P g.c g.n) o.p ∙ ap (λ (C : ℕ). total (numbers l).P C g.n) o.c ∙ ap (λ (N : ℕ). total (numbers l).P (numbers l).C N) o.n)) wf.ready.long)

  -- what it leaves
  pub cleared : (g : Geometry) → GeometryOf (numbers l).P (numbers l).S (numbers l).C (numbers l).N g → (n : List ℕ)
      → n ≡ fresh g.p g.s g.c g.n ++ drop (total g.p g.c g.n) l → n ≡ fresh_again (reading l) l
  unfolding reading read
  cleared g o n e =
      e ∙ ap (λ (P : ℕ). fresh P g.s g.c g.n ++ drop (total P g.c g.n) l) o.p
      ∙ ap (λ (S : ℕ). fresh (numbers l).P S g.c g.n ++ drop (total (numbers l).P g.c g.n) l) o.s
      ∙ ap (λ (C : ℕ). fresh (numbers l).P (numbers l).S C g.n ++ drop (total (numbers l).P C g.n) l) o.c
      ∙ ap (λ (N : ℕ). fresh (numbers l).P (numbers l).S (numbers l).C N ++ drop (total (numbers l).P (numbers l).C N) l) o.n
