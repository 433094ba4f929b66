-- Suffixes that ascend are distinct, and the last one bounds them; of others both are asked. Assumes nothing.
use mathlib.Core.Path.{◌≡◌, sym, ap, ◌∙◌}
use mathlib.Core.Bool.{false≢true}
use Prim.Native.Nat.{ℕ, ◌^◌}
use native.Mathlib.Omega.{arith}
use lib.Dec.{ltb}
use Rattle.lists.specs.Lists.{all}
use Rattle.lists.proofs.Answers.{told}
use Rattle.lists.proofs.Laws.{ascending-distinct}
use Rattle.inspect_vectors.proofs.Strips.{one_up}
use Rattle.inspect_vectors.proofs.suffixes_ok.Goals as goal

pub last_below-requires : goal.last_below-requires
last_below-requires c = c.rising.ensures.yes c.if-rising.true

pub returns-then-rising : goal.returns-then-rising
returns-then-rising c =
    let up = c.rising.ensures.yes c.if-rising.true in
    let is = c.last_below.ensures ∙ ap (λ (b : ℕ). all (λ x. ltb x b) c.args.suffixes.now) (one_up c.args.bits (omega (arith, c.requires))) in
    record {
      yes = (λ e. (sym is ∙ e, ascending-distinct c.args.suffixes.now up));
      no = (λ e t. false≢true (sym e ∙ is ∙ t.0));
    }

pub returns-then-below : goal.returns-then-below
returns-then-below c =
    let bound-is : c.below.result ≡ all (λ x. ltb x (2 ^ c.args.bits)) c.args.suffixes.now =
    c.below.ensures ∙ ap (λ (b : ℕ). all (λ x. ltb x b) c.args.suffixes.now) (one_up c.args.bits (omega (arith, c.requires))) in
    record {
      yes = (told _ (c.distinct.ensures.yes, c.distinct.ensures.no) (λ d. (sym bound-is ∙ c.if-below.true, d)) (λ t. t.1)).0;
      no = (told _ (c.distinct.ensures.yes, c.distinct.ensures.no) (λ d. (sym bound-is ∙ c.if-below.true, d)) (λ t. t.1)).1;
    }

pub returns-else-below : goal.returns-else-below
returns-else-below c =
    let bound-is : c.below.result ≡ all (λ x. ltb x (2 ^ c.args.bits)) c.args.suffixes.now =
    c.below.ensures ∙ ap (λ (b : ℕ). all (λ x. ltb x b) c.args.suffixes.now) (one_up c.args.bits (omega (arith, c.requires))) in
    record {
      yes = λ e. absurd (false≢true (sym c.if-below.false ∙ e));
      no = λ _ t. false≢true (sym c.if-below.false ∙ bound-is ∙ t.0);
    }
