-- The first place in the first block that hits, or in the rest. Assumes nothing.
use Rattle.std.proofs.Common.{◌≡◌, ◌/◌, Option, None, ℕ, List, [], length, get_or, sym, ap, ◌∙◌, subst, true≢false, arith, rules}
use Rattle.std.proofs.lemmas.List.Quantifiers.{position-Some}
use Rattle.lists.specs.Lists.{mem}
use Rattle.strip.specs.Entries.{First, Finds}
use Rattle.strip.proofs.FindLaws.{found-block, found-rest, missing-rest}
use Rattle.strip.proofs.search.find.Goals as goal

pub returns-in_err-place-in-Some : goal.returns-in_err-place-in-Some
returns-in_err-place-in-Some c =
    let block = get_or c.as_chunks.result.0.now c.in-Some.k [] in
    let told = subst (λ (r : Option ℕ). Finds block c.args.s r) c.in_err-place-in-Some.was c.place.ensures in
    absurd (true≢false (sym (position-Some (mem c.args.s) c.as_chunks.result.0.now c.in-Some.k [] (sym c.in-Some.ensures)).1 ∙ told))

pub returns-in_ok-place-in-Some : goal.returns-in_ok-place-in-Some
returns-in_ok-place-in-Some c =
    let a = c.args in
    let bs = c.as_chunks in
    let i = c.in_ok-place-in-Some.field-0 in
    let told = subst (λ (r : Option ℕ). Finds (get_or bs.result.0.now c.in-Some.k []) a.s r) c.in_ok-place-in-Some.was c.place.ensures in
    found-block a.entries.now a.s (length a.entries.now / 8) i bs.result.0.now bs.ensures.front bs.ensures.front_len (omega arith) c.in-Some.k (sym c.in-Some.ensures) told

pub returns-in_err-place-in-None : goal.returns-in_err-place-in-None
returns-in_err-place-in-None c =
    let a = c.args in
    let bs = c.as_chunks in
    let none : c.from_residual-in_err-place-in-None.result ≡ None = search rules in
    let told = subst (λ (r : Option ℕ). Finds bs.result.1.now a.s r) c.in_err-place-in-None.was c.place-in-None.ensures in
    subst (Finds a.entries.now a.s) (sym none)
    (missing-rest a.entries.now a.s (length a.entries.now / 8) 0 bs.result.0.now bs.ensures.front bs.ensures.front_len (omega arith) (sym c.in-None.ensures) (ap (mem a.s) (sym bs.ensures.back) ∙ told))

pub returns-in_ok-place-in-None : goal.returns-in_ok-place-in-None
returns-in_ok-place-in-None c =
    let a = c.args in
    let bs = c.as_chunks in
    let i = c.in_ok-place-in-None.field-0 in
    let told = subst (λ (r : Option ℕ). Finds bs.result.1.now a.s r) c.in_ok-place-in-None.was c.place-in-None.ensures in
    found-rest a.entries.now a.s (length a.entries.now / 8) i bs.result.0.now bs.ensures.front bs.ensures.front_len (omega arith) (sym c.in-None.ensures)
    (subst (λ (ys : List ℕ). First ys a.s i) bs.ensures.back told)
