-- Container free stack and records lie side by side, and are given back as one part. Assumes nothing.
use Rattle.std.proofs.Common.{◌≡◌, ℕ, ◌+◌, ◌-◌, ◌*◌, ◌≤◌, List, ◌++◌, length, take, drop, sym, ap, ◌∙◌, subst, arith, length-append, length-drop, length-take-le, drop-drop, take_at, take-add, drop_at}
use borrow.Rule.Slice.PartMut.{put_mid}
use Rattle.region.specs.Geometry.{bitmap_words, record_words, strip_words, node_words, off_bitmap, off_ranks, off_stack, off_entries, off_node_stack, off_nodes, total}
use Rattle.region.specs.Areas.{Numbers, area, stack, records}
use Rattle.lens.specs.Parts.{Parts, parts_of, with_stack, with_records}
use Rattle.lens.specs.Holding.{Holding}
use Rattle.lens.proofs.Only.{Only, put_only, area-put, area-length, area-below, area-above, past}
use Rattle.lens.proofs.Header.{numbers-behind, ready-behind}

-- a part that came back is as long as it was lent
pub put-length : (a k : ℕ) (l new : List ℕ) → a + k ≤ length l → length (put_mid a k l new) ≡ length l → length new ≡ k
put-length a k l new fits e =
    let front : length (take a l) ≡ a = length-take-le a l (omega arith) in
    let back : length (drop k (drop a l)) ≡ length l - a - k = length-drop k (drop a l) ∙ ap (λ (z : ℕ). z - k) (length-drop a l) in
    let whole : length (put_mid a k l new) ≡ a + (length new + (length l - a - k)) = length-append (take a l) (new ++ drop k (drop a l)) ∙ ap (λ (z : ℕ). z + length (new ++ drop k (drop a l))) front ∙ ap (λ (z : ℕ). a + z) (length-append new (drop k (drop a l)) ∙ ap (λ (z : ℕ). length new + z) back) in
    omega arith

-- both as one part
both-are : (g : Numbers) (l : List ℕ) → area (off_stack g.P g.C) (g.C + record_words * g.C) l ≡ stack g l ++ records g l
unfolding area
both-are g l =
    take-add g.C (record_words * g.C) (drop (off_stack g.P g.C) l)
    ∙ ap (λ (z : List ℕ). stack g l ++ take (record_words * g.C) z) (drop-drop g.C (off_stack g.P g.C) l)

module _ (g : Numbers) (l st rec : List ℕ) (fits : total g.P g.C g.N ≤ length l) (ls : length st ≡ g.C) (lr : length rec ≡ record_words * g.C) where
  abbrev o : ℕ
  o = off_stack g.P g.C

  abbrev k : ℕ
  k = g.C + record_words * g.C

  abbrev m : List ℕ
  m = put_mid o k l (st ++ rec)

  long : length (st ++ rec) ≡ k
  long = length-append st rec ∙ omega arith

  only : Only o k l m
  only = put_only o k l (st ++ rec) (omega arith) long

  both : stack g m ++ records g m ≡ st ++ rec
  both = sym (both-are g m) ∙ area-put o k l (st ++ rec) (omega arith) long

  stack-long : length (stack g m) ≡ g.C
  stack-long = area-length o g.C m (omega (arith, only.same_length))

  stack_is : stack g m ≡ st
  stack_is = sym (take_at (stack g m) (records g m) g.C stack-long) ∙ ap (take g.C) both ∙ take_at st rec g.C ls

  records-are : records g m ≡ rec
  records-are = sym (drop_at (stack g m) (records g m) g.C stack-long) ∙ ap (drop g.C) both ∙ drop_at st rec g.C ls

  put-slots : parts_of g m ≡ with_records rec (with_stack st (parts_of g l))
  put-slots = λ i. record {
    bitmap = area-below only off_bitmap (bitmap_words g.P) (omega arith) i;
    ranks = area-below only (off_ranks g.P) g.C (omega arith) i;
    stack = stack_is i;
    records = records-are i;
    entries = area-above only (off_entries g.P g.C) (strip_words * g.C) (omega arith) i;
    node_stack = area-above only (off_node_stack g.P g.C) g.N (omega arith) i;
    nodes = area-above only (off_nodes g.P g.C g.N) (node_words * g.N) (omega arith) i;
  }

module _ {g : Numbers} {x : Parts} {l₀ l : List ℕ} (h : Holding g x l₀ l) where
  -- the region holds its areas
  pub holds : total g.P g.C g.N ≤ length l
  holds = subst (λ (n : Numbers). total n.P n.C n.N ≤ length l) h.numbers-are h.ready.long

  given-slots : (st rec : List ℕ) → length st ≡ g.C → length rec ≡ record_words * g.C
      → Holding g (with_records rec (with_stack st x)) l₀ (put_mid (off_stack g.P g.C) (g.C + record_words * g.C) l (st ++ rec))
  given-slots st rec ls lr =
      let c = only g l st rec holds ls lr in
      record {
        ready = ready-behind c (omega arith) h.ready;
        numbers-are = numbers-behind c (omega arith) ∙ h.numbers-are;
        parts_are = put-slots g l st rec holds ls lr ∙ ap (λ (z : Parts). with_records rec (with_stack st z)) h.parts_are;
        same_length = c.same_length ∙ h.same_length;
        same_rest = past c (total g.P g.C g.N) (omega arith) ∙ h.same_rest;
      }

  -- from word a to before word b
  pub give-slots : (a b : ℕ) (new st rec : List ℕ) → a ≡ off_stack g.P g.C → b ≡ off_entries g.P g.C → new ≡ st ++ rec → length st ≡ g.C → length rec ≡ record_words * g.C
      → Holding g (with_records rec (with_stack st x)) l₀ (put_mid a (b - a) l new)
  give-slots a b new st rec ea eb e ls lr =
      let len : b - a ≡ g.C + record_words * g.C = omega arith in
      subst (λ (z : List ℕ). Holding g (with_records rec (with_stack st x)) l₀ (put_mid a (b - a) l z)) (sym e)
      (subst (λ (z : ℕ). Holding g (with_records rec (with_stack st x)) l₀ (put_mid a z l (st ++ rec))) (sym len)
      (subst (λ (z : ℕ). Holding g (with_records rec (with_stack st x)) l₀ (put_mid z (g.C + record_words * g.C) l (st ++ rec))) (sym ea) (given-slots st rec ls lr)))
