-- What the checks of a call give to what it calls. Assumes nothing.
use Rattle.std.proofs.Common.{◌≡◌, ℕ, ◌+◌, ◌-◌, ◌*◌, ◌^◌, ◌<◌, ◌≤◌, Bool, true, ltb, List, length, get_or, drop, replicate, sym, ◌∙◌, subst, arith, get_or-drop, get_or-take, ltb-true}
use lib.ListN.{length-replicate, get_or-replicate}
use borrow.Rule.Slice.PartMut.{mid_of, mid_len}
use Rattle.lists.specs.Lists.{all, sorted}
use Rattle.lists.proofs.Laws.{mem-sorted, distinct-sorted, length-within, same-within}
use Rattle.region.specs.Nodes.{Nodes}
use Rattle.region.specs.Tries.{members}
use Rattle.arena.specs.Arena.{nodes_in, Root, Planted}
use Rattle.strip.proofs.BoundLaws.{all-places}
use Rattle.leaves.specs.Checked.{Narrow}

pub all-narrow : (b e : ℕ) (ss : List ℕ) (r : Bool) → e ≡ 2 ^ (8 * b) → r ≡ all (λ x. ltb x e) ss → r ≡ true → Narrow b ss
all-narrow b e ss r h a t i l = subst (λ (q : ℕ). get_or ss i 0 < q) h (ltb-true (get_or ss i 0) e (all-places (λ x. ltb x e) ss (sym a ∙ t) i l))

-- an entry of a part is one of the whole
part_at : (a e i : ℕ) (xs : List ℕ) → e ≤ length xs → i < length (mid_of a (e - a) xs) → get_or (mid_of a (e - a) xs) i 0 ≡ get_or xs (a + i) 0
part_at a e i xs h l = get_or-take (e - a) (drop a xs) i 0 (subst (λ (q : ℕ). i < q) (mid_len a e xs h) l) ∙ get_or-drop a xs i 0

pub part-long : {X : Type 0} (a n : ℕ) (xs : List X) → a + n ≤ length xs → length (mid_of a (a + n - a) xs) ≡ n
part-long a n xs h = let z : a + n - a ≡ n = omega arith in mid_len a (a + n) xs h ∙ z

pub part-narrow : (b a e : ℕ) (ss : List ℕ) → Narrow b ss → e ≤ length ss → Narrow b (mid_of a (e - a) ss)
part-narrow b a e ss n h i l =
    let z : i < e - a = subst (λ (q : ℕ). i < q) (mid_len a e ss h) l in
    subst (λ (q : ℕ). q < 2 ^ (8 * b)) (sym (part_at a e i ss h l)) (n (a + i) (omega arith))

pub part-roots : (v : Nodes) (N n e : ℕ) → Root v N n → e ≤ 64 → (i : ℕ) → i < length (mid_of 0 (e - 0) (replicate 64 n)) → Root v N (get_or (mid_of 0 (e - 0) (replicate 64 n)) i 0)
part-roots v N n e r h i l =
    let long : length (replicate 64 n) ≡ 64 = length-replicate 64 n in
    let z : i < e - 0 = subst (λ (q : ℕ). i < q) (mid_len 0 e (replicate 64 n) (omega arith)) l in
    let at : 0 + i < 64 = omega arith in
    subst (Root v N) (sym (part_at 0 e i (replicate 64 n) (omega arith) l ∙ get_or-replicate 64 (0 + i) n 0 at)) r

pub roots-long : (n e : ℕ) → e ≤ 64 → length (mid_of 0 (e - 0) (replicate 64 n)) ≡ e
roots-long n e h =
    let long : length (replicate 64 n) ≡ 64 = length-replicate 64 n in
    let z : e - 0 ≡ e = omega arith in
    mid_len 0 e (replicate 64 n) (omega arith) ∙ z

-- no more members than entries
pub members-fit : (N b used c : ℕ) (ss l l' : List ℕ) (n left room : ℕ) → Planted N b used l c n (sorted ss) left l' → length ss ≤ room → length (members (nodes_in N l') b n) ≤ room
members-fit N b used c ss l l' n left room p h =
    let few = length-within (sorted ss) ss (distinct-sorted ss) (same-within (sorted ss) ss (λ x. mem-sorted x ss)) in
    subst (λ (ms : List ℕ). length ms ≤ room) (sym p.suffixes) (omega arith)
