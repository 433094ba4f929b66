-- The members of a trie taken out from the least on: each but the last is gone, and with the last the trie. Assumes nothing.
use Prim.Native.Nat.{ℕ, suc, ◌+◌, ◌-◌, ◌/◌, ◌^◌, ◌≤◌, ◌<◌}
use mathlib.Core.Path.{◌≡◌, refl, sym, ap, ◌∙◌, subst}
use mathlib.Core.Bool.{true, false}
use mathlib.Core.List.{List, [], ◌∷◌, ◌++◌}
use native.Mathlib.Omega.{arith}
use native.Mathlib.Numerals.{add-one}
use lib.Dec.{eqb}
use lib.ListN.{length, take, drop, get_or, length-append, length-drop}
use lib.Seq.{drop-cons, take_all, take_at}
use Rattle.lists.specs.Lists.{mem, without, Ascending}
use Rattle.lists.proofs.Laws.{or_left, or-none, eqb-self, mem-some, over-not-mem, source}
use Rattle.model.specs.Room.{trie_nodes}
use Rattle.region.specs.Nodes.{Nodes}
use Rattle.region.specs.Tries.{members}
use Rattle.region.proofs.Listing.{members-ascend}
use Rattle.region.proofs.Leading.{heads, path-heads}
use Rattle.arena.specs.Arena.{nodes_in, Root, Arena, Became, Vanished}
use Rattle.arena.proofs.Stays.{root-at, others-trans}
use Rattle.trie_walk.specs.Pour.{window}
use Rattle.arena.proofs.Becoming.{became-same, became-then}

-- a trie has a member
pub has_some : (N b used : ℕ) (l : List ℕ) (n : ℕ) → Arena N b used l → Root (nodes_in N l) N n → 1 ≤ length (members (nodes_in N l) b n)
has_some N b used l n a rt =
    let v : Nodes = nodes_in N l in
    let h : mem 0 (heads v b n 0) ≡ true = path-heads v N b a.tries.wf.down a.tries.non-empty n (root-at rt) 0 0 (omega arith) (omega arith) (λ i z. absurd (omega arith)) in
    let s = source (λ s. s / 256 ^ (b - 0)) 0 (members v b n) h in
    mem-some s.from (members v b n) s.there

vanished-then : (N b used : ℕ) (l : List ℕ) (n : ℕ) (ss : List ℕ) (u₁ : ℕ) (l₁ : List ℕ) (u₂ : ℕ) (l₂ : List ℕ) → Became N b used l n ss u₁ l₁ → Vanished N b u₁ l₁ n u₂ l₂ → Vanished N b used l n u₂ l₂
vanished-then N b used l n ss u₁ l₁ u₂ l₂ p q = record {
  arena = q.arena;
  free = q.free;
  others = others-trans p.others q.others;
  room = let e : trie_nodes b (members (nodes_in N l₁) b n) ≡ trie_nodes b ss = ap (trie_nodes b) p.suffixes in omega (arith, p.room, q.room);
}

without-none : (s : ℕ) (xs : List ℕ) → mem s xs ≡ false → without s xs ≡ xs
without-none s [] m = refl
without-none s (y ∷ ys) m = let z = or-none (eqb s y) (mem s ys) m in rw z.0 (ap (λ (r : List ℕ). y ∷ r) (without-none s ys z.1))

without-head : (s : ℕ) (xs : List ℕ) → mem s xs ≡ false → without s (s ∷ xs) ≡ xs
without-head s xs m = rw (eqb-self s) (without-none s xs m)

-- the only member gone, the trie is: none is left without a member
pub only_gone : (N b used n s : ℕ) (l : List ℕ) (u : ℕ) (l' : List ℕ) → Became N b used l n (without s (members (nodes_in N l) b n)) u l' → members (nodes_in N l) b n ≡ s ∷ [] → Vanished N b used l n u l'
only_gone N b used n s l u l' g q =
    let z : length (members (nodes_in N l') b n) ≡ 0 = ap length (g.suffixes ∙ ap (without s) q ∙ without-head s [] refl) in
    let o = has_some N b u l' n g.arena g.root in
    absurd (omega arith)

-- i members are out: the others are those of the output from i on
pub record Reaped (N b used : ℕ) (l₀ : List ℕ) (root : ℕ) (out : List ℕ) (i left : ℕ) (l : List ℕ) : Type 0 where
  pub inside : i < length out
  pub now : Became N b used l₀ root (drop i out) left l

pub reaped-from : (N b used : ℕ) (l : List ℕ) (root : ℕ) (out : List ℕ) (i : ℕ) → Arena N b used l → Root (nodes_in N l) N root → i < length out → members (nodes_in N l) b root ≡ drop i out → Reaped N b used l root out i used l
reaped-from N b used l root out i a rt hi e = record { inside = hi; now = became-same N b used l root (drop i out) a rt e }

pub reaped-none : (N b used : ℕ) (l : List ℕ) (root : ℕ) (out : List ℕ) → Arena N b used l → Root (nodes_in N l) N root → members (nodes_in N l) b root ≡ out → Reaped N b used l root out 0 used l
reaped-none N b used l root out a rt e =
    let s = has_some N b used l root a rt in
    let q : length (members (nodes_in N l) b root) ≡ length out = ap length e in
    reaped-from N b used l root out 0 a rt (omega arith) e

module _ {N b used : ℕ} {l₀ : List ℕ} {root : ℕ} {out : List ℕ} {i left : ℕ} {l : List ℕ} (g : Reaped N b used l₀ root out i left l) where
  abbrev have : List ℕ
  have = members (nodes_in N l) b root

  first : have ≡ get_or out i 0 ∷ drop (i + 1) out
  first =
      g.now.suffixes ∙ drop-cons out i 0 g.inside ∙ ap (λ (k : ℕ). get_or out i 0 ∷ drop k out) (sym (add-one i))

  later : mem (get_or out i 0) (drop (i + 1) out) ≡ false
  later = over-not-mem (get_or out i 0) (drop (i + 1) out) (subst Ascending first (members-ascend (nodes_in N l) b root)).0

  rest-length : length (drop (i + 1) out) ≡ length out - (i + 1)
  rest-length = length-drop (i + 1) out

  pub least : mem (get_or out i 0) have ≡ true
  least = rw first (or_left (eqb (get_or out i 0) (get_or out i 0)) (mem (get_or out i 0) (drop (i + 1) out)) (eqb-self (get_or out i 0)))

  pub not-only : i + 1 < length out → 2 ≤ length have
  not-only h = let e : length have ≡ suc (length (drop (i + 1) out)) = ap length first in let r = rest-length in omega arith

  pub last-left : length out ≤ i + 1 → have ≡ get_or out i 0 ∷ []
  last-left h = first ∙ ap (λ (r : List ℕ). get_or out i 0 ∷ r) (none (drop (i + 1) out) (let r = rest-length in omega arith))
    where
      none : (xs : List ℕ) → length xs ≡ 0 → xs ≡ []
      none [] e = refl
      none (x ∷ xs) e = absurd (omega arith)

  -- with the least taken out, the next are left
  pub rest : without (get_or out i 0) have ≡ drop (i + 1) out
  rest = ap (without (get_or out i 0)) first ∙ without-head (get_or out i 0) (drop (i + 1) out) later

  pub reaped-on : (k : ℕ) → k < length out → (u : ℕ) (l' : List ℕ) → Became N b left l root (drop k out) u l' → Reaped N b used l₀ root out k u l'
  reaped-on k h u l' a = record { inside = h; now = became-then N b used l₀ root (drop i out) left l (drop k out) u l' g.now a }

  pub reaped-more : i + 1 < length out → (u : ℕ) (l' : List ℕ) → Became N b left l root (without (get_or out i 0) have) u l' → Reaped N b used l₀ root out (i + 1) u l'
  reaped-more h u l' a = reaped-on (i + 1) h u l' (subst (λ (ss : List ℕ). Became N b left l root ss u l') rest a)

  pub reaped-all : (u : ℕ) (l' : List ℕ) → Vanished N b left l root u l' → Vanished N b used l₀ root u l'
  reaped-all u l' a = vanished-then N b used l₀ root (drop i out) left l u l' g.now a

-- the walk has written all members
module _ (ms out : List ℕ) (h : length ms ≤ length out) where
  all-out : window 0 (length out) ms ≡ ms
  all-out = take_all (length out) ms h

  module _ (o : List ℕ) (n : ℕ) (en : n ≡ length (window 0 (length out) ms)) (eo : o ≡ window 0 (length out) ms ++ drop (length (window 0 (length out) ms)) out) where
    pub number : n ≡ length ms
    number = en ∙ ap length all-out

    pub written : o ≡ ms ++ drop (length ms) out
    written = eo ∙ ap (λ (w : List ℕ). w ++ drop (length w) out) all-out

    pub in-front : ms ≡ take n o
    in-front = sym (ap (take n) written ∙ take_at ms (drop (length ms) out) n (sym number))

    pub long-enough : n ≤ length o
    long-enough = let e : length o ≡ length ms + length (drop (length ms) out) = ap length written ∙ length-append ms (drop (length ms) out) in let q = number in omega arith
