-- Suffixes put into a trie one after the other: one insert by its answer, and the run so far. Assumes nothing.
use Prim.Native.Nat.{ℕ, zero, suc, ◌+◌, ◌-◌, ◌≤◌, ◌<◌}
use mathlib.Core.Path.{◌≡◌, refl, sym, ap, ◌∙◌, subst}
use mathlib.Core.Bool.{Bool, true, false}
use mathlib.Core.List.{List, [], ◌∷◌}
use native.Mathlib.Omega.{arith}
use native.Mathlib.Numerals.{add-one}
use mir.Val.{bool_byte}
use lib.ListN.{length, take, get_or}
use Rattle.lists.specs.Lists.{mem, put}
use Rattle.lists.proofs.Laws.{put-there}
use Rattle.model.proofs.ContainerLaws.{put-member, length-put-new, length-put-old}
use Rattle.region.specs.Tries.{members}
use Rattle.region.proofs.Listing.{members-ascend}
use Rattle.arena.specs.Arena.{nodes_in, Root, Arena, Became}
use Rattle.arena.proofs.Becoming.{became-same, became-then}
use Rattle.trie.specs.Answers.{NoRoomFor, InsertedAs}
use Rattle.std.specs.Prelude.{Option, Some, None, IfSome, IsSome, is_some, unwrap_or, Ok, Err, if◌then◌else◌}
use Rattle.arena.specs.declared.NoRoom.{NoRoom}
use Rattle.trie_each.specs.declared.One.{One}
use Rattle.trie_each.specs.Each.{put_each, InsertedEach}
use Rattle.trie_each.specs.Taking.{Beside, NodeAbove, Told, Took, TookAs}
use Rattle.trie_each.proofs.Leading.{shared}

-- Lists

each-suc : (ms ss : List ℕ) (i : ℕ) → i < length ss → put_each ms (take (suc i) ss) ≡ put (get_or ss i 0) (put_each ms (take i ss))
each-suc ms [] i h = absurd (omega arith)
each-suc ms (s ∷ ss) zero h = refl
each-suc ms (s ∷ ss) (suc i) h = each-suc (put s ms) ss i (omega arith)

-- One insert

module _ {N b used root : ℕ} (s : ℕ) (l l' : List ℕ) (d : Option ℕ) (a : Arena N b used l) (rt : Root (nodes_in N l) N root) (i : InsertedAs N b used root s l (Ok d) l') where
  pub became-of : Became N b used l root (put s (members (nodes_in N l) b root)) (unwrap_or d used) l'
  became-of = by-answer d i
    where
      by-answer : (d : Option ℕ) → InsertedAs N b used root s l (Ok d) l' → Became N b used l root (put s (members (nodes_in N l) b root)) (unwrap_or d used) l'
      by-answer (Some u) i = i.1
      by-answer None i =
          subst (λ (k : List ℕ). Became N b used l root (put s (members (nodes_in N l) b root)) used k) (sym i.1) (became-same N b used l root (put s (members (nodes_in N l) b root)) a rt (sym (put-member s (members (nodes_in N l) b root) (members-ascend (nodes_in N l) b root) i.0)))

  grown-of : length (members (nodes_in N l) b root) + (if is_some d then 1 else 0) ≡ length (put s (members (nodes_in N l) b root))
  grown-of = by-answer d i
    where
      by-answer : (d : Option ℕ) → InsertedAs N b used root s l (Ok d) l' → length (members (nodes_in N l) b root) + (if is_some d then 1 else 0) ≡ length (put s (members (nodes_in N l) b root))
      by-answer (Some u) i = omega (arith, length-put-new s (members (nodes_in N l) b root) (members-ascend (nodes_in N l) b root) i.0)
      by-answer None i = omega (arith, length-put-old s (members (nodes_in N l) b root) (members-ascend (nodes_in N l) b root) i.0)

  pub member_of : mem s (members (nodes_in N l') b root) ≡ true
  member_of = ap (mem s) became-of.suffixes ∙ put-there s (members (nodes_in N l) b root)

  -- with the node above it
  pub took : (m : Option ℕ) (o : One) → Told used m d o → NodeAbove (nodes_in N l') root s b m → (2 ≤ b → IsSome m) → Took N b used root s l o l'
  took m o t w is = record {
    became = subst (λ (k : ℕ). Became N b used l root (put s (members (nodes_in N l) b root)) k l') (sym t.1) became-of;
    grown = rw t.0 grown-of;
    above = rw t.2 w;
    told = rw t.2 is;
  }

-- The run

-- the first i suffixes are members, `added` of them new, with `left` nodes in use; a node that is given is the one above the last of them
pub record Held (N b used root : ℕ) (ss l₀ l : List ℕ) (added left : ℕ) (above : Option ℕ) (i : ℕ) : Type 0 where
  pub in-range : i ≤ length ss
  pub became : Became N b used l₀ root (put_each (members (nodes_in N l₀) b root) (take i ss)) left l
  pub sum : length (members (nodes_in N l₀) b root) + added ≡ length (put_each (members (nodes_in N l₀) b root) (take i ss))
  pub few : added ≤ i
  pub last : NodeAbove (nodes_in N l) root (get_or ss (i - 1) 0) b above

pub begin : (N b used root : ℕ) (ss l : List ℕ) → Arena N b used l → Root (nodes_in N l) N root → Held N b used root ss l l 0 used None 0
begin N b used root ss l a rt = record {
  in-range = omega arith;
  became = became-same N b used l root (members (nodes_in N l) b root) a rt refl;
  sum = omega arith;
  few = omega arith;
  last = tt;
}

module _ (N b used root : ℕ) (ss l₀ l : List ℕ) (added left : ℕ) (above : Option ℕ) (i : ℕ) (g : Held N b used root ss l₀ l added left above i) where
  abbrev run : List ℕ
  run = put_each (members (nodes_in N l₀) b root) (take i ss)

  pub near : (m : Option ℕ) → IfSome m (λ n. (above ≡ Some n) × Beside ss i) → NodeAbove (nodes_in N l) root (get_or ss i 0) b m
  near None d = tt
  near (Some n) d =
      let w = subst (NodeAbove (nodes_in N l) root (get_or ss (i - 1) 0) b) d.0 g.last in
      (w.0, shared (nodes_in N l) root (get_or ss (i - 1) 0) (get_or ss i 0) b n w.0 (sym d.1.same) w.1)

  pub finish : length ss ≤ i → InsertedEach N b used root ss l₀ (record { done = i; added = added; used = left }) l
  finish h = record { in-range = g.in-range; became = g.became; added = g.sum; full = λ h'. absurd (omega arith) }

  pub refuse : {l' : List ℕ} → i < length ss → (e : NoRoom) → TookAs N b left root (get_or ss i 0) l (Err e) l' → InsertedEach N b used root ss l₀ (record { done = i; added = added; used = left }) l'
  refuse h e t = record {
    in-range = g.in-range;
    became = subst (λ (k : List ℕ). Became N b used l₀ root run left k) (sym t.1) g.became;
    added = g.sum;
    full = λ _. subst (NoRoomFor N b left (get_or ss i 0)) g.became.suffixes t.0;
  }

  module _ (o : One) (l' : List ℕ) (h : i < length ss) (t : Took N b left root (get_or ss i 0) l o l') where
    now-run : put (get_or ss i 0) (members (nodes_in N l) b root) ≡ put_each (members (nodes_in N l₀) b root) (take (suc i) ss)
    now-run = ap (put (get_or ss i 0)) g.became.suffixes ∙ sym (each-suc (members (nodes_in N l₀) b root) ss i h)

    as-byte : (b : Bool) → bool_byte b ≡ (if b then 1 else 0)
    as-byte true = refl
    as-byte false = refl

    one-more : (b : Bool) → (if b then 1 else 0) ≤ 1
    one-more true = omega arith
    one-more false = omega arith

    pub step : Held N b used root ss l₀ l' (added + bool_byte o.new) o.used o.above (i + 1)
    step =
        rw (as-byte o.new) (subst (Held N b used root ss l₀ l' (added + (if o.new then 1 else 0)) o.used o.above) (sym (add-one i)) record {
          in-range = h;
          became = subst (λ (ts : List ℕ). Became N b used l₀ root ts o.used l') now-run
              (became-then N b used l₀ root run left l (put (get_or ss i 0) (members (nodes_in N l) b root)) o.used l' g.became t.became);
          sum = omega (arith, g.sum, t.grown, ap length now-run, ap length g.became.suffixes);
          few = omega (arith, g.few, one-more o.new);
          last = let e : i ≡ suc i - 1 = omega arith in subst (λ (k : ℕ). NodeAbove (nodes_in N l') root (get_or ss k 0) b o.above) e t.above;
        })
