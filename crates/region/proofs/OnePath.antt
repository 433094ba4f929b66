-- The document's sentence on nodes, "every used node is reached from one root by one path", is equal to the local conditions of specs/Linked. Assumes nothing.
use Prim.Native.Nat.{ℕ, zero, suc, ◌*◌, ◌^◌, ◌<◌, ◌≤◌}
use mathlib.Core.Path.{◌≡◌, refl, sym, ap, ap₂, ◌∙◌, subst}
use mathlib.Core.Logic.{◌≢◌}
use native.Mathlib.Omega.{arith}
use Rattle.model.specs.Words.{bytes_of}
use Rattle.region.specs.Areas.{Numbers}
use Rattle.region.specs.Tries.{byte_of, follow, Path}
use Rattle.region.specs.Seen.{Seen}
use Rattle.region.specs.WellFormed.{Children, Child, Trie, Held, Reached, OnePath, Hung}
use Rattle.region.specs.Linked.{Above, Rooted, Linked}
use Rattle.region.proofs.Bytes.{byte-lt, bytes-inj}
use Rattle.region.proofs.Paths.{At, reach, last, meet, Led, led}

module _ (g : Numbers) (v : Seen) (hd : Held g v) where
  pub root-at : (c : ℕ) → c < g.C → v.kind c ≡ 2 → At v.node g.N 0 (v.link c)
  root-at c h e = let t : Trie g v c = hd.trie c h e in record { in-range = t.root-in-range; level = t.root-level }

  -- where children link back, there is no second path to a node
  module _ (down : Children v.node g.N (bytes_of g.S)) where
    pub at-end : (n : ℕ) (r : Reached g v n) → At v.node g.N r.len n
    at-end n r = subst (At v.node g.N r.len) r.there
        (reach v.node g.N (bytes_of g.S) down (v.link r.slot) (byte_of r.len r.string) (root-at r.slot r.in-range r.is-trie) (byte-lt r.len r.string) r.len r.short r.path)

    same_len : (n : ℕ) (r s : Reached g v n) → r.len ≡ s.len
    same_len n r s = omega (arith, (at-end n r).level, (at-end n s).level)

    module _ (n : ℕ) (r s : Reached g v n) where
      met : (v.link r.slot ≡ v.link s.slot) × ((i : ℕ) → i < r.len → byte_of r.len r.string i ≡ byte_of r.len s.string i)
      met =
          let p : Path v.node (v.link s.slot) (byte_of r.len s.string) r.len = subst (λ (k : ℕ). Path v.node (v.link s.slot) (byte_of k s.string) k) (same_len n s r) s.path in
          let t : follow v.node (v.link s.slot) (byte_of r.len s.string) r.len ≡ n = subst (λ (k : ℕ). follow v.node (v.link s.slot) (byte_of k s.string) k ≡ n) (same_len n s r) s.there in
          meet v.node g.N (bytes_of g.S) down (v.link r.slot) (v.link s.slot) (byte_of r.len r.string) (byte_of r.len s.string)
          (root-at r.slot r.in-range r.is-trie) (root-at s.slot s.in-range s.is-trie) (byte-lt r.len r.string) (byte-lt r.len s.string) r.len r.short r.path p (r.there ∙ sym t)

      same-slot : r.slot ≡ s.slot
      same-slot = sym (hd.trie r.slot r.in-range r.is-trie).root-back ∙ ap v.node.parent met.0 ∙ (hd.trie s.slot s.in-range s.is-trie).root-back

      same-string : r.string ≡ s.string
      same-string = bytes-inj r.len r.string s.string r.small (subst (λ (k : ℕ). s.string < 2 ^ (8 * k)) (same_len n s r) s.small) met.1

  -- from the local conditions
  module _ (li : Linked g v) where
    reached : (k n : ℕ) → n < g.N → v.node.level1 n ≡ suc k → Reached g v n
    reached k n h e =
        let d : Led v.node g.N k n = led v.node g.N li.wf.up k n (record { in-range = h; level = e }) in
        let r : Rooted g v d.root = li.rooted d.root d.is-root.in-range d.is-root.level in
        record {
          slot = v.node.parent d.root;
          in-range = r.in-range;
          is-trie = r.is-trie;
          len = k;
          short = omega (arith, li.wf.levels n h);
          string = d.lead;
          small = d.small;
          path = subst (λ (z : ℕ). Path v.node z (byte_of k d.lead) k) (sym r.is-root) d.path;
          there = subst (λ (z : ℕ). follow v.node z (byte_of k d.lead) k ≡ n) (sym r.is-root) d.there;
        }

    one-path : (n : ℕ) → n < g.N → v.node.level1 n ≢ 0 → OnePath g v n
    one-path n h ne = pick (v.node.level1 n) refl
      where
        pick : (e : ℕ) → v.node.level1 n ≡ e → OnePath g v n
        pick zero e = absurd (ne e)
        pick (suc k) e =
            let w : Reached g v n = reached k n h e in
            record { way = w; slot = λ r. same-slot li.wf.down n r w; len = λ r. same_len li.wf.down n r w; string = λ r. same-string li.wf.down n r w }

  -- and back
  module _ (hu : Hung g v) where
    level-is : (n : ℕ) (r : Reached g v n) → v.node.level1 n ≡ suc r.len
    level-is n r = (at-end hu.children n r).level

    is-rooted : (n : ℕ) → n < g.N → v.node.level1 n ≡ 1 → Rooted g v n
    is-rooted n h e =
        let r : Reached g v n = (hu.reached n h (omega arith)).way in
        let z : r.len ≡ 0 = omega (arith, level-is n r) in
        let en : v.link r.slot ≡ n = subst (λ (k : ℕ). follow v.node (v.link r.slot) (byte_of k r.string) k ≡ n) z r.there in
        let ep : v.node.parent n ≡ r.slot = ap v.node.parent (sym en) ∙ (hd.trie r.slot r.in-range r.is-trie).root-back in
        record { in-range = omega (arith, r.in-range); is-trie = ap v.kind ep ∙ r.is-trie; is-root = ap v.link ep ∙ en }

    is-above : (l n : ℕ) → n < g.N → v.node.level1 n ≡ suc (suc l) → Above v.node g.N l n
    is-above l n h e =
        let r : Reached g v n = (hu.reached n h (omega arith)).way in
        let z : r.len ≡ suc l = omega (arith, level-is n r) in
        let m : ℕ = v.link r.slot in
        let f : ℕ → ℕ = byte_of (suc l) r.string in
        let p : Path v.node m f (suc l) = subst (λ (k : ℕ). Path v.node m (byte_of k r.string) k) z r.path in
        let w : follow v.node m f (suc l) ≡ n = subst (λ (k : ℕ). follow v.node m (byte_of k r.string) k ≡ n) z r.there in
        let rt : At v.node g.N 0 m = root-at r.slot r.in-range r.is-trie in
        let hl : suc l < bytes_of g.S = omega (arith, r.short) in
        let hf : (i : ℕ) → f i < 256 = byte-lt (suc l) r.string in
        let a : At v.node g.N l (follow v.node m f l) = reach v.node g.N (bytes_of g.S) hu.children m f rt hf l (omega arith) (λ i q. p i (omega arith)) in
        let d : Child v.node g.N l (follow v.node m f l) (f l) (follow v.node m f (suc l)) = last v.node g.N (bytes_of g.S) hu.children m f rt hf l hl p in
        let ep : v.node.parent n ≡ follow v.node m f l = ap v.node.parent (sym w) ∙ d.parent in
        let eb : v.node.byte n ≡ f l = ap v.node.byte (sym w) ∙ d.byte in
        record {
          in-range = omega (arith, a.in-range);
          level = ap v.node.level1 ep ∙ a.level;
          byte = omega (arith, hf l);
          is_set = ap₂ v.node.bit ep eb ∙ p l (omega arith);
          is-child = ap₂ v.node.child ep eb ∙ w;
        }

    levels-fit : (n : ℕ) → n < g.N → v.node.level1 n ≤ bytes_of g.S
    levels-fit n h = pick (v.node.level1 n) refl
      where
        pick : (e : ℕ) → v.node.level1 n ≡ e → v.node.level1 n ≤ bytes_of g.S
        pick zero e = omega arith
        pick (suc k) e = let r : Reached g v n = (hu.reached n h (omega arith)).way in omega (arith, level-is n r, r.short)

pub hung-of : (g : Numbers) (v : Seen) → Held g v → Linked g v → Hung g v
hung-of g v hd li = record { reached = one-path g v hd li; non-empty = li.non-empty; children = li.wf.down }

pub linked_of : (g : Numbers) (v : Seen) → Held g v → Hung g v → Linked g v
linked_of g v hd hu = record { wf = record { levels = levels-fit g v hd hu; down = hu.children; up = is-above g v hd hu }; non-empty = hu.non-empty; rooted = is-rooted g v hd hu }
