-- An output that is filled with the words of a list from some number on, while the list grows at its end. Assumes nothing.
use Prim.Native.Nat.{ℕ, suc, ◌+◌, ◌-◌, ◌<◌, ◌≤◌}
use mathlib.Core.Path.{◌≡◌, sym, ap, ◌∙◌}
use mathlib.Core.List.{List, [], ◌∷◌, ◌++◌, append_assoc, append-nil}
use native.Mathlib.Omega.{arith}
use native.Mathlib.Decide.{dec_le}
use lib.ListN.{length, take, drop, set, length-append, length-take, length-drop, drop_of_length-le}
use lib.Seq.{take_all, take-nil, drop-nil, drop-append-le, drop-append-add, take-append-le, take-append-add, take_at, drop-drop, set_split}
use Rattle.promises.specs.Walk.{written_over}
use Rattle.trie_walk.specs.Pour.{window}

-- A part of two lists, one after the other, is a part of each

drop-both : (n : ℕ) (xs ys : List ℕ) → drop n (xs ++ ys) ≡ drop n xs ++ drop (n - length xs) ys
drop-both n xs ys = pick (dec_le n (length xs))
  where
    pick : Dec (n ≤ length xs) → drop n (xs ++ ys) ≡ drop n xs ++ drop (n - length xs) ys
    pick (yes h) = let z : 0 ≡ n - length xs = omega arith in drop-append-le n xs ys h ∙ ap (λ (m : ℕ). drop n xs ++ drop m ys) z
    pick (no h) =
        let z : n ≡ length xs + (n - length xs) = omega arith in
        ap (λ (m : ℕ). drop m (xs ++ ys)) z ∙ drop-append-add xs ys (n - length xs) ∙ ap (λ (l : List ℕ). l ++ drop (n - length xs) ys) (let y : length xs ≤ n = omega arith in sym (drop_of_length-le xs y))

take-both : (n : ℕ) (xs ys : List ℕ) → take n (xs ++ ys) ≡ take n xs ++ take (n - length xs) ys
take-both n xs ys = pick (dec_le n (length xs))
  where
    pick : Dec (n ≤ length xs) → take n (xs ++ ys) ≡ take n xs ++ take (n - length xs) ys
    pick (yes h) = let z : 0 ≡ n - length xs = omega arith in take-append-le n xs ys h ∙ sym (append-nil (take n xs)) ∙ ap (λ (m : ℕ). take n xs ++ take m ys) z
    pick (no h) =
        let z : n ≡ length xs + (n - length xs) = omega arith in
        ap (λ (m : ℕ). take m (xs ++ ys)) z ∙ take-append-add xs ys (n - length xs) ∙ ap (λ (l : List ℕ). l ++ take (n - length xs) ys) (let y : length xs ≤ n = omega arith in sym (take_all n xs y))

-- what is added to the words that fit, when a list grows
abbrev pub added : ℕ → ℕ → List ℕ → List ℕ → List ℕ
added start n xs bs = take (n - length (window start n xs)) (drop (start - length xs) bs)

window-both : (start n : ℕ) (xs bs : List ℕ) → window start n (xs ++ bs) ≡ window start n xs ++ added start n xs bs
window-both start n xs bs =
    let z : n - length (drop start xs) ≡ n - length (window start n xs) = omega (arith, length-take n (drop start xs)) in
    ap (take n) (drop-both start xs bs) ∙ take-both n (drop start xs) (drop (start - length xs) bs) ∙ ap (λ (m : ℕ). window start n xs ++ take m (drop (start - length xs) bs)) z

-- the place behind the words that fit, and the output that holds them
pub record Filled (start : ℕ) (o xs : List ℕ) (at : ℕ) (out : List ℕ) : Type 0 where
  pub place : at ≡ length (window start (length o) xs)
  pub holds : out ≡ written_over (window start (length o) xs) o

module _ {start : ℕ} {o xs : List ℕ} {at : ℕ} {out : List ℕ} (f : Filled start o xs at out) where
  abbrev n : ℕ
  n = length o

  abbrev w : List ℕ
  w = window start n xs

  pub at_most : at ≤ length o
  at_most = omega (arith, f.place, length-take n (drop start xs))

  pub long : length out ≡ length o
  long = ap length f.holds ∙ length-append w (drop (length w) o) ∙ omega (arith, length-drop (length w) o, length-take n (drop start xs))

  -- nothing is added where nothing more fits, or all of it is passed over
  stays : (bs : List ℕ) → added start n xs bs ≡ [] → Filled start o (xs ++ bs) at out
  stays bs e =
      let same : w ≡ window start n (xs ++ bs) = sym (window-both start n xs bs ∙ ap (λ (l : List ℕ). w ++ l) e ∙ append-nil w) in
      record { place = f.place ∙ ap length same; holds = f.holds ∙ ap (λ (l : List ℕ). written_over l o) same }

  pub over : (bs : List ℕ) → length bs ≤ start - length xs → Filled start o (xs ++ bs) at out
  over bs h = stays bs (ap (take (n - length w)) (drop_of_length-le bs h) ∙ take-nil (n - length w))

  pub full : (bs : List ℕ) → length out ≤ at → Filled start o (xs ++ bs) at out
  full bs h = let z : n - length w ≡ 0 = omega (arith, long, f.place) in stays bs (ap (λ (m : ℕ). take m (drop (start - length xs) bs)) z)

  -- what is added is written behind
  pub more : (bs vs : List ℕ) → vs ≡ added start n xs bs → (out' : List ℕ) → out' ≡ take at out ++ (vs ++ drop (at + length vs) out) → Filled start o (xs ++ bs) (at + length vs) out'
  more bs vs ev out' eo =
      let grown : w ++ vs ≡ window start n (xs ++ bs) = ap (λ (l : List ℕ). w ++ l) ev ∙ sym (window-both start n xs bs) in
      let front : take at out ≡ w = ap (take at) f.holds ∙ take_at w (drop (length w) o) at (sym f.place) in
      let sizes : length (w ++ vs) ≡ at + length vs = length-append w vs ∙ ap (λ (m : ℕ). m + length vs) (sym f.place) in
      let tail : drop (length vs) (drop (length w) o) ≡ drop (length (w ++ vs)) o = drop-drop (length vs) (length w) o ∙ ap (λ (m : ℕ). drop m o) (sym (length-append w vs)) in
      let back : drop (at + length vs) out ≡ drop (length (w ++ vs)) o =
      ap (drop (at + length vs)) f.holds
      ∙ ap (λ (m : ℕ). drop (m + length vs) (w ++ drop (length w) o)) f.place
      ∙ drop-append-add w (drop (length w) o) (length vs)
      ∙ tail
      in
      record {
        place = sym sizes ∙ ap length grown;
        holds = eo
            ∙ ap (λ (l : List ℕ). l ++ (vs ++ drop (at + length vs) out)) front
            ∙ ap (λ (l : List ℕ). w ++ (vs ++ l)) back
            ∙ sym (append_assoc w vs (drop (length (w ++ vs)) o))
            ∙ ap (λ (l : List ℕ). written_over l o) grown;
      }

  -- one word more
  pub put : (x : ℕ) → start ≤ length xs → at < length out → Filled start o (xs ++ (x ∷ [])) (at + 1) (set out at x)
  put x s h =
      let z : start - length xs ≡ 0 = omega arith in
      let room : 1 ≤ n - length w = omega (arith, long, f.place) in
      let one : suc at ≡ at + 1 = omega arith in
      more (x ∷ []) (x ∷ []) (sym (ap (λ (m : ℕ). take (n - length w) (drop m (x ∷ []))) z ∙ take_all (n - length w) (x ∷ []) room)) (set out at x)
      (set_split out at x h ∙ ap (λ (m : ℕ). take at out ++ (x ∷ drop m out)) one)

-- no words yet
pub begin : (start : ℕ) (o : List ℕ) → Filled start o [] 0 o
begin start o =
    let e : [] ≡ window start (length o) [] = sym (ap (take (length o)) (drop-nil start) ∙ take-nil (length o)) in
    record { place = ap length e; holds = ap (λ (l : List ℕ). written_over l o) e }
