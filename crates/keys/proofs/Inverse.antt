-- What the promises of pack and unpack say of each other, and that each determines its verdict. Assumes nothing.
use mathlib.Core.Path.{◌≡◌, refl, sym, ap, ◌∙◌}
use mathlib.Core.Logic.{◌⊎◌, inl, inr, ⊎_elim}
use Prim.Native.Nat.{ℕ, ◌^◌, ◌<◌}
use native.Mathlib.Decide.{dec_lt}
use native.Mathlib.Omega.{arith}
use Rattle.model.specs.Keys.{Fields, key_of, fields_of}
use Rattle.promises.specs.Refusals.{Refusal, Told, refusal}
use Rattle.promises.specs.Refusals.Told.{gave, refused}
use Rattle.promises.specs.Keys.{PackPromise, UnpackPromise}
use Rattle.keys.specs.Range.{first_out}
use Rattle.keys.proofs.Ranges.{out-le}
use Rattle.keys.proofs.Telling.{tells-field, tells-value, tells-large, tells-fields, tells-bad-word}
use Rattle.keys.proofs.Keys.{key-fields, key_below, word-key, word-place}

-- only fields in range have a key, and it is key_of of them
pub record Key (f : Fields) (w : ℕ) : Type 0 where
  pub good : first_out f ≡ 5
  pub key : w ≡ key_of f

pub packs : (f : Fields) (w : ℕ) → PackPromise f (gave w) → Key f w
packs f w p = go (dec_lt (first_out f) 5)
  where
    go : Dec (first_out f < 5) → Key f w
    go (yes l) =
        let e : refused (refusal 10 (first_out f)) ≡ gave w = tells-field f (key_of f) (first_out f) refl l ∙ sym p.tells in
        let z : ◌≡◌ {A = ℕ} 0 1 = cc in
        absurd (omega arith)
    go (no l) =
        let g : first_out f ≡ 5 = omega (arith, out-le f) in
        let e : gave w ≡ gave (key_of f) = p.tells ∙ sym (tells-value f (key_of f) g) in
        record { good = g; key = cc }

-- only words of 40 bits with their fields in range are unpacked, into these
pub record Unpacks (w : ℕ) (f : Fields) : Type 0 where
  pub small : w < 2 ^ 40
  pub is : f ≡ fields_of w
  pub good : first_out f ≡ 5

pub unpacks : (w : ℕ) (f : Fields) → UnpackPromise w (gave f) → Unpacks w f
unpacks w f p = go (dec_lt w (2 ^ 40)) (dec_lt (first_out (fields_of w)) 5)
  where
    go : Dec (w < 2 ^ 40) → Dec (first_out (fields_of w) < 5) → Unpacks w f
    go (no l) q =
        let e : refused (refusal 6 0) ≡ gave f = tells-large w (fields_of w) (omega arith) ∙ sym p.tells in
        let z : ◌≡◌ {A = ℕ} 0 1 = cc in
        absurd (omega arith)
    go (yes s) (yes l) =
        let e : refused (refusal 10 (first_out (fields_of w))) ≡ gave f = tells-bad-word w (fields_of w) refl s (first_out (fields_of w)) refl l ∙ sym p.tells in
        let z : ◌≡◌ {A = ℕ} 0 1 = cc in
        absurd (omega arith)
    go (yes s) (no l) =
        let g : first_out (fields_of w) ≡ 5 = omega (arith, out-le (fields_of w)) in
        let e : gave f ≡ gave (fields_of w) = p.tells ∙ sym (tells-fields w (fields_of w) refl s g) in
        let is : f ≡ fields_of w = cc in
        record { small = s; is = is; good = ap first_out is ∙ g }

-- unpack refuses with 6, or with 10 and field 2 or 3, and with nothing else
pub unpack-refuses : (w : ℕ) (x : Refusal) → UnpackPromise w (refused x) → (x ≡ refusal 6 0) ⊎ (x ≡ refusal 10 2) ⊎ (x ≡ refusal 10 3)
unpack-refuses w x p = go (dec_lt w (2 ^ 40)) (dec_lt (first_out (fields_of w)) 5)
  where
    go : Dec (w < 2 ^ 40) → Dec (first_out (fields_of w) < 5) → (x ≡ refusal 6 0) ⊎ (x ≡ refusal 10 2) ⊎ (x ≡ refusal 10 3)
    go (no l) q =
        let e : refused x ≡ refused (refusal 6 0) = p.tells ∙ sym (tells-large w (fields_of w) (omega arith)) in
        inl (cc)
    go (yes s) (yes l) =
        let e : refused x ≡ refused (refusal 10 (first_out (fields_of w))) = p.tells ∙ sym (tells-bad-word w (fields_of w) refl s (first_out (fields_of w)) refl l) in
        let is : x ≡ refusal 10 (first_out (fields_of w)) = cc in
        ⊎_elim (λ k. inr (inl (is ∙ ap (refusal 10) k))) (λ k. inr (inr (is ∙ ap (refusal 10) k))) (word-place w s l)
    go (yes s) (no l) =
        let g : first_out (fields_of w) ≡ 5 = omega (arith, out-le (fields_of w)) in
        let e : refused x ≡ gave (fields_of w) = p.tells ∙ sym (tells-fields w (fields_of w) refl s g) in
        let z : ◌≡◌ {A = ℕ} 0 1 = cc in
        absurd (omega arith)

-- unpack after pack gives the fields back
pub unpack-packed : (f : Fields) (w : ℕ) (told : Told Fields) → PackPromise f (gave w) → UnpackPromise w told → told ≡ gave f
unpack-packed f w told p u =
    let k = packs f w p in
    let read : f ≡ fields_of w = sym (key-fields f k.good) ∙ ap fields_of (sym k.key) in
    u.tells ∙ sym (tells-fields w f read (rw k.key (key_below f k.good)) k.good)

-- pack after unpack gives the word back
pub pack-unpacked : (w : ℕ) (f : Fields) (told : Told ℕ) → UnpackPromise w (gave f) → PackPromise f told → told ≡ gave w
pack-unpacked w f told u p =
    let k = unpacks w f u in
    let e : key_of f ≡ w = ap key_of k.is ∙ word-key w in
    p.tells ∙ sym (tells-value f (key_of f) k.good) ∙ ap gave e
