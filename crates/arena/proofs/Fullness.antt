-- Maps that are not empty, but for one: a change that sets a bit or frees a node hands the exception on, or ends it. Assumes nothing.
use Prim.Native.Nat.{ℕ, ◌<◌}
use mathlib.Core.Path.{◌≡◌, ap, ◌∙◌}
use mathlib.Core.Logic.{◌≢◌}
use native.Mathlib.Decide.{ℕ_discrete}
use Rattle.region.specs.Nodes.{Nodes}
use Rattle.region.specs.WellFormed.{NonEmpty, AllNonEmpty}
use Rattle.arena.specs.Changes.{BitMade, Hung, Freed, Unhung}

-- every node in use but h has a map that is not empty
abbrev pub FullBut : Nodes → ℕ → ℕ → Type 0
FullBut v N h = (n : ℕ) → n < N → v.level1 n ≢ 0 → n ≢ h → NonEmpty v n

-- and h has one too
pub full-all : {v : Nodes} {N h : ℕ} → FullBut v N h → NonEmpty v h → AllNonEmpty v N
full-all {v} {N} {h} full some m hm used = pick (ℕ_discrete m h)
  where
    pick : Dec (m ≡ h) → NonEmpty v m
    pick (yes e) = record { at = some.at; small = some.small; is_set = ap (λ (u : ℕ). v.bit u some.at) e ∙ some.is_set }
    pick (no ne) = full m hm used ne

pub full-hung : {v w : Nodes} {n x f l : ℕ} (N : ℕ) → x < 256 → Hung v n x f l w → FullBut v N n → FullBut w N f
full-hung {v} {w} {n} {x} {f} N hx hu full m hm used ne = pick (ℕ_discrete m n)
  where
    pick : Dec (m ≡ n) → NonEmpty w m
    pick (yes e) = record { at = x; small = hx; is_set = ap (λ (u : ℕ). w.bit u x) e ∙ hu.bit-here }
    pick (no nn) =
        let s : NonEmpty v m = full m hm (λ z. used (hu.level-else m ne ∙ z)) nn in
        record { at = s.at; small = s.small; is_set = hu.bit-else m s.at s.small ne (λ q. nn q.0) ∙ s.is_set }

-- a bit of n changes
pub full-bit : {v w : Nodes} {n x d : ℕ} (N : ℕ) → BitMade v n x d w → FullBut v N n → FullBut w N n
full-bit {v} {w} N st full m hm used nn =
    let s : NonEmpty v m = full m hm (λ z. used (st.level m ∙ z)) nn in
    record { at = s.at; small = s.small; is_set = st.else m s.at s.small (λ q. nn q.0) ∙ s.is_set }

pub full-unhung : {v w : Nodes} {p x f k : ℕ} (N : ℕ) → Unhung v p x f k w → FullBut v N f → FullBut w N p
full-unhung {v} {w} {p} {x} {f} N un full m hm used np = pick (ℕ_discrete m f)
  where
    pick : Dec (m ≡ f) → NonEmpty w m
    pick (yes e) = absurd (used (ap w.level1 e ∙ un.level-new))
    pick (no nf) =
        let s : NonEmpty v m = full m hm (λ z. used (un.level-else m nf ∙ z)) nf in
        record { at = s.at; small = s.small; is_set = un.bit-else m s.at s.small (λ q. np q.0) ∙ s.is_set }

pub full-freed : {v w : Nodes} {f k : ℕ} (N : ℕ) → Freed v f k w → FullBut v N f → AllNonEmpty w N
full-freed {v} {w} {f} N fr full m hm used = pick (ℕ_discrete m f)
  where
    pick : Dec (m ≡ f) → NonEmpty w m
    pick (yes e) = absurd (used (ap w.level1 e ∙ fr.level-new))
    pick (no nf) =
        let s : NonEmpty v m = full m hm (λ z. used (fr.level-else m nf ∙ z)) nf in
        record { at = s.at; small = s.small; is_set = fr.bit m s.at s.small ∙ s.is_set }
