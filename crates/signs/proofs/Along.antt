-- The rows of the sign fill, as the loops make them: a sign and a state carried from slot to slot; and where the rows lie. Assumes nothing.
use mathlib.Core.Path.{◌≡◌, refl, sym, ap, ◌∙◌, subst}
use mathlib.Core.Bool.{Bool}
use mathlib.Core.List.{List}
use Prim.Native.Nat.{ℕ, ◌+◌, ◌*◌, ◌^◌, ◌<◌, ◌≤◌}
use native.Mathlib.Nat.{mul-le-mul_right}
use native.Mathlib.Numerals.{add-one}
use native.Mathlib.Omega.{arith}
use lib.ListN.{length}
use Rattle.grid.specs.Node.{size}
use Rattle.nodes.specs.State.{St}
use Rattle.signs.specs.Signs.{behind_s, start_s, write_s, carry_s, row_z, row_y, rows_m}
use Rattle.signs.specs.Seen.{Seen, seen, Sides}

-- ---- row y of a face, and face a of a node, end within it
pub row_ends : {b m y : ℕ} → Sides b m → y < m → y * m + 2 ^ b ≤ 2 ^ (2 * b)
row_ends {b} {m} {y} s h = omega (arith, mul-le-mul_right m h)

pub face_ends : {b m a : ℕ} → Sides b m → a < m → a * (m * m) + 2 ^ (2 * b) ≤ 2 ^ (3 * b)
face_ends {b} {m} {a} s h = omega (arith, mul-le-mul_right (m * m) h)

-- ---- slot `at j` gives the sign that w then gets there
module _ (bs : List ℕ) (n x : ℕ) (at : ℕ → ℕ) (w : ℕ → Bool → St → St) where
  abbrev pub along : ℕ → Bool → St → Bool × St
  along j g s = let h = behind_s bs n s x (at j) g in (h, w (at j) h s)

  -- m steps from g and s on have come to g' and s'
  abbrev pub Carried : Bool → St → ℕ → Bool → St → Type 0
  Carried g s m g' s' = ◌≡◌ {A = Bool × St} (g', s') (carry_s along m g s)

  pub carry_none : (g : Bool) (s : St) → Carried g s 0 g s
  unfolding carry_s
  carry_none g s = refl

  pub carry_more : (g : Bool) (s : St) (m : ℕ) {g' g'' : Bool} {s' s'' : St} → Carried g s m g' s' → g'' ≡ behind_s bs n s' x (at m) g' → s'' ≡ w (at m) g'' s' → Carried g s (m + 1) g'' s''
  unfolding carry_s
  carry_more g s m {g'} {g''} {s'} {s''} p q r =
      (λ i. (g'', r i))
      ∙ ap (λ (h : Bool). (h, w (at m) h s')) q
      ∙ ap (λ (t : Bool × St). along m t.0 t.1) p
      ∙ sym (rw add-one refl)

-- ---- m slots on, by what the code carries: f has the sign, and the slots are those of the state
pub record Going {S : Type 0} (carried : Bool → S) (bs : List ℕ) (at : ℕ → ℕ) (w : ℕ → Bool → St → St) (q : Seen) (g : Bool) (slots₀ : List ℕ) (m : ℕ) (f : S) (slots : List ℕ) : Type 0 where
  pub sign : Bool
  pub same : f ≡ carried sign
  pub gone : Carried bs q.n q.x at w g (seen q slots₀) m sign (seen q slots)

pub record Along {S : Type 0} (carried : Bool → S) (shows : Seen → ℕ → Type 0) (bs : List ℕ) (at : ℕ → ℕ) (w : Seen → ℕ → Bool → St → St)
    (f₀ : S) (slots₀ : List ℕ) (m : ℕ) (f : S) (slots : List ℕ) : Type 0 where
  pub goes : (q : Seen) (g : Bool) → shows q (length slots₀) → f₀ ≡ carried g → Going carried bs at (w q) q g slots₀ m f slots

module _ {S : Type 0} {carried : Bool → S} {shows : Seen → ℕ → Type 0} {bs : List ℕ} {at : ℕ → ℕ} {w : Seen → ℕ → Bool → St → St} {f₀ : S} {slots₀ : List ℕ} where
  pub along_none : Along carried shows bs at w f₀ slots₀ 0 f₀ slots₀
  along_none = record { goes = λ q g h e. record { sign = g; same = e; gone = carry_none bs q.n q.x at (w q) g _ } }

  pub along_more : {m : ℕ} {f f' : S} {slots slots' : List ℕ} → Along carried shows bs at w f₀ slots₀ m f slots → length slots ≡ length slots₀
      → ((q : Seen) (g : Bool) → shows q (length slots) → f ≡ carried g → f' ≡ carried (behind_s bs q.n (seen q slots) q.x (at m) g))
      → ((q : Seen) (g : Bool) → shows q (length slots) → f' ≡ carried g → seen q slots' ≡ w q (at m) g (seen q slots))
      → Along carried shows bs at w f₀ slots₀ (m + 1) f' slots'
  along_more {m} {f} {f'} {slots} {slots'} a k b d = record {
    goes = λ q g h e.
        let t = a.goes q g h e in
        let h' = subst (shows q) (sym k) h in
        let y = b q t.sign h' t.same in
        record { sign = behind_s bs q.n (seen q slots) q.x (at m) t.sign; same = y; gone = carry_more bs q.n q.x at (w q) g _ m t.gone refl (d q _ h' y) };
  }

-- ---- all steps of a row, where k of them are made
module _ {S : Type 0} {carried : Bool → S} {bs : List ℕ} {b k m : ℕ} (d : k ≡ m) (e : Sides b m) {q : Seen} {g : Bool} {slots₀ slots : List ℕ} {f : S} where
  pub all_z : (i : ℕ) → Going carried bs (λ z. i + z) (write_s bs q.x) q g slots₀ k f slots → seen q slots ≡ row_z b bs q.n q.x i g (seen q slots₀)
  unfolding row_z
  all_z i t = ap (λ (t : Bool × St). t.1) t.gone ∙ (λ j. (carry_s (along bs q.n q.x (λ z. i + z) (write_s bs q.x)) ((d ∙ e.side) j) g (seen q slots₀)).1)

  pub all_y : (i : ℕ) → Going carried bs (λ y. i + y * m) (row_z b bs q.n q.x) q g slots₀ k f slots → seen q slots ≡ row_y b bs q.n q.x i g (seen q slots₀)
  unfolding row_y
  all_y i t = ap (λ (t : Bool × St). t.1) t.gone ∙ (λ j. (carry_s (along bs q.n q.x (λ y. i + y * e.side j) (row_z b bs q.n q.x)) ((d ∙ e.side) j) g (seen q slots₀)).1)

  pub all_x : g ≡ start_s bs q.n (seen q slots₀) q.x 0 (size b) → Going carried bs (λ a. a * (m * m)) (row_y b bs q.n q.x) q g slots₀ k f slots → seen q slots ≡ rows_m b bs q.n q.x (seen q slots₀)
  unfolding rows_m
  all_x h t =
      ap (λ (t : Bool × St). t.1) t.gone
      ∙ (λ j. (carry_s (along bs q.n q.x (λ a. a * e.face j) (row_y b bs q.n q.x)) ((d ∙ e.side) j) (h j) (seen q slots₀)).1)
