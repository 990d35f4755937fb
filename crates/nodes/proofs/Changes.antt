-- From changes of the lists to changes of the state: the slots' words and the masks' bits by places, and the parts of the book. Assumes nothing.
use mathlib.Core.Path.{◌≡◌, refl, sym, ap, ◌∙◌, subst}
use mathlib.Core.Logic.{inl, inr}
use mathlib.Core.Bool.{Bool, true, false, cond, ◌&&◌}
use mathlib.Core.List.{List}
use Prim.Native.Nat.{ℕ, ◌+◌, ◌*◌, ◌/◌, ◌<◌, ◌≤◌}
use native.Mathlib.Omega.{arith}
use lib.ListN.{length, get_or, set, length-set}
use lib.Seq.{get_or-set_same, get_or-set_other}
use lib.Dec.{eqb}
use borrow.Author.Tests.{lt-ltb, le-ltb, eq-eqb, ne_eqb}
use Rattle.bitset.specs.Set.{bit_of, word_bit}
use Rattle.bitset.proofs.Digits.{is_or_not}
use Rattle.bitset.proofs.Words.{zero_bit, ones_bit}
use Rattle.bitset.proofs.Sets.{bit_set}
use Rattle.floats.specs.Value.{far}
use Rattle.nodes.specs.State.{St}
use Rattle.nodes.specs.Layout.{st, word_of, kid_bit, val_bit}
use Rattle.nodes.specs.Change.{at2, in_cell, put_s, attach_s, claim_s, release_s, next}
use Rattle.nodes.specs.Steps.{slot_s, cell_s, take_s, give_s, room_s}
use Rattle.nodes.specs.Range.{In, Cells}
use Rattle.nodes.proofs.Places.{spread, spread_same, spread_one, spread_cell, word_lt}

-- ---- two states are the same where each field is
pub st_ext : (s r : St) → ((x k : ℕ) → s.slot x k ≡ r.slot x k) → ((x k : ℕ) → s.kid x k ≡ r.kid x k) → ((x k : ℕ) → s.val x k ≡ r.val x k) → s.count ≡ r.count
    → ((i : ℕ) → s.stack i ≡ r.stack i) → ((c : ℕ) → s.tag c ≡ r.tag c) → ((t : ℕ) → s.mark t ≡ r.mark t) → s ≡ r
st_ext s r a b c d e f g = λ i. record { slot = λ x k. a x k i; kid = λ x k. b x k i; val = λ x k. c x k i; count = d i; stack = λ j. e j i; tag = λ j. f j i; mark = λ j. g j i }

pub same_test : (a b c d : ℕ) → (a ≡ b → c ≡ d) → (c ≡ d → a ≡ b) → eqb a b ≡ eqb c d
same_test a b c d f g = elim (is_or_not c d) [
  | inl e ↦ eq-eqb a b (g e) ∙ sym (eq-eqb c d e)
  | inr e ↦ ne_eqb a b (λ q. e (f q)) ∙ sym (ne_eqb c d e)
]

-- ---- a store in a list
pub get_d_set : (l : List ℕ) (k v : ℕ) → k < length l → (j : ℕ) → get_or (set l k v) j 0 ≡ cond (eqb j k) v (get_or l j 0)
get_d_set l k v h j = elim (is_or_not j k) [
  | inl e ↦ rw (eq-eqb j k e) (ap (λ (i : ℕ). get_or (set l k v) i 0) e ∙ get_or-set_same l k v 0 h)
  | inr e ↦ rw (ne_eqb j k e) (get_or-set_other l k j v 0 e)
]

-- ---- the masks, by the bits m before and m' after
module _ (n : ℕ) (m m' : ℕ → Bool) where
  abbrev kids : (ℕ → Bool) → ℕ → ℕ → Bool
  kids f = spread n false f

  abbrev vals : (ℕ → Bool) → ℕ → ℕ → Bool
  vals f = spread n false (λ i. f (64 * (64 + n) + i))

  module _ {x k : ℕ} (b : Bool) (i : In n x k) where
    pub kid_kid : ((j : ℕ) → m' j ≡ cond (eqb j (kid_bit x k)) b (m j)) → (y j : ℕ) → kids m' y j ≡ at2 (kids m) x k b y j
    kid_kid h = spread_one n false m m' x k b i (λ j l. h j)

    pub kid_val : ((j : ℕ) → m' j ≡ cond (eqb j (kid_bit x k)) b (m j)) → (y j : ℕ) → vals m' y j ≡ vals m y j
    kid_val h = spread_same n false (λ j. m (64 * (64 + n) + j)) (λ j. m' (64 * (64 + n) + j)) (λ j l.
        h (64 * (64 + n) + j) ∙ rw (ne_eqb (64 * (64 + n) + j) (word_of x k) (λ e. omega (arith, e, word_lt i))) refl)

    pub val_val : ((j : ℕ) → m' j ≡ cond (eqb j (val_bit n x k)) b (m j)) → (y j : ℕ) → vals m' y j ≡ at2 (vals m) x k b y j
    val_val h = spread_one n false (λ j. m (64 * (64 + n) + j)) (λ j. m' (64 * (64 + n) + j)) x k b i (λ j l.
        h (64 * (64 + n) + j) ∙ ap (λ (t : Bool). cond t b (m (64 * (64 + n) + j))) (same_test (64 * (64 + n) + j) (64 * (64 + n) + word_of x k) j (word_of x k) (λ e. omega arith) (λ e. omega arith)))

    pub val_kid : ((j : ℕ) → m' j ≡ cond (eqb j (val_bit n x k)) b (m j)) → (y j : ℕ) → kids m' y j ≡ kids m y j
    val_kid h = spread_same n false m m' (λ j l. h j ∙ rw (ne_eqb j (64 * (64 + n) + word_of x k) (λ e. omega arith)) refl)

  -- the masks of cell c: no child, and all values a
  module _ (c : ℕ) (a : Bool) (l : c < n) (h : (j : ℕ) → m' j ≡ cond (eqb (j / 64) (128 + n + c)) a (cond (eqb (j / 64) (64 + c)) false (m j))) where
    pub paint_kid : (y j : ℕ) → kids m' y j ≡ in_cell (kids m) c false y j
    paint_kid = spread_cell n false m m' c false l (λ j q. h j ∙ rw (ne_eqb (j / 64) (128 + n + c) (λ e. omega arith)) refl)

    pub paint_val : (y j : ℕ) → vals m' y j ≡ in_cell (vals m) c a y j
    paint_val = spread_cell n false (λ j. m (64 * (64 + n) + j)) (λ j. m' (64 * (64 + n) + j)) c a l (λ j q.
        h (64 * (64 + n) + j)
        ∙ ap (λ (t : Bool). cond t a (cond (eqb ((64 * (64 + n) + j) / 64) (64 + c)) false (m (64 * (64 + n) + j))))
        (same_test ((64 * (64 + n) + j) / 64) (128 + n + c) (j / 64) (64 + c) (λ e. omega arith) (λ e. omega arith))
        ∙ ap (λ (t : Bool). cond (eqb (j / 64) (64 + c)) a (cond t false (m (64 * (64 + n) + j)))) (ne_eqb ((64 * (64 + n) + j) / 64) (64 + c) (λ e. omega arith)))

-- ---- the steps on slots and masks
module _ (n : ℕ) (sl sl' mk mk' : List ℕ) (book : List ℕ) where
  -- the slot's three stores, of which the two of the masks go through `mid`
  pub slot_step : {x k : ℕ} (w : ℕ) (b a : Bool) (mid : List ℕ) → Cells n sl mk → In n x k → sl' ≡ set sl (word_of x k) w
      → ((j : ℕ) → bit_of mid j ≡ cond (eqb j (kid_bit x k)) b (bit_of mk j)) → ((j : ℕ) → bit_of mk' j ≡ cond (eqb j (val_bit n x k)) a (bit_of mid j))
      → st n sl' mk' book ≡ slot_s x k w b a (st n sl mk book)
  unfolding st slot_s
  slot_step {x} {k} w b a mid z i p q r = st_ext _ _
      (spread_one n 0 (λ j. get_or sl j 0) (λ j. get_or sl' j 0) x k w i (λ j l. ap (λ (s : List ℕ). get_or s j 0) p ∙ get_d_set sl (word_of x k) w (omega (arith, word_lt i, z.slots_fit)) j))
      (λ y j. val_kid n (bit_of mid) (bit_of mk') a i r y j ∙ kid_kid n (bit_of mk) (bit_of mid) b i q y j)
      (λ y j. val_val n (bit_of mid) (bit_of mk') a i r y j ∙ ap (λ (t : Bool). cond (eqb y x && eqb j k) a t) (kid_val n (bit_of mk) (bit_of mid) b i q y j))
      refl (λ _. refl) (λ _. refl) (λ _. refl)

  pub put_step : {x k i : ℕ} (w : ℕ) (a : Bool) → Cells n sl mk → In n x k → i ≡ word_of x k → sl' ≡ set sl i w
      → ((j : ℕ) → bit_of mk' j ≡ cond (eqb j (64 * (64 + n) + i)) a (bit_of mk j)) → st n sl' mk' book ≡ put_s x k w a (st n sl mk book)
  unfolding st put_s
  put_step {x} {k} w a z m e p r =
      let q : (j : ℕ) → bit_of mk' j ≡ cond (eqb j (val_bit n x k)) a (bit_of mk j) = λ j. r j ∙ ap (λ (h : ℕ). cond (eqb j (64 * (64 + n) + h)) a (bit_of mk j)) e in
      st_ext _ _
      (spread_one n 0 (λ j. get_or sl j 0) (λ j. get_or sl' j 0) x k w m
      (λ j l. ap (λ (s : List ℕ). get_or s j 0) (p ∙ ap (λ (h : ℕ). set sl h w) e) ∙ get_d_set sl (word_of x k) w (omega (arith, word_lt m, z.slots_fit)) j))
      (val_kid n (bit_of mk) (bit_of mk') a m q)
      (val_val n (bit_of mk) (bit_of mk') a m q)
      refl (λ _. refl) (λ _. refl) (λ _. refl)

  pub cell_step : (c w : ℕ) (a : Bool) → c < n → ((j : ℕ) → get_or sl' j 0 ≡ cond (eqb (j / 64) (64 + c)) w (get_or sl j 0))
      → ((j : ℕ) → bit_of mk' j ≡ cond (eqb (j / 64) (128 + n + c)) a (cond (eqb (j / 64) (64 + c)) false (bit_of mk j)))
      → st n sl' mk' book ≡ cell_s c w a (st n sl mk book)
  unfolding st cell_s
  cell_step c w a l p q = st_ext _ _
      (spread_cell n 0 (λ j. get_or sl j 0) (λ j. get_or sl' j 0) c w l (λ j _. p j))
      (paint_kid n (bit_of mk) (bit_of mk') c a l q)
      (paint_val n (bit_of mk) (bit_of mk') c a l q)
      refl (λ _. refl) (λ _. refl) (λ _. refl)

-- ---- two words of a mask: the child word is 0, and the value word is all ones or 0
abbrev pub full_word : Bool → ℕ
full_word a = cond a 18446744073709551615 0

full_bit : (a : Bool) (j : ℕ) → word_bit (full_word a) j ≡ a
full_bit true j = ones_bit j
full_bit false j = zero_bit j

pub painted : (mk : List ℕ) (p q v : ℕ) (a : Bool) → p < length mk → q < length mk → v ≡ full_word a → (j : ℕ)
    → bit_of (set (set mk p 0) q v) j ≡ cond (eqb (j / 64) q) a (cond (eqb (j / 64) p) false (bit_of mk j))
painted mk p q v a hp hq e j =
    bit_set (set mk p 0) q v (omega (arith, length-set mk p 0)) j
    ∙ (λ i. cond (eqb (j / 64) q) ((ap (λ (w : ℕ). word_bit w j) e ∙ full_bit a j) i) (bit_set mk p 0 hp j i))
    ∙ ap (λ (t : Bool). cond (eqb (j / 64) q) a (cond (eqb (j / 64) p) t (bit_of mk j))) (zero_bit j)

-- ---- the changes by their steps
pub attach_by : (x k w : ℕ) (a : Bool) (s : St) {s₁ s₂ s₃ : St} {r : ℕ} → r ≡ next s → s₁ ≡ take_s x k s → s₂ ≡ cell_s r w a s₁ → s₃ ≡ slot_s x k r true false s₂ → s₃ ≡ attach_s x k w a s
unfolding take_s cell_s slot_s attach_s
attach_by x k w a s {r = r} e p q u =
    u ∙ ap (slot_s x k r true false) (q ∙ ap (cell_s r w a) p) ∙ ap (λ (c : ℕ). slot_s x k c true false (cell_s c w a (take_s x k s))) e

pub claim_by : (x k : ℕ) (s : St) {s₁ s₂ : St} {r : ℕ} → r ≡ next s → s₁ ≡ take_s x k s → s₂ ≡ slot_s x k r true false s₁ → s₂ ≡ claim_s x k s
unfolding take_s slot_s claim_s
claim_by x k s {r = r} e p q = q ∙ ap (slot_s x k r true false) p ∙ ap (λ (c : ℕ). slot_s x k c true false (take_s x k s)) e

pub release_by : (n x k : ℕ) (s : St) {s₁ s₂ : St} {c f w : ℕ} → c ≡ s.slot x k → f ≡ s.count → c < n → f < n → w ≡ far → s₁ ≡ give_s c s → s₂ ≡ slot_s x k w false false s₁
    → s₂ ≡ cond (room_s n x k s) (release_s x k s) s
unfolding give_s slot_s release_s
release_by n x k s {c = c} {f = f} {w = w} e g hc hf h p q =
    q ∙ ap (slot_s x k w false false) p ∙ (λ i. slot_s x k (h i) false false (give_s (e i) s))
    ∙ sym (rw (lt-ltb (s.slot x k) n (subst (λ (i : ℕ). i < n) e hc), lt-ltb s.count n (subst (λ (i : ℕ). i < n) g hf)) refl)

pub release_out : (n x k : ℕ) (s : St) {c : ℕ} → c ≡ s.slot x k → n ≤ c → s ≡ cond (room_s n x k s) (release_s x k s) s
release_out n x k s e h = sym (rw (le-ltb (s.slot x k) n (subst (λ (i : ℕ). n ≤ i) e h)) refl)

pub release_full : (n x k : ℕ) (s : St) {c f : ℕ} → c ≡ s.slot x k → c < n → f ≡ s.count → n ≤ f → s ≡ cond (room_s n x k s) (release_s x k s) s
release_full n x k s e l g h = sym (rw (lt-ltb (s.slot x k) n (subst (λ (i : ℕ). i < n) e l), le-ltb s.count n (subst (λ (i : ℕ). n ≤ i) g h)) refl)
