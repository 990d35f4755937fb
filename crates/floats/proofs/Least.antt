-- Two finite words compared: one is less, or they are numerically equal, and then they are one word or the two zeros. From it what least, most, equal
-- and far are to the order of the numbers. Assumes nothing.
use mathlib.Core.Path.{◌≡◌, refl, sym, ap, ap₂, ◌∙◌, subst}
use mathlib.Core.Bool.{Bool, true, false, not, ◌&&◌, ◌||◌, beq, cond}
use Prim.Native.Nat.{ℕ, ◌+◌, ◌*◌, ◌%◌, ◌<◌}
use native.Mathlib.Omega.{arith}
use lib.Dec.{T, ltb, eqb}
use lib.Bits.{bit_or, bit_and, or_self, and_self}
use lib.Ieee.{Float, nan, inf, fin, binary32, to_bits, up, down, lt, eq, ne, below, level}
use lib.Ieee.Scale.{finite}
use lib.Ieee.Compare.{differs_from_itself}
use borrow.Author.Tests.{eq-eqb, ne_eqb, eqb-true, eqb-false, le-ltb, ltb-true, ltb-false}
use Rattle.floats.specs.Value.{value, is_finite, negative, negated, far, far_with, equal, before, least, most}
use Rattle.floats.proofs.Words.{on_case, negative_word, positive_word}
use Rattle.floats.proofs.Finite.{finite_exponent, finite_far, finite_far_with}
use Rattle.floats.proofs.Floats.{word_value}
use Rattle.floats.proofs.Order.{less_is, equal_is}

-- ---- on signs and sizes
abbrev first : Bool → Bool → Bool → Bool
first s t x = cond s (cond t x true) (cond t false x)

no : {A : Type 0} → false ≡ true → A
no e = absurd (subst T (sym e) tt)

less_first : (s t : Bool) (a b : ℕ) → below s a t b ≡ true → (below t b s a ≡ false) × (first s t (below s a t b) ≡ true)
less_first true true a b h = (le-ltb a b (omega (arith, ltb-true b a h)), h)
less_first true false a b h = (refl, refl)
less_first false true a b h = no h
less_first false false a b h = (le-ltb b a (omega (arith, ltb-true a b h)), h)

more_last : (s t : Bool) (a b : ℕ) → below t b s a ≡ true → first s t (below s a t b) ≡ false
more_last true true a b h = le-ltb b a (omega (arith, ltb-true a b h))
more_last true false a b h = no h
more_last false true a b h = refl
more_last false false a b h = le-ltb a b (omega (arith, ltb-true b a h))

neither : (s t : Bool) (a b : ℕ) → below s a t b ≡ false → below t b s a ≡ false → level s a t b ≡ true
neither true true a b h k = rw (eq-eqb a b (omega (arith, ltb-false b a h, ltb-false a b k))) refl
neither true false a b h k = rw (eq-eqb a b (omega (arith, ltb-false 0 (a + b) h)), eq-eqb a 0 (omega (arith, ltb-false 0 (a + b) h))) refl
neither false true a b h k = rw (eq-eqb a b (omega (arith, ltb-false 0 (b + a) k)), eq-eqb a 0 (omega (arith, ltb-false 0 (b + a) k))) refl
neither false false a b h k = rw (eq-eqb a b (omega (arith, ltb-false a b h, ltb-false b a k))) refl

level_means : (s t : Bool) (a b : ℕ) → level s a t b ≡ true → (a ≡ b) × (beq s t || eqb a 0 ≡ true)
level_means s t a b h = on_case (eqb a b)
    (λ e. (eqb-true a b e, rw e at h))
    (λ e. no (rw e at h))

-- ---- two words
pub data Compared : ℕ → ℕ → Type 0 where
  less : {v w : ℕ} → lt (value v) (value w) ≡ true → lt (value w) (value v) ≡ false → before v w ≡ true → Compared v w
  more : {v w : ℕ} → lt (value v) (value w) ≡ false → lt (value w) (value v) ≡ true → before v w ≡ false → Compared v w
  alike : {v w : ℕ} → lt (value v) (value w) ≡ false → lt (value w) (value v) ≡ false → equal v w ≡ true → Compared v w

abbrev pub zero_with : Bool → ℕ
zero_with s = cond s 0x8000_0000 0

pub data Alike : ℕ → ℕ → Type 0 where
  same : {v w : ℕ} → v ≡ w → Alike v w
  zeros : {v w : ℕ} (s : Bool) → v ≡ zero_with s → w ≡ zero_with (not s) → Alike v w

word_of : (w : ℕ) → w < 0x1_0000_0000 → (s : Bool) → negative w ≡ s → w ≡ w % 0x8000_0000 + zero_with s
word_of w l true e = omega (arith, negative_word w e)
word_of w l false e = omega (arith, positive_word w l e)

module _ (v w : ℕ) (lv : v < 0x1_0000_0000) (lw : w < 0x1_0000_0000) (hv : is_finite v ≡ true) (hw : is_finite w ≡ true) where
  a : ℕ
  a = v % 0x8000_0000

  b : ℕ
  b = w % 0x8000_0000

  pub compared : Compared v w
  unfolding before a b
  compared = on_case (lt (value v) (value w))
      (λ e. let f : (below (negative w) b (negative v) a ≡ false) ×
      (first (negative v) (negative w) (below (negative v) a (negative w) b) ≡ true) = less_first (negative v) (negative w) a b (sym L ∙ e) in
      less e (M ∙ f.0) (ap (first (negative v) (negative w)) L ∙ f.1))
      (λ e. on_case (lt (value w) (value v))
      (λ d. more e d (ap (first (negative v) (negative w)) L ∙ more_last (negative v) (negative w) a b (sym M ∙ d)))
      (λ d. alike e d (equal_is v w lv lw hv hw ∙ neither (negative v) (negative w) a b (sym L ∙ e) (sym M ∙ d))))
    where
      L : lt (value v) (value w) ≡ below (negative v) a (negative w) b
      L = less_is v w lv lw hv hw

      M : lt (value w) (value v) ≡ below (negative w) b (negative v) a
      M = less_is w v lw lv hw hv

  -- "Equality at insert is numeric: the two zeros are equal", and no other two words
  pub equal_means : equal v w ≡ true → Alike v w
  unfolding a b
  equal_means e = go (negative v) (negative w) refl refl f.0 f.1
    where
      f : (a ≡ b) × (beq (negative v) (negative w) || eqb a 0 ≡ true)
      f = level_means (negative v) (negative w) a b (sym (equal_is v w lv lw hv hw) ∙ e)

      put : (s : Bool) (n : ℕ) → ℕ
      put s n = n + zero_with s

      go : (s t : Bool) → negative v ≡ s → negative w ≡ t → a ≡ b → beq s t || eqb a 0 ≡ true → Alike v w
      go true true p q d z = same (word_of v lv true p ∙ ap (put true) d ∙ sym (word_of w lw true q))
      go false false p q d z = same (word_of v lv false p ∙ ap (put false) d ∙ sym (word_of w lw false q))
      go true false p q d z = zeros true (word_of v lv true p ∙ ap (put true) (eqb-true a 0 z)) (word_of w lw false q ∙ ap (put false) (sym d ∙ eqb-true a 0 z))
      go false true p q d z = zeros false (word_of v lv false p ∙ ap (put false) (eqb-true a 0 z)) (word_of w lw true q ∙ ap (put true) (sym d ∙ eqb-true a 0 z))

-- ---- least and most are the numerically least and most of the two; of the two zeros, -0 and +0
below_self : (s : Bool) (a : ℕ) → below s a s a ≡ false
below_self true a = le-ltb a a (omega arith)
below_self false a = le-ltb a a (omega arith)

less_self : (x : Float) → lt x x ≡ false
unfolding lt
less_self nan = refl
less_self (inf true) = refl
less_self (inf false) = refl
less_self (fin s m e) = below_self s (m * up e * down e)

cond_one : (b : Bool) (n : ℕ) → cond b n n ≡ n
cond_one true n = refl
cond_one false n = refl

pub least_zeros : (s : Bool) → least (zero_with s) (zero_with (not s)) ≡ 0x8000_0000
unfolding least before negative
least_zeros true = refl
least_zeros false = refl

pub most_zeros : (s : Bool) → most (zero_with s) (zero_with (not s)) ≡ 0
unfolding most before negative
most_zeros true = refl
most_zeros false = refl

alike_has : (P : ℕ → ℕ → Type 0) {v w : ℕ} → Alike v w → ((n : ℕ) → P n n) → ((s : Bool) → P (zero_with s) (zero_with (not s))) → P v w
alike_has P {v} {w} (same e) f g = subst (P v) e (f v)
alike_has P {v} {w} (zeros s d e) f g = subst (λ (n : ℕ). P n w) (sym d) (subst (P (zero_with s)) (sym e) (g s))

module _ (v w : ℕ) (lv : v < 0x1_0000_0000) (lw : w < 0x1_0000_0000) (hv : is_finite v ≡ true) (hw : is_finite w ≡ true) where
  -- either, without a branch: two choices by a comparison of floats, joined bit by bit
  joined : (op : ℕ → ℕ → ℕ) → ((n : ℕ) → op n n ≡ n) → (x y : ℕ) → to_bits binary32 (value x) ≡ x → to_bits binary32 (value y) ≡ y → (equal v w ≡ true → op y x ≡ cond (before v w) x y)
      → {p q : ℕ} → p ≡ to_bits binary32 (cond (lt (value v) (value w)) (value x) (value y)) → q ≡ to_bits binary32 (cond (lt (value w) (value v)) (value y) (value x)) → op p q ≡ cond (before v w) x y
  joined op self x y px py tie p q = ap₂ op p q ∙ go (compared v w lv lw hv hw)
    where
      go : Compared v w → op (to_bits binary32 (cond (lt (value v) (value w)) (value x) (value y))) (to_bits binary32 (cond (lt (value w) (value v)) (value y) (value x))) ≡ cond (before v w) x y
      go (less p q b) = rw (p, q, b) (ap₂ op px px ∙ self x)
      go (more p q b) = rw (p, q, b) (ap₂ op py py ∙ self y)
      go (alike p q e) = rw (p, q) (ap₂ op py px ∙ tie e)

  module _ {x y : Float} (ex : x ≡ value v) (ey : y ≡ value w) {p q : ℕ} where
    pub least_joined : p ≡ to_bits binary32 (cond (lt x y) x y) → q ≡ to_bits binary32 (cond (lt y x) y x) → bit_or p q ≡ least v w
    unfolding least
    least_joined = rw (ex, ey) (joined bit_or or_self v w (word_value v lv hv) (word_value w lw hw) (λ e. alike_has (λ m n. bit_or n m ≡ least m n) (equal_means v w lv lw hv hw e)
        (λ n. or_self n ∙ sym (cond_one (before n n) n))
        (λ s. elim s as (λ k. bit_or (zero_with (not k)) (zero_with k) ≡ least (zero_with k) (zero_with (not k))) [ true ↦ sym (least_zeros true) | false ↦ sym (least_zeros false) ])))

    pub most_joined : p ≡ to_bits binary32 (cond (lt x y) y x) → q ≡ to_bits binary32 (cond (lt y x) x y) → bit_and p q ≡ most v w
    unfolding most
    most_joined = rw (ex, ey) (joined bit_and and_self w v (word_value w lw hw) (word_value v lv hv) (λ e. alike_has (λ m n. bit_and m n ≡ most m n) (equal_means v w lv lw hv hw e)
        (λ n. and_self n ∙ sym (cond_one (before n n) n))
        (λ s. elim s as (λ k. bit_and (zero_with k) (zero_with (not k)) ≡ most (zero_with k) (zero_with (not k))) [ true ↦ sym (most_zeros true) | false ↦ sym (most_zeros false) ])))

  ordered : lt (value (cond (before v w) w v)) (value (cond (before v w) v w)) ≡ false
  ordered = go (compared v w lv lw hv hw)
    where
      either : (b : Bool) → lt (value v) (value w) ≡ false → lt (value w) (value v) ≡ false → lt (value (cond b w v)) (value (cond b v w)) ≡ false
      either true p q = q
      either false p q = p

      go : Compared v w → lt (value (cond (before v w) w v)) (value (cond (before v w) v w)) ≡ false
      go (less p q b) = rw b q
      go (more p q b) = rw b p
      go (alike p q e) = either (before v w) p q

  pub least_lowest : (lt (value v) (value (least v w)) ≡ false) × (lt (value w) (value (least v w)) ≡ false)
  unfolding least
  least_lowest = go (before v w) ordered
    where
      go : (b : Bool) → lt (value (cond b w v)) (value (cond b v w)) ≡ false → (lt (value v) (value (cond b v w)) ≡ false) × (lt (value w) (value (cond b v w)) ≡ false)
      go true o = (less_self (value v), o)
      go false o = (o, less_self (value w))

  pub most_highest : (lt (value (most v w)) (value v) ≡ false) × (lt (value (most v w)) (value w) ≡ false)
  unfolding most
  most_highest = go (before v w) ordered
    where
      go : (b : Bool) → lt (value (cond b w v)) (value (cond b v w)) ≡ false → (lt (value (cond b w v)) (value v) ≡ false) × (lt (value (cond b w v)) (value w) ≡ false)
      go true o = (o, less_self (value w))
      go false o = (less_self (value v), o)

-- ---- far is the largest finite value, and its negation the lowest
module _ (w : ℕ) (l : w < 0x1_0000_0000) (h : is_finite w ≡ true) where
  within : ltb 0x7F7F_FFFF (w % 0x8000_0000) ≡ false
  within = le-ltb 0x7F7F_FFFF (w % 0x8000_0000) (omega (arith, finite_exponent w h))

  pub far_highest : lt (value far) (value w) ≡ false
  unfolding far negative
  far_highest = less_is far w (omega arith) l finite_far h ∙ go (negative w)
    where
      go : (s : Bool) → below false 0x7F7F_FFFF s (w % 0x8000_0000) ≡ false
      go true = refl
      go false = within

  pub far_lowest : lt (value w) (value (negated far)) ≡ false
  unfolding far negative negated far_with
  far_lowest = less_is w (negated far) l (omega arith) h (finite_far_with true) ∙ go (negative w)
    where
      go : (s : Bool) → below s (w % 0x8000_0000) true 0x7F7F_FFFF ≡ false
      go true = within
      go false = refl

-- ---- numeric equality
pub equal_self : (w : ℕ) → is_finite w ≡ true → equal w w ≡ true
unfolding is_finite equal ne
equal_self w h = on_case (eq (value w) (value w))
    (λ e. e)
    (λ e. no (sym (ap finite (differs_from_itself (value w) (subst (λ (b : Bool). T (not b)) (sym e) tt))) ∙ h))

beq_swap : (s t : Bool) → beq s t ≡ beq t s
beq_swap true true = refl
beq_swap true false = refl
beq_swap false true = refl
beq_swap false false = refl

level_swap : (s t : Bool) (a b : ℕ) → level s a t b ≡ level t b s a
level_swap s t a b = on_case (eqb a b)
    (λ e. let q : a ≡ b = eqb-true a b e in ap (λ (n : ℕ). level s n t b) q ∙ ap (λ (x : Bool). eqb b b && (x || eqb b 0)) (beq_swap s t) ∙ ap (λ (n : ℕ). level t b s n) (sym q))
    (λ e. rw (e, ne_eqb b a (λ (q : b ≡ a). eqb-false a b e (sym q))) refl)

eq_swap : (x y : Float) → eq x y ≡ eq y x
unfolding eq
eq_swap nan nan = refl
eq_swap nan (inf t) = refl
eq_swap nan (fin t n d) = refl
eq_swap (inf s) nan = refl
eq_swap (inf s) (inf t) = beq_swap s t
eq_swap (inf s) (fin t n d) = refl
eq_swap (fin s m e) nan = refl
eq_swap (fin s m e) (inf t) = refl
eq_swap (fin s m e) (fin t n d) = level_swap s t (m * up e * down d) (n * up d * down e)

pub equal_swap : (v w : ℕ) → equal v w ≡ equal w v
unfolding equal
equal_swap v w = eq_swap (value v) (value w)
