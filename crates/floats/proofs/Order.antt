-- The order of finite words: as numbers they compare as their bits do, by sign and then by size (`less_is`, `equal_is`). Assumes nothing.
use mathlib.Core.Path.{◌≡◌, refl, sym, ap, ap₂, ◌∙◌, subst}
use mathlib.Core.Bool.{Bool, true, false, not, ◌&&◌, ◌||◌, beq}
use Prim.Native.Nat.{ℕ, zero, suc, ◌+◌, ◌-◌, ◌*◌, ◌/◌, ◌%◌, ◌^◌, ◌<◌, ◌≤◌}
use native.Mathlib.Nat.{mul_assoc, mul_right_comm, mul-pos, pow-suc, zero-mul, mul-lt-mul_of_pos_right, mul-le-mul_right, lt_of_mul-lt-mul_right, le_of_mul-le-mul_right}
use native.Mathlib.Omega.{arith}
use lib.Pow.{pow_pos}
use lib.Dec.{ltb, leb, eqb}
use lib.Ieee.{Float, nan, inf, fin, binary32, up, down, odd, of_fields, of_bits, lt, eq, below, level}
use lib.Ieee.Exact.{HasValue, odd_sign}
use lib.Ieee.Fits.{down_pos}
use borrow.Author.Tests.{eq-eqb, ne_eqb, lt-ltb, le-ltb, ltb-true, ltb-false}
use Rattle.floats.specs.Value.{value, is_finite, negative, equal}
use Rattle.floats.proofs.Words.{on_case, negative_is_lem}
use Rattle.floats.proofs.Finite.{finite_exponent}

-- ---- the size in units of the smallest value: of the exponent's field and the digits; of the 31 bits
size_f : ℕ → ℕ → ℕ
size_f zero t = t
size_f (suc x) t = (8388608 + t) * 2 ^ x

size_b : ℕ → ℕ
unfolding size_f
size_b m = size_f (m / 8388608) (m % 8388608)

next_field : (x : ℕ) → size_f x 8388607 < size_f (suc x) 0
unfolding size_f
next_field zero = omega arith
next_field (suc x) = omega (arith, pow-suc 2 x, pow_pos x)

next_digit : (x t : ℕ) → size_f x t < size_f x (t + 1)
unfolding size_f
next_digit zero t = omega arith
next_digit (suc x) t = mul-lt-mul_of_pos_right {m = 8388608 + t} {n = 8388608 + (t + 1)} (omega arith) (pow_pos x)

step : (m : ℕ) → size_b m < size_b (m + 1)
unfolding size_b
step m = on_case (ltb (m % 8388608) 8388607)
    (λ e. let t : m % 8388608 < 8388607 = ltb-true _ _ e in
    let f : m / 8388608 ≡ (m + 1) / 8388608 = omega arith in
    let z : m % 8388608 + 1 ≡ (m + 1) % 8388608 = omega arith in
    subst (λ (j : ℕ). size_f (m / 8388608) (m % 8388608) < j) (ap₂ size_f f z) (next_digit (m / 8388608) (m % 8388608)))
    (λ e. let t : 8388607 ≤ m % 8388608 = ltb-false _ _ e in
    let f : suc (m / 8388608) ≡ (m + 1) / 8388608 = omega arith in
    let z : 0 ≡ (m + 1) % 8388608 = omega arith in
    let l : 8388607 ≡ m % 8388608 = omega arith in
    subst (λ (j : ℕ). size_f (m / 8388608) (m % 8388608) < j) (ap₂ size_f f z) (subst (λ (j : ℕ). size_f (m / 8388608) j < size_f (suc (m / 8388608)) 0) l (next_field (m / 8388608))))

size_le : (m n : ℕ) → m ≤ n → size_b m ≤ size_b n
size_le m n h = let e : m + (n - m) ≡ n = omega arith in subst (λ (j : ℕ). size_b m ≤ size_b j) e (rise (n - m))
  where
    rise : (k : ℕ) → size_b m ≤ size_b (m + k)
    rise zero = let e : m ≡ m + 0 = omega arith in omega (arith, ap size_b e)
    rise (suc k) = let e : m + k + 1 ≡ m + suc k = omega arith in omega (arith, rise k, step (m + k), ap size_b e)

size_lt : (m n : ℕ) → m < n → size_b m < size_b n
size_lt m n h = omega (arith, step m, size_le (m + 1) n (omega arith))

-- ---- p / K is the size of the 31 bits m over c: so two such compare as their bits
abbrev Sized : ℕ → ℕ → ℕ → ℕ → Type 0
Sized c K p m = p * c ≡ size_b m * K

eqb_is : (a b : ℕ) → eqb a b ≡ not (ltb a b) && not (ltb b a)
eqb_is a b = on_case (ltb a b)
    (λ e. rw e (ne_eqb a b (λ (q : a ≡ b). omega (arith, ltb-true a b e))))
    (λ e. on_case (ltb b a)
    (λ d. rw (e, d) (ne_eqb a b (λ (q : a ≡ b). omega (arith, ltb-true b a d))))
    (λ d. rw (e, d) (eq-eqb a b (omega (arith, ltb-false a b e, ltb-false b a d)))))

some_is : (a b : ℕ) → ltb 0 (a + b) ≡ ltb 0 a || ltb 0 b
some_is a b = on_case (ltb 0 a)
    (λ e. lt-ltb 0 (a + b) (omega (arith, ltb-true 0 a e)) ∙ sym (rw e refl))
    (λ e. let z : a + b ≡ b = omega (arith, ltb-false 0 a e) in ap (ltb 0) z ∙ sym (rw e refl))

module _ (c K : ℕ) (hc : 0 < c) (hK : 0 < K) where
  none : Sized c K 0 0
  unfolding size_b size_f
  none = zero-mul c ∙ sym (zero-mul K)

  kept : (p q m n : ℕ) → Sized c K p m → Sized c K q n → ltb p q ≡ ltb m n
  kept p q m n a b = on_case (ltb m n)
      (λ e. lt-ltb p q (lt_of_mul-lt-mul_right c (omega (arith, a, b, mul-lt-mul_of_pos_right (size_lt m n (ltb-true m n e)) hK))) ∙ sym e)
      (λ e. le-ltb p q (le_of_mul-le-mul_right (omega (arith, a, b, mul-le-mul_right K (size_le n m (ltb-false m n e)))) hc) ∙ sym e)

  module _ (p q m n : ℕ) (a : Sized c K p m) (b : Sized c K q n) where
    below_kept : (s t : Bool) → below s p t q ≡ below s m t n
    below_kept true true = kept q p n m b a
    below_kept true false = some_is p q ∙ ap₂ ◌||◌ (kept 0 p 0 m none a) (kept 0 q 0 n none b) ∙ sym (some_is m n)
    below_kept false true = refl
    below_kept false false = kept p q m n a b

    eqb_kept : eqb p q ≡ eqb m n
    eqb_kept = eqb_is p q ∙ ap₂ (λ (x y : Bool). not x && not y) (kept p q m n a b) (kept q p n m b a) ∙ sym (eqb_is m n)

  level_kept : (p q m n : ℕ) → Sized c K p m → Sized c K q n → (s t : Bool) → level s p t q ≡ level s m t n
  level_kept p q m n a b s t = ap₂ (λ (x y : Bool). x && (beq s t || y)) (eqb_kept p q m n a b) (eqb_kept p 0 m 0 a none)

-- ---- a finite word's float has the sign and the size of the word
fields : (s : Bool) (x t : ℕ) → x < 255 → HasValue (of_fields binary32 s x t) s (size_f x t) (2 ^ 149)
unfolding of_fields size_f
fields s zero t h = subst (λ (z : ℕ). HasValue (odd 24 s t 0 149) s z (2 ^ 149)) (omega arith) (odd_sign 24 s t 0 149)
fields s (suc x) t h = rw (ne_eqb (suc x) 255 (λ (e : suc x ≡ 255). omega arith)) (odd_sign 24 s (8388608 + t) x 149)

word_has : (w : ℕ) → w < 0x1_0000_0000 → is_finite w ≡ true → HasValue (value w) (negative w) (size_b (w % 0x8000_0000)) (2 ^ 149)
unfolding of_bits size_b
word_has w l h =
    let t : w % 8388608 ≡ w % 0x8000_0000 % 8388608 = omega arith in
    rw (negative_is_lem w l, sym t) (fields (leb 0x8000_0000 w) (w % 0x8000_0000 / 8388608) (w % 8388608) (finite_exponent w h))

-- "Sign is the sign bit": of the float as of the word
abbrev pub sign : Float → Bool
sign nan = false
sign (inf s) = s
sign (fin s m e) = s

pub negative_value : (w : ℕ) → w < 0x1_0000_0000 → is_finite w ≡ true → sign (value w) ≡ negative w
negative_value w l h = go (value w) (word_has w l h)
  where
    go : (x : Float) → HasValue x (negative w) (size_b (w % 0x8000_0000)) (2 ^ 149) → sign x ≡ negative w
    go nan g = absurd g
    go (inf s) g = absurd g
    go (fin s m e) g = g.0

-- what two floats are to each other, by their values over one denominator
module _ (c : ℕ) (hc : 0 < c) (k l : ℕ) where
  common : (x y : Float) (s t : Bool) → HasValue x s (size_b k) c → HasValue y t (size_b l) c → (lt x y ≡ below s k t l) × (eq x y ≡ level s k t l)
  unfolding lt eq
  common nan y s t h g = absurd h
  common (inf s') y s t h g = absurd h
  common (fin s' m e) nan s t h g = absurd g
  common (fin s' m e) (inf t') s t h g = absurd g
  common (fin s' m e) (fin t' n d) s t h g =
      let P : Sized c (down e * down d) (m * up e * down d) k = mul_right_comm (m * up e) (down d) c ∙ ap (λ (z : ℕ). z * down d) h.1 ∙ mul_assoc (size_b k) (down e) (down d) in
      let Q : Sized c (down e * down d) (n * up d * down e) l = mul_right_comm (n * up d) (down e) c ∙ ap (λ (z : ℕ). z * down e) g.1 ∙ mul_right_comm (size_b l) (down d) (down e)
      ∙ mul_assoc (size_b l) (down e) (down d) in
      let K : 0 < down e * down d = mul-pos (down_pos e) (down_pos d) in
      let p = m * up e * down d in
      let q = n * up d * down e in (
        ap₂ (λ (i j : Bool). below i p j q) h.0 g.0 ∙ below_kept c (down e * down d) hc K p q k l P Q s t,
        ap₂ (λ (i j : Bool). level i p j q) h.0 g.0 ∙ level_kept c (down e * down d) hc K p q k l P Q s t,
      )

module _ (v w : ℕ) (lv : v < 0x1_0000_0000) (lw : w < 0x1_0000_0000) (hv : is_finite v ≡ true) (hw : is_finite w ≡ true) where
  both : (lt (value v) (value w) ≡ below (negative v) (v % 0x8000_0000) (negative w) (w % 0x8000_0000)) × (eq (value v) (value w) ≡ level (negative v) (v % 0x8000_0000) (negative w) (w % 0x8000_0000))
  both = common (2 ^ 149) (pow_pos 149) (v % 0x8000_0000) (w % 0x8000_0000) (value v) (value w) (negative v) (negative w) (word_has v lv hv) (word_has w lw hw)

  pub less_is : lt (value v) (value w) ≡ below (negative v) (v % 0x8000_0000) (negative w) (w % 0x8000_0000)
  less_is = both.0

  pub equal_is : equal v w ≡ level (negative v) (v % 0x8000_0000) (negative w) (w % 0x8000_0000)
  unfolding equal
  equal_is = both.1
