-- The binary digits of a number, under each operation that the code has. Nothing here is of lists or sets. Assumes nothing.
use mathlib.Core.Path.{◌≡◌, refl, sym, ap, ap₂, ◌∙◌, subst}
use mathlib.Core.Logic.{◌⊎◌, inl, inr}
use mathlib.Core.Bool.{Bool, true, false, not}
use Prim.Native.Nat.{ℕ, zero, suc, ◌+◌, ◌-◌, ◌*◌, ◌/◌, ◌%◌, ◌^◌, ◌≤◌, ◌<◌}
use native.Mathlib.Nat.{zero-div, div-one, div-eq_of_lt, mod-lt, mul-mod_left, mul_assoc, add-mul, pow-suc, zero-lt-suc}
use native.Mathlib.Omega.{arith}
use lib.Dec.{T, eqb, ltb, ltb→lt, nltb→le}
use lib.Arith.{digits_div, lt_of_le-ne}
use lib.Pow.{pow_pos, pow-lt, pow-add, shl-shr, shr-shr, split, field, mod-mod-pow, shr_lt}
use borrow.Author.Tests.{eqb-true, eqb-false}

-- ---- two numbers compared
pub lt_or_le : (a b : ℕ) → (a < b) ⊎ (b ≤ a)
lt_or_le a b = go (ltb a b) (ltb→lt a b) (nltb→le a b)
  where
    go : (t : Bool) → (T t → a < b) → (T (not t) → b ≤ a) → (a < b) ⊎ (b ≤ a)
    go true p q = inl (p tt)
    go false p q = inr (q tt)

pub is_or_not : (a b : ℕ) → (a ≡ b) ⊎ (a ≡ b → ⊥)
is_or_not a b = go (eqb a b) refl
  where
    go : (t : Bool) → eqb a b ≡ t → (a ≡ b) ⊎ (a ≡ b → ⊥)
    go true e = inl (eqb-true a b e)
    go false e = inr (eqb-false a b e)

-- ---- the digit of weight 2 ^ k
abbrev pub digit : ℕ → ℕ → ℕ
digit k n = n / 2 ^ k % 2

pub digit_lt : (k n : ℕ) → digit k n < 2
digit_lt k n = mod-lt (n / 2 ^ k) (zero-lt-suc 1)

-- a digit is 0 or 1
pub bits2 : (P : ℕ → Type 0) (d : ℕ) → d < 2 → P 0 → P 1 → P d
bits2 P zero h p q = p
bits2 P (suc d) h p q = let e : 1 ≡ suc d = omega arith in subst P e q

pub digit_zero : (k : ℕ) → digit k 0 ≡ 0
digit_zero k = ap (λ (x : ℕ). x % 2) (zero-div (2 ^ k))

-- a number below 2 ^ k has no digit at k
pub digit_above : (k n : ℕ) → n < 2 ^ k → digit k n ≡ 0
digit_above k n h = ap (λ (x : ℕ). x % 2) (div-eq_of_lt h)

-- ---- a shift to the right
pub digit_shr : (k s n : ℕ) → digit k (n / 2 ^ s) ≡ digit (s + k) n
digit_shr k s n = ap (λ (x : ℕ). x % 2) (shr-shr n s k)

-- ---- a shift to the left, in 64 digits
pub digit_shl_high : (k s a : ℕ) → s ≤ k → digit k (a * 2 ^ s) ≡ digit (k - s) a
digit_shl_high k s a h =
    let e : s + (k - s) ≡ k = omega arith in
    ap (λ (j : ℕ). digit j (a * 2 ^ s)) (sym e) ∙ sym (digit_shr (k - s) s (a * 2 ^ s)) ∙ ap (λ (x : ℕ). digit (k - s) x) (shl-shr a s)

pub digit_shl_low : (k s a : ℕ) → k < s → digit k (a * 2 ^ s) ≡ 0
digit_shl_low k s a h =
    let d = s - suc k in
    let e : s ≡ suc d + k = omega arith in
    let p : a * 2 ^ s ≡ a * 2 ^ d * 2 * 2 ^ k = ap (λ (j : ℕ). a * 2 ^ j) e ∙ ap (λ (x : ℕ). a * x) (pow-add 2 (suc d) k ∙ ap (λ (x : ℕ). x * 2 ^ k) (pow-suc 2 d)) ∙ sym
    (mul_assoc a (2 ^ d * 2) (2 ^ k)) ∙ ap (λ (x : ℕ). x * 2 ^ k) (sym (mul_assoc a (2 ^ d) 2)) in
    ap (λ (x : ℕ). x / 2 ^ k % 2) p ∙ ap (λ (x : ℕ). x % 2) (shl-shr (a * 2 ^ d * 2) k) ∙ mul-mod_left (a * 2 ^ d) 2

digit_mod : (k j n : ℕ) → digit k (n % 2 ^ (suc j + k)) ≡ digit k n
digit_mod k j n =
    let e : suc j ≡ j + 1 = omega arith in
    ap (λ (x : ℕ). x % 2) (field n (suc j) k) ∙ ap (λ (m : ℕ). n / 2 ^ k % 2 ^ m % 2) e ∙ mod-mod-pow (n / 2 ^ k) j 1

pub digit_mod64 : (k n : ℕ) → k < 64 → digit k (n % 2 ^ 64) ≡ digit k n
digit_mod64 k n h =
    let e : suc (63 - k) + k ≡ 64 = omega arith in
    subst (λ (m : ℕ). digit k (n % 2 ^ m) ≡ digit k n) e (digit_mod k (63 - k) n)

-- ---- a power of two has one digit
one_mul : (x : ℕ) → 1 * x ≡ x
one_mul x = omega arith

pub digit_pow_same : (k : ℕ) → digit k (2 ^ k) ≡ 1
digit_pow_same k = ap (λ (x : ℕ). x / 2 ^ k % 2) (sym (one_mul (2 ^ k))) ∙ ap (λ (x : ℕ). x % 2) (shl-shr 1 k)

pub digit_pow_other : (j k : ℕ) → (k ≡ j → ⊥) → digit k (2 ^ j) ≡ 0
digit_pow_other j k ne = elim (lt_or_le k j) [
  | inl h ↦ ap (λ (x : ℕ). digit k x) (sym (one_mul (2 ^ j))) ∙ digit_shl_low k j 1 h
  | inr h ↦ digit_above k (2 ^ j) (pow-lt (lt_of_le-ne h (λ e. ne (sym e))))
]

-- ---- the complement in m + 1 digits above the k lowest
pub digit_not : (m k a : ℕ) → a < 2 ^ (suc m + k) → digit k (2 ^ (suc m + k) - 1 - a) ≡ 1 - digit k a
digit_not m k a h =
    let P = 2 ^ k in
    let x = a / P in
    let p : 0 < P = pow_pos k in
    let xl : x < 2 ^ suc m = shr_lt (suc m) k h in
    let M : 2 ^ suc m ≡ 2 ^ m * 2 = pow-suc 2 m in
    let y = 2 ^ m * 2 - 1 - x in
    let N : 2 ^ (suc m + k) ≡ y * P + x * P + P = pow-add 2 (suc m) k ∙ ap (λ (z : ℕ). z * P) (M ∙ back (2 ^ m * 2) x (subst (λ (z : ℕ). x < z) M xl)) ∙ spread y x P in
    let A : x * P + a % P ≡ a = split a k in
    let r : a % P < P = mod-lt a p in
    let e : 2 ^ (suc m + k) - 1 - a ≡ y * P + (P - 1 - a % P) = omega arith in
    ap (λ (z : ℕ). z / P % 2) e ∙ ap (λ (z : ℕ). z % 2) (digits_div y (small P (a % P) p)) ∙ parity (2 ^ m) x (subst (λ (z : ℕ). x < z) M xl)
  where
    back : (n x : ℕ) → x < n → n ≡ n - 1 - x + x + 1
    back n x h = omega arith

    spread : (y x p : ℕ) → (y + x + 1) * p ≡ y * p + x * p + p
    spread y x p = add-mul (y + x) 1 p ∙ ap₂ (λ (u v : ℕ). u + v) (add-mul y x p) (one_mul p)

    small : (p r : ℕ) → 0 < p → p - 1 - r < p
    small p r h = omega arith

    parity : (h x : ℕ) → x < h * 2 → (h * 2 - 1 - x) % 2 ≡ 1 - x % 2
    parity h x l = omega arith

-- ---- two numbers of n digits are equal where their digits are
pub digits_ext : (n a b : ℕ) → a < 2 ^ n → b < 2 ^ n → ((k : ℕ) → k < n → digit k a ≡ digit k b) → a ≡ b
digits_ext zero a b ha hb h = omega arith
digits_ext (suc n) a b ha hb h =
    let e : a / 2 ≡ b / 2 = digits_ext n (a / 2) (b / 2) (half a n ha) (half b n hb)
    (λ k l. digit_shr k 1 a ∙ ap (λ (j : ℕ). digit j a) (one_add k) ∙ h (suc k) (omega arith) ∙ ap (λ (j : ℕ). digit j b) (sym (one_add k)) ∙ sym (digit_shr k 1 b)) in
    let o : a % 2 ≡ b % 2 = ap (λ (x : ℕ). x % 2) (sym (div-one a)) ∙ h 0 (omega arith) ∙ ap (λ (x : ℕ). x % 2) (div-one b) in
    omega arith
  where
    half : (a n : ℕ) → a < 2 ^ suc n → a / 2 < 2 ^ n
    half a n h = let e : 2 ^ suc n ≡ 2 ^ n * 2 = pow-suc 2 n in omega arith

    one_add : (k : ℕ) → 1 + k ≡ suc k
    one_add k = omega arith
