-- Sums over the numbers below m. Assumes nothing.
use mathlib.Core.Path.{◌≡◌, refl, sym, ap, ◌∙◌}
use mathlib.Core.Logic.{◌≢◌}
use mathlib.Core.Bool.{cond}
use Prim.Native.Nat.{ℕ, zero, suc, ◌+◌, ◌-◌, ◌*◌, ◌<◌, ◌≤◌}
use native.Mathlib.Nat.{add-zero, add-suc, mul-zero, mul-suc}
use native.Mathlib.Decide.{ℕ_discrete}
use native.Mathlib.Omega.{arith}
use lib.Dec.{ltb}
use borrow.Author.Tests.{lt-ltb, le-ltb}
use Rattle.grid.specs.Node.{sum}
use Rattle.grid.proofs.Places.{sum_same, sum_zero, sum_at, sum_only}

-- all but place d hold 0
pub sum_one : (m : ℕ) (f : ℕ → ℕ) (d : ℕ) → d < m → ((c : ℕ) → c < m → c ≢ d → f c ≡ 0) → sum m f ≡ f d
sum_one m f d l h = omega (arith, sum_at m f d l, sum_only m f d h)

pub sum_add : (m : ℕ) (f g : ℕ → ℕ) → sum m (λ c. f c + g c) ≡ sum m f + sum m g
unfolding sum
sum_add zero f g = refl
sum_add (suc m) f g = omega (arith, sum_add m f g)

pub sum_swap : (n m : ℕ) (f : ℕ → ℕ → ℕ) → sum n (λ a. sum m (f a)) ≡ sum m (λ b. sum n (λ a. f a b))
unfolding sum
sum_swap zero m f = sym (sum_zero m (λ b. 0) (λ c l. refl))
sum_swap (suc n) m f = omega (arith, sum_swap n m f, sum_add m (f n) (λ b. sum n (λ a. f a b)))

pub sum_ones : (m : ℕ) → sum m (λ i. 1) ≡ m
unfolding sum
sum_ones zero = refl
sum_ones (suc m) = omega (arith, sum_ones m)

-- over fewer of them
pub sum_front : (k m : ℕ) (f : ℕ → ℕ) → k ≤ m → sum k f ≤ sum m f
unfolding sum
sum_front zero m f h = omega arith
sum_front (suc k) zero f h = absurd (omega arith)
sum_front (suc k) (suc m) f h = go (ℕ_discrete k m) (sum_front (suc k) m f)
  where
    go : Dec (k ≡ m) → (suc k ≤ m → f k + sum k f ≤ sum m f) → f k + sum k f ≤ f m + sum m f
    go (yes e) ih = omega (arith, ap (λ (i : ℕ). f i + sum i f) e)
    go (no ne) ih = omega (arith, ih (omega arith))

-- over the first numbers and over the rest
pub sum_append : (m k : ℕ) (f : ℕ → ℕ) → sum (m + k) f ≡ sum m f + sum k (λ i. f (m + i))
unfolding sum
sum_append m zero f = ap (λ (i : ℕ). sum i f) (add-zero m) ∙ sym (add-zero (sum m f))
sum_append m (suc k) f = omega (arith, ap (λ (i : ℕ). sum i f) (add-suc m k), sum_append m k f)

-- over rows of w numbers
pub sum_rows : (w m : ℕ) (f : ℕ → ℕ) → sum m (λ j. sum w (λ i. f (w * j + i))) ≡ sum (w * m) f
unfolding sum
sum_rows w zero f = ap (λ (i : ℕ). sum i f) (sym (mul-zero w))
sum_rows w (suc m) f = omega (arith, sum_rows w m f, sum_append (w * m) w f, ap (λ (i : ℕ). sum i f) (mul-suc w m))

-- those from k on hold 0
pub sum_cut : (k m : ℕ) (f : ℕ → ℕ) → k ≤ m → sum m (λ i. cond (ltb i k) (f i) 0) ≡ sum k f
sum_cut k m f h =
    let e : m ≡ k + (m - k) = omega arith in
    let g : ℕ → ℕ = λ i. cond (ltb i k) (f i) 0 in
    omega (
      arith,
      ap (λ (i : ℕ). sum i g) e,
      sum_append k (m - k) g,
      sum_same k g f (λ i l. rw (lt-ltb i k l) refl),
      sum_zero (m - k) (λ i. g (k + i)) (λ i l. rw (le-ltb (k + i) k (omega arith)) refl),
    )
