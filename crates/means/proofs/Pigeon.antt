-- Different numbers below n are at most n. Assumes nothing.
use mathlib.Core.Path.{◌≡◌, sym, ◌∙◌}
use mathlib.Core.Logic.{◌≢◌}
use Prim.Native.Nat.{ℕ, zero, suc, ◌<◌, ◌≤◌}
use native.Mathlib.Decide.{ℕ_discrete}
use native.Mathlib.Omega.{arith}

-- the largest is given the place of the last, and the last is left out
pub pigeon : (m n : ℕ) (f : ℕ → ℕ) → ((i : ℕ) → i < m → f i < n) → ((i j : ℕ) → i < m → j < m → f i ≡ f j → i ≡ j) → m ≤ n
pigeon zero n f low one = omega arith
pigeon (suc m) zero f low one = absurd (omega (arith, low m (omega arith)))
pigeon (suc m) (suc n) f low one = omega (arith, pigeon m n g (λ i h. low_g i h (ℕ_discrete (f i) n)) (λ i j h h' e. one_g i j h h' (ℕ_discrete (f i) n) (ℕ_discrete (f j) n) e))
  where
    pick : (i : ℕ) → Dec (f i ≡ n) → ℕ
    pick i (yes e) = f m
    pick i (no e) = f i

    g : ℕ → ℕ
    g i = pick i (ℕ_discrete (f i) n)

    low_g : (i : ℕ) → i < m → (d : Dec (f i ≡ n)) → pick i d < n
    low_g i h (yes e) = let ne : f m ≢ n = λ d. absurd (last i h (one i m (omega arith) (omega arith) (e ∙ sym d))) in omega (arith, low m (omega arith))
      where
        last : (i : ℕ) → i < m → i ≡ m → ⊥
        last i h e = omega arith
    low_g i h (no ne) = omega (arith, low i (omega arith))

    one_g : (i j : ℕ) → i < m → j < m → (d : Dec (f i ≡ n)) (d' : Dec (f j ≡ n)) → pick i d ≡ pick j d' → i ≡ j
    one_g i j h h' (yes a) (yes b) e = one i j (omega arith) (omega arith) (a ∙ sym b)
    one_g i j h h' (yes a) (no b) e = absurd (omega (arith, one m j (omega arith) (omega arith) e))
    one_g i j h h' (no a) (yes b) e = absurd (omega (arith, one i m (omega arith) (omega arith) e))
    one_g i j h h' (no a) (no b) e = one i j (omega arith) (omega arith) e
