-- One slot of a node, or one seat, changed; the tests and sums over slots. Assumes nothing.
use mathlib.Core.Path.{◌≡◌, refl, sym, subst, ap, ap₂, ◌∙◌, fun_ext}
use mathlib.Core.Bool.{Bool, true, false, cond, ◌&&◌, false≢true}
use Prim.Native.Nat.{ℕ, zero, suc, ◌+◌, ◌%◌, ◌<◌, ◌≤◌}
use native.Mathlib.Nat.{not-suc-le-zero, mod-eq_of_lt, mod-lt}
use native.Mathlib.Decide.{ℕ_discrete}
use native.Mathlib.Omega.{arith}
use lib.Dec.{eqb, eqb→eq, eqb_refl, T}
use Rattle.grid.specs.Node.{changed, put, every, sum}

pub put_at : {A : Type 0} (P : A → Type 0) (f : ℕ → A) (i : ℕ) (a : A) (j : ℕ) → (j ≡ i → P a) → ((j ≡ i → ⊥) → P (f j)) → P (put f i a j)
unfolding put
put_at P f i a j yes' no' = go (eqb j i) refl
  where
    go : (k : Bool) → eqb j i ≡ k → P (cond k a (f j))
    go true e = yes' (eqb→eq j i (subst T (sym e) tt))
    go false e = no' (λ h. subst T e (subst (λ (x : ℕ). T (eqb x i)) (sym h) (eqb_refl i)))

pub cond_at : {A : Type 0} (P : A → Type 0) (k : Bool) (a b : A) → (k ≡ true → P a) → (k ≡ false → P b) → P (cond k a b)
cond_at P true a b f g = f refl
cond_at P false a b f g = g refl

pub put_same : {A : Type 0} (f : ℕ → A) (i : ℕ) (a : A) → put f i a i ≡ a
put_same f i a = put_at (λ x. x ≡ a) f i a i (λ h. refl) (λ h. absurd (h refl))

and_both : (a b : Bool) → (a && b) ≡ true → (a ≡ true) × (b ≡ true)
and_both true b e = (refl, e)
and_both false b e = absurd (false≢true e)

pub every_at : {A : Type 0} (f : A → Bool) (k : ℕ) (n : ℕ → A) (i : ℕ) → every f k n ≡ true → i < k → f (n i) ≡ true
unfolding every
every_at f zero n i e h = absurd (not-suc-le-zero h)
every_at f (suc k) n i e h = go (ℕ_discrete i k) (every_at f k n i)
  where
    both : (f (n k) ≡ true) × (every f k n ≡ true)
    both = and_both (f (n k)) (every f k n) e

    go : Dec (i ≡ k) → (every f k n ≡ true → i < k → f (n i) ≡ true) → f (n i) ≡ true
    go (yes g) ih = subst (λ (x : ℕ). f (n x) ≡ true) (sym g) both.0
    go (no g) ih = ih both.1 (omega arith)

pub every_all : {A : Type 0} (f : A → Bool) (k : ℕ) (n : ℕ → A) → ((i : ℕ) → f (n i) ≡ true) → every f k n ≡ true
unfolding every
every_all f zero n h = refl
every_all f (suc k) n h = ap₂ ◌&&◌ (h k) (every_all f k n h)

pub every_same : {A : Type 0} (f : A → Bool) (k : ℕ) (n m : ℕ → A) → ((i : ℕ) → f (n i) ≡ f (m i)) → every f k n ≡ every f k m
unfolding every
every_same f zero n m h = refl
every_same f (suc k) n m h = ap₂ ◌&&◌ (h k) (every_same f k n m h)

pub sum_same : (k : ℕ) (f g : ℕ → ℕ) → ((j : ℕ) → j < k → f j ≡ g j) → sum k f ≡ sum k g
unfolding sum
sum_same zero f g h = refl
sum_same (suc k) f g h = ap₂ ◌+◌ (h k (omega arith)) (sum_same k f g (λ j l. h j (omega arith)))

pub sum_zero : (k : ℕ) (f : ℕ → ℕ) → ((j : ℕ) → j < k → f j ≡ 0) → sum k f ≡ 0
unfolding sum
sum_zero zero f h = refl
sum_zero (suc k) f h = omega (arith, h k (omega arith), sum_zero k f (λ j l. h j (omega arith)))

pub sum_le : (k : ℕ) (f g h : ℕ → ℕ) → ((j : ℕ) → f j ≤ g j + h j) → sum k f ≤ sum k g + sum k h
unfolding sum
sum_le zero f g h l = omega arith
sum_le (suc k) f g h l = omega (arith, l k, sum_le k f g h l)

pub sum_at : (k : ℕ) (f : ℕ → ℕ) (i : ℕ) → i < k → f i ≤ sum k f
unfolding sum
sum_at zero f i h = omega arith
sum_at (suc k) f i h = go (ℕ_discrete i k) (sum_at k f i)
  where
    go : Dec (i ≡ k) → (i < k → f i ≤ sum k f) → f i ≤ f k + sum k f
    go (yes g) ih = subst (λ (x : ℕ). f i ≤ f x + sum k f) g (omega arith)
    go (no g) ih = omega (arith, ih (omega arith))

below : (i j k : ℕ) → i ≡ k → j ≡ i → j < k → ⊥
below i j k e e' l = omega arith

-- one place changed: the sum changes by what stands there
pub sum_put : {A : Type 0} (g : A → ℕ) (k : ℕ) (n : ℕ → A) (i : ℕ) (a : A) → i < k
    → sum k (λ j. g (put n i a j)) + g (n i) ≡ sum k (λ j. g (n j)) + g a
unfolding sum
sum_put g zero n i a h = absurd (not-suc-le-zero h)
sum_put g (suc k) n i a h = go (ℕ_discrete i k) (sum_put g k n i a)
  where
    go : Dec (i ≡ k) → (i < k → sum k (λ j. g (put n i a j)) + g (n i) ≡ sum k (λ j. g (n j)) + g a)
        → g (put n i a k) + sum k (λ j. g (put n i a j)) + g (n i) ≡ g (n k) + sum k (λ j. g (n j)) + g a
    go (yes e) ih =
        omega (
          arith,
          ap g (put_at (λ x. x ≡ a) n i a k (λ _. refl) (λ ne. absurd (ne (sym e)))),
          ap (λ (x : ℕ). g (n x)) e,
          sum_same k (λ j. g (put n i a j)) (λ j. g (n j)) (λ j l. ap g (put_at (λ x. x ≡ n j) n i a j (λ e'. absurd (below i j k e e' l)) (λ _. refl))),
        )
    go (no e) ih = omega (arith, ih (omega arith), ap g (put_at (λ x. x ≡ n k) n i a k (λ e'. absurd (e (sym e'))) (λ _. refl)))

pub sum_only : (k : ℕ) (f : ℕ → ℕ) (i : ℕ) → ((j : ℕ) → j < k → (j ≡ i → ⊥) → f j ≡ 0) → sum k f ≤ f i
unfolding sum
sum_only zero f i h = omega arith
sum_only (suc k) f i h = go (ℕ_discrete k i) (sum_only k f i (λ j l. h j (omega arith)))
  where
    go : Dec (k ≡ i) → sum k f ≤ f i → f k + sum k f ≤ f i
    go (yes e) ih =
        omega (arith, ap f e, sum_zero k f (λ j l. h j (omega arith) (λ e'. absurd (below i j k (sym e) e' l))))
    go (no e) ih = omega (arith, h k (omega arith) e)

-- slot k of a changed node: by cases on whether it is the changed one
pub changed_at : {A : Type 0} (P : A → Type 0) (m i : ℕ) (f : A → A) (n : ℕ → A) (k : ℕ) → (k % m ≡ i → P (f (n k))) → ((k % m ≡ i → ⊥) → P (n k)) → P (changed m i f n k)
unfolding changed
changed_at P m i f n k yes' no' = go (eqb (k % m) i) refl
  where
    go : (x : Bool) → eqb (k % m) i ≡ x → P (cond x (f (n k)) (n k))
    go true e = yes' (eqb→eq (k % m) i (subst T (sym e) tt))
    go false e = no' (λ h. subst T e (subst (λ (x : ℕ). T (eqb x i)) (sym h) (eqb_refl i)))

-- the changed slot
pub changed_same : {A : Type 0} (m i : ℕ) (f : A → A) (n : ℕ → A) → i < m → changed m i f n i ≡ f (n i)
changed_same m i f n l = changed_at (λ x. x ≡ f (n i)) m i f n i (λ _. refl) (λ h. absurd (h (mod-eq_of_lt l)))

-- within the node it is one place put
pub changed_put : {A : Type 0} (m i : ℕ) (f : A → A) (n : ℕ → A) (k : ℕ) → k < m → changed m i f n k ≡ put n i (f (n i)) k
unfolding changed put
changed_put m i f n k l = rw (mod-eq_of_lt l) (go (eqb k i) refl)
  where
    go : (x : Bool) → eqb k i ≡ x → cond x (f (n k)) (n k) ≡ cond x (f (n i)) (n k)
    go true e = ap (λ (j : ℕ). f (n j)) (eqb→eq k i (subst T (sym e) tt))
    go false e = refl

-- one slot changed: the sum changes by what stands there
pub sum_changed : {A : Type 0} (g : A → ℕ) (m i : ℕ) (f : A → A) (n : ℕ → A) → i < m
    → sum m (λ j. g (changed m i f n j)) + g (n i) ≡ sum m (λ j. g (n j)) + g (f (n i))
sum_changed g m i f n l =
    omega (
      arith,
      sum_same m (λ j. g (changed m i f n j)) (λ j. g (put n i (f (n i)) j)) (λ j h. ap g (changed_put m i f n j h)),
      sum_put g m n i (f (n i)) l,
    )

-- how a changed node is shown to be one slot changed: every number, not only those below m
pub changed_is : {A : Type 0} (m i : ℕ) (f : A → A) (n n' : ℕ → A) → ((k : ℕ) → k % m ≡ i → n' k ≡ f (n k)) → ((k : ℕ) → (k % m ≡ i → ⊥) → n' k ≡ n k) → n' ≡ changed m i f n
changed_is m i f n n' h g = fun_ext (λ k. changed_at (λ x. n' k ≡ x) m i f n k (h k) (g k))

-- two nodes read modulo m that agree below m are equal
pub round_is : {A : Type 0} (m : ℕ) → 0 < m → (n n' : ℕ → A) → ((k : ℕ) → n k ≡ n (k % m)) → ((k : ℕ) → n' k ≡ n' (k % m)) → ((k : ℕ) → k < m → n k ≡ n' k) → n ≡ n'
round_is m l n n' r r' h = fun_ext (λ k. r k ∙ h (k % m) (mod-lt k l) ∙ sym (r' k))
