-- Numbers that pass a test, counted. Assumes nothing.
use mathlib.Core.Path.{◌≡◌, refl, sym, ap, ◌∙◌}
use mathlib.Core.Bool.{Bool, true, cond, ◌&&◌, and-false}
use Prim.Native.Nat.{ℕ, zero, suc, ◌+◌, ◌<◌, ◌≤◌}
use native.Mathlib.Omega.{arith}
use lib.Dec.{ltb, eqb}
use borrow.Author.Tests.{eq-eqb, ne_eqb, eqb-true, ltb-true, ltb-false}
use borrow.Table.Steps.{cases}
use Rattle.bitset.specs.Set.{every}
use Rattle.bitset.proofs.Every.{both_ways, and_both}
use Rattle.grid.specs.Node.{sum}
use Rattle.grid.proofs.Places.{sum_same, sum_zero}
use Rattle.means.proofs.Sums.{sum_one, sum_swap}
use Rattle.sound.specs.Links.{tally}

-- ---- all n pass where n pass
pub tally_most : (p : ℕ → Bool) (n : ℕ) → tally p n ≤ n
unfolding sum
tally_most p zero = omega arith
tally_most p (suc n) = cases (p n) (λ e. rw e (omega (arith, tally_most p n))) (λ e. rw e (omega (arith, tally_most p n)))

pub tally_all : (p : ℕ → Bool) (n : ℕ) → eqb (tally p n) n ≡ every p n
unfolding sum every
tally_all p zero = refl
tally_all p (suc n) = cases (p n)
    (λ e. rw e (both_ways (eqb (1 + tally p n) (suc n)) (eqb (tally p n) n)
    (λ t. let q : 1 + tally p n ≡ suc n = eqb-true _ _ t in eq-eqb (tally p n) n (omega arith))
    (λ t. let q : tally p n ≡ n = eqb-true _ _ t in eq-eqb (1 + tally p n) (suc n) (omega arith))
    ∙ tally_all p n))
    (λ e. rw e (ne_eqb (0 + tally p n) (suc n) (λ q. omega (arith, tally_most p n))))

-- ---- each place below m that counts, b, holds one of n cells, f, and the cell's mark, g, names the place. Then as many places count as there are cells whose mark names
-- a place that counts and holds the cell
module _ (m n : ℕ) (b : ℕ → Bool) (f g : ℕ → ℕ) (h : (p : ℕ) → p < m → b p ≡ true → (f p < n) × (g (f p) ≡ p)) where
  holds : ℕ → ℕ → ℕ
  holds p c = cond (b p && eqb (f p) c) 1 0

  one_cell : (p : ℕ) → p < m → sum n (holds p) ≡ cond (b p) 1 0
  unfolding holds
  one_cell p l = cases (b p)
      (λ e. sum_one n (holds p) (f p) (h p l e).0 (λ c lc ne. rw (ne_eqb (f p) c (λ q. ne (sym q)), and-false (b p)) refl) ∙ rw (e, eq-eqb (f p) (f p) refl) refl)
      (λ e. sum_zero n (holds p) (λ c lc. rw e refl) ∙ rw e refl)

  one_place : (c : ℕ) → c < n → sum m (λ p. holds p c) ≡ cond (ltb (g c) m && (b (g c) && eqb (f (g c)) c)) 1 0
  unfolding holds
  one_place c lc = cases (ltb (g c) m)
      (λ e. sum_one m (λ p. holds p c) (g c) (ltb-true _ _ e) (λ p l ne. other p l (λ q. ne (sym q))) ∙ rw e refl)
      (λ e. sum_zero m (λ p. holds p c) (λ p l. other p l (λ q. omega (arith, ltb-false (g c) m e))) ∙ rw e refl)
    where
      other : (p : ℕ) → p < m → (g c ≡ p → ⊥) → holds p c ≡ 0
      other p l ne = cases (b p && eqb (f p) c)
          (λ t. let a = and_both (b p) (eqb (f p) c) t in absurd (ne (ap g (sym (eqb-true (f p) c a.1)) ∙ (h p l a.0).1)))
          (λ t. rw t refl)

  pub named_back : tally b m ≡ tally (λ c. ltb (g c) m && (b (g c) && eqb (f (g c)) c)) n
  named_back = sum_same m _ _ (λ p l. sym (one_cell p l)) ∙ sum_swap m n holds ∙ sum_same n _ _ one_place
