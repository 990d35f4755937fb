-- A step at each slot of a node, as a loop makes it. Assumes nothing.
use mathlib.Core.Path.{◌≡◌, refl, sym, ap, ◌∙◌}
use mathlib.Core.Logic.{inl, inr}
use Prim.Native.Nat.{ℕ, zero, suc, ◌+◌, ◌<◌, ◌≤◌}
use native.Mathlib.Numerals.{add-one}
use native.Mathlib.Omega.{arith}
use Rattle.bitset.proofs.Digits.{is_or_not}
use Rattle.nodes.specs.State.{St}
use Rattle.nodes.specs.Each.{each_s}

module _ (f : ℕ → St → St) (s : St) where
  pub each_none : s ≡ each_s f 0 s
  unfolding each_s
  each_none = refl

  pub each_more : (k : ℕ) {t t' : St} → t ≡ each_s f k s → t' ≡ f k t → t' ≡ each_s f (k + 1) s
  unfolding each_s
  each_more k p q = q ∙ ap (f k) p ∙ sym (rw add-one refl)

  -- steps that do nothing
  pub each_skip : (k m : ℕ) {t : St} → k ≤ m → t ≡ each_s f k s → ((i : ℕ) → k ≤ i → i < m → f i t ≡ t) → t ≡ each_s f m s
  unfolding each_s
  each_skip k zero h p idle = let e : k ≡ 0 = omega arith in p ∙ ap (λ (i : ℕ). each_s f i s) e
  each_skip k (suc m) h p idle = elim (is_or_not k (suc m)) [
    | inl e ↦ p ∙ ap (λ (i : ℕ). each_s f i s) e
    | inr e ↦ let l : k ≤ m = omega arith in sym (idle m l (omega arith)) ∙ ap (f m) (each_skip k m l p (λ i a b. idle i a (omega arith)))
  ]
