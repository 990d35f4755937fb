-- Slots that are not spoilt, in words of the lent slice. Assumes nothing.
use mathlib.Core.Path.{◌≡◌, sym, ap, ◌∙◌, subst}
use mathlib.Core.Bool.{true}
use mathlib.Core.List.{List, [], ◌∷◌}
use mathlib.Core.Logic.{◌⊎◌, inl, inr}
use Prim.Native.Nat.{ℕ}
use native.Mathlib.Omega.{arith}
use lib.ListN.{length, get_or, get_or-eq_default}
use Rattle.floats.specs.Value.{is_finite}
use Rattle.bitset.proofs.Digits.{lt_or_le}
use Rattle.nodes.specs.Range.{In}
use Rattle.nodes.proofs.States.{st_slot}
use Rattle.nodes.proofs.Tells.{Sits, sits}
use Rattle.means.specs.Unspoilt.{Still}
use Rattle.means.specs.Mem.{Mem, lens_of, size_of, cells_of, fits, pool_of, UnspoiltMem}
use Rattle.means.proofs.Memory.{fitting}

-- each word is the word before, or finite
pub words_unspoilt : (m m' : Mem) → fits m ≡ true → lens_of m' ≡ lens_of m → UnspoiltMem m m'
    → (i : ℕ) → (get_or m'.slots i 0 ≡ get_or m.slots i 0) ⊎ (is_finite (get_or m'.slots i 0) ≡ true)
unfolding pool_of
words_unspoilt m m' fit lens h i = elim (lt_or_le i (length m.slots)) [
  | inl l ↦ at_slot (sits (cells_of m) i (omega (arith, (fitting m fit).slots)))
  | inr l ↦ inl (get_or-eq_default m'.slots 0 (omega (arith, ap first lens)) ∙ sym (get_or-eq_default m.slots 0 l))
]
  where
    first : List ℕ → ℕ
    first [] = 0
    first (a ∷ ls) = a

    at_slot : Sits (cells_of m) i → (get_or m'.slots i 0 ≡ get_or m.slots i 0) ⊎ (is_finite (get_or m'.slots i 0) ≡ true)
    at_slot p = go (h p.x p.k)
      where
        before : (pool_of m).slot p.x p.k ≡ get_or m.slots i 0
        before = st_slot m.slots m.masks m.book p.within ∙ ap (λ (j : ℕ). get_or m.slots j 0) p.there

        after : (pool_of m').slot p.x p.k ≡ get_or m'.slots i 0
        after = st_slot m'.slots m'.masks m'.book (subst (λ (n : ℕ). In n p.x p.k) (sym (ap size_of lens)) p.within) ∙ ap (λ (j : ℕ). get_or m'.slots j 0) p.there

        go : Still (pool_of m) (pool_of m') p.x p.k ⊎ (is_finite ((pool_of m').slot p.x p.k) ≡ true)
            → (get_or m'.slots i 0 ≡ get_or m.slots i 0) ⊎ (is_finite (get_or m'.slots i 0) ≡ true)
        go (inl e) = inl (sym after ∙ e.slot ∙ before)
        go (inr f) = inr (ap is_finite (sym after) ∙ f)
