-- One slot by what the code reads and stores: where it leads, whether it is hidden, and its word changed. Assumes nothing.
use mathlib.Core.Path.{◌≡◌, refl, sym, ap, ◌∙◌}
use mathlib.Core.Bool.{Bool, true, false, not}
use mathlib.Core.List.{List}
use Prim.Native.Nat.{ℕ, zero, suc}
use native.Mathlib.Omega.{arith}
use lib.ListN.{length, get_or, set}
use Rattle.nodes.specs.State.{St}
use Rattle.nodes.specs.Layout.{st, word_of, slots_length}
use Rattle.nodes.specs.Range.{In}
use Rattle.nodes.specs.Walk.{below}
-- ---- where it leads
pub use Rattle.nodes.proofs.Paths.{Leads, child_go, child_stop, child_low}
use Rattle.nodes.proofs.Places.{spread_one, word_lt}
use Rattle.nodes.proofs.Changes.{st_ext, get_d_set}
use Rattle.trees.specs.Slot.{hidden_s, word_s}

-- ---- whether it is hidden
module _ (s : St) (l x k : ℕ) {v : Bool} (e : v ≡ s.val x k) where
  pub hidden_no : v ≡ true → false ≡ hidden_s (below l) s x k
  unfolding hidden_s
  hidden_no h = go l
    where
      go : (l : ℕ) → false ≡ hidden_s (below l) s x k
      go zero = sym (rw (sym e ∙ h) refl)
      go (suc l) = sym (rw (sym e ∙ h) refl)

  pub hidden_leaf : v ≡ false → l ≡ 0 → true ≡ hidden_s (below l) s x k
  unfolding hidden_s
  hidden_leaf h z = sym (ap (λ (i : ℕ). hidden_s (below i) s x k) z ∙ rw (sym e ∙ h) refl)

  pub hidden_fork : v ≡ false → (l ≡ 0 → ⊥) → {b : Bool} → b ≡ s.kid x k → not b ≡ hidden_s (below l) s x k
  unfolding hidden_s
  hidden_fork h z d = ap not d ∙ go l z
    where
      go : (l : ℕ) → (l ≡ 0 → ⊥) → not (s.kid x k) ≡ hidden_s (below l) s x k
      go zero z = absurd (z refl)
      go (suc l) z = sym (rw (sym e ∙ h) refl)

-- ---- its word changed
pub word_step : (n : ℕ) (sl sl' mk book : List ℕ) {x k : ℕ} (w : ℕ) → length sl ≡ slots_length n → In n x k → sl' ≡ set sl (word_of x k) w
    → st n sl' mk book ≡ word_s x k w (st n sl mk book)
unfolding st word_s
word_step n sl sl' mk book {x} {k} w z i p = st_ext _ _
    (spread_one n 0 (λ j. get_or sl j 0) (λ j. get_or sl' j 0) x k w i (λ j l. ap (λ (t : List ℕ). get_or t j 0) p ∙ get_d_set sl (word_of x k) w (omega (arith, word_lt i, z)) j))
    (λ _ _. refl) (λ _ _. refl) refl (λ _. refl) (λ _. refl) (λ _. refl)
