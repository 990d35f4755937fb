-- A loop that writes each word of a set once: the words that it has passed have the bits that g gives, and the rest is as it was.
-- One record for a loop from the front and one for a loop from the back. Assumes nothing.
use mathlib.Core.Path.{◌≡◌, refl, sym, ap, ap₂, ◌∙◌, subst}
use mathlib.Core.Logic.{inl, inr}
use mathlib.Core.List.{List}
use mathlib.Core.Bool.{Bool, false, ◌&&◌}
use Prim.Native.Nat.{ℕ, ◌+◌, ◌-◌, ◌*◌, ◌/◌, ◌≤◌, ◌<◌}
use native.Mathlib.Nat.{le_refl, ne_of_lt, ne_of_gt, not-le_of_lt, eq-or-lt_of_le}
use native.Mathlib.Omega.{arith}
use lib.Dec.{ltb}
use lib.ListN.{length, get_or, set, length-set}
use lib.Seq.{get_or-set_same, get_or-set_other}
use borrow.Author.Count.{below_none, below_more}
use borrow.Author.Tests.{lt-ltb, le-ltb}
use Rattle.bitset.specs.Set.{bit_of}
use Rattle.bitset.proofs.Digits.{lt_or_le}
use Rattle.bitset.proofs.Words.{Acts}
use Rattle.bitset.proofs.Sets.{Has, has_bit, has_both, has_own, bit_is, bit_past, bit_same}

-- every word is written: the bits are those of g, and there are none past the end
pub all_written : (g : ℕ → Bool) (s₀ s : List ℕ) → length s ≡ length s₀ → ((p : ℕ) → p < length s₀ → Has g p (get_or s p 0)) → (k : ℕ) → bit_of s k ≡ ltb k (64 * length s₀) && g k
all_written g s₀ s e done k = elim (lt_or_le k (64 * length s₀)) [
  | inl h ↦ bit_is s k ∙ has_bit g (get_or s (k / 64) 0) k (done (k / 64) (omega arith)) ∙ sym (ap (λ (b : Bool). b && g k) (lt-ltb k (64 * length s₀) h))
  | inr h ↦ bit_past s k (omega arith) ∙ sym (ap (λ (b : Bool). b && g k) (le-ltb k (64 * length s₀) h))
]

-- the same where g itself gives none past the end
pub all_given : (g : ℕ → Bool) (s₀ s : List ℕ) → length s ≡ length s₀ → ((p : ℕ) → p < length s₀ → Has g p (get_or s p 0)) → ((k : ℕ) → 64 * length s₀ ≤ k → g k ≡ false)
    → (k : ℕ) → bit_of s k ≡ g k
all_given g s₀ s e done z k = all_written g s₀ s e done k ∙ elim (lt_or_le k (64 * length s₀)) [
  | inl l ↦ ap (λ (b : Bool). b && g k) (lt-ltb k (64 * length s₀) l)
  | inr l ↦ ap (λ (b : Bool). b && g k) (le-ltb k (64 * length s₀) l) ∙ sym (z k l)
]

-- each word is what an operation makes of those of the sets a and b, of as many words
pub made : {op : ℕ → ℕ → ℕ} {f : Bool → Bool → Bool} → Acts op f → f false false ≡ false → (a b s : List ℕ) → length a ≡ length s → length b ≡ length s
    → ((p : ℕ) → p < length s → get_or s p 0 ≡ op (get_or a p 0) (get_or b p 0)) → (k : ℕ) → bit_of s k ≡ f (bit_of a k) (bit_of b k)
made {op} {f} acts none a b s ea eb each =
    all_given (λ k. f (bit_of a k) (bit_of b k)) s s refl
    (λ p l. subst (Has (λ k. f (bit_of a k) (bit_of b k)) p) (sym (each p l)) (has_both acts (bit_of a) (bit_of b) p (get_or a p 0) (get_or b p 0) (has_own a p) (has_own b p)))
    (λ k l. ap₂ f (bit_past a k (omega arith)) (bit_past b k (omega arith)) ∙ none)

-- ---- from the front
pub record Front (g : ℕ → Bool) (s₀ s : List ℕ) (i : ℕ) : Type 0 where
  pub long : length s ≡ length s₀
  pub done : (p : ℕ) → p < i → Has g p (get_or s p 0)
  pub left : (p : ℕ) → i ≤ p → get_or s p 0 ≡ get_or s₀ p 0

pub front_none : (g : ℕ → Bool) (s : List ℕ) → Front g s s 0
front_none g s = record { long = refl; done = below_none (λ p. Has g p (get_or s p 0)); left = λ p h. refl }

module _ {g : ℕ → Bool} {s₀ s : List ℕ} {i : ℕ} (d : Front g s₀ s i) where
  pub front_more : i < length s₀ → (v : ℕ) → Has g i v → Front g s₀ (set s i v) (i + 1)
  front_more h v e = record {
    long = length-set s i v ∙ d.long;
    done = below_more (λ p. Has g p (get_or (set s i v) p 0)) i (λ p l. subst (Has g p) (sym (get_or-set_other s i p v 0 (ne_of_lt l))) (d.done p l))
        (subst (Has g i) (sym (get_or-set_same s i v 0 (subst (λ (n : ℕ). i < n) (sym d.long) h))) e);
    left = λ p l. get_or-set_other s i p v 0 (ne_of_gt (omega arith)) ∙ d.left p (omega arith);
  }

  -- a bit that is not written yet
  pub front_left : (k : ℕ) → 64 * i ≤ k → bit_of s k ≡ bit_of s₀ k
  front_left k h = bit_same s s₀ k (d.left (k / 64) (omega arith))

  pub front_all : length s₀ ≤ i → ((k : ℕ) → 64 * length s₀ ≤ k → g k ≡ false) → (k : ℕ) → bit_of s k ≡ g k
  front_all h z = all_given g s₀ s d.long (λ p l. d.done p (omega arith)) z

-- ---- from the back
pub record Back (g : ℕ → Bool) (s₀ s : List ℕ) (i : ℕ) : Type 0 where
  pub long : length s ≡ length s₀
  pub within : i ≤ length s₀
  pub done : (p : ℕ) → i ≤ p → p < length s₀ → Has g p (get_or s p 0)
  pub left : (p : ℕ) → p < i → get_or s p 0 ≡ get_or s₀ p 0

pub back_none : (g : ℕ → Bool) (s : List ℕ) → Back g s s (length s)
back_none g s = record { long = refl; within = le_refl (length s); done = λ p h l. absurd (not-le_of_lt l h); left = λ p h. refl }

module _ {g : ℕ → Bool} {s₀ s : List ℕ} {i : ℕ} (d : Back g s₀ s i) where
  pub back_more : 0 < i → (v : ℕ) → Has g (i - 1) v → Back g s₀ (set s (i - 1) v) (i - 1)
  back_more h v e =
      let w : i ≤ length s₀ = d.within in
      let n : length s ≡ length s₀ = d.long in
      record {
        long = length-set s (i - 1) v ∙ n;
        within = omega arith;
        done = λ p k l. elim (eq-or-lt_of_le k) [
          | inl q ↦ subst (λ (x : ℕ). Has g x (get_or (set s (i - 1) v) x 0)) q (subst (Has g (i - 1)) (sym (get_or-set_same s (i - 1) v 0 (omega arith))) e)
          | inr q ↦ subst (Has g p) (sym (get_or-set_other s (i - 1) p v 0 (ne_of_gt q))) (d.done p (omega arith) l)
        ];
        left = λ p k. get_or-set_other s (i - 1) p v 0 (ne_of_lt k) ∙ d.left p (omega arith);
      }

  pub back_left : (k : ℕ) → k < 64 * i → bit_of s k ≡ bit_of s₀ k
  back_left k h = bit_same s s₀ k (d.left (k / 64) (omega arith))

  pub back_all : i ≤ 0 → (k : ℕ) → bit_of s k ≡ ltb k (64 * length s₀) && g k
  back_all h = all_written g s₀ s d.long (λ p l. d.done p (omega arith) l)
