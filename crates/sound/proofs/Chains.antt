-- What a chain answers over a list or a range, as a test or a sum of the numbers below a bound. Assumes nothing.
use mathlib.Core.Path.{◌≡◌, refl, sym, ap, ◌∙◌, subst}
use mathlib.Core.Bool.{Bool, true, false}
use mathlib.Core.List.{List}
use Prim.Native.Nat.{ℕ, zero, suc, ◌+◌, ◌-◌, ◌<◌, ◌≤◌}
use native.Mathlib.Nat.{add-zero}
use native.Mathlib.Omega.{arith}
use native.Mathlib.Numerals.{add-one}
use lib.ListN.{length, get_or, take}
use borrow.Table.Steps.{cases}
use Rattle.std.specs.List.{FoldsTo, fold, list_all, range_with_len, sum_by}
use Rattle.std.proofs.Math.Seq.{take-length}
use Rattle.std.proofs.lemmas.List.Sums.{fold_more, AllPass-from_list_all, list_all-from_AllPass}
use Rattle.std.proofs.lemmas.List.{get_or_default}
use Rattle.std.specs.Fn.{Called}
use Rattle.std.specs.Option.{MatchOption}
use Rattle.std.specs.Prelude.{Option}
use Rattle.std.specs.Iterator.{YieldsThen}
use Rattle.std.specs.declared.ops.Range.{Range}
use Rattle.std.proofs.iter.Yields.{nat_range_steps}
use Rattle.std.proofs.lemmas.Iterator.{YieldsList-from_range}
use Rattle.std.proofs.lemmas.Iterator.Search.{all_from_yields_List}
use denote.Param.Members.{Mut}
use Rattle.bitset.specs.Set.{every}
use Rattle.bitset.proofs.Every.{both_ways, every_intro, every_elim}
use Rattle.grid.specs.Node.{sum}
use Rattle.sound.proofs.Checks.{one_fails}

-- ---- a fold, item after item, where R holds of what it has so far
module _ {X B : Type 0} (d : X) (h : B → X → B) (z : B) (R : ℕ → B → Type 0) (xs : List X) (step : (i : ℕ) (b : B) → i < length xs → R i b → R (i + 1) (h b (get_or xs i d))) where
  fold_front : (n : ℕ) → n ≤ length xs → R 0 z → R n (fold h z (take n xs))
  fold_front zero l r = r
  fold_front (suc n) l r =
      let e : fold h z (take (n + 1) xs) ≡ h (fold h z (take n xs)) (get_or xs n d) = fold_more h z xs n d (omega arith) in
      rw (← add-one) (subst (R (n + 1)) (sym e) (step n (fold h z (take n xs)) (omega arith) (fold_front n (omega arith) r)))

  pub fold_all : R 0 z → R (length xs) (fold h z xs)
  fold_all r = subst (λ (ys : List X). R (length xs) (fold h z ys)) (take-length xs) (fold_front (length xs) (omega arith) r)

-- ---- a test
pub list_every : {X : Type 0} (d : X) (p : X → Bool) (xs : List X) → list_all p xs ≡ every (λ i. p (get_or xs i d)) (length xs)
list_every d p xs =
    both_ways (list_all p xs) (every (λ i. p (get_or xs i d)) (length xs))
    (λ e. every_intro (λ i. p (get_or xs i d)) (length xs) (λ k l. AllPass-from_list_all p xs e k d l))
    (λ e. list_all-from_AllPass p xs (λ k x l. ap p (get_or_default xs k x d l) ∙ every_elim (λ i. p (get_or xs i d)) (length xs) e k l))

-- over the numbers from a on, where those below are known to pass
pub range_every : (p : ℕ → Bool) (a n : ℕ) → every p a ≡ true → list_all p (range_with_len a n) ≡ every p (a + n)
unfolding every
range_every p a zero e = sym (ap (every p) (add-zero a) ∙ e)
range_every p a (suc n) e = cases (p a)
    (λ t. rw t (let d : a + 1 + n ≡ a + suc n = omega arith in range_every p (a + 1) n (ap (every p) (add-one a) ∙ rw t e) ∙ ap (every p) d))
    (λ t. rw t (one_fails p (a + suc n) a (omega arith) t))

-- what `all` answers of the numbers from a on, below b
pub all_below : {F : Type 0} {g : Mut F (ℕ × Unit {0}) Bool} (p : ℕ → Bool) (a b : ℕ) → a ≤ b → every p a ≡ true → (u : Range ℕ) (f : F) (r : Bool)
    → (xs : List ℕ) × (o : Option ℕ) × (j : F) × YieldsThen nat_range_steps (record { start = a; end = b }) xs o u × FoldsTo (λ p x q. Called g p (x, tt) true q) f xs j
    × MatchOption o (r ≡ true) (λ x. (r ≡ false) × ((h : F) × Called g j (x, tt) false h))
    → ((x : ℕ) (t : Bool) (q : F) → Called g f (x, tt) t q → (q ≡ f) × (t ≡ p x)) → r ≡ every p b
all_below p a b l e u f r ran k =
    let d : a + (b - a) ≡ b = omega arith in
    all_from_yields_List p u f r ran (YieldsList-from_range a b (b - a) refl refl) k ∙ range_every p a (b - a) e ∙ ap (every p) d

-- ---- a sum
pub sum_more : (f : ℕ → ℕ) (k : ℕ) {c r : ℕ} → c ≡ sum k f → r ≡ f k → c + r ≡ sum (k + 1) f
unfolding sum
sum_more f k p q = sym (rw add-one (omega arith))

pub list_sum : {X : Type 0} (d : X) (f : X → ℕ) (xs : List X) → sum_by f xs ≡ sum (length xs) (λ i. f (get_or xs i d))
unfolding sum
list_sum d f xs = fold_all d (λ a x. a + f x) 0 (λ n a. a ≡ sum n (λ i. f (get_or xs i d))) xs (λ i b l e. sum_more (λ i. f (get_or xs i d)) i e refl) refl
