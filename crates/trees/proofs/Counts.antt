-- What is read of all that hangs below a node, link by link as the code goes: whether a branch is empty, and the number of cells. Assumes nothing.
use mathlib.Core.Path.{◌≡◌, refl, sym, ap, ◌∙◌, subst}
use mathlib.Core.Bool.{Bool, true, false, not, cond, ◌&&◌, ◌||◌}
use mathlib.Core.List.{List, ◌∷◌}
use Prim.Native.Nat.{ℕ, zero, suc, ◌+◌, ◌-◌, ◌*◌, ◌<◌, ◌≤◌}
use native.Mathlib.Numerals.{add-one}
use native.Mathlib.Omega.{arith}
use lib.Dec.{ltb}
use borrow.Author.Tests.{lt-ltb}
use Rattle.std.specs.List.{list_any, sum_by}
use Rattle.std.proofs.lemmas.List.Sums.{sum_by-cons}
use Rattle.bitset.proofs.Every.{every_alike}
use Rattle.grid.specs.Node.{size, sum}
use Rattle.grid.proofs.Places.{sum_same}
use Rattle.nodes.specs.State.{St}
use Rattle.nodes.specs.Remove.{bare_s}
use Rattle.nodes.specs.Walk.{branching, below}
use Rattle.nodes.proofs.Paths.{one_less}
use Rattle.trees.specs.Below.{hollow_at, hollow_m, reached_at, reached_m}
use Rattle.trees.specs.Links.{listed}
use Rattle.trees.proofs.Listed.{listed_any, listed_sum}

-- ---- below the cell that a link names, where l is its level: a cell out of the pool is passed over
abbrev pub hollow_link : ℕ → ℕ → St → ℕ → Bool
hollow_link n l s d = ltb d n && (bare_s (below l) s (8 + d) || hollow_m (branching l) (below l) n s (8 + d))

abbrev pub cells_link : ℕ → ℕ → St → ℕ → ℕ
cells_link n l s d = cond (ltb d n) (suc (reached_m (branching l) (below l) n s (8 + d))) 0

-- the cell of one link is counted, and all below it
pub cells_more : (n l : ℕ) (s : St) (k : ℕ) {c r t : ℕ} {a b : List ℕ} → k + sum_by (cells_link n l s) a ≡ t → a ≡ c ∷ b → c < n → r ≡ reached_m (branching l) (below l) n s (8 + c)
    → k + (1 + r) + sum_by (cells_link n l s) b ≡ t
cells_more n l s k {c} {r} {t} {a} {b} e d h q =
    let here : cells_link n l s c ≡ 1 + r = rw (lt-ltb c n h) (omega (arith, q)) in
    omega (arith, e, ap (sum_by (cells_link n l s)) d, sum_by-cons (cells_link n l s) c b, here)

-- ---- the whole node, by its links
module _ (n : ℕ) (s : St) (x : ℕ) where
  pub hollow_links : (l : ℕ) → (l ≡ 0 → ⊥) → list_any (hollow_link n (l - 1) s) (listed (s.kid x) (s.slot x) (size (branching l))) ≡ hollow_m (branching l) (below l) n s x
  unfolding hollow_m
  hollow_links zero h = absurd (h refl)
  hollow_links (suc l) h =
      ap (λ (m : ℕ). list_any (hollow_link n m s) (listed (s.kid x) (s.slot x) (size (branching (suc l))))) (one_less l)
      ∙ listed_any (s.kid x) (s.slot x) (hollow_link n l s) (size (branching (suc l)))
      ∙ ap not (every_alike (λ k. not (s.kid x k && hollow_link n l s (s.slot x k))) (λ k. not (hollow_at (hollow_m (branching l) (below l) n s) (below l) n s x k)) (size (branching (suc l)))
      (λ k _. ap not (same (s.kid x k) (ltb (s.slot x k) n) (bare_s (below l) s (8 + s.slot x k) || hollow_m (branching l) (below l) n s (8 + s.slot x k)))))
    where
      same : (a b c : Bool) → a && (b && c) ≡ cond (a && b) c false
      same true true c = refl
      same true false c = refl
      same false b c = refl

  pub reached_links : (l : ℕ) → (l ≡ 0 → ⊥) → sum_by (cells_link n (l - 1) s) (listed (s.kid x) (s.slot x) (size (branching l))) ≡ reached_m (branching l) (below l) n s x
  unfolding reached_m
  reached_links zero h = absurd (h refl)
  reached_links (suc l) h =
      ap (λ (m : ℕ). sum_by (cells_link n m s) (listed (s.kid x) (s.slot x) (size (branching (suc l))))) (one_less l)
      ∙ listed_sum (s.kid x) (s.slot x) (cells_link n l s) (size (branching (suc l)))
      ∙ sum_same (size (branching (suc l))) (λ k. cond (s.kid x k) (cells_link n l s (s.slot x k)) 0) (reached_at (reached_m (branching l) (below l) n s) n s x)
      (λ k _. same (s.kid x k) (ltb (s.slot x k) n) (suc (reached_m (branching l) (below l) n s (8 + s.slot x k))))
    where
      same : (a b : Bool) (c : ℕ) → ◌≡◌ {A = ℕ} (cond a (cond b c 0) 0) (cond (a && b) c 0)
      same true b c = refl
      same false b c = refl

  -- below a leaf there is nothing
  pub hollow_leaf : (l : ℕ) → l ≡ 0 → false ≡ hollow_m (branching l) (below l) n s x
  unfolding hollow_m
  hollow_leaf l e = subst (λ (i : ℕ). false ≡ hollow_m (branching i) (below i) n s x) (sym e) refl

  pub reached_leaf : (l : ℕ) → l ≡ 0 → 0 ≡ reached_m (branching l) (below l) n s x
  unfolding reached_m
  reached_leaf l e = subst (λ (i : ℕ). 0 ≡ reached_m (branching i) (below i) n s x) (sym e) refl

-- a sum that a loop reckons, one number more
pub sum_more : (f : ℕ → ℕ) (k : ℕ) {c r : ℕ} → c ≡ sum k f → r ≡ f k → c + r ≡ sum (k + 1) f
unfolding sum
sum_more f k p q = sym (rw add-one (omega arith))

-- ---- at most 64 cells hang below a middle node, and 65 * 512 below a top
sum_few : (m b : ℕ) (f : ℕ → ℕ) → ((k : ℕ) → f k ≤ b) → sum m f ≤ b * m
unfolding sum
sum_few zero b f h = omega arith
sum_few (suc m) b f h = omega (arith, h m, sum_few m b f h)

at_few : (b : Bool) (r m : ℕ) → r ≤ m → cond b (suc r) 0 ≤ m + 1
at_few true r m h = omega arith
at_few false r m h = omega arith

pub reached_few : (n l : ℕ) (s : St) (x : ℕ) → l ≤ 2 → reached_m (branching l) (below l) n s x ≤ 33280
unfolding reached_m size
reached_few n zero s x h = omega arith
reached_few n (suc zero) s x h =
    omega (arith, sum_few 64 1 (reached_at (reached_m (branching 0) (below 0) n s) n s x) (λ k. at_few (s.kid x k && ltb (s.slot x k) n) 0 0 (omega arith)))
reached_few n (suc (suc zero)) s x h =
    omega (
      arith,
      sum_few 512 65 (reached_at (reached_m (branching 1) (below 1) n s) n s x) (λ k. at_few (s.kid x k && ltb (s.slot x k) n) _ 64
          (sum_few 64 1 (reached_at (reached_m (branching 0) (below 0) n s) n s (8 + s.slot x k)) (λ j. at_few (s.kid (8 + s.slot x k) j && ltb (s.slot (8 + s.slot x k) j) n) 0 0 (omega arith)))),
    )
reached_few n (suc (suc (suc l))) s x h = absurd (omega arith)
