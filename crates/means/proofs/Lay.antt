-- The slots of one node written to another as one piece, with no branch: what was in them before is of no account. Assumes nothing.
use mathlib.Core.Path.{◌≡◌, refl, sym, ap, ◌∙◌, subst}
use mathlib.Core.Bool.{Bool, true, false, cond, ◌&&◌}
use mathlib.Core.Logic.{◌≢◌, inl, inr}
use Prim.Native.Nat.{ℕ, suc, ◌+◌, ◌-◌, ◌%◌, ◌<◌}
use native.Mathlib.Omega.{arith}
use lib.Dec.{ltb, eqb}
use borrow.Author.Tests.{lt-ltb, eq-eqb, ne_eqb}
use Rattle.floats.specs.Value.{is_finite}
use Rattle.floats.proofs.Words.{on_case}
use Rattle.bitset.proofs.Digits.{is_or_not}
use Rattle.grid.specs.Node.{changed}
use Rattle.nodes.specs.State.{St, Fork, Sound, flat}
use Rattle.nodes.specs.Change.{at2, in_cell, next, attach_s, claim_s}
use Rattle.nodes.specs.Steps.{slot_s}
use Rattle.nodes.proofs.Changes.{st_ext}
use Rattle.trees.specs.Copy.{laid, lay_s}
use Rattle.trees.proofs.Copies.{ltb_beside, laid_left, none_laid}
use Rattle.means.specs.Level.{span, tree_at, At, Equal, Turned}
use Rattle.means.proofs.Levels.{kept_fork}
use Rattle.means.proofs.Slots.{flat_same}
use Rattle.means.proofs.Put.{in_else, set_turned}
use Rattle.means.proofs.Turned.{into}
use Rattle.means.proofs.Each.{each_with}

-- ---- slot after slot: slot m of node y becomes what that of node x is
abbrev same_s : ℕ → ℕ → ℕ → St → St
same_s x y m s = slot_s y m (s.slot x m) false (s.val x m) s

module _ {A : Type 0} (y : ℕ) (v : ℕ → A) (f : ℕ → ℕ → A) where
  laid_next : (m : ℕ) (a : A) → a ≡ v m → (z j : ℕ) → at2 (laid m y v f) y m a z j ≡ laid (suc m) y v f z j
  laid_next m a e z j = elim (is_or_not z y) [
    | inl p ↦ elim (is_or_not j m) [
      | inl q ↦ rw (eq-eqb z y p, eq-eqb j m q, lt-ltb j (suc m) (omega arith)) (e ∙ ap v (sym q))
      | inr q ↦ rw (eq-eqb z y p, ne_eqb j m q, ltb_beside j m (suc m) (omega arith) (λ a b. q (omega arith))) refl
    ]
    | inr p ↦ rw (ne_eqb z y p) refl
  ]

lay_next : (x y m : ℕ) (s : St) → same_s x y m (lay_s m x y s) ≡ lay_s (suc m) x y s
unfolding lay_s slot_s
lay_next x y m s = st_ext _ _
    (laid_next y (s.slot x) s.slot m _ (laid_left y (s.slot x) s.slot m x m (omega arith)))
    (laid_next y (λ _. false) s.kid m false refl)
    (laid_next y (s.val x) s.val m _ (laid_left y (s.val x) s.val m x m (omega arith)))
    refl (λ _. refl) (λ _. refl) (λ _. refl)

-- what is read for slot m is as it was
lay_left : (x y m z : ℕ) (s : St) → Equal (lay_s m x y s) s z m
unfolding lay_s
lay_left x y m z s =
    record {
      slot = laid_left y (s.slot x) s.slot m z m (omega arith);
      kid = laid_left y (λ _. false) s.kid m z m (omega arith);
      val = laid_left y (s.val x) s.val m z m (omega arith);
    }

-- ---- all slots of a node without branches, where the words of the other are finite
module _ {n : ℕ} {s : St} (sd : Sound n s) (l x y : ℕ) (h : At n s l y) (off : Fork s y → (k : ℕ) → k < span l → s.kid y k ≡ false)
    (fin : (k : ℕ) → k < span l → is_finite (s.slot x k) ≡ true) where
  step : (k : ℕ) → k < span l → (r : St) → Sound n r → At n r l y → r ≡ lay_s k x y s
      → Turned n l y r (same_s x y k r) (changed (span l) k (λ _. flat s x k) (tree_at l r y)) × (same_s x y k r ≡ lay_s (suc k) x y s)
  unfolding lay_s
  step k q r rs at e = (
    into (set_turned rs l y k (r.slot x k) false (r.val x k) at
        (λ f. ((was y).kid ∙ off (kept_fork r s y (λ _. ap (λ (t : St). t.tag (y - 8)) e) f) k q, refl)) (ap is_finite (was x).slot ∙ fin k q))
        (ap (λ u. changed (span l) k (λ _. u) (tree_at l r y)) (flat_same (was x))),
    ap (same_s x y k) e ∙ lay_next x y k s,
  )
    where
      was : (z : ℕ) → Equal r s z k
      was z = subst (λ (t : St). Equal t s z k) (sym e) (lay_left x y k z s)

  pub lay_turned : Turned n l y s (lay_s (span l) x y s) (λ k. flat s x (k % span l))
  lay_turned =
      let p = each_with l y (same_s x y) (λ k _. flat s x k) (λ k r. r ≡ lay_s k x y s) step s sd h (none_laid x y s) in
      subst (λ (r : St). Turned n l y s r (λ k. flat s x (k % span l))) p.1 p.0

-- ---- a cell that is only claimed is then as one that is attached
module _ (s : St) (x y k w : ℕ) (a : Bool) (ne : x ≢ 8 + next s) where
  module _ {A : Type 0} (f : ℕ → ℕ → A) (b u : A) where
    over : (v v' : ℕ → A) → ((j : ℕ) → v j ≡ v' j) → (z j : ℕ) → laid 64 (8 + next s) v (at2 f y k u) z j ≡ laid 64 (8 + next s) v' (at2 (in_cell f (next s) b) y k u) z j
    over v v' e z j = on_case (eqb z (8 + next s) && ltb j 64) (λ t. rw t (e j)) (λ t. rw t refl)

    from : (j : ℕ) → at2 f y k u x j ≡ at2 (in_cell f (next s) b) y k u x j
    from j = ap (λ (d : A). cond (eqb x y && eqb j k) u d) (sym (in_else f (next s) b x j ne))

  pub lay_fresh : lay_s 64 x (8 + next s) (claim_s y k s) ≡ lay_s 64 x (8 + next s) (attach_s y k w a s)
  unfolding lay_s claim_s attach_s
  lay_fresh = st_ext _ _
      (over s.slot w (next s) _ _ (from s.slot w (next s)))
      (over s.kid false _ _ _ (λ _. refl))
      (over s.val a false _ _ (from s.val a false))
      refl (λ _. refl) (λ _. refl) (λ _. refl)
