-- No change of a pool spoils a slot where it writes finite words; so neither do the insert and remove walks, on any pool, sound or not. Assumes nothing.
use mathlib.Core.Path.{◌≡◌, refl, sym, ap, ◌∙◌, subst}
use mathlib.Core.Bool.{Bool, true, false, not, ◌&&◌, ◌||◌, false≢true}
use mathlib.Core.List.{List, [], ◌∷◌}
use mathlib.Core.Logic.{◌⊎◌, inl, inr}
use Prim.Native.Nat.{ℕ, ◌+◌, ◌<◌}
use native.Mathlib.Omega.{arith}
use lib.Dec.{ltb, leb, eqb}
use borrow.Author.Tests.{ltb-true}
use Rattle.floats.specs.Value.{is_finite, equal, far}
use Rattle.floats.proofs.Words.{on_case}
use Rattle.floats.proofs.Finite.{finite_far, small_finite}
use Rattle.bitset.proofs.Every.{and_both}
use Rattle.grid.specs.Geometry.{Point, slot_of}
use Rattle.grid.proofs.Places.{cond_at}
use Rattle.nodes.specs.State.{St}
use Rattle.nodes.specs.Change.{put_s, hide_s, next, attach_s, release_s, mark_s}
use Rattle.nodes.specs.Steps.{slot_s, cell_s}
use Rattle.nodes.specs.Walk.{view_s, ready_s, stays, grown_m, insert_at, insert_m}
use Rattle.nodes.specs.Remove.{bare_s, shut_m, remove_at, remove_m}
use Rattle.nodes.specs.declared.walk.Slot.{Slot}
use Rattle.nodes.specs.declared.walk.Slot.TheVariants as slot
use Rattle.trees.specs.Combine.{take_child_s}
use Rattle.means.specs.Unspoilt.{Still, Unspoilt}
use Rattle.means.specs.Level.{Equal}

-- ---- nothing done; one change after another
pub unspoilt_same : (s : St) → Unspoilt s s
unspoilt_same s x k = inl (record { slot = refl; kid = refl; val = λ v. v })

pub unspoilt_then : {s r t : St} → Unspoilt s r → Unspoilt r t → Unspoilt s t
unspoilt_then {s} {r} {t} a b x k = go (a x k) (b x k)
  where
    go : Still s r x k ⊎ (is_finite (r.slot x k) ≡ true) → Still r t x k ⊎ (is_finite (t.slot x k) ≡ true) → Still s t x k ⊎ (is_finite (t.slot x k) ≡ true)
    go d (inr f) = inr f
    go (inl d) (inl e) = inl (record { slot = e.slot ∙ d.slot; kid = e.kid ∙ d.kid; val = λ v. d.val (e.val v) })
    go (inr f) (inl e) = inr (ap is_finite e.slot ∙ f)

-- a slot that has the same is still as it was
pub still_equal : {s r : St} {x k : ℕ} → Equal s r x k → Still s r x k
still_equal e = record { slot = sym e.slot; kid = sym e.kid; val = λ v. e.val ∙ v }

-- ---- one change

-- a state with the slots of r
like : {s r r' : St} → Unspoilt s r → r'.slot ≡ r.slot → r'.kid ≡ r.kid → r'.val ≡ r.val → Unspoilt s r'
like a p q v = unspoilt_then a (λ x k. inl (record { slot = ap (λ f. f x k) p; kid = ap (λ f. f x k) q; val = λ e. sym (ap (λ f. f x k) v) ∙ e }))

-- a mark set
pub unspoilt_mark : {s r r' : St} (t mk : ℕ) → r' ≡ mark_s t mk r → Unspoilt s r → Unspoilt s r'
unfolding mark_s
unspoilt_mark {s} t mk is a = subst (Unspoilt s) (sym is) (like a refl refl refl)

-- a cell's slots written
unspoilt_cell : (c : ℕ) (s : St) (w : ℕ) (a : Bool) → is_finite w ≡ true → Unspoilt s (cell_s c w a s)
unfolding cell_s
unspoilt_cell c s w a f y j = on_case (eqb y (8 + c) && ltb j 64) (λ e. inr (rw e f)) (λ e. inl (record { slot = rw e refl; kid = rw e refl; val = rw e (λ v. v) }))

-- slot k of node x written
module _ (x k : ℕ) (s : St) where
  pub unspoilt_slot : (w : ℕ) (b a : Bool) → is_finite w ≡ true → Unspoilt s (slot_s x k w b a s)
  unfolding slot_s
  unspoilt_slot w b a f y j = on_case (eqb y x && eqb j k) (λ e. inr (rw e f)) (λ e. inl (record { slot = rw e refl; kid = rw e refl; val = rw e (λ v. v) }))

  unspoilt_put : (w : ℕ) (a : Bool) → is_finite w ≡ true → Unspoilt s (put_s x k w a s)
  unfolding put_s
  unspoilt_put w a f y j = on_case (eqb y x && eqb j k) (λ e. inr (rw e f)) (λ e. inl (record { slot = rw e refl; kid = refl; val = rw e (λ v. v) }))

  -- it keeps its word, and is not active
  unspoilt_hide : Unspoilt s (hide_s x k s)
  unfolding hide_s
  unspoilt_hide y j = inl (record { slot = refl; kid = refl; val = cond_at (λ v. v ≡ true → s.val y j ≡ true) (eqb y x && eqb j k) false (s.val y j) (λ _ v. absurd (false≢true v)) (λ _ v. v) })

  pub unspoilt_release : Unspoilt s (release_s x k s)
  unfolding release_s slot_s
  unspoilt_release = like (unspoilt_slot far false false finite_far) refl refl refl

-- a link is finite
pub unspoilt_attach : (x k : ℕ) (s : St) (u : ℕ) (a : Bool) → is_finite u ≡ true → next s < 65536 → Unspoilt s (attach_s x k u a s)
unfolding attach_s slot_s cell_s
unspoilt_attach x k s u a f l =
    like (unspoilt_then (unspoilt_cell (next s) s u a f) (unspoilt_slot x k (cell_s (next s) u a s) (next s) true false (small_finite (next s) l))) refl refl refl

pub unspoilt_take : (x y k : ℕ) (s : St) → s.slot y k < 65536 → Unspoilt s (take_child_s x y k s)
unfolding take_child_s slot_s
unspoilt_take x y k s l =
    like (unspoilt_then (unspoilt_slot y k s far false false finite_far) (unspoilt_slot x k (slot_s y k far false false s) (s.slot y k) true false (small_finite (s.slot y k) l))) refl refl refl

-- ---- the walks

-- a tile where an insert goes on is finite
stays_not : (u w : ℕ) → stays u w ≡ false → is_finite u ≡ true
stays_not u w = go (is_finite u)
  where
    go : (b : Bool) → (not b || equal u w) ≡ false → b ≡ true
    go true e = refl
    go false e = absurd (false≢true (sym e))

module _ {n : ℕ} (l : n < 65536) where
  -- the walk below spoils nothing
  abbrev Go : (ℕ → St → St) → Type 0
  Go go = (y : ℕ) (s : St) → Unspoilt s (go y s)

  grown : (go : ℕ → St → St) → Go go → (x k u : ℕ) (a : Bool) (s : St) → is_finite u ≡ true → Unspoilt s (grown_m go n x k u a s)
  grown go g x k u a s f =
      cond_at (Unspoilt s) (ready_s n s) (go (8 + next s) (attach_s x k u a s)) s
      (λ e. unspoilt_then (unspoilt_attach x k s u a f (omega (arith, inside e))) (g (8 + next s) (attach_s x k u a s)))
      (λ _. unspoilt_same s)
    where
      inside : ready_s n s ≡ true → next s < n
      inside e = ltb-true (next s) n (and_both (leb s.count n) _ (and_both (ltb 0 s.count) _ e).1).1

  shut : (bs : List ℕ) (x k : ℕ) (s : St) → Unspoilt s (shut_m bs n x k s)
  shut bs x k s =
      cond_at (Unspoilt s) (ltb (s.slot x k) n && (bare_s bs s (8 + s.slot x k) && ltb s.count n)) (release_s x k s) s
      (λ _. unspoilt_release x k s) (λ _. unspoilt_same s)

  insert_at_lem : (go : ℕ → St → St) → Go go → (w x k : ℕ) (s : St) (v : Slot) → Unspoilt s (insert_at go n w x k s v)
  insert_at_lem go g w x k s (slot.Branch c) = cond_at (Unspoilt s) (ltb c n) (go (8 + c) s) s (λ _. g (8 + c) s) (λ _. unspoilt_same s)
  insert_at_lem go g w x k s (slot.Tile u) =
      cond_at (Unspoilt s) (stays u w) s (grown_m go n x k u true s) (λ _. unspoilt_same s) (λ e. grown go g x k u true s (stays_not u w e))
  insert_at_lem go g w x k s (slot.Hidden u) = grown go g x k far false s finite_far

  remove_at_lem : (bs : List ℕ) (go : ℕ → St → St) → Go go → (x k : ℕ) (s : St) (v : Slot) → Unspoilt s (remove_at bs go n x k s v)
  remove_at_lem bs go g x k s (slot.Branch c) =
      cond_at (Unspoilt s) (ltb c n) (shut_m bs n x k (go (8 + c) s)) s
      (λ _. unspoilt_then (g (8 + c) s) (shut bs x k (go (8 + c) s))) (λ _. unspoilt_same s)
  remove_at_lem bs go g x k s (slot.Tile u) = cond_at (Unspoilt s) (is_finite u) (grown_m go n x k u true s) s (λ f. grown go g x k u true s f) (λ _. unspoilt_same s)
  remove_at_lem bs go g x k s (slot.Hidden u) = unspoilt_same s

  pub insert_unspoilt : (w : ℕ) → is_finite w ≡ true → (b : ℕ) (bs : List ℕ) (p : Point) (x : ℕ) (s : St) → Unspoilt s (insert_m b bs n p w x s)
  unfolding insert_m
  insert_unspoilt w f b [] p x s = unspoilt_put x (slot_of b [] p) s w true f
  insert_unspoilt w f b (c ∷ bs) p x s =
      insert_at_lem (insert_m c bs n p w) (insert_unspoilt w f c bs p) w x (slot_of b (c ∷ bs) p) s (view_s (c ∷ bs) s x (slot_of b (c ∷ bs) p))

  pub remove_unspoilt : (b : ℕ) (bs : List ℕ) (p : Point) (x : ℕ) (s : St) → Unspoilt s (remove_m b bs n p x s)
  unfolding remove_m
  remove_unspoilt b [] p x s = unspoilt_hide x (slot_of b [] p) s
  remove_unspoilt b (c ∷ bs) p x s =
      remove_at_lem bs (remove_m c bs n p) (remove_unspoilt c bs p) x (slot_of b (c ∷ bs) p) s (view_s (c ∷ bs) s x (slot_of b (c ∷ bs) p))
