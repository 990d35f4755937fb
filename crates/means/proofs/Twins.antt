-- Two sound memories stand for the same state exactly if they hold the same, but for what no answer shows. Assumes nothing.
use mathlib.Core.Path.{◌≡◌, refl, sym, ◌∙◌, ap, ap₂, fun_ext}
use mathlib.Core.Bool.{true, false, false≢true}
use mathlib.Core.List.{List, [], ◌∷◌}
use Prim.Native.Nat.{ℕ, zero, suc, ◌+◌, ◌%◌, ◌<◌}
use native.Mathlib.Nat.{mod-lt}
use native.Mathlib.Omega.{arith}
use lib.Dec.{ltb, eqb}
use borrow.Author.Tests.{eqb-true, eqb-false, ltb-true}
use Rattle.floats.proofs.Words.{on_case}
use Rattle.grid.specs.Node.{Node, on_slot}
use Rattle.seats.specs.Seat.{Seat, State, free}
use Rattle.nodes.specs.State.{St, Sound, flat, slot_at, tree}
use Rattle.nodes.specs.Layout.{slots_length, masks_length, book_length}
use Rattle.means.specs.Level.{levels, span, tree_at, At}
use Rattle.means.specs.Mem.{Mem, lens_of, size_of, cells_of, fits, pool_of, SoundMem, seat_of, state_of}
use Rattle.means.specs.Twins.{SlotTwin, Twin, TwinMem}
use Rattle.means.proofs.Levels.{span_pos, at_link, at_down}
use Rattle.means.proofs.Slots.{flat_twin, slot_twin, slot_branch, slot_flat, tree_leaf, tree_slot}
use Rattle.means.proofs.Memory.{Fitting, fitting, seat_is, count_is}

-- ---- a slot tells its word and its bits
module _ {C : Type 0} (s s' : St) (x x' k : ℕ) where
  flat_tells : flat {C = C} s x k ≡ flat s' x' k → (s.slot x k ≡ s'.slot x' k) × (s.val x k ≡ s'.val x' k)
  flat_tells e = (
    sym (word s x) ∙ ap (on_slot (λ _. 0) (λ v. v) (λ v. v)) e ∙ word s' x',
    sym (active s x) ∙ ap (on_slot (λ _. false) (λ _. true) (λ _. false)) e ∙ active s' x',
  )
    where
      word : (s : St) (x : ℕ) → on_slot {C = C} (λ _. 0) (λ v. v) (λ v. v) (flat s x k) ≡ s.slot x k
      word s x = on_case (s.val x k) (λ t. rw t refl) (λ t. rw t refl)

      active : (s : St) (x : ℕ) → on_slot {C = C} (λ _. false) (λ _. true) (λ _. false) (flat s x k) ≡ s.val x k
      active s x = on_case (s.val x k) (λ t. rw t refl) (λ t. rw t refl)

  -- where a branch is in the child mask alone
  slot_tells : (f f' : ℕ → C) → (s.kid x k ≡ true → s.val x k ≡ false) → (s'.kid x' k ≡ true → s'.val x' k ≡ false) → slot_at f s x k ≡ slot_at f' s' x' k
      → SlotTwin (λ y y'. f y ≡ f' y') s x s' x' k
  slot_tells f f' off off' e = on_case (s.kid x k)
      (λ t. let t' : s'.kid x' k ≡ true = sym same ∙ t in
      record {
        kid = same;
        val = off t ∙ sym (off' t');
        word = λ z. absurd (false≢true (sym z ∙ t));
        cell = λ _. ap (on_slot (λ c. c) (λ _. f 0) (λ _. f 0)) (sym (slot_branch f s x k t) ∙ e ∙ slot_branch f' s' x' k t');
      })
      (λ t. let w = flat_tells (sym (slot_flat f s x k t) ∙ e ∙ slot_flat f' s' x' k (sym same ∙ t)) in
      record { kid = same; val = w.1; word = λ _. w.0; cell = λ z. absurd (false≢true (sym t ∙ z)) })
    where
      open_at : (f : ℕ → C) (s : St) (x : ℕ) → on_slot (λ _. true) (λ _. false) (λ _. false) (slot_at f s x k) ≡ s.kid x k
      open_at f s x = on_case (s.kid x k) (λ t. rw t refl) (λ t. rw t (on_case (s.val x k) (λ v. rw v refl) (λ v. rw v refl)))

      same : s.kid x k ≡ s'.kid x' k
      same = sym (open_at f s x) ∙ ap (on_slot (λ _. true) (λ _. false) (λ _. false)) e ∙ open_at f' s' x'

-- ---- equal nodes are twins, and twins are equal nodes

-- from what holds of the cells below a branch to what follows of them
below : {R R' : ℕ → ℕ → Type 0} {s s' : St} {x x' k : ℕ} → SlotTwin R s x s' x' k
    → (s.kid x k ≡ true → R (8 + s.slot x k) (8 + s'.slot x' k) → R' (8 + s.slot x k) (8 + s'.slot x' k)) → SlotTwin R' s x s' x' k
below a f = record { kid = a.kid; val = a.val; word = a.word; cell = λ t. f t (a.cell t) }

module _ {n n' : ℕ} {s s' : St} (sd : Sound n s) (sd' : Sound n' s') where
  tree_tells : (l x x' : ℕ) → At n s l x → At n' s' l x' → tree_at l s x ≡ tree_at l s' x' → Twin l s x s' x'
  tree_tells zero x x' h h' e = λ k q. flat_tells s s' x x' k (sym (tree_leaf s x k q) ∙ ap (λ (g : Node (levels 0)). g k) e ∙ tree_leaf s' x' k q)
  tree_tells (suc l) x x' h h' e = λ k q. below (slot k q) (λ t. tree_tells l (8 + s.slot x k) (8 + s'.slot x' k) (at_down sd l x k h q t) (at_down sd' l x' k h' q (sym (slot k q).kid ∙ t)))
    where
      slot : (k : ℕ) → k < span (suc l) → SlotTwin (λ y y'. tree_at l s y ≡ tree_at l s' y') s x s' x' k
      slot k q = slot_tells s s' x x' k (tree_at l s) (tree_at l s') (λ t. (at_link sd l x k h q t).single) (λ t. (at_link sd' l x' k h' q t).single)
          (sym (tree_slot l s x k q) ∙ ap (λ (g : Node (levels (suc l))). g k) e ∙ tree_slot l s' x' k q)

twin_tree : (l : ℕ) (s s' : St) (x x' : ℕ) → Twin l s x s' x' → tree_at l s x ≡ tree_at l s' x'
unfolding tree
twin_tree zero s s' x x' w = fun_ext (λ k. let a = w (k % span 0) (mod-lt k (span_pos 0)) in flat_twin s s' x x' (k % span 0) a.0 a.1)
twin_tree (suc l) s s' x x' w = fun_ext (λ k.
    let i = k % span (suc l) in
    slot_twin s s' x x' i (tree_at l s) (tree_at l s') (below (w i (mod-lt k (span_pos (suc l)))) (λ _. twin_tree l s s' (8 + s.slot x i) (8 + s'.slot x' i))))

-- ---- two memories
module _ (m m' : Mem) where
  pub state_tells : SoundMem m → SoundMem m' → state_of m ≡ state_of m' → TwinMem m m'
  state_tells sm sm' e = (
    lens m' sm'.0 ∙ ap lengths (sym cells) ∙ sym (lens m sm.0),
    record {
      tops = λ t h. tree_tells sm.1 sm'.1 2 t t (h, refl) (h, refl) (ap (λ (x : Seat 3 (2 ∷ 2 ∷ [])). x.grid) (seat t h));
      count = count_is m sm ∙ ap (free 3 (2 ∷ 2 ∷ [])) e ∙ sym (count_is m' sm');
      marks = λ t h. mark (sm.1.marks t h) (sm'.1.marks t h) (ap (λ (x : Seat 3 (2 ∷ 2 ∷ [])). x.filled) (seat t h));
    },
  )
    where
      cells : cells_of m ≡ cells_of m'
      cells = ap (λ (st : State 3 (2 ∷ 2 ∷ [])). st.all) e

      lengths : ℕ → List ℕ
      lengths n = slots_length n ∷ masks_length n ∷ book_length n ∷ []

      lens : (m : Mem) → fits m ≡ true → lens_of m ≡ lengths (cells_of m)
      lens m f = let w : Fitting m = fitting m f in λ i. w.slots i ∷ w.masks i ∷ w.book i ∷ []

      seat : (t : ℕ) (h : t < 8) → ◌≡◌ {A = Seat 3 (2 ∷ 2 ∷ [])} (record { grid = tree_at 2 (pool_of m) t; filled = eqb ((pool_of m).mark t) 1 })
          (record { grid = tree_at 2 (pool_of m') t; filled = eqb ((pool_of m').mark t) 1 })
      seat t h = sym (seat_is m sm t h) ∙ ap (λ (st : State 3 (2 ∷ 2 ∷ [])). st.seat t) e ∙ seat_is m' sm' t h

      mark : {a b : ℕ} → a < 2 → b < 2 → eqb a 1 ≡ eqb b 1 → a ≡ b
      mark {a} {b} p q e = on_case (eqb a 1)
          (λ t. eqb-true a 1 t ∙ sym (eqb-true b 1 (sym e ∙ t)))
          (λ t. omega (arith, eqb-false a 1 t, eqb-false b 1 (sym e ∙ t)))

  pub twins_state : TwinMem m m' → state_of m ≡ state_of m'
  unfolding seat_of
  twins_state (lens, w) = ap₂ {C = State 3 (2 ∷ 2 ∷ [])} (λ (f : ℕ → Seat 3 (2 ∷ 2 ∷ [])) (n : ℕ). record { seat = f; all = n }) (fun_ext seat) (ap size_of (sym lens))
    where
      seat : (t : ℕ) → seat_of m t ≡ seat_of m' t
      seat t = on_case (ltb t 8)
          (λ l. let h : t < 8 = ltb-true t 8 l in
          rw l (ap₂ {C = Seat 3 (2 ∷ 2 ∷ [])} (λ (g : Node (levels 2)) (f : ℕ). record { grid = g; filled = eqb f 1 })
          (twin_tree 2 (pool_of m) (pool_of m') t t (w.tops t h)) (w.marks t h)))
          (λ l. rw l refl)
