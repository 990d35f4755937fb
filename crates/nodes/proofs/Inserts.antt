-- An insert, by what the code does at each slot. Assumes nothing.
use Rattle.std.specs.Prelude.{Option, Some, None}
use mathlib.Core.Path.{◌≡◌, refl, sym, ap, ◌∙◌, subst}
use mathlib.Core.Bool.{Bool, true, false, cond}
use Prim.Native.Nat.{ℕ, zero, suc, ◌+◌, ◌-◌, ◌<◌}
use lib.Dec.{ltb}
use Rattle.floats.specs.Value.{far}
use Rattle.grid.specs.Geometry.{Point, slot_of}
use Rattle.nodes.specs.State.{St}
use Rattle.nodes.specs.Change.{put_s, attach_s, next}
use Rattle.nodes.specs.Insert.{open_s, open_r, grow_s, grow_r, step_s, step_r, onward}
use Rattle.nodes.specs.Walk.{branching, below, view_s, ready_s, stays, grown_m, insert_at, insert_m}
use Rattle.nodes.specs.declared.walk.Slot.{Slot}
use Rattle.nodes.specs.declared.walk.Slot.TheVariants.{Branch, Tile, Hidden}
use Rattle.std.specs.Bool.{then_some}
use Rattle.std.proofs.lemmas.Bool.{and_parts}
use Rattle.nodes.proofs.Paths.{one_less, some_if, some_under, low_under}

-- ---- grow
module _ (n : ℕ) (s : St) {k : Bool} (e : k ≡ ready_s n s) (x j u : ℕ) (a : Bool) where
  pub grow_yes : k ≡ true → {c : ℕ} {t : St} → c ≡ next s → t ≡ attach_s x j u a s → (Some c ≡ grow_r n s) × (t ≡ grow_s n x j u a s)
  unfolding grow_r grow_s
  grow_yes h p q = (ap Some p ∙ sym (rw (sym e ∙ h) refl), q ∙ sym (rw (sym e ∙ h) refl))

  pub grow_no : k ≡ false → (None ≡ grow_r n s) × (s ≡ grow_s n x j u a s)
  unfolding grow_r grow_s
  grow_no h = (sym (rw (sym e ∙ h) refl), sym (rw (sym e ∙ h) refl))

-- ---- open_up and descend: the answer and the state that is left

module _ (n x k : ℕ) (s : St) where
  pub open_branch : {t : Slot} {c : ℕ} {r : Option ℕ} → t ≡ Branch c → r ≡ then_some (ltb c n) c → (r ≡ open_r n s t) × (s ≡ open_s n x k s t)
  unfolding open_r open_s
  open_branch {c = c} e p = (p ∙ some_if (ltb c n) c ∙ sym (ap (open_r n s) e), sym (ap (open_s n x k s) e))

  pub open_else : (t : Slot) {v : ℕ} {r : Option ℕ} {s' : St} → ((c : ℕ) → t ≡ Branch c → ⊥) → v ≡ far → r ≡ grow_r n s → s' ≡ grow_s n x k v false s
      → (r ≡ open_r n s t) × (s' ≡ open_s n x k s t)
  unfolding open_r open_s
  open_else (Branch c) h f a b = absurd (h c refl)
  open_else (Tile u) h f a b = (a, b ∙ ap (λ (v : ℕ). grow_s n x k v false s) f)
  open_else (Hidden u) h f a b = (a, b ∙ ap (λ (v : ℕ). grow_s n x k v false s) f)

abbrev pub Done : ℕ → ℕ → ℕ → ℕ → St → Slot → Option ℕ → St → Type 0
Done n w x k s t r s' = (r ≡ step_r n w s t) × (s' ≡ step_s n w x k s t)

module _ (n w x k : ℕ) (s : St) where
  pub step_open : (t : Slot) {r : Option ℕ} {s' : St} → ((u : ℕ) → t ≡ Tile u → ⊥) → r ≡ open_r n s t → s' ≡ open_s n x k s t → Done n w x k s t r s'
  unfolding open_r open_s step_r step_s
  step_open (Branch c) h a b = (a, b)
  step_open (Tile u) h a b = absurd (h u refl)
  step_open (Hidden u) h a b = (a, b)

  pub step_same : {t : Slot} {u : ℕ} {b : Bool} → t ≡ Tile u → b ≡ stays u w → b ≡ true → Done n w x k s t None s
  unfolding step_r step_s
  step_same e p q = (sym (ap (step_r n w s) e ∙ rw (sym p ∙ q) refl), sym (ap (step_s n w x k s) e ∙ rw (sym p ∙ q) refl))

  pub step_tile : {t : Slot} {u : ℕ} {b : Bool} {r : Option ℕ} {s' : St} → t ≡ Tile u → b ≡ stays u w → b ≡ false → r ≡ grow_r n s → s' ≡ grow_s n x k u true s
      → Done n w x k s t r s'
  unfolding step_r step_s
  step_tile e p q a b = (a ∙ sym (ap (step_r n w s) e ∙ rw (sym p ∙ q) refl), b ∙ sym (ap (step_s n w x k s) e ∙ rw (sym p ∙ q) refl))

-- where an insert goes on, the cell is one of the pool's
pub grow_low : (n : ℕ) (s : St) {c : ℕ} → Some c ≡ grow_r n s → c < n
unfolding grow_r
grow_low n s e =
    let t = some_under (ready_s n s) e in
    low_under (and_parts _ _ (and_parts _ _ t.0).1).1 t.1

pub branch_low : (n d : ℕ) {c : ℕ} → Some c ≡ cond (ltb d n) (Some d) None → c < n
branch_low n d e = let t = some_under (ltb d n) e in low_under t.0 t.1

pub step_low : (n w : ℕ) (s : St) (t : Slot) {c : ℕ} → Some c ≡ step_r n w s t → c < n
unfolding step_r
step_low n w s (Branch d) e = branch_low n d e
step_low n w s (Tile u) {c} e = go (stays u w) e
  where
    go : (b : Bool) → Some c ≡ cond b None (grow_r n s) → c < n
    go true q = absurd cc
    go false q = grow_low n s q
step_low n w s (Hidden u) e = grow_low n s e

-- ---- the whole insert: at the slot, and onward
pub grow_is : (go : ℕ → St → St) (n x k u : ℕ) (a : Bool) (s : St) → grown_m go n x k u a s ≡ onward go (grow_r n s) (grow_s n x k u a s)
unfolding grow_r grow_s
grow_is go n x k u a s = by (ready_s n s)
  where
    by : (b : Bool) → cond b (go (8 + next s) (attach_s x k u a s)) s ≡ onward go (cond b (Some (next s)) None) (cond b (attach_s x k u a s) s)
    by true = refl
    by false = refl

step_is : (go : ℕ → St → St) (n w x k : ℕ) (s : St) (t : Slot) → insert_at go n w x k s t ≡ onward go (step_r n w s t) (step_s n w x k s t)
unfolding step_r step_s
step_is go n w x k s (Branch c) = by (ltb c n)
  where
    by : (b : Bool) → cond b (go (8 + c) s) s ≡ onward go (cond b (Some c) None) s
    by true = refl
    by false = refl
step_is go n w x k s (Tile u) = by (stays u w)
  where
    by : (b : Bool) → cond b s (grown_m go n x k u true s) ≡ onward go (cond b None (grow_r n s)) (cond b s (grow_s n x k u true s))
    by true = refl
    by false = grow_is go n x k u true s
step_is go n w x k s (Hidden u) = grow_is go n x k far false s

insert_up : (n l : ℕ) (p : Point) (w x : ℕ) (s : St) → (l ≡ 0 → ⊥) → insert_m (branching l) (below l) n p w x s
    ≡ insert_at (insert_m (branching (l - 1)) (below (l - 1)) n p w) n w x (slot_of (branching l) (below l) p) s (view_s (below l) s x (slot_of (branching l) (below l) p))
unfolding insert_m
insert_up n zero p w x s h = absurd (h refl)
insert_up n (suc l) p w x s h =
    let k = slot_of (branching (suc l)) (below (suc l)) p in
    ap (λ (m : ℕ). insert_at (insert_m (branching m) (below m) n p w) n w x k s (view_s (below (suc l)) s x k)) (sym (one_less l))

module _ (n l : ℕ) (p : Point) (w x : ℕ) (s : St) {k : ℕ} (e : k ≡ slot_of (branching l) (below l) p) where
  pub insert_leaf : {s' : St} → l ≡ 0 → s' ≡ put_s x k w true s → s' ≡ insert_m (branching l) (below l) n p w x s
  unfolding insert_m
  insert_leaf z h = h ∙ ap (λ (j : ℕ). put_s x j w true s) e ∙ subst (λ (i : ℕ). put_s x (slot_of (branching i) (below i) p) w true s ≡ insert_m (branching i) (below i) n p w x s) (sym z) refl

  module _ (t : Slot) (h : l ≡ 0 → ⊥) (q : t ≡ view_s (below l) s x k) where
    whole : insert_m (branching l) (below l) n p w x s ≡ onward (insert_m (branching (l - 1)) (below (l - 1)) n p w) (step_r n w s t) (step_s n w x k s t)
    whole =
        let go : ℕ → St → St = insert_m (branching (l - 1)) (below (l - 1)) n p w in
        insert_up n l p w x s h ∙ ap (λ (j : ℕ). insert_at go n w x j s (view_s (below l) s x j)) (sym e) ∙ ap (insert_at go n w x k s) (sym q) ∙ step_is go n w x k s t

    pub insert_stop : {s' : St} → Done n w x k s t None s' → s' ≡ insert_m (branching l) (below l) n p w x s
    insert_stop {s'} d =
        let go : ℕ → St → St = insert_m (branching (l - 1)) (below (l - 1)) n p w in
        (λ i. onward go (d.0 i) (d.1 i)) ∙ sym whole

    pub insert_go : {c : ℕ} {s' s'' : St} → Done n w x k s t (Some c) s' → s'' ≡ insert_m (branching (l - 1)) (below (l - 1)) n p w (8 + c) s' → s'' ≡ insert_m (branching l) (below l) n p w x s
    insert_go {c} d f =
        let go : ℕ → St → St = insert_m (branching (l - 1)) (below (l - 1)) n p w in
        f ∙ (λ i. onward go (d.0 i) (d.1 i)) ∙ sym whole
