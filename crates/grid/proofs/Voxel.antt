-- The insert rule and the remove rule, where two points are one, and the sign of an active voxel. Assumes nothing.
use mathlib.Core.Path.{◌≡◌, refl, sym, ◌∙◌, ap, subst, fun_ext}
use mathlib.Core.Bool.{Bool, true, false, cond, false≢true}
use mathlib.Core.List.{List, [], ◌∷◌}
use mathlib.Core.Option.{Option, none, some, none-ne-some, some-injective}
use mathlib.Core.Logic.{◌⊎◌, inl, inr}
use Prim.Native.Nat.{ℕ}
use native.Mathlib.Nat.{mod-eq_of_lt}
use lib.Dec.{T}
use Rattle.floats.specs.Value.{negative, far, equal}
use Rattle.grid.specs.Geometry.{Point, total, slot_of, Alike}
use Rattle.grid.specs.Node.{branch, tile, hidden, on_slot, slot_ind, is_hidden, size, Node, SlotOf, Proper, ProperS, changed, every}
use Rattle.grid.specs.Voxel.{lookup, lookup_s, sign_at, sign_at_s, insert_s, insert, kept, remove_s, remove}
use Rattle.grid.proofs.Geometry.{slot_lt, Same, same_alike}
use Rattle.grid.proofs.Places.{every_at, changed_at, changed_same}

module _ (p : Point) where
  -- a slot of a node changed: what a lookup elsewhere sees
  changed_lookup : (b : ℕ) (bs : List ℕ) (n : Node (b ∷ bs)) (i : ℕ) (f : SlotOf bs → SlotOf bs) (q : Point)
      → (slot_of b bs q ≡ i → lookup_s bs (f (n (slot_of b bs q))) q ≡ lookup_s bs (n (slot_of b bs q)) q)
      → lookup_s bs (changed (size b) i f n (slot_of b bs q)) q ≡ lookup_s bs (n (slot_of b bs q)) q
  changed_lookup b bs n i f q h =
      changed_at (λ t. lookup_s bs t q ≡ lookup_s bs (n (slot_of b bs q)) q) (size b) i f n (slot_of b bs q) (λ e. h (sym (mod-eq_of_lt (slot_lt b bs q)) ∙ e)) (λ _. refl)

  -- what a lookup at p sees
  into : (b : ℕ) (bs : List ℕ) (n : Node (b ∷ bs)) (f : SlotOf bs → SlotOf bs) {o : Option ℕ} → lookup_s bs (f (n (slot_of b bs p))) p ≡ o
      → lookup_s (b ∷ bs) (branch (changed (size b) (slot_of b bs p) f n)) p ≡ o
  unfolding lookup
  into b bs n f e = ap (λ t. lookup_s bs t p) (changed_same (size b) (slot_of b bs p) f n (slot_lt b bs p)) ∙ e

  hidden_lookup : (bs : List ℕ) (s : SlotOf bs) (q : Point) → is_hidden s ≡ true → lookup_s bs s q ≡ none
  unfolding is_hidden
  hidden_lookup bs (branch c) q e = absurd (false≢true e)
  hidden_lookup bs (tile v) q e = absurd (false≢true e)
  hidden_lookup bs (hidden v) q e = refl

  module _ (v : ℕ) where
    here_tile : (bs : List ℕ) (w : ℕ) → equal w v ≡ false → lookup_s bs (insert_s bs p v (tile w)) p ≡ some v
    unfolding insert_s
    here_tile [] w e = refl
    here_tile (b ∷ bs) w e = rw e (into b bs (λ _. tile w) (insert_s bs p v) (here_tile bs w e))

    here_hidden : (bs : List ℕ) (w : ℕ) → lookup_s bs (insert_s bs p v (hidden w)) p ≡ some v
    unfolding insert_s
    here_hidden [] w = refl
    here_hidden (b ∷ bs) w = into b bs (λ _. hidden far) (insert_s bs p v) (here_hidden bs far)

    -- at p: the given value; or a tile equal to it stands there, and nothing has changed
    abbrev pub Here : (bs : List ℕ) → SlotOf bs → SlotOf bs → Type 0
    Here bs s s' =
        (lookup_s bs s' p ≡ some v)
        ⊎ ((w : ℕ) × T (equal w v) × (lookup_s bs s p ≡ some w) × (lookup_s bs s' p ≡ some w) × (ProperS bs s → s' ≡ s))

    pub insert_s_here : (bs : List ℕ) (s : SlotOf bs) → Here bs s (insert_s bs p v s)
    unfolding insert_s lookup
    insert_s_here [] s = inl refl
    insert_s_here (b ∷ bs) (branch n) = go (insert_s_here bs (n i))
      where
        i : ℕ
        i = slot_of b bs p

        f : SlotOf bs → SlotOf bs
        f = insert_s bs p v

        -- in a periodic node every slot that is i modulo its size holds what slot i holds
        back : (ProperS bs (n i) → f (n i) ≡ n i) → Proper (b ∷ bs) n → (k : ℕ) → changed (size b) i f n k ≡ n k
        back h r k = changed_at (λ t. t ≡ n k) (size b) i f n k (λ e. ap f (r.0 k ∙ ap n e) ∙ h (r.1 i) ∙ sym (r.0 k ∙ ap n e)) (λ _. refl)

        go : Here bs (n i) (f (n i)) → Here (b ∷ bs) (branch n) (branch (changed (size b) i f n))
        go (inl e) = inl (into b bs n f e)
        go (inr (w, t, l, l', e)) = inr (w, t, l, into b bs n f l', λ r. ap branch (fun_ext (back e r)))
    insert_s_here (b ∷ bs) (tile w) = go (equal w v) refl
      where
        go : (k : Bool) → equal w v ≡ k → Here (b ∷ bs) (tile w) (insert_s (b ∷ bs) p v (tile w))
        go true e = inr (w, subst T (sym e) tt, refl, rw e, λ _. rw e)
        go false e = inl (here_tile (b ∷ bs) w e)
    insert_s_here (b ∷ bs) (hidden w) = inl (here_hidden (b ∷ bs) w)

    pub insert_s_there : (bs : List ℕ) (s : SlotOf bs) (q : Point) → (Same bs p q → ⊥) → lookup_s bs (insert_s bs p v s) q ≡ lookup_s bs s q
    unfolding insert_s lookup
    insert_s_there [] s q h = absurd (h tt)
    insert_s_there (b ∷ bs) (branch n) q h =
        changed_lookup b bs n (slot_of b bs p) (insert_s bs p v) q
        (λ e. insert_s_there bs (n (slot_of b bs q)) q (λ g. h (e, g)))
    insert_s_there (b ∷ bs) (tile w) q h = go (insert_s_there bs (tile w) q) (equal w v)
      where
        go : ((Same bs p q → ⊥) → lookup_s bs (insert_s bs p v (tile w)) q ≡ some w) → (k : Bool) →
            lookup_s (b ∷ bs) (cond k (tile w) (branch (changed (size b) (slot_of b bs p) (insert_s bs p v) (λ _. tile w)))) q ≡ some w
        go ih true = refl
        go ih false = changed_lookup b bs (λ _. tile w) (slot_of b bs p) (insert_s bs p v) q (λ e. ih (λ g. h (e, g)))
    insert_s_there (b ∷ bs) (hidden w) q h =
        changed_lookup b bs (λ _. hidden far) (slot_of b bs p) (insert_s bs p v) q (λ e. insert_s_there bs (hidden far) q (λ g. h (e, g)))

  -- a branch that is released showed nothing
  pub kept_lookup : (b : ℕ) (bs : List ℕ) (n : Node (b ∷ bs)) (q : Point) → lookup_s (b ∷ bs) (kept b bs n) q ≡ lookup_s (b ∷ bs) (branch n) q
  unfolding kept lookup
  kept_lookup b bs n q = go (every is_hidden (size b) n) refl
    where
      go : (k : Bool) → every is_hidden (size b) n ≡ k
          → lookup_s (b ∷ bs) (cond k (hidden far) (branch n)) q ≡ lookup_s bs (n (slot_of b bs q)) q
      go true e = sym (hidden_lookup bs (n (slot_of b bs q)) q (every_at is_hidden (size b) n (slot_of b bs q) e (slot_lt b bs q)))
      go false e = refl

  pub remove_s_here : (bs : List ℕ) (s : SlotOf bs) → lookup_s bs (remove_s bs p s) p ≡ none
  unfolding remove_s
  remove_s_here [] (branch c) = absurd c
  remove_s_here [] (tile w) = refl
  remove_s_here [] (hidden w) = refl
  remove_s_here (b ∷ bs) (hidden w) = refl
  remove_s_here (b ∷ bs) (tile w) = into b bs (λ _. tile w) (remove_s bs p) (remove_s_here bs (tile w))
  remove_s_here (b ∷ bs) (branch n) =
      kept_lookup b bs (changed (size b) (slot_of b bs p) (remove_s bs p) n) p
      ∙ into b bs n (remove_s bs p) (remove_s_here bs (n (slot_of b bs p)))

  pub remove_s_there : (bs : List ℕ) (s : SlotOf bs) (q : Point) → (Same bs p q → ⊥) → lookup_s bs (remove_s bs p s) q ≡ lookup_s bs s q
  unfolding remove_s lookup
  remove_s_there [] s q h = absurd (h tt)
  remove_s_there (b ∷ bs) (hidden w) q h = refl
  remove_s_there (b ∷ bs) (tile w) q h =
      changed_lookup b bs (λ _. tile w) (slot_of b bs p) (remove_s bs p) q (λ e. remove_s_there bs (tile w) q (λ g. h (e, g)))
  remove_s_there (b ∷ bs) (branch n) q h =
      kept_lookup b bs (changed (size b) (slot_of b bs p) (remove_s bs p) n) q
      ∙ changed_lookup b bs n (slot_of b bs p) (remove_s bs p) q
      (λ e. remove_s_there bs (n (slot_of b bs q)) q (λ g. h (e, g)))

  -- ---- the rules as document 01 has them, of a whole grid

  -- "Afterwards the lookup at p is the given value (under an equal tile, the tile's own zero stays)", and then no slot has changed
  abbrev pub InsertHere : (v : ℕ) (b : ℕ) (bs : List ℕ) (n : Node (b ∷ bs)) → Type 0
  InsertHere v b bs n =
      (lookup (b ∷ bs) (insert (b ∷ bs) p v n) p ≡ some v)
      ⊎ ((w : ℕ) × T (equal w v) × (lookup (b ∷ bs) n p ≡ some w) × (lookup (b ∷ bs) (insert (b ∷ bs) p v n) p ≡ some w)
      × (Proper (b ∷ bs) n → insert (b ∷ bs) p v n ≡ n))

  pub insert_here : (v : ℕ) (b : ℕ) (bs : List ℕ) (n : Node (b ∷ bs)) → InsertHere v b bs n
  unfolding insert insert_s lookup
  insert_here v b bs n = go (insert_s_here v (b ∷ bs) (branch n))
    where
      go : Here v (b ∷ bs) (branch n) (branch (insert (b ∷ bs) p v n)) → InsertHere v b bs n
      go (inl e) = inl e
      go (inr (w, t, l, l', e)) = inr (w, t, l, l', λ r. ap (on_slot (λ m. m) (λ _. n) (λ _. n)) (e r))

  -- "every q with other masked coordinates looks up as before"
  pub insert_there : (v : ℕ) (b : ℕ) (bs : List ℕ) (n : Node (b ∷ bs)) (q : Point) → (Alike (total (b ∷ bs)) q p → ⊥)
      → lookup (b ∷ bs) (insert (b ∷ bs) p v n) q ≡ lookup (b ∷ bs) n q
  unfolding insert insert_s
  insert_there v b bs n q h = insert_s_there v (b ∷ bs) (branch n) q (λ g. h (same_alike (b ∷ bs) p q g))

  pub remove_here : (b : ℕ) (bs : List ℕ) (n : Node (b ∷ bs)) → lookup (b ∷ bs) (remove (b ∷ bs) p n) p ≡ none
  unfolding remove
  remove_here b bs n = into b bs n (remove_s bs p) (remove_s_here bs (n (slot_of b bs p)))

  pub remove_there : (b : ℕ) (bs : List ℕ) (n : Node (b ∷ bs)) (q : Point) → (Alike (total (b ∷ bs)) q p → ⊥)
      → lookup (b ∷ bs) (remove (b ∷ bs) p n) q ≡ lookup (b ∷ bs) n q
  unfolding remove lookup
  remove_there b bs n q h =
      changed_lookup b bs n (slot_of b bs p) (remove_s bs p) q
      (λ e. remove_s_there bs (n (slot_of b bs q)) q (λ g. h (same_alike (b ∷ bs) p q (e, g))))

-- where a lookup shows a value, its sign is the sign there
pub active_sign : (bs : List ℕ) (n : Node bs) (p : Point) (v : ℕ) → lookup bs n p ≡ some v → sign_at bs n p ≡ negative v
unfolding lookup sign_at
active_sign [] n p v e = absurd n
active_sign (b ∷ bs) n p v e =
    slot_ind (λ s. lookup_s bs s p ≡ some v → sign_at_s bs s p ≡ negative v)
    (λ c. active_sign bs c p v) (λ w h. ap negative (some-injective w v h)) (λ w h. absurd (none-ne-some v h))
    (n (slot_of b bs p)) e
