-- Every call leaves proper nodes proper: no value that is not finite comes in, and every slot is determined. Assumes nothing.
use mathlib.Core.Path.{◌≡◌, refl, sym, ◌∙◌, ap, ap₂}
use mathlib.Core.Bool.{Bool, true, false, cond, beq}
use mathlib.Core.List.{List, [], ◌∷◌}
use Prim.Native.Nat.{ℕ, ◌%◌}
use native.Mathlib.Nat.{mod-mod}
use lib.Dec.{eqb}
use Rattle.floats.specs.Value.{is_finite, negative, negated, far, equal}
use Rattle.floats.proofs.Finite.{finite_negated, finite_far, finite_far_with, finite_least, finite_most}
use Rattle.grid.specs.Combine.{Operation, union, subtract, intersect, joined, stays_with, taken, under_b, under_a, joined_voxels, combine_s}
use Rattle.grid.specs.Geometry.{Point, slot_of}
use Rattle.grid.specs.Node.{branch, tile, hidden, on_slot, slot_ind, is_hidden, size, Node, SlotOf, Proper, ProperS, changed, every}
use Rattle.grid.specs.SignFill.{carried, written, filled_rows, fill_signs, fill_signs_s}
use Rattle.grid.specs.Voxel.{insert_s, insert, kept, remove_s, remove}
use Rattle.grid.specs.Whole.{fill, clear, prune_s, cut_s, flip, flip_s}
use Rattle.grid.proofs.Places.{cond_at, changed_at}

changed_proper : (b : ℕ) (bs : List ℕ) (i : ℕ) (f : SlotOf bs → SlotOf bs) (n : Node (b ∷ bs)) → Proper (b ∷ bs) n → ((s : SlotOf bs) → ProperS bs s → ProperS bs (f s)) →
    Proper (b ∷ bs) (changed (size b) i f n)
unfolding changed
changed_proper b bs i f n r h = (
  (λ k. ap (λ s. cond (eqb (k % size b) i) (f s) s) (r.0 k) ∙ ap (λ (j : ℕ). cond (eqb j i) (f (n (k % size b))) (n (k % size b))) (sym (mod-mod k (size b)))),
  (λ k. changed_at (ProperS bs) (size b) i f n k (λ _. h (n k) (r.1 k)) (λ _. r.1 k)),
)

map_proper : (b : ℕ) (bs : List ℕ) (g : SlotOf bs → SlotOf bs) (n : Node (b ∷ bs)) → Proper (b ∷ bs) n → ((s : SlotOf bs) → ProperS bs s → ProperS bs (g s)) → Proper (b ∷ bs) (λ i. g (n i))
map_proper b bs g n r h = ((λ k. ap g (r.0 k)), (λ k. h (n k) (r.1 k)))

flat_proper : (b : ℕ) (bs : List ℕ) (s : SlotOf bs) → ProperS bs s → Proper (b ∷ bs) (λ _. s)
flat_proper b bs s h = ((λ k. refl), (λ k. h))

kept_proper : (b : ℕ) (bs : List ℕ) (n : Node (b ∷ bs)) → Proper (b ∷ bs) n → ProperS (b ∷ bs) (kept b bs n)
unfolding kept
kept_proper b bs n r = cond_at (ProperS (b ∷ bs)) (every is_hidden (size b) n) (hidden far) (branch n) (λ _. finite_far) (λ _. r)

insert_s_proper : (p : Point) (v : ℕ) → is_finite v ≡ true → (bs : List ℕ) (s : SlotOf bs) → ProperS bs s → ProperS bs (insert_s bs p v s)
unfolding insert_s
insert_s_proper p v h [] s r = h
insert_s_proper p v h (b ∷ bs) (branch n) r = changed_proper b bs (slot_of b bs p) (insert_s bs p v) n r (insert_s_proper p v h bs)
insert_s_proper p v h (b ∷ bs) (tile w) r =
    cond_at (ProperS (b ∷ bs)) (equal w v) (tile w) _ (λ _. r) (λ _. changed_proper b bs (slot_of b bs p) (insert_s bs p v) (λ _. tile w) (flat_proper b bs (tile w) r) (insert_s_proper p v h bs))
insert_s_proper p v h (b ∷ bs) (hidden w) r = changed_proper b bs (slot_of b bs p) (insert_s bs p v) (λ _. hidden far) (flat_proper b bs (hidden far) finite_far) (insert_s_proper p v h bs)

remove_s_proper : (p : Point) (bs : List ℕ) (s : SlotOf bs) → ProperS bs s → ProperS bs (remove_s bs p s)
unfolding remove_s
remove_s_proper p [] (branch c) r = absurd c
remove_s_proper p [] (tile w) r = r
remove_s_proper p [] (hidden w) r = r
remove_s_proper p (b ∷ bs) (hidden w) r = r
remove_s_proper p (b ∷ bs) (tile w) r = changed_proper b bs (slot_of b bs p) (remove_s bs p) (λ _. tile w) (flat_proper b bs (tile w) r) (remove_s_proper p bs)
remove_s_proper p (b ∷ bs) (branch n) r = kept_proper b bs _ (changed_proper b bs (slot_of b bs p) (remove_s bs p) n r (remove_s_proper p bs))

prune_s_proper : (bs : List ℕ) (s : SlotOf bs) → ProperS bs s → ProperS bs (prune_s bs s)
unfolding prune_s
prune_s_proper [] s r = r
prune_s_proper (b ∷ bs) (branch n) r = kept_proper b bs _ (map_proper b bs (prune_s bs) n r (prune_s_proper bs))
prune_s_proper (b ∷ bs) (tile w) r = r
prune_s_proper (b ∷ bs) (hidden w) r = r

cut_tile : (bs : List ℕ) (k : Bool) (v : ℕ) → is_finite v ≡ true → ProperS bs (cond k (hidden v) (tile v))
cut_tile bs true v r = r
cut_tile bs false v r = r

cut_s_proper : (t : ℕ → Bool) (bs : List ℕ) (s : SlotOf bs) → ProperS bs s → ProperS bs (cut_s t bs s)
unfolding cut_s
cut_s_proper t [] (branch c) r = absurd c
cut_s_proper t [] (tile w) r = cut_tile [] (t w) w r
cut_s_proper t [] (hidden w) r = r
cut_s_proper t (b ∷ bs) (branch n) r = kept_proper b bs _ (map_proper b bs (cut_s t bs) n r (cut_s_proper t bs))
cut_s_proper t (b ∷ bs) (tile w) r = cut_tile (b ∷ bs) (t w) w r
cut_s_proper t (b ∷ bs) (hidden w) r = r

pub flip_proper : (bs : List ℕ) (c : Node bs) → Proper bs c → Proper bs (flip bs c)
unfolding flip
flip_proper [] c r = tt
flip_proper (b ∷ bs) n r = map_proper b bs (flip_s bs) n r (slot_ind (λ s. ProperS bs s → ProperS bs (flip_s bs s)) (flip_proper bs) (λ v h. finite_negated v ∙ h) (λ v h. finite_negated v ∙ h))

filled_rows_proper : (b : ℕ) (bs : List ℕ) (n : Node (b ∷ bs)) → Proper (b ∷ bs) n → Proper (b ∷ bs) (filled_rows b bs n)
unfolding filled_rows
filled_rows_proper b bs n r = (
  (λ k. ap (written bs (carried b bs n (k % size b))) (r.0 k) ∙ ap (λ (j : ℕ). written bs (carried b bs n j) (n (k % size b))) (sym (mod-mod k (size b)))),
  (λ k. slot_ind (λ s. (x : Bool) → ProperS bs s → ProperS bs (written bs x s)) (λ c x h. h) (λ v x h. h) (λ v x h. finite_far_with x) (n k) (carried b bs n (k % size b)) (r.1 k)),
)

pub fill_signs_proper : (bs : List ℕ) (c : Node bs) → Proper bs c → Proper bs (fill_signs bs c)
unfolding fill_signs
fill_signs_proper [] c r = tt
fill_signs_proper (b ∷ bs) n r =
    filled_rows_proper b bs (λ i. fill_signs_s bs (n i)) (map_proper b bs (fill_signs_s bs) n r
    (slot_ind (λ s. ProperS bs s → ProperS bs (fill_signs_s bs s)) (fill_signs_proper bs) (λ v h. h) (λ v h. h)))

under_b_proper : (o : Operation) (bs : List ℕ) (k : Bool) (s : SlotOf bs) → ProperS bs s → ProperS bs (under_b o bs k s)
unfolding under_b
under_b_proper union bs k s r = cond_at (ProperS bs) (beq k true) _ _ (λ _. finite_far_with true) (λ _. r)
under_b_proper subtract bs k s r = cond_at (ProperS bs) (beq k true) _ _ (λ _. finite_far) (λ _. r)
under_b_proper intersect bs k s r = cond_at (ProperS bs) (beq k false) _ _ (λ _. finite_far) (λ _. r)

taken_proper : (o : Operation) (bs : List ℕ) (c : Node bs) → Proper bs c → Proper bs (taken o bs c)
taken_proper union bs c r = r
taken_proper subtract bs c r = flip_proper bs c r
taken_proper intersect bs c r = r

under_a_proper : (o : Operation) (bs : List ℕ) (k : Bool) (s t : SlotOf bs) → ProperS bs s → ProperS bs t → ProperS bs (under_a o bs k s t)
unfolding under_a
under_a_proper o bs k s t r r' = cond_at (ProperS bs) (beq k (stays_with o)) _ _ (λ _. r) (λ _. go t r')
  where
    go : (t : SlotOf bs) → ProperS bs t → ProperS bs (on_slot (λ n. branch (taken o bs n)) (λ w. under_b o bs (negative w) s) (λ w. under_b o bs (negative w) s) t)
    go (branch n) h = taken_proper o bs n h
    go (tile w) h = under_b_proper o bs (negative w) s r
    go (hidden w) h = under_b_proper o bs (negative w) s r

joined_finite : (o : Operation) (v w : ℕ) → is_finite v ≡ true → is_finite w ≡ true → is_finite (joined o v w) ≡ true
joined_finite union v w p q = finite_least v w p q
joined_finite subtract v w p q = finite_most v (negated w) p (finite_negated w ∙ q)
joined_finite intersect v w p q = finite_most v w p q

combine_s_proper : (o : Operation) (bs : List ℕ) (s t : SlotOf bs) → ProperS bs s → ProperS bs t → ProperS bs (combine_s o bs s t)
unfolding combine_s joined_voxels
combine_s_proper o [] (branch c) t r r' = absurd c
combine_s_proper o [] (tile v) (branch c) r r' = absurd c
combine_s_proper o [] (tile v) (tile w) r r' = joined_finite o v w r r'
combine_s_proper o [] (tile v) (hidden w) r r' = joined_finite o v w r r'
combine_s_proper o [] (hidden v) (branch c) r r' = absurd c
combine_s_proper o [] (hidden v) (tile w) r r' = joined_finite o v w r r'
combine_s_proper o [] (hidden v) (hidden w) r r' = joined_finite o v w r r'
combine_s_proper o (b ∷ bs) (tile v) t r r' = under_a_proper o (b ∷ bs) (negative v) (tile v) t r r'
combine_s_proper o (b ∷ bs) (hidden v) t r r' = under_a_proper o (b ∷ bs) (negative v) (hidden v) t r r'
combine_s_proper o (b ∷ bs) (branch m) (tile w) r r' = under_b_proper o (b ∷ bs) (negative w) (branch m) r
combine_s_proper o (b ∷ bs) (branch m) (hidden w) r r' = under_b_proper o (b ∷ bs) (negative w) (branch m) r
combine_s_proper o (b ∷ bs) (branch m) (branch n) r r' = ((λ k. ap₂ (combine_s o bs) (r.0 k) (r'.0 k)), (λ k. combine_s_proper o bs (m k) (n k) (r.1 k) (r'.1 k)))

-- of whole grids
module _ (b : ℕ) (bs : List ℕ) where
  pub insert_proper : (p : Point) (v : ℕ) → is_finite v ≡ true → (n : Node (b ∷ bs)) → Proper (b ∷ bs) n → Proper (b ∷ bs) (insert (b ∷ bs) p v n)
  unfolding insert
  insert_proper p v h n r = changed_proper b bs (slot_of b bs p) (insert_s bs p v) n r (insert_s_proper p v h bs)

  pub remove_proper : (p : Point) (n : Node (b ∷ bs)) → Proper (b ∷ bs) n → Proper (b ∷ bs) (remove (b ∷ bs) p n)
  unfolding remove
  remove_proper p n r = changed_proper b bs (slot_of b bs p) (remove_s bs p) n r (remove_s_proper p bs)

  pub fill_proper : (v : ℕ) → is_finite v ≡ true → Proper (b ∷ bs) (fill b bs v)
  unfolding fill
  fill_proper v h = flat_proper b bs (tile v) h

  pub clear_proper : Proper (b ∷ bs) (clear b bs)
  unfolding clear
  clear_proper = flat_proper b bs (hidden far) finite_far

  pub prune_proper : (n : Node (b ∷ bs)) → Proper (b ∷ bs) n → Proper (b ∷ bs) (λ i. prune_s bs (n i))
  prune_proper n r = map_proper b bs (prune_s bs) n r (prune_s_proper bs)

  pub cut_proper : (t : ℕ → Bool) (n : Node (b ∷ bs)) → Proper (b ∷ bs) n → Proper (b ∷ bs) (λ i. cut_s t bs (n i))
  cut_proper t n r = map_proper b bs (cut_s t bs) n r (cut_s_proper t bs)

  pub combine_proper : (o : Operation) (m n : Node (b ∷ bs)) → Proper (b ∷ bs) m → Proper (b ∷ bs) n → Proper (b ∷ bs) (λ i. combine_s o bs (m i) (n i))
  combine_proper o m n r r' = ((λ k. ap₂ (combine_s o bs) (r.0 k) (r'.0 k)), (λ k. combine_s_proper o bs (m k) (n k) (r.1 k) (r'.1 k)))
