-- Points with the same masked coordinates walk the same way; so the code may pass the number of a voxel. Assumes nothing.
use mathlib.Core.Path.{◌≡◌, sym, ap, ap₂, ◌∙◌, subst, fun_ext}
use mathlib.Core.Bool.{true, cond}
use mathlib.Core.List.{List, [], ◌∷◌}
use Prim.Native.Nat.{ℕ, suc, ◌+◌, ◌-◌, ◌*◌, ◌/◌, ◌%◌, ◌^◌, ◌≤◌}
use native.Mathlib.Omega.{arith}
use native.Mathlib.Nat.{mod-eq_of_lt}
use lib.IntN.{ℤ}
use lib.ListN.{length}
use lib.Dec.{ltb}
use Rattle.grid.specs.Geometry.{Point, masked, total, part, slot_of, Alike}
use Rattle.grid.proofs.Geometry.{masked_lt, masked_low}
use Rattle.nodes.specs.State.{St}
use Rattle.nodes.specs.Change.{put_s, hide_s}
use Rattle.nodes.specs.Walk.{voxel_of, point_of, view_s, reach_at, reach_s, broken, insert_at, insert_m}
use Rattle.nodes.specs.Remove.{remove_at, remove_m}

-- a part of a coordinate is one of its masked bits
part_same : (k b c : ℕ) (x y : ℤ) → b + c ≤ k → masked k x ≡ masked k y → part b c x ≡ part b c y
unfolding part
part_same k b c x y l e = ap (λ (m : ℕ). m / 2 ^ c) (sym (low x) ∙ ap (λ (m : ℕ). m % 2 ^ (b + c)) e ∙ low y)
  where
    low : (x : ℤ) → masked k x % 2 ^ (b + c) ≡ masked (b + c) x
    low x = subst (λ (j : ℕ). masked j x % 2 ^ (b + c) ≡ masked (b + c) x) (omega arith) (masked_low (k - (b + c)) (b + c) x)

pub slot_same : (k b : ℕ) (bs : List ℕ) (p q : Point) → b + total bs ≤ k → Alike k p q → slot_of b bs p ≡ slot_of b bs q
unfolding slot_of
slot_same k b bs p q l a =
    ap₂ (λ (i j : ℕ). i + j)
    (ap₂ (λ (i j : ℕ). i * 2 ^ (2 * b) + j * 2 ^ b) (part_same k b (total bs) p.x q.x l a.x) (part_same k b (total bs) p.y q.y l a.y))
    (part_same k b (total bs) p.z q.z l a.z)

-- the point of a voxel's number has the coordinates that it was made of, masked
pub voxel_alike : (p : Point) → Alike 7 p (point_of (voxel_of p))
unfolding masked
voxel_alike p =
    record {
      x = sym (ap (λ (m : ℕ). m % 128) high ∙ mod-eq_of_lt (masked_lt 7 p.x));
      y = sym (ap (λ (m : ℕ). m % 128) mid ∙ mod-eq_of_lt (masked_lt 7 p.y));
      z = sym (ap (λ (m : ℕ). m % 128) low ∙ mod-eq_of_lt (masked_lt 7 p.z));
    }
  where
    high : voxel_of p / 16384 ≡ masked 7 p.x
    high = omega (arith, masked_lt 7 p.y, masked_lt 7 p.z)

    mid : voxel_of p / 128 % 128 ≡ masked 7 p.y
    mid = omega (arith, masked_lt 7 p.y, masked_lt 7 p.z)

    low : voxel_of p % 128 ≡ masked 7 p.z
    low = omega (arith, masked_lt 7 p.z)

module _ (k : ℕ) (p q : Point) (a : Alike k p q) where
  pub reach_same : (b : ℕ) (bs : List ℕ) → b + total bs ≤ k → (n : ℕ) (s : St) (x : ℕ) → reach_s b bs n s x p ≡ reach_s b bs n s x q
  unfolding reach_s total
  reach_same b [] l n s x = ap (reach_at 0 s x) (slot_same k b [] p q l a)
  reach_same b (c ∷ bs) l n s x =
      ap (λ (j : ℕ). cond (s.kid x j) (cond (s.val x j) broken (cond (ltb (s.slot x j) n) (reach_s c bs n s (8 + s.slot x j) p) broken)) (reach_at (suc (length bs)) s x j))
      (slot_same k b (c ∷ bs) p q l a)
      ∙ below (slot_of b (c ∷ bs) q) (reach_same c bs (omega arith) n s (8 + s.slot x (slot_of b (c ∷ bs) q)))
    where
      below : (j : ℕ) → reach_s c bs n s (8 + s.slot x j) p ≡ reach_s c bs n s (8 + s.slot x j) q
          → cond (s.kid x j) (cond (s.val x j) broken (cond (ltb (s.slot x j) n) (reach_s c bs n s (8 + s.slot x j) p) broken)) (reach_at (suc (length bs)) s x j)
          ≡ cond (s.kid x j) (cond (s.val x j) broken (cond (ltb (s.slot x j) n) (reach_s c bs n s (8 + s.slot x j) q) broken)) (reach_at (suc (length bs)) s x j)
      below j e = ap (λ r. cond (s.kid x j) (cond (s.val x j) broken (cond (ltb (s.slot x j) n) r broken)) (reach_at (suc (length bs)) s x j)) e

  pub insert_same : (b : ℕ) (bs : List ℕ) → b + total bs ≤ k → (n w : ℕ) → insert_m b bs n p w ≡ insert_m b bs n q w
  unfolding insert_m total
  insert_same b [] l n w = fun_ext (λ x. fun_ext (λ s. ap (λ (j : ℕ). put_s x j w true s) (slot_same k b [] p q l a)))
  insert_same b (c ∷ bs) l n w =
      fun_ext (λ x. fun_ext (λ s. ap₂ (λ (go : ℕ → St → St) (j : ℕ). insert_at go n w x j s (view_s (c ∷ bs) s x j)) (insert_same c bs (omega arith) n w) (slot_same k b (c ∷ bs) p q l a)))

  pub remove_same : (b : ℕ) (bs : List ℕ) → b + total bs ≤ k → (n : ℕ) → remove_m b bs n p ≡ remove_m b bs n q
  unfolding remove_m total
  remove_same b [] l n = fun_ext (λ x. fun_ext (λ s. ap (λ (j : ℕ). hide_s x j s) (slot_same k b [] p q l a)))
  remove_same b (c ∷ bs) l n =
      fun_ext (λ x. fun_ext (λ s. ap₂ (λ (go : ℕ → St → St) (j : ℕ). remove_at bs go n x j s (view_s (c ∷ bs) s x j)) (remove_same c bs (omega arith) n) (slot_same k b (c ∷ bs) p q l a)))
