-- A promise kept, by what its verdict is: the order of the refusals is followed test by test. Assumes nothing.
use mathlib.Core.Path.{◌≡◌, refl, sym, ap, ap₂, ◌∙◌, subst}
use mathlib.Core.Bool.{Bool, true, false, cond}
use mathlib.Core.List.{[], ◌∷◌}
use mathlib.Core.Option.{none, some}
use Prim.Native.Nat.{ℕ, ◌<◌}
use native.Mathlib.Omega.{arith}
use lib.ListN.{get_or}
use lib.Dec.{eqb, leb}
use borrow.Author.Tests.{le-leb, lt-leb, leb-true, leb-false}
use borrow.Table.Steps.{cases}
use Rattle.std.proofs.lemmas.Option.{cond_some, none-some}
use Rattle.std.specs.Prelude.{Result, Ok, Err, Float, Option as Maybe, Some, None, IsErrAnd}
use Rattle.floats.specs.Value.{negative}
use Rattle.grid.specs.Geometry.{Point, total}
use Rattle.seats.specs.Call.{Act, Call, Answer, One, Lookup, Sign, refused, found, negative_is}
use Rattle.seats.specs.Refusal.{refusal}
use Rattle.nodes.specs.State.{St}
use Rattle.nodes.specs.Layout.{Sized, st}
use Rattle.nodes.specs.Walk.{Reach, active, hidden, broken, reach_s, point_of, voxel_of}
use Rattle.means.specs.Mem.{Mem, cells_of, fits, pool_of, walk, reads_in}
use Rattle.means.proofs.Points.{reach_same, voxel_alike}
use Rattle.means.proofs.Memory.{fitting}
use Rattle.sound.proofs.Book.{st_mark}
use Rattle.voxels.specs.Answers.{Says, found_of, whether_of, shown_r, signed_r, admitted_s}
use Rattle.voxels.specs.declared.refusal.Refusal.{Refusal}
use Rattle.voxels.specs.declared.refusal.Refusal.TheVariants.{Lengths, Seat}
use Rattle.voxels.specs.Refused.{number_of, refusal_at}
use Rattle.voxels.proofs.Refused.{at_number, exit_is}

-- the lengths of the memory m belong together, for n cells
pub record Counted (n : ℕ) (m : Mem) : Type 0 where
  pub fit : fits m ≡ true
  pub cells : n ≡ cells_of m

-- what the test of the lengths answers
pub counted : (n : ℕ) (m : Mem) → Some n ≡ cond (fits m) (Some (cells_of m)) None → Counted n m
counted n m e = let d = cond_some (fits m) (cells_of m) n (sym e) in record { fit = d.0; cells = sym d.1 }

pub not_counted : (m : Mem) → None ≡ cond (fits m) (Some (cells_of m)) None → fits m ≡ false
not_counted m e = cases (fits m) (λ f. absurd (none-some (cells_of m) (e ∙ rw f refl))) (λ f. f)

-- ---- a refusal by its number, in any form f of an answer
module _ {R : Type 0} (f : Answer → R) where
  pub blocked_says : (c : Call) (m : Mem) (n : ℕ) → refusal (reads_in m) c ≡ some n → Says f c m (f (refused n)) m
  blocked_says c m n r = (refused n, refl, rw r (refl, refl))

  -- refusal 1, of any call
  pub counted_1 : (c : Call) (m : Mem) → fits m ≡ false → Says f c m (f (refused 1)) m
  counted_1 c m z = blocked_says c m 1 (rw z refl)

  -- refusal 2, of a call on one seat
  pub counted_2 : (i : ℕ) (x : Act) (m : Mem) → fits m ≡ true → 7 < i → Says f (One i x) m (f (refused 2)) m
  counted_2 i x m t l = blocked_says (One i x) m 2 (rw (t, le-leb 8 i l) refl)

-- ---- a refusal as an error, in the form f of an answer
module _ {T : Type 0} (f : Answer → Result T Refusal) (err : (n : ℕ) → f (refused n) ≡ Err (refusal_at n)) where
  -- a refusal by its number is the error of that number
  as_error : (c : Call) (m : Mem) {n : ℕ} → Says f c m (f (refused n)) m → Says f c m (Err (refusal_at n)) m
  as_error c m {n} = subst (λ (r : Result T Refusal). Says f c m r m) (err n)

  -- the call c is refused with e
  pub refused_says : (c : Call) (m : Mem) (e : Refusal) → refusal (reads_in m) c ≡ some (number_of e) → Says f c m (Err e) m
  refused_says c m e r = subst (λ (e : Refusal). Says f c m (Err e) m) (at_number e) (as_error c m (blocked_says f c m (number_of e) r))

  -- the same, where a `?` hands on e as r
  pub exit_says : (c : Call) (m : Mem) (e : Refusal) {r : Result T Refusal} → IsErrAnd r (λ y. y ≡ e) → refusal (reads_in m) c ≡ some (number_of e) → Says f c m r m
  exit_says c m e {r} h is = rw (exit_is r h) (refused_says c m e is)

  -- where `admitted` refuses
  pub barred_says : (i : ℕ) (x : Act) (m : Mem) (e : Refusal) {r : Result T Refusal} → IsErrAnd r (λ y. y ≡ e) → Err e ≡ admitted_s m i → Says f (One i x) m r m
  barred_says i x m e {r} h a = rw (exit_is r h) (go (fits m) (leb 8 i) refl refl a)
    where
      is : (k : Refusal) → k ≡ e → Says f (One i x) m (Err k) m → Says f (One i x) m (Err e) m
      is k q = subst (λ (e : Refusal). Says f (One i x) m (Err e) m) q

      go : (t l : Bool) → fits m ≡ t → leb 8 i ≡ l → Err e ≡ cond t (cond l (Err Seat) (Ok (cells_of m))) (Err Lengths) → Says f (One i x) m (Err e) m
      go true true t l r = is Seat (cc) (as_error (One i x) m (counted_2 f i x m t (leb-true 8 i l)))
      go true false t l r = cc
      go false l t _ r = is Lengths (cc) (as_error (One i x) m (counted_1 f (One i x) m t))

-- where it does not
pub admits : (m : Mem) (n i : ℕ) → Ok n ≡ admitted_s m i → Counted n m × (i < 8)
admits m n i = go (fits m) (leb 8 i) refl refl
  where
    go : (t l : Bool) → fits m ≡ t → leb 8 i ≡ l → Ok n ≡ cond t (cond l (Err Seat) (Ok (cells_of m))) (Err Lengths) → Counted n m × (i < 8)
    go true true t l r = cc
    go true false t l r = (record { fit = t; cells = cc }, leb-false 8 i l)
    go false l t _ r = cc

-- ---- a memory whose lengths belong together, for n cells

module _ {m : Mem} {n : ℕ} (k : Counted n m) where
  pub is_sized : Sized n m.slots m.masks m.book
  is_sized =
      let f = fitting m k.fit in
      record {
        most = omega (arith, k.cells, f.most);
        slots_fit = omega (arith, k.cells, f.slots);
        masks_fit = omega (arith, k.cells, f.masks);
        book_fit = omega (arith, k.cells, f.book);
      }

  pub is_pool : st n m.slots m.masks m.book ≡ pool_of m
  unfolding pool_of
  is_pool = ap (λ (k : ℕ). st k m.slots m.masks m.book) k.cells

  -- the walk as the code makes it, by the number of the voxel, is the walk to the point
  pub is_walk : (i v : ℕ) (p : Point) → v ≡ voxel_of p → reach_s 3 (2 ∷ 2 ∷ []) n (st n m.slots m.masks m.book) i (point_of v) ≡ walk m i p
  unfolding walk total
  is_walk i v p e =
      ap (λ (j : ℕ). reach_s 3 (2 ∷ 2 ∷ []) n (st n m.slots m.masks m.book) i (point_of j)) e
      ∙ sym (reach_same 7 p (point_of (voxel_of p)) (voxel_alike p) 3 (2 ∷ 2 ∷ []) (omega arith) n (st n m.slots m.masks m.book) i)
      ∙ ap₂ (λ (k : ℕ) (s : St). reach_s 3 (2 ∷ 2 ∷ []) k s i p) k.cells is_pool

  module _ (i v : ℕ) (p : Point) (l : i < 8) (d : v ≡ voxel_of p) where
    pub lookup_says : {r : Result (Maybe Float) Refusal} → r ≡ shown_r (reach_s 3 (2 ∷ 2 ∷ []) n (st n m.slots m.masks m.book) i (point_of v)) → Says found_of (One i (Lookup p)) m r m
    lookup_says b = subst (λ (r : Result (Maybe Float) Refusal). Says found_of (One i (Lookup p)) m r m) (sym (b ∙ ap shown_r (is_walk i v p d))) (go (walk m i p) refl)
      where
        go : (r : Reach) → walk m i p ≡ r → Says found_of (One i (Lookup p)) m (shown_r r) m
        go (active j w) e = (found (some w), refl, rw (k.fit, lt-leb 8 i l, e) (refl, refl))
        go (hidden j w) e = (found none, refl, rw (k.fit, lt-leb 8 i l, e) (refl, refl))
        go broken e = (refused 5, refl, rw (k.fit, lt-leb 8 i l, e) (refl, refl))

    -- the sign at a point of seat i, by the end of the walk there and the seat's mark
    pub sign_says : {r : Result Bool Refusal} → r ≡ signed_r (reach_s 3 (2 ∷ 2 ∷ []) n (st n m.slots m.masks m.book) i (point_of v)) (eqb (get_or m.book i 0) 1)
        → Says whether_of (One i (Sign p)) m r m
    sign_says b =
        subst (λ (r : Result Bool Refusal). Says whether_of (One i (Sign p)) m r m) (sym (b ∙ ap₂ signed_r (is_walk i v p d) filled)) (go (walk m i p) (eqb ((pool_of m).mark i) 1) refl refl)
      where
        filled : eqb (get_or m.book i 0) 1 ≡ eqb ((pool_of m).mark i) 1
        filled = ap (λ (k : ℕ). eqb k 1) (sym (st_mark n m.slots m.masks m.book i l) ∙ ap (λ (s : St). s.mark i) is_pool)

        go : (r : Reach) (f : Bool) → walk m i p ≡ r → eqb ((pool_of m).mark i) 1 ≡ f → Says whether_of (One i (Sign p)) m (signed_r r f) m
        go (active j u) true e q = (negative_is (negative u), refl, rw (k.fit, lt-leb 8 i l, e, q) (refl, refl))
        go (active j u) false e q = (refused 6, refl, rw (k.fit, lt-leb 8 i l, e, q) (refl, refl))
        go (hidden j u) true e q = (negative_is (negative u), refl, rw (k.fit, lt-leb 8 i l, e, q) (refl, refl))
        go (hidden j u) false e q = (refused 6, refl, rw (k.fit, lt-leb 8 i l, e, q) (refl, refl))
        go broken f e q = (refused 5, refl, rw (k.fit, lt-leb 8 i l, e) (refl, refl))
