-- Two seats combined and the mark of the second taken away: the pool is sound, the first is what it became and stays filled, the second is as after Clear, and every other
-- seat is as it was. Assumes nothing.
use mathlib.Core.Path.{◌≡◌, refl, sym, ◌∙◌, ap, ap₂, subst, fun_ext}
use mathlib.Core.Bool.{Bool, true, false}
use mathlib.Core.List.{[], ◌∷◌}
use mathlib.Core.Logic.{◌≢◌}
use Prim.Native.Nat.{ℕ, ◌<◌}
use native.Mathlib.Omega.{arith}
use lib.Dec.{ltb, eqb}
use borrow.Author.Tests.{ltb-true}
use Rattle.floats.proofs.Words.{on_case}
use Rattle.grid.specs.Node.{Node, put}
use Rattle.grid.specs.Whole.{clear}
use Rattle.grid.proofs.Places.{put_at}
use Rattle.seats.specs.Seat.{Seat, fresh}
use Rattle.nodes.specs.State.{St, Sound}
use Rattle.nodes.specs.Change.{at1, mark_s}
use Rattle.means.specs.Joined.{Combined}
use Rattle.means.specs.Level.{levels, tree_at}
use Rattle.means.specs.Mem.{Mem, cells_of, fits, pool_of, SoundMem, seat_of}
use Rattle.means.proofs.Memory.{seat_is}
use Rattle.means.proofs.Put.{at1_here, at1_else}
use Rattle.means.proofs.SeatTurn.{mark_sound, marked_seat}

module _ (m m' : Mem) (s : SoundMem m) (i j : ℕ) (hi : i < 8) (hj : j < 8) (ne : i ≢ j) (full : eqb ((pool_of m).mark i) 1 ≡ true) {r : St} {g : Node (levels 2)}
    (a : Combined (cells_of m) i j (pool_of m) r g) (cells : cells_of m' ≡ cells_of m) (fit : fits m' ≡ true) (is : pool_of m' ≡ mark_s j 0 r) where
  abbrev Seat₂ : Type 0
  Seat₂ = Seat 3 (2 ∷ 2 ∷ [])

  pub pair_sound_after : SoundMem m'
  pair_sound_after = (fit, subst (λ (n : ℕ). Sound n (pool_of m')) (sym cells) (subst (Sound (cells_of m)) (sym is) (mark_sound j 0 (omega arith) a.sound)))

  -- seat t, whose tree is h and whose mark says f
  seat : (t : ℕ) → t < 8 → (h : Node (levels 2)) (f : Bool) → tree_at 2 r t ≡ h → eqb (at1 r.mark j 0 t) 1 ≡ f → seat_of m' t ≡ record { grid = h; filled = f }
  seat t l h f e d = marked_seat m' j 0 r is t l ∙ ap₂ {C = Seat₂} (λ (h : Node (levels 2)) (f : Bool). record { grid = h; filled = f }) e d

  -- the mark of a seat that is not the second
  mark_of : (t : ℕ) → t ≢ j → eqb (at1 r.mark j 0 t) 1 ≡ eqb ((pool_of m).mark t) 1
  mark_of t nj = ap (λ (k : ℕ). eqb k 1) (at1_else r.mark j 0 t nj ∙ ap (λ (f : ℕ → ℕ). f t) a.marks)

  pub pair_seats_after : seat_of m' ≡ put (put (seat_of m) i (record { grid = g; filled = true })) j (fresh 3 (2 ∷ 2 ∷ []))
  unfolding seat_of fresh
  pair_seats_after = fun_ext (λ t. put_at (λ x. seat_of m' t ≡ x) (put (seat_of m) i (record { grid = g; filled = true })) j (fresh 3 (2 ∷ 2 ∷ [])) t (second t)
      (λ nj. put_at (λ x. seat_of m' t ≡ x) (seat_of m) i (record { grid = g; filled = true }) t (first t) (other t nj)))
    where
      second : (t : ℕ) → t ≡ j → seat_of m' t ≡ record { grid = clear 3 (2 ∷ 2 ∷ []); filled = false }
      second t e = ap (seat_of m') e ∙ seat j hj (clear 3 (2 ∷ 2 ∷ [])) false a.cleared (ap (λ (k : ℕ). eqb k 1) (at1_here r.mark j 0))

      first : (t : ℕ) → t ≡ i → seat_of m' t ≡ record { grid = g; filled = true }
      first t e = ap (seat_of m') e ∙ seat i hi g true a.grid (mark_of i ne ∙ full)

      other : (t : ℕ) → t ≢ j → t ≢ i → seat_of m' t ≡ seat_of m t
      other t nj ni = on_case (ltb t 8)
          (λ e. seat t (ltb-true t 8 e) (tree_at 2 (pool_of m) t) (eqb ((pool_of m).mark t) 1) (sym (a.others t (ltb-true t 8 e) ni nj)) (mark_of t nj) ∙ sym (seat_is m s t (ltb-true t 8 e)))
          (λ e. rw e refl)
