-- One seat's tree turned and its mark set: the pool is sound, and every other seat is as it was. One law for every call on a seat. Assumes nothing.
use mathlib.Core.Path.{◌≡◌, refl, sym, ◌∙◌, ap, ap₂, subst, fun_ext}
use mathlib.Core.Bool.{true}
use mathlib.Core.List.{[], ◌∷◌}
use mathlib.Core.Logic.{◌⊎◌, inl, inr}
use Prim.Native.Nat.{ℕ, ◌<◌}
use lib.Dec.{ltb, eqb}
use borrow.Author.Tests.{lt-ltb, ltb-true}
use Rattle.floats.proofs.Words.{on_case}
use Rattle.grid.specs.Node.{Node, put}
use Rattle.grid.proofs.Places.{put_at}
use Rattle.seats.specs.Seat.{Seat}
use Rattle.nodes.specs.State.{St, Free, Held, Sound, tree}
use Rattle.nodes.specs.Change.{at1, mark_s}
use Rattle.means.specs.Level.{levels, tree_at, Turned}
use Rattle.means.specs.Mem.{Mem, cells_of, fits, pool_of, SoundMem, seat_of}
use Rattle.means.proofs.Put.{at1_here, at1_else}
use Rattle.means.proofs.Turned.{others}

module _ {n : ℕ} {s : St} (t mk : ℕ) where
  -- a mark says nothing of cells and slots
  pub mark_sound : mk < 2 → Sound n s → Sound n (mark_s t mk s)
  unfolding mark_s
  mark_sound l sd =
      record {
        room = sd.room;
        few = sd.few;
        stacked = λ i h. record { inside = (sd.stacked i h).inside; tagged = (sd.stacked i h).tagged };
        cell = λ c h. moved c (sd.cell c h);
        link = λ x k hx hk f e. record { inside = (sd.link x k hx hk f e).inside; tagged = (sd.link x k hx hk f e).tagged; single = (sd.link x k hx hk f e).single };
        value = sd.value;
        marks = λ u h. on_case (eqb u t) (λ e. rw e l) (λ e. rw e (sd.marks u h));
      }
    where
      moved : (c : ℕ) → Free s c ⊎ Held n s c → Free (mark_s t mk s) c ⊎ Held n (mark_s t mk s) c
      moved c (inl f) = inl (record { below = f.below; there = f.there })
      moved c (inr h) = inr (record { x = h.x; k = h.k; says = h.says; node = h.node; slot = h.slot; fork = h.fork; on = h.on; links = h.links })

mark_tree : (t mk : ℕ) (s : St) (x : ℕ) → tree 3 (2 ∷ 2 ∷ []) (mark_s t mk s) x ≡ tree 3 (2 ∷ 2 ∷ []) s x
unfolding mark_s tree
mark_tree t mk s x = refl

-- the seats of a memory whose pool is r with the mark of seat i set
pub marked_seat : (m : Mem) (i mk : ℕ) (r : St) → pool_of m ≡ mark_s i mk r → (t : ℕ) → t < 8
    → seat_of m t ≡ record { grid = tree_at 2 r t; filled = eqb (at1 r.mark i mk t) 1 }
unfolding seat_of mark_s
marked_seat m i mk r is t h =
    rw (lt-ltb t 8 h)
    (ap₂ {C = Seat 3 (2 ∷ 2 ∷ [])} (λ (g : Node (levels 2)) (f : ℕ). record { grid = g; filled = eqb f 1 })
    (ap (λ (u : St). tree 3 (2 ∷ 2 ∷ []) u t) is ∙ mark_tree i mk r t) (ap (λ (u : St). u.mark t) is))

-- from m to m', the tree of seat i has become g and its mark is mk
module _ (m m' : Mem) (s : SoundMem m) (i : ℕ) (l : i < 8) (mk : ℕ) (two : mk < 2) {r : St} {g : Node (levels 2)} (a : Turned (cells_of m) 2 i (pool_of m) r g)
    (cells : cells_of m' ≡ cells_of m) (fit : fits m' ≡ true) (is : pool_of m' ≡ mark_s i mk r) where
  abbrev Seat₂ : Type 0
  Seat₂ = Seat 3 (2 ∷ 2 ∷ [])

  pub turn_sound : SoundMem m'
  turn_sound = (fit, subst (λ (n : ℕ). Sound n (pool_of m')) (sym cells) (subst (Sound (cells_of m)) (sym is) (mark_sound i mk two a.sound)))

  pub turn_seats : seat_of m' ≡ put (seat_of m) i (record { grid = g; filled = eqb mk 1 })
  unfolding seat_of
  turn_seats = fun_ext (λ t. put_at (λ x. seat_of m' t ≡ x) (seat_of m) i (record { grid = g; filled = eqb mk 1 }) t (here t) (there t))
    where
      here : (t : ℕ) → t ≡ i → seat_of m' t ≡ record { grid = g; filled = eqb mk 1 }
      here t e = ap (seat_of m') e ∙ marked_seat m' i mk r is i l ∙ ap₂ {C = Seat₂} (λ (h : Node (levels 2)) (f : ℕ). record { grid = h; filled = eqb f 1 }) a.grid (at1_here r.mark i mk)

      there : (t : ℕ) → (t ≡ i → ⊥) → seat_of m' t ≡ seat_of m t
      there t ne = on_case (ltb t 8)
          (λ e. marked_seat m' i mk r is t (ltb-true t 8 e)
          ∙ ap₂ {C = Seat₂} (λ (h : Node (levels 2)) (f : ℕ). record { grid = h; filled = eqb f 1 }) (sym (others s.1 i t l (ltb-true t 8 e) ne a))
          (at1_else r.mark i mk t ne ∙ ap (λ (f : ℕ → ℕ). f t) a.marks)
          ∙ sym (rw e refl))
          (λ e. rw e refl)
