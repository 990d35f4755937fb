-- The rules in calls on a sound pool: what lookups answer after an accepted call. Assumes nothing.
use mathlib.Core.Path.{◌≡◌, sym, ◌∙◌, ap, subst}
use mathlib.Core.List.{List, ◌∷◌}
use mathlib.Core.Logic.{◌⊎◌, inl, inr}
use mathlib.Core.Option.{none, some}
use Prim.Native.Nat.{ℕ, ◌<◌}
use lib.Dec.{T}
use Rattle.grid.proofs.Voxel as voxel
use Rattle.floats.specs.Value.{equal}
use Rattle.grid.specs.Geometry.{Point, total, Alike}
use Rattle.grid.specs.Voxel.{lookup, insert}
use Rattle.grid.proofs.Places.{put_same}
use Rattle.seats.specs.Call.{Act, Lookup, Remove, Insert, One, Answer, found, done}
use Rattle.seats.specs.Promise.{Accepted, Memory, Promise}
use Rattle.seats.specs.Seat.{State, free}
use Rattle.seats.specs.Step.{act, served, step}
use Rattle.seats.proofs.Asked.{accepted, lookup_asked}
use Rattle.seats.proofs.Promise.{sim}

module _ (b : ℕ) (bs : List ℕ) where
  -- the seat after an accepted call on it
  seat_after : (i : ℕ) (x : Act) (st : State b bs) → Accepted (step b bs st (One i x)).0 → (step b bs st (One i x)).1.seat i ≡ (act b bs x (st.seat i)).1
  unfolding step served
  seat_after i x st h = ap (λ o. o.1 i) (accepted b bs (One i x) st.seat (free b bs st) h).1 ∙ put_same st.seat i (act b bs x (st.seat i)).1

  module _ (𝓜 : Memory b bs) (i : ℕ) (l : i < 8) (m m₁ : 𝓜.Mem) (s : 𝓜.Sound m) where
    -- a lookup on a sound pool
    pub lookup_answer : (q : Point) (r : Answer) (m' : 𝓜.Mem) → Promise b bs 𝓜 (One i (Lookup q)) m r m' → r ≡ found (lookup (b ∷ bs) ((𝓜.state m).seat i).grid q)
    lookup_answer q r m' h = lookup_asked b bs 𝓜 m s i l q r (m', h)

    -- a lookup after an accepted call on the seat: the rules of one grid say what it shows
    pub lookup_after : (x : Act) (a : Answer) → Promise b bs 𝓜 (One i x) m a m₁ → Accepted a → (q : Point) (r : Answer) (m' : 𝓜.Mem)
        → Promise b bs 𝓜 (One i (Lookup q)) m₁ r m' → r ≡ found (lookup (b ∷ bs) (act b bs x ((𝓜.state m).seat i)).1.grid q)
    lookup_after x a h y q r m' h' =
        let t = sim b bs 𝓜 (One i x) m a m₁ s h in
        lookup_asked b bs 𝓜 m₁ t.1 i l q r (m', h')
        ∙ ap (λ n. found (lookup (b ∷ bs) n.grid q))
        (ap (λ o. o.1.seat i) t.0 ∙ seat_after i x (𝓜.state m) (subst Accepted (ap (λ o. o.0) t.0) y))

    module _ (p : Point) (v : ℕ) (done-it : Promise b bs 𝓜 (One i (Insert p v)) m done m₁) where
      -- the insert rule: "the lookup at p is the given value (under an equal tile, the tile's own zero stays)"
      pub insert_here : (r r' : Answer) (m' m'' : 𝓜.Mem) → Promise b bs 𝓜 (One i (Lookup p)) m r m' → Promise b bs 𝓜 (One i (Lookup p)) m₁ r' m''
          → (r' ≡ found (some v)) ⊎ ((w : ℕ) × T (equal w v) × (r ≡ found (some w)) × (r' ≡ found (some w)))
      unfolding act
      insert_here r r' m' m'' h h' = go (voxel.insert_here p v b bs ((𝓜.state m).seat i).grid)
        where
          after : r' ≡ found (lookup (b ∷ bs) (insert (b ∷ bs) p v ((𝓜.state m).seat i).grid) p)
          after = lookup_after (Insert p v) done done-it tt p r' m'' h'

          go : voxel.InsertHere p v b bs ((𝓜.state m).seat i).grid → (r' ≡ found (some v)) ⊎ ((w : ℕ) × T (equal w v) × (r ≡ found (some w)) × (r' ≡ found (some w)))
          go (inl e) = inl (after ∙ ap found e)
          go (inr (w, t, e, e', _)) = inr (w, t, lookup_answer p r m' h ∙ ap found e, after ∙ ap found e')

      -- "and every q with other masked coordinates looks up as before"
      pub insert_there : (q : Point) → (Alike (total (b ∷ bs)) q p → ⊥) → (r r' : Answer) (m' m'' : 𝓜.Mem)
          → Promise b bs 𝓜 (One i (Lookup q)) m r m' → Promise b bs 𝓜 (One i (Lookup q)) m₁ r' m'' → r' ≡ r
      unfolding act
      insert_there q ne r r' m' m'' h h' =
          lookup_after (Insert p v) done done-it tt q r' m'' h'
          ∙ ap found (voxel.insert_there p v b bs ((𝓜.state m).seat i).grid q ne)
          ∙ sym (lookup_answer q r m' h)

    module _ (p : Point) (done-it : Promise b bs 𝓜 (One i (Remove p)) m done m₁) where
      -- the remove rule
      pub remove_here : (r' : Answer) (m'' : 𝓜.Mem) → Promise b bs 𝓜 (One i (Lookup p)) m₁ r' m'' → r' ≡ found none
      unfolding act
      remove_here r' m'' h' = lookup_after (Remove p) done done-it tt p r' m'' h' ∙ ap found (voxel.remove_here p b bs ((𝓜.state m).seat i).grid)

      pub remove_there : (q : Point) → (Alike (total (b ∷ bs)) q p → ⊥) → (r r' : Answer) (m' m'' : 𝓜.Mem)
          → Promise b bs 𝓜 (One i (Lookup q)) m r m' → Promise b bs 𝓜 (One i (Lookup q)) m₁ r' m'' → r' ≡ r
      unfolding act
      remove_there q ne r r' m' m'' h h' =
          lookup_after (Remove p) done done-it tt q r' m'' h'
          ∙ ap found (voxel.remove_there p b bs ((𝓜.state m).seat i).grid q ne)
          ∙ sym (lookup_answer q r m' h)
