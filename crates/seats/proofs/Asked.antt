-- What calls answer on a sound pool, by the seat that they name. Assumes nothing.
use mathlib.Core.Path.{◌≡◌, refl, sym, ◌∙◌, ap, subst}
use mathlib.Core.Bool.{Bool, true, false, not, cond}
use mathlib.Core.List.{List, ◌∷◌}
use mathlib.Core.Option.{Option, none, some}
use Prim.Native.Nat.{ℕ, ◌<◌}
use lib.Dec.{leb}
use borrow.Author.Tests.{lt-leb}
use Rattle.grid.specs.Geometry.{Point}
use Rattle.grid.specs.Node.{is_hidden, size, put}
use Rattle.grid.specs.Voxel.{lookup, sign_at}
use Rattle.grid.specs.Whole.{clear, is_empty, has_hollow}
use Rattle.grid.proofs.Places.{every_all}
use Rattle.grid.proofs.Whole.{clear_lookup}
use Rattle.seats.specs.Call.{Lookup, Sign, Flip, FillSigns, IsEmpty, Call, One, Count, Answer, refused, found, negative_is, empty_is, free_cells, done}
use Rattle.seats.specs.Promise.{Verdict, refuse, give, turn, loose, Accepted, Memory, grants, refuse_or, verdict, Keeps, Answers, OnlyAnswer, Unsigned, Cleared, Counts}
use Rattle.seats.specs.Refusal.{refusal}
use Rattle.seats.specs.Seat.{Seat, State, fresh, free}
use Rattle.seats.specs.Step.{act, reads_of, served, unless, play, step}
use Rattle.seats.proofs.Laws.{play_at}
use Rattle.seats.proofs.Names.{not_above}
use Rattle.seats.proofs.Promise.{Meets, verdict_meets, sim}

-- the number in an answer
abbrev pub number_in : Answer → ℕ
number_in (refused n) = n
number_in (found o) = 0
number_in (negative_is k) = 0
number_in (empty_is k) = 0
number_in (free_cells k) = k
number_in done = 0

-- the sign in an answer
sign_in : Answer → Bool
sign_in (refused n) = false
sign_in (found o) = false
sign_in (negative_is k) = k
sign_in (empty_is k) = false
sign_in (free_cells k) = false
sign_in done = false

-- the value in an answer
shown_in : Answer → Option ℕ
shown_in (refused n) = none
shown_in (found o) = o
shown_in (negative_is k) = none
shown_in (empty_is k) = none
shown_in (free_cells k) = none
shown_in done = none

-- a verdict that leaves the memory as it is
abbrev pub Reading : Verdict → Type 0
Reading (refuse n) = Unit {0}
Reading (give a) = Unit {0}
Reading (turn a) = ⊥
Reading loose = ⊥

module _ (b : ℕ) (bs : List ℕ) where
  -- ---- in the meaning

  -- a call that is accepted is refused by no row, and served
  pub accepted : (c : Call) (f : ℕ → Seat b bs) (k : ℕ) → Accepted (play b bs c f k).0 → (refusal (reads_of b bs f k) c ≡ none) × (play b bs c f k ≡ served b bs c f k)
  accepted c f k =
      play_at b bs (λ o. Accepted o.0 → (refusal (reads_of b bs f k) c ≡ none) × (o ≡ served b bs c f k)) c f k (λ n e h. absurd h) (λ e h. (e, refl))

  -- a lookup: 2 above the seats, else what the seat shows
  pub lookup_says : (a : ℕ) (p : Point) (st : State b bs) → (step b bs st (One a (Lookup p))).0 ≡ cond (leb 8 a) (refused 2) (found (lookup (b ∷ bs) (st.seat a).grid p))
  unfolding step play served act
  lookup_says a p st = go (leb 8 a) refl
    where
      go : (x : Bool) → leb 8 a ≡ x → (step b bs st (One a (Lookup p))).0 ≡ cond x (refused 2) (found (lookup (b ∷ bs) (st.seat a).grid p))
      go true e = rw e refl
      go false e = rw e refl

  -- of one of the eight seats
  module _ (i : ℕ) (l : i < 8) (st : State b bs) where
    in_seats : leb 8 i ≡ false
    in_seats = lt-leb 8 i l

    pub lookup_call : (p : Point) → (step b bs st (One i (Lookup p))).0 ≡ found (lookup (b ∷ bs) (st.seat i).grid p)
    lookup_call p = lookup_says i p st ∙ ap (λ (x : Bool). cond x (refused 2) (found (lookup (b ∷ bs) (st.seat i).grid p))) in_seats

    pub sign_call : (p : Point) → (step b bs st (One i (Sign p))).0 ≡ cond (st.seat i).filled (negative_is (sign_at (b ∷ bs) (st.seat i).grid p)) (refused 6)
    unfolding step play served act
    sign_call p = rw in_seats (go (st.seat i).filled)
      where
        go : (x : Bool) → (unless b bs (cond (not x) (some 6) none) st.seat (negative_is (sign_at (b ∷ bs) (st.seat i).grid p), put st.seat i (st.seat i))).0
            ≡ cond x (negative_is (sign_at (b ∷ bs) (st.seat i).grid p)) (refused 6)
        go true = refl
        go false = refl

    pub fill_signs_call : (step b bs st (One i FillSigns)).0 ≡ cond (has_hollow b bs (st.seat i).grid) (refused 7) done
    unfolding step play served act
    fill_signs_call = rw in_seats (go (has_hollow b bs (st.seat i).grid))
      where
        go : (x : Bool) → (unless b bs (cond x (some 7) none) st.seat (done, put st.seat i (act b bs FillSigns (st.seat i)).1)).0 ≡ cond x (refused 7) done
        go true = refl
        go false = refl

    pub empty_call : (step b bs st (One i IsEmpty)).0 ≡ empty_is (is_empty b bs (st.seat i).grid)
    unfolding step play served act
    empty_call = rw in_seats refl

    pub flip_call : (step b bs st (One i Flip)).0 ≡ done
    unfolding step play served act
    flip_call = rw in_seats refl

  -- ---- in calls on a sound pool

  module _ (𝓜 : Memory b bs) (m : 𝓜.Mem) (s : 𝓜.Sound m) where
    -- the answer is the meaning's
    pub asked : (c : Call) (r : Answer) → Answers b bs 𝓜 c m r → r ≡ (step b bs (𝓜.state m) c).0
    asked c r h = ap (λ o. o.0) (sim b bs 𝓜 c m r h.0 s h.1).0

    -- and a call that reads is answered
    pub answered : (c : Call) → Reading (grants b bs 𝓜 c m) → OnlyAnswer b bs 𝓜 c m (step b bs (𝓜.state m) c).0
    unfolding step
    answered c g = ((m, keeps (verdict b bs 𝓜 c m) (reads (refusal (𝓜.reads m) c)) (verdict_meets b bs 𝓜 c m s)), asked c)
      where
        reads : (o : Option ℕ) → Reading (refuse_or b bs 𝓜 o (grants b bs 𝓜 c m))
        reads none = g
        reads (some n) = tt

        keeps : (v : Verdict) → Reading v → Meets b bs 𝓜 (𝓜.state m).seat v (play b bs c (𝓜.state m).seat (free b bs (𝓜.state m)))
            → Keeps b bs 𝓜 v c m (play b bs c (𝓜.state m).seat (free b bs (𝓜.state m))).0 m
        keeps (refuse n) g e = (ap (λ o. o.0) e, refl)
        keeps (give a) g e = (ap (λ o. o.0) e, refl)
        keeps (turn a) g e = absurd g
        keeps loose g e = absurd g

    -- of one of the eight seats
    module _ (i : ℕ) (l : i < 8) where
      pub lookup_asked : (p : Point) (r : Answer) → Answers b bs 𝓜 (One i (Lookup p)) m r → r ≡ found (lookup (b ∷ bs) ((𝓜.state m).seat i).grid p)
      lookup_asked p r h = asked (One i (Lookup p)) r h ∙ lookup_call i l (𝓜.state m) p

      pub sign_asked : (p : Point) (r : Answer) → Answers b bs 𝓜 (One i (Sign p)) m r
          → r ≡ cond ((𝓜.state m).seat i).filled (negative_is (sign_at (b ∷ bs) ((𝓜.state m).seat i).grid p)) (refused 6)
      sign_asked p r h = asked (One i (Sign p)) r h ∙ sign_call i l (𝓜.state m) p

      pub empty_asked : (r : Answer) → Answers b bs 𝓜 (One i IsEmpty) m r → r ≡ empty_is (is_empty b bs ((𝓜.state m).seat i).grid)
      empty_asked r h = asked (One i IsEmpty) r h ∙ empty_call i l (𝓜.state m)

      pub fill_signs_asked : (r : Answer) → Answers b bs 𝓜 (One i FillSigns) m r → r ≡ cond (has_hollow b bs ((𝓜.state m).seat i).grid) (refused 7) done
      fill_signs_asked r h = asked (One i FillSigns) r h ∙ fill_signs_call i l (𝓜.state m)

      pub shown : (p : Point) (o : Option ℕ) → Answers b bs 𝓜 (One i (Lookup p)) m (found o) → lookup (b ∷ bs) ((𝓜.state m).seat i).grid p ≡ o
      unfolding shown_in
      shown p o h = sym (ap shown_in (lookup_asked p (found o) h))

      -- a filled seat has a sign at every voxel
      module _ (f : ((𝓜.state m).seat i).filled ≡ true) (p : Point) where
        pub signed : OnlyAnswer b bs 𝓜 (One i (Sign p)) m (negative_is (sign_at (b ∷ bs) ((𝓜.state m).seat i).grid p))
        signed =
            subst (OnlyAnswer b bs 𝓜 (One i (Sign p)) m)
            (sign_call i l (𝓜.state m) p ∙ ap (λ (x : Bool). cond x (negative_is (sign_at (b ∷ bs) ((𝓜.state m).seat i).grid p)) (refused 6)) f)
            (answered (One i (Sign p)) tt)

        pub sign_is_lem : (k : Bool) → Answers b bs 𝓜 (One i (Sign p)) m (negative_is k) → k ≡ sign_at (b ∷ bs) ((𝓜.state m).seat i).grid p
        unfolding sign_in
        sign_is_lem k h = ap sign_in (signed.1 (negative_is k) h)

      pub unsigned : ((𝓜.state m).seat i).filled ≡ false → Unsigned b bs 𝓜 m i
      unsigned f p r h = sign_asked p r h ∙ ap (λ (x : Bool). cond x (negative_is (sign_at (b ∷ bs) ((𝓜.state m).seat i).grid p)) (refused 6)) f

      pub fresh_cleared : (𝓜.state m).seat i ≡ fresh b bs → Cleared b bs 𝓜 m i
      unfolding fresh clear is_empty is_hidden
      fresh_cleared e = (
        (λ p r h. lookup_asked p r h ∙ ap (λ s. found (lookup (b ∷ bs) s.grid p)) e ∙ ap found (clear_lookup p b bs)),
        (λ r h. empty_asked r h ∙ ap (λ s. empty_is (is_empty b bs s.grid)) e ∙ ap empty_is (every_all is_hidden (size b) (clear b bs) (λ _. refl))),
        unsigned (ap (λ s. s.filled) e),
      )

    pub counted : (k : ℕ) → Counts b bs 𝓜 m k → k ≡ free b bs (𝓜.state m)
    unfolding step play served
    counted k h = ap number_in (asked Count (free_cells k) h)

  module _ (𝓜 : Memory b bs) where
    -- lookups that show the same, if there is such a seat, are answered the same
    pub same_lookup : (a : ℕ) (p : Point) (m m' : 𝓜.Mem) → 𝓜.Sound m → 𝓜.Sound m'
        → (a < 8 → lookup (b ∷ bs) ((𝓜.state m').seat a).grid p ≡ lookup (b ∷ bs) ((𝓜.state m).seat a).grid p)
        → (r r' : Answer) → Answers b bs 𝓜 (One a (Lookup p)) m r → Answers b bs 𝓜 (One a (Lookup p)) m' r' → r' ≡ r
    same_lookup a p m m' s s' e r r' h h' =
        asked 𝓜 m' s' (One a (Lookup p)) r' h'
        ∙ lookup_says a p (𝓜.state m')
        ∙ go (leb 8 a) refl
        ∙ sym (lookup_says a p (𝓜.state m))
        ∙ sym (asked 𝓜 m s (One a (Lookup p)) r h)
      where
        go : (x : Bool) → leb 8 a ≡ x
            → cond x (refused 2) (found (lookup (b ∷ bs) ((𝓜.state m').seat a).grid p)) ≡ cond x (refused 2) (found (lookup (b ∷ bs) ((𝓜.state m).seat a).grid p))
        go true g = refl
        go false g = ap found (e (not_above a g))
