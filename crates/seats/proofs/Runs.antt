-- Demand 3 and W-213 over runs of the meaning, from the four laws of `play` alone. Assumes nothing.
use mathlib.Core.Path.{◌≡◌, refl, sym, ◌∙◌, ap, ap₂, subst}
use mathlib.Core.Bool.{Bool, true, false, false≢true}
use mathlib.Core.List.{List, [], ◌∷◌}
use mathlib.Core.Logic.{◌⊎◌, inl, inr}
use mathlib.Core.Option.{some}
use Prim.Native.Nat.{ℕ, ◌+◌, ◌<◌, ◌≤◌}
use native.Mathlib.Omega.{arith}
use lib.Dec.{leb}
use Rattle.grid.proofs.Places.{sum_at, sum_only}
use Rattle.seats.specs.Call.{Call, One, Two, Prepare, Count, names, refused}
use Rattle.seats.specs.Promise.{among}
use Rattle.seats.specs.Refusal.{any, refusal}
use Rattle.seats.specs.Run.{on, on_none, NoOther, answers_to, strike, Undisturbed, NeverShort, trace}
use Rattle.seats.specs.Seat.{State, prepared, reached, used, free}
use Rattle.seats.specs.Step.{reads_of, play, step}
use Rattle.seats.proofs.Laws.{thrifty, fresh_none, fits, frame, SameOutcome, local}
use Rattle.seats.proofs.Names.{not_above, untrue, any_none}

-- a call that names no seat
none_named : (c : Call) → on_none c ≡ true → (i : ℕ) → among i (names c) ≡ false
none_named (One i x) e j = absurd (false≢true e)
none_named (Two x i j) e k = absurd (false≢true e)
none_named Prepare e j = absurd (false≢true e)
none_named Count e j = refl

some_named : (c : Call) → on_none c ≡ false → names c ≡ [] → ⊥
some_named (One i x) e h = let z : ◌≡◌ {A = ℕ} 0 1 = cc in omega arith
some_named (Two x i j) e h = let z : ◌≡◌ {A = ℕ} 0 1 = cc in omega arith
some_named Prepare e h = let z : ◌≡◌ {A = ℕ} 0 1 = cc in omega arith
some_named Count e h = false≢true (sym e)

module _ (b : ℕ) (bs : List ℕ) where
  -- a refusal changes nothing
  pub refused_still : (st : State b bs) (c : Call) (n : ℕ) → refusal (reads_of b bs st.seat (free b bs st)) c ≡ some n → step b bs st c ≡ (refused n, st)
  unfolding step play
  refused_still st c n e = rw e refl

  -- nor does a call that names a number above 7
  above_still : (st : State b bs) (c : Call) → any (λ i. leb 8 i) (names c) ≡ true → step b bs st c ≡ (refused 2, st)
  above_still st c e = refused_still st c 2 (rw e refl)

  -- ---- demand 3

  -- the second state has seat a as in the first, and no cells in the other seats
  pub record Alone (a : ℕ) (st st' : State b bs) : Type 0 where
    pub all : st.all ≡ st'.all
    pub own : st.seat a ≡ st'.seat a
    pub others : (i : ℕ) → i < 8 → (i ≡ a → ⊥) → reached b bs (st'.seat i) ≡ 0

  module _ (a : ℕ) (l : a < 8) where
    -- so it has no fewer free cells
    alone_free : (st st' : State b bs) → Alone a st st' → free b bs st ≤ free b bs st'
    unfolding free used
    alone_free st st' h =
        omega (
          arith,
          h.all,
          ap (reached b bs) h.own,
          sum_at 8 (λ i. reached b bs (st.seat i)) a l,
          sum_only 8 (λ i. reached b bs (st'.seat i)) a h.others,
        )

    -- a call that names seat a alone, on both sides
    seat_step : (st st' : State b bs) → Alone a st st' → (c : Call) → on a c ≡ true → ((i : ℕ) → among i (names c) ≡ true → i ≡ a) → ((step b bs st c).0 ≡ refused 9 → ⊥)
        → ((step b bs st c).0 ≡ (step b bs st' c).0) × Alone a (step b bs st c).1 (step b bs st' c).1
    unfolding step
    seat_step st st' h c e only n = (
      ap (λ o. o.0) t ∙ q.0,
      record {
        all = h.all;
        own = ap (λ o. o.1 a) t ∙ q.1 a e;
        others = λ i l' ne. ap (reached b bs) (frame b bs c st'.seat k' i l' (untrue _ (λ m. ne (only i m)))) ∙ h.others i l' ne;
      },
    )
      where
        k : ℕ
        k = free b bs st

        k' : ℕ
        k' = free b bs st'

        named : names c ≡ [] → ⊥
        named z = false≢true (sym (ap (among a) z) ∙ e)

        t : play b bs c st.seat k ≡ play b bs c st.seat k'
        t = thrifty b bs c st.seat k k' (alone_free st st' h) named n

        q : SameOutcome b bs (names c) (play b bs c st.seat k') (play b bs c st'.seat k')
        q =
            local b bs c st.seat st'.seat k'
            (λ i m. subst (λ (j : ℕ). st.seat j ≡ st'.seat j) (sym (only i m)) h.own)

    -- a call that names a and no other seat: where it names a number that is no seat, both sides refuse it with 2
    own_step : (st st' : State b bs) → Alone a st st' → (c : Call) → on a c ≡ true → NoOther a c → ((step b bs st c).0 ≡ refused 9 → ⊥)
        → ((step b bs st c).0 ≡ (step b bs st' c).0) × Alone a (step b bs st c).1 (step b bs st' c).1
    own_step st st' h c e only n = go (any (λ i. leb 8 i) (names c)) refl
      where
        seat : (i : ℕ) → i < 8 → (i ≡ a) ⊎ (8 ≤ i) → i ≡ a
        seat i l' (inl g) = g
        seat i l' (inr g) = absurd (omega (arith, l', g))

        go : (x : Bool) → any (λ i. leb 8 i) (names c) ≡ x → ((step b bs st c).0 ≡ (step b bs st' c).0) × Alone a (step b bs st c).1 (step b bs st' c).1
        go true g = rw (above_still st c g, above_still st' c g) (refl, h)
        go false g = seat_step st st' h c e (λ i m. seat i (not_above i (any_none (λ j. leb 8 j) (names c) g i m)) (only i m)) n

    -- a call that does not name a, on the first side
    other_step : (st st' : State b bs) → Alone a st st' → (c : Call) → on a c ≡ false → Alone a (step b bs st c).1 st'
    unfolding step
    other_step st st' h c e = record { all = h.all; own = frame b bs c st.seat (free b bs st) a l e ∙ h.own; others = h.others }

    -- a call that names no seat, on the second side
    count_step : (st st' : State b bs) → Alone a st st' → (c : Call) → on_none c ≡ true → Alone a st (step b bs st' c).1
    unfolding step
    count_step st st' h c e =
        record {
          all = h.all;
          own = h.own ∙ sym (stays a l);
          others = λ i l' ne. ap (reached b bs) (stays i l') ∙ h.others i l' ne;
        }
      where
        stays : (i : ℕ) → i < 8 → (play b bs c st'.seat (free b bs st')).1 i ≡ st'.seat i
        stays i l' = frame b bs c st'.seat (free b bs st') i l' (none_named c e i)

    -- from two such states, the second run without the calls on other seats
    pub struck : (cs : List Call) (st st' : State b bs) → Alone a st st' → Undisturbed a (trace b bs st cs)
        → answers_to a (trace b bs st cs) ≡ answers_to a (trace b bs st' (strike a cs))
    unfolding trace answers_to strike
    struck [] st st' h s = refl
    struck (c ∷ cs) st st' h s = go (on a c) (on_none c) refl refl (struck cs)
      where
        go : (x y : Bool) → on a c ≡ x → on_none c ≡ y
            → ((t t' : State b bs) → Alone a t t' → Undisturbed a (trace b bs t cs) → answers_to a (trace b bs t cs) ≡ answers_to a (trace b bs t' (strike a cs)))
            → answers_to a (trace b bs st (c ∷ cs)) ≡ answers_to a (trace b bs st' (strike a (c ∷ cs)))
        go true y e _ ih =
            let k = own_step st st' h c e (s.0 e).0 (s.0 e).1 in
            rw (e, e) (ap₂ (λ r es. (c, r) ∷ es) k.0 (ih (step b bs st c).1 (step b bs st' c).1 k.1 s.1))
        go false true e g ih =
            rw (e, g, e)
            (ih (step b bs st c).1 (step b bs st' c).1 (count_step (step b bs st c).1 st' (other_step st st' h c e) c g) s.1)
        go false false e g ih = rw (e, g) (ih (step b bs st c).1 st' (other_step st st' h c e) s.1)

    -- demand 3, of the meaning
    pub struck_fresh : (n : ℕ) (cs : List Call) → Undisturbed a (trace b bs (prepared b bs n) cs)
        → answers_to a (trace b bs (prepared b bs n) cs) ≡ answers_to a (trace b bs (prepared b bs n) (strike a cs))
    unfolding prepared
    struck_fresh n cs s = struck cs (prepared b bs n) (prepared b bs n) (record { all = refl; own = refl; others = λ i _ _. fresh_none b bs }) s

  -- ---- W-213

  pub record More (st st' : State b bs) : Type 0 where
    pub seats : st.seat ≡ st'.seat
    pub all : st.all ≤ st'.all

  more_free : (st st' : State b bs) → More st st' → free b bs st ≤ free b bs st'
  unfolding free
  more_free st st' h = omega (arith, h.all, ap (used b bs) h.seats)

  more_step : (st st' : State b bs) → More st st' → (c : Call) → on_none c ≡ false → ((step b bs st c).0 ≡ refused 9 → ⊥)
      → ((step b bs st c).0 ≡ (step b bs st' c).0) × More (step b bs st c).1 (step b bs st' c).1
  unfolding step
  more_step st st' h c u n = (ap (λ o. o.0) t, record { seats = ap (λ o. o.1) t; all = h.all })
    where
      t : play b bs c st.seat (free b bs st) ≡ play b bs c st'.seat (free b bs st')
      t =
          thrifty b bs c st.seat (free b bs st) (free b bs st') (more_free st st' h) (some_named c u) n
          ∙ ap (λ f. play b bs c f (free b bs st')) h.seats

  more_run : (cs : List Call) (st st' : State b bs) → More st st' → NeverShort (trace b bs st cs) → trace b bs st cs ≡ trace b bs st' cs
  unfolding trace
  more_run [] st st' h s = refl
  more_run (c ∷ cs) st st' h s =
      let k = more_step st st' h c s.0 s.1 in
      ap₂ (λ r es. (c, r) ∷ es) k.0 (more_run cs (step b bs st c).1 (step b bs st' c).1 k.1 s.2)

  -- W-213, of the meaning
  pub more_cells : (n m : ℕ) → n ≤ m → (cs : List Call) → NeverShort (trace b bs (prepared b bs n) cs) → trace b bs (prepared b bs n) cs ≡ trace b bs (prepared b bs m) cs
  unfolding prepared
  more_cells n m l cs s = more_run cs (prepared b bs n) (prepared b bs m) (record { seats = refl; all = l }) s

  -- ---- what every step keeps

  -- the cells reached are within all, so free cells and cells reached make up all
  pub pool_equation : (st : State b bs) → used b bs st.seat ≤ st.all → free b bs st + used b bs st.seat ≡ st.all
  unfolding free
  pool_equation st h = omega arith

  pub step_within : (st : State b bs) (c : Call) → used b bs st.seat ≤ st.all → used b bs (step b bs st c).1.seat ≤ st.all
  unfolding step free
  step_within st c h = omega (arith, h, fits b bs c st.seat (free b bs st))
