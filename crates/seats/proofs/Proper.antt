-- No call puts a value that is not finite into a seat: seats that are proper stay so. Assumes nothing.
use mathlib.Core.Path.{◌≡◌, refl, sym}
use mathlib.Core.Bool.{Bool, true, false, not, false≢true}
use mathlib.Core.List.{List, ◌∷◌}
use Prim.Native.Nat.{ℕ}
use Rattle.floats.specs.Test.{passes}
use Rattle.grid.specs.Node.{Proper, put}
use Rattle.grid.proofs.Places.{put_at}
use Rattle.grid.proofs.Proper.{flip_proper, fill_signs_proper, insert_proper, remove_proper, fill_proper, clear_proper, prune_proper, cut_proper, combine_proper}
use Rattle.seats.specs.Call.{Act, Lookup, Sign, Remove, Insert, Fill, Cut, Clear, Prune, Flip, FillSigns, IsEmpty, Pair, Copy, Combine, Call, One, Two, Prepare, Count, asks}
use Rattle.seats.specs.Refusal.{order}
use Rattle.seats.specs.Seat.{Seat, State, fresh, free}
use Rattle.seats.specs.Step.{act, both, reads_of, served, play, step}
use Rattle.seats.proofs.Laws.{play_at}
use Rattle.seats.proofs.Refusal.{all_pass}

module _ (b : ℕ) (bs : List ℕ) where
  abbrev Ok : Seat b bs → Type 0
  Ok s = Proper (b ∷ bs) s.grid

  abbrev pub AllProper : (ℕ → Seat b bs) → Type 0
  AllProper f = (i : ℕ) → Proper (b ∷ bs) (f i).grid

  pub fresh_proper : Ok (fresh b bs)
  unfolding fresh
  fresh_proper = clear_proper b bs

  act_proper : (i : ℕ) (x : Act) (s : Seat b bs) → (asks (One i x)).given ≡ true → Ok s → Ok (act b bs x s).1
  unfolding act
  act_proper i (Lookup p) s g h = h
  act_proper i (Sign p) s g h = h
  act_proper i (Remove p) s g h = remove_proper b bs p s.grid h
  act_proper i (Insert p v) s g h = insert_proper b bs p v g s.grid h
  act_proper i (Fill v) s g h = fill_proper b bs v g
  act_proper i (Cut t) s g h = cut_proper b bs (passes t) s.grid h
  act_proper i Clear s g h = fresh_proper
  act_proper i Prune s g h = prune_proper b bs s.grid h
  act_proper i Flip s g h = flip_proper (b ∷ bs) s.grid h
  act_proper i FillSigns s g h = fill_signs_proper (b ∷ bs) s.grid h
  act_proper i IsEmpty s g h = h

  both_proper : (x : Pair) (s t : Seat b bs) → Ok s → Ok t → Ok (both b bs x s t).1 × Ok (both b bs x s t).2
  unfolding both
  both_proper Copy s t h h' = (h, h)
  both_proper (Combine o) s t h h' = (combine_proper b bs o s.grid t.grid h h', fresh_proper)

  put_proper : (f : ℕ → Seat b bs) (i : ℕ) (s : Seat b bs) → AllProper f → Ok s → AllProper (put f i s)
  put_proper f i s h g j = put_at Ok f i s j (λ _. g) (λ _. h j)

  served_proper : (c : Call) (f : ℕ → Seat b bs) (k : ℕ) → (asks c).given ≡ true → AllProper f → AllProper (served b bs c f k).1
  unfolding served
  served_proper (One i x) f k g h = put_proper f i (act b bs x (f i)).1 h (act_proper i x (f i) g (h i))
  served_proper (Two x i j) f k g h =
      let o = both b bs x (f i) (f j) in
      let q = both_proper x (f i) (f j) (h i) (h j) in
      put_proper (put f i o.1) j o.2 (put_proper f i o.1 h q.0) q.1
  served_proper Prepare f k g h = λ i. fresh_proper
  served_proper Count f k g h = h

  pub play_proper : (c : Call) (f : ℕ → Seat b bs) (k : ℕ) → AllProper f → AllProper (play b bs c f k).1
  play_proper c f k h =
      play_at b bs (λ o. AllProper o.1) c f k (λ n e. h)
      (λ e. served_proper c f k (not_false (asks c).given (all_pass order (reads_of b bs f k) c e).1.1.1.0) h)
    where
      not_false : (x : Bool) → not x ≡ false → x ≡ true
      not_false true e = refl
      not_false false e = absurd (false≢true (sym e))

  pub step_proper : (st : State b bs) (c : Call) → AllProper st.seat → AllProper (step b bs st c).1.seat
  unfolding step
  step_proper st c h = play_proper c st.seat (free b bs st) h
