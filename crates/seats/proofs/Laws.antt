-- The laws of `play`, from which runs are proved. Thrifty: more cells to take change nothing, unless 9 was answered. Fits: no more cells are taken than there are.
-- Frame: a seat that is not named stays. Local: the answer and the named seats come from the named seats and the cells. Assumes nothing.
use mathlib.Core.Path.{◌≡◌, refl, sym, ◌∙◌, ap, ap₂, subst}
use mathlib.Core.Bool.{true, false, ◌||◌, cond, false≢true}
use mathlib.Core.List.{List, [], ◌∷◌}
use mathlib.Core.Logic.{◌⊎◌, inl, inr}
use mathlib.Core.Option.{Option, none, some}
use Prim.Native.Nat.{ℕ, zero, suc, ◌+◌, ◌<◌, ◌≤◌}
use native.Mathlib.Omega.{arith}
use lib.Dec.{eqb}
use Rattle.floats.specs.Test.{passes}
use Rattle.grid.specs.Node.{put}
use Rattle.grid.specs.SignFill.{fill_signs}
use Rattle.grid.specs.Whole.{fill, clear, prune_s, cut_s, flip, is_empty, has_hollow}
use Rattle.grid.proofs.Cells.{flat_cells, insert_cells, remove_cells, flip_cells}
use Rattle.grid.proofs.Places.{put_at, sum_zero, sum_put}
use Rattle.grid.proofs.Reach.{prune_cells, cut_cells, fill_signs_cells, map_reach, same_reach, combine_reach}
use Rattle.seats.specs.Call.{Act, Lookup, Sign, Remove, Insert, Fill, Cut, Clear, Prune, Flip, FillSigns, IsEmpty, Pair, Copy, Combine, Call, One, Two, Prepare, Count, names, Answer, refused, asks}
use Rattle.seats.specs.Promise.{among, Agree}
use Rattle.seats.specs.Refusal.{refusal}
use Rattle.seats.specs.Seat.{Seat, fresh, reached, used}
use Rattle.seats.specs.Step.{act, both, need_one, need_two, need_of, reads_of, served, unless, play}
use Rattle.seats.proofs.Names.{eqb_not, or_none_lem, among_head, among_rest}
use Rattle.seats.proofs.Refusal.{below_8, different, enough, refusal_agree, refusal_more}

module _ (b : ℕ) (bs : List ℕ) where
  abbrev Seats : Type 0
  Seats = ℕ → Seat b bs

  -- by cases on whether a call is refused
  pub play_at : (P : Answer × (ℕ → Seat b bs) → Type 0) (c : Call) (f : ℕ → Seat b bs) (k : ℕ)
      → ((n : ℕ) → refusal (reads_of b bs f k) c ≡ some n → P (refused n, f)) → (refusal (reads_of b bs f k) c ≡ none → P (served b bs c f k)) → P (play b bs c f k)
  unfolding play
  play_at P c f k no' yes' = go (refusal (reads_of b bs f k) c) refl
    where
      go : (o : Option ℕ) → refusal (reads_of b bs f k) c ≡ o → P (unless b bs o f (served b bs c f k))
      go none e = yes' e
      go (some n) e = no' n e

  -- ---- Thrifty

  served_thrifty : (c : Call) (f : Seats) (k k' : ℕ) → (names c ≡ [] → ⊥) → served b bs c f k ≡ served b bs c f k'
  unfolding served
  served_thrifty (One i x) f k k' u = refl
  served_thrifty (Two x i j) f k k' u = refl
  served_thrifty Prepare f k k' u = refl
  served_thrifty Count f k k' u = absurd (u refl)

  pub thrifty : (c : Call) (f : ℕ → Seat b bs) (k k' : ℕ) → k ≤ k' → (names c ≡ [] → ⊥) → ((play b bs c f k).0 ≡ refused 9 → ⊥) → play b bs c f k ≡ play b bs c f k'
  unfolding play
  thrifty c f k k' l u n = go (refusal_more b bs c f k k' l)
    where
      go : (refusal (reads_of b bs f k) c ≡ some 9) ⊎ (refusal (reads_of b bs f k) c ≡ refusal (reads_of b bs f k') c) → play b bs c f k ≡ play b bs c f k'
      go (inl e) = absurd (n (ap (λ o. (unless b bs o f (served b bs c f k)).0) e))
      go (inr e) = ap₂ (λ o s. unless b bs o f s) e (served_thrifty c f k k' u)

  -- ---- Fits

  act_fits : (x : Act) (s : Seat b bs) → reached b bs (act b bs x s).1 ≤ reached b bs s + need_one b bs x s
  unfolding act reached need_one fresh fill clear
  act_fits (Lookup p) s = omega arith
  act_fits (Sign p) s = omega arith
  act_fits (Remove p) s = omega (arith, remove_cells p b bs s.grid)
  act_fits (Insert p v) s = omega (arith, insert_cells p v b bs s.grid)
  act_fits (Fill v) s = omega (arith, flat_cells b bs (fill b bs v) (λ _. refl))
  act_fits (Cut t) s = omega (arith, map_reach b bs (λ i. cut_s (passes t) bs (s.grid i)) s.grid (λ i. cut_cells (passes t) bs (s.grid i)))
  act_fits Clear s = omega (arith, flat_cells b bs (clear b bs) (λ _. refl))
  act_fits Prune s = omega (arith, map_reach b bs (λ i. prune_s bs (s.grid i)) s.grid (λ i. prune_cells bs (s.grid i)))
  act_fits Flip s = omega (arith, same_reach b bs (flip (b ∷ bs) s.grid) s.grid (flip_cells (b ∷ bs) s.grid))
  act_fits FillSigns s = omega (arith, same_reach b bs (fill_signs (b ∷ bs) s.grid) s.grid (fill_signs_cells (b ∷ bs) s.grid))
  act_fits IsEmpty s = omega arith

  pub fresh_none : reached b bs (fresh b bs) ≡ 0
  unfolding reached fresh clear
  fresh_none = flat_cells b bs (clear b bs) (λ _. refl)

  both_fits : (x : Pair) (s t : Seat b bs) → reached b bs (both b bs x s t).1 + reached b bs (both b bs x s t).2 ≤ reached b bs s + reached b bs t + need_two b bs x s
  unfolding both reached need_two
  both_fits Copy s t = omega arith
  both_fits (Combine o) s t = omega (arith, combine_reach b bs o s.grid t.grid, fresh_none)

  pub fresh_used : used b bs (λ i. fresh b bs) ≡ 0
  unfolding used
  fresh_used = sum_zero 8 (λ i. reached b bs (fresh b bs)) (λ i _. fresh_none)

  served_fits : (c : Call) (f : Seats) (k : ℕ) → ((i : ℕ) → among i (names c) ≡ true → i < 8) → ((x : Pair) (i j : ℕ) → c ≡ Two x i j → j ≡ i → ⊥)
      → used b bs (served b bs c f k).1 ≤ used b bs f + need_of b bs c f
  unfolding served used
  served_fits (One i x) f k l d = omega (arith, act_fits x (f i), sum_put (reached b bs) 8 f i (act b bs x (f i)).1 (l i (among_head i [])))
  served_fits (Two x i j) f k l d =
      let o = both b bs x (f i) (f j) in
      omega (
        arith,
        both_fits x (f i) (f j),
        sum_put (reached b bs) 8 (put f i o.1) j o.2 (l j (among_rest j (i ∷ j ∷ []) (among_head j []))),
        sum_put (reached b bs) 8 f i o.1 (l i (among_head i (j ∷ []))),
        put_at (λ s. reached b bs s ≡ reached b bs (f j)) f i o.1 j (λ e. absurd (d x i j refl e)) (λ _. refl),
      )
  served_fits Prepare f k l d = omega (arith, fresh_used)
  served_fits Count f k l d = omega arith

  -- a call that may take cells is served only if there are enough; the others need none
  needed : (c : Call) (f : Seats) (k : ℕ) → ((asks c).takes ≡ true → need_of b bs c f ≤ k) → need_of b bs c f ≤ k
  unfolding need_one need_two
  needed (One i (Lookup p)) f k h = omega arith
  needed (One i (Sign p)) f k h = omega arith
  needed (One i (Remove p)) f k h = h refl
  needed (One i (Insert p v)) f k h = h refl
  needed (One i (Fill v)) f k h = omega arith
  needed (One i (Cut t)) f k h = omega arith
  needed (One i Clear) f k h = omega arith
  needed (One i Prune) f k h = omega arith
  needed (One i Flip) f k h = omega arith
  needed (One i FillSigns) f k h = omega arith
  needed (One i IsEmpty) f k h = omega arith
  needed (Two Copy i j) f k h = h refl
  needed (Two (Combine o) i j) f k h = omega arith
  needed Prepare f k h = omega arith
  needed Count f k h = omega arith

  pub fits : (c : Call) (f : ℕ → Seat b bs) (k : ℕ) → used b bs (play b bs c f k).1 ≤ used b bs f + k
  fits c f k =
      play_at (λ o. used b bs o.1 ≤ used b bs f + k) c f k
      (λ n e. omega arith)
      (λ e. omega (
        arith,
        served_fits c f k (below_8 (reads_of b bs f k) c e) (λ x i j h. different (reads_of b bs f k) x i j (subst (λ c. refusal (reads_of b bs f k) c ≡ none) h e)),
        needed c f k (enough (reads_of b bs f k) c e),
      ))

  -- ---- Frame

  put_other : (f : Seats) (i : ℕ) (s : Seat b bs) (a : ℕ) → eqb a i ≡ false → put f i s a ≡ f a
  put_other f i s a e = put_at (λ x. x ≡ f a) f i s a (λ h. absurd (eqb_not a i e h)) (λ _. refl)

  -- preparing names every seat
  all_named : (a : ℕ) → a < 8 → among a (names Prepare) ≡ false → ⊥
  all_named zero l e = false≢true (sym e)
  all_named (suc zero) l e = false≢true (sym e)
  all_named (suc (suc zero)) l e = false≢true (sym e)
  all_named (suc (suc (suc zero))) l e = false≢true (sym e)
  all_named (suc (suc (suc (suc zero)))) l e = false≢true (sym e)
  all_named (suc (suc (suc (suc (suc zero))))) l e = false≢true (sym e)
  all_named (suc (suc (suc (suc (suc (suc zero)))))) l e = false≢true (sym e)
  all_named (suc (suc (suc (suc (suc (suc (suc zero))))))) l e = false≢true (sym e)
  all_named (suc (suc (suc (suc (suc (suc (suc (suc a)))))))) l e = omega arith

  served_frame : (c : Call) (f : Seats) (k a : ℕ) → a < 8 → among a (names c) ≡ false → (served b bs c f k).1 a ≡ f a
  unfolding served
  served_frame (One i x) f k a l n = put_other f i (act b bs x (f i)).1 a (or_none_lem (eqb a i) false n).0
  served_frame (Two x i j) f k a l n =
      let o = both b bs x (f i) (f j) in
      let h = or_none_lem (eqb a i) (eqb a j || false) n in
      put_other (put f i o.1) j o.2 a (or_none_lem (eqb a j) false h.1).0 ∙ put_other f i o.1 a h.0
  served_frame Prepare f k a l n = absurd (all_named a l n)
  served_frame Count f k a l n = refl

  pub frame : (c : Call) (f : ℕ → Seat b bs) (k a : ℕ) → a < 8 → among a (names c) ≡ false → (play b bs c f k).1 a ≡ f a
  frame c f k a l n = play_at (λ o. o.1 a ≡ f a) c f k (λ _ _. refl) (λ _. served_frame c f k a l n)

  -- ---- Local

  abbrev pub SameOn : List ℕ → (ℕ → Seat b bs) → (ℕ → Seat b bs) → Type 0
  SameOn ns f g = (i : ℕ) → among i ns ≡ true → f i ≡ g i

  reads_same : (c : Call) (f g : Seats) (k : ℕ) → SameOn (names c) f g → Agree c (reads_of b bs f k) (reads_of b bs g k)
  reads_same c f g k h =
      record {
        fit = refl;
        path = refl;
        sound = refl;
        filled = λ i a. ap (λ s. s.filled) (h i a);
        hollow = λ i a. ap (λ s. has_hollow b bs s.grid) (h i a);
        empty = λ i a. ap (λ s. is_empty b bs s.grid) (h i a);
        need = need_same c h;
        free = refl;
      }
    where
      need_same : (c : Call) → SameOn (names c) f g → need_of b bs c f ≡ need_of b bs c g
      need_same (One i x) h = ap (need_one b bs x) (h i (among_head i []))
      need_same (Two x i j) h = ap (need_two b bs x) (h i (among_head i (j ∷ [])))
      need_same Prepare h = refl
      need_same Count h = refl

  put_same_on : (ns : List ℕ) (f g : Seats) (i : ℕ) {s s' : Seat b bs} → s ≡ s' → SameOn ns f g → SameOn ns (put f i s) (put g i s')
  unfolding put
  put_same_on ns f g i e h j m = ap₂ (cond (eqb j i)) e (h j m)

  -- one outcome and another: the same answer, and the same seats among those named
  abbrev pub SameOutcome : List ℕ → Answer × (ℕ → Seat b bs) → Answer × (ℕ → Seat b bs) → Type 0
  SameOutcome ns o o' = (o.0 ≡ o'.0) × SameOn ns o.1 o'.1

  served_local : (c : Call) (f g : Seats) (k : ℕ) → SameOn (names c) f g → SameOutcome (names c) (served b bs c f k) (served b bs c g k)
  unfolding served
  served_local (One i x) f g k h = (ap (λ o. o.0) q, put_same_on (i ∷ []) f g i (ap (λ o. o.1) q) h)
    where
      q : act b bs x (f i) ≡ act b bs x (g i)
      q = ap (act b bs x) (h i (among_head i []))
  served_local (Two x i j) f g k h =
      (ap (λ o. o.0) q, put_same_on (i ∷ j ∷ []) _ _ j (ap (λ o. o.2) q) (put_same_on (i ∷ j ∷ []) f g i (ap (λ o. o.1) q) h))
    where
      q : both b bs x (f i) (f j) ≡ both b bs x (g i) (g j)
      q = ap₂ (both b bs x) (h i (among_head i (j ∷ []))) (h j (among_rest j (i ∷ j ∷ []) (among_head j [])))
  served_local Prepare f g k h = (refl, λ i _. refl)
  served_local Count f g k h = (refl, h)

  pub local : (c : Call) (f g : ℕ → Seat b bs) (k : ℕ) → SameOn (names c) f g → SameOutcome (names c) (play b bs c f k) (play b bs c g k)
  unfolding play
  local c f g k h = rw (refusal_agree c (reads_of b bs f k) (reads_of b bs g k) (reads_same c f g k h)) (go (refusal (reads_of b bs g k) c))
    where
      go : (o : Option ℕ) → SameOutcome (names c) (unless b bs o f (served b bs c f k)) (unless b bs o g (served b bs c g k))
      go none = served_local c f g k h
      go (some n) = (refl, h)
