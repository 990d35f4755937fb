-- Two outcomes that a promise allows agree; and on a sound pool a promise is a step of the meaning. Assumes nothing.
use mathlib.Core.Path.{◌≡◌, refl, sym, ◌∙◌, ap, ap₂, subst, fun_ext}
use mathlib.Core.Bool.{Bool, true, false, not, cond, false≢true}
use mathlib.Core.List.{List, []}
use mathlib.Core.Logic.{◌⊎◌, inl, inr}
use mathlib.Core.Option.{Option, none, some}
use Prim.Native.Nat.{ℕ, ◌+◌, ◌<◌}
use native.Mathlib.Omega.{arith}
use lib.Dec.{leb}
use Rattle.grid.specs.Node.{put}
use Rattle.grid.proofs.Places.{put_at}
use Rattle.seats.specs.Call.{Lookup, Sign, Remove, Insert, Fill, Cut, Clear, Prune, Flip, FillSigns, IsEmpty, Copy, Combine}
use Rattle.seats.specs.Call.{Call, One, Two, Prepare, Count, names, Answer, refused, found, negative_is, empty_is, free_cells, done}
use Rattle.seats.specs.Promise.{among, Agree, Verdict, refuse, give, turn, loose, Accepted, Memory, grants, refuse_or, verdict, Keeps, Promise, OneState}
use Rattle.seats.specs.Refusal.{any, refusal}
use Rattle.seats.specs.Seat.{Seat, State, prepared, used, free}
use Rattle.seats.specs.Step.{act, both, reads_of, served, unless, play, step}
use Rattle.seats.proofs.Names.{not_above, among_head, any_none}
use Rattle.seats.proofs.Refusal.{below_8, refusal_agree, refusal_above}

pub put_own : {A : Type 0} (f : ℕ → A) (i : ℕ) → put f i (f i) ≡ f
put_own f i = fun_ext (λ j. put_at (λ x. x ≡ f j) f i (f i) j (λ g. ap f (sym g)) (λ _. refl))

module _ (b : ℕ) (bs : List ℕ) (𝓜 : Memory b bs) where
  abbrev Seats : Type 0
  Seats = ℕ → Seat b bs

  -- ---- two outcomes agree, on any memory: the answer always; and the memories, or what they stand for, unless an insert or a remove was accepted on an unsound pool

  keeps_agree : (v : Verdict) (c : Call) (m m' m'' : 𝓜.Mem) (r r' : Answer) → Keeps b bs 𝓜 v c m r m' → Keeps b bs 𝓜 v c m r' m''
      → (r ≡ r') × ((m' ≡ m'') ⊎ (OneState b bs 𝓜 m' m'' ⊎ (v ≡ loose)))
  keeps_agree (refuse n) c m m' m'' r r' p q = (p.0 ∙ sym q.0, inl (p.1 ∙ sym q.1))
  keeps_agree (give a) c m m' m'' r r' p q = (p.0 ∙ sym q.0, inl (p.1 ∙ sym q.1))
  keeps_agree (turn a) c m m' m'' r r' p q =
      (p.0 ∙ sym q.0, inr (inl (record { sound = p.1; sound' = q.1; state = p.2 ∙ sym q.2 })))
  keeps_agree loose c m m' m'' r r' p q = (p.0 ∙ sym q.0, inr (inr refl))

  pub agree : (c : Call) (m m' m'' : 𝓜.Mem) (r r' : Answer) → Promise b bs 𝓜 c m r m' → Promise b bs 𝓜 c m r' m''
      → (r ≡ r') × ((m' ≡ m'') ⊎ (OneState b bs 𝓜 m' m'' ⊎ (verdict b bs 𝓜 c m ≡ loose)))
  agree c m m' m'' r r' p q = keeps_agree (verdict b bs 𝓜 c m) c m m' m'' r r' p q

  -- ---- on a sound pool

  module _ (m : 𝓜.Mem) (s : 𝓜.Sound m) where
    f : Seats
    f = (𝓜.state m).seat

    k : ℕ
    k = free b bs (𝓜.state m)

    -- what is read whatever the call names
    base : Agree Count (𝓜.reads m) (reads_of b bs f k)
    unfolding f k
    base = 𝓜.reads_is m s Count (λ i a. absurd (not_among i a))
      where
        not_among : (i : ℕ) → among i [] ≡ true → ⊥
        not_among i a = false≢true a

    -- the memory's refusal is the meaning's
    same_refusal : (c : Call) → refusal (𝓜.reads m) c ≡ refusal (reads_of b bs f k) c
    unfolding f k
    same_refusal c = go (any (λ i. leb 8 i) (names c)) refl
      where
        go : (x : Bool) → any (λ i. leb 8 i) (names c) ≡ x → refusal (𝓜.reads m) c ≡ refusal (reads_of b bs (𝓜.state m).seat (free b bs (𝓜.state m))) c
        go true e = refusal_above c (𝓜.reads m) (reads_of b bs (𝓜.state m).seat (free b bs (𝓜.state m))) base.fit e
        go false e =
            refusal_agree c (𝓜.reads m) (reads_of b bs (𝓜.state m).seat (free b bs (𝓜.state m)))
            (𝓜.reads_is m s c (λ i a. not_above i (any_none (λ j. leb 8 j) (names c) e i a)))

  -- the outcome o is what the verdict says of the seats f
  abbrev pub Meets : (ℕ → Seat b bs) → Verdict → Answer × (ℕ → Seat b bs) → Type 0
  Meets f (refuse n) o = o ≡ (refused n, f)
  Meets f (give a) o = o ≡ (a, f)
  Meets f (turn a) o = o.0 ≡ a
  Meets f loose o = ⊥

  module _ (m : 𝓜.Mem) (s : 𝓜.Sound m) where
    -- a call that reads: the answer is the meaning's, and the seat is put back as it was
    reads_only : (i : ℕ) {a a' : Answer} → a ≡ a' → Meets (f m s) (give a) (a', put (f m s) i (f m s i))
    reads_only i {a} {a'} e = ap₂ (λ x y. (x, y)) (sym e) (put_own (f m s) i)

    granted : (c : Call) → ((i : ℕ) → among i (names c) ≡ true → i < 8) → Meets (f m s) (grants b bs 𝓜 c m) (served b bs c (f m s) (k m s))
    unfolding served act both f k
    granted (One i (Lookup p)) l = reads_only i (ap found (𝓜.lookup_is m s i (l i (among_head i [])) p))
    granted (One i (Sign p)) l = reads_only i (ap negative_is (𝓜.negative_is_lem m s i (l i (among_head i [])) p))
    granted (One i (Remove p)) l = rw (base m s).sound refl
    granted (One i (Insert p v)) l = rw (base m s).sound refl
    granted (One i (Fill v)) l = refl
    granted (One i (Cut t)) l = refl
    granted (One i Clear) l = refl
    granted (One i Prune) l = refl
    granted (One i Flip) l = refl
    granted (One i FillSigns) l = refl
    granted (One i IsEmpty) l = reads_only i (ap empty_is ((𝓜.reads_is m s (One i IsEmpty) l).empty i (among_head i [])))
    granted (Two Copy i j) l = refl
    granted (Two (Combine o) i j) l = refl
    granted Prepare l = refl
    granted Count l = ap (λ n. (free_cells n, (𝓜.state m).seat)) (sym (base m s).free)

    met : (c : Call) → Meets (f m s) (verdict b bs 𝓜 c m) (play b bs c (f m s) (k m s))
    unfolding play
    met c = rw (same_refusal m s c) (go (refusal (reads_of b bs (f m s) (k m s)) c) refl)
      where
        go : (o : Option ℕ) → refusal (reads_of b bs (f m s) (k m s)) c ≡ o
            → Meets (f m s) (refuse_or b bs 𝓜 o (grants b bs 𝓜 c m)) (unless b bs o (f m s) (served b bs c (f m s) (k m s)))
        go none e = granted c (below_8 (reads_of b bs (f m s) (k m s)) c e)
        go (some n) e = refl

  -- the verdict of the memory is the answer of the meaning
  pub verdict_meets : (c : Call) (m : 𝓜.Mem) → 𝓜.Sound m
      → Meets (𝓜.state m).seat (verdict b bs 𝓜 c m) (play b bs c (𝓜.state m).seat (free b bs (𝓜.state m)))
  unfolding f k
  verdict_meets c m s = met m s c

  -- a call that no row refuses is a step that is served
  pub served_step : (c : Call) (m : 𝓜.Mem) → 𝓜.Sound m → refusal (𝓜.reads m) c ≡ none
      → (step b bs (𝓜.state m) c).1 ≡ record { seat = (served b bs c (𝓜.state m).seat (free b bs (𝓜.state m))).1; all = (𝓜.state m).all }
  unfolding f k step play
  served_step c m s e = rw (sym (same_refusal m s c) ∙ e) refl

  -- the free cells that a sound pool records
  pub sound_free : (m : 𝓜.Mem) → 𝓜.Sound m → (𝓜.reads m).free ≡ free b bs (𝓜.state m)
  unfolding f k
  sound_free m s = (base m s).free

  -- the pool equation of every sound pool, however it came to be
  pub sound_cells : (m : 𝓜.Mem) → 𝓜.Sound m → (𝓜.reads m).free + used b bs (𝓜.state m).seat ≡ 𝓜.size (𝓜.lens m)
  unfolding free
  sound_cells m s = omega (arith, sound_free m s, 𝓜.within m s, 𝓜.all_is m)

  -- a sound pool never falls under the exception
  pub sound_not_loose : (c : Call) (m : 𝓜.Mem) → 𝓜.Sound m → verdict b bs 𝓜 c m ≡ loose → ⊥
  sound_not_loose c m s e = subst (λ (v : Verdict). Meets (𝓜.state m).seat v (play b bs c (𝓜.state m).seat (free b bs (𝓜.state m)))) e (verdict_meets c m s)

  keeps_sim : (v : Verdict) (c : Call) (m m' : 𝓜.Mem) (r : Answer) → 𝓜.Sound m → Meets (𝓜.state m).seat v (play b bs c (𝓜.state m).seat (free b bs (𝓜.state m)))
      → Keeps b bs 𝓜 v c m r m' → (◌≡◌ {A = Answer × State b bs} (r, 𝓜.state m') (step b bs (𝓜.state m) c)) × 𝓜.Sound m'
  unfolding step
  keeps_sim (refuse n) c m m' r s e p = (
    ap₂ (λ x y. (x, y)) p.0 (ap 𝓜.state p.1) ∙ sym (ap (λ o. (o.0, record { seat = o.1; all = (𝓜.state m).all })) e),
    subst 𝓜.Sound (sym p.1) s,
  )
  keeps_sim (give a) c m m' r s e p = (
    ap₂ (λ x y. (x, y)) p.0 (ap 𝓜.state p.1) ∙ sym (ap (λ o. (o.0, record { seat = o.1; all = (𝓜.state m).all })) e),
    subst 𝓜.Sound (sym p.1) s,
  )
  keeps_sim (turn a) c m m' r s e p = (ap₂ (λ x y. (x, y)) (p.0 ∙ sym e) p.2, p.1)
  keeps_sim loose c m m' r s e p = absurd e

  -- on a sound pool a promise is a step of the meaning, and leaves a sound pool
  pub sim : (c : Call) (m : 𝓜.Mem) (r : Answer) (m' : 𝓜.Mem) → 𝓜.Sound m → Promise b bs 𝓜 c m r m'
      → (◌≡◌ {A = Answer × State b bs} (r, 𝓜.state m') (step b bs (𝓜.state m) c)) × 𝓜.Sound m'
  sim c m r m' s p = keeps_sim (verdict b bs 𝓜 c m) c m m' r s (verdict_meets c m s) p

  -- preparing, on any memory: done, and then the pool is sound and prepared
  pub begin : (m m' : 𝓜.Mem) → Promise b bs 𝓜 Prepare m done m' → 𝓜.Sound m' × (𝓜.state m' ≡ prepared b bs (𝓜.size (𝓜.lens m)))
  unfolding step play served prepared
  begin m m' p = go (𝓜.reads m).fit p
    where
      not_refused : (n : ℕ) → ◌≡◌ {A = Answer} done (refused n) → ⊥
      not_refused n e = subst Accepted e tt

      go : (x : Bool) → Keeps b bs 𝓜 (refuse_or b bs 𝓜 (cond (not x) (some 1) none) (turn done)) Prepare m done m'
          → 𝓜.Sound m' × (𝓜.state m' ≡ prepared b bs (𝓜.size (𝓜.lens m)))
      go true q = (q.1, q.2 ∙ ap (prepared b bs) (𝓜.all_is m))
      go false q = absurd (not_refused 1 q.0)
