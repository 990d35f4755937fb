-- The calls on one whole seat, as later calls see them: sign fill, flip, prune, cut, fill with a value, clear. That a call was accepted is the only premise: the pool
-- is then sound and the seat is there. `others_stay` and `others_lookup` are of any call, refused or not, and ask for a sound pool. Assumes nothing.
use mathlib.Core.Path.{◌≡◌, refl, sym, ◌∙◌, ap, subst, fun_ext}
use mathlib.Core.Bool.{Bool, true, false, not, cond}
use mathlib.Core.List.{List, ◌∷◌}
use mathlib.Core.Option.{Option, some}
use Prim.Native.Nat.{ℕ, ◌+◌, ◌<◌}
use native.Mathlib.Omega.{arith}
use Rattle.floats.specs.Test.{passes}
use Rattle.floats.specs.Value.{negative, negated}
use Rattle.floats.specs.declared.Test.{Test}
use Rattle.grid.specs.Geometry.{Point, slot_of}
use Rattle.grid.specs.Node.{put}
use Rattle.grid.specs.SignFill.{fill_signs}
use Rattle.grid.specs.Voxel.{lookup, sign_at}
use Rattle.grid.specs.Whole.{fill, flip, is_empty, has_hollow}
use Rattle.grid.proofs.Cells.{flat_cells, flip_cells}
use Rattle.grid.proofs.CombinedSign as sign
use Rattle.grid.proofs.Places.{put_at, put_same}
use Rattle.grid.proofs.Reach.{fill_signs_cells, same_reach}
use Rattle.grid.proofs.SignFill.{fill_signs_lookup_lem, fill_signs_twice_lem, fill_signs_is_empty, fill_signs_has_hollow}
use Rattle.grid.proofs.Voxel.{active_sign}
use Rattle.grid.proofs.Whole as grid
use Rattle.grid.proofs.Whole.{through, uncut}
use Rattle.seats.specs.Call.{Lookup, Sign, Fill, Cut, Clear, Prune, Flip, FillSigns, IsEmpty, Call, One, names, Answer, refused, found, negative_is, empty_is, free_cells, done}
use Rattle.seats.specs.Promise.{among, Memory, Promise, Turns, Answers, Unsigned, Cleared, Counts, LooksAlike}
use Rattle.seats.specs.Refusal.{order}
use Rattle.seats.specs.Seat.{Seat, State, marked, fresh, reached, free}
use Rattle.seats.specs.Step.{act, served, step}
use Rattle.seats.proofs.Asked.{flip_call, asked, lookup_asked, sign_asked, empty_asked, fill_signs_asked, fresh_cleared, shown, same_lookup}
use Rattle.seats.proofs.Laws.{frame, fresh_none}
use Rattle.seats.proofs.Promise.{sim}
use Rattle.seats.proofs.Refusal.{all_pass}
use Rattle.seats.proofs.Turned.{reads_at, Turned, turned, below, own_seat, stays, kept_lookup, lookup_then, unmarked_sign, count_then}

-- the answer with the other sign
abbrev pub contrary : Answer → Answer
contrary (refused n) = refused n
contrary (found o) = found o
contrary (negative_is k) = negative_is (not k)
contrary (empty_is k) = empty_is k
contrary (free_cells k) = free_cells k
contrary done = done

-- a place put twice, at last with what was there
put_back : {A : Type 0} (f : ℕ → A) (i : ℕ) (a a' : A) → a' ≡ f i → put (put f i a) i a' ≡ f
put_back f i a a' e =
    fun_ext (λ j.
    put_at (λ x. x ≡ f j) (put f i a) i a' j (λ g. e ∙ ap f (sym g)) (λ d. put_at (λ x. x ≡ f j) f i a j (λ g. absurd (d g)) (λ _. refl)))

module _ (b : ℕ) (bs : List ℕ) (𝓜 : Memory b bs) where
  -- ---- any call

  -- a seat that a call does not name is as before, refused or not
  pub others_stay : (c : Call) (m m' : 𝓜.Mem) (r : Answer) → 𝓜.Sound m → Promise b bs 𝓜 c m r m' → (a : ℕ) → a < 8 → among a (names c) ≡ false
      → (𝓜.state m').seat a ≡ (𝓜.state m).seat a
  unfolding step
  others_stay c m m' r s h a l n = ap (λ o. o.1.seat a) (sim b bs 𝓜 c m r m' s h).0 ∙ frame b bs c (𝓜.state m).seat (free b bs (𝓜.state m)) a l n

  -- so lookups in it are answered as before
  pub others_lookup : (c : Call) (m m' : 𝓜.Mem) (r₀ : Answer) → 𝓜.Sound m → Promise b bs 𝓜 c m r₀ m' → (a : ℕ) → among a (names c) ≡ false
      → LooksAlike b bs 𝓜 m a m' a
  others_lookup c m m' r₀ s h a n p =
      same_lookup b bs 𝓜 a p m m' s (sim b bs 𝓜 c m r₀ m' s h).1 (λ l. ap (λ t. lookup (b ∷ bs) t.grid p) (others_stay c m m' r₀ s h a l n))

  -- ---- sign fill

  -- it is accepted where no branch is empty
  fill_accepted : (i : ℕ) → i < 8 → (m : 𝓜.Mem) → 𝓜.Sound m → has_hollow b bs ((𝓜.state m).seat i).grid ≡ false → (r : Answer) → Answers b bs 𝓜 (One i FillSigns) m r → r ≡ done
  fill_accepted i l m s e r h = fill_signs_asked b bs 𝓜 m s i l r h ∙ ap (λ (k : Bool). cond k (refused 7) done) e

  module _ (i : ℕ) (m m' : 𝓜.Mem) (h : Turns b bs 𝓜 (One i FillSigns) m m') where
    t : Turned b bs 𝓜 (One i FillSigns) m m'
    t = turned b bs 𝓜 (One i FillSigns) m m' refl h

    seat_after : (𝓜.state m').seat i ≡ marked b bs (fill_signs (b ∷ bs) ((𝓜.state m).seat i).grid)
    unfolding act
    seat_after = own_seat b bs 𝓜 i FillSigns m m' t

    -- "It keeps active values": every lookup in every seat is answered as before
    pub fill_signs_lookup : (a : ℕ) → LooksAlike b bs 𝓜 m a m' a
    unfolding act
    fill_signs_lookup a p = kept_lookup b bs 𝓜 i FillSigns m m' t p (fill_signs_lookup_lem (b ∷ bs) ((𝓜.state m).seat i).grid p) a

    -- the mark is set, and every voxel has a sign: asking for it is not refused
    pub fill_signs_sign : (((𝓜.state m').seat i).filled ≡ true)
        × ((p : Point) (r : Answer) → Answers b bs 𝓜 (One i (Sign p)) m' r → r ≡ negative_is (sign_at (b ∷ bs) (fill_signs (b ∷ bs) ((𝓜.state m).seat i).grid) p))
    fill_signs_sign = (
      ap (λ s. s.filled) seat_after,
      (λ p r k.
          sign_asked b bs 𝓜 m' t.after i (below b bs 𝓜 i FillSigns m m' t) p r k
          ∙ ap (λ s. cond s.filled (negative_is (sign_at (b ∷ bs) s.grid p)) (refused 6)) seat_after),
    )

    -- where a lookup shows a value, the sign is the value's
    pub fill_signs_active : (p : Point) (v : ℕ) → Answers b bs 𝓜 (One i (Lookup p)) m (found (some v)) → (r : Answer) → Answers b bs 𝓜 (One i (Sign p)) m' r → r ≡ negative_is (negative v)
    fill_signs_active p v k r k' =
        fill_signs_sign.1 p r k'
        ∙ ap negative_is (active_sign (b ∷ bs) (fill_signs (b ∷ bs) ((𝓜.state m).seat i).grid) p v
        (fill_signs_lookup_lem (b ∷ bs) ((𝓜.state m).seat i).grid p ∙ shown b bs 𝓜 m t.before i (below b bs 𝓜 i FillSigns m m' t) p (some v) k))

    -- filling twice is filling once: the second is accepted, and every seat, every mark and the count of free cells stay
    pub fill_signs_twice : (r : Answer) (m'' : 𝓜.Mem) → Promise b bs 𝓜 (One i FillSigns) m' r m'' → (r ≡ done) × (𝓜.state m'' ≡ 𝓜.state m')
    unfolding act
    fill_signs_twice r m'' k =
        (e, stays b bs 𝓜 i FillSigns m' m'' (turned b bs 𝓜 (One i FillSigns) m' m'' refl (subst (λ r. Promise b bs 𝓜 (One i FillSigns) m' r m'') e k)) same)
      where
        solid : has_hollow b bs ((𝓜.state m').seat i).grid ≡ false
        solid =
            ap (λ s. has_hollow b bs s.grid) seat_after
            ∙ fill_signs_has_hollow b bs ((𝓜.state m).seat i).grid
            ∙ (all_pass order (reads_at b bs 𝓜 m) (One i FillSigns) t.granted).1.1.1.1.1.1.0

        e : r ≡ done
        e = fill_accepted i (below b bs 𝓜 i FillSigns m m' t) m' t.after solid r (m'', k)

        same : (act b bs FillSigns ((𝓜.state m').seat i)).1 ≡ (𝓜.state m').seat i
        same =
            ap (λ s. marked b bs (fill_signs (b ∷ bs) s.grid)) seat_after
            ∙ ap (marked b bs) (fill_signs_twice_lem (b ∷ bs) ((𝓜.state m).seat i).grid)
            ∙ sym seat_after

    -- whether the seat is empty is answered as before
    pub fill_signs_empty : (r r' : Answer) → Answers b bs 𝓜 (One i IsEmpty) m r → Answers b bs 𝓜 (One i IsEmpty) m' r' → r' ≡ r
    fill_signs_empty r r' k k' =
        let l = below b bs 𝓜 i FillSigns m m' t in
        empty_asked b bs 𝓜 m' t.after i l r' k'
        ∙ ap empty_is (ap (λ s. is_empty b bs s.grid) seat_after ∙ fill_signs_is_empty b bs ((𝓜.state m).seat i).grid)
        ∙ sym (empty_asked b bs 𝓜 m t.before i l r k)

    -- no cell is taken or released
    pub fill_signs_free : (k k' : ℕ) → Counts b bs 𝓜 m k → Counts b bs 𝓜 m' k' → k' ≡ k
    unfolding reached
    fill_signs_free k k' q q' =
        omega (
          arith,
          count_then b bs 𝓜 i FillSigns m m' t k k' q q',
          ap (reached b bs) seat_after,
          same_reach b bs (fill_signs (b ∷ bs) ((𝓜.state m).seat i).grid) ((𝓜.state m).seat i).grid (fill_signs_cells (b ∷ bs) ((𝓜.state m).seat i).grid),
        )

  -- ---- flip

  module _ (i : ℕ) (m m' : 𝓜.Mem) (h : Turns b bs 𝓜 (One i Flip) m m') where
    f : Turned b bs 𝓜 (One i Flip) m m'
    f = turned b bs 𝓜 (One i Flip) m m' refl h

    l : i < 8
    l = below b bs 𝓜 i Flip m m' f

    flipped : (𝓜.state m').seat i ≡ record { grid = flip (b ∷ bs) ((𝓜.state m).seat i).grid; filled = ((𝓜.state m).seat i).filled }
    unfolding act
    flipped = own_seat b bs 𝓜 i Flip m m' f

    -- "negates every value": a lookup shows the value with the other sign bit, and nothing where there was nothing
    pub flip_lookup : (p : Point) (o : Option ℕ) → Answers b bs 𝓜 (One i (Lookup p)) m (found o) → (r : Answer) → Answers b bs 𝓜 (One i (Lookup p)) m' r
        → r ≡ found (through (λ v. some (negated v)) o)
    unfolding act
    flip_lookup p = lookup_then b bs 𝓜 i Flip m m' f p (through (λ v. some (negated v))) (grid.flip_lookup p (b ∷ bs) ((𝓜.state m).seat i).grid)

    -- "hidden ones too, and keeps the filled mark": a sign is the other one; and where it was refused it is
    pub flip_sign : (p : Point) (r r' : Answer) → Answers b bs 𝓜 (One i (Sign p)) m r → Answers b bs 𝓜 (One i (Sign p)) m' r' → r' ≡ contrary r
    flip_sign p r r' k k' =
        sign_asked b bs 𝓜 m' f.after i l p r' k'
        ∙ ap (λ s. cond s.filled (negative_is (sign_at (b ∷ bs) s.grid p)) (refused 6)) flipped
        ∙ ap (λ (x : Bool). cond ((𝓜.state m).seat i).filled (negative_is x) (refused 6)) (sign.flip_sign p (b ∷ bs) ((𝓜.state m).seat i).grid)
        ∙ go ((𝓜.state m).seat i).filled (sign_at (b ∷ bs) ((𝓜.state m).seat i).grid p)
        ∙ sym (ap contrary (sign_asked b bs 𝓜 m f.before i l p r k))
      where
        go : (x y : Bool) → cond x (negative_is (not y)) (refused 6) ≡ contrary (cond x (negative_is y) (refused 6))
        go true y = refl
        go false y = refl

    -- flipping twice changes nothing: the second is accepted, and all is as before the first
    pub flip_twice : (r : Answer) (m'' : 𝓜.Mem) → Promise b bs 𝓜 (One i Flip) m' r m'' → (r ≡ done) × (𝓜.state m'' ≡ 𝓜.state m)
    unfolding act served
    flip_twice r m'' k = (e, g.seats ∙ ap again f.seats ∙ ap (λ x. record { seat = x; all = (𝓜.state m).all }) back)
      where
        e : r ≡ done
        e = asked b bs 𝓜 m' f.after (One i Flip) r (m'', k) ∙ flip_call b bs i l (𝓜.state m')

        g : Turned b bs 𝓜 (One i Flip) m' m''
        g = turned b bs 𝓜 (One i Flip) m' m'' refl (subst (λ r. Promise b bs 𝓜 (One i Flip) m' r m'') e k)

        turn : Seat b bs → Seat b bs
        turn s = record { grid = flip (b ∷ bs) s.grid; filled = s.filled }

        again : State b bs → State b bs
        again st = record { seat = put st.seat i (turn (st.seat i)); all = st.all }

        back : (again (record { seat = put (𝓜.state m).seat i (turn ((𝓜.state m).seat i)); all = (𝓜.state m).all })).seat ≡ (𝓜.state m).seat
        back =
            put_back (𝓜.state m).seat i (turn ((𝓜.state m).seat i)) _
            (ap turn (put_same (𝓜.state m).seat i (turn ((𝓜.state m).seat i)))
            ∙ ap (λ n. record { grid = n; filled = ((𝓜.state m).seat i).filled }) (grid.flip_twice (b ∷ bs) ((𝓜.state m).seat i).grid))

    -- a sign fill is refused with 7 afterwards exactly if it was before
    pub flip_fill_signs : (r r' : Answer) → Answers b bs 𝓜 (One i FillSigns) m r → Answers b bs 𝓜 (One i FillSigns) m' r' → r' ≡ r
    flip_fill_signs r r' k k' =
        fill_signs_asked b bs 𝓜 m' f.after i l r' k'
        ∙ ap (λ (x : Bool). cond x (refused 7) done) (ap (λ s. has_hollow b bs s.grid) flipped ∙ grid.flip_has_hollow b bs ((𝓜.state m).seat i).grid)
        ∙ sym (fill_signs_asked b bs 𝓜 m f.before i l r k)

    pub flip_empty : (r r' : Answer) → Answers b bs 𝓜 (One i IsEmpty) m r → Answers b bs 𝓜 (One i IsEmpty) m' r' → r' ≡ r
    flip_empty r r' k k' =
        empty_asked b bs 𝓜 m' f.after i l r' k'
        ∙ ap empty_is (ap (λ s. is_empty b bs s.grid) flipped ∙ grid.flip_empty b bs ((𝓜.state m).seat i).grid)
        ∙ sym (empty_asked b bs 𝓜 m f.before i l r k)

    pub flip_free : (k k' : ℕ) → Counts b bs 𝓜 m k → Counts b bs 𝓜 m' k' → k' ≡ k
    unfolding reached
    flip_free k k' q q' =
        omega (
          arith,
          count_then b bs 𝓜 i Flip m m' f k k' q q',
          ap (reached b bs) flipped,
          same_reach b bs (flip (b ∷ bs) ((𝓜.state m).seat i).grid) ((𝓜.state m).seat i).grid (flip_cells (b ∷ bs) ((𝓜.state m).seat i).grid),
        )

  -- ---- prune

  module _ (i : ℕ) (m m' : 𝓜.Mem) (h : Turns b bs 𝓜 (One i Prune) m m') where
    pruned : Turned b bs 𝓜 (One i Prune) m m'
    pruned = turned b bs 𝓜 (One i Prune) m m' refl h

    -- every lookup in every seat is answered as before
    pub prune_lookup : (a : ℕ) → LooksAlike b bs 𝓜 m a m' a
    unfolding act lookup
    prune_lookup a p = kept_lookup b bs 𝓜 i Prune m m' pruned p (grid.prune_lookup p bs (((𝓜.state m).seat i).grid (slot_of b bs p))) a

    -- "releases every empty branch": no branch of the seat is empty, so that a sign fill is accepted
    pub prune_fill_signs : (has_hollow b bs ((𝓜.state m').seat i).grid ≡ false) × ((r : Answer) → Answers b bs 𝓜 (One i FillSigns) m' r → r ≡ done)
    unfolding act
    prune_fill_signs =
        let e = ap (λ s. has_hollow b bs s.grid) (own_seat b bs 𝓜 i Prune m m' pruned) ∙ grid.prune_none_hollow b bs ((𝓜.state m).seat i).grid in
        (e, fill_accepted i (below b bs 𝓜 i Prune m m' pruned) m' pruned.after e)

    -- it is unmarked
    pub prune_unfilled : Unsigned b bs 𝓜 m' i
    unfolding act
    prune_unfilled = unmarked_sign b bs 𝓜 i Prune m m' pruned refl

    -- what the seat does not reach any more is free again
    pub prune_free : (k k' : ℕ) → Counts b bs 𝓜 m k → Counts b bs 𝓜 m' k' → k' + reached b bs ((𝓜.state m').seat i) ≡ k + reached b bs ((𝓜.state m).seat i)
    prune_free = count_then b bs 𝓜 i Prune m m' pruned

  -- ---- cut

  module _ (i : ℕ) (x : Test) (m m' : 𝓜.Mem) (h : Turns b bs 𝓜 (One i (Cut x)) m m') where
    cuts : Turned b bs 𝓜 (One i (Cut x)) m m'
    cuts = turned b bs 𝓜 (One i (Cut x)) m m' refl h

    -- "Active slots that pass are hidden": a lookup shows what it showed unless that passes, and then nothing
    pub cut_lookup : (p : Point) (o : Option ℕ) → Answers b bs 𝓜 (One i (Lookup p)) m (found o) → (r : Answer) → Answers b bs 𝓜 (One i (Lookup p)) m' r
        → r ≡ found (through (uncut (passes x)) o)
    unfolding act lookup
    cut_lookup p = lookup_then b bs 𝓜 i (Cut x) m m' cuts p (through (uncut (passes x))) (grid.cut_lookup p (passes x) bs (((𝓜.state m).seat i).grid (slot_of b bs p)))

    -- "empty branches released": no branch of the seat is empty, so that a sign fill is accepted
    pub cut_fill_signs : (has_hollow b bs ((𝓜.state m').seat i).grid ≡ false) × ((r : Answer) → Answers b bs 𝓜 (One i FillSigns) m' r → r ≡ done)
    unfolding act
    cut_fill_signs =
        let e = ap (λ s. has_hollow b bs s.grid) (own_seat b bs 𝓜 i (Cut x) m m' cuts) ∙ grid.cut_none_hollow b bs (passes x) ((𝓜.state m).seat i).grid in
        (e, fill_accepted i (below b bs 𝓜 i (Cut x) m m' cuts) m' cuts.after e)

    pub cut_unfilled : Unsigned b bs 𝓜 m' i
    unfolding act
    cut_unfilled = unmarked_sign b bs 𝓜 i (Cut x) m m' cuts refl

    pub cut_free : (k k' : ℕ) → Counts b bs 𝓜 m k → Counts b bs 𝓜 m' k' → k' + reached b bs ((𝓜.state m').seat i) ≡ k + reached b bs ((𝓜.state m).seat i)
    cut_free = count_then b bs 𝓜 i (Cut x) m m' cuts

  -- ---- fill with a value, clear

  module _ (i v : ℕ) (m m' : 𝓜.Mem) (h : Turns b bs 𝓜 (One i (Fill v)) m m') where
    fills : Turned b bs 𝓜 (One i (Fill v)) m m'
    fills = turned b bs 𝓜 (One i (Fill v)) m m' refl h

    -- "makes all 512 top slots active": every lookup shows the value
    pub fill_lookup : (p : Point) (r : Answer) → Answers b bs 𝓜 (One i (Lookup p)) m' r → r ≡ found (some v)
    unfolding act
    fill_lookup p r k =
        lookup_asked b bs 𝓜 m' fills.after i (below b bs 𝓜 i (Fill v) m m' fills) p r k
        ∙ ap (λ s. found (lookup (b ∷ bs) s.grid p)) (own_seat b bs 𝓜 i (Fill v) m m' fills)
        ∙ ap found (grid.fill_lookup p b bs v)

    pub fill_unfilled : Unsigned b bs 𝓜 m' i
    unfolding act
    fill_unfilled = unmarked_sign b bs 𝓜 i (Fill v) m m' fills refl

    -- "releases all branches": what the seat reached is free again
    pub fill_free : (k k' : ℕ) → Counts b bs 𝓜 m k → Counts b bs 𝓜 m' k' → k' ≡ k + reached b bs ((𝓜.state m).seat i)
    unfolding act reached fill
    fill_free k k' q q' =
        omega (
          arith,
          count_then b bs 𝓜 i (Fill v) m m' fills k k' q q',
          ap (reached b bs) (own_seat b bs 𝓜 i (Fill v) m m' fills),
          flat_cells b bs (fill b bs v) (λ _. refl),
        )

  module _ (i : ℕ) (m m' : 𝓜.Mem) (h : Turns b bs 𝓜 (One i Clear) m m') where
    clears : Turned b bs 𝓜 (One i Clear) m m'
    clears = turned b bs 𝓜 (One i Clear) m m' refl h

    -- "empties the seat": it is as in a prepared pool
    pub clear_seat : (𝓜.state m').seat i ≡ fresh b bs
    unfolding act
    clear_seat = own_seat b bs 𝓜 i Clear m m' clears

    -- so no lookup shows anything, it is empty, and it has no sign
    pub clear_clears : Cleared b bs 𝓜 m' i
    clear_clears = fresh_cleared b bs 𝓜 m' clears.after i (below b bs 𝓜 i Clear m m' clears) clear_seat

    -- what the seat reached is free again
    pub clear_free : (k k' : ℕ) → Counts b bs 𝓜 m k → Counts b bs 𝓜 m' k' → k' ≡ k + reached b bs ((𝓜.state m).seat i)
    clear_free k k' q q' = omega (arith, count_then b bs 𝓜 i Clear m m' clears k k' q q', ap (reached b bs) clear_seat, fresh_none b bs)
