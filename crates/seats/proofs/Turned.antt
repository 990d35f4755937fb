-- What an accepted call on the whole pool says of the memory before and after it: the seats that it names, the others, and the free cells. Assumes nothing.
use mathlib.Core.Path.{◌≡◌, refl, sym, ◌∙◌, ap, subst}
use mathlib.Core.Bool.{false, not}
use mathlib.Core.List.{List, [], ◌∷◌}
use mathlib.Core.Option.{Option, none, some}
use Prim.Native.Nat.{ℕ, ◌+◌, ◌<◌}
use native.Mathlib.Decide.{ℕ_discrete}
use native.Mathlib.Omega.{arith}
use borrow.Author.Tests.{not-false}
use Rattle.grid.specs.Geometry.{Point}
use Rattle.grid.specs.Node.{put}
use Rattle.grid.specs.Voxel.{lookup}
use Rattle.grid.proofs.Places.{put_at, put_same, sum_put}
use Rattle.seats.specs.Call.{Act, Lookup, Pair, Call, One, Two, Kind, whole_pool, on_kind, asks, Answer, found, done}
use Rattle.seats.specs.Promise.{Accepted, Memory, grants, refuse_or, Keeps, Turns, Answers, Unsigned, Counts}
use Rattle.seats.specs.Refusal.{Reads, order, refusal}
use Rattle.seats.specs.Seat.{Seat, State, reached, used, free}
use Rattle.seats.specs.Step.{act, both, reads_of, served, play, step}
use Rattle.seats.proofs.Asked.{accepted, lookup_asked, unsigned, shown, counted, same_lookup}
use Rattle.seats.proofs.Names.{among_head, among_rest}
use Rattle.seats.proofs.Promise.{put_own, sim}
use Rattle.seats.proofs.Refusal.{all_pass, below_8, different}

module _ (b : ℕ) (bs : List ℕ) (𝓜 : Memory b bs) where
  -- what the refusals read of a sound pool
  abbrev pub reads_at : 𝓜.Mem → Reads
  reads_at m = reads_of b bs (𝓜.state m).seat (free b bs (𝓜.state m))

  -- the pool was sound, and is; no row refuses; and what the seats are then
  pub record Turned (c : Call) (m m' : 𝓜.Mem) : Type 0 where
    pub before : 𝓜.Sound m
    pub after : 𝓜.Sound m'
    pub granted : refusal (reads_at m) c ≡ none
    pub seats : 𝓜.state m' ≡ record { seat = (served b bs c (𝓜.state m).seat (free b bs (𝓜.state m))).1; all = (𝓜.state m).all }

  pub not_refused : (c : Call) (m m' : 𝓜.Mem) → Turns b bs 𝓜 c m m' → refusal (𝓜.reads m) c ≡ none
  not_refused c m m' h = go (refusal (𝓜.reads m) c) h
    where
      go : (o : Option ℕ) → Keeps b bs 𝓜 (refuse_or b bs 𝓜 o (grants b bs 𝓜 c m)) c m done m' → o ≡ none
      go none h = refl
      go (some n) h = absurd (subst Accepted h.0 tt)

  pub turned : (c : Call) (m m' : 𝓜.Mem) → (asks c).kind ≡ whole_pool → Turns b bs 𝓜 c m m' → Turned c m m'
  unfolding step
  turned c m m' w h =
      record { before = s; after = t.1; granted = q.0; seats = ap (λ o. o.1) t.0 ∙ ap (λ o. record { seat = o.1; all = (𝓜.state m).all }) q.1 }
    where
      rows : (not (𝓜.reads m).fit ≡ false) × (not (𝓜.reads m).sound ≡ false)
      rows =
          let r = all_pass order (𝓜.reads m) c (not_refused c m m' h) in
          (r.0, subst (λ (k : Kind). on_kind (not ((𝓜.reads m).path c)) (not (𝓜.reads m).sound) false k ≡ false) w r.1.1.1.1.0)

      s : 𝓜.Sound m
      s = 𝓜.is_sound m (not-false (𝓜.reads m).fit rows.0) (not-false (𝓜.reads m).sound rows.1)

      t : (◌≡◌ {A = Answer × State b bs} (done, 𝓜.state m') (step b bs (𝓜.state m) c)) × 𝓜.Sound m'
      t = sim b bs 𝓜 c m done m' s h

      q : (refusal (reads_at m) c ≡ none) × (play b bs c (𝓜.state m).seat (free b bs (𝓜.state m)) ≡ served b bs c (𝓜.state m).seat (free b bs (𝓜.state m)))
      q = accepted b bs c (𝓜.state m).seat (free b bs (𝓜.state m)) (subst Accepted (ap (λ o. o.0) t.0) tt)

  -- on one seat
  module _ (i : ℕ) (x : Act) (m m' : 𝓜.Mem) (t : Turned (One i x) m m') where
    pub below : i < 8
    below = below_8 (reads_at m) (One i x) t.granted i (among_head i [])

    pub own_seat : (𝓜.state m').seat i ≡ (act b bs x ((𝓜.state m).seat i)).1
    unfolding served
    own_seat = ap (λ st. st.seat i) t.seats ∙ put_same (𝓜.state m).seat i (act b bs x ((𝓜.state m).seat i)).1

    pub other_seat : (a : ℕ) → (a ≡ i → ⊥) → (𝓜.state m').seat a ≡ (𝓜.state m).seat a
    unfolding served
    other_seat a d =
        ap (λ st. st.seat a) t.seats
        ∙ put_at (λ s. s ≡ (𝓜.state m).seat a) (𝓜.state m).seat i (act b bs x ((𝓜.state m).seat i)).1 a (λ e. absurd (d e)) (λ _. refl)

    -- a call that leaves its seat as it is leaves all as it is
    pub stays : (act b bs x ((𝓜.state m).seat i)).1 ≡ (𝓜.state m).seat i → 𝓜.state m' ≡ 𝓜.state m
    unfolding served
    stays e = t.seats ∙ ap (λ f. record { seat = f; all = (𝓜.state m).all }) (ap (put (𝓜.state m).seat i) e ∙ put_own (𝓜.state m).seat i)

    -- one that shows the same in its seat shows the same in every seat
    pub kept_lookup : (p : Point) → lookup (b ∷ bs) (act b bs x ((𝓜.state m).seat i)).1.grid p ≡ lookup (b ∷ bs) ((𝓜.state m).seat i).grid p
        → (a : ℕ) (r r' : Answer) → Answers b bs 𝓜 (One a (Lookup p)) m r → Answers b bs 𝓜 (One a (Lookup p)) m' r' → r' ≡ r
    kept_lookup p e a = same_lookup b bs 𝓜 a p m m' t.before t.after (λ _. go (ℕ_discrete a i))
      where
        go : Dec (a ≡ i) → lookup (b ∷ bs) ((𝓜.state m').seat a).grid p ≡ lookup (b ∷ bs) ((𝓜.state m).seat a).grid p
        go (yes g) =
            subst (λ (j : ℕ). lookup (b ∷ bs) ((𝓜.state m').seat j).grid p ≡ lookup (b ∷ bs) ((𝓜.state m).seat j).grid p) (sym g)
            (ap (λ s. lookup (b ∷ bs) s.grid p) own_seat ∙ e)
        go (no g) = ap (λ s. lookup (b ∷ bs) s.grid p) (other_seat a g)

    -- what it shows in its seat, from what was shown
    pub lookup_then : (p : Point) (g : Option ℕ → Option ℕ)
        → lookup (b ∷ bs) (act b bs x ((𝓜.state m).seat i)).1.grid p ≡ g (lookup (b ∷ bs) ((𝓜.state m).seat i).grid p)
        → (o : Option ℕ) → Answers b bs 𝓜 (One i (Lookup p)) m (found o) → (r : Answer) → Answers b bs 𝓜 (One i (Lookup p)) m' r → r ≡ found (g o)
    lookup_then p g e o h r h' =
        lookup_asked b bs 𝓜 m' t.after i below p r h'
        ∙ ap (λ s. found (lookup (b ∷ bs) s.grid p)) own_seat
        ∙ ap found (e ∙ ap g (shown b bs 𝓜 m t.before i below p o h))

    -- one that unmarks its seat leaves it without a sign
    pub unmarked_sign : (act b bs x ((𝓜.state m).seat i)).1.filled ≡ false → Unsigned b bs 𝓜 m' i
    unmarked_sign e = unsigned b bs 𝓜 m' t.after i below (ap (λ s. s.filled) own_seat ∙ e)

    -- the count of free cells changes by what the seat reaches
    pub count_then : (k k' : ℕ) → Counts b bs 𝓜 m k → Counts b bs 𝓜 m' k' → k' + reached b bs ((𝓜.state m').seat i) ≡ k + reached b bs ((𝓜.state m).seat i)
    unfolding served free used
    count_then k k' q q' =
        omega (
          arith,
          counted b bs 𝓜 m t.before k q,
          counted b bs 𝓜 m' t.after k' q',
          ap (λ st. used b bs st.seat) t.seats,
          ap (λ st. st.all) t.seats,
          ap (reached b bs) own_seat,
          sum_put (reached b bs) 8 (𝓜.state m).seat i (act b bs x ((𝓜.state m).seat i)).1 below,
          𝓜.within m t.before,
          𝓜.within m' t.after,
        )

  -- on two seats
  module _ (x : Pair) (i j : ℕ) (m m' : 𝓜.Mem) (t : Turned (Two x i j) m m') where
    o : Answer × Seat b bs × Seat b bs
    o = both b bs x ((𝓜.state m).seat i) ((𝓜.state m).seat j)

    pub both_below : (i < 8) × (j < 8)
    both_below = let g = below_8 (reads_at m) (Two x i j) t.granted in (g i (among_head i (j ∷ [])), g j (among_rest j (i ∷ j ∷ []) (among_head j [])))

    pub apart : j ≡ i → ⊥
    apart = different (reads_at m) x i j t.granted

    pub first_seat : (𝓜.state m').seat i ≡ (both b bs x ((𝓜.state m).seat i) ((𝓜.state m).seat j)).1
    unfolding served o
    first_seat =
        ap (λ st. st.seat i) t.seats
        ∙ put_at (λ s. s ≡ o.1) (put (𝓜.state m).seat i o.1) j o.2 i (λ e. absurd (apart (sym e))) (λ _. put_same (𝓜.state m).seat i o.1)

    pub second_seat : (𝓜.state m').seat j ≡ (both b bs x ((𝓜.state m).seat i) ((𝓜.state m).seat j)).2
    unfolding served o
    second_seat = ap (λ st. st.seat j) t.seats ∙ put_same (put (𝓜.state m).seat i o.1) j o.2

    pub third_seat : (a : ℕ) → (a ≡ i → ⊥) → (a ≡ j → ⊥) → (𝓜.state m').seat a ≡ (𝓜.state m).seat a
    unfolding served o
    third_seat a d d' =
        ap (λ st. st.seat a) t.seats
        ∙ put_at (λ s. s ≡ (𝓜.state m).seat a) (put (𝓜.state m).seat i o.1) j o.2 a (λ e. absurd (d' e))
        (λ _. put_at (λ s. s ≡ (𝓜.state m).seat a) (𝓜.state m).seat i o.1 a (λ e. absurd (d e)) (λ _. refl))

    -- the count of free cells changes by what the two seats reach
    pub counts_then : (k k' : ℕ) → Counts b bs 𝓜 m k → Counts b bs 𝓜 m' k'
        → k' + reached b bs ((𝓜.state m').seat i) + reached b bs ((𝓜.state m').seat j) ≡ k + reached b bs ((𝓜.state m).seat i) + reached b bs ((𝓜.state m).seat j)
    unfolding served free used o
    counts_then k k' q q' =
        omega (
          arith,
          counted b bs 𝓜 m t.before k q,
          counted b bs 𝓜 m' t.after k' q',
          ap (λ st. used b bs st.seat) t.seats,
          ap (λ st. st.all) t.seats,
          ap (reached b bs) first_seat,
          ap (reached b bs) second_seat,
          sum_put (reached b bs) 8 (put (𝓜.state m).seat i o.1) j o.2 both_below.1,
          sum_put (reached b bs) 8 (𝓜.state m).seat i o.1 both_below.0,
          put_at (λ s. reached b bs s ≡ reached b bs ((𝓜.state m).seat j)) (𝓜.state m).seat i o.1 j (λ e. absurd (apart e)) (λ _. refl),
          𝓜.within m t.before,
          𝓜.within m' t.after,
        )
