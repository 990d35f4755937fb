-- The calls on two seats, as later calls see them: copy, and the combinations. That a call was accepted is the only premise: the pool is then sound and the two seats
-- are there and differ. `copy_needs`, `combine_accepted` and `combine_never_9` say when it is accepted, and have their own. Assumes nothing.
use mathlib.Core.Path.{◌≡◌, refl, sym, ◌∙◌, ap, ap₂, subst}
use mathlib.Core.Bool.{Bool, true, false, not, ◌||◌, cond}
use mathlib.Core.List.{List, [], ◌∷◌}
use mathlib.Core.Option.{Option, none, some}
use Prim.Native.Nat.{ℕ, ◌+◌, ◌<◌, ◌≤◌}
use native.Mathlib.Decide.{ℕ_discrete}
use native.Mathlib.Omega.{arith}
use lib.Dec.{leb}
use borrow.Author.Tests.{lt-leb, ne_eqb, not-false}
use Rattle.grid.specs.Combine.{Operation, combined_sign, combine_s}
use Rattle.grid.specs.End.{end, shown, combined_end}
use Rattle.grid.specs.Geometry.{Point}
use Rattle.grid.specs.SignFill.{fill_signs}
use Rattle.grid.specs.Voxel.{lookup, sign_at}
use Rattle.grid.specs.Whole.{is_empty, has_hollow}
use Rattle.grid.proofs.Cells.{empty_reach}
use Rattle.grid.proofs.CombinedEnd as ends
use Rattle.grid.proofs.CombinedSign as sign
use Rattle.grid.proofs.Reach.{combine_reach}
use Rattle.seats.specs.Call.{Lookup, Sign, FillSigns, Pair, Copy, Combine, One, Two, Answer, refused, found, negative_is, done}
use Rattle.seats.specs.Promise.{among, Accepted, Memory, refuse_or, turn, Keeps, Turns, Answers, OnlyAnswer, Unsigned, Cleared, Counts, LooksAlike}
use Rattle.seats.specs.Refusal.{order, refusal}
use Rattle.seats.specs.Seat.{unmarked, marked, fresh, reached, free}
use Rattle.seats.specs.Step.{act, both, need_two, served, unless, play, step}
use Rattle.seats.proofs.Asked.{number_in, asked, lookup_asked, sign_asked, signed, sign_is_lem, unsigned, fresh_cleared, counted, same_lookup}
use Rattle.seats.proofs.Laws.{fresh_none}
use Rattle.seats.proofs.Names.{among_head, among_rest, any_none}
use Rattle.seats.proofs.Refusal.{all_pass, first_is}
use Rattle.seats.proofs.SeatRules.{fill_signs_sign}
use Rattle.seats.proofs.Turned.{reads_at, Turned, turned, own_seat, other_seat, both_below, apart, first_seat, second_seat, third_seat, counts_then}

module _ (b : ℕ) (bs : List ℕ) (𝓜 : Memory b bs) where
  -- ---- copy

  module _ (i j : ℕ) (m m' : 𝓜.Mem) (h : Turns b bs 𝓜 (Two Copy i j) m m') where
    c : Turned b bs 𝓜 (Two Copy i j) m m'
    c = turned b bs 𝓜 (Two Copy i j) m m' refl h

    l : (i < 8) × (j < 8)
    l = both_below b bs 𝓜 Copy i j m m' c

    target : (𝓜.state m').seat j ≡ unmarked b bs ((𝓜.state m).seat i).grid
    unfolding both
    target = second_seat b bs 𝓜 Copy i j m m' c

    -- the target's grid is the source's, slot by slot, "hidden values too", so every lookup and every sign of it is; and it is not marked
    pub copy_target : (((𝓜.state m').seat j).grid ≡ ((𝓜.state m).seat i).grid) × (((𝓜.state m').seat j).filled ≡ false)
    copy_target = (ap (λ s. s.grid) target, ap (λ s. s.filled) target)

    pub copy_unfilled : Unsigned b bs 𝓜 m' j
    copy_unfilled = unsigned b bs 𝓜 m' c.after j l.1 copy_target.1

    -- the other seats, the source among them, are as before
    pub copy_others : (a : ℕ) → (a ≡ j → ⊥) → (𝓜.state m').seat a ≡ (𝓜.state m).seat a
    unfolding both
    copy_others a d = go (ℕ_discrete a i)
      where
        go : Dec (a ≡ i) → (𝓜.state m').seat a ≡ (𝓜.state m).seat a
        go (yes e) = subst (λ (n : ℕ). (𝓜.state m').seat n ≡ (𝓜.state m).seat n) (sym e) (first_seat b bs 𝓜 Copy i j m m' c)
        go (no e) = third_seat b bs 𝓜 Copy i j m m' c a e d

    -- a lookup in the target is answered as it was in the source
    pub copy_lookup : LooksAlike b bs 𝓜 m i m' j
    copy_lookup p r r' k k' =
        lookup_asked b bs 𝓜 m' c.after j l.1 p r' k'
        ∙ ap (λ n. found (lookup (b ∷ bs) n p)) copy_target.0
        ∙ sym (lookup_asked b bs 𝓜 m c.before i l.0 p r k)

    -- and in every other seat as before
    pub copy_others_lookup : (a : ℕ) → (a ≡ j → ⊥) → LooksAlike b bs 𝓜 m a m' a
    copy_others_lookup a d p = same_lookup b bs 𝓜 a p m m' c.before c.after (λ _. ap (λ s. lookup (b ∷ bs) s.grid p) (copy_others a d))

    -- once both are filled, they have the same sign at every voxel
    pub copy_sign : (m₂ m₃ : 𝓜.Mem) → Turns b bs 𝓜 (One i FillSigns) m' m₂ → Turns b bs 𝓜 (One j FillSigns) m₂ m₃
        → (p : Point) (r r' : Answer) → Answers b bs 𝓜 (One i (Sign p)) m₃ r → Answers b bs 𝓜 (One j (Sign p)) m₃ r' → r' ≡ r
    unfolding act
    copy_sign m₂ m₃ h₂ h₃ p r r' k k' =
        (fill_signs_sign b bs 𝓜 j m₂ m₃ h₃).1 p r' k'
        ∙ ap (λ n. negative_is (sign_at (b ∷ bs) (fill_signs (b ∷ bs) n) p)) alike
        ∙ sym (ap (λ s. cond s.filled (negative_is (sign_at (b ∷ bs) s.grid p)) (refused 6)) source)
        ∙ sym (sign_asked b bs 𝓜 m₃ t₃.after i l.0 p r k)
      where
        d : j ≡ i → ⊥
        d = apart b bs 𝓜 Copy i j m m' c

        t₂ : Turned b bs 𝓜 (One i FillSigns) m' m₂
        t₂ = turned b bs 𝓜 (One i FillSigns) m' m₂ refl h₂

        t₃ : Turned b bs 𝓜 (One j FillSigns) m₂ m₃
        t₃ = turned b bs 𝓜 (One j FillSigns) m₂ m₃ refl h₃

        alike : ((𝓜.state m₂).seat j).grid ≡ ((𝓜.state m').seat i).grid
        alike = ap (λ s. s.grid) (other_seat b bs 𝓜 i FillSigns m' m₂ t₂ j d) ∙ copy_target.0 ∙ sym (ap (λ s. s.grid) (copy_others i (λ e. d (sym e))))

        source : (𝓜.state m₃).seat i ≡ marked b bs (fill_signs (b ∷ bs) ((𝓜.state m').seat i).grid)
        source = other_seat b bs 𝓜 j FillSigns m₂ m₃ t₃ i (λ e. d (sym e)) ∙ own_seat b bs 𝓜 i FillSigns m' m₂ t₂

    -- "needs as many cells as the first seat reaches"
    pub copy_free : (k k' : ℕ) → Counts b bs 𝓜 m k → Counts b bs 𝓜 m' k' → k' + reached b bs ((𝓜.state m).seat i) ≡ k
    unfolding reached
    copy_free k k' q q' =
        omega (
          arith,
          counts_then b bs 𝓜 Copy i j m m' c k k' q q',
          ap (reached b bs) (copy_others i (λ e. apart b bs 𝓜 Copy i j m m' c (sym e))),
          ap (reached b bs) target,
          empty_reach b bs ((𝓜.state m).seat j).grid (not-false _ (all_pass order (reads_at b bs 𝓜 m) (Two Copy i j) c.granted).1.1.1.1.1.1.1.0),
        )

  -- on a sound pool, seats that differ, an empty target: 9 exactly if fewer cells are free than the first seat reaches
  pub copy_needs : (i j : ℕ) → i < 8 → j < 8 → (j ≡ i → ⊥) → (m : 𝓜.Mem) → 𝓜.Sound m → is_empty b bs ((𝓜.state m).seat j).grid ≡ true
      → (k : ℕ) → Counts b bs 𝓜 m k → (r : Answer) → Answers b bs 𝓜 (Two Copy i j) m r → r ≡ cond (leb (reached b bs ((𝓜.state m).seat i)) k) done (refused 9)
  unfolding step play served both need_two
  copy_needs i j l l' d m s e k q r h =
      asked b bs 𝓜 m s (Two Copy i j) r h
      ∙ rw (lt-leb 8 i l, lt-leb 8 j l', ne_eqb i j (λ g. d (sym g)), e) (go (leb (reached b bs ((𝓜.state m).seat i)) (free b bs (𝓜.state m))))
      ∙ ap (λ (n : ℕ). cond (leb (reached b bs ((𝓜.state m).seat i)) n) done (refused 9)) (sym (counted b bs 𝓜 m s k q))
    where
      go : (x : Bool) → (unless b bs (cond (not x) (some 9) none) (𝓜.state m).seat (served b bs (Two Copy i j) (𝓜.state m).seat (free b bs (𝓜.state m)))).0 ≡ cond x done (refused 9)
      go true = refl
      go false = refl

  -- ---- combine

  -- the row that refuses a call on two seats, on any memory
  pair_refused : (x : Pair) (i j : ℕ) (m : 𝓜.Mem) (n : ℕ) → Answers b bs 𝓜 (Two x i j) m (refused n) → refusal (𝓜.reads m) (Two x i j) ≡ some n
  pair_refused x i j m n (m', h) = go (refusal (𝓜.reads m) (Two x i j)) h
    where
      go : (o : Option ℕ) → Keeps b bs 𝓜 (refuse_or b bs 𝓜 o (turn done)) (Two x i j) m (refused n) m' → o ≡ some n
      go none e = absurd (subst Accepted (sym e.0) tt)
      go (some k) e = ap some (sym (ap number_in e.0))

  module _ (o : Operation) where
    -- on a sound pool, seats that differ: 6 if one of them is not filled, else 7 if one has an empty branch, else it is accepted
    pub combine_accepted : (i j : ℕ) → i < 8 → j < 8 → (j ≡ i → ⊥) → (m : 𝓜.Mem) → 𝓜.Sound m → (r : Answer) → Answers b bs 𝓜 (Two (Combine o) i j) m r
        → let s = (𝓜.state m).seat i in let t = (𝓜.state m).seat j in
        r ≡ cond (not s.filled || not t.filled) (refused 6) (cond (has_hollow b bs s.grid || has_hollow b bs t.grid) (refused 7) done)
    unfolding step play served both
    combine_accepted i j l l' d m s r h =
        asked b bs 𝓜 m s (Two (Combine o) i j) r h
        ∙ rw (lt-leb 8 i l, lt-leb 8 j l', ne_eqb i j (λ g. d (sym g)))
        (go (not ((𝓜.state m).seat i).filled || not ((𝓜.state m).seat j).filled) (has_hollow b bs ((𝓜.state m).seat i).grid || has_hollow b bs ((𝓜.state m).seat j).grid))
      where
        go : (x y : Bool)
            → (unless b bs (cond x (some 6) (cond y (some 7) none)) (𝓜.state m).seat
            (served b bs (Two (Combine o) i j) (𝓜.state m).seat (free b bs (𝓜.state m)))).0 ≡ cond x (refused 6) (cond y (refused 7) done)
        go true y = refl
        go false true = refl
        go false false = refl

    -- on any memory and for any two numbers: it is refused with 1, 2, 3, 5, 6 or 7 alone, never with 9
    pub combine_never_9 : (i j : ℕ) (m : 𝓜.Mem) (n : ℕ) → Answers b bs 𝓜 (Two (Combine o) i j) m (refused n) → among n (1 ∷ 2 ∷ 3 ∷ 5 ∷ 6 ∷ 7 ∷ []) ≡ true
    combine_never_9 i j m n k =
        first_is (λ n. among n (1 ∷ 2 ∷ 3 ∷ 5 ∷ 6 ∷ 7 ∷ []) ≡ true) order (𝓜.reads m) (Two (Combine o) i j) n
        ((λ _. refl), ((λ _. refl), ((λ _. refl), ((λ e. e), ((λ _. refl), ((λ _. refl), ((λ _. refl), ((λ e. e), ((λ e. e), tt)))))))))
        (pair_refused (Combine o) i j m n k)

  module _ (o : Operation) (i j : ℕ) (m m' : 𝓜.Mem) (h : Turns b bs 𝓜 (Two (Combine o) i j) m m') where
    t : Turned b bs 𝓜 (Two (Combine o) i j) m m'
    t = turned b bs 𝓜 (Two (Combine o) i j) m m' refl h

    in_range : (i < 8) × (j < 8)
    in_range = both_below b bs 𝓜 (Combine o) i j m m' t

    -- "Seat a stays filled; b ends as after Clear": the first seat, slot by slot, and the second
    pub combine_seats : ((𝓜.state m').seat i ≡ marked b bs (λ n. combine_s o bs (((𝓜.state m).seat i).grid n) (((𝓜.state m).seat j).grid n))) × ((𝓜.state m').seat j ≡ fresh b bs)
    unfolding both
    combine_seats = (first_seat b bs 𝓜 (Combine o) i j m m' t, second_seat b bs 𝓜 (Combine o) i j m m' t)

    -- every other seat is as before
    pub combine_others : (a : ℕ) → (a ≡ i → ⊥) → (a ≡ j → ⊥) → (𝓜.state m').seat a ≡ (𝓜.state m).seat a
    combine_others = third_seat b bs 𝓜 (Combine o) i j m m' t

    -- and so are the lookups in it
    pub combine_others_lookup : (a : ℕ) → (a ≡ i → ⊥) → (a ≡ j → ⊥) → LooksAlike b bs 𝓜 m a m' a
    combine_others_lookup a d d' p =
        same_lookup b bs 𝓜 a p m m' t.before t.after (λ _. ap (λ s. lookup (b ∷ bs) s.grid p) (combine_others a d d'))

    -- ---- signs

    were_filled : (a : ℕ) → among a (i ∷ j ∷ []) ≡ true → ((𝓜.state m).seat a).filled ≡ true
    were_filled a g =
        not-false _
        (any_none (λ n. not ((𝓜.state m).seat n).filled) (i ∷ j ∷ [])
        (all_pass order (reads_at b bs 𝓜 m) (Two (Combine o) i j) t.granted).1.1.1.1.1.0 a g)

    filled_i : ((𝓜.state m).seat i).filled ≡ true
    filled_i = were_filled i (among_head i (j ∷ []))

    filled_j : ((𝓜.state m).seat j).filled ≡ true
    filled_j = were_filled j (among_rest j (i ∷ j ∷ []) (among_head j []))

    -- both seats had a sign at every voxel: asking for it was not refused
    pub combine_signs_asked : (p : Point)
        → OnlyAnswer b bs 𝓜 (One i (Sign p)) m (negative_is (sign_at (b ∷ bs) ((𝓜.state m).seat i).grid p))
        × OnlyAnswer b bs 𝓜 (One j (Sign p)) m (negative_is (sign_at (b ∷ bs) ((𝓜.state m).seat j).grid p))
    combine_signs_asked p = (
      signed b bs 𝓜 m t.before i in_range.0 filled_i p,
      signed b bs 𝓜 m t.before j in_range.1 filled_j p,
    )

    -- demand 2: "the combined sign at every voxel is negative exactly if: either was (union); both were (intersection); the first was and the second was not
    -- (subtraction)"; and asking for it is not refused
    pub combine_sign : (p : Point) (x y : Bool) → Answers b bs 𝓜 (One i (Sign p)) m (negative_is x) → Answers b bs 𝓜 (One j (Sign p)) m (negative_is y)
        → OnlyAnswer b bs 𝓜 (One i (Sign p)) m' (negative_is (combined_sign o x y))
    combine_sign p x y hx hy =
        subst (λ (k : Bool). OnlyAnswer b bs 𝓜 (One i (Sign p)) m' (negative_is k))
        (ap (λ s. sign_at (b ∷ bs) s.grid p) combine_seats.0
        ∙ sign.combine_sign p o b bs ((𝓜.state m).seat i).grid ((𝓜.state m).seat j).grid
        ∙ sym (ap₂ (combined_sign o)
        (sign_is_lem b bs 𝓜 m t.before i in_range.0 filled_i p x hx)
        (sign_is_lem b bs 𝓜 m t.before j in_range.1 filled_j p y hy)))
        (signed b bs 𝓜 m' t.after i in_range.0 (ap (λ s. s.filled) combine_seats.0) p)

    -- ---- lookups

    -- what is shown at every point, from where the walks to it ended in the two seats
    pub combine_lookup : (p : Point) (r : Answer) → Answers b bs 𝓜 (One i (Lookup p)) m' r
        → r ≡ found (shown (combined_end o (end (b ∷ bs) ((𝓜.state m).seat i).grid p) (end (b ∷ bs) ((𝓜.state m).seat j).grid p)))
    combine_lookup p r k =
        lookup_asked b bs 𝓜 m' t.after i in_range.0 p r k
        ∙ ap (λ s. found (lookup (b ∷ bs) s.grid p)) combine_seats.0
        ∙ ap found (ends.combine_lookup p o b bs ((𝓜.state m).seat i).grid ((𝓜.state m).seat j).grid)

    -- the second seat: no lookup shows anything, it is empty, and it has no sign
    pub combine_clear : Cleared b bs 𝓜 m' j
    combine_clear = fresh_cleared b bs 𝓜 m' t.after j in_range.1 combine_seats.1

    -- so the same again is refused with 6
    pub combine_again : (o' : Operation) (r : Answer) → Answers b bs 𝓜 (Two (Combine o') i j) m' r → r ≡ refused 6
    unfolding fresh
    combine_again o' r k =
        combine_accepted o' i j in_range.0 in_range.1 (apart b bs 𝓜 (Combine o) i j m m' t) m' t.after r k
        ∙ rw (ap (λ s. s.filled) combine_seats.0, ap (λ s. s.filled) combine_seats.1) refl

    -- ---- cells

    -- "its unused cells free": what the two seats reached, and the first does not reach now
    pub combine_free : (k k' : ℕ) → Counts b bs 𝓜 m k → Counts b bs 𝓜 m' k'
        → k' + reached b bs ((𝓜.state m').seat i) ≡ k + reached b bs ((𝓜.state m).seat i) + reached b bs ((𝓜.state m).seat j)
    combine_free k k' q q' = omega (arith, counts_then b bs 𝓜 (Combine o) i j m m' t k k' q q', ap (reached b bs) combine_seats.1, fresh_none b bs)

    -- "No cell is needed"
    pub combine_no_cell : (k k' : ℕ) → Counts b bs 𝓜 m k → Counts b bs 𝓜 m' k' → k ≤ k'
    unfolding reached
    combine_no_cell k k' q q' =
        omega (
          arith,
          combine_free k k' q q',
          ap (reached b bs) combine_seats.0,
          combine_reach b bs o ((𝓜.state m).seat i).grid ((𝓜.state m).seat j).grid,
        )
