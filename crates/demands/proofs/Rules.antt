-- Demand 2, "prove it against 01's rules": on a sound pool the answer and the eight grids after a call are the meaning's; and the insert rule and the remove rule directly,
-- as the calls for C answer. Assumes nothing.
use mathlib.Core.Path.{◌≡◌, refl, sym, ◌∙◌, ap, subst}
use mathlib.Core.Bool.{Bool, true, false}
use mathlib.Core.List.{[], ◌∷◌}
use mathlib.Core.Logic.{◌⊎◌, inl, inr}
use Prim.Native.Nat.{ℕ, ◌<◌}
use native.Mathlib.Omega.{arith}
use lib.Dec.{T}
use Rattle.floats.specs.Value.{equal}
use Rattle.grid.specs.Combine.{Operation, combined_sign}
use Rattle.grid.specs.Geometry.{Point, Alike, total}
use Rattle.grid.specs.Voxel.{lookup, insert}
use Rattle.grid.specs.Whole.{has_hollow}
use Rattle.seats.specs.Call.{Act, Lookup, Sign, Remove, Insert, Combine, Call, One, Two, Prepare, names, Answer, found, negative_is, done}
use Rattle.seats.specs.Promise.{among, Promise}
use Rattle.seats.specs.Seat.{prepared}
use Rattle.seats.specs.Step.{act, step}
use Rattle.seats.proofs.Names.{among_head}
use Rattle.seats.proofs.Promise.{sim, begin}
use Rattle.seats.proofs.Refusal.{below_8}
use Rattle.seats.proofs.Rules as rule
use Rattle.seats.proofs.Turned.{not_refused}
use Rattle.means.specs.Ends.{shown}
use Rattle.means.specs.Mem.{Mem, SoundMem, seat_of, state_of, reads_in, cells_of, pool_of, walk, whole}
use Rattle.means.proofs.Lookup.{ends_shown}
use Rattle.means.proofs.Memory.{reads_is}
use Rattle.means.proofs.Test.{sound_is}
use Rattle.voxels.specs.Answers.{code_of}
use Rattle.voxels.specs.Lent.{lent}
use Rattle.pool.proofs.WholePairs as pairs
use Rattle.pool.proofs.WholePairs.{combine_accepted}
use Rattle.pool.proofs.WholeSeats.{zero_accepts, said_same, others_lookup}
use Rattle.calls.specs.Forms.{truth, answer_of, truth_answer_of, to_c, form_of, Answered, Out}
use Rattle.calls.specs.declared.GridAnswer.{GridAnswer}
use Rattle.calls.specs.declared.GridNumber.{GridNumber}
use Rattle.demands.specs.Shows.{shows, shows_nothing, Tile, sign_is}
use Rattle.demands.proofs.Read.{walk_ends}
use Rattle.demands.proofs.Under.{insert_under}

-- every call on a sound pool: its answer is the meaning's, in the form that C has; so are the eight seats after it; and the pool stays sound
pub meaning : (c : Call) (m m' : Mem) (r : Out c) → SoundMem m → Answered c m r m'
    → (r ≡ to_c (form_of c) (step 3 (2 ∷ 2 ∷ []) (state_of m) c).0) × (state_of m' ≡ (step 3 (2 ∷ 2 ∷ []) (state_of m) c).1) × SoundMem m'
meaning c m m' r s (a, e, h) =
    let q = sim 3 (2 ∷ 2 ∷ []) lent c m a m' s h in (e ∙ ap (to_c (form_of c)) (ap (λ o. o.0) q.0), ap (λ o. o.1) q.0, q.1)

-- preparing, on any memory, sound or not: "Preparing it frees every cell and empties every seat"
pub prepare_fresh : (m m' : Mem) → Answered Prepare m 0 m' → SoundMem m' × (state_of m' ≡ prepared 3 (2 ∷ 2 ∷ []) (cells_of m))
prepare_fresh m m' h = begin 3 (2 ∷ 2 ∷ []) lent m m' (zero_accepts Prepare m m' refl h)

-- ---- the accepted insert and remove, as C has them: the code is 0

module _ (m m' : Mem) (s : SoundMem m) (i : ℕ) where
  pool_sound : (reads_in m).sound ≡ true
  pool_sound = sound_is (cells_of m) (pool_of m) s.1.room s.1

  pub insert_done : (p : Point) (w : ℕ) → Answered (One i (Insert p w)) m 0 m' → Promise 3 (2 ∷ 2 ∷ []) lent (One i (Insert p w)) m done m'
  insert_done p w h = zero_accepts (One i (Insert p w)) m m' (rw pool_sound refl) h

  remove_done : (p : Point) → Answered (One i (Remove p)) m 0 m' → Promise 3 (2 ∷ 2 ∷ []) lent (One i (Remove p)) m done m'
  remove_done p h = zero_accepts (One i (Remove p)) m m' (rw pool_sound refl) h

  -- the seat is one of the eight
  seat_there : (x : Act) → Promise 3 (2 ∷ 2 ∷ []) lent (One i x) m done m' → i < 8
  seat_there x h = below_8 (reads_in m) (One i x) (not_refused 3 (2 ∷ 2 ∷ []) lent (One i x) m m' h) i (among_head i [])

  -- "Afterwards the lookup at p is the given value (under an equal tile, the tile's own zero stays)"
  pub insert_lookup : (p : Point) (w : ℕ) → Answered (One i (Insert p w)) m 0 m' → (r r' : GridAnswer) (n n' : Mem)
      → Answered (One i (Lookup p)) m r n → Answered (One i (Lookup p)) m' r' n'
      → (r' ≡ shows w) ⊎ ((u : ℕ) × Tile m i p u × T (equal u w) × (r ≡ shows u) × (r' ≡ shows u))
  unfolding act
  insert_lookup p w h r r' n n' (a, e, k) (a', e', k') = elim (insert_under p w 3 (2 ∷ 2 ∷ []) (seat_of m i).grid) [
    | inl q ↦ inl (e' ∙ ap answer_of (after ∙ ap found q))
    | inr (u, l, z, t, q, q') ↦ inr (
      u,
      record { level = l; above = z; ends = walk_ends m i b p path ∙ q },
      t,
      e ∙ ap answer_of (before ∙ ap found (sym (ends_shown (3 ∷ 2 ∷ 2 ∷ []) (seat_of m i).grid p) ∙ ap shown q)),
      e' ∙ ap answer_of (after ∙ ap found q'),
    )
  ]
    where
      d : Promise 3 (2 ∷ 2 ∷ []) lent (One i (Insert p w)) m done m'
      d = insert_done p w h

      b : i < 8
      b = seat_there (Insert p w) d

      path : whole (walk m i p) ≡ true
      path = (reads_is m s (One i (Lookup p)) (below_8 (reads_in m) (One i (Insert p w)) (not_refused 3 (2 ∷ 2 ∷ []) lent (One i (Insert p w)) m m' d))).path

      before : a ≡ found (lookup (3 ∷ 2 ∷ 2 ∷ []) (seat_of m i).grid p)
      before = rule.lookup_answer 3 (2 ∷ 2 ∷ []) lent i b m m' s p a n k

      after : a' ≡ found (lookup (3 ∷ 2 ∷ 2 ∷ []) (insert (3 ∷ 2 ∷ 2 ∷ []) p w (seat_of m i).grid) p)
      after = rule.lookup_after 3 (2 ∷ 2 ∷ []) lent i b m m' s (Insert p w) done d tt p a' n' k'

  -- "and every q with other masked coordinates looks up as before"
  pub insert_elsewhere : (p : Point) (w : ℕ) → Answered (One i (Insert p w)) m 0 m' → (q : Point) → (Alike 7 q p → ⊥) → (r r' : GridAnswer) (n n' : Mem)
      → Answered (One i (Lookup q)) m r n → Answered (One i (Lookup q)) m' r' n' → r' ≡ r
  unfolding total
  insert_elsewhere p w h q ne r r' n n' =
      let d = insert_done p w h in
      said_same answer_of (One i (Lookup q)) (One i (Lookup q)) m m' n n' r r'
      (λ a a' k k'. rule.insert_there 3 (2 ∷ 2 ∷ []) lent i (seat_there (Insert p w) d) m m' s p w d q ne a a' k.0 k'.0 k.1 k'.1)

  -- the voxel removed shows nothing, and every other as before
  pub remove_lookup : (p : Point) → Answered (One i (Remove p)) m 0 m' → (r' : GridAnswer) (n' : Mem) → Answered (One i (Lookup p)) m' r' n' → r' ≡ shows_nothing
  remove_lookup p h r' n' (a', e', k') =
      let d = remove_done p h in
      e' ∙ ap answer_of (rule.remove_here 3 (2 ∷ 2 ∷ []) lent i (seat_there (Remove p) d) m m' s p d a' n' k')

  pub remove_elsewhere : (p : Point) → Answered (One i (Remove p)) m 0 m' → (q : Point) → (Alike 7 q p → ⊥) → (r r' : GridAnswer) (n n' : Mem)
      → Answered (One i (Lookup q)) m r n → Answered (One i (Lookup q)) m' r' n' → r' ≡ r
  unfolding total
  remove_elsewhere p h q ne r r' n n' =
      let d = remove_done p h in
      said_same answer_of (One i (Lookup q)) (One i (Lookup q)) m m' n n' r r'
      (λ a a' k k'. rule.remove_there 3 (2 ∷ 2 ∷ []) lent i (seat_there (Remove p) d) m m' s p d q ne a a' k.0 k'.0 k.1 k'.1)

-- no call shows in a seat that it does not name
pub others_elsewhere : (c : Call) (m m' : Mem) (r₀ : Out c) → SoundMem m → Answered c m r₀ m' → (a : ℕ) → among a (names c) ≡ false
    → (q : Point) (r r' : GridAnswer) (n n' : Mem) → Answered (One a (Lookup q)) m r n → Answered (One a (Lookup q)) m' r' n' → r' ≡ r
others_elsewhere c m m' r₀ s (b, _, h) a ne q r r' n n' =
    said_same answer_of (One a (Lookup q)) (One a (Lookup q)) m m' n n' r r' (others_lookup c m m' b s h a ne q)

-- ---- the combinations: "For two different filled grids without empty branches"

-- they are combined
pub combine_done : (o : Operation) (i j : ℕ) → i < 8 → j < 8 → (j ≡ i → ⊥) → (m m' : Mem) → SoundMem m → (seat_of m i).filled ≡ true → (seat_of m j).filled ≡ true
    → has_hollow 3 (2 ∷ 2 ∷ []) (seat_of m i).grid ≡ false → has_hollow 3 (2 ∷ 2 ∷ []) (seat_of m j).grid ≡ false → (r : ℕ) → Answered (Two (Combine o) i j) m r m' → r ≡ 0
combine_done o i j l l' d m m' s f f' g g' r (a, e, h) = e ∙ ap code_of accepted
  where
    accepted : a ≡ done
    accepted = combine_accepted o i j l l' d m s a (m', h) ∙ rw (f, f', g, g') refl

truth_one : (x y : Bool) → truth x ≡ truth y → x ≡ y
truth_one true true e = refl
truth_one true false e = absurd (omega (arith, e))
truth_one false true e = absurd (omega (arith, e))
truth_one false false e = refl

-- "the combined sign at every voxel is negative exactly if: either was (union); both were (intersection); the first was and the second was not (subtraction)"
pub combine_sign : (o : Operation) (i j : ℕ) (m m' : Mem) → Answered (Two (Combine o) i j) m 0 m' → (p : Point) (x y : Bool) (n n' n'' : Mem) (r : GridNumber)
    → Answered (One i (Sign p)) m (sign_is x) n → Answered (One j (Sign p)) m (sign_is y) n' → Answered (One i (Sign p)) m' r n'' → r ≡ sign_is (combined_sign o x y)
combine_sign o i j m m' h p x y n n' n'' r (a, e, k) (b, d, q) (c, g, u) =
    g ∙ ap truth_answer_of ((pairs.combine_sign o i j m m' t p x y (n, subst (λ z. Promise 3 (2 ∷ 2 ∷ []) lent (One i (Sign p)) m z n) first k)
    (n', subst (λ z. Promise 3 (2 ∷ 2 ∷ []) lent (One j (Sign p)) m z n') second q)).1 c (n'', u))
  where
    t : Promise 3 (2 ∷ 2 ∷ []) lent (Two (Combine o) i j) m done m'
    t = zero_accepts (Two (Combine o) i j) m m' refl h

    -- a sign that was answered as x is x
    told : (x y : Bool) (a : Answer) → sign_is x ≡ truth_answer_of a → a ≡ negative_is y → a ≡ negative_is x
    told x y a e d = d ∙ ap negative_is (truth_one y x (sym (ap (λ (z : GridNumber). z.number) (e ∙ ap truth_answer_of d))))

    first : a ≡ negative_is x
    first = told x _ a e ((pairs.combine_signs_asked o i j m m' t p).0.1 a (n, k))

    second : b ≡ negative_is y
    second = told y _ b d ((pairs.combine_signs_asked o i j m m' t p).1.1 b (n', q))
