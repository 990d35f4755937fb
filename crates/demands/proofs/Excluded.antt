-- The wrong versions that document 01 lists, 'What the promises have to exclude': what each answers contradicts the promises of the calls for C. Their premises are met: a pool
-- whose lengths fit is prepared, shows nothing, and with two cells takes an insert. Assumes nothing.
use mathlib.Core.Path.{◌≡◌, refl, sym, ◌∙◌, ap}
use mathlib.Core.Bool.{true, false, false≢true}
use mathlib.Core.List.{List, [], ◌∷◌}
use mathlib.Core.Logic.{inl, inr}
use Prim.Native.Nat.{ℕ, suc, ◌+◌, ◌-◌, ◌<◌, ◌≤◌}
use native.Mathlib.Omega.{arith}
use lib.Dec.{leb}
use lib.Ieee.{eq}
use lib.Ieee.Bits.{is_true}
use borrow.Author.Tests.{lt-leb, le-leb}
use Rattle.floats.specs.Value.{value, is_finite, equal}
use Rattle.floats.proofs.Least.{equal_self}
use Rattle.grid.specs.Geometry.{Point}
use Rattle.grid.specs.Voxel.{need_insert_s}
use Rattle.grid.specs.Whole.{clear}
use Rattle.seats.specs.Call.{Lookup, Insert, One, Prepare, Count, done}
use Rattle.seats.specs.Seat.{fresh, prepared, used, free}
use Rattle.seats.specs.Step.{act, need_one, served, play, step}
use Rattle.seats.proofs.Asked.{fresh_cleared}
use Rattle.seats.proofs.Laws.{fresh_used}
use Rattle.seats.proofs.Turned.{not_refused}
use Rattle.means.specs.Mem.{Mem, SoundMem, cells_of, seat_of, state_of}
use Rattle.voxels.specs.Answers.{code_of}
use Rattle.voxels.specs.Lent.{lent}
use Rattle.pool.proofs.Guards.{served_given}
use Rattle.calls.specs.Forms.{answer_of, number, Answered}
use Rattle.calls.specs.declared.GridAnswer.{GridAnswer}
use Rattle.demands.specs.Rows.{Together, Row, lengths, pool, few, path, free as bad_free}
use Rattle.demands.specs.Sequence.{Made, Sequence, left, FromPrepared}
use Rattle.demands.specs.Shows.{shows, shows_nothing}
use Rattle.demands.proofs.Agree.{counted_cells}
use Rattle.demands.proofs.Refusals.{serves}
use Rattle.demands.proofs.Rules.{meaning, prepare_fresh, insert_done, insert_lookup}

-- ---- a prepared pool

-- where the lengths fit, no row refuses to prepare
prepare_rows : (n : ℕ) (m : Mem) → Together n m → (k : ℕ) → Row k Prepare m → ⊥
prepare_rows n m t _ (lengths h) = h n t
prepare_rows n m t _ (pool v q u) = q refl
prepare_rows n m t _ (few l) = omega (arith, l)
prepare_rows n m t _ (path v _) = elim v [ ]
prepare_rows n m t _ (bad_free v _) = elim v [ ]

pub prepares : (n : ℕ) (m m' : Mem) (r : ℕ) → Together n m → Answered Prepare m r m' → r ≡ 0
prepares n m m' r t h = elim (serves Prepare m m' r h (prepare_rows n m t)) [
  | inl e ↦ e
  | inr (e, _) ↦ absurd (let z : ◌≡◌ {A = ℕ} 0 1 = cc in omega arith)
]

module _ (m m₀ : Mem) (h : Answered Prepare m 0 m₀) where
  made : SoundMem m₀ × (state_of m₀ ≡ prepared 3 (2 ∷ 2 ∷ []) (cells_of m))
  made = prepare_fresh m m₀ h

  -- the free cells are all cells
  pub prepared_count : (k : ℕ) (n : Mem) → Answered Count m₀ (number k) n → k ≡ cells_of m
  unfolding prepared
  prepared_count k n c = omega (arith, counted_cells m₀ n (number k) c refl, ap (λ s. used 3 (2 ∷ 2 ∷ []) s.seat) made.1, fresh_used 3 (2 ∷ 2 ∷ []), ap (λ s. s.all) made.1)

  module _ (i : ℕ) (l : i < 8) (p : Point) where
    pub prepared_nothing : (r : GridAnswer) (n : Mem) → Answered (One i (Lookup p)) m₀ r n → r ≡ shows_nothing
    unfolding prepared
    prepared_nothing r n (a, e, k) = e ∙ ap answer_of ((fresh_cleared 3 (2 ∷ 2 ∷ []) lent m₀ made.0 i l (ap (λ s. s.seat i) made.1)).0 p a (n, k))

    first_insert : (n w : ℕ) → 2 ≤ n → is_finite w ≡ true → (step 3 (2 ∷ 2 ∷ []) (prepared 3 (2 ∷ 2 ∷ []) n) (One i (Insert p w))).0 ≡ done
    unfolding step play served act prepared fresh clear free need_one need_insert_s
    first_insert n w b f = rw (lt-leb 8 i l, f, enough) refl
      where
        enough : leb 2 (n - used 3 (2 ∷ 2 ∷ []) (λ i. fresh 3 (2 ∷ 2 ∷ []))) ≡ true
        enough = le-leb 2 (n - used 3 (2 ∷ 2 ∷ []) (λ i. fresh 3 (2 ∷ 2 ∷ []))) (omega (arith, fresh_used 3 (2 ∷ 2 ∷ [])))

    pub prepared_insert : 2 ≤ cells_of m → (w : ℕ) → is_finite w ≡ true → (r : ℕ) (m' : Mem) → Answered (One i (Insert p w)) m₀ r m' → r ≡ 0
    prepared_insert b w f r m' k =
        (meaning (One i (Insert p w)) m₀ m' r made.0 k).0 ∙ ap code_of (ap (λ s. (step 3 (2 ∷ 2 ∷ []) s (One i (Insert p w))).0) made.1 ∙ first_insert (cells_of m) w b f)

-- ---- "A version that refuses everything falls to 'exactly when'"; one that does so once the pool is prepared, to `prepared_insert`
pub refuses_everything : (n k : ℕ) (m m' : Mem) → Together n m → Answered Prepare m (suc k) m' → ⊥
refuses_everything n k m m' t h = omega (arith, prepares n m m' (suc k) t h)

-- ---- "A constant lookup, or an insert that does nothing, falls to the insert rule"

not_nothing : (u : ℕ) → shows_nothing ≡ shows u → ⊥
not_nothing u e = omega (arith, ap (λ (r : GridAnswer). r.code) e)

module _ (i : ℕ) (p : Point) where
  module _ (m m' : Mem) (s : SoundMem m) (w : ℕ) (h : Answered (One i (Insert p w)) m 0 m') where
    equal_given : equal w w ≡ true
    equal_given = equal_self w (served_given m (One i (Insert p w)) (not_refused 3 (2 ∷ 2 ∷ []) lent (One i (Insert p w)) m m' (insert_done m m' s i p w h)))

    -- where nothing was shown, the value given is
    shown : (r : GridAnswer) (n n' : Mem) → Answered (One i (Lookup p)) m shows_nothing n → Answered (One i (Lookup p)) m' r n' → r ≡ shows w
    shown r n n' k k' = elim (insert_lookup m m' s i p w h shows_nothing r n n' k k') [
      | inl e ↦ e
      | inr (u, _, _, e, _) ↦ absurd (not_nothing u e)
    ]

    -- the lookup answers after it as before, and did not show an equal value
    pub unchanged : (r : GridAnswer) (n n' : Mem) → Answered (One i (Lookup p)) m r n → Answered (One i (Lookup p)) m' r n' → ((u : ℕ) → equal u w ≡ true → r ≡ shows u → ⊥) → ⊥
    unchanged r n n' k k' d = elim (insert_lookup m m' s i p w h r r n n' k k') [
      | inl e ↦ d w equal_given e
      | inr (u, _, t, e, _) ↦ d u (is_true (equal u w) t) e
    ]

  -- it answers the same after an insert of w and after one of w', which is another number
  pub constant_lookup : (w w' : ℕ) → equal w w' ≡ false → (m m₁ m₂ n n₁ n₂ : Mem) → SoundMem m → Answered (One i (Lookup p)) m shows_nothing n
      → Answered (One i (Insert p w)) m 0 m₁ → Answered (One i (Insert p w')) m 0 m₂
      → (r : GridAnswer) → Answered (One i (Lookup p)) m₁ r n₁ → Answered (One i (Lookup p)) m₂ r n₂ → ⊥
  unfolding equal
  constant_lookup w w' d m m₁ m₂ n n₁ n₂ s k h h' r k₁ k₂ =
      let e : value w ≡ value w' = ap (λ (r : GridAnswer). r.value) (sym (shown m m₁ s w h r n n₁ k k₁) ∙ shown m m₂ s w' h' r n n₂ k k₂) in
      false≢true (sym d ∙ ap (eq (value w)) (sym e) ∙ equal_given m m₁ s w h)

  -- it is accepted and leaves the memory as it was, where the lookup shows nothing
  pub idle_insert : (w : ℕ) (m n : Mem) → SoundMem m → Answered (One i (Lookup p)) m shows_nothing n → Answered (One i (Insert p w)) m 0 m → ⊥
  idle_insert w m n s k h = unchanged m m s w h shows_nothing n n k k (λ u _. not_nothing u)

-- ---- "One that serves the first insert and pretends later falls to the same rule over any sequence"

left_sound : (es : List Made) (m : Mem) → SoundMem m → Sequence m es → SoundMem (left m es)
unfolding left
left_sound [] m s q = s
left_sound (e ∷ es) m s q = left_sound es e.memory (meaning e.call m e.memory e.answer s q.0).2 q.1

-- it is accepted after any calls, and the lookup answers after it as before, with no equal value
pub pretended_insert : (n : ℕ) (es : List Made) (f : FromPrepared n es) (i : ℕ) (p : Point) (w : ℕ) (m' : Mem) → Answered (One i (Insert p w)) (left f.ready es) 0 m'
    → (r : GridAnswer) (k k' : Mem) → Answered (One i (Lookup p)) (left f.ready es) r k → Answered (One i (Lookup p)) m' r k'
    → ((u : ℕ) → equal u w ≡ true → r ≡ shows u → ⊥) → ⊥
pretended_insert n es f i p w m' =
    unchanged i p (left f.ready es) m' (left_sound es f.ready (prepare_fresh f.lent f.ready f.prepared).0 f.calls) w

-- ---- "A made-up free count falls to the pool equation"
pub made_up_count : (m n : Mem) (k : ℕ) → (k + used 3 (2 ∷ 2 ∷ []) (seat_of m) ≡ cells_of m → ⊥) → Answered Count m (number k) n → ⊥
made_up_count m n k d h = d (counted_cells m n (number k) h refl)
