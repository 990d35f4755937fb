-- "Show that two outcomes allowed by it agree": of every call for C, on any lent memory. "Which cell is handed out shows in no answer." And the pool equation. Assumes nothing.
use mathlib.Core.Path.{◌≡◌, refl, sym, ◌∙◌, ap}
use mathlib.Core.List.{List, [], ◌∷◌}
use mathlib.Core.Logic.{◌⊎◌, inl, inr}
use mathlib.Core.Option.{Option, none, some}
use Prim.Native.Nat.{ℕ, ◌+◌, ◌<◌}
use native.Mathlib.Omega.{arith}
use Rattle.seats.specs.Call.{Call, Count, free_cells}
use Rattle.seats.specs.Promise.{give, loose, refuse_or, verdict, Keeps, OneState}
use Rattle.seats.specs.Refusal.{refusal}
use Rattle.seats.specs.Seat.{used}
use Rattle.seats.proofs.Chains as chains
use Rattle.seats.proofs.Promise as promise
use Rattle.seats.proofs.Refusal.{refusal_number}
use Rattle.means.specs.Mem.{Mem, cells_of, SoundMem, seat_of, reads_in}
use Rattle.means.specs.Twins.{TwinMem}
use Rattle.means.proofs.Twins.{state_tells, twins_state}
use Rattle.voxels.specs.Lent.{lent}
use Rattle.pool.proofs.Guards.{served_sound}
use Rattle.calls.specs.Forms.{count_answer_of, form_of, to_c, Out, Answered}
use Rattle.calls.specs.declared.GridNumber.{GridNumber}
use Rattle.demands.specs.Sequence.{Made, Sequence, calls_of, told}
use Rattle.demands.proofs.Plain.{plain, plain_chain, plain_calls, in_c, plain_told}

-- the memories after two outcomes: the same, or the same in all that docs/EXCEPTIONS.md does not list, or the exception of the unsound pool
abbrev pub Agreeing : Call → Mem → Mem → Mem → Type 0
Agreeing c m m' m'' = (m' ≡ m'') ⊎ (TwinMem m' m'' ⊎ (verdict 3 (2 ∷ 2 ∷ []) lent c m ≡ loose))

pub agree : (c : Call) (m m' m'' : Mem) (r r' : Out c) → Answered c m r m' → Answered c m r' m'' → (r ≡ r') × Agreeing c m m' m''
agree c m m' m'' r r' (a, e, h) (a', e', h') = (e ∙ ap (to_c (form_of c)) q.0 ∙ sym e', go q.1)
  where
    q : (a ≡ a') × ((m' ≡ m'') ⊎ (OneState 3 (2 ∷ 2 ∷ []) lent m' m'' ⊎ (verdict 3 (2 ∷ 2 ∷ []) lent c m ≡ loose)))
    q = promise.agree 3 (2 ∷ 2 ∷ []) lent c m m' m'' a a' h h'

    go : (m' ≡ m'') ⊎ (OneState 3 (2 ∷ 2 ∷ []) lent m' m'' ⊎ (verdict 3 (2 ∷ 2 ∷ []) lent c m ≡ loose)) → Agreeing c m m' m''
    go (inl d) = inl d
    go (inr (inl s)) = inr (inl (state_tells m' m'' s.sound s.sound' s.state))
    go (inr (inr l)) = inr (inr l)

-- the exception never comes on a sound pool
pub sound_determined : (c : Call) (m : Mem) → SoundMem m → verdict 3 (2 ∷ 2 ∷ []) lent c m ≡ loose → ⊥
sound_determined = promise.sound_not_loose 3 (2 ∷ 2 ∷ []) lent

-- ---- "Which cell is handed out shows in no answer"

-- two sound memories that are twins answer the same calls alike
pub unseen : (es es' : List Made) (m m' : Mem) → SoundMem m → SoundMem m' → TwinMem m m' → Sequence m es → Sequence m' es' → calls_of es' ≡ calls_of es → told es ≡ told es'
unseen es es' m m' s s' t q q' e =
    plain_told es m q
    ∙ ap in_c (chains.unseen 3 (2 ∷ 2 ∷ []) lent (plain es m q) (plain es' m' q') m m' s s' (twins_state m m' t) (plain_chain es m q) (plain_chain es' m' q')
    (plain_calls es' m' q' ∙ e ∙ sym (plain_calls es m q)))
    ∙ sym (plain_told es' m' q')

-- ---- "Free cells plus cells reached equals all cells": what a count answers, on any memory on which it is not refused

pub counted_cells : (m n : Mem) (r : GridNumber) → Answered Count m r n → r.code ≡ 0 → r.number + used 3 (2 ∷ 2 ∷ []) (seat_of m) ≡ cells_of m
counted_cells m n r (a, e, h) z = go (refusal (reads_in m) Count) refl h
  where
    no_zero : (k : ℕ) → 0 < k → k ≡ 0 → ⊥
    no_zero k l d = omega arith

    go : (o : Option ℕ) → refusal (reads_in m) Count ≡ o
        → Keeps 3 (2 ∷ 2 ∷ []) lent (refuse_or 3 (2 ∷ 2 ∷ []) lent o (give (free_cells (reads_in m).free))) Count m a n → r.number + used 3 (2 ∷ 2 ∷ []) (seat_of m) ≡ cells_of m
    go none d k =
        omega (
          arith,
          ap (λ (x : GridNumber). x.number) (e ∙ ap count_answer_of k.0),
          promise.sound_cells 3 (2 ∷ 2 ∷ []) lent m (served_sound m Count d refl),
        )
    go (some k) d q = absurd (no_zero k (refusal_number (reads_in m) Count k d) (sym (ap (λ (x : GridNumber). x.code) (e ∙ ap count_answer_of q.0)) ∙ z))
