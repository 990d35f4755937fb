-- Demand 3, "Neither may mark the other", of sequences of calls for C. Assumes nothing.
use mathlib.Core.Path.{◌≡◌, refl, sym, ◌∙◌, ap}
use mathlib.Core.List.{List, [], ◌∷◌}
use Prim.Native.Nat.{ℕ, ◌<◌}
use Rattle.seats.specs.Call.{Prepare}
use Rattle.seats.specs.Promise.{Run}
use Rattle.seats.specs.Run.{strike}
use Rattle.seats.proofs.Chains as chains
use Rattle.voxels.specs.Lent.{lent}
use Rattle.pool.proofs.WholeSeats.{zero_accepts}
use Rattle.demands.specs.Sequence.{Made, FromPrepared, calls_of, Undisturbed, answers_to}
use Rattle.demands.proofs.Plain.{plain, plain_chain, plain_calls, plain_undisturbed, in_c, plain_answers}

plain_run : (n : ℕ) (es : List Made) (f : FromPrepared n es) → Run 3 (2 ∷ 2 ∷ []) lent n (plain es f.ready f.calls)
plain_run n es f =
    record {
      lent = f.lent;
      ready = f.ready;
      cells = f.cells;
      prepares = zero_accepts Prepare f.lent f.ready refl f.prepared;
      chain = plain_chain es f.ready f.calls;
    }

-- "Strike out every call on other seats: its own calls give the same answers": any two sequences that the promises allow, on as many cells
pub neither : (a n : ℕ) → a < 8 → (es es' : List Made) → FromPrepared n es → FromPrepared n es' → calls_of es' ≡ strike a (calls_of es) → Undisturbed a es → answers_to a es ≡ answers_to a es'
neither a n l es es' f f' e u =
    plain_answers a es f.ready f.calls
    ∙ ap in_c (chains.demand_3 3 (2 ∷ 2 ∷ []) lent a n l (plain es f.ready f.calls) (plain es' f'.ready f'.calls) (plain_run n es f) (plain_run n es' f')
    (plain_calls es' f'.ready f'.calls ∙ e ∙ ap (strike a) (sym (plain_calls es f.ready f.calls))) (plain_undisturbed a es f.ready f.calls u))
    ∙ sym (plain_answers a es' f'.ready f'.calls)
