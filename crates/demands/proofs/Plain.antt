-- A sequence of calls for C as the same sequence in answers of document 01. Assumes nothing.
use mathlib.Core.Path.{◌≡◌, refl, ◌∙◌, ap, ap₂}
use mathlib.Core.Bool.{Bool, true, false}
use mathlib.Core.List.{List, [], ◌∷◌}
use Prim.Native.Nat.{ℕ}
use Rattle.seats.specs.Call.{Call, Answer}
use Rattle.seats.specs.Promise.{Event, Chain}
use Rattle.seats.specs.Run as run
use Rattle.seats.specs.Run.{keep_if, on, said}
use Rattle.means.specs.Mem.{Mem}
use Rattle.voxels.specs.Lent.{lent}
use Rattle.calls.specs.Forms.{form_of, to_c, Out, code}
use Rattle.demands.specs.Sequence.{Made, Sequence, calls_of, told, Undisturbed, answers_to}
use Rattle.demands.proofs.Refusals.{code_refused}

abbrev pub Events : Type 0
Events = List (Event 3 (2 ∷ 2 ∷ []) lent)

unfoldable pub plain : (es : List Made) (m : Mem) → Sequence m es → Events
plain [] m s = []
plain (e ∷ es) m s = record { call = e.call; answer = s.0.0; memory = e.memory } ∷ plain es e.memory s.1

pub plain_chain : (es : List Made) (m : Mem) (s : Sequence m es) → Chain 3 (2 ∷ 2 ∷ []) lent m (plain es m s)
unfolding plain
plain_chain [] m s = tt
plain_chain (e ∷ es) m s = (s.0.2, plain_chain es e.memory s.1)

pub plain_calls : (es : List Made) (m : Mem) (s : Sequence m es) → run.calls_of (said 3 (2 ∷ 2 ∷ []) lent (plain es m s)) ≡ calls_of es
unfolding plain run.calls_of said calls_of
plain_calls [] m s = refl
plain_calls (e ∷ es) m s = ap (◌∷◌ e.call) (plain_calls es e.memory s.1)

pub plain_undisturbed : (a : ℕ) (es : List Made) (m : Mem) (s : Sequence m es) → Undisturbed a es → run.Undisturbed a (said 3 (2 ∷ 2 ∷ []) lent (plain es m s))
unfolding plain said
plain_undisturbed a [] m s u = tt
plain_undisturbed a (e ∷ es) m s u = (
  (λ o. ((u.0 o).0, (λ d. (u.0 o).1 (ap (code e.call) (s.0.1 ∙ ap (to_c (form_of e.call)) d) ∙ code_refused (form_of e.call) 9)))),
  plain_undisturbed a es e.memory s.1 u.1,
)

-- as C is answered
abbrev pub Told : Type 0
Told = (c : Call) × Out c

unfoldable pub in_c : List (Call × Answer) → List Told
in_c [] = []
in_c (x ∷ xs) = (x.0, to_c (form_of x.0) x.1) ∷ in_c xs

keep_told : (b : Bool) (x : Call × Answer) (t : Told) (xs : List (Call × Answer)) (ts : List Told) → t ≡ (x.0, to_c (form_of x.0) x.1) → ts ≡ in_c xs → keep_if b t ts ≡ in_c (keep_if b x xs)
unfolding in_c
keep_told true x t xs ts e d = ap₂ ◌∷◌ e d
keep_told false x t xs ts e d = d

pub plain_answers : (a : ℕ) (es : List Made) (m : Mem) (s : Sequence m es) → answers_to a es ≡ in_c (run.answers_to a (said 3 (2 ∷ 2 ∷ []) lent (plain es m s)))
unfolding plain run.answers_to said answers_to in_c
plain_answers a [] m s = refl
plain_answers a (e ∷ es) m s =
    keep_told (on a e.call) (e.call, s.0.0) (e.call, e.answer) (run.answers_to a (said 3 (2 ∷ 2 ∷ []) lent (plain es e.memory s.1))) (answers_to a es)
    (ap (λ r. (e.call, r)) s.0.1) (plain_answers a es e.memory s.1)

pub plain_told : (es : List Made) (m : Mem) (s : Sequence m es) → told es ≡ in_c (said 3 (2 ∷ 2 ∷ []) lent (plain es m s))
unfolding plain said told in_c
plain_told [] m s = refl
plain_told (e ∷ es) m s = ap₂ ◌∷◌ (ap (λ r. (e.call, r)) s.0.1) (plain_told es e.memory s.1)
