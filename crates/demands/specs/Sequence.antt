-- What demand 3 speaks of: calls for C in a row on one pool, with what each was answered. Assumes nothing.
use Rattle.std.specs.Prelude.{◌≡◌, true, List, [], ◌∷◌, ℕ}
use Rattle.seats.specs.Call.{Call, Prepare}
use Rattle.seats.specs.Run.{keep_if, on, NoOther}
use Rattle.means.specs.Mem.{Mem, cells_of}
use Rattle.calls.specs.Forms.{Out, code, Answered}

-- a call that was made, what it answered, and the memory that it left
pub record Made : Type 0 where
  pub call : Call
  pub answer : Out call
  pub memory : Mem

-- "that only our calls write and that each is lent whole": each call is made on the memory that the one before it left
abbrev pub Sequence : Mem → List Made → Type 0
Sequence m [] = Unit {0}
Sequence m (e ∷ es) = Answered e.call m e.answer e.memory × Sequence e.memory es

-- the memory that the last of them left
unfoldable pub left : Mem → List Made → Mem
left m [] = m
left m (e ∷ es) = left e.memory es

-- "Start from a freshly prepared pool": memory for n cells, whatever it held, was prepared, and then came the calls
pub record FromPrepared (n : ℕ) (es : List Made) : Type 0 where
  pub lent : Mem
  pub ready : Mem
  pub cells : cells_of lent ≡ n
  pub prepared : Answered Prepare lent 0 ready
  pub calls : Sequence ready es

unfoldable pub calls_of : List Made → List Call
calls_of [] = []
calls_of (e ∷ es) = e.call ∷ calls_of es

-- the calls, with what they answered
unfoldable pub told : List Made → List ((c : Call) × Out c)
told [] = []
told (e ∷ es) = (e.call, e.answer) ∷ told es

-- "one seat is never named together with another, no pool is prepared again" (which names all), "and no call on that seat is refused for cells"
abbrev pub Undisturbed : ℕ → List Made → Type 0
Undisturbed a [] = Unit {0}
Undisturbed a (e ∷ es) = (on a e.call ≡ true → NoOther a e.call × (code e.call e.answer ≡ 9 → ⊥)) × Undisturbed a es

-- "its own calls", with the answers that they gave: "The count of free cells isn't one of those answers"
unfoldable pub answers_to : ℕ → List Made → List ((c : Call) × Out c)
answers_to a [] = []
answers_to a (e ∷ es) = keep_if (on a e.call) (e.call, e.answer) (answers_to a es)

-- these calls were made on a freshly prepared pool of n cells, and none disturbed seat a
abbrev pub Run : ℕ → ℕ → List Call → Type 0
Run n a cs = (es : List Made) × FromPrepared n es × (calls_of es ≡ cs) × Undisturbed a es
