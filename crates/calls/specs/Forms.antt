-- What the calls for C answer: for each answer of document 01 its number and its value. Assumes nothing.
use Rattle.std.specs.Prelude.{◌≡◌, Bool, cond, ◌&&◌, ℕ, ltb, ℤ, Float, Result, Ok, Err, Option as Maybe, Some, None}
use Rattle.std.proofs.Math.Option.{none, some}
use Rattle.floats.specs.Value.{value}
use Rattle.grid.specs.Geometry.{Point}
use Rattle.nodes.specs.Layout.{slots_length, masks_length, book_length}
use Rattle.seats.specs.Call.{Lookup, Sign, Remove, Insert, Fill, Cut, Clear, Prune, Flip, FillSigns, IsEmpty, Call, One, Two, Prepare, Count, Answer}
use Rattle.seats.specs.Call.{refused, found, negative_is, empty_is, free_cells, done}
use Rattle.means.specs.Mem.{Mem}
use Rattle.voxels.specs.Answers.{Says, code_of}
use Rattle.voxels.specs.Refused.{number_of}
use Rattle.voxels.specs.declared.refusal.Refusal.{Refusal}
use Rattle.calls.specs.declared.GridAnswer.{GridAnswer}
use Rattle.calls.specs.declared.GridNumber.{GridNumber}
use Rattle.calls.specs.declared.GridSizes.{GridSizes}

abbrev pub point_at : ℤ → ℤ → ℤ → Point
point_at x y z = record { x = x; y = y; z = z }

-- a code alone, with +0 as the value
abbrev pub code_only : ℕ → GridAnswer
code_only n = record { code = n; value = value 0 }

-- a number that was answered, and the number of a refusal
abbrev pub number : ℕ → GridNumber
number k = record { code = 0; number = k }

abbrev pub refusal : ℕ → GridNumber
refusal n = record { code = n; number = 0 }

abbrev pub truth : Bool → ℕ
truth b = cond b 1 0

-- ---- for each answer of document 01; of the last four cases of a lookup, and of the others that a call's promise never gives, none occurs
-- a lookup: 0 and the value, 10 for nothing there, or the number of a refusal, from 1 to 9
abbrev pub answer_of : Answer → GridAnswer
answer_of (refused n) = code_only n
answer_of (found none) = code_only 10
answer_of (found (some w)) = record { code = 0; value = value w }
answer_of (negative_is k) = code_only 10
answer_of (empty_is k) = code_only 10
answer_of (free_cells k) = code_only 10
answer_of done = code_only 10

-- a count of free cells
abbrev pub count_answer_of : Answer → GridNumber
count_answer_of (refused n) = refusal n
count_answer_of (found o) = number 0
count_answer_of (negative_is k) = number 0
count_answer_of (empty_is k) = number 0
count_answer_of (free_cells k) = number k
count_answer_of done = number 0

-- a question about a seat: 1 for yes, 0 for no
abbrev pub truth_answer_of : Answer → GridNumber
truth_answer_of (refused n) = refusal n
truth_answer_of (found o) = number 0
truth_answer_of (negative_is k) = number (truth k)
truth_answer_of (empty_is k) = number (truth k)
truth_answer_of (free_cells k) = number 0
truth_answer_of done = number 0

-- ---- the pool's own answers, in the same forms
abbrev pub code_f : Result Unit Refusal → ℕ
code_f (Ok u) = 0
code_f (Err e) = number_of e

abbrev pub answer_f : Result (Maybe Float) Refusal → GridAnswer
answer_f (Ok (Some x)) = record { code = 0; value = x }
answer_f (Ok None) = code_only 10
answer_f (Err e) = code_only (number_of e)

abbrev pub count_f : Result ℕ Refusal → GridNumber
count_f (Ok k) = number k
count_f (Err e) = refusal (number_of e)

abbrev pub truth_f : Result Bool Refusal → GridNumber
truth_f (Ok b) = number (truth b)
truth_f (Err e) = refusal (number_of e)

-- ---- every call for C answers in one of four forms: a code alone, what a lookup found, a count of free cells, or yes and no
pub data Form : Type 0 where
  plain lookup count whether : Form

abbrev pub form_of : Call → Form
form_of (One i (Lookup p)) = lookup
form_of (One i (Sign p)) = whether
form_of (One i (Remove p)) = plain
form_of (One i (Insert p v)) = plain
form_of (One i (Fill v)) = plain
form_of (One i (Cut t)) = plain
form_of (One i Clear) = plain
form_of (One i Prune) = plain
form_of (One i Flip) = plain
form_of (One i FillSigns) = plain
form_of (One i IsEmpty) = whether
form_of (Two x i j) = plain
form_of Prepare = plain
form_of Count = count

-- what C gets in a form, for each answer; the code in it; and that there is nothing but the code
abbrev pub OutOf : Form → Type 0
OutOf plain = ℕ
OutOf lookup = GridAnswer
OutOf count = GridNumber
OutOf whether = GridNumber

abbrev pub to_c : (f : Form) → Answer → OutOf f
to_c plain = code_of
to_c lookup = answer_of
to_c count = count_answer_of
to_c whether = truth_answer_of

abbrev pub code_in : (f : Form) → OutOf f → ℕ
code_in plain r = r
code_in lookup r = r.code
code_in count r = r.code
code_in whether r = r.code

abbrev pub CodeOnly : (f : Form) → OutOf f → Type 0
CodeOnly plain r = Unit {0}
CodeOnly lookup r = r.value ≡ value 0
CodeOnly count r = r.number ≡ 0
CodeOnly whether r = r.number ≡ 0

abbrev pub Out : Call → Type 0
Out c = OutOf (form_of c)

abbrev pub code : (c : Call) → Out c → ℕ
code c r = code_in (form_of c) r

-- the promise of every call for C: on the memory m it answers r and leaves the memory m'
abbrev pub Answered : (c : Call) → Mem → Out c → Mem → Type 0
Answered c m r m' = Says (to_c (form_of c)) c m r m'

-- ---- the lengths of the slices for n cells; for a number of which there is no pool, the refusal that its lengths would meet
abbrev pub no_sizes : GridSizes
no_sizes = record { code = 1; slots = 0; masks = 0; book = 0 }

abbrev pub sizes_of : ℕ → GridSizes
sizes_of n = cond (ltb 0 n && ltb n 65536) (record { code = 0; slots = slots_length n; masks = masks_length n; book = book_length n }) no_sizes
