-- The calls for C say what the pool's calls say. Assumes nothing.
use mathlib.Core.Path.{◌≡◌, refl, ap, ◌∙◌}
use mathlib.Core.Bool.{Bool, true, false}
use mathlib.Core.Option.{none, some}
use mir.Val.{bool_byte}
use lib.IntN.{ℤ}
use Rattle.seats.specs.Call.{Call, Answer, refused, found, negative_is, empty_is, free_cells, done}
use Rattle.nodes.specs.Walk.{voxel_at}
use Rattle.means.specs.Mem.{Mem}
use Prim.Native.Nat.{ℕ}
use Rattle.std.specs.Prelude.{Result}
use Rattle.voxels.specs.Answers.{Says, found_of, whether_of, done_of, code_of}
use Rattle.voxels.specs.declared.refusal.Refusal.{Refusal}
use Rattle.voxels.proofs.Granted.{Named, promised_named}
use Rattle.pool.specs.Count.{count_of}
use Rattle.calls.specs.Forms.{code_only, refusal, truth, code_f, answer_of, answer_f, count_answer_of, count_f, truth_answer_of, truth_f}

pub code_same : (a : Answer) → Named a → code_f (done_of a) ≡ code_of a
code_same (refused n) h = h
code_same (found o) h = refl
code_same (negative_is k) h = refl
code_same (empty_is k) h = refl
code_same (free_cells k) h = refl
code_same done h = refl

pub answer_same : (a : Answer) → Named a → answer_f (found_of a) ≡ answer_of a
answer_same (refused n) h = ap code_only h
answer_same (found none) h = refl
answer_same (found (some w)) h = refl
answer_same (negative_is k) h = refl
answer_same (empty_is k) h = refl
answer_same (free_cells k) h = refl
answer_same done h = refl

pub count_same : (a : Answer) → Named a → count_f (count_of a) ≡ count_answer_of a
count_same (refused n) h = ap refusal h
count_same (found o) h = refl
count_same (negative_is k) h = refl
count_same (empty_is k) h = refl
count_same (free_cells k) h = refl
count_same done h = refl

pub truth_same : (a : Answer) → Named a → truth_f (whether_of a) ≡ truth_answer_of a
truth_same (refused n) h = ap refusal h
truth_same (found o) h = refl
truth_same (negative_is k) h = refl
truth_same (empty_is k) h = refl
truth_same (free_cells k) h = refl
truth_same done h = refl

-- an answer x in the form f that the call's promise allows, and r that is x in the form g, is an answer in the form h that it allows
pub says_as : {R S : Type 0} (f : Answer → R) (g : R → S) (h : Answer → S) → ((a : Answer) → Named a → g (f a) ≡ h a)
    → (c : Call) (m m' : Mem) (x : R) (r : S) → Says f c m x m' → r ≡ g x → Says h c m r m'
says_as f g h same c m m' x r (a, e, p) is = (a, is ∙ ap g e ∙ same a (promised_named c m m' a p), p)

-- a call that is done or refused, as C is answered
pub says_code : (c : Call) (m m' : Mem) {x : Result Unit Refusal} {r : ℕ} → Says done_of c m x m' → r ≡ code_f x → Says code_of c m r m'
says_code c m m' {x} {r} = says_as done_of code_f code_of code_same c m m' x r

-- a coordinate handed on is the same number
pub voxel_same : {x y z x' y' z' : ℤ} → x ≡ x' → y ≡ y' → z ≡ z' → voxel_at x y z ≡ voxel_at x' y' z'
voxel_same {x} {y} {z} {x'} {y'} {z'} e f g = ap (λ i. voxel_at i y z) e ∙ ap (λ j. voxel_at x' j z) f ∙ ap (λ k. voxel_at x' y' k) g

-- a bool as a number
pub byte_is : (b : Bool) → bool_byte b ≡ truth b
byte_is true = refl
byte_is false = refl
