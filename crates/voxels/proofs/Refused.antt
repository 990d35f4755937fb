-- A refusal and its number give one another; and a refusal that is handed on. Assumes nothing.
use mathlib.Core.Path.{◌≡◌, refl, ap}
use Prim.Native.Nat.{ℕ, zero, suc, ◌<◌, ◌≤◌}
use native.Mathlib.Omega.{arith}
use Rattle.std.specs.Prelude.{Result, Ok, Err, IsErrAnd}
use Rattle.voxels.specs.declared.refusal.Refusal.{Refusal}
use Rattle.voxels.specs.declared.refusal.Refusal.TheVariants.{Lengths, Seat, SameSeat, Value, Damaged, Unfilled, EmptyBranch, Occupied, NoCells}
use mathlib.Core.Bool.{true}
use lib.Dec.{eqb}
use borrow.Author.Tests.{eqb-true}
use Rattle.bitset.specs.Set.{every}
use Rattle.bitset.proofs.Every.{every_elim}
use Rattle.voxels.specs.Refused.{number_of, refusal_at}

pub at_number : (e : Refusal) → refusal_at (number_of e) ≡ e
at_number Lengths = refl
at_number Seat = refl
at_number SameSeat = refl
at_number Value = refl
at_number Damaged = refl
at_number Unfilled = refl
at_number EmptyBranch = refl
at_number Occupied = refl
at_number NoCells = refl

pub number_at : (n : ℕ) → 0 < n → n ≤ 9 → number_of (refusal_at n) ≡ n
unfolding every
number_at n l m = eqb-true (number_of (refusal_at n)) n (all n l m)
  where
    all : (n : ℕ) → 0 < n → n ≤ 9 → eqb (number_of (refusal_at n)) n ≡ true
    all zero l m = absurd (omega arith)
    all (suc n) l m = every_elim (λ k. eqb (number_of (refusal_at (suc k))) (suc k)) 9 refl n (omega arith)

-- what a `?` hands on
pub exit_is : {T : Type 0} {e : Refusal} (r : Result T Refusal) → IsErrAnd r (λ y. y ≡ e) → r ≡ Err e
exit_is (Ok x) h = absurd h
exit_is (Err y) h = ap Err h
