-- `bitset::unused_mask` meets its contract. Assumes nothing.
use mathlib.Core.Path.{sym, subst}
use Prim.Native.Nat.{ℕ, ◌-◌, ◌*◌, ◌%◌, ◌^◌}
use lib.Dec.{ltb}
use Rattle.bitset.proofs.Words.{ones}
use Rattle.bitset.proofs.Sets.{Has}
use Rattle.bitset.proofs.Shifts.{mask_has}
use Rattle.bitset.proofs.unused_mask.Goals as goal

pub returns : goal.returns
returns c =
    let a = c.args in
    subst (λ (u : ℕ). Has (λ k. ltb k a.n) (a.words - 1) (ones * 2 ^ u % 2 ^ 64)) (sym c.unused_bits.ensures) (mask_has a.words a.n c.requires)
