-- `bitset::window` meets its contract. Assumes nothing.
use mathlib.Core.Path.{ap₂, ◌∙◌}
use Prim.Native.Nat.{ℕ, ◌+◌, ◌-◌, ◌*◌, ◌/◌, ◌%◌, ◌^◌}
use lib.Bits.{bit_or}
use Rattle.bitset.specs.Set.{word_bit}
use Rattle.bitset.proofs.Shifts.{window_bits}
use Rattle.bitset.proofs.window.Goals as goal

pub returns : goal.returns
returns c =
    let a = c.args in
    let p = a.p in
    λ r h.
    ap₂ (λ (x y : ℕ). word_bit (bit_or (x * 2 ^ (p % 64) % 2 ^ 64) (y / 2 ^ 1 / 2 ^ (63 - p % 64))) r) c.word_or_zero-here.ensures c.word_or_zero-next.ensures
    ∙ window_bits a.ws.now p (c.type_inv.ws (p / 64 + 1)).fits r h
