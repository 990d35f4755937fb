-- `bitset::moved_word` meets its contract. Assumes nothing.
use mathlib.Core.Path.{sym, subst}
use Prim.Native.Nat.{ℕ, ◌-◌, ◌*◌, ◌/◌, ◌^◌}
use Rattle.bitset.specs.Set.{up}
use Rattle.bitset.proofs.Sets.{Has}
use Rattle.bitset.proofs.Shifts.{moved_part}
use Rattle.bitset.proofs.moved_word.Goals as goal

pub returns-then-s-first-2 : goal.returns-then-s-first-2
returns-then-s-first-2 c =
    let a = c.args in
    let ws = a.ws.now in
    subst (λ (w : ℕ). Has (up ws a.s) a.q (w / 2 ^ (a.s - 64 * a.q))) (sym c.word_or_zero.ensures)
    (moved_part ws a.q a.s c.if-s-first.false c.if-s-first-2.true (c.type_inv.ws 0).fits)
