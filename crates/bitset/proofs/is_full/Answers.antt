-- `bitset::is_full` meets its contract. Assumes nothing.
use Rattle.std.proofs.Common.{rules}
use mathlib.Core.Path.{◌≡◌, sym, ◌∙◌, subst}
use mathlib.Core.Bool.{not}
use Prim.Native.Nat.{◌-◌}
use lib.ListN.{get_or}
use Rattle.bitset.specs.Set.{bit_of}
use Rattle.bitset.proofs.Words.{ones}
use Rattle.bitset.proofs.Sets.{Has, has_own, has_not}
use Rattle.bitset.proofs.Every.{full_by}
use Rattle.bitset.proofs.is_full.Goals as goal

pub returns : goal.returns
returns c =
    let ws = c.args.ws.now in
    c.none_on.ensures (λ k. not (bit_of ws k)) (λ q w h p.
    let e : w ≡ ones - get_or ws q 0 = search rules in
    subst (Has (λ k. not (bit_of ws k)) q) (sym e) (has_not (bit_of ws) q (get_or ws q 0) (c.type_inv.ws q).fits (has_own ws q)))
    ∙ full_by ws c.args.n
