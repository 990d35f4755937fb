-- `bitset::is_empty` meets its contract. Assumes nothing.
use Rattle.std.proofs.Common.{rules}
use mathlib.Core.Path.{◌≡◌, sym, subst}
use lib.ListN.{get_or}
use Rattle.bitset.specs.Set.{bit_of}
use Rattle.bitset.proofs.Sets.{Has, has_own}
use Rattle.bitset.proofs.is_empty.Goals as goal

pub returns : goal.returns
returns c =
    let ws = c.args.ws.now in
    c.none_on.ensures (bit_of ws) (λ q w h p. let e : w ≡ get_or ws q 0 = search rules in subst (Has (bit_of ws) q) (sym e) (has_own ws q))
