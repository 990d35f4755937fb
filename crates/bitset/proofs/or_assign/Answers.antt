-- `bitset::or_assign` meets its contract. Assumes nothing.
use Rattle.std.proofs.Common.{rules}
use mathlib.Core.Path.{refl, sym, ◌∙◌}
use Rattle.bitset.proofs.Words.{or_acts}
use Rattle.bitset.proofs.Loops.{made}
use Rattle.bitset.proofs.or_assign.Goals as goal

pub returns : goal.returns
returns c =
    let e = sym c.each.auto.ws in
    made or_acts refl c.args.a.now c.args.b.now _ e (c.requires ∙ e) (λ p h. let t = c.each.ensures p h in search rules)
