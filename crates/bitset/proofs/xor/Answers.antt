-- `bitset::xor` meets its contract. Assumes nothing.
use Rattle.std.proofs.Common.{rules}
use mathlib.Core.Path.{refl, sym, ◌∙◌}
use mathlib.Core.Bool.{xor}
use Rattle.bitset.proofs.Words.{xor_acts}
use Rattle.bitset.proofs.Loops.{made}
use Rattle.bitset.proofs.xor.Goals as goal

pub returns : goal.returns
unfolding xor
returns c =
    let e = sym c.each.auto.ws in
    made xor_acts refl c.args.a.now c.args.b.now _ (c.requires.0 ∙ e) (c.requires.1 ∙ e) (λ p h. let t = c.each.ensures p h in search rules)
