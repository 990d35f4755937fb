-- `bitset::with` meets its contract. Assumes nothing.
use lib.ListN.{length, get_or, get_or-replicate}
use mathlib.Core.Path.{sym, ap, ◌∙◌, subst}
use Rattle.bitset.specs.Set.{word_bit}
use Rattle.bitset.proofs.Sets.{Has, has_one}
use Rattle.bitset.proofs.Loops.{all_written}
use Rattle.bitset.proofs.with.Goals as goal

pub returns : goal.returns
returns c =
    let a = c.args in
    let n = length a.ws.now in
    let e = c.fill.ensures.after (λ y q. q) in
    all_written (word_bit a.value) a.ws.now _ c.fill.ensures.len
    (λ p h. subst (Has (word_bit a.value) p) (sym (ap (λ ws. get_or ws p 0) e ∙ get_or-replicate n p a.value 0 h)) (has_one a.value p))
