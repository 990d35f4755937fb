-- `bitset::eq` meets its contract. Assumes nothing.
use Rattle.std.proofs.Common.{rules}
use mathlib.Core.Path.{◌≡◌, sym, ◌∙◌, subst}
use mathlib.Core.Bool.{xor}
use lib.Bits.{bit_xor}
use lib.ListN.{get_or}
use Rattle.bitset.specs.Set.{bit_of}
use Rattle.bitset.proofs.Words.{xor_acts}
use Rattle.bitset.proofs.Sets.{Has, has_own, has_both}
use Rattle.bitset.proofs.Every.{same_by}
use Rattle.bitset.proofs.eq.Goals as goal

pub returns : goal.returns
returns c =
    let a = c.args.a.now in
    let b = c.args.b.now in
    c.none_on.ensures (λ k. xor (bit_of a k) (bit_of b k)) (λ q w h p.
    let e : w ≡ bit_xor (get_or a q 0) (get_or b q 0) = search rules in
    subst (Has (λ k. xor (bit_of a k) (bit_of b k)) q) (sym e) (has_both xor_acts (bit_of a) (bit_of b) q (get_or a q 0) (get_or b q 0) (has_own a q) (has_own b q)))
    ∙ same_by a b c.args.n
