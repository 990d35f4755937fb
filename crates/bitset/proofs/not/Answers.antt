-- `bitset::not` meets its contract. Assumes nothing.
use Rattle.std.proofs.Common.{rules}
use mathlib.Core.Path.{◌≡◌, sym, subst}
use mathlib.Core.Bool.{not}
use Prim.Native.Nat.{◌-◌}
use native.Mathlib.Omega.{arith}
use lib.ListN.{get_or}
use Rattle.bitset.specs.Set.{bit_of}
use Rattle.bitset.proofs.Words.{ones}
use Rattle.bitset.proofs.Sets.{Has, has_own, has_not}
use Rattle.bitset.proofs.Loops.{all_written}
use Rattle.bitset.proofs.not.Goals as goal

pub returns : goal.returns
returns c =
    let a = c.args.a.now in
    let out = c.each.new.ws in
    all_written (λ k. not (bit_of a k)) c.args.out.now out c.each.auto.ws (λ p h.
    let t = c.each.ensures p (omega (arith, c.each.auto.ws)) in
    let e : get_or out p 0 ≡ ones - get_or a p 0 = search rules in
    subst (Has (λ k. not (bit_of a k)) p) (sym e) (has_not (bit_of a) p (get_or a p 0) (c.type_inv.a p).fits (has_own a p)))
