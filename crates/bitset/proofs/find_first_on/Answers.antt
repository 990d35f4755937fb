-- `bitset::find_first_on` meets its contract. Assumes nothing.
use mathlib.Core.Path.{sym, ◌∙◌, subst}
use native.Mathlib.Nat.{not-suc-le-zero}
use native.Mathlib.Omega.{arith}
use lib.ListN.{length}
use Rattle.bitset.specs.Answers.{FirstOn}
use Rattle.bitset.proofs.Sets.{has_own}
use Rattle.bitset.proofs.First.{leads, none_before}
use Rattle.bitset.proofs.find_first_on.Goals as goal

pub overflow_add-k : goal.overflow_add-k
overflow_add-k c = let e = c.in_ok-i.ensures in omega (arith, e.0, (leads _ e.1 (c.type_inv.ws c.in_ok-i.i).fits).within)

pub returns-in_err-i : goal.returns-in_err-i
returns-in_err-i c =
    let ws = c.args.ws.now in
    subst (FirstOn ws c.args.n) (sym c.from_residual.ensures)
    (λ j h. none_before ws (length ws) 0 (omega arith) (c.in_err-i.ensures) (λ r f. absurd (not-suc-le-zero f)) j (omega arith))

pub returns-then-k-n : goal.returns-then-k-n
returns-then-k-n c =
    let ws = c.args.ws.now in
    let i = c.in_ok-i.i in
    let e = c.in_ok-i.ensures in
    let d = leads _ e.1 (c.type_inv.ws i).fits in
    (c.if-k-n.true, sym (has_own ws i _ d.within) ∙ d.on, none_before ws i _ (omega arith) e.2 d.before)

pub returns-else-k-n : goal.returns-else-k-n
returns-else-k-n c =
    let i = c.in_ok-i.i in
    let e = c.in_ok-i.ensures in
    let d = leads _ e.1 (c.type_inv.ws i).fits in
    λ j h. none_before c.args.ws.now i _ (omega arith) e.2 d.before j (omega arith)
