use mathlib.Core.Bool.{not}
use mathlib.Core.Path.{ap}
use native.Mathlib.Omega.{arith}
use borrow.Author.Tests.{not-true, not-false}
use Rattle.nodes.proofs.Seeks.{lead_none, lead_both, lead_to, lead_out}
use Rattle.nodes.proofs.view.View.leads.Goals as goal

pub returns-then-not-bit_in : goal.returns-then-not-bit_in
returns-then-not-bit_in c book x j m e = lead_none _ _ book m e c.bit_in.ensures (not-true _ (ap not c.if-not-bit_in.true))

pub returns-then-bit_in : goal.returns-then-bit_in
returns-then-bit_in c book x j m e = lead_both _ _ book m e c.bit_in.ensures (not-false _ (ap not c.if-not-bit_in.false)) (omega arith) c.bit_in-2.ensures c.if-bit_in.true

pub returns-then-c-self : goal.returns-then-c-self
returns-then-c-self c book x j m e =
    lead_to _ _ book m e c.bit_in.ensures (not-false _ (ap not c.if-not-bit_in.false)) (omega arith) c.bit_in-2.ensures c.if-bit_in.false c.if-c-self.true

pub returns-else-c-self : goal.returns-else-c-self
returns-else-c-self c book x j m e =
    lead_out _ _ book m e c.bit_in.ensures (not-false _ (ap not c.if-not-bit_in.false)) (omega arith) c.bit_in-2.ensures c.if-bit_in.false c.if-c-self.false
