use mathlib.Core.Path.{ap, ◌∙◌}
use Prim.Native.Nat.{ℕ, ◌+◌}
use lib.ListN.{set}
use Rattle.signs.specs.Seen.{seen}
use Rattle.signs.proofs.LeafRows.{write_on, write_off}
use Rattle.signs.proofs.leaf.LeafWordsCarry.write.Goals as goal
use Rattle.signs.proofs.leaf.LeafWordsCarry.write.Goals.{then-on, else-on}

pub returns : goal.returns
returns c = λ q g a e.
    let s = c.args.self in
    let put : ℕ → _ = λ (w : ℕ). seen q (set c.args.slots.now (s.p + c.args.k) w) in
    elim c.if-on.branch [
      | then-on w ↦ ap put w.slots-is ∙ write_on c.requires.1 c.on.ensures _ a g w.if-on.true
      | else-on w ↦ ap put (w.slots-is ∙ e) ∙ write_off c.requires.1 c.on.ensures _ a g w.if-on.false
    ]
