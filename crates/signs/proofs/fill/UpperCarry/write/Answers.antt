use mathlib.Core.Path.{◌≡◌}
use mathlib.Core.Bool.{Bool}
use Rattle.nodes.specs.Walk.{below}
use Rattle.signs.specs.Seen.{Seen, seen}
use Rattle.signs.specs.Signs.{write_s}
use Rattle.signs.proofs.SignAt.{write_yes, write_no, in_upper, shown_sign}
use Rattle.signs.proofs.fill.UpperCarry.write.Goals as goal

pub hidden-requires : goal.hidden-requires
hidden-requires c = (c.args.self.fit, in_upper c.args.self.stands c.requires.1)

pub set_value-requires : goal.set_value-requires
set_value-requires c = (record { most = c.args.self.fit.most; slots_fit = c.requires.0 }, in_upper c.args.self.stands c.requires.1)

pub returns-then-hidden : goal.returns-then-hidden
returns-then-hidden c =
    let t = c.args.self in
    let bs = below t.level in
    shown_sign (λ (q : Seen) (g : Bool). seen q c.set_value.new.slots ≡ write_s bs q.x c.args.k g (seen q c.args.slots.now))
    (λ book. write_yes bs t.x c.args.k c.args.sign _ (c.hidden.ensures _ book _ t.above) c.if-hidden.true c.far_word.ensures (c.set_value.ensures _ book))

pub returns-else-hidden : goal.returns-else-hidden
returns-else-hidden c =
    let t = c.args.self in
    let bs = below t.level in
    shown_sign (λ (q : Seen) (g : Bool). seen q c.args.slots.now ≡ write_s bs q.x c.args.k g (seen q c.args.slots.now))
    (λ book. write_no bs t.x c.args.k c.args.sign _ (c.hidden.ensures _ book _ t.above) c.if-hidden.false)
