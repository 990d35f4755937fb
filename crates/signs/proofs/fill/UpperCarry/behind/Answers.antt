use mathlib.Core.Path.{◌≡◌, refl, sym, ◌∙◌}
use mathlib.Core.Bool.{Bool}
use mathlib.Core.List.{[]}
use native.Mathlib.Omega.{arith}
use Rattle.nodes.specs.Walk.{below}
use Rattle.nodes.proofs.Places.{cell_in}
use Rattle.nodes.proofs.Paths.{stands_below}
use Rattle.trees.proofs.Slots.{child_low}
use Rattle.signs.specs.Seen.{Seen, seen}
use Rattle.signs.specs.Signs.{behind_s}
use Rattle.signs.proofs.SignAt.{no_leaf, behind_flat, behind_down, in_upper, shown_sign}
use Rattle.signs.proofs.fill.UpperCarry.behind.Goals as goal

pub child-requires : goal.child-requires
child-requires c = in_upper c.args.self.stands c.requires.1

pub behind_flat-requires : goal.behind_flat-requires
behind_flat-requires c = in_upper c.args.self.stands c.requires.1

pub returns-in_default : goal.returns-in_default
returns-in_default c =
    let t = c.args.self in
    shown_sign (λ (q : Seen) (g : Bool). c.behind_flat.result ≡ behind_s (below t.level) q.n (seen q c.args.slots.now) q.x c.args.k g)
    (λ book. behind_flat _ _ t.level _ _ (no_leaf t.above) _ c.in_default.is (c.child.ensures book) (c.behind_flat.ensures book))

pub overflow_add-c : goal.overflow_add-c
overflow_add-c c = omega (arith, child_low _ _ [] (in_upper c.args.self.stands c.requires.1) (sym c.in-Some.is ∙ c.child.ensures []), c.args.self.fit.most)

pub sign_of-requires : goal.sign_of-requires
sign_of-requires c =
    let t = c.args.self in
    let l = child_low _ _ [] (in_upper t.stands c.requires.1) (sym c.in-Some.is ∙ c.child.ensures []) in
    (stands_below t.stands (no_leaf t.above) _ l, cell_in l _ _ refl (omega arith))

pub returns : goal.returns
returns c =
    let t = c.args.self in
    shown_sign (λ (q : Seen) (g : Bool). c.sign_of.result ≡ behind_s (below t.level) q.n (seen q c.args.slots.now) q.x c.args.k g)
    (λ book. behind_down _ _ t.level _ _ (no_leaf t.above) _ c.in-Some.is (c.child.ensures book) (c.sign_of.ensures book))
