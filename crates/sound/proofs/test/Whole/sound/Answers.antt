use mathlib.Core.Path.{sym, ◌∙◌}
use native.Mathlib.Omega.{arith}
use Rattle.sound.specs.Whole.{state}
use Rattle.sound.proofs.Checks.{count_fails, marks_fail, stack_fails, links_fail, tops_fail, cells_say}
use Rattle.sound.proofs.Own.{own_stack, own_forks, own_nodes}
use Rattle.sound.proofs.test.Whole.sound.Goals as goal

pub returns-then-self-count : goal.returns-then-self-count
returns-then-self-count c = count_fails _ _ (omega arith)

pub returns-then-not-all_marks : goal.returns-then-not-all_marks
returns-then-not-all_marks c = marks_fail _ _ (omega arith) (sym c.all_marks.ensures ∙ c.if-not-all_marks.true)

pub all_stacked-requires : goal.all_stacked-requires
all_stacked-requires c =
    let u = c.untouched-from.ensures in
    record { few = omega arith; below = u.below; passed = own_stack _ (state c.args.self.now) c.args.self.now.fits.most (omega arith) _ u.below u.own }

pub returns-then-not-all_stacked : goal.returns-then-not-all_stacked
returns-then-not-all_stacked c = stack_fails _ _ (omega arith) (sym c.all_marks.ensures ∙ c.if-not-all_marks.false) (sym c.all_stacked.ensures ∙ c.if-not-all_stacked.true)

pub counted-requires : goal.counted-requires
counted-requires c =
    let u = c.untouched-from.ensures in
    record { few = omega arith; below = omega arith; bare = own_forks _ (state c.args.self.now) c.args.self.now.fits.most (omega arith) _ u.below u.own }

pub returns-then-not-counted : goal.returns-then-not-counted
returns-then-not-counted c =
    links_fail _ _ (omega arith) (sym c.all_marks.ensures ∙ c.if-not-all_marks.false) (sym c.all_stacked.ensures ∙ c.if-not-all_stacked.false) c.args.self.now.fits.most
    (sym c.counted.ensures ∙ c.if-not-counted.true)

pub returns-then-not-tops : goal.returns-then-not-tops
returns-then-not-tops c =
    tops_fail _ _ (omega arith) (sym c.all_marks.ensures ∙ c.if-not-all_marks.false) (sym c.all_stacked.ensures ∙ c.if-not-all_stacked.false) c.args.self.now.fits.most
    (sym c.counted.ensures ∙ c.if-not-counted.false) (sym c.tops.ensures ∙ c.if-not-tops.true)

pub all_cells-requires : goal.all_cells-requires
all_cells-requires c =
    let u = c.untouched-from.ensures in
    record { below = omega arith; passed = own_nodes _ (state c.args.self.now) c.args.self.now.fits.most (omega arith) _ u.below u.own }

pub returns : goal.returns
returns c =
    cells_say _ _ (omega arith) (sym c.all_marks.ensures ∙ c.if-not-all_marks.false) (sym c.all_stacked.ensures ∙ c.if-not-all_stacked.false) c.args.self.now.fits.most
    (sym c.counted.ensures ∙ c.if-not-counted.false) (sym c.tops.ensures ∙ c.if-not-tops.false) _ c.all_cells.ensures
