use Rattle.std.proofs.Common.{rules, arith, ◌+◌}
use Rattle.std.proofs.lemmas.Iterator.{YieldsList-from_zip, YieldsList-from_slice, YieldsList-from_range}
use Rattle.std.proofs.lemmas.Iterator.Consumers.{YieldsList-at, fold_from_yields_List}
use mathlib.Core.Path.{◌∙◌}
use mathlib.Core.Bool.{true, ◌&&◌}
use lib.Dec.{eqb}
use Rattle.sound.proofs.Own.{turn_every}
use Rattle.sound.proofs.test.in_turn.Goals as goal

pub returns : goal.returns
returns c =
    let pairs = YieldsList-from_zip (YieldsList-from_slice c.args.tags.now cc) (YieldsList-from_slice c.args.places.now c.zip.ensures.second.0) in
    let all = YieldsList-from_zip (YieldsList-at c.zip-all.ensures.first pairs) (YieldsList-from_range c.args.first (c.args.first + 64) 64 c.zip-all.ensures.second (omega arith)) in
    fold_from_yields_List _ (λ a w. (a && eqb w.0.0 w.1) && eqb w.0.1 w.1) true _ c.fold.ensures.ran all (λ a x b f k. search rules)
    ∙ turn_every c.args.tags.now c.args.places.now c.args.first 64 c.requires.tags c.requires.places
