use Rattle.std.proofs.Common.{rules, ◌≡◌}
use Rattle.std.specs.List.{fold}
use mathlib.Core.Path.{ap, ◌∙◌}
use mathlib.Core.Bool.{not}
use Rattle.floats.specs.Value.{negative}
use Rattle.sound.proofs.Groups.{join, join_every}
use Rattle.sound.proofs.test.finite.Goals as goal

pub returns : goal.returns
returns c =
    let e : c.fold-all.result ≡ fold join 0 c.args.words.now = search rules in
    ap not (c.negative_word.ensures ∙ ap negative e) ∙ join_every c.args.words.now 64 c.requires
