use mathlib.Core.Path.{◌∙◌}
use native.Mathlib.Omega.{arith}
use Rattle.std.proofs.Common.{ne_eqb}
use Rattle.nodes.proofs.Places.{placed}
use Rattle.sound.proofs.Checks.{link_out, link_other, link_back}
use Rattle.sound.proofs.test.Whole.link.Goals as goal

pub word-c-requires : goal.word-c-requires
word-c-requires c = placed c.args.self.now.fits.most c.requires _ (omega arith)

pub returns-then-self-c : goal.returns-then-self-c
returns-then-self-c c = link_out _ _ _ c.requires _ c.word-c.ensures c.if-self-c.true

pub val-requires : goal.val-requires
val-requires c =
    (record { most = c.args.self.now.fits.most; masks_fit = c.args.self.now.fits.masks_fit }, placed c.args.self.now.fits.most c.requires _ (omega arith))

pub returns-then-tag-x : goal.returns-then-tag-x
returns-then-tag-x c = link_back _ _ _ c.requires _ c.word-c.ensures c.if-self-c.false _ c.tag.ensures c.if-tag-x.true _ c.val.ensures

pub returns-else-tag-x : goal.returns-else-tag-x
returns-else-tag-x c = ne_eqb _ _ c.if-tag-x.false ∙ link_other _ _ _ c.requires _ c.word-c.ensures c.if-self-c.false _ c.tag.ensures c.if-tag-x.false
