use mathlib.Core.Path.{◌∙◌}
use Rattle.nodes.specs.Pool.{state}
use Rattle.nodes.proofs.States.{cells_of, word_may, kid_may, val_may}
use Rattle.nodes.proofs.Changes.{slot_step}
use Rattle.nodes.proofs.pool.Pool.set_slot.Goals as goal

pub set_word-requires : goal.set_word-requires
set_word-requires c = word_may (cells_of c.args.self.now.sized) c.requires

pub set_kid-requires : goal.set_kid-requires
set_kid-requires c = kid_may (cells_of c.args.self.now.sized) c.requires

pub set_val-requires : goal.set_val-requires
set_val-requires c =
    let m = val_may (cells_of c.args.self.now.sized) c.requires in
    (record { most = m.0.most; masks_fit = c.set_kid.auto.masks ∙ m.0.masks_fit }, m.1)

pub returns-clause-turned : goal.returns-clause-turned
unfolding state
returns-clause-turned c = slot_step _ _ _ _ _ _ _ _ _ _ (cells_of c.args.self.now.sized) c.requires c.set_word.ensures c.set_kid.ensures c.set_val.ensures
