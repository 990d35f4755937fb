use native.Mathlib.Omega.{arith}
use Rattle.sound.proofs.Ready.{emptied}
use Rattle.sound.proofs.prepare.empty_tops.Goals as goal

pub returns : goal.returns
returns c =
    emptied c.args.n c.args.masks.now c.zeroes.new.ws c.zeroes-2.new.ws c.requires.masks_fit (omega arith) (omega arith) c.zeroes.ensures c.zeroes-2.ensures
