use native.Mathlib.Omega.{arith}
use Rattle.sound.specs.Whole.{state}
use Rattle.sound.proofs.Links.{links_few}
use Rattle.sound.proofs.test.Whole.counted.Goals as goal

pub overflow_add-result : goal.overflow_add-result
overflow_add-result c = omega (arith, links_few (state c.args.self.now) c.args.self.now.n)
