use Rattle.nodes.specs.Pool.{state}
use Rattle.nodes.proofs.States.{booked_of}
use Rattle.nodes.proofs.Books.{spare_of}
use Rattle.nodes.proofs.Changes.{claim_by}
use Rattle.nodes.proofs.pool.Pool.claim.Goals as goal

pub take-c-requires : goal.take-c-requires
unfolding state
take-c-requires c = (booked_of c.args.self.now.sized, spare_of _ _ _ _ c.requires.1, c.requires.0)

pub returns-clause-turned : goal.returns-clause-turned
unfolding state
returns-clause-turned c = let t = c.take-c.ensures.1 _ _ in claim_by _ _ _ t.1 t.0 c.set_slot.ensures.turned

pub returns-clause-cell : goal.returns-clause-cell
unfolding state
returns-clause-cell c = (c.take-c.ensures.0, (c.take-c.ensures.1 _ _).1)
