-- The test of a slot, where it is known what its node is. Assumes nothing.
use Rattle.std.specs.Prelude.{Bool, true, cond, ℕ, ◌+◌, ◌*◌}
use Rattle.floats.specs.Value.{is_finite}
use Rattle.bitset.specs.Set.{every}
use Rattle.nodes.specs.State.{St}
use Rattle.nodes.specs.Test.{link_b}

-- of a node that has values alone
abbrev pub value_b : St → ℕ → ℕ → Bool
value_b s x k = is_finite (s.slot x k)

-- of a node that may have branches; the part of it that is of branches alone
abbrev pub either_b : ℕ → St → ℕ → ℕ → Bool
either_b n s x k = cond (s.kid x k) (link_b n s x k) (value_b s x k)

abbrev pub branch_b : ℕ → St → ℕ → ℕ → Bool
branch_b n s x k = cond (s.kid x k) (link_b n s x k) true

-- each slot of group j passes p: the 64 from slot 64 * j on, which have a word in each mask
abbrev pub group : (ℕ → Bool) → ℕ → Bool
group p j = every (λ i. p (64 * j + i)) 64
