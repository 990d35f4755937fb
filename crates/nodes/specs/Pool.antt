-- The pool that three lent slices hold. Assumes nothing.
use Rattle.std.specs.Prelude.{◌≡◌}
use Rattle.nodes.specs.declared.pool.Pool.{Pool}
use Rattle.nodes.specs.State.{St}
use Rattle.nodes.specs.Layout.{st}

unfoldable pub state : Pool → St
state p = st p.n p.slots.now p.masks.now p.book.now

-- what stays as it is while the pool p becomes q: the number of cells, and which slices they are
pub record Same (p q : Pool) : Type 0 where
  pub n : q.n ≡ p.n
  pub slots : q.slots.ghost_name ≡ p.slots.ghost_name
  pub masks : q.masks.ghost_name ≡ p.masks.ghost_name
  pub book : q.book.ghost_name ≡ p.book.ghost_name
