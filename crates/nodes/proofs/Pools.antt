-- What three slices hold once a pool lends them no more. Assumes nothing.
use mathlib.Core.Path.{◌≡◌, sym}
use mathlib.Core.List.{List}
use Prim.Native.Nat.{ℕ}
use Rattle.nodes.specs.declared.pool.Pool.{Pool}
use Rattle.nodes.specs.Layout.{st}
use Rattle.nodes.specs.Pool.{state}

pub st_by : (p : Pool) {n : ℕ} {slots masks book : List ℕ} → p.n ≡ n → slots ≡ p.slots.now → masks ≡ p.masks.now → book ≡ p.book.now → st n slots masks book ≡ state p
unfolding state
st_by p e a b c = λ i. st (sym e i) (a i) (b i) (c i)
