-- `bitset::none_on` meets its contract. Assumes nothing.
use mathlib.Core.Path.{◌≡◌, subst}
use Prim.Native.Nat.{◌-◌}
use native.Mathlib.Omega.{arith}
use Rattle.bitset.proofs.Every.{Gathered, gather_none, gather_more, gather_all}
use Rattle.bitset.proofs.none_on.Goals as goal

pub loop-q-init : goal.loop-q-init
loop-q-init g c = λ on h. gather_none on _

pub loop-q-preserved : goal.loop-q-preserved
loop-q-preserved g c = λ on h. gather_more on c.loop-q.q (c.loop-q.invariant on h) c.word-joined.type_inv (h _ _ (omega arith) c.word-joined.ensures)

pub returns : goal.returns
returns g c = λ on h.
    let e : c.loop-q.q ≡ c.args.words - 1 = omega arith in
    gather_all on c.unused_mask.result c.requires.sized c.unused_mask.ensures c.word.type_inv (h _ _ (omega arith) c.word.ensures)
    (subst (Gathered on _ _) e (c.loop-q.invariant on h))
