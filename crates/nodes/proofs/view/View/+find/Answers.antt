use mathlib.Core.Path.{refl, sym, ◌∙◌}
use mathlib.Core.List.{[]}
use Prim.Native.Nat.{◌+◌, ◌%◌}
use native.Mathlib.Omega.{arith}
use Rattle.nodes.specs.Layout.{st}
use Rattle.nodes.proofs.Places.{cell_in}
use Rattle.nodes.proofs.Seeks.{path_slot, path_rest, cell_word, lead_in, told_go, told_here, told_out, told_leaf}
use Rattle.nodes.proofs.view.View.+find.Goals as goal

pub returns-then-level-eq0 : goal.returns-then-level-eq0
returns-then-level-eq0 t c = λ book p e.
    let a = c.args in
    told_leaf _ _ a.level _ p (path_slot a.level a.t p c.requires.0 e) c.if-level-eq0.true (cell_word a.c (a.t % 64))

pub find-requires : goal.find-requires
find-requires t c =
    let a = c.args in
    let k = a.t % 64 in
    let h = c.if-level-eq0.false in
    let v = a.self.now in
    let l = lead_in v.n (st v.n v.slots.now v.masks.now []) (8 + a.c) k (sym c.in-Cell.is ∙ c.leads.ensures [] (8 + a.c) k (cell_in c.requires.1 (8 + a.c) k refl (omega arith)) (cell_word a.c k)) in
    (omega arith, (omega (arith, c.requires.0), omega (arith, l)))

pub returns-in-Cell : goal.returns-in-Cell
returns-in-Cell t c = λ book p e.
    let a = c.args in
    let k = a.t % 64 in
    told_go _ _ a.level _ p (path_slot a.level a.t p c.requires.0 e) c.if-level-eq0.false
    (sym c.in-Cell.is ∙ c.leads.ensures book (8 + a.c) k (cell_in c.requires.1 (8 + a.c) k refl (omega arith)) (cell_word a.c k))
    (c.find.ensures book p (path_rest a.level a.t p c.requires.0 c.if-level-eq0.false e))

pub returns-in-Here : goal.returns-in-Here
returns-in-Here t c = λ book p e.
    let a = c.args in
    let k = a.t % 64 in
    told_here _ _ a.level _ p (path_slot a.level a.t p c.requires.0 e) c.if-level-eq0.false
    (sym c.in-Here.is ∙ c.leads.ensures book (8 + a.c) k (cell_in c.requires.1 (8 + a.c) k refl (omega arith)) (cell_word a.c k)) (cell_word a.c k)

pub returns-in-Broken : goal.returns-in-Broken
returns-in-Broken t c = λ book p e.
    let a = c.args in
    let k = a.t % 64 in
    told_out _ _ a.level _ p (path_slot a.level a.t p c.requires.0 e) c.if-level-eq0.false
    (sym c.in-Broken.is ∙ c.leads.ensures book (8 + a.c) k (cell_in c.requires.1 (8 + a.c) k refl (omega arith)) (cell_word a.c k))
