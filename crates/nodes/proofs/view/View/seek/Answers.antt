use mathlib.Core.Path.{sym, ◌∙◌}
use mathlib.Core.List.{[]}
use Prim.Native.Nat.{◌%◌}
use native.Mathlib.Omega.{arith}
use Rattle.nodes.specs.Layout.{st}
use Rattle.nodes.proofs.Seeks.{path_top, top_in, top_word, lead_in, told_go, told_here, told_out}
use Rattle.nodes.proofs.view.View.seek.Goals as goal

pub find-requires : goal.find-requires
find-requires c =
    let a = c.args in
    let v = a.self.now in
    let l = lead_in v.n (st v.n v.slots.now v.masks.now []) a.seat (a.t % 512)
    (sym c.in-Cell.is ∙ c.leads.ensures [] a.seat (a.t % 512) (top_in _ a.seat a.t c.requires.0) (top_word a.seat a.t c.requires.0)) in
    (omega arith, omega (arith, l))

pub returns-in-Cell : goal.returns-in-Cell
returns-in-Cell c book p e =
    let a = c.args in
    let d = path_top a.t p e in
    told_go _ _ 2 a.seat p d.0 (λ z. omega arith)
    (sym c.in-Cell.is ∙ c.leads.ensures book a.seat (a.t % 512) (top_in _ a.seat a.t c.requires.0) (top_word a.seat a.t c.requires.0)) (c.find.ensures book p d.1)

pub returns-in-Here : goal.returns-in-Here
returns-in-Here c book p e =
    let a = c.args in
    let w = top_word a.seat a.t c.requires.0 in
    told_here _ _ 2 a.seat p (path_top a.t p e).0 (λ z. omega arith) (sym c.in-Here.is ∙ c.leads.ensures book a.seat (a.t % 512) (top_in _ a.seat a.t c.requires.0) w) w

pub returns-in-Broken : goal.returns-in-Broken
returns-in-Broken c book p e =
    let a = c.args in
    let w = top_word a.seat a.t c.requires.0 in
    told_out _ _ 2 a.seat p (path_top a.t p e).0 (λ z. omega arith) (sym c.in-Broken.is ∙ c.leads.ensures book a.seat (a.t % 512) (top_in _ a.seat a.t c.requires.0) w)
