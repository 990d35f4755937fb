use mathlib.Core.Path.{sym, ◌∙◌}
use Rattle.nodes.specs.Place.{seen}
use Rattle.nodes.proofs.Paths.{top_stands}
use Rattle.sound.proofs.Book.{st_count}
use Rattle.pool.proofs.Pairs.{room_9, room_0}
use Rattle.pool.proofs.pair.room.Goals as goal

pub reached-requires : goal.reached-requires
reached-requires c = top_stands _ _ c.requires.1

pub returns-then-count-reached : goal.returns-then-count-reached
returns-then-count-reached c =
    let a = c.args in
    let v = a.pool.now in
    room_9 v.n (seen v a.book.now) a.from a.to (sym (c.both_empty.ensures _ _) ∙ c.if-not-both_empty.false) (c.reached.ensures _)
    (c.count.ensures ∙ sym (st_count _ v.slots.now v.masks.now a.book.now)) c.if-count-reached.true

pub returns : goal.returns
returns c =
    let a = c.args in
    let v = a.pool.now in
    room_0 v.n (seen v a.book.now) a.from a.to (sym (c.both_empty.ensures _ _) ∙ c.if-not-both_empty.false) (c.reached.ensures _)
    (c.count.ensures ∙ sym (st_count _ v.slots.now v.masks.now a.book.now)) c.if-count-reached.false
