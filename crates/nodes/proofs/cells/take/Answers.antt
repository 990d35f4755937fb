use mathlib.Core.Path.{refl}
use mathlib.Core.List.{[]}
use Rattle.nodes.proofs.Books.{take_low, take_by}
use Rattle.nodes.proofs.cells.take.Goals as goal

pub returns : goal.returns
returns c = (
  take_low _ _ [] c.requires.0 [] [] c.requires.1 c.count-last.ensures c.stacked-c.ensures,
  λ slots masks. take_by _ _ _ c.requires.0 slots masks c.requires.1 c.count-last.ensures
      c.stacked-c.ensures _ _ refl,
)
