use Rattle.std.proofs.Common.{rules, take}
use mathlib.Core.Path.{sym, ap, ◌∙◌}
use native.Mathlib.Omega.{arith}
use Prim.Native.Nat.{ℕ}
use lib.Dec.{ltb}
use lib.ListN.{get_or}
use Rattle.std.proofs.lemmas.Iterator.{YieldsList-from_slice}
use Rattle.std.proofs.lemmas.Iterator.Search.{all_from_yields_List}
use Rattle.std.proofs.lemmas.List.{length-take-le, get_or-take}
use Rattle.bitset.specs.Set.{every}
use Rattle.bitset.proofs.Every.{every_alike}
use Rattle.sound.proofs.Chains.{list_every}
use Rattle.sound.proofs.Checks.{mark_test}
use Rattle.sound.proofs.test.Whole.all_marks.Goals as goal

pub returns : goal.returns
returns c =
    let book = c.args.self.now.book.now in
    all_from_yields_List (λ m. ltb m 2) _ _ _ c.all.ensures.ran (YieldsList-from_slice (take 8 book) cc) (λ x b q k. search rules)
    ∙ list_every 0 (λ m. ltb m 2) (take 8 book)
    ∙ ap (every (λ i. ltb (get_or (take 8 book) i 0) 2)) (length-take-le 8 book (omega arith))
    ∙ every_alike _ _ 8 (λ t l. ap (λ (m : ℕ). ltb m 2) (get_or-take 8 book t 0 l) ∙ sym (mark_test _ _ _ book t l))
