use mathlib.Core.Path.{ap, ◌∙◌}
use native.Mathlib.Omega.{arith}
use Prim.Native.Nat.{ℕ, ◌+◌}
use lib.ListN.{get_or}
use Rattle.floats.specs.Value.{is_finite}
use Rattle.bitset.specs.Set.{every}
use Rattle.bitset.proofs.Every.{every_alike}
use Rattle.sound.proofs.Book.{word_in}
use Rattle.sound.proofs.Groups.{run_fits, values_are}
use Rattle.sound.proofs.test.Whole.values.Goals as goal

pub overflow_add-p : goal.overflow_add-p
overflow_add-p c = omega (arith, c.word_of-p.ensures, run_fits _ c.requires)

pub offset_bounds-self-p : goal.offset_bounds-self-p
offset_bounds-self-p c = omega (arith, c.word_of-p.ensures, run_fits _ c.requires)

pub slice_bounds-finite-end : goal.slice_bounds-finite-end
slice_bounds-finite-end c = omega (arith, c.word_of-p.ensures, run_fits _ c.requires)

pub returns : goal.returns
returns c =
    let slots = c.args.self.now.slots.now in
    c.finite.ensures
    ∙ every_alike _ _ 64 (λ i l. ap is_finite (word_in slots c.word_of-p.result (c.word_of-p.result + 64) i (omega arith)))
    ∙ ap (λ (p : ℕ). every (λ i. is_finite (get_or slots (p + i) 0)) 64) c.word_of-p.ensures
    ∙ values_are _ c.requires slots _ _
