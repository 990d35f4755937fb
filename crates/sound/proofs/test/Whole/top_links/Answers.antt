use native.Mathlib.Omega.{arith}
use mathlib.Core.Path.{sym, ap, ◌∙◌}
use Prim.Native.Nat.{ℕ}
use Rattle.std.proofs.lemmas.List.{length-take-le, get_or-take}
use Rattle.bitset.specs.Set.{word_bit}
use Rattle.grid.proofs.Places.{sum_same}
use Rattle.sound.specs.Links.{tally}
use Rattle.sound.proofs.Links.{top_links}
use Rattle.sound.proofs.test.Whole.top_links.Goals as goal

pub slice_bounds-all_bits-end : goal.slice_bounds-all_bits-end
slice_bounds-all_bits-end c = sym (length-take-le 64 c.args.self.now.masks.now (omega arith))

pub all_bits-requires : goal.all_bits-requires
all_bits-requires c = length-take-le 64 c.args.self.now.masks.now (omega arith)

pub returns : goal.returns
returns c =
    let masks = c.args.self.now.masks.now in
    c.all_bits.ensures ∙ sum_same 64 _ _ (λ j l. ap (λ (w : ℕ). tally (word_bit w) 64) (get_or-take 64 masks j 0 l)) ∙ top_links _ _ masks _
