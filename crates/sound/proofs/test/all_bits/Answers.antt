use Rattle.std.proofs.Common.{rules, ◌≡◌, arith}
use mathlib.Core.Path.{ap, ◌∙◌}
use Prim.Native.Nat.{ℕ}
use lib.ListN.{get_or}
use Rattle.std.specs.List.{sum_by}
use Rattle.std.proofs.lemmas.Iterator.{YieldsList-from_slice}
use Rattle.std.proofs.lemmas.Iterator.Adapters.{fits_from_length, at_most_from_yields_List}
use Rattle.bitset.specs.Set.{word_bit}
use Rattle.grid.specs.Node.{sum}
use Rattle.sound.specs.Links.{tally}
use Rattle.sound.proofs.Tally.{tally_most}
use Rattle.sound.proofs.Chains.{list_sum}
use Rattle.sound.proofs.test.all_bits.Goals as goal

pub sum-requires-clause-fits : goal.sum-requires-clause-fits
sum-requires-clause-fits c =
    fits_from_length _ _ 64 _ (at_most_from_yields_List (YieldsList-from_slice c.args.words.now cc) (omega arith)) c.map.ensures.closure (omega arith)
    (λ x r q k. let e : r ≡ tally (word_bit x.now) 64 = search rules in (search rules, omega (arith, tally_most (word_bit x.now) 64)))

pub returns : goal.returns
returns c =
    let e : c.sum.result ≡ sum_by (λ w. tally (word_bit w) 64) c.args.words.now = search rules in
    e ∙ list_sum 0 (λ w. tally (word_bit w) 64) c.args.words.now ∙ ap (λ (m : ℕ). sum m (λ j. tally (word_bit (get_or c.args.words.now j 0)) 64)) c.requires
