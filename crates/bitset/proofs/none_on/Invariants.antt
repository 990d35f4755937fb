use Prim.Native.Nat.{ℕ, ◌<◌}
use mathlib.Core.Bool.{Bool}
use Rattle.bitset.specs.Set.{Has}
use Rattle.bitset.proofs.Every.{Gathered}
use Rattle.bitset.proofs.none_on.Given as goal

abbrev pub invariant-loop-q : goal.invariant-loop-q
invariant-loop-q g l =
    (on : ℕ → Bool) → ((q w : ℕ) → q < l.words → goal.F-post g l.word q w → Has on q w) → Gathered on l.initial.joined l.joined l.q
