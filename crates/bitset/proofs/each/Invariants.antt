use Prim.Native.Nat.{ℕ, ◌<◌, ◌≤◌}
use mathlib.Core.Path.{◌≡◌}
use lib.ListN.{get_or}
use Rattle.bitset.proofs.each.Given as goal

abbrev pub invariant-loop-q : goal.invariant-loop-q
invariant-loop-q g l =
    record {
      done : (p : ℕ) → p < l.q → goal.F-post g l.word p (get_or l.initial.ws p 0) (get_or l.ws p 0);
      left : (p : ℕ) → l.q ≤ p → get_or l.ws p 0 ≡ get_or l.initial.ws p 0;
    }
