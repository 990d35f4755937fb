-- What no call does to a slot, on any pool, sound or not: "No call puts a NaN or an infinite value into a grid". Assumes nothing.
use Rattle.std.specs.Prelude.{◌≡◌, true, ◌⊎◌, ℕ}
use Rattle.floats.specs.Value.{is_finite}
use Rattle.nodes.specs.State.{St}

-- from s to r, slot k of node x holds the word it held, is a branch exactly if it was, and is active only if it was
pub record Still (s r : St) (x k : ℕ) : Type 0 where
  pub slot : r.slot x k ≡ s.slot x k
  pub kid : r.kid x k ≡ s.kid x k
  pub val : r.val x k ≡ true → s.val x k ≡ true

-- no slot has got a word that is not finite, and none that holds such a word has become active or a branch
abbrev pub Unspoilt : St → St → Type 0
Unspoilt s r = (x k : ℕ) → Still s r x k ⊎ (is_finite (r.slot x k) ≡ true)
