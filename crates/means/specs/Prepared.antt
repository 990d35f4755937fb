-- What preparing a pool of n cells leaves. Of the cells' own slots nothing is said. Assumes nothing.
use Rattle.std.specs.Prelude.{◌≡◌, false, ℕ, ◌<◌}
use Rattle.floats.specs.Value.{far}
use Rattle.nodes.specs.State.{St}

-- "Preparing it frees every cell and empties every seat": cell c is at place c of the stack, so that the last cell is taken first
pub record Ready (n : ℕ) (s : St) : Type 0 where
  pub all_free : s.count ≡ n
  pub placed : (i : ℕ) → i < n → s.stack i ≡ i
  pub tagged : (c : ℕ) → c < n → s.tag c ≡ c
  pub no_branch : (t k : ℕ) → t < 8 → k < 512 → s.kid t k ≡ false
  pub no_tile : (t k : ℕ) → t < 8 → k < 512 → s.val t k ≡ false
  pub all_far : (t k : ℕ) → t < 8 → k < 512 → s.slot t k ≡ far
  pub unmarked : (t : ℕ) → t < 8 → s.mark t ≡ 0
