-- Two memories that hold the same, but for what no answer shows: the numbers of the cells, what a free cell holds, and a leaf's child word. Assumes nothing.
use Rattle.std.specs.Prelude.{◌≡◌, true, false, ℕ, zero, suc, ◌+◌, ◌<◌}
use Rattle.nodes.specs.State.{St}
use Rattle.means.specs.Level.{span}
use Rattle.means.specs.Mem.{Mem, lens_of, pool_of}

-- slot k of node x in s, and of node x' in s': the same bits, the same value where it is no branch, and where it is one, cells that are twins
pub record SlotTwin (Cells : ℕ → ℕ → Type 0) (s : St) (x : ℕ) (s' : St) (x' k : ℕ) : Type 0 where
  pub kid : s.kid x k ≡ s'.kid x' k
  pub val : s.val x k ≡ s'.val x' k
  pub word : s.kid x k ≡ false → s.slot x k ≡ s'.slot x' k
  pub cell : s.kid x k ≡ true → Cells (8 + s.slot x k) (8 + s'.slot x' k)

-- node x in s, and node x' in s', both of level l: a leaf has values alone
abbrev pub Twin : ℕ → St → ℕ → St → ℕ → Type 0
Twin zero s x s' x' = (k : ℕ) → k < span 0 → (s.slot x k ≡ s'.slot x' k) × (s.val x k ≡ s'.val x' k)
Twin (suc l) s x s' x' = (k : ℕ) → k < span (suc l) → SlotTwin (λ y y'. Twin l s y s' y') s x s' x' k

pub record Twins (s s' : St) : Type 0 where
  pub tops : (t : ℕ) → t < 8 → Twin 2 s t s' t
  pub count : s.count ≡ s'.count
  pub marks : (t : ℕ) → t < 8 → s.mark t ≡ s'.mark t

abbrev pub TwinMem : Mem → Mem → Type 0
TwinMem m m' = (lens_of m' ≡ lens_of m) × Twins (pool_of m) (pool_of m')
