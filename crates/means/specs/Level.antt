-- The nodes of a pool by level, 0 a leaf, 1 a middle node and 2 a top, and the relation in which every change of one node stands. Assumes nothing.
use Rattle.std.specs.Prelude.{◌≡◌, Bool, true, cond, List, ◌∷◌, ◌⊎◌, ℕ, zero, suc, ◌+◌, ◌-◌, ◌<◌, ◌≤◌}
use Rattle.grid.specs.Node.{tile, hidden, Node, size}
use Rattle.nodes.specs.State.{St, Middle, Live, Sound, tree}
use Rattle.nodes.specs.Walk.{branching, below}
use Rattle.means.specs.Unspoilt.{Unspoilt}

-- a node of level l: its branchings, its own first; the number of its slots; what it stands for
abbrev pub levels : ℕ → List ℕ
levels l = branching l ∷ below l

abbrev pub span : ℕ → ℕ
span l = size (branching l)

abbrev pub tree_at : (l : ℕ) → St → ℕ → Node (levels l)
tree_at l s x = tree (branching l) (below l) s x

-- a node whose slots are all alike: they hold u, active or hidden as a says
abbrev pub filled : (l u : ℕ) → Bool → Node (levels l)
filled l u a = λ _. cond a (tile u) (hidden u)

-- node x is one of level l
abbrev pub At : ℕ → St → ℕ → ℕ → Type 0
At n s zero x = (8 ≤ x) × (x < 8 + n) × (69632 ≤ s.tag (x - 8))
At n s (suc zero) x = (8 ≤ x) × (x < 8 + n) × Middle s (x - 8)
At n s (suc (suc l)) x = (x < 8) × (l ≡ 0)

-- node y is in the tree of node x: it is x, or in the tree below one of its branches
abbrev pub In : ℕ → St → ℕ → ℕ → Type 0
In zero s x y = y ≡ x
In (suc l) s x y = (y ≡ x) ⊎ ((k : ℕ) × (k < span (suc l)) × (s.kid x k ≡ true) × In l s (8 + s.slot x k) y)

-- two states have the same in slot k of node y; in all of its slots
pub record Equal (s r : St) (y k : ℕ) : Type 0 where
  pub slot : s.slot y k ≡ r.slot y k
  pub kid : s.kid y k ≡ r.kid y k
  pub val : s.val y k ≡ r.val y k

abbrev pub Same : St → St → ℕ → Type 0
Same s r y = (k : ℕ) → Equal s r y k

-- and, if it is a cell, the same use mark
pub record Kept (s r : St) (y : ℕ) : Type 0 where
  pub slots : Same s r y
  pub tag : 8 ≤ y → s.tag (y - 8) ≡ r.tag (y - 8)

-- node y counts, and is not in the tree of node x
pub record Outside (n l : ℕ) (s : St) (x y : ℕ) : Type 0 where
  pub inside : y < 8 + n
  pub live : Live s y
  pub out : In l s x y → ⊥

-- from s to r, node x of level l has become g, nothing outside its tree has changed or come into it, and no slot is spoilt
pub record Turned (n l x : ℕ) (s r : St) (g : Node (levels l)) : Type 0 where
  pub sound : Sound n r
  pub at : At n r l x
  pub grid : tree_at l r x ≡ g
  pub keep : (y : ℕ) → Outside n l s x y → Kept s r y
  pub within : (y : ℕ) → Outside n l s x y → In l r x y → ⊥
  pub marks : r.mark ≡ s.mark
  pub unspoilt : Unspoilt s r
