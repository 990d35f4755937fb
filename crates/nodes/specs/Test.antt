-- The test that a pool is sound, place by place: each cell, each place of the stack and each slot is looked at once. Assumes nothing.
use Rattle.std.specs.Prelude.{Bool, true, not, cond, ◌&&◌, ℕ, ◌+◌, ◌-◌, ◌/◌, ◌%◌, ltb, leb, eqb}
use Rattle.floats.specs.Value.{is_finite}
use Rattle.bitset.specs.Set.{every}
use Rattle.nodes.specs.State.{St, wide, linked}

-- node x may have branches; it counts
abbrev pub fork_b : St → ℕ → Bool
fork_b s x = cond (ltb x 8) true (leb 65536 (s.tag (x - 8)) && ltb (s.tag (x - 8)) 69632)

abbrev pub live_b : St → ℕ → Bool
live_b s x = cond (ltb x 8) true (leb 65536 (s.tag (x - 8)))

-- place i of the stack names a cell whose use mark is i
abbrev pub stacked_b : ℕ → St → ℕ → Bool
stacked_b n s i = ltb (s.stack i) n && eqb (s.tag (s.stack i)) i

abbrev pub link_b : ℕ → St → ℕ → ℕ → Bool
link_b n s x k = ltb (s.slot x k) n && (eqb (s.tag (s.slot x k)) (linked x k) && not (s.val x k))

-- the slot that the use mark u names is one that may be a branch, and links to cell c
abbrev pub held_b : ℕ → St → ℕ → ℕ → Bool
held_b n s c u =
    let x = (u - 65536) / 512 in
    let k = (u - 65536) % 512 in
    ltb x (8 + n) && (ltb k (wide x) && (fork_b s x && (s.kid x k && eqb (s.slot x k) c)))

abbrev pub cell_b : ℕ → St → ℕ → Bool
cell_b n s c = cond (ltb (s.tag c) 65536) (ltb (s.tag c) s.count && eqb (s.stack (s.tag c)) c) (held_b n s c (s.tag c))

abbrev pub slot_b : ℕ → St → ℕ → ℕ → Bool
slot_b n s x k = cond (fork_b s x && s.kid x k) (link_b n s x k) (cond (live_b s x) (is_finite (s.slot x k)) true)

unfoldable pub node_b : ℕ → St → ℕ → Bool
node_b n s x = every (slot_b n s x) (wide x)

unfoldable pub sound_b : ℕ → St → Bool
sound_b n s =
    leb s.count n
    && (every (λ t. ltb (s.mark t) 2) 8 && (every (stacked_b n s) s.count && (every (cell_b n s) n && every (node_b n s) (8 + n))))
