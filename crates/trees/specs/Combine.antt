-- Node y joined into node x, slot by slot, on any state, sound or not, by the tables of the meaning. Assumes nothing.
use Rattle.std.specs.Prelude.{◌≡◌, Bool, true, false, cond, ◌||◌, List, [], ◌∷◌, ℕ, ◌+◌, ◌*◌, ◌<◌, get_or}
use Rattle.std.specs.Bool.{beq}
use Rattle.floats.specs.Value.{is_finite, negative, far, far_with}
use Rattle.grid.specs.Node.{size}
use Rattle.grid.specs.Combine.{Operation, union, subtract, intersect, joined, stays_with, settled_by}
use Rattle.nodes.specs.State.{St, linked}
use Rattle.nodes.specs.Change.{at1, at2, put_s}
use Rattle.nodes.specs.Each.{each_s}
use Rattle.nodes.specs.Wipe.{wipe_at, emptied_m}
use Rattle.trees.specs.Turn.{turn_m}
use Rattle.trees.specs.declared.take.Join.{Join}
use Rattle.trees.specs.declared.take.Join.TheVariants.{Union, Subtract, Intersect}
use Rattle.trees.specs.declared.turn.Work.TheVariants.{Flip}

-- the operation of document 01
abbrev pub join_o : Join → Operation
join_o Union = union
join_o Subtract = subtract
join_o Intersect = intersect

-- the use mark of cell c names slot k of node x
unfoldable pub tag_s : ℕ → ℕ → ℕ → St → St
tag_s c x k s = record { slot = s.slot; kid = s.kid; val = s.val; count = s.count; stack = s.stack; tag = at1 s.tag c (linked x k); mark = s.mark }

-- the branch of slot k of node y hangs below slot k of node x afterwards, and slot k of node y is hidden with +far
unfoldable pub take_child_s : ℕ → ℕ → ℕ → St → St
take_child_s x y k s =
    record {
      slot = at2 (at2 s.slot y k far) x k (s.slot y k);
      kid = at2 (at2 s.kid y k false) x k true;
      val = at2 (at2 s.val y k false) x k false;
      count = s.count;
      stack = s.stack;
      tag = at1 s.tag (s.slot y k) (linked x k);
      mark = s.mark;
    }

-- how a branch z that was taken over is changed: `taken` of the meaning
abbrev pub taken_m : Operation → (b : ℕ) (bs : List ℕ) → ℕ → ℕ → St → St
taken_m union b bs n z s = s
taken_m subtract b bs n z s = turn_m b bs Flip n z s
taken_m intersect b bs n z s = s

-- the branch of slot k of node y, with c and bs below it, is taken over by slot k of node x
abbrev pub take_m : ℕ → List ℕ → Operation → ℕ → ℕ → ℕ → ℕ → St → St
take_m c bs o n x y k s = taken_m o c bs n (8 + s.slot y k) (take_child_s x y k s)

-- the 64 words of cell c are finite
abbrev pub FiniteLeaf : List ℕ → ℕ → Type 0
FiniteLeaf slots c = (k : ℕ) → k < 64 → is_finite (get_or slots (64 * (64 + c) + k) 0) ≡ true

-- slot k of leaf x, joined with that of leaf y: "masks are joined"
unfoldable pub join_s : Operation → ℕ → ℕ → ℕ → St → St
join_s o x y k s = put_s x k (joined o (s.slot x k) (s.slot y k)) (s.val x k || s.val y k) s

-- slot k of node x, above the leaves, is no branch and stays as it is: is_inside_tile of csg.rs in a union, is_outside_tile in the others
abbrev pub stays_at : Operation → St → ℕ → ℕ → Bool
stays_at o s x k = cond (s.kid x k) false (beq (negative (s.slot x k)) (stays_with o))

-- b's slot is a branch: `go` joins it with a's, or it is taken over where a has none
abbrev pub meet_branch : ℕ → List ℕ → Operation → ℕ → (ℕ → ℕ → St → St) → ℕ → ℕ → ℕ → St → St
meet_branch c bs o n go x y k s = cond (s.kid x k) (go (8 + s.slot x k) (8 + s.slot y k) s) (take_m c bs o n x y k s)

-- b's slot is none: it settles a's, where `empty` empties a cell that is released, or a's stays. One that is settled has the side with which it would have stayed: it is
-- an inside tile, or hidden with +far
abbrev pub meet_value : (ℕ → St → St) → Operation → ℕ → ℕ → ℕ → ℕ → St → St
meet_value empty o n x y k s = cond (beq (negative (s.slot y k)) (settled_by o)) (wipe_at empty n (far_with (stays_with o)) (stays_with o) x k s) s

-- slot k of node x above the leaves, with c and bs below it: first a is asked, then b
abbrev pub combine_at : ℕ → List ℕ → Operation → ℕ → (ℕ → ℕ → St → St) → ℕ → ℕ → ℕ → St → St
combine_at c bs o n go x y k s = cond (stays_at o s x k) s (cond (s.kid y k) (meet_branch c bs o n go x y k s) (meet_value (emptied_m c bs n) o n x y k s))

-- every slot
unfoldable pub combine_m : (b : ℕ) (bs : List ℕ) → Operation → ℕ → ℕ → ℕ → St → St
combine_m b [] o n x y s = each_s (join_s o x y) (size b) s
combine_m b (c ∷ bs) o n x y s = each_s (combine_at c bs o n (combine_m c bs o n) x y) (size b) s
