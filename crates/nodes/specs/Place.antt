-- The slot at which a walk ends, and how the code tells it. Assumes nothing.
use Rattle.std.specs.Prelude.{Bool, cond, List, [], ◌∷◌, ℕ, suc, ◌+◌, ◌*◌, length, ltb, Option, Some, None}
use Rattle.grid.specs.Geometry.{Point, slot_of}
use Rattle.grid.specs.Node.{size}
use Rattle.nodes.specs.State.{St}
use Rattle.nodes.specs.Layout.{word_of, st}
use Rattle.nodes.specs.Range.{In, Stands}
use Rattle.nodes.specs.Walk.{Reach, broken, reach_at}
use Rattle.nodes.specs.declared.seek.Lead.{Lead}
use Rattle.nodes.specs.declared.seek.Lead.TheVariants.{Cell, Here, Broken}
use Rattle.nodes.specs.declared.seek.End.{End}
use Rattle.nodes.specs.declared.view.View.{View}

-- the state of the pool that a view shows, with any book
abbrev pub seen : View → List ℕ → St
seen v book = st v.n v.slots.now v.masks.now book

-- the slots of a point on its way down, one digit for each level, that of the node itself lowest
unfoldable pub path_of : (b : ℕ) (bs : List ℕ) → Point → ℕ
path_of b [] p = slot_of b [] p
path_of b (c ∷ bs) p = slot_of b (c ∷ bs) p + size b * path_of c bs p

-- slot k of node x, of a level; or the path is broken
pub data Place : Type 0 where
  at : ℕ → ℕ → ℕ → Place
  nowhere : Place

-- where a slot above the leaves leads, by its bits and its word: to a cell below n; to none; or it breaks the path
abbrev pub lead_by : ℕ → Bool → Bool → ℕ → Lead
lead_by n b a w = cond b (cond a Broken (cond (ltb w n) (Cell w) Broken)) Here

abbrev pub lead_s : ℕ → St → ℕ → ℕ → Lead
lead_s n s x k = lead_by n (s.kid x k) (s.val x k) (s.slot x k)

-- refusal 5: "on the path walked .. a link leaves the pool, a slot is in both masks"
unfoldable pub place_s : (b : ℕ) (bs : List ℕ) → ℕ → St → ℕ → Point → Place
place_s b [] n s x p = at 0 x (slot_of b [] p)
place_s b (c ∷ bs) n s x p =
    let k = slot_of b (c ∷ bs) p in
    cond (s.kid x k)
    (cond (s.val x k) nowhere (cond (ltb (s.slot x k) n) (place_s c bs n s (8 + s.slot x k) p) nowhere))
    (at (suc (length bs)) x k)

-- the end of the walk that is there
abbrev pub end_at : St → Place → Reach
end_at s (at l x k) = reach_at l s x k
end_at s nowhere = broken

-- as the code tells it: its level and the place of its word
abbrev pub told_end : Place → Option End
told_end (at l x k) = Some (record { level = l; place = word_of x k })
told_end nowhere = None

-- it is in a pool of n cells
abbrev pub Lies : ℕ → Place → Type 0
Lies n (at l x k) = Stands n l x × In n x k
Lies n nowhere = Unit {0}
