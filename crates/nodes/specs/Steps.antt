-- The steps that the changes of a pool are made of, one for each function of the code. Assumes nothing.
use Rattle.std.specs.Prelude.{Bool, false, ◌&&◌, List, ℕ, ◌+◌, ◌-◌, ◌<◌, ◌≤◌, get_or, ltb}
use Rattle.nodes.specs.State.{St, linked}
use Rattle.nodes.specs.Layout.{count_place, stack_place}
use Rattle.nodes.specs.Change.{at1, at2, in_cell, next}

-- slot k of node x has the word w, the child bit b and the value bit a
unfoldable pub slot_s : ℕ → ℕ → ℕ → Bool → Bool → St → St
slot_s x k w b a s =
    record {
      slot = at2 s.slot x k w;
      kid = at2 s.kid x k b;
      val = at2 s.val x k a;
      count = s.count;
      stack = s.stack;
      tag = s.tag;
      mark = s.mark;
    }

-- the slots of cell c all hold w, active or hidden as a says
unfoldable pub cell_s : ℕ → ℕ → Bool → St → St
cell_s c w a s =
    record {
      slot = in_cell s.slot c w;
      kid = in_cell s.kid c false;
      val = in_cell s.val c a;
      count = s.count;
      stack = s.stack;
      tag = s.tag;
      mark = s.mark;
    }

-- the next free cell is free no more, and slot k of node x is to link to it
unfoldable pub take_s : ℕ → ℕ → St → St
take_s x k s =
    record {
      slot = s.slot;
      kid = s.kid;
      val = s.val;
      count = s.count - 1;
      stack = s.stack;
      tag = at1 s.tag (next s) (linked x k);
      mark = s.mark;
    }

-- cell c is free again
unfoldable pub give_s : ℕ → St → St
give_s c s =
    record {
      slot = s.slot;
      kid = s.kid;
      val = s.val;
      count = s.count + 1;
      stack = at1 s.stack s.count c;
      tag = at1 s.tag c s.count;
      mark = s.mark;
    }

-- a free cell can be had, by the book: `ready_s` of every pool with this book
pub record Spare (n : ℕ) (book : List ℕ) : Type 0 where
  pub some : 0 < get_or book count_place 0
  pub few : get_or book count_place 0 ≤ n
  pub inside : get_or book (stack_place n (get_or book count_place 0 - 1)) 0 < n

-- the cell below slot k of node x can be given back: the link does not leave the pool, and the stack is not full
abbrev pub room_s : ℕ → ℕ → ℕ → St → Bool
room_s n x k s = ltb (s.slot x k) n && ltb s.count n
