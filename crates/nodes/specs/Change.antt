-- The changes of a pool that every call is made of, as exact functions on any state, sound or not. Assumes nothing.
use Rattle.std.specs.Prelude.{Bool, true, false, cond, ◌&&◌, ℕ, ◌+◌, ◌-◌, ltb, eqb}
use Rattle.floats.specs.Value.{far}
use Rattle.nodes.specs.State.{St, linked}

-- f with a at i; f with a at slot k of node x; f with a in all 64 slots of cell c
abbrev pub at1 : {A : Type 0} → (ℕ → A) → ℕ → A → ℕ → A
at1 f i a j = cond (eqb j i) a (f j)

abbrev pub at2 : {A : Type 0} → (ℕ → ℕ → A) → ℕ → ℕ → A → ℕ → ℕ → A
at2 f x k a y j = cond (eqb y x && eqb j k) a (f y j)

abbrev pub in_cell : {A : Type 0} → (ℕ → ℕ → A) → ℕ → A → ℕ → ℕ → A
in_cell f c a y j = cond (eqb y (8 + c) && ltb j 64) a (f y j)

-- slot k of node x holds the word w, active or hidden as a says
unfoldable pub put_s : ℕ → ℕ → ℕ → Bool → St → St
put_s x k w a s =
    record { slot = at2 s.slot x k w; kid = s.kid; val = at2 s.val x k a; count = s.count; stack = s.stack; tag = s.tag; mark = s.mark }

-- slot k of node x is hidden and keeps its word
unfoldable pub hide_s : ℕ → ℕ → St → St
hide_s x k s =
    record { slot = s.slot; kid = s.kid; val = at2 s.val x k false; count = s.count; stack = s.stack; tag = s.tag; mark = s.mark }

-- the free cell that is taken next
abbrev pub next : St → ℕ
next s = s.stack (s.count - 1)

-- "the branch is added": the next free cell hangs below slot k of node x, and its slots all hold w, active or hidden as a says
unfoldable pub attach_s : ℕ → ℕ → ℕ → Bool → St → St
attach_s x k w a s =
    record {
      slot = at2 (in_cell s.slot (next s) w) x k (next s);
      kid = at2 (in_cell s.kid (next s) false) x k true;
      val = at2 (in_cell s.val (next s) a) x k false;
      count = s.count - 1;
      stack = s.stack;
      tag = at1 s.tag (next s) (linked x k);
      mark = s.mark;
    }

-- the next free cell hangs below slot k of node x, and its slots are as they were: it is for whoever writes them all
unfoldable pub claim_s : ℕ → ℕ → St → St
claim_s x k s =
    record {
      slot = at2 s.slot x k (next s);
      kid = at2 s.kid x k true;
      val = at2 s.val x k false;
      count = s.count - 1;
      stack = s.stack;
      tag = at1 s.tag (next s) (linked x k);
      mark = s.mark;
    }

-- "released": the cell below slot k of node x is free again, and the slot is hidden with +far
unfoldable pub release_s : ℕ → ℕ → St → St
release_s x k s =
    record {
      slot = at2 s.slot x k far;
      kid = at2 s.kid x k false;
      val = at2 s.val x k false;
      count = s.count + 1;
      stack = at1 s.stack s.count (s.slot x k);
      tag = at1 s.tag (s.slot x k) s.count;
      mark = s.mark;
    }

-- seat t's filled mark
unfoldable pub mark_s : ℕ → ℕ → St → St
mark_s t m s = record { slot = s.slot; kid = s.kid; val = s.val; count = s.count; stack = s.stack; tag = s.tag; mark = at1 s.mark t m }
