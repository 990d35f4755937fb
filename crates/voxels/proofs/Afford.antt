-- The free cells that a call needs, as the code looks at them. Assumes nothing.
use mathlib.Core.Path.{◌≡◌, refl, sym, ◌∙◌}
use mathlib.Core.Bool.{Bool, true, false, not, ◌||◌}
use mathlib.Core.List.{List}
use Prim.Native.Nat.{ℕ, ◌-◌, ◌<◌, ◌≤◌}
use native.Mathlib.Omega.{arith}
use lib.ListN.{get_or}
use lib.Dec.{ltb, leb}
use borrow.Author.Tests.{le-leb, lt-leb, eq-eqb, ne_eqb}
use Rattle.bitset.specs.Set.{every}
use Rattle.nodes.specs.State.{St}
use Rattle.nodes.specs.Layout.{st, count_place, stack_place}
use Rattle.means.specs.Mem.{linked}
use Rattle.std.specs.Prelude.{Ok, Err}
use Rattle.voxels.specs.Answers.{afford_s}
use Rattle.voxels.specs.declared.refusal.Refusal.TheVariants.{Damaged, NoCells}
use Rattle.sound.proofs.Book.{st_count, st_stack}
use Rattle.sound.proofs.Checks.{passed, failed}

pub link_at : (n : ℕ) (slots masks book : List ℕ) (free j : ℕ) → free ≤ n → j < free
    → ltb (get_or book (stack_place n (free - 1 - j)) 0) n ≡ leb free j || ltb ((st n slots masks book).stack (free - 1 - j)) n
link_at n slots masks book free j l h = rw (lt-leb free j h, st_stack n slots masks book (free - 1 - j) (omega arith)) refl

-- what `afford` answers, by the tests that it made
module _ (n : ℕ) (slots masks book : List ℕ) (need : ℕ) where
  abbrev s : St
  s = st n slots masks book

  pub afford_none : need ≡ 0 → Ok tt ≡ afford_s n (st n slots masks book) need
  unfolding linked
  afford_none e = rw (eq-eqb need 0 e, le-leb need s.count (omega arith)) refl

  module _ (free : ℕ) (e : free ≡ get_or book count_place 0) (z : need ≡ 0 → ⊥) where
    count : s.count ≡ free
    count = st_count n slots masks book ∙ sym e

    pub afford_out : n < free → Err Damaged ≡ afford_s n (st n slots masks book) need
    unfolding linked
    afford_out h = rw (count, ne_eqb need 0 z, lt-leb free n h) refl

    module _ (few : free ≤ n) {b : Bool} (all : b ≡ every (λ j. leb free j || ltb ((st n slots masks book).stack (free - 1 - j)) n) need) where
      pub afford_bad : not b ≡ true → Err Damaged ≡ afford_s n (st n slots masks book) need
      unfolding linked
      afford_bad h = rw (count, ne_eqb need 0 z, le-leb free n few, failed b all h) refl

      pub afford_few : not b ≡ false → free < need → Err NoCells ≡ afford_s n (st n slots masks book) need
      unfolding linked
      afford_few h l = rw (count, ne_eqb need 0 z, le-leb free n few, passed b all h, lt-leb need free l) refl

      pub afford_yes : not b ≡ false → need ≤ free → Ok tt ≡ afford_s n (st n slots masks book) need
      unfolding linked
      afford_yes h l = rw (count, ne_eqb need 0 z, le-leb free n few, passed b all h, le-leb need free l) refl
