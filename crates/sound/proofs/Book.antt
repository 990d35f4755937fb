-- What the book holds, as the state: the count, the marks, the use marks and the stack by their places. Assumes nothing.
use mathlib.Core.Path.{◌≡◌, refl, ap, ◌∙◌}
use mathlib.Core.List.{List}
use Prim.Native.Nat.{ℕ, ◌+◌, ◌-◌, ◌<◌}
use native.Mathlib.Nat.{zero-add}
use lib.ListN.{get_or, take, drop}
use native.Mathlib.Omega.{arith}
use Rattle.std.proofs.lemmas.List.{get_or-take, get_or-drop}
use borrow.Author.Tests.{lt-ltb}
use Rattle.nodes.specs.Layout.{st, part, count_place, head, tag_place, stack_place}

part_at : (lo len : ℕ) (l : List ℕ) (i : ℕ) → i < len → part lo len l i ≡ get_or l (lo + i) 0
part_at lo len l i h = rw (lt-ltb i len h) refl

module _ (n : ℕ) (slots masks book : List ℕ) where
  pub st_count : (st n slots masks book).count ≡ get_or book count_place 0
  unfolding st
  st_count = refl

  pub st_tag : (c : ℕ) → c < n → (st n slots masks book).tag c ≡ get_or book (tag_place c) 0
  unfolding st
  st_tag = part_at head n book

  pub st_stack : (i : ℕ) → i < n → (st n slots masks book).stack i ≡ get_or book (stack_place n i) 0
  unfolding st
  st_stack = part_at (head + n) n book

  pub st_mark : (t : ℕ) → t < 8 → (st n slots masks book).mark t ≡ get_or book t 0
  unfolding st
  st_mark t h = part_at 0 8 book t h ∙ ap (λ (i : ℕ). get_or book i 0) (zero-add t)

-- word i of the part from place a to place b
pub word_in : (l : List ℕ) (a b i : ℕ) → a + i < b → get_or (take (b - a) (drop a l)) i 0 ≡ get_or l (a + i) 0
word_in l a b i h = get_or-take (b - a) (drop a l) i 0 (omega arith) ∙ get_or-drop a l i 0
