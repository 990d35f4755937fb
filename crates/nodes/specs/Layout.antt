-- Where lent memory holds a pool of n cells: three slices. The places and lengths are defined here, and contracts cite these names; bodies have the constants of
-- src/memory.rt. Assumes nothing.
use Rattle.std.specs.Prelude.{◌≡◌, Bool, false, cond, ◌&&◌, List, ℕ, ◌+◌, ◌*◌, ◌<◌, length, get_or, ltb}
use Rattle.bitset.specs.Set.{bit_of}
use Rattle.nodes.specs.State.{St, wide}

-- the place of a slot's word: 512 for each top, then 64 for each cell. The number of a slot is not its place (8 * 512 = 3584 + 64 * 8)
unfoldable pub word_of : ℕ → ℕ → ℕ
word_of x k = cond (ltb x 8) (512 * x + k) (3584 + 64 * x + k)

-- the numbers of its bits: all child masks, then all value masks, in the order of the words
abbrev pub kid_bit : ℕ → ℕ → ℕ
kid_bit x k = word_of x k

abbrev pub val_bit : ℕ → ℕ → ℕ → ℕ
val_bit n x k = 64 * (64 + n) + word_of x k

-- the book: eight filled marks and the count of free cells are its head, and n use marks and the stack of n places follow
abbrev pub count_place : ℕ
count_place = 8

abbrev pub head : ℕ
head = 9

abbrev pub tag_place : ℕ → ℕ
tag_place c = head + c

abbrev pub stack_place : ℕ → ℕ → ℕ
stack_place n i = head + n + i

-- the words of the eight tops; the lengths of the slices
abbrev pub tops : ℕ
tops = 4096

abbrev pub slots_length : ℕ → ℕ
slots_length n = tops + 64 * n

abbrev pub masks_length : ℕ → ℕ
masks_length n = 128 + 2 * n

abbrev pub book_length : ℕ → ℕ
book_length n = head + 2 * n

-- slot k of node x is one of a pool of n cells
abbrev pub inside : ℕ → ℕ → ℕ → Bool
inside n x k = ltb x (8 + n) && ltb k (wide x)

-- `len` words from lo on, by their place, and 0 past them
abbrev pub part : ℕ → ℕ → List ℕ → ℕ → ℕ
part lo len l i = cond (ltb i len) (get_or l (lo + i) 0) 0

-- the lengths belong together for n cells
pub record Sized (n : ℕ) (slots masks book : List ℕ) : Type 0 where
  pub most : n < 65536
  pub slots_fit : length slots ≡ slots_length n
  pub masks_fit : length masks ≡ masks_length n
  pub book_fit : length book ≡ book_length n

-- the pool that the slices hold
unfoldable pub st : ℕ → List ℕ → List ℕ → List ℕ → St
st n slots masks book =
    record {
      slot = λ x k. cond (inside n x k) (get_or slots (word_of x k) 0) 0;
      kid = λ x k. cond (inside n x k) (bit_of masks (kid_bit x k)) false;
      val = λ x k. cond (inside n x k) (bit_of masks (val_bit n x k)) false;
      count = get_or book count_place 0;
      stack = part (head + n) n book;
      tag = part head n book;
      mark = part 0 8 book;
    }
