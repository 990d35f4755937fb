-- What the code reads and compares is what the test of soundness says. In each law the numbers that were read are variables, with where they were read. Assumes nothing.
use mathlib.Core.Path.{◌≡◌, refl, sym, ap, ◌∙◌}
use mathlib.Core.Bool.{Bool, true, false, not, ◌&&◌, and-false, false≢true}
use mathlib.Core.List.{List}
use mathlib.Core.Logic.{inl, inr}
use Prim.Native.Nat.{ℕ, ◌+◌, ◌-◌, ◌<◌, ◌≤◌}
use native.Mathlib.Omega.{arith}
use lib.Dec.{ltb, leb, eqb}
use lib.ListN.{get_or}
use borrow.Author.Tests.{lt-ltb, le-ltb, le-leb, lt-leb, eq-eqb, ne_eqb, not-true, not-false}
use borrow.Table.Steps.{cases}
use Rattle.bitset.proofs.Digits.{lt_or_le}
use Rattle.bitset.specs.Set.{bit_of, every}
use Rattle.bitset.proofs.Every.{both_ways, and_both, every_intro, every_elim, every_cong}
use Rattle.grid.specs.Node.{sum}
use Rattle.nodes.specs.State.{St, wide, linked}
use Rattle.nodes.specs.Layout.{st, word_of, val_bit, tag_place, stack_place}
use Rattle.nodes.specs.Range.{In}
use Rattle.nodes.specs.Test.{fork_b, live_b, stacked_b, link_b, cell_b, slot_b, node_b, sound_b}
use Rattle.nodes.proofs.States.{st_slot, st_val}
use Rattle.sound.specs.Slots.{value_b, either_b}
use Rattle.sound.specs.Links.{links_of}
use Rattle.sound.proofs.Counted.{cells_counted}
use Rattle.sound.proofs.Book.{st_tag, st_stack, st_mark}

-- ---- what a call answered, b, was tested
pub passed : {x : Bool} (b : Bool) → b ≡ x → not b ≡ false → x ≡ true
passed b e h = sym e ∙ not-false b h

pub failed : {x : Bool} (b : Bool) → b ≡ x → not b ≡ true → x ≡ false
failed b e h = sym e ∙ not-true b h

-- ---- a loop that tests each number below n: it comes to the end, or to one that fails
pub all_pass : (p : ℕ → Bool) (n i : ℕ) → n ≤ i → ((k : ℕ) → k < i → p k ≡ true) → true ≡ every p n
all_pass p n i l h = sym (every_intro p n (λ k q. h k (omega arith)))

pub one_fails : (p : ℕ → Bool) (n k : ℕ) → k < n → p k ≡ false → false ≡ every p n
one_fails p n k l e = cases (every p n) (λ t. absurd (false≢true (sym e ∙ every_elim p n t k l))) (λ t. sym t)

-- ---- the book
module _ (n : ℕ) (slots masks book : List ℕ) where
  pub mark_test : (t : ℕ) → t < 8 → ltb ((st n slots masks book).mark t) 2 ≡ ltb (get_or book t 0) 2
  mark_test t h = ap (λ (m : ℕ). ltb m 2) (st_mark n slots masks book t h)

  module _ (i c : ℕ) (h : i < n) (e : c ≡ get_or book (stack_place n i) 0) where
    names : (st n slots masks book).stack i ≡ c
    names = st_stack n slots masks book i h ∙ sym e

    pub stacked_out : n ≤ c → false ≡ stacked_b n (st n slots masks book) i
    stacked_out l = rw (names, le-ltb c n l) refl

    pub stacked_in : c < n → (u : ℕ) → u ≡ get_or book (tag_place c) 0 → eqb u i ≡ stacked_b n (st n slots masks book) i
    stacked_in l u d = rw (names, lt-ltb c n l, st_tag n slots masks book c l ∙ sym d) refl

  module _ (c u : ℕ) (l : c < n) (e : u ≡ get_or book (tag_place c) 0) where
    tag_is : (st n slots masks book).tag (8 + c - 8) ≡ u
    tag_is = let d : 8 + c - 8 ≡ c = omega arith in ap (st n slots masks book).tag d ∙ st_tag n slots masks book c l ∙ sym e

    pub fork_used : 65536 ≤ u → ltb u 69632 ≡ fork_b (st n slots masks book) (8 + c)
    fork_used q = rw (le-ltb (8 + c) 8 (omega arith), tag_is, le-leb 65536 u q) refl

    pub fork_free : u < 65536 → leb 65536 u ≡ fork_b (st n slots masks book) (8 + c)
    fork_free q = rw (le-ltb (8 + c) 8 (omega arith), tag_is, lt-leb 65536 u q) refl

    pub live_cell : leb 65536 u ≡ live_b (st n slots masks book) (8 + c)
    live_cell = rw (le-ltb (8 + c) 8 (omega arith), tag_is) refl

-- ---- a link: c is the word of slot k of node x
module _ {n : ℕ} (slots masks book : List ℕ) {x k : ℕ} (i : In n x k) (c : ℕ) (e : c ≡ get_or slots (word_of x k) 0) where
  links : (st n slots masks book).slot x k ≡ c
  links = st_slot slots masks book i ∙ sym e

  pub link_out : n ≤ c → false ≡ link_b n (st n slots masks book) x k
  link_out l = rw (links, le-ltb c n l) refl

  module _ (l : c < n) (u : ℕ) (d : u ≡ get_or book (tag_place c) 0) where
    pub link_other : (u ≡ linked x k → ⊥) → false ≡ link_b n (st n slots masks book) x k
    link_other q = rw (links, lt-ltb c n l, st_tag n slots masks book c l ∙ sym d, ne_eqb u (linked x k) q) refl

    pub link_back : u ≡ linked x k → (b : Bool) → b ≡ bit_of masks (val_bit n x k) → not b ≡ link_b n (st n slots masks book) x k
    link_back q b v = rw (links, lt-ltb c n l, st_tag n slots masks book c l ∙ sym d, eq-eqb u (linked x k) q, st_val slots masks book i ∙ sym v) refl

-- ---- a node, by what it is
module _ (n : ℕ) (s : St) (x : ℕ) where
  fork_lives : fork_b s x ≡ true → live_b s x ≡ true
  fork_lives f = cases (ltb x 8) (λ t. rw t refl) (λ t. rw t (and_both (leb 65536 (s.tag (x - 8))) (ltb (s.tag (x - 8)) 69632) (rw t at f)).0)

  pub node_fork : fork_b s x ≡ true → (r : Bool) → r ≡ every (either_b n s x) (wide x) → r ≡ node_b n s x
  unfolding node_b
  node_fork f r q = q ∙ every_cong (either_b n s x) (slot_b n s x) (wide x) (λ k. rw (f, fork_lives f) refl)

  pub node_leaf : fork_b s x ≡ false → live_b s x ≡ true → (r : Bool) → r ≡ every (value_b s x) (wide x) → r ≡ node_b n s x
  unfolding node_b
  node_leaf f l r q = q ∙ every_cong (value_b s x) (slot_b n s x) (wide x) (λ k. rw (f, l) refl)

  pub node_free : live_b s x ≡ false → true ≡ node_b n s x
  unfolding node_b
  node_free l =
      let f : fork_b s x ≡ false = cases (fork_b s x) (λ t. absurd (false≢true (sym l ∙ fork_lives t))) (λ f. f) in
      sym (every_intro (slot_b n s x) (wide x) (λ k h. rw (f, l) refl))

pub fork_top : (s : St) (t : ℕ) → t < 8 → fork_b s t ≡ true
fork_top s t h = rw (lt-ltb t 8 h) refl

-- the tops, and the cells
nodes_split : (p : ℕ → Bool) (m n : ℕ) → every p m && every (λ i. p (m + i)) n ≡ every p (m + n)
nodes_split p m n =
    both_ways (every p m && every (λ i. p (m + i)) n) (every p (m + n))
    (λ t. let b = and_both (every p m) (every (λ i. p (m + i)) n) t in
    every_intro p (m + n) (λ k l. elim (lt_or_le k m) [
      | inl q ↦ every_elim p m b.0 k q
      | inr q ↦ let d : m + (k - m) ≡ k = omega arith in ap p (sym d) ∙ every_elim (λ i. p (m + i)) n b.1 (k - m) (omega arith)
    ]))
    (λ t. rw (every_intro p m (λ k l. every_elim p (m + n) t k (omega arith))) (every_intro (λ i. p (m + i)) n (λ i l. every_elim p (m + n) t (m + i) (omega arith))))

-- ---- the whole pool, part after part
module _ (n : ℕ) (s : St) where
  abbrev marked : Bool
  marked = every (λ t. ltb (s.mark t) 2) 8

  abbrev stacked : Bool
  stacked = every (stacked_b n s) s.count

  abbrev placed : Bool
  placed = every (cell_b n s) n

  abbrev filled : Bool
  filled = every (node_b n s) (8 + n)

  pub count_fails : n < s.count → false ≡ sound_b n s
  unfolding sound_b
  count_fails h = rw (lt-leb s.count n h) refl

  module _ (h : s.count ≤ n) where
    pub marks_fail : marked ≡ false → false ≡ sound_b n s
    unfolding sound_b
    marks_fail f = rw (le-leb s.count n h, f) refl

    module _ (f : marked ≡ true) where
      pub stack_fails : stacked ≡ false → false ≡ sound_b n s
      unfolding sound_b
      stack_fails g = rw (le-leb s.count n h, f, g) refl

      -- where the nodes pass, each cell passes exactly if the free cells and the links are n
      module _ (g : stacked ≡ true) (most : n < 65536) where
        abbrev full : Bool
        full = eqb (s.count + sum (8 + n) (links_of s)) n

        counted : full && filled ≡ sound_b n s
        unfolding sound_b
        counted = sym (rw (le-leb s.count n h, f, g) (cases filled
            (λ t. ap (λ (b : Bool). b && filled) (cells_counted n s most h g t))
            (λ t. rw t (and-false placed ∙ sym (and-false full)))))

        pub links_fail : full ≡ false → false ≡ sound_b n s
        links_fail k = sym (rw k refl) ∙ counted

        -- the rest is up to the tops, and then to the cells
        module _ (k : full ≡ true) where
          pub tops_fail : every (node_b n s) 8 ≡ false → false ≡ sound_b n s
          tops_fail t = sym (rw (k, ← nodes_split (node_b n s) 8 n, t) refl) ∙ counted

          pub cells_say : every (node_b n s) 8 ≡ true → (d : Bool) → d ≡ every (λ c. node_b n s (8 + c)) n → d ≡ sound_b n s
          cells_say t d e = e ∙ sym (rw (k, ← nodes_split (node_b n s) 8 n, t) refl) ∙ counted
