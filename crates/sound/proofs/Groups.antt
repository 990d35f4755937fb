-- The slots of a node by groups of 64, which have a word in each mask: where they stand, and that they are tested as their node asks. Assumes nothing.
use mathlib.Core.Path.{◌≡◌, refl, sym, ap, ap₂, ◌∙◌}
use mathlib.Core.Logic.{◌⊎◌, inl, inr}
use mathlib.Core.Bool.{Bool, true, false, cond, not, ◌&&◌, ◌||◌, false≢true}
use mathlib.Core.List.{List}
use Prim.Native.Nat.{ℕ, ◌+◌, ◌*◌, ◌/◌, ◌%◌, ◌<◌, ◌≤◌}
use native.Mathlib.Omega.{arith}
use native.Mathlib.Numerals.{add-one}
use lib.ListN.{length, get_or}
use Rattle.std.specs.List.{fold}
use lib.Bits.{bit_or}
use borrow.Author.Tests.{ltb-true}
use borrow.Table.Steps.{cases}
use Rattle.floats.specs.Value.{is_finite, negative}
use Rattle.floats.proofs.Signs.{negative_or}
use Rattle.floats.proofs.Finite.{small_finite, raised_sign}
use Rattle.bitset.specs.Set.{every, word_bit, bit_of}
use Rattle.bitset.proofs.Digits.{lt_or_le}
use Rattle.bitset.proofs.Sets.{has_own}
use Rattle.bitset.proofs.Every.{both_ways, and_both, every_intro, every_elim, every_alike}
use Rattle.nodes.specs.State.{St, wide}
use Rattle.nodes.specs.Layout.{st, word_of, kid_bit, slots_length}
use Rattle.nodes.specs.Range.{In}
use Rattle.nodes.specs.Test.{link_b}
use Rattle.nodes.proofs.Places.{wide_top, wide_cell, word_top, word_cell, word_lt}
use Rattle.nodes.proofs.States.{st_slot, st_kid}
use Rattle.sound.proofs.Chains.{fold_all}
use Rattle.sound.proofs.Checks.{node_fork, node_leaf}
use Rattle.nodes.specs.Test.{fork_b, live_b, node_b}
use Rattle.sound.specs.Slots.{group, value_b, branch_b, either_b}

-- a chain that tests each number up to the last: a is the answer so far
pub none_yet : (p : ℕ → Bool) → true ≡ every p 0
unfolding every
none_yet p = refl

pub one_more : (p : ℕ → Bool) (i : ℕ) {r a b : Bool} → r ≡ b && a → b ≡ p i → a ≡ every p i → r ≡ every p (i + 1)
unfolding every
one_more p i e f g = e ∙ ap₂ (λ (b a : Bool). b && a) f g ∙ ap (every p) (sym (add-one i))

-- words are joined bit by bit, each raised: the sign tells that one of them is not finite
abbrev pub join : ℕ → ℕ → ℕ
join v w = bit_or v (w % 2147483648 + 8388608)

neither : (a b : Bool) → not (a || b) ≡ not b && not a
neither true true = refl
neither true false = refl
neither false true = refl
neither false false = refl

module _ (ws : List ℕ) where
  abbrev passes : ℕ → Bool
  passes i = is_finite (get_or ws i 0)

  none_joined : not (negative 0) ≡ every passes 0
  unfolding every negative
  none_joined = refl

  joined : (i v : ℕ) → i < length ws → not (negative v) ≡ every passes i → not (negative (join v (get_or ws i 0))) ≡ every passes (i + 1)
  joined i v l = one_more passes i (ap not (negative_or v _) ∙ neither (negative v) _) (raised_sign (get_or ws i 0))

  pub join_every : (n : ℕ) → length ws ≡ n → not (negative (fold join 0 ws)) ≡ every passes n
  join_every n e = fold_all 0 join 0 (λ i v. not (negative v) ≡ every passes i) ws joined none_joined ∙ ap (every passes) e

-- each group passes where each slot does
pub groups : (p : ℕ → Bool) (m : ℕ) → every (group p) m ≡ every p (64 * m)
groups p m =
    both_ways (every (group p) m) (every p (64 * m))
    (λ e. every_intro p (64 * m) (λ k l.
    let i : 64 * (k / 64) + k % 64 ≡ k = omega arith in
    ap p (sym i) ∙ every_elim (λ i. p (64 * (k / 64) + i)) 64 (every_elim (group p) m e (k / 64) (omega arith)) (k % 64) (omega arith)))
    (λ e. every_intro (group p) m (λ j l. every_intro (λ i. p (64 * j + i)) 64 (λ i h. every_elim p (64 * m) e (64 * j + i) (omega arith))))

-- of a top, and of a cell
pub top_groups : (p : ℕ → Bool) (t : ℕ) → t < 8 → every (group p) 8 ≡ every p (wide t)
top_groups p t h = groups p 8 ∙ ap (every p) (sym (wide_top t h))

pub cell_group : (p : ℕ → Bool) (c : ℕ) → group p 0 ≡ every p (wide (8 + c))
cell_group p c =
    every_alike (λ i. p (64 * 0 + i)) p 64 (λ i h. let e : 64 * 0 + i ≡ i = omega arith in ap p e)
    ∙ ap (every p) (sym (wide_cell (8 + c) (omega arith)))

-- ---- where a group stands
module _ {n x : ℕ} (j : ℕ) (h : In n x (64 * j)) where
  pub in_group : (i : ℕ) → i < 64 → In n x (64 * j + i)
  in_group i l = record { node = h.node; slot = within (lt_or_le x 8) }
    where
      within : (x < 8) ⊎ (8 ≤ x) → 64 * j + i < wide x
      within (inl a) = omega (arith, h.slot, wide_top x a)
      within (inr a) = omega (arith, h.slot, wide_cell x a)

  -- its words are 64 from one place on, which begins a word of the masks
  pub word_run : (i : ℕ) → word_of x (64 * j + i) ≡ word_of x (64 * j) + i
  word_run i = elim (lt_or_le x 8) [
    | inl a ↦ omega (arith, word_top x (64 * j) a, word_top x (64 * j + i) a)
    | inr a ↦ omega (arith, word_cell x (64 * j) a, word_cell x (64 * j + i) a)
  ]

  pub run_fits : word_of x (64 * j) + 64 ≤ slots_length n
  run_fits = omega (arith, word_run 63, word_lt (in_group 63 (omega arith)))

  bit_run : (i : ℕ) → 64 * (word_of x (64 * j) / 64) + i ≡ kid_bit x (64 * j + i)
  bit_run i = elim (lt_or_le x 8) [
    | inl a ↦ omega (arith, word_top x (64 * j) a, word_run i)
    | inr a ↦ omega (arith, word_cell x (64 * j) a, word_run i)
  ]

  module _ (slots masks book : List ℕ) where
    pub values_are : every (λ i. is_finite (get_or slots (word_of x (64 * j) + i) 0)) 64 ≡ group (value_b (st n slots masks book) x) j
    values_are = every_alike (λ i. is_finite (get_or slots (word_of x (64 * j) + i) 0)) (λ i. value_b (st n slots masks book) x (64 * j + i)) 64
        (λ i l. ap is_finite (ap (λ (p : ℕ). get_or slots p 0) (sym (word_run i)) ∙ sym (st_slot slots masks book (in_group i l))))

    pub kids_are : (i : ℕ) → i < 64 → word_bit (get_or masks (word_of x (64 * j) / 64) 0) i ≡ (st n slots masks book).kid x (64 * j + i)
    kids_are i l = has_own masks (word_of x (64 * j) / 64) i l ∙ ap (bit_of masks) (bit_run i) ∙ sym (st_kid slots masks book (in_group i l))

-- ---- a slot that may be a branch: a link that stays in the pool is a finite word
module _ (n : ℕ) (s : St) (x j : ℕ) (a : Bool) (e : a ≡ group (value_b s x) j) where
  link_finite : n < 65536 → (k : ℕ) → either_b n s x k ≡ true → value_b s x k ≡ true
  link_finite h k t = cases (s.kid x k)
      (λ q. small_finite (s.slot x k) (omega (arith, ltb-true (s.slot x k) n (and_both _ _ (rw q at t)).0, h)))
      (λ q. rw q at t)

  pub values_fail : n < 65536 → a ≡ false → false ≡ group (either_b n s x) j
  values_fail h f = cases (group (either_b n s x) j)
      (λ t. absurd (false≢true (sym f ∙ e ∙ every_intro (λ i. value_b s x (64 * j + i)) 64 (λ i l. link_finite h (64 * j + i) (every_elim (λ i. either_b n s x (64 * j + i)) 64 t i l)))))
      (λ t. sym t)

  pub values_pass : a ≡ true → (r : Bool) → r ≡ group (branch_b n s x) j → r ≡ group (either_b n s x) j
  values_pass f r q = q ∙ every_alike (λ i. branch_b n s x (64 * j + i)) (λ i. either_b n s x (64 * j + i)) 64
      (λ i l. ap (λ (b : Bool). cond (s.kid x (64 * j + i)) (link_b n s x (64 * j + i)) b) (sym (every_elim (λ i. value_b s x (64 * j + i)) 64 (sym e ∙ f) i l)))

-- ---- cell c, which is used
module _ (n : ℕ) (s : St) (c : ℕ) (l : live_b s (8 + c) ≡ true) (a : Bool) (e : a ≡ group (value_b s (8 + c)) 0) where
  pub cell_fails : n < 65536 → a ≡ false → false ≡ node_b n s (8 + c)
  cell_fails most f = cases (fork_b s (8 + c))
      (λ t. node_fork n s (8 + c) t false (values_fail n s (8 + c) 0 a e most f ∙ cell_group (either_b n s (8 + c)) c))
      (λ t. node_leaf n s (8 + c) t l false (sym f ∙ e ∙ cell_group (value_b s (8 + c)) c))

  module _ (p : a ≡ true) where
    pub leaf_passes : fork_b s (8 + c) ≡ false → true ≡ node_b n s (8 + c)
    leaf_passes f = node_leaf n s (8 + c) f l true (sym p ∙ e ∙ cell_group (value_b s (8 + c)) c)

    pub middle_says : fork_b s (8 + c) ≡ true → (r : Bool) → r ≡ group (branch_b n s (8 + c)) 0 → r ≡ node_b n s (8 + c)
    middle_says f r q = node_fork n s (8 + c) f r (values_pass n s (8 + c) 0 a e p r q ∙ cell_group (either_b n s (8 + c)) c)
