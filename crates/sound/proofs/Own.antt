-- Cells that are free at their own places of the stack pass every test, and have no links: they need not be looked at one by one. Assumes nothing.
use mathlib.Core.Path.{◌≡◌, refl, sym, ap, ap₂, ◌∙◌}
use mathlib.Core.Bool.{Bool, true, false, ◌&&◌, and_assoc, and_comm}
use mathlib.Core.List.{List}
use mathlib.Core.Logic.{inl, inr}
use Prim.Native.Nat.{ℕ, ◌+◌, ◌-◌, ◌<◌, ◌≤◌}
use native.Mathlib.Omega.{arith}
use lib.Dec.{eqb}
use lib.ListN.{length, get_or}
use Rattle.std.specs.List.{fold, zip, range_with_len}
use borrow.Author.Tests.{lt-ltb, lt-leb, le-ltb, eq-eqb, eqb-true}
use Rattle.bitset.specs.Set.{every}
use Rattle.bitset.proofs.Digits.{lt_or_le}
use Rattle.bitset.proofs.Every.{and_both, every_intro, every_elim, every_alike}
use Rattle.nodes.specs.State.{St}
use Rattle.nodes.specs.Layout.{st, tag_place, stack_place}
use Rattle.nodes.specs.Test.{fork_b, stacked_b, node_b}
use Rattle.sound.specs.Own.{own_b}
use Rattle.sound.proofs.Book.{st_tag, st_stack}
use Rattle.sound.proofs.Checks.{node_free}
use Rattle.sound.proofs.Chains.{fold_all}
use Rattle.sound.proofs.Groups.{none_yet, one_more}
use Rattle.std.proofs.lemmas.Slice.Zip.{length-zip, get_or-zip}
use Rattle.std.proofs.lemmas.List.FromFn.{length-range_with_len, get_or-range_with_len}

-- two lists, tested item after item: both hold the n numbers from a on
module _ (ts ks : List ℕ) (a n : ℕ) (lt : length ts ≡ n) (lk : length ks ≡ n) where
  abbrev in_place : ℕ → Bool
  in_place i = eqb (get_or ts i 0) (a + i) && eqb (get_or ks i 0) (a + i)

  abbrev step : Bool → (ℕ × ℕ) × ℕ → Bool
  step b w = (b && eqb w.0.0 w.1) && eqb w.0.1 w.1

  abbrev triples : List ((ℕ × ℕ) × ℕ)
  triples = zip (zip ts ks) (range_with_len a n)

  long : length triples ≡ n
  long = omega (arith, length-zip (zip ts ks) (range_with_len a n), length-zip ts ks, length-range_with_len a n)

  at : (i : ℕ) → i < n → get_or triples i ((0, 0), 0) ≡ ((get_or ts i 0, get_or ks i 0), a + i)
  at i l =
      get_or-zip (zip ts ks) (range_with_len a n) i ((0, 0), 0) (omega (arith, length-zip ts ks)) (omega (arith, length-range_with_len a n))
      ∙ ap₂ (λ (p : ℕ × ℕ) (j : ℕ). (p, j)) (get_or-zip ts ks i (0, 0) (omega arith) (omega arith)) (get_or-range_with_len a n i 0 l)

  turn : (i : ℕ) (b : Bool) → i < length triples → b ≡ every in_place i → step b (get_or triples i ((0, 0), 0)) ≡ every in_place (i + 1)
  turn i b l r =
      one_more in_place i (ap (step b) (at i (omega (arith, long))) ∙ and_assoc b _ _ ∙ and_comm b (in_place i)) refl r

  pub turn_every : fold step true triples ≡ every in_place n
  turn_every = fold_all ((0, 0), 0) step true (λ i b. b ≡ every in_place i) triples turn (none_yet in_place) ∙ ap (every in_place) long

-- the lists are the use marks and the places of the stack from cell p on
pub own_run : (n : ℕ) (slots masks book : List ℕ) (p : ℕ) → p + 64 ≤ n → (ts ks : List ℕ)
    → ((i : ℕ) → i < 64 → get_or ts i 0 ≡ get_or book (tag_place p + i) 0)
    → ((i : ℕ) → i < 64 → get_or ks i 0 ≡ get_or book (stack_place n p + i) 0)
    → every (λ i. eqb (get_or ts i 0) (p + i) && eqb (get_or ks i 0) (p + i)) 64 ≡ every (λ i. own_b (st n slots masks book) (p + i)) 64
own_run n slots masks book p h ts ks t k = every_alike _ _ 64 (λ i l.
    let d : tag_place p + i ≡ tag_place (p + i) = omega arith in
    let e : stack_place n p + i ≡ stack_place n (p + i) = omega arith in
    ap₂ (λ (u v : ℕ). eqb u (p + i) && eqb v (p + i))
    (t i l ∙ ap (λ (j : ℕ). get_or book j 0) d ∙ sym (st_tag n slots masks book (p + i) (omega arith)))
    (k i l ∙ ap (λ (j : ℕ). get_or book j 0) e ∙ sym (st_stack n slots masks book (p + i) (omega arith))))

-- a group more
pub own_more : (p : ℕ → Bool) (i : ℕ) → ((k : ℕ) → k < i → p k ≡ true) → every (λ j. p (i + j)) 64 ≡ true → (k : ℕ) → k < i + 64 → p k ≡ true
own_more p i h e k l = elim (lt_or_le k i) [
  | inl q ↦ h k q
  | inr q ↦ let d : i + (k - i) ≡ k = omega arith in ap p (sym d) ∙ every_elim (λ j. p (i + j)) 64 e (k - i) (omega arith)
]

-- ---- what it passes
module _ (n : ℕ) (s : St) (most : n < 65536) (few : s.count ≤ n) (c : ℕ) (h : c < s.count) (o : own_b s c ≡ true) where
  tag_own : s.tag c ≡ c
  tag_own = eqb-true (s.tag c) c (and_both (eqb (s.tag c) c) (eqb (s.stack c) c) o).0

  stack_own : s.stack c ≡ c
  stack_own = eqb-true (s.stack c) c (and_both (eqb (s.tag c) c) (eqb (s.stack c) c) o).1

  own_stacked : stacked_b n s c ≡ true
  own_stacked = rw (stack_own, tag_own, lt-ltb c n (omega arith), eq-eqb c c refl) refl

  tag_of : s.tag (8 + c - 8) ≡ c
  tag_of = let d : 8 + c - 8 ≡ c = omega arith in ap s.tag d ∙ tag_own

  own_fork : fork_b s (8 + c) ≡ false
  own_fork = rw (le-ltb (8 + c) 8 (omega arith), tag_of, lt-leb 65536 c (omega arith)) refl

  own_node : node_b n s (8 + c) ≡ true
  own_node = sym (node_free n s (8 + c) (rw (le-ltb (8 + c) 8 (omega arith), tag_of, lt-leb 65536 c (omega arith)) refl))

-- ---- so do all of them below m
module _ (n : ℕ) (s : St) (most : n < 65536) (few : s.count ≤ n) (m : ℕ) (h : m ≤ s.count) (o : (c : ℕ) → c < m → own_b s c ≡ true) where
  pub own_stack : every (stacked_b n s) m ≡ true
  own_stack = every_intro _ m (λ c l. own_stacked n s most few c (omega arith) (o c l))

  pub own_forks : (c : ℕ) → c < m → fork_b s (8 + c) ≡ false
  own_forks c l = own_fork n s most few c (omega arith) (o c l)

  pub own_nodes : every (λ c. node_b n s (8 + c)) m ≡ true
  own_nodes = every_intro _ m (λ c l. own_node n s most few c (omega arith) (o c l))
