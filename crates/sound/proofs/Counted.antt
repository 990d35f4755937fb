-- The pool is tested by counting. A use mark is the name of a place: of a place of the stack, or of a slot. Where each place that counts holds a cell whose mark names the
-- place, no two hold one cell: so each cell is held where its mark says, exactly if as many places count as there are cells. Assumes nothing.
use mathlib.Core.Path.{◌≡◌, refl, sym, ap, ap₂, ◌∙◌}
use mathlib.Core.Bool.{Bool, true, false, cond, ◌&&◌}
use Prim.Native.Nat.{ℕ, ◌+◌, ◌-◌, ◌*◌, ◌/◌, ◌%◌, ◌<◌, ◌≤◌}
use native.Mathlib.Omega.{arith}
use lib.Dec.{ltb, eqb}
use borrow.Author.Tests.{lt-ltb, le-ltb, ltb-true, ltb-false, eqb-true}
use borrow.Table.Steps.{cases}
use Rattle.bitset.specs.Set.{every}
use Rattle.bitset.proofs.Every.{both_ways, and_both, every_elim}
use Rattle.grid.specs.Node.{sum}
use Rattle.grid.proofs.Places.{sum_same}
use Rattle.nodes.specs.State.{St, wide, linked}
use Rattle.nodes.specs.Test.{fork_b, stacked_b, link_b, cell_b, slot_b, node_b}
use Rattle.nodes.proofs.Places.{wide_most}
use Rattle.means.proofs.Sums.{sum_ones, sum_append, sum_rows, sum_cut}
use Rattle.sound.specs.Links.{tally, links_of}
use Rattle.sound.proofs.Tally.{tally_all, named_back}

-- the slot that the use mark u names
abbrev X : ℕ → ℕ
X u = (u - 65536) / 512

abbrev K : ℕ → ℕ
K u = (u - 65536) % 512

module _ (n : ℕ) (s : St) (most : n < 65536) (few : s.count ≤ n) where
  -- the place that the mark u names counts: it is one of the stack below the count of free cells, or a slot that is a branch
  abbrev slot_counts : ℕ → ℕ → Bool
  slot_counts x k = ltb k (wide x) && (fork_b s x && s.kid x k)

  abbrev counts : ℕ → Bool
  counts u = cond (ltb u 65536) (ltb u s.count) (slot_counts (X u) (K u))

  -- the cell that it holds; marks that name a place are below this
  abbrev holds : ℕ → ℕ
  holds u = cond (ltb u 65536) (s.stack u) (s.slot (X u) (K u))

  abbrev places : ℕ
  places = 65536 + 512 * (8 + n)

  -- ---- so many places count
  of_slot : (x k : ℕ) → k < 512 → counts (65536 + (512 * x + k)) ≡ slot_counts x k
  of_slot x k l =
      let p : X (65536 + (512 * x + k)) ≡ x = omega arith in
      let q : K (65536 + (512 * x + k)) ≡ k = omega arith in
      rw (le-ltb (65536 + (512 * x + k)) 65536 (omega arith)) (ap₂ slot_counts p q)

  one_row : (x : ℕ) → sum 512 (λ k. cond (counts (65536 + (512 * x + k))) 1 0) ≡ links_of s x
  unfolding links_of
  one_row x =
      sum_same 512 _ (λ k. cond (ltb k (wide x)) (cond (fork_b s x && s.kid x k) 1 0) 0) (λ k l. ap (λ (b : Bool). cond b 1 0) (of_slot x k l) ∙ in_turn (ltb k (wide x)) (fork_b s x && s.kid x k))
      ∙ sum_cut (wide x) 512 (λ k. cond (fork_b s x && s.kid x k) 1 0) (wide_most x)
    where
      in_turn : (a b : Bool) → ◌≡◌ {A = ℕ} (cond (a && b) 1 0) (cond a (cond b 1 0) 0)
      in_turn true b = refl
      in_turn false b = refl

  all_places : tally counts places ≡ s.count + sum (8 + n) (links_of s)
  all_places =
      sum_append 65536 (512 * (8 + n)) (λ u. cond (counts u) 1 0)
      ∙ ap₂ (λ (a b : ℕ). a + b)
      (sum_same 65536 _ (λ u. cond (ltb u s.count) 1 0) (λ u l. rw (lt-ltb u 65536 l) refl) ∙ sum_cut s.count 65536 (λ u. 1) (omega arith) ∙ sum_ones s.count)
      (sym (sum_rows 512 (8 + n) (λ p. cond (counts (65536 + p)) 1 0)) ∙ sum_same (8 + n) _ (links_of s) (λ x l. one_row x))

  -- ---- a cell is held where its mark says
  held_back : (c : ℕ) → ltb (s.tag c) places && (counts (s.tag c) && eqb (holds (s.tag c)) c) ≡ cell_b n s c
  held_back c = cases (ltb (s.tag c) 65536)
      (λ e. rw (e, lt-ltb (s.tag c) places (omega (arith, ltb-true (s.tag c) 65536 e))) refl)
      (λ e. let l : 65536 ≤ s.tag c = ltb-false _ _ e in
      let x = X (s.tag c) in
      let k = K (s.tag c) in
      rw e (
      ap₂ (λ (a b : Bool). a && b)
      (both_ways (ltb (s.tag c) places) (ltb x (8 + n)) (λ t. lt-ltb x (8 + n) (omega (arith, ltb-true (s.tag c) places t))) (λ t. lt-ltb (s.tag c) places (omega (arith, ltb-true x (8 + n) t))))
      (in_turn (ltb k (wide x)) (fork_b s x) (s.kid x k) (eqb (s.slot x k) c))))
    where
      in_turn : (a b d e : Bool) → (a && (b && d)) && e ≡ a && (b && (d && e))
      in_turn true true d e = refl
      in_turn true false d e = refl
      in_turn false b d e = refl

  module _ (stacked : every (stacked_b n s) s.count ≡ true) (filled : every (node_b n s) (8 + n) ≡ true) where
    link_named : (x k : ℕ) → x < 8 + n → slot_counts x k ≡ true → (s.slot x k < n) × (s.tag (s.slot x k) ≡ linked x k)
    unfolding node_b
    link_named x k h t =
        let a = and_both (ltb k (wide x)) (fork_b s x && s.kid x k) t in
        let l : link_b n s x k ≡ true = rw a.1 at (every_elim (slot_b n s x) (wide x) (every_elim (node_b n s) (8 + n) filled x h) k (ltb-true _ _ a.0)) in
        let b = and_both (ltb (s.slot x k) n) _ l in
        (ltb-true _ _ b.0, eqb-true _ _ (and_both (eqb (s.tag (s.slot x k)) (linked x k)) _ b.1).0)

    named : (u : ℕ) → u < places → counts u ≡ true → (holds u < n) × (s.tag (holds u) ≡ u)
    named u h t = cases (ltb u 65536)
        (λ e. let a = and_both (ltb (s.stack u) n) _ (every_elim (stacked_b n s) s.count stacked u (ltb-true _ _ (rw e at t))) in
        rw e (ltb-true _ _ a.0, eqb-true _ _ a.1))
        (λ e. let l : 65536 ≤ u = ltb-false _ _ e in
        let a = link_named (X u) (K u) (omega arith) (rw e at t) in
        rw e (a.0, omega (arith, a.1)))

    pub cells_counted : every (cell_b n s) n ≡ eqb (s.count + sum (8 + n) (links_of s)) n
    cells_counted =
        sym (tally_all (cell_b n s) n)
        ∙ ap (λ (i : ℕ). eqb i n) (sum_same n _ _ (λ c l. ap (λ (b : Bool). cond b 1 0) (sym (held_back c))) ∙ sym (named_back places n counts holds s.tag named) ∙ all_places)
