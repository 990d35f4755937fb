-- From changes of the book to changes of the state. Assumes nothing.
use mathlib.Core.Path.{◌≡◌, refl, sym, ap, ◌∙◌, subst}
use mathlib.Core.Logic.{◌⊎◌, inl, inr}
use mathlib.Core.Bool.{true, false, cond, ◌&&◌}
use mathlib.Core.List.{List}
use Prim.Native.Nat.{ℕ, ◌+◌, ◌-◌, ◌<◌, ◌≤◌}
use native.Mathlib.Omega.{arith}
use lib.ListN.{length, get_or, set, length-set}
use lib.Seq.{get_or-set_same, get_or-set_other}
use lib.Dec.{ltb, leb, eqb}
use borrow.Author.Tests.{lt-ltb, le-ltb, le-leb, lt-leb, eq-eqb, ne_eqb, ltb-true, leb-true}
use Rattle.std.proofs.lemmas.Bool.{and_parts}
use Rattle.bitset.proofs.Digits.{lt_or_le, is_or_not}
use Rattle.nodes.specs.State.{linked}
use Rattle.nodes.specs.Layout.{st, part, count_place, head, stack_place, book_length}
use Rattle.nodes.specs.Change.{at1, mark_s, next}
use Rattle.nodes.specs.Steps.{take_s, give_s, Spare}
use Rattle.nodes.specs.Walk.{ready_s}
use Rattle.nodes.specs.Range.{Booked}
use Rattle.nodes.proofs.Changes.{st_ext}

-- ---- `len` words of a list from lo on
module _ (lo len : ℕ) (l : List ℕ) where
  pub part_at : (i : ℕ) → i < len → part lo len l i ≡ get_or l (lo + i) 0
  part_at i h = rw (lt-ltb i len h) refl

  -- a store elsewhere, and a store in the part
  pub part_out : (k v : ℕ) → (k < lo) ⊎ (lo + len ≤ k) → (j : ℕ) → part lo len (set l k v) j ≡ part lo len l j
  part_out k v o j = elim (lt_or_le j len) [
    | inl h ↦ rw (lt-ltb j len h) (get_or-set_other l k (lo + j) v 0 (apart o h))
    | inr h ↦ rw (le-ltb j len h) refl
  ]
    where
      apart : (k < lo) ⊎ (lo + len ≤ k) → j < len → lo + j ≡ k → ⊥
      apart (inl p) h e = omega arith
      apart (inr p) h e = omega arith

  pub part_in : (i v : ℕ) → i < len → lo + i < length l → (j : ℕ) → part lo len (set l (lo + i) v) j ≡ at1 (part lo len l) i v j
  part_in i v h hl j = elim (is_or_not j i) [
    | inl e ↦ rw (eq-eqb j i e, lt-ltb j len (omega arith)) (ap (λ (m : ℕ). get_or (set l (lo + i) v) (lo + m) 0) e ∙ get_or-set_same l (lo + i) v 0 hl)
    | inr e ↦ rw (ne_eqb j i e) (ap (λ (m : ℕ). cond (ltb j len) m 0) (get_or-set_other l (lo + i) (lo + j) v 0 (λ d. e (omega arith))))
  ]

-- ---- a free cell
module _ (n : ℕ) (sl mk bk : List ℕ) where
  next_at : get_or bk count_place 0 ≤ n → 0 < get_or bk count_place 0 → get_or bk (head + n + (get_or bk count_place 0 - 1)) 0 ≡ next (st n sl mk bk)
  unfolding st
  next_at few some = sym (part_at (head + n) n bk (get_or bk count_place 0 - 1) (omega arith))

  pub spare_of : ready_s n (st n sl mk bk) ≡ true → Spare n bk
  unfolding st
  spare_of e =
      let p : (ltb 0 (get_or bk count_place 0) ≡ true) × (leb (get_or bk count_place 0) n && ltb (part (head + n) n bk (get_or bk count_place 0 - 1)) n ≡ true) = and_parts _ _ e in
      let q : (leb (get_or bk count_place 0) n ≡ true) × (ltb (part (head + n) n bk (get_or bk count_place 0 - 1)) n ≡ true) = and_parts _ _ p.1 in
      let some : 0 < get_or bk count_place 0 = ltb-true _ _ p.0 in
      let few : get_or bk count_place 0 ≤ n = leb-true _ _ q.0 in
      record { some = some; few = few; inside = subst (λ (c : ℕ). c < n) (sym (next_at few some)) (ltb-true _ _ q.1) }

  module _ {k : ℕ} (e : k ≡ get_or bk count_place 0) where
    some : (k ≡ 0 → ⊥) → 0 < get_or bk count_place 0
    some z = elim (is_or_not k 0) [
      | inl p ↦ absurd (z p)
      | inr p ↦ omega arith
    ]

    pub ready_none : k ≡ 0 → false ≡ ready_s n (st n sl mk bk)
    unfolding st
    ready_none z = sym (rw (le-ltb 0 (get_or bk count_place 0) (omega arith)) refl)

    pub ready_many : (k ≡ 0 → ⊥) → n < k → false ≡ ready_s n (st n sl mk bk)
    unfolding st
    ready_many z h =
        let s : 0 < get_or bk count_place 0 = some z in
        sym (rw (lt-ltb 0 (get_or bk count_place 0) s, lt-leb (get_or bk count_place 0) n (omega arith)) refl)

    pub ready_last : (k ≡ 0 → ⊥) → k ≤ n → {c : ℕ} → c ≡ get_or bk (stack_place n (k - 1)) 0 → ltb c n ≡ ready_s n (st n sl mk bk)
    unfolding st
    ready_last z h {c} q =
        let s : 0 < get_or bk count_place 0 = some z in
        let f : get_or bk count_place 0 ≤ n = omega arith in
        sym (rw (lt-ltb 0 (get_or bk count_place 0) s, le-leb (get_or bk count_place 0) n f)
        (ap (λ (i : ℕ). ltb i n) (sym (next_at f s) ∙ ap (λ (i : ℕ). get_or bk (head + n + (i - 1)) 0) (sym e) ∙ sym q)))

-- ---- the steps on the book
module _ (n : ℕ) (bk bk' : List ℕ) (z : Booked n bk) (sl mk : List ℕ) where
  pub take_step : (x k r : ℕ) → Spare n bk → r ≡ get_or bk (stack_place n (get_or bk count_place 0 - 1)) 0 → bk' ≡ set (set bk count_place (get_or bk count_place 0 - 1)) (head + r) (linked x k)
      → (st n sl mk bk' ≡ take_s x k (st n sl mk bk)) × (r ≡ next (st n sl mk bk))
  unfolding st take_s
  take_step x k r s p q =
      let u : ℕ = linked x k in
      let low : List ℕ = set bk count_place (get_or bk count_place 0 - 1) in
      let e : r ≡ part (head + n) n bk (get_or bk count_place 0 - 1) = p ∙ next_at n sl mk bk s.few s.some in
      let h : r < n = omega (arith, s.inside) in
      let len : length low ≡ book_length n = length-set bk count_place (get_or bk count_place 0 - 1) ∙ z.book_fit in (
        ap (st n sl mk) q ∙ st_ext (st n sl mk (set low (head + r) u)) _ (λ _ _. refl) (λ _ _. refl) (λ _ _. refl)
            (get_or-set_other low (head + r) count_place u 0 (λ d. omega arith) ∙ get_or-set_same bk count_place (get_or bk count_place 0 - 1) 0 (omega (arith, z.book_fit)))
            (λ j. part_out (head + n) n low (head + r) u (inl (omega arith)) j ∙ part_out (head + n) n bk count_place (get_or bk count_place 0 - 1) (inl (omega arith)) j)
            (λ j. part_in head n low r u h (omega arith) j ∙ (λ i. cond (eqb j (e i)) u (part_out head n bk count_place (get_or bk count_place 0 - 1) (inl (omega arith)) j i)))
            (λ j. part_out 0 8 low (head + r) u (inr (omega arith)) j ∙ part_out 0 8 bk count_place (get_or bk count_place 0 - 1) (inr (omega arith)) j),
        e,
      )

  -- the same by the count f that the code has read
  module _ {f r : ℕ} (s : Spare n bk) (e : f ≡ get_or bk count_place 0) (p : r ≡ get_or bk (stack_place n (f - 1)) 0) where
    last_is : r ≡ get_or bk (stack_place n (get_or bk count_place 0 - 1)) 0
    last_is = p ∙ ap (λ (i : ℕ). get_or bk (stack_place n (i - 1)) 0) e

    pub take_low : r < n
    take_low = omega (arith, s.inside, last_is)

    pub take_by : (x k : ℕ) → bk' ≡ set (set bk count_place (f - 1)) (head + r) (linked x k) → (st n sl mk bk' ≡ take_s x k (st n sl mk bk)) × (r ≡ next (st n sl mk bk))
    take_by x k q = take_step x k r s last_is (q ∙ ap (λ (i : ℕ). set (set bk count_place (i - 1)) (head + r) (linked x k)) e)

  -- a cell is given back
  pub give_step : (c f : ℕ) → f ≡ get_or bk count_place 0 → f < n → c < n → bk' ≡ set (set (set bk (head + n + f) c) (head + c) f) count_place (f + 1) → st n sl mk bk' ≡ give_s c (st n sl mk bk)
  unfolding st give_s
  give_step c f e hf hc q =
      let one : List ℕ = set bk (head + n + f) c in
      let two : List ℕ = set one (head + c) f in
      let l₁ : length one ≡ book_length n = length-set bk (head + n + f) c ∙ z.book_fit in
      let l₂ : length two ≡ book_length n = length-set one (head + c) f ∙ l₁ in
      ap (st n sl mk) q ∙ st_ext (st n sl mk (set two count_place (f + 1))) _ (λ _ _. refl) (λ _ _. refl) (λ _ _. refl)
      (get_or-set_same two count_place (f + 1) 0 (omega arith) ∙ ap (λ (i : ℕ). i + 1) e)
      (λ j. part_out (head + n) n two count_place (f + 1) (inl (omega arith)) j ∙ part_out (head + n) n one (head + c) f (inl (omega arith)) j
      ∙ part_in (head + n) n bk f c hf (omega (arith, z.book_fit)) j ∙ ap (λ (i : ℕ). at1 (part (head + n) n bk) i c j) e)
      (λ j. part_out head n two count_place (f + 1) (inl (omega arith)) j ∙ part_in head n one c f hc (omega arith) j
      ∙ (λ i. cond (eqb j c) (e i) (part_out head n bk (head + n + f) c (inr (omega arith)) j i)))
      (λ j. part_out 0 8 two count_place (f + 1) (inr (omega arith)) j ∙ part_out 0 8 one (head + c) f (inr (omega arith)) j ∙ part_out 0 8 bk (head + n + f) c (inr (omega arith)) j)

-- a filled mark
pub mark_step : (n : ℕ) (bk sl mk : List ℕ) (t m : ℕ) → t < 8 → t < length bk → st n sl mk (set bk t m) ≡ mark_s t m (st n sl mk bk)
unfolding st mark_s
mark_step n bk sl mk t m h l =
    st_ext _ _ (λ _ _. refl) (λ _ _. refl) (λ _ _. refl) (get_or-set_other bk t count_place m 0 (λ e. omega arith))
    (part_out (head + n) n bk t m (inl (omega arith))) (part_out head n bk t m (inl (omega arith)))
    (subst (λ (i : ℕ). (j : ℕ) → part 0 8 (set bk i m) j ≡ at1 (part 0 8 bk) t m j) none (part_in 0 8 bk t m h (omega arith)))
  where
    none : 0 + t ≡ t
    none = omega arith
