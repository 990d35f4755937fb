-- The walk that changes nothing: where it ends, and how that is told. Assumes nothing.
use mathlib.Core.Path.{◌≡◌, refl, sym, ap, ◌∙◌, subst}
use mathlib.Core.Bool.{Bool, true, false, cond, not, ◌&&◌, and_comm}
use mathlib.Core.Logic.{inl, inr}
use mathlib.Core.List.{List, [], ◌∷◌}
use Prim.Native.Nat.{ℕ, zero, suc, ◌+◌, ◌-◌, ◌*◌, ◌/◌, ◌%◌, ◌<◌, ◌≤◌}
use native.Mathlib.Omega.{arith}
use lib.ListN.{length, get_or}
use lib.Bits.{bit_and, and_le_r}
use lib.Dec.{ltb, eqb, lit<}
use native.Mathlib.Nat.{lt_of_le_of_lt}
use borrow.Author.Tests.{lt-ltb, le-ltb, ltb-true, eq-eqb, ne_eqb}
use Rattle.bitset.specs.Set.{bit_of, weight, word_bit}
use Rattle.bitset.proofs.Digits.{is_or_not}
use Rattle.bitset.proofs.Words.{and_acts, bit_rem, word_ext, zero_bit, weight_bit, weight_lt}
use Rattle.grid.specs.Geometry.{Point, slot_of}
use Rattle.grid.specs.Node.{size}
use Rattle.grid.proofs.Geometry.{slot_lt}
use Rattle.nodes.specs.State.{St}
use Rattle.nodes.specs.Layout.{st, word_of}
use Rattle.nodes.specs.Place.{Place, at, nowhere, path_of, lead_by, lead_s, place_s, end_at, told_end, Lies}
use Rattle.nodes.specs.declared.seek.Lead.{Lead}
use Rattle.nodes.specs.declared.seek.Lead.TheVariants.{Cell, Here, Broken}
use Rattle.nodes.specs.declared.seek.End.{End}
use Rattle.std.specs.Prelude.{Option, Some, None}
use Rattle.nodes.specs.Range.{In, Stands}
use Rattle.nodes.specs.Walk.{branching, below, Reach, broken, reach_at, reach_s}
use Rattle.nodes.proofs.Paths.{below_length, one_less, slot_in, stands_below}
use Rattle.nodes.proofs.Places.{word_top, word_cell, wide_top}
use Rattle.nodes.proofs.States.{st_slot, st_kid, st_val}

-- ---- a word has bit k exactly if it and the weight of that bit have a bit in common
pub clash : false ≡ true → ⊥
clash e = let z : ◌≡◌ {A = ℕ} 0 1 = cc in omega arith

pub bit_mask : (w k : ℕ) → not (eqb (bit_and w (weight k)) 0) ≡ word_bit w k
bit_mask w k = go (word_bit w k) refl
  where
    both : (r : ℕ) → word_bit (bit_and w (weight k)) r ≡ word_bit w r && eqb (r % 64) (k % 64)
    both r = and_acts.by_bits w (weight k) r ∙ ap (λ (b : Bool). word_bit w r && b) (weight_bit k r)

    go : (b : Bool) → word_bit w k ≡ b → not (eqb (bit_and w (weight k)) 0) ≡ word_bit w k
    go true e = ap not (ne_eqb (bit_and w (weight k)) 0 (λ z.
        clash (sym (zero_bit k) ∙ ap (λ (v : ℕ). word_bit v k) (sym z) ∙ both k ∙ rw (e, eq-eqb (k % 64) (k % 64) refl) refl))) ∙ sym e
    go false e =
        ap not (eq-eqb (bit_and w (weight k)) 0 (word_ext (bit_and w (weight k)) 0 (lt_of_le_of_lt (and_le_r w (weight k)) (weight_lt k)) (lit< tt) (λ r h.
        both r ∙ elim (is_or_not (r % 64) (k % 64)) [
          | inl p ↦ ap (λ (b : Bool). b && eqb (r % 64) (k % 64)) (bit_rem w r ∙ ap (word_bit w) p ∙ sym (bit_rem w k) ∙ e)
          | inr p ↦ and_comm (word_bit w r) (eqb (r % 64) (k % 64)) ∙ ap (λ (b : Bool). b && word_bit w r) (ne_eqb (r % 64) (k % 64) p)
        ] ∙ sym (zero_bit r)))) ∙ sym e

-- ---- the digits of a path
cut : (t k r : ℕ) → t ≡ k + 64 * r → k < 64 → (t % 64 ≡ k) × (t / 64 ≡ r)
cut t k r e h = (omega arith, omega arith)

pub path_slot : (l t : ℕ) (p : Point) → l ≤ 1 → t ≡ path_of (branching l) (below l) p → t % 64 ≡ slot_of (branching l) (below l) p
unfolding path_of size
path_slot zero t p h e = let k = slot_of 2 [] p in let f : k < 64 = slot_lt 2 [] p in omega (arith, e, f)
path_slot (suc zero) t p h e = (cut t (slot_of 2 (2 ∷ []) p) (path_of 2 [] p) e (slot_lt 2 (2 ∷ []) p)).0
path_slot (suc (suc l)) t p h e = absurd (omega arith)

pub path_rest : (l t : ℕ) (p : Point) → l ≤ 1 → (l ≡ 0 → ⊥) → t ≡ path_of (branching l) (below l) p → t / 64 ≡ path_of (branching (l - 1)) (below (l - 1)) p
unfolding path_of size
path_rest zero t p h z e = absurd (z refl)
path_rest (suc zero) t p h z e = (cut t (slot_of 2 (2 ∷ []) p) (path_of 2 [] p) e (slot_lt 2 (2 ∷ []) p)).1
path_rest (suc (suc l)) t p h z e = absurd (omega arith)

pub path_top : (t : ℕ) (p : Point) → t ≡ path_of 3 (2 ∷ 2 ∷ []) p → (t % 512 ≡ slot_of 3 (2 ∷ 2 ∷ []) p) × (t / 512 ≡ path_of 2 (2 ∷ []) p)
unfolding path_of size
path_top t p e = go (slot_of 3 (2 ∷ 2 ∷ []) p) (path_of 2 (2 ∷ []) p) e (slot_lt 3 (2 ∷ 2 ∷ []) p)
  where
    go : (k r : ℕ) → t ≡ k + 512 * r → k < 512 → (t % 512 ≡ k) × (t / 512 ≡ r)
    go k r e h = (omega arith, omega arith)

pub path_made : (p : Point) {a b c : ℕ} → a ≡ slot_of 3 (2 ∷ 2 ∷ []) p → b ≡ slot_of 2 (2 ∷ []) p → c ≡ slot_of 2 [] p → a + 512 * (b + 64 * c) ≡ path_of 3 (2 ∷ 2 ∷ []) p
unfolding path_of size
path_made p e f g = λ i. e i + 512 * (f i + 64 * g i)

-- ---- where a slot leads, by what the code has read: i is the place of its word, and h the number of its bit among the value bits
module _ (slots masks book : List ℕ) {n x j i : ℕ} (m : In n x j) (e : i ≡ word_of x j) where
  kid_here : {b c : Bool} → b ≡ bit_of masks i → b ≡ c → (st n slots masks book).kid x j ≡ c
  kid_here p q = st_kid slots masks book m ∙ ap (bit_of masks) (sym e) ∙ sym p ∙ q

  pub val_here : {h : ℕ} {a c : Bool} → h ≡ 64 * (64 + n) + i → a ≡ bit_of masks h → a ≡ c → (st n slots masks book).val x j ≡ c
  val_here f p q = st_val slots masks book m ∙ ap (λ (k : ℕ). bit_of masks (64 * (64 + n) + k)) (sym e) ∙ ap (bit_of masks) (sym f) ∙ sym p ∙ q

  pub word_here : (st n slots masks book).slot x j ≡ get_or slots i 0
  word_here = st_slot slots masks book m ∙ ap (λ (k : ℕ). get_or slots k 0) (sym e)

  module _ {b : Bool} (p : b ≡ bit_of masks i) where
    pub lead_none : b ≡ false → Here ≡ lead_s n (st n slots masks book) x j
    lead_none q = sym (rw (kid_here p q) refl)

    module _ (q : b ≡ true) {h : ℕ} {a : Bool} (f : h ≡ 64 * (64 + n) + i) (r : a ≡ bit_of masks h) where
      pub lead_both : a ≡ true → Broken ≡ lead_s n (st n slots masks book) x j
      lead_both t = sym (rw (kid_here p q, val_here f r t) refl)

      pub lead_to : a ≡ false → get_or slots i 0 < n → Cell (get_or slots i 0) ≡ lead_s n (st n slots masks book) x j
      lead_to t l = sym (rw (kid_here p q, val_here f r t, word_here, lt-ltb (get_or slots i 0) n l) refl)

      pub lead_out : a ≡ false → n ≤ get_or slots i 0 → Broken ≡ lead_s n (st n slots masks book) x j
      lead_out t l = sym (rw (kid_here p q, val_here f r t, word_here, le-ltb (get_or slots i 0) n l) refl)

-- a cell to which a slot leads is one of the pool
pub lead_in : (n : ℕ) (s : St) (x k : ℕ) {c : ℕ} → Cell c ≡ lead_s n s x k → c < n
lead_in n s x k {c} = go (s.kid x k) (s.val x k) (ltb (s.slot x k) n) refl
  where
    go : (b a t : Bool) → ltb (s.slot x k) n ≡ t → Cell c ≡ cond b (cond a Broken (cond t (Cell (s.slot x k)) Broken)) Here → c < n
    go true true t g e = cc
    go true false true g e = let z : c ≡ s.slot x k = cc in omega (arith, z, ltb-true (s.slot x k) n g)
    go true false false g e = cc
    go false a t g e = cc

-- ---- where the walk ends, by where the slot leads
abbrev by_lead : (ℕ → Place) → Place → Lead → Place
by_lead go e (Cell c) = go c
by_lead go e Here = e
by_lead go e Broken = nowhere

by_bits : (go : ℕ → Place) (e : Place) (n w : ℕ) (b a : Bool) → cond b (cond a nowhere (cond (ltb w n) (go w) nowhere)) e ≡ by_lead go e (lead_by n b a w)
by_bits go e n w true true = refl
by_bits go e n w true false = at_word (ltb w n)
  where
    at_word : (c : Bool) → cond c (go w) nowhere ≡ by_lead go e (cond c (Cell w) Broken)
    at_word true = refl
    at_word false = refl
by_bits go e n w false a = refl

place_up : (n : ℕ) (s : St) (l x : ℕ) (p : Point) → (l ≡ 0 → ⊥) → place_s (branching l) (below l) n s x p
    ≡ (let k = slot_of (branching l) (below l) p in by_lead (λ c. place_s (branching (l - 1)) (below (l - 1)) n s (8 + c) p) (at l x k) (lead_s n s x k))
unfolding place_s
place_up n s zero x p h = absurd (h refl)
place_up n s (suc l) x p h =
    let k = slot_of (branching (suc l)) (below (suc l)) p in
    by_bits (λ c. place_s (branching l) (below l) n s (8 + c) p) (at (suc (length (below l))) x k) n (s.slot x k) (s.kid x k) (s.val x k)
    ∙ ap (λ (m : ℕ). by_lead (λ c. place_s (branching l) (below l) n s (8 + c) p) (at (suc m) x k) (lead_s n s x k)) (below_length l)
    ∙ ap (λ (m : ℕ). by_lead (λ c. place_s (branching m) (below m) n s (8 + c) p) (at (suc l) x k) (lead_s n s x k)) (sym (one_less l))

-- what the code tells of the end
module _ (n : ℕ) (s : St) (l x : ℕ) (p : Point) {k : ℕ} (e : k ≡ slot_of (branching l) (below l) p) where
  module _ (h : l ≡ 0 → ⊥) where
    told_by : {d : Lead} → d ≡ lead_s n s x k → told_end (by_lead (λ c. place_s (branching (l - 1)) (below (l - 1)) n s (8 + c) p) (at l x k) d) ≡ told_end (place_s (branching l) (below l) n s x p)
    told_by f =
        ap (λ (d : Lead). told_end (by_lead (λ c. place_s (branching (l - 1)) (below (l - 1)) n s (8 + c) p) (at l x k) d)) f
        ∙ ap (λ (j : ℕ). told_end (by_lead (λ c. place_s (branching (l - 1)) (below (l - 1)) n s (8 + c) p) (at l x j) (lead_s n s x j))) e
        ∙ sym (ap told_end (place_up n s l x p h))

    pub told_go : {c : ℕ} {r : Option End} → Cell c ≡ lead_s n s x k → r ≡ told_end (place_s (branching (l - 1)) (below (l - 1)) n s (8 + c) p) → r ≡ told_end (place_s (branching l) (below l) n s x p)
    told_go f g = g ∙ told_by f

    pub told_here : {i : ℕ} → Here ≡ lead_s n s x k → i ≡ word_of x k → Some (record { level = l; place = i }) ≡ told_end (place_s (branching l) (below l) n s x p)
    told_here f g = ap (λ (i : ℕ). Some (record { level = l; place = i })) g ∙ told_by f

    pub told_out : Broken ≡ lead_s n s x k → None ≡ told_end (place_s (branching l) (below l) n s x p)
    told_out f = told_by f

  pub told_leaf : {i : ℕ} → l ≡ 0 → i ≡ word_of x k → Some (record { level = l; place = i }) ≡ told_end (place_s (branching l) (below l) n s x p)
  unfolding place_s
  told_leaf z g =
      ap (λ (i : ℕ). Some (record { level = l; place = i })) g
      ∙ subst (λ (m : ℕ). k ≡ slot_of (branching m) (below m) p → Some (record { level = m; place = word_of x k }) ≡ told_end (place_s (branching m) (below m) n s x p)) (sym z)
      (λ e. ap (λ (j : ℕ). Some (record { level = 0; place = word_of x j })) e) e

-- the words of a cell and of a top, by mask words
pub cell_word : (c k : ℕ) → 64 * (64 + c) + k ≡ word_of (8 + c) k
cell_word c k = let e = word_cell (8 + c) k (omega arith) in omega (arith, e)

pub top_word : (x t : ℕ) → x < 8 → 64 * (8 * x + t / 64 % 8) + t % 64 ≡ word_of x (t % 512)
top_word x t h = let e = word_top x (t % 512) h in omega (arith, e)

pub top_in : (n x t : ℕ) → x < 8 → In n x (t % 512)
top_in n x t h = record { node = omega arith; slot = omega (arith, wide_top x h) }

-- ---- the walk ends in the pool, and its end is that of the walk in specs/Walk
pub place_lies : (n : ℕ) (s : St) (p : Point) (l x : ℕ) → Stands n l x → Lies n (place_s (branching l) (below l) n s x p)
unfolding place_s
place_lies n s p zero x h = (h, slot_in p h refl)
place_lies n s p (suc l) x h =
    let k = slot_of (branching (suc l)) (below (suc l)) p in
    subst (Lies n) (sym (place_up n s (suc l) x p up)) (go (λ c m. place_lies n s p l (8 + c) (subst (λ (m : ℕ). Stands n m (8 + c)) (one_less l) (stands_below h up c m))) (lead_s n s x k) refl)
  where
    up : suc l ≡ 0 → ⊥
    up z = omega arith

    go : ((c : ℕ) → c < n → Lies n (place_s (branching l) (below l) n s (8 + c) p)) → (d : Lead) → d ≡ lead_s n s x (slot_of (branching (suc l)) (below (suc l)) p)
        → Lies n (by_lead (λ c. place_s (branching (suc l - 1)) (below (suc l - 1)) n s (8 + c) p) (at (suc l) x (slot_of (branching (suc l)) (below (suc l)) p)) d)
    go rest (Cell c) f = subst (λ (m : ℕ). Lies n (place_s (branching m) (below m) n s (8 + c) p)) (sym (one_less l)) (rest c (lead_in n s x _ f))
    go rest Here f = (h, slot_in p h refl)
    go rest Broken f = tt

pub reach_place : (b : ℕ) (bs : List ℕ) (n : ℕ) (s : St) (x : ℕ) (p : Point) → reach_s b bs n s x p ≡ end_at s (place_s b bs n s x p)
unfolding reach_s place_s
reach_place b [] n s x p = refl
reach_place b (c ∷ bs) n s x p =
    let k = slot_of b (c ∷ bs) p in
    by k (s.kid x k) (s.val x k) (ltb (s.slot x k) n) (place_s c bs n s (8 + s.slot x k) p) (reach_place c bs n s (8 + s.slot x k) p)
  where
    by : (k : ℕ) (q v w : Bool) (i : Place) {e : Reach} → e ≡ end_at s i
        → cond q (cond v broken (cond w e broken)) (reach_at (suc (length bs)) s x k) ≡ end_at s (cond q (cond v nowhere (cond w i nowhere)) (at (suc (length bs)) x k))
    by k true true w i f = refl
    by k true false true i f = f
    by k true false false i f = refl
    by k false v w i f = refl

-- ---- what is told of an end: the slot's level and place are given back from it
pub ends_at : {n : ℕ} {r : End} (q : Place) → Lies n q → Some r ≡ told_end q → (x k : ℕ) × (q ≡ at r.level x k) × (Stands n r.level x) × (In n x k) × (r.place ≡ word_of x k)
ends_at {n} {r} (at l x k) h e =
    let z : r ≡ record { level = l; place = word_of x k } = cc in
    (x, k, ap (λ (e : End). at e.level x k) (sym z), subst (λ (e : End). Stands n e.level x) (sym z) h.0, h.1, ap (λ (e : End). e.place) z)
ends_at nowhere h e = cc
