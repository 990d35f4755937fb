-- The links of a node's branches, as a list: what a walk has still to give, and what is read of the whole list. Assumes nothing.
use mathlib.Core.Path.{◌≡◌, refl, sym, ap, ◌∙◌, subst}
use mathlib.Core.Logic.{inl, inr}
use mathlib.Core.Bool.{Bool, true, false, not, cond, ◌&&◌, ◌||◌}
use mathlib.Core.List.{List, [], ◌∷◌, ◌++◌}
use Prim.Native.Nat.{ℕ, zero, suc, ◌+◌, ◌*◌, ◌/◌, ◌%◌, ◌<◌, ◌≤◌}
use native.Mathlib.Omega.{arith}
use lib.ListN.{length, get_or}
use borrow.Author.Tests.{lt-ltb, le-ltb, eq-eqb, ne_eqb}
use Rattle.std.specs.List.{list_any, sum_by}
use Rattle.std.proofs.lemmas.List.Folds.{list_any-append}
use Rattle.std.proofs.lemmas.List.Sums.{sum_by-append}
use Rattle.bitset.specs.Set.{every, word_bit, bit_of}
use Rattle.bitset.proofs.Digits.{lt_or_le, is_or_not}
use Rattle.bitset.proofs.Words.{zero_bit}
use Rattle.bitset.proofs.Sets.{has_own}
use Rattle.bitset.proofs.First.{Leads, less, less_off, less_other}
use Rattle.grid.specs.Node.{size, sum}
use Rattle.nodes.specs.State.{wide}
use Rattle.nodes.specs.Layout.{st, word_of}
use Rattle.nodes.specs.Range.{Stands}
use Rattle.nodes.specs.Walk.{branching}
use Rattle.nodes.proofs.Places.{wide_top, wide_cell, word_top, word_cell, word_from}
use Rattle.nodes.proofs.Paths.{slot_of_lem}
use Rattle.nodes.proofs.States.{st_slot, st_kid}
use Rattle.trees.specs.declared.links.Links.{Links}
use Rattle.trees.specs.Links.{listed, to_come, links_left}

-- ---- what f gives at those of the first m numbers that p holds of
pub listed_alike : (p p' : ℕ → Bool) (f f' : ℕ → ℕ) (m : ℕ) → ((i : ℕ) → i < m → p i ≡ p' i) → ((i : ℕ) → i < m → f i ≡ f' i) → listed p f m ≡ listed p' f' m
unfolding listed
listed_alike p p' f f' zero h g = refl
listed_alike p p' f f' (suc m) h g = λ z. listed_alike p p' f f' m (λ i l. h i (omega arith)) (λ i l. g i (omega arith)) z ++ cond (h m (omega arith) z) (g m (omega arith) z ∷ []) []

pub listed_none : (p : ℕ → Bool) (f : ℕ → ℕ) (m : ℕ) → ((i : ℕ) → i < m → p i ≡ false) → listed p f m ≡ []
unfolding listed
listed_none p f zero h = refl
listed_none p f (suc m) h = rw (listed_none p f m (λ i l. h i (omega arith)), h m (omega arith)) refl

module _ (p : ℕ → Bool) (f : ℕ → ℕ) where
  -- the first of them is k, and p' holds of the others
  pub listed_first : (p' : ℕ → Bool) (k : ℕ) → p k ≡ true → ((i : ℕ) → i < k → p i ≡ false) → p' k ≡ false → ((i : ℕ) → (i ≡ k → ⊥) → p' i ≡ p i) → (m : ℕ) → k < m
      → listed p f m ≡ f k ∷ listed p' f m
  unfolding listed
  listed_first p' k on before off other zero l = absurd (omega arith)
  listed_first p' k on before off other (suc m) l = elim (is_or_not k m) [
    | inl e ↦
        rw
        (listed_none p f m (λ i l. before i (omega arith)), subst (λ (j : ℕ). p j ≡ true) e on, subst (λ (j : ℕ). p' j ≡ false) e off)
        (ap (λ (j : ℕ). f j ∷ []) (sym e) ∙ ap (λ (t : List ℕ). f k ∷ (t ++ [])) (sym (listed_none p' f m (λ i l. other i (λ o. omega (arith, o, e, l)) ∙ before i (omega (arith, e, l))))))
    | inr d ↦ λ z. listed_first p' k on before off other m (omega arith) z ++ cond (sym (other m (λ e. d (sym e))) z) (f m ∷ []) []
  ]

  -- none of them is below a
  pub listed_from : (a m : ℕ) → ((i : ℕ) → i < a → p i ≡ false) → listed p f (a + m) ≡ listed (λ k. p (a + k)) (λ k. f (a + k)) m
  unfolding listed
  listed_from a zero h = let e : a + 0 ≡ a = omega arith in ap (listed p f) e ∙ listed_none p f a h
  listed_from a (suc m) h =
      let e : a + suc m ≡ suc (a + m) = omega arith in
      ap (listed p f) e ∙ ap (λ (t : List ℕ). t ++ cond (p (a + m)) (f (a + m) ∷ []) []) (listed_from a m h)

  pub listed_sum : (g : ℕ → ℕ) (m : ℕ) → sum_by g (listed p f m) ≡ sum m (λ k. cond (p k) (g (f k)) 0)
  unfolding listed sum
  listed_sum g zero = refl
  listed_sum g (suc m) = sum_by-append g (listed p f m) (cond (p m) (f m ∷ []) []) ∙ omega (arith, listed_sum g m, one (p m) (f m))
    where
      one : (b : Bool) (x : ℕ) → sum_by g (cond b (x ∷ []) []) ≡ cond b (g x) 0
      one true x = omega arith
      one false x = refl

  pub listed_any : (h : ℕ → Bool) (m : ℕ) → list_any h (listed p f m) ≡ not (every (λ k. not (p k && h (f k))) m)
  unfolding listed every
  listed_any h zero = refl
  listed_any h (suc m) =
      list_any-append h (listed p f m) (cond (p m) (f m ∷ []) [])
      ∙ (λ z. listed_any h m z || one (p m) (f m) z) ∙ turned (every (λ k. not (p k && h (f k))) m) (p m && h (f m))
    where
      one : (b : Bool) (x : ℕ) → list_any h (cond b (x ∷ []) []) ≡ b && h x
      one true x = last (h x)
        where
          last : (b : Bool) → b || false ≡ b
          last true = refl
          last false = refl
      one false x = refl

      turned : (e q : Bool) → not e || q ≡ not (not q && e)
      turned true true = refl
      turned true false = refl
      turned false true = refl
      turned false false = refl

pub one_less : {x : ℕ} {a b : List ℕ} → a ≡ x ∷ b → length b < length a
one_less {x} {a} {b} e = let d : length a ≡ suc (length b) = ap length e in omega (arith, d)

-- ---- what a walk still has to give; a loop over it begins with all
abbrev pub to_give : Links → List ℕ
to_give l = links_left l.slots.now l.masks.now l.last l.group l.bits.rest

pub begins : {i j : Links} {t : List ℕ} → i ≡ j → to_give j ≡ t → to_give i ≡ t
begins e f = ap (λ (i : Links). to_give i) e ∙ f

-- ---- the groups of a node, of 64 slots: the first of them is that of its first word
pub record Groups (n x m : ℕ) : Type 0 where
  pub some : 1 ≤ m / 64
  pub fill : 64 * (m / 64) ≡ m
  pub fit : word_of x 0 / 64 + m / 64 ≤ 64 + n

pub node_groups : {n l x m : ℕ} → Stands n l x → m ≡ size (branching l) → Groups n x m
node_groups {n} {l} {x} {m} s e =
    let w : m ≡ wide x = e ∙ sym s.slots in
    elim (lt_or_le x 8) [
      | inl h ↦ record { some = omega (arith, w, wide_top x h); fill = omega (arith, w, wide_top x h); fit = omega (arith, w, wide_top x h, word_top x 0 h) }
      | inr h ↦ record { some = omega (arith, w, wide_cell x h); fill = omega (arith, w, wide_cell x h); fit = omega (arith, w, wide_cell x h, word_cell x 0 h, s.node) }
    ]

-- ---- the walk: of group g the bits w are left, and the groups up to the last
module _ (slots masks : List ℕ) (last : ℕ) where
  -- a whole group, and those after it
  whole : (g i : ℕ) → g ≤ i / 64 → to_come masks g (get_or masks g 0) i ≡ bit_of masks i
  whole g i l = elim (is_or_not (i / 64) g) [
    | inl e ↦
        let p : 64 * g + i % 64 ≡ i = omega arith in
        rw (eq-eqb (i / 64) g e) (has_own masks g (i % 64) (omega arith) ∙ ap (bit_of masks) p)
    | inr d ↦ rw (ne_eqb (i / 64) g d, lt-ltb g (i / 64) (past d)) refl
  ]
    where
      past : (i / 64 ≡ g → ⊥) → g < i / 64
      past d = omega arith

  before : (g w i : ℕ) → i / 64 < g → to_come masks g w i ≡ false
  before g w i l = rw (ne_eqb (i / 64) g (λ e. omega arith), le-ltb g (i / 64) (omega arith)) refl

  pub links_first : {g w i : ℕ} → g ≤ last → Leads w i → links_left slots masks last g w ≡ get_or slots (64 * g + i) 0 ∷ links_left slots masks last g (less w i)
  links_first {g} {w} {i} h d =
      listed_first (to_come masks g w) (λ i. get_or slots i 0) (to_come masks g (less w i)) (64 * g + i)
      (here w ∙ d.on)
      (λ j l. elim (is_or_not (j / 64) g) [
        | inl e ↦ rw (eq-eqb (j / 64) g e) (d.before (j % 64) (omega arith))
        | inr o ↦ before g w j (omega arith)
      ])
      (here (less w i) ∙ less_off d)
      (λ j o. elim (is_or_not (j / 64) g) [
        | inl e ↦ rw (eq-eqb (j / 64) g e) (less_other d (j % 64) (omega arith) (λ q. o (omega arith)))
        | inr q ↦ rw (ne_eqb (j / 64) g q) refl
      ])
      (64 * last + 64) (omega (arith, h, d.within))
    where
      here : (v : ℕ) → to_come masks g v (64 * g + i) ≡ word_bit v i
      here v =
          let e : (64 * g + i) % 64 ≡ i = omega (arith, d.within) in
          rw (eq-eqb ((64 * g + i) / 64) g (omega (arith, d.within))) (ap (word_bit v) e)

  -- the next group
  pub links_on : (g : ℕ) {w : ℕ} → w ≡ 0 → links_left slots masks last g w ≡ links_left slots masks last (g + 1) (get_or masks (g + 1) 0)
  links_on g {w} z =
      listed_alike (to_come masks g w) (to_come masks (g + 1) (get_or masks (g + 1) 0)) (λ i. get_or slots i 0) (λ i. get_or slots i 0) (64 * last + 64)
      (λ i _. elim (lt_or_le (i / 64) (g + 1)) [
        | inl l ↦ gone i l ∙ sym (before (g + 1) (get_or masks (g + 1) 0) i l)
        | inr l ↦ rw (ne_eqb (i / 64) g (λ e. omega arith), lt-ltb g (i / 64) (omega arith)) (sym (whole (g + 1) i l))
      ])
      (λ _ _. refl)
    where
      gone : (i : ℕ) → i / 64 < g + 1 → to_come masks g w i ≡ false
      gone i l = elim (is_or_not (i / 64) g) [
        | inl e ↦ rw (eq-eqb (i / 64) g e) (ap (λ (v : ℕ). word_bit v (i % 64)) z ∙ zero_bit (i % 64))
        | inr d ↦ before g w i (omega arith)
      ]

  pub links_end : {g w : ℕ} → g ≡ last → w ≡ 0 → links_left slots masks last g w ≡ []
  links_end {g} {w} h z =
      listed_none (to_come masks g w) (λ i. get_or slots i 0) (64 * last + 64)
      (λ i l. elim (is_or_not (i / 64) g) [
        | inl e ↦ rw (eq-eqb (i / 64) g e) (ap (λ (v : ℕ). word_bit v (i % 64)) z ∙ zero_bit (i % 64))
        | inr d ↦ before g w i (omega arith)
      ])

  -- it begins with the whole node
  pub links_all : {n x l g w : ℕ} → Stands n l x → g ≡ word_of x 0 / 64 → 64 * last + 64 ≡ 64 * g + size (branching l) → w ≡ get_or masks g 0 → (book : List ℕ)
      → links_left slots masks last g w ≡ listed ((st n slots masks book).kid x) ((st n slots masks book).slot x) (size (branching l))
  links_all {n} {x} {l} {g} {w} s h e q book =
      ap (λ (w : ℕ). links_left slots masks last g w) q ∙ ap (listed p f) e ∙ listed_from p f (64 * g) (size (branching l)) (λ i l. before g (get_or masks g 0) i (omega arith))
      ∙ listed_alike (λ k. p (64 * g + k)) ((st n slots masks book).kid x) (λ k. f (64 * g + k)) ((st n slots masks book).slot x) (size (branching l))
      (λ k l. whole g (64 * g + k) (omega arith) ∙ ap (bit_of masks) (place k) ∙ sym (st_kid slots masks book (slot_of_lem s refl l)))
      (λ k l. ap f (place k) ∙ sym (st_slot slots masks book (slot_of_lem s refl l)))
    where
      p : ℕ → Bool
      p = to_come masks g (get_or masks g 0)

      f : ℕ → ℕ
      f i = get_or slots i 0

      place : (k : ℕ) → 64 * g + k ≡ word_of x k
      place k = omega (arith, h, word_from x k)
