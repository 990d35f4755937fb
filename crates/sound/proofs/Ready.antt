-- What preparing writes, from the words of each slice to the state. Assumes nothing.
use mathlib.Core.Path.{◌≡◌, refl, sym, ap, ◌∙◌}
use mathlib.Core.Bool.{Bool, false, ◌&&◌, ◌||◌}
use mathlib.Core.List.{List}
use mathlib.Core.Logic.{◌⊎◌, inl, inr}
use Prim.Native.Nat.{ℕ, ◌+◌, ◌-◌, ◌*◌, ◌<◌, ◌≤◌}
use native.Mathlib.Omega.{arith}
use lib.Dec.{ltb, leb}
use lib.ListN.{length, get_or, set}
use lib.Seq.{get_or-set_same, get_or-set_other, length-take-le}
use borrow.Author.Tests.{lt-ltb, le-ltb, le-leb, lt-leb, ltb-true}
use borrow.Rule.Slice.PartMut.{put_mid, same_len_mid}
use Rattle.floats.specs.Value.{is_finite, far}
use Rattle.floats.proofs.Finite.{finite_far, small_finite}
use Rattle.floats.proofs.Words.{on_case}
use Rattle.bitset.specs.Set.{bit_of}
use Rattle.bitset.proofs.Digits.{lt_or_le}
use Rattle.bitset.proofs.Every.{and_both}
use Rattle.bitset.proofs.Parts.{bit_put}
use Rattle.nodes.specs.State.{St, wide}
use Rattle.nodes.specs.Layout.{st, word_of, count_place, head, tops, slots_length, masks_length, book_length, inside}
use Rattle.nodes.specs.Range.{In}
use Rattle.nodes.proofs.Places.{wide_top, word_top, word_cell, word_lt, spread}
use Rattle.nodes.proofs.States.{st_slot, st_kid, st_val}
use Rattle.means.specs.Level.{Same}
use Rattle.means.specs.Prepared.{Ready}
use Rattle.means.specs.Unspoilt.{Unspoilt}
use Rattle.means.proofs.Unspoilt.{still_equal}
use Rattle.sound.specs.Runs.{Run, Emptied, Freed}
use Rattle.sound.proofs.Book.{st_count, st_tag, st_stack, st_mark}

-- ---- the masks: a part whose bits are all off is put back
module _ (ws ys : List ℕ) (a n : ℕ) (fits : a + n ≤ length ws) (long : length ys ≡ n) (none : (i : ℕ) → bit_of ys i ≡ false) where
  -- the bits of the whole: those outside the part are as before
  kept : ℕ → Bool
  kept k = (ltb k (64 * a) || leb (64 * (a + n)) k) && bit_of ws k

  kept_none : (k : ℕ) → 64 * a ≤ k → k < 64 * (a + n) → kept k ≡ false
  unfolding kept
  kept_none k l h = rw (le-ltb k (64 * a) l, lt-leb (64 * (a + n)) k h) refl

  kept_all : (k : ℕ) → (k < 64 * a) ⊎ (64 * (a + n) ≤ k) → bit_of ws k ≡ kept k
  unfolding kept
  kept_all k (inl h) = sym (rw (lt-ltb k (64 * a) h) refl)
  kept_all k (inr h) = sym (rw (le-ltb k (64 * a) (omega arith), le-leb (64 * (a + n)) k h) refl)

  put_off : (k : ℕ) → bit_of (put_mid a n ws ys) k ≡ kept k
  put_off = bit_put ws ys a n fits long kept (λ i h. none i ∙ sym (kept_none (64 * a + i) (omega arith) (omega arith))) kept_all

  pub off_here : (k : ℕ) → 64 * a ≤ k → k < 64 * (a + n) → bit_of (put_mid a n ws ys) k ≡ false
  off_here k l h = put_off k ∙ kept_none k l h

  pub off_else : (k : ℕ) → (k < 64 * a) ⊎ (64 * (a + n) ≤ k) → bit_of (put_mid a n ws ys) k ≡ bit_of ws k
  off_else k h = put_off k ∙ sym (kept_all k h)

-- first the 64 child words of the tops, then their 64 value words
pub emptied : (n : ℕ) (ws ys zs : List ℕ) → length ws ≡ masks_length n → length ys ≡ 64 → length zs ≡ 64 → ((i : ℕ) → bit_of ys i ≡ false) → ((i : ℕ) → bit_of zs i ≡ false)
    → Emptied n ws (put_mid (64 + n) (128 + n - (64 + n)) (put_mid 0 64 ws ys) zs)
emptied n ws ys zs h a b p q =
    let d = 128 + n - (64 + n) in
    let e : 64 ≡ d = omega arith in
    let l : length (put_mid 0 64 ws ys) ≡ length ws = same_len_mid 0 64 ws ys (a ∙ sym (length-take-le 64 ws (omega arith))) in
    let first = off_else ws ys 0 64 (omega arith) a p in
    let second = off_else (put_mid 0 64 ws ys) zs (64 + n) d (omega arith) (b ∙ e) q in
    record {
      kids = λ i m. second i (inl (omega arith)) ∙ off_here ws ys 0 64 (omega arith) a p i (omega arith) (omega arith);
      vals = λ i m. off_here (put_mid 0 64 ws ys) zs (64 + n) d (omega arith) (b ∙ e) q (64 * (64 + n) + i) (omega arith) (omega arith);
      cell_kids = λ i m l. second i (inl (omega arith)) ∙ first i (inr (omega arith));
      cell_vals = λ i m. second (64 * (64 + n) + i) (inr (omega arith)) ∙ first (64 * (64 + n) + i) (inr (omega arith));
    }

-- ---- the book: the marks, the use marks, the stack, and the count
pub freed : (n : ℕ) {l₀ l₁ l₂ l₃ : List ℕ} → length l₀ ≡ book_length n → Run 0 8 (λ i. 0) l₀ l₁ → Run head n (λ i. i) l₁ l₂ → Run (head + n) n (λ i. i) l₂ l₃ → Freed n (set l₃ count_place n)
freed n {l₀} {l₁} {l₂} {l₃} h a b c =
    record {
      marks = λ t m. apart t (λ e. omega arith) ∙ c.other t (inl (omega arith)) ∙ b.other t (inl (omega arith)) ∙ a.here t (omega arith) (omega arith);
      count = get_or-set_same l₃ count_place n 0 (omega (arith, a.long, b.long, c.long));
      tags = λ i m.
          let e : head + i - head ≡ i = omega arith in
          apart (head + i) (λ e. omega arith) ∙ c.other (head + i) (inl (omega arith)) ∙ b.here (head + i) (omega arith) (omega arith) ∙ e;
      stack = λ i m. let e : head + n + i - (head + n) ≡ i = omega arith in apart (head + n + i) (λ e. omega arith) ∙ c.here (head + n + i) (omega arith) (omega arith) ∙ e;
    }
  where
    apart : (j : ℕ) → (j ≡ count_place → ⊥) → get_or (set l₃ count_place n) j 0 ≡ get_or l₃ j 0
    apart j = get_or-set_other l₃ count_place j n 0

-- ---- the state
pub top : (n t k : ℕ) → t < 8 → k < 512 → In n t k
top n t k ht hk = record { node = omega arith; slot = omega (arith, wide_top t ht) }

pub ready : (n : ℕ) {slots₀ slots masks₀ masks book : List ℕ} (w : ℕ) → w ≡ far → Run 0 tops (λ i. w) slots₀ slots → Emptied n masks₀ masks → Freed n book → Ready n (st n slots masks book)
ready n {slots = slots} {masks = masks} {book = book} w e r m b =
    record {
      all_free = st_count n slots masks book ∙ b.count;
      placed = λ i h. st_stack n slots masks book i h ∙ b.stack i h;
      tagged = λ i h. st_tag n slots masks book i h ∙ b.tags i h;
      no_branch = λ t k ht hk. st_kid slots masks book (top n t k ht hk) ∙ m.kids (word_of t k) (low t k ht hk);
      no_tile = λ t k ht hk. st_val slots masks book (top n t k ht hk) ∙ m.vals (word_of t k) (low t k ht hk);
      all_far = λ t k ht hk. st_slot slots masks book (top n t k ht hk) ∙ r.here (word_of t k) (omega arith) (low t k ht hk) ∙ e;
      unmarked = λ t h. st_mark n slots masks book t h ∙ b.marks t h;
    }
  where
    low : (t k : ℕ) → t < 8 → k < 512 → word_of t k < tops
    low t k ht hk = omega (arith, word_top t k ht)

-- the slots of the cells are as they were
pub cells_kept : (n w : ℕ) {slots₀ slots masks₀ masks : List ℕ} (book₀ book : List ℕ) → Run 0 tops (λ i. w) slots₀ slots → Emptied n masks₀ masks
    → (x : ℕ) → 8 ≤ x → Same (st n slots₀ masks₀ book₀) (st n slots masks book) x
unfolding st
cells_kept n w {slots₀} {slots} {masks₀} {masks} book₀ book r m x h k =
    record {
      slot = same 0 (λ i. get_or slots₀ i 0) (λ i. get_or slots i 0) (λ i a b. sym (r.other i (inr a)));
      kid = same false (bit_of masks₀) (bit_of masks) (λ i a b. sym (m.cell_kids i a (omega arith)));
      val = same false (λ i. bit_of masks₀ (64 * (64 + n) + i)) (λ i. bit_of masks (64 * (64 + n) + i)) (λ i a b. sym (m.cell_vals i a));
    }
  where
    same : {A : Type 0} (d : A) (f f' : ℕ → A) → ((i : ℕ) → tops ≤ i → i < slots_length n → f i ≡ f' i) → spread n d f x k ≡ spread n d f' x k
    same d f f' e = on_case (inside n x k)
        (λ t.
        let o = and_both (ltb x (8 + n)) (ltb k (wide x)) t in
        rw t (e (word_of x k) (omega (arith, word_cell x k h)) (word_lt (record { node = ltb-true x (8 + n) o.0; slot = ltb-true k (wide x) o.1 }))))
        (λ t. rw t refl)

-- no slot is spoilt: one of a top holds +far, past the last of them the state reads 0, and those of the cells are as they were
pub prepared_unspoilt : {s : St} (n : ℕ) (slots masks book : List ℕ) → Ready n (st n slots masks book) → ((x : ℕ) → 8 ≤ x → Same s (st n slots masks book) x) → Unspoilt s (st n slots masks book)
unfolding st
prepared_unspoilt n slots masks book r c x k = elim (lt_or_le x 8) [
  | inl h ↦ inr (elim (lt_or_le k 512) [
    | inl l ↦ ap is_finite (r.all_far x k h l) ∙ finite_far
    | inr l ↦ rw (lt-ltb x (8 + n) (omega arith), lt-ltb x 8 h, le-ltb k 512 l) (small_finite 0 (omega arith))
  ])
  | inr h ↦ inl (still_equal (c x h k))
]
