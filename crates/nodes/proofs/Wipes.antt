-- A node wiped, by what the code does at each slot, and a cell as one piece. Assumes nothing.
use Rattle.std.specs.Prelude.{Option, Some, None}
use mathlib.Core.Path.{◌≡◌, refl, sym, ap, ap₂, ◌∙◌, subst}
use mathlib.Core.Logic.{inl, inr}
use mathlib.Core.Bool.{Bool, true, false, cond, ◌&&◌}
use mathlib.Core.List.{[], ◌∷◌}
use Prim.Native.Nat.{ℕ, zero, suc, ◌+◌, ◌*◌, ◌<◌, ◌≤◌}
use native.Mathlib.Omega.{arith}
use lib.ListN.{get_or}
use lib.Dec.{ltb, eqb}
use borrow.Author.Tests.{lt-ltb, le-ltb, eq-eqb, ne_eqb}
use Rattle.bitset.specs.Set.{bit_of, word_bit}
use Rattle.bitset.proofs.Digits.{lt_or_le, is_or_not}
use Rattle.bitset.proofs.Words.{zero_bit}
use Rattle.bitset.proofs.Sets.{has_own}
use Rattle.bitset.proofs.First.{Leads, less, less_off, less_other}
use Rattle.floats.specs.Value.{far}
use Rattle.grid.specs.Node.{size}
use Rattle.nodes.specs.State.{St}
use Rattle.nodes.specs.declared.pool.Pool.{Pool}
use Rattle.nodes.specs.Layout.{word_of}
use Rattle.nodes.specs.Pool.{state}
use Rattle.nodes.specs.Change.{at2, release_s}
use Rattle.nodes.specs.Steps.{slot_s, cell_s, give_s, room_s}
use Rattle.nodes.specs.Each.{each_s}
use Rattle.nodes.specs.Walk.{child_r}
use Rattle.nodes.specs.Wipe.{drop_m, shed_m, wipe_at, wipe_m, emptied_m, empty_m, return_s, unlink_s}
use Rattle.nodes.proofs.Places.{cell_in, cell_word}
use Rattle.nodes.proofs.States.{st_slot, st_kid}
use Rattle.nodes.proofs.Changes.{st_ext}
use Rattle.nodes.proofs.Each.{each_more}

-- ---- the first m slots of node x are given a
module _ {A : Type 0} (f : ℕ → ℕ → A) (x : ℕ) (a : A) where
  abbrev first : ℕ → ℕ → ℕ → A
  first m y j = cond (eqb y x && ltb j m) a (f y j)

  first_none : (y j : ℕ) → f y j ≡ first 0 y j
  first_none y j = elim (is_or_not y x) [
    | inl e ↦ sym (rw (eq-eqb y x e, le-ltb j 0 (omega arith)) refl)
    | inr e ↦ sym (rw (ne_eqb y x e) refl)
  ]

  first_more : (m y j : ℕ) → at2 (first m) x m a y j ≡ first (suc m) y j
  first_more m y j = elim (is_or_not y x) [
    | inl e ↦ elim (is_or_not j m) [
      | inl d ↦ rw (eq-eqb y x e, eq-eqb j m d, lt-ltb j (suc m) (omega arith)) refl
      | inr d ↦ elim (lt_or_le j m) [
        | inl h ↦ rw (eq-eqb y x e, ne_eqb j m d, lt-ltb j m h, lt-ltb j (suc m) (omega arith)) refl
        | inr h ↦ rw (eq-eqb y x e, ne_eqb j m d, le-ltb j m h, le-ltb j (suc m) (past d h)) refl
      ]
    ]
    | inr e ↦ rw (ne_eqb y x e) refl
  ]
    where
      past : (j ≡ m → ⊥) → m ≤ j → suc m ≤ j
      past d h = omega arith

  -- slot m is not yet one of them
  first_here : (m : ℕ) → first m x m ≡ f x m
  first_here m = rw (eq-eqb x x refl, le-ltb m m (omega arith)) refl

  -- of what a slot is given twice, the second stays
  twice : (k : ℕ) (b : A) (y j : ℕ) → at2 (at2 f x k b) x k a y j ≡ at2 f x k a y j
  twice k b y j = go (eqb y x && eqb j k)
    where
      go : (t : Bool) → cond t a (cond t b (f y j)) ≡ cond t a (f y j)
      go true = refl
      go false = refl

-- so the steps at all slots of a cell are the cell's own
module _ (x w : ℕ) (a : Bool) where
  first_s : ℕ → St → St
  first_s m s =
      record {
        slot = first s.slot x w m;
        kid = first s.kid x false m;
        val = first s.val x a m;
        count = s.count;
        stack = s.stack;
        tag = s.tag;
        mark = s.mark;
      }

  first_s_none : (s : St) → s ≡ first_s 0 s
  unfolding first_s
  first_s_none s = st_ext _ _ (first_none s.slot x w) (first_none s.kid x false) (first_none s.val x a) refl (λ _. refl) (λ _. refl) (λ _. refl)

  first_s_more : (m : ℕ) (s : St) → slot_s x m w false a (first_s m s) ≡ first_s (suc m) s
  unfolding slot_s first_s
  first_s_more m s = st_ext _ _ (first_more s.slot x w m) (first_more s.kid x false m) (first_more s.val x a m) refl (λ _. refl) (λ _. refl) (λ _. refl)

  each_first : (m : ℕ) (s : St) → each_s (λ k. slot_s x k w false a) m s ≡ first_s m s
  unfolding each_s
  each_first zero s = first_s_none s
  each_first (suc m) s = ap (slot_s x m w false a) (each_first m s) ∙ first_s_more m s

cell_first : (c w : ℕ) (a : Bool) (s : St) → cell_s c w a s ≡ first_s (8 + c) w a 64 s
unfolding cell_s first_s
cell_first c w a s = refl

-- ---- a node of level 1: a slot whose leaf is given back need not be written before all its leaves are
module _ (n x w : ℕ) (a : Bool) where
  -- a release writes the slot, which is then written again
  drop_back : (k : ℕ) (s : St) → slot_s x k w false a (drop_m n x k s) ≡ slot_s x k w false a (return_s n (s.slot x k) s)
  unfolding slot_s release_s give_s
  drop_back k s = go (room_s n x k s)
    where
      go : (b : Bool) → slot_s x k w false a (cond b (release_s x k s) s) ≡ slot_s x k w false a (cond b (give_s (s.slot x k) s) s)
      go true = st_ext _ _ (twice s.slot x w k far) (twice s.kid x false k false) (twice s.val x a k false) refl (λ _. refl) (λ _. refl) (λ _. refl)
      go false = refl

  shed_unlink : (k : ℕ) (s : St) → wipe_at (empty_m n 0) n w a x k s ≡ slot_s x k w false a (unlink_s n x k s)
  unfolding shed_m emptied_m
  shed_unlink k s = go (s.kid x k) (ltb (s.slot x k) n) refl
    where
      go : (b d : Bool) → ltb (s.slot x k) n ≡ d → slot_s x k w false a (cond b (cond d (drop_m n x k s) s) s) ≡ slot_s x k w false a (cond b (return_s n (s.slot x k) s) s)
      go true true e = drop_back k s
      go true false e = ap (slot_s x k w false a) (sym (rw e refl))
      go false d e = refl

  -- giving cells back and writing other slots go in any order
  unlink_first : (m : ℕ) (s : St) → unlink_s n x m (first_s x w a m s) ≡ first_s x w a m (unlink_s n x m s)
  unfolding first_s give_s
  unlink_first m s =
      (λ i. cond (first_here s.kid x false m i) (return_s n (first_here s.slot x w m i) (first_s x w a m s)) (first_s x w a m s))
      ∙ go (s.kid x m) (ltb (s.slot x m) n && ltb s.count n)
    where
      go : (b d : Bool) → cond b (cond d (give_s (s.slot x m) (first_s x w a m s)) (first_s x w a m s)) (first_s x w a m s) ≡ first_s x w a m (cond b (cond d (give_s (s.slot x m) s) s) s)
      go true true = refl
      go true false = refl
      go false d = refl

  each_unlink : (m : ℕ) (s : St) → each_s (wipe_at (empty_m n 0) n w a x) m s ≡ first_s x w a m (each_s (unlink_s n x) m s)
  unfolding each_s
  each_unlink zero s = first_s_none x w a s
  each_unlink (suc m) s =
      let r : St = each_s (unlink_s n x) m s in
      ap (wipe_at (empty_m n 0) n w a x m) (each_unlink m s) ∙ shed_unlink m (first_s x w a m r) ∙ ap (slot_s x m w false a) (unlink_first m r) ∙ first_s_more x w a m (unlink_s n x m r)

pub middle_by : (n c : ℕ) (s : St) {w : ℕ} {r t : St} → r ≡ each_s (unlink_s n (8 + c)) 64 s → w ≡ far → t ≡ cell_s c w false r → t ≡ empty_m n 1 (8 + c) s
unfolding emptied_m size
middle_by n c s p f q = q ∙ ap₂ (λ (w : ℕ) (r : St). cell_s c w false r) f p ∙ cell_first c far false _ ∙ sym (each_unlink n (8 + c) far false 64 s)

-- ---- its links, one after the other: a step at the slots whose bits are on in a word
module _ (f : ℕ → St → St) where
  abbrev pub some_s : ℕ → ℕ → St → St
  some_s w k s = cond (word_bit w k) (f k s) s

  some_none : (w m : ℕ) (s : St) → ((k : ℕ) → k < m → word_bit w k ≡ false) → each_s (some_s w) m s ≡ s
  unfolding each_s
  some_none w zero s h = refl
  some_none w (suc m) s h = rw (h m (omega arith)) (some_none w m s (λ k l. h k (omega arith)))

  pub some_last : {w : ℕ} (s : St) → w ≡ 0 → each_s (some_s w) 64 s ≡ s
  some_last {w} s e = some_none w 64 s (λ k _. ap (λ (v : ℕ). word_bit v k) e ∙ zero_bit k)

  -- the first of them done, the others are left
  module _ {w i : ℕ} (d : Leads w i) (s : St) where
    pub some_first : (m : ℕ) → m ≤ 64 → i < m → each_s (some_s w) m s ≡ each_s (some_s (less w i)) m (f i s)
    unfolding each_s
    some_first zero h l = absurd (omega arith)
    some_first (suc m) h l = elim (is_or_not i m) [
      | inl e ↦ subst (λ (m : ℕ). m ≤ 64 → some_s w m (each_s (some_s w) m s) ≡ some_s (less w i) m (each_s (some_s (less w i)) m (f i s))) e here (omega arith)
      | inr e ↦
          ap (some_s w m) (some_first m (omega arith) (omega arith))
          ∙ ap (λ (b : Bool). cond b (f m (each_s (some_s (less w i)) m (f i s))) (each_s (some_s (less w i)) m (f i s))) (sym (less_other d m (omega arith) (λ q. e (sym q))))
    ]
      where
        here : i ≤ 64 → some_s w i (each_s (some_s w) i s) ≡ some_s (less w i) i (each_s (some_s (less w i)) i (f i s))
        here h = rw (d.on, less_off d) (ap (f i) (some_none w i s d.before) ∙ sym (some_none (less w i) i (f i s) (λ k l. less_other d k (omega arith) (λ q. omega arith) ∙ d.before k l)))

-- a cell is given back at each
module _ (n x : ℕ) where
  abbrev pub return_at : ℕ → St → St
  return_at k s = return_s n (s.slot x k) s

  unlink_kid : (k : ℕ) (s : St) → (unlink_s n x k s).kid ≡ s.kid
  unfolding give_s
  unlink_kid k s = go (s.kid x k) (ltb (s.slot x k) n && ltb s.count n)
    where
      go : (b d : Bool) → (cond b (cond d (give_s (s.slot x k) s) s) s).kid ≡ s.kid
      go true true = refl
      go true false = refl
      go false d = refl

  kids_stay : (m : ℕ) (s : St) → (each_s (unlink_s n x) m s).kid ≡ s.kid
  unfolding each_s
  kids_stay zero s = refl
  kids_stay (suc m) s = unlink_kid m (each_s (unlink_s n x) m s) ∙ kids_stay m s

  some_linked : (w : ℕ) (s : St) → ((k : ℕ) → k < 64 → word_bit w k ≡ s.kid x k) → (m : ℕ) → m ≤ 64 → each_s (some_s return_at w) m s ≡ each_s (unlink_s n x) m s
  unfolding each_s
  some_linked w s h zero l = refl
  some_linked w s h (suc m) l =
      let r : St = each_s (unlink_s n x) m s in
      ap (some_s return_at w m) (some_linked w s h m (omega arith)) ∙ ap (λ (b : Bool). cond b (return_at m r) r) (h m (omega arith) ∙ ap (λ (f : ℕ → ℕ → Bool). f x m) (sym (kids_stay m s)))

-- of the links of cell c, those with a bit in w are left
abbrev pub links_left : ℕ → ℕ → ℕ → St → St
links_left n c w = each_s (some_s (return_at n (8 + c)) w) 64

-- the child bits of a cell are one word
module _ (p : Pool) {c : ℕ} (h : c < p.n) where
  pub links_all : links_left p.n c (get_or p.masks.now (64 + c) 0) (state p) ≡ each_s (unlink_s p.n (8 + c)) 64 (state p)
  unfolding state
  links_all = some_linked p.n (8 + c) (get_or p.masks.now (64 + c) 0) (state p)
      (λ k l. has_own p.masks.now (64 + c) k l ∙ ap (bit_of p.masks.now) (sym (cell_word c k)) ∙ sym (st_kid _ _ _ (cell_in h (8 + c) k refl l))) 64 (omega arith)

  link_at : (i : ℕ) → i < 64 → get_or p.slots.now (4096 + 64 * c + i) 0 ≡ (state p).slot (8 + c) i
  unfolding state
  link_at i l =
      let q : 4096 + 64 * c + i ≡ word_of (8 + c) i = omega (arith, cell_word c i) in
      ap (λ (j : ℕ). get_or p.slots.now j 0) q ∙ sym (st_slot _ _ _ (cell_in h (8 + c) i refl l))

  pub links_more : {n w i : ℕ} {s : St} → p.n ≡ n → Leads w i → s ≡ return_s p.n (get_or p.slots.now (4096 + 64 * c + i) 0) (state p) → links_left n c (less w i) s ≡ links_left n c w (state p)
  links_more {w = w} {i = i} {s = s} e d q =
      subst (λ (n : ℕ). links_left n c (less w i) s ≡ links_left n c w (state p)) e
      (ap (links_left p.n c (less w i)) (q ∙ ap (λ (j : ℕ). return_s p.n j (state p)) (link_at i d.within)) ∙ sym (some_first (return_at p.n (8 + c)) d (state p) 64 (omega arith) d.within))

-- ---- a cell given back, or not
module _ (n : ℕ) (s : St) {c : ℕ} where
  pub back_out : n ≤ c → s ≡ return_s n c s
  back_out h = sym (rw (le-ltb c n h) refl)

  module _ {f : ℕ} (h : c < n) (e : f ≡ s.count) where
    pub back_full : n ≤ f → s ≡ return_s n c s
    back_full l = sym (rw (lt-ltb c n h, le-ltb s.count n (subst (λ (i : ℕ). n ≤ i) e l)) refl)

    pub back_by : f < n → {r : St} → r ≡ give_s c s → r ≡ return_s n c s
    back_by l p = p ∙ sym (rw (lt-ltb c n h, lt-ltb s.count n (subst (λ (i : ℕ). i < n) e l)) refl)

-- ---- a cell that is to be released
module _ (n x : ℕ) (s : St) {l : ℕ} where
  pub empty_leaf : l ≡ 0 → s ≡ empty_m n l x s
  unfolding emptied_m
  empty_leaf e = subst (λ (i : ℕ). s ≡ empty_m n i x s) (sym e) refl

-- ---- what hangs below a slot, by where it leads
module _ (go : ℕ → St → St) (n x k : ℕ) (s : St) where
  abbrev shed_in : Option ℕ → St
  shed_in (Some c) = drop_m n x k (go (8 + c) s)
  shed_in None = s

  shed_is : shed_m go n x k s ≡ shed_in (child_r n s x k)
  unfolding shed_m
  shed_is = by (s.kid x k) (ltb (s.slot x k) n)
    where
      by : (a b : Bool) → cond a (cond b (drop_m n x k (go (8 + s.slot x k) s)) s) s ≡ shed_in (cond (a && b) (Some (s.slot x k)) None)
      by true true = refl
      by true false = refl
      by false b = refl

  pub shed_none : None ≡ child_r n s x k → s ≡ shed_m go n x k s
  shed_none e = ap shed_in e ∙ sym shed_is

  pub shed_by : {c : ℕ} {r t : St} → Some c ≡ child_r n s x k → r ≡ go (8 + c) s → t ≡ drop_m n x k r → t ≡ shed_m go n x k s
  shed_by e p q = q ∙ ap (drop_m n x k) p ∙ ap shed_in e ∙ sym shed_is

-- ---- the top of a seat
module _ (n w : ℕ) (a : Bool) (x : ℕ) (s : St) where
  -- one slot more
  pub wipe_more : (k : ℕ) {t t' t'' : St} → t ≡ each_s (wipe_at (empty_m n 1) n w a x) k s → t' ≡ shed_m (empty_m n 1) n x k t → t'' ≡ slot_s x k w false a t'
      → t'' ≡ each_s (wipe_at (empty_m n 1) n w a x) (k + 1) s
  wipe_more k p q r = each_more (wipe_at (empty_m n 1) n w a x) s k p (r ∙ ap (slot_s x k w false a) q)

  pub wipe_all : (k : ℕ) {t : St} → k ≡ 512 → t ≡ each_s (wipe_at (empty_m n 1) n w a x) k s → t ≡ wipe_m 3 (2 ∷ 2 ∷ []) n w a x s
  unfolding wipe_m size
  wipe_all k e p = p ∙ ap (λ (m : ℕ). each_s (wipe_at (empty_m n 1) n w a x) m s) e
