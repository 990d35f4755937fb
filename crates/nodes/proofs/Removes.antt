-- A remove, by what the code does at each slot and on the way back. Assumes nothing.
use Rattle.std.specs.Prelude.{Option, Some, None}
use mathlib.Core.Path.{◌≡◌, refl, sym, ap, ap₂, ◌∙◌, subst}
use mathlib.Core.Bool.{Bool, true, false, not, cond, ◌&&◌}
use mathlib.Core.List.{List}
use Prim.Native.Nat.{ℕ, zero, suc, ◌+◌, ◌-◌, ◌*◌, ◌<◌, ◌≤◌, ◌^◌}
use native.Mathlib.Omega.{arith}
use lib.ListN.{get_or}
use lib.Dec.{ltb, eqb, lit<}
use borrow.Author.Tests.{lt-ltb, le-ltb, eq-eqb, eqb-true, not-true}
use Rattle.bitset.specs.Set.{bit_of, every, word_bit}
use Rattle.bitset.proofs.Every.{both_ways, every_intro, every_elim}
use Rattle.bitset.proofs.Sets.{has_own}
use Rattle.bitset.proofs.Words.{word_ext, zero_bit}
use Rattle.floats.specs.Value.{is_finite}
use Rattle.grid.specs.Geometry.{Point, slot_of}
use Rattle.nodes.specs.State.{St}
use Rattle.nodes.specs.Layout.{st, word_of, val_bit}
use Rattle.nodes.specs.Change.{hide_s, release_s}
use Rattle.nodes.specs.Range.{In}
use Rattle.nodes.specs.Steps.{room_s}
use Rattle.nodes.specs.Insert.{grow_s, grow_r, onward}
use Rattle.nodes.specs.Remove.{none_s, bare_s, shut_m, remove_at, remove_m}
use Rattle.nodes.specs.Split.{go_on_r, split_s, split_r}
use Rattle.nodes.specs.Walk.{branching, below, view_s, grown_m}
use Rattle.nodes.specs.declared.walk.Slot.{Slot}
use Rattle.nodes.specs.declared.walk.Slot.TheVariants.{Branch, Tile, Hidden}
use Rattle.nodes.proofs.Places.{cell_in, cell_word}
use Rattle.nodes.proofs.States.{st_kid, st_val}
use Rattle.nodes.proofs.Changes.{st_ext, val_kid, val_val}
use Rattle.nodes.proofs.Paths.{one_less, some_if}
use Rattle.std.specs.Bool.{then_some}
use Rattle.nodes.proofs.Inserts.{branch_low, grow_low, grow_is}

-- ---- hide
pub hide_step : (n : ℕ) (mk mk' sl book : List ℕ) {x k i : ℕ} → In n x k → i ≡ word_of x k → ((j : ℕ) → bit_of mk' j ≡ cond (eqb j (64 * (64 + n) + i)) false (bit_of mk j))
    → st n sl mk' book ≡ hide_s x k (st n sl mk book)
unfolding st hide_s
hide_step n mk mk' sl book {x} {k} m e r =
    let q : (j : ℕ) → bit_of mk' j ≡ cond (eqb j (val_bit n x k)) false (bit_of mk j) = λ j. r j ∙ ap (λ (h : ℕ). cond (eqb j (64 * (64 + n) + h)) false (bit_of mk j)) e in
    st_ext _ _ (λ _ _. refl) (val_kid n (bit_of mk) (bit_of mk') false m q) (val_val n (bit_of mk) (bit_of mk') false m q) refl (λ _. refl) (λ _. refl) (λ _. refl)

-- ---- a word is 0 if none of its bits is on
pub every_same : (p q : ℕ → Bool) (n : ℕ) → ((k : ℕ) → k < n → p k ≡ q k) → every p n ≡ every q n
unfolding every
every_same p q zero h = refl
every_same p q (suc n) h = ap₂ (λ (a b : Bool). a && b) (h n (omega arith)) (every_same p q n (λ k l. h k (omega arith)))

pub word_none : (w : ℕ) → w < 2 ^ 64 → eqb w 0 ≡ every (λ j. not (word_bit w j)) 64
word_none w l =
    both_ways (eqb w 0) (every (λ j. not (word_bit w j)) 64)
    (λ e. every_intro (λ j. not (word_bit w j)) 64 (λ j _. ap not (ap (λ (v : ℕ). word_bit v j) (eqb-true w 0 e) ∙ zero_bit j)))
    (λ e. eq-eqb w 0 (word_ext w 0 l (lit< tt) (λ r m. not-true (word_bit w r) (every_elim (λ j. not (word_bit w j)) 64 e r m) ∙ sym (zero_bit r))))

pub word_off : (mk : List ℕ) (i : ℕ) → get_or mk i 0 < 2 ^ 64 → eqb (get_or mk i 0) 0 ≡ every (λ j. not (bit_of mk (64 * i + j))) 64
word_off mk i l = word_none (get_or mk i 0) l ∙ every_same _ _ 64 (λ j h. ap not (has_own mk i j h))

-- ---- bare

-- the bits of cell c in either mask are those of one word
module _ (sl mk book : List ℕ) {n c : ℕ} (h : c < n) where
  pub kid_word : {b : Bool} → b ≡ every (λ j. not (bit_of mk (64 * (64 + c) + j))) 64 → b ≡ none_s (st n sl mk book).kid (8 + c)
  kid_word e = e ∙ every_same _ _ 64 (λ j l. ap not (sym (st_kid sl mk book (cell_in h (8 + c) j refl l) ∙ ap (bit_of mk) (cell_word c j))))

  pub val_word : {b : Bool} → b ≡ every (λ j. not (bit_of mk (64 * (128 + n + c) + j))) 64 → b ≡ none_s (st n sl mk book).val (8 + c)
  val_word e = e ∙ every_same _ _ 64 (λ j l.
      let p : 64 * (64 + n) + word_of (8 + c) j ≡ 64 * (128 + n + c) + j = omega (arith, cell_word c j) in
      ap not (sym (st_val sl mk book (cell_in h (8 + c) j refl l) ∙ ap (bit_of mk) p)))

module _ (s : St) (y l : ℕ) {a : Bool} (e : a ≡ none_s s.val y) where
  pub bare_no : a ≡ false → false ≡ bare_s (below l) s y
  unfolding bare_s
  bare_no f = go l
    where
      go : (l : ℕ) → false ≡ bare_s (below l) s y
      go zero = sym f ∙ e
      go (suc l) = sym (rw (sym e ∙ f) refl)

  pub bare_leaf : a ≡ true → l ≡ 0 → true ≡ bare_s (below l) s y
  unfolding bare_s
  bare_leaf f z = sym f ∙ e ∙ subst (λ (i : ℕ). none_s s.val y ≡ bare_s (below i) s y) (sym z) refl

  pub bare_fork : a ≡ true → (l ≡ 0 → ⊥) → {b : Bool} → b ≡ none_s s.kid y → b ≡ bare_s (below l) s y
  unfolding bare_s
  bare_fork f z g = g ∙ go l z
    where
      go : (l : ℕ) → (l ≡ 0 → ⊥) → none_s s.kid y ≡ bare_s (below l) s y
      go zero z = absurd (z refl)
      go (suc l) z = sym (rw (sym e ∙ f) refl)

-- ---- shut
module _ (n x k l : ℕ) (s : St) {c : ℕ} (e : c ≡ s.slot x k) where
  pub shut_out : n ≤ c → s ≡ shut_m (below l) n x k s
  shut_out h = sym (rw (le-ltb (s.slot x k) n (subst (λ (i : ℕ). n ≤ i) e h)) refl)

  module _ (h : c < n) {a : Bool} (p : a ≡ bare_s (below l) s (8 + c)) where
    at : bare_s (below l) s (8 + s.slot x k) ≡ a
    at = ap (λ (i : ℕ). bare_s (below l) s (8 + i)) (sym e) ∙ sym p

    pub shut_full : a ≡ false → s ≡ shut_m (below l) n x k s
    shut_full f = sym (rw (lt-ltb (s.slot x k) n (subst (λ (i : ℕ). i < n) e h), at ∙ f) refl)

    pub shut_bare : a ≡ true → {s' : St} → s' ≡ cond (room_s n x k s) (release_s x k s) s → s' ≡ shut_m (below l) n x k s
    shut_bare f q = q ∙ rw (lt-ltb (s.slot x k) n (subst (λ (i : ℕ). i < n) e h), at ∙ f) refl

-- ---- split: its answer and the state that it leaves
module _ (n : ℕ) where
  pub go_branch : {t : Slot} {c : ℕ} {r : Option ℕ} → t ≡ Branch c → r ≡ then_some (ltb c n) c → r ≡ go_on_r n t
  unfolding go_on_r
  go_branch {c = c} e p = p ∙ some_if (ltb c n) c ∙ sym (ap (go_on_r n) e)

  pub go_else : (t : Slot) → ((c : ℕ) → t ≡ Branch c → ⊥) → None ≡ go_on_r n t
  unfolding go_on_r
  go_else (Branch c) h = absurd (h c refl)
  go_else (Tile u) h = refl
  go_else (Hidden u) h = refl

abbrev pub Parted : ℕ → ℕ → ℕ → St → Slot → Option ℕ → St → Type 0
Parted n x k s t r s' = (r ≡ split_r n s t) × (s' ≡ split_s n x k s t)

module _ (n x k : ℕ) (s : St) {t : Slot} where
  module _ {u : ℕ} {b : Bool} (e : t ≡ Tile u) (p : b ≡ is_finite u) where
    pub split_no : b ≡ false → Parted n x k s t None s
    unfolding split_r split_s
    split_no q = (sym (ap (split_r n s) e ∙ rw (sym p ∙ q) refl), sym (ap (split_s n x k s) e ∙ rw (sym p ∙ q) refl))

    pub split_tile : b ≡ true → {r : Option ℕ} {s' : St} → r ≡ grow_r n s → s' ≡ grow_s n x k u true s → Parted n x k s t r s'
    unfolding split_r split_s
    split_tile q a d = (a ∙ sym (ap (split_r n s) e ∙ rw (sym p ∙ q) refl), d ∙ sym (ap (split_s n x k s) e ∙ rw (sym p ∙ q) refl))

pub split_other : (n x k : ℕ) (s : St) (t : Slot) {r : Option ℕ} → ((u : ℕ) → t ≡ Tile u → ⊥) → r ≡ go_on_r n t → Parted n x k s t r s
unfolding go_on_r split_r split_s
split_other n x k s (Branch c) h a = (a, refl)
split_other n x k s (Tile u) h a = absurd (h u refl)
split_other n x k s (Hidden u) h a = (a, refl)

-- where a remove goes on, the cell is one of the pool's
pub split_low : (n : ℕ) (s : St) (t : Slot) {c : ℕ} → Some c ≡ split_r n s t → c < n
unfolding split_r
split_low n s (Branch d) e = branch_low n d e
split_low n s (Tile u) {c} e = go (is_finite u) e
  where
    go : (b : Bool) → Some c ≡ cond b (grow_r n s) None → c < n
    go true q = grow_low n s q
    go false q = absurd cc
split_low n s (Hidden u) e = absurd cc

-- ---- the whole remove: at the slot, onward, and back
abbrev is_branch : Slot → Bool
is_branch (Branch c) = true
is_branch (Tile u) = false
is_branch (Hidden u) = false

-- `go` goes on in the cell that was found, which is shut on the way back where it was there before
abbrev round : (St → St) → (ℕ → St → St) → Bool → Option ℕ → St → St
round shut go old (Some c) s = cond old (shut (go (8 + c) s)) (go (8 + c) s)
round shut go old None s = s

grow_round : (shut : St → St) (go : ℕ → St → St) (r : Option ℕ) (s : St) → onward go r s ≡ round shut go false r s
grow_round shut go (Some c) s = refl
grow_round shut go None s = refl

split_is : (bs : List ℕ) (go : ℕ → St → St) (n x k : ℕ) (s : St) (t : Slot) → remove_at bs go n x k s t ≡ round (shut_m bs n x k) go (is_branch t) (split_r n s t) (split_s n x k s t)
unfolding split_r split_s
split_is bs go n x k s (Branch c) = by (ltb c n)
  where
    by : (b : Bool) → cond b (shut_m bs n x k (go (8 + c) s)) s ≡ round (shut_m bs n x k) go true (cond b (Some c) None) s
    by true = refl
    by false = refl
split_is bs go n x k s (Tile u) = by (is_finite u)
  where
    by : (b : Bool) → cond b (grown_m go n x k u true s) s ≡ round (shut_m bs n x k) go false (cond b (grow_r n s) None) (cond b (grow_s n x k u true s) s)
    by true = grow_is go n x k u true s ∙ grow_round (shut_m bs n x k) go (grow_r n s) (grow_s n x k u true s)
    by false = refl
split_is bs go n x k s (Hidden u) = refl

remove_up : (n l : ℕ) (p : Point) (x : ℕ) (s : St) → (l ≡ 0 → ⊥) → remove_m (branching l) (below l) n p x s
    ≡ remove_at (below (l - 1)) (remove_m (branching (l - 1)) (below (l - 1)) n p) n x (slot_of (branching l) (below l) p) s (view_s (below l) s x (slot_of (branching l) (below l) p))
unfolding remove_m
remove_up n zero p x s h = absurd (h refl)
remove_up n (suc l) p x s h =
    let k = slot_of (branching (suc l)) (below (suc l)) p in
    ap (λ (m : ℕ). remove_at (below m) (remove_m (branching m) (below m) n p) n x k s (view_s (below (suc l)) s x k)) (sym (one_less l))

-- above the leaves the child bit alone says that a slot is a branch
branch_is : (s : St) (l x k : ℕ) → (l ≡ 0 → ⊥) → is_branch (view_s (below l) s x k) ≡ s.kid x k
unfolding view_s
branch_is s zero x k h = absurd (h refl)
branch_is s (suc l) x k h = by (s.kid x k) (s.val x k)
  where
    by : (a b : Bool) → is_branch (cond a (Branch (s.slot x k)) (cond b (Tile (s.slot x k)) (Hidden (s.slot x k)))) ≡ a
    by true b = refl
    by false true = refl
    by false false = refl

module _ (n l : ℕ) (p : Point) (x : ℕ) (s : St) {k : ℕ} (e : k ≡ slot_of (branching l) (below l) p) where
  pub remove_leaf : {s' : St} → l ≡ 0 → s' ≡ hide_s x k s → s' ≡ remove_m (branching l) (below l) n p x s
  unfolding remove_m
  remove_leaf z h = h ∙ ap (λ (j : ℕ). hide_s x j s) e ∙ subst (λ (i : ℕ). hide_s x (slot_of (branching i) (below i) p) s ≡ remove_m (branching i) (below i) n p x s) (sym z) refl

  module _ (t : Slot) (h : l ≡ 0 → ⊥) (q : t ≡ view_s (below l) s x k) where
    abbrev below_it : ℕ → St → St
    below_it = remove_m (branching (l - 1)) (below (l - 1)) n p

    whole : {r : Option ℕ} {s' : St} {old : Bool} → Parted n x k s t r s' → old ≡ s.kid x k → round (shut_m (below (l - 1)) n x k) below_it old r s' ≡ remove_m (branching l) (below l) n p x s
    whole d o =
        (λ i. round (shut_m (below (l - 1)) n x k) below_it ((o ∙ sym (ap is_branch q ∙ branch_is s l x k h)) i) (d.0 i) (d.1 i))
        ∙ sym (remove_up n l p x s h ∙ ap (λ (j : ℕ). remove_at (below (l - 1)) below_it n x j s (view_s (below l) s x j)) (sym e)
        ∙ ap (remove_at (below (l - 1)) below_it n x k s) (sym q) ∙ split_is (below (l - 1)) below_it n x k s t)

    pub remove_stop : {s' : St} → Parted n x k s t None s' → s' ≡ remove_m (branching l) (below l) n p x s
    remove_stop d = whole d refl

    module _ {c : ℕ} {s' s'' : St} (d : Parted n x k s t (Some c) s') (f : s'' ≡ remove_m (branching (l - 1)) (below (l - 1)) n p (8 + c) s') {old : Bool} (o : old ≡ s.kid x k) where
      pub remove_new : old ≡ false → s'' ≡ remove_m (branching l) (below l) n p x s
      remove_new z = f ∙ whole d (sym z ∙ o)

      pub remove_back : old ≡ true → {s''' : St} → s''' ≡ shut_m (below (l - 1)) n x k s'' → s''' ≡ remove_m (branching l) (below l) n p x s
      remove_back z g = g ∙ ap (shut_m (below (l - 1)) n x k) f ∙ whole d (sym z ∙ o)
