-- What the end of a walk tells the calls on one voxel, from what the code has read there. Assumes nothing.
use mathlib.Core.Path.{◌≡◌, refl, sym, ap, ◌∙◌, subst}
use mathlib.Core.Bool.{Bool, true, false, cond}
use mathlib.Core.List.{List, [], ◌∷◌}
use Prim.Native.Nat.{ℕ, ◌≤◌}
use native.Mathlib.Omega.{arith}
use lib.ListN.{get_or}
use Rattle.std.specs.Prelude.{Result, Ok, Err, IsErrAnd, Option as Maybe, Some, None}
use Rattle.floats.specs.Value.{is_finite, negative, equal}
use Rattle.grid.specs.Geometry.{Point}
use Rattle.nodes.specs.State.{St}
use Rattle.nodes.specs.Layout.{st, word_of}
use Rattle.nodes.specs.Change.{put_s, hide_s}
use Rattle.nodes.specs.Place.{Place, at, nowhere, place_s, end_at, told_end, Lies}
use Rattle.nodes.specs.declared.seek.End.{End}
use Rattle.nodes.specs.Range.{In, Stands}
use Rattle.nodes.specs.Remove.{none_s, remove_m}
use Rattle.nodes.specs.Walk.{Reach, active, hidden, broken, reach_s, need_insert_r, need_remove_r, insert_m}
use Rattle.nodes.proofs.Leaves.{insert_here, remove_here}
use Rattle.nodes.proofs.Paths.{top_stands, leaf_cell}
use Rattle.nodes.proofs.Places.{word_lt}
use Rattle.nodes.proofs.Seeks.{place_lies, reach_place, ends_at, word_here}
use Rattle.voxels.specs.Answers.{EndsAt, InPool, reached_r, signed_r, afford_s, blocked_r}
use Rattle.voxels.specs.declared.refusal.Refusal.{Refusal}
use Rattle.voxels.specs.declared.refusal.Refusal.TheVariants.{Damaged, Unfilled}
use Rattle.voxels.proofs.Refused.{exit_is}

module _ (n : ℕ) (s : St) (i : ℕ) (p : Point) {r : Maybe End} (e : EndsAt n s i p r) where
  lies : Lies n (place_s 3 (2 ∷ 2 ∷ []) n s i p)
  lies = place_lies n s p 2 i (top_stands n i e.0)

  pub ends_in : InPool n r
  ends_in = subst (InPool n) (sym e.1) (go (place_s 3 (2 ∷ 2 ∷ []) n s i p) lies)
    where
      go : (q : Place) → Lies n q → InPool n (told_end q)
      go (at l x k) h = word_lt h.1
      go nowhere h = tt

  ends_none : r ≡ None → reach_s 3 (2 ∷ 2 ∷ []) n s i p ≡ broken
  ends_none z = reach_place 3 (2 ∷ 2 ∷ []) n s i p ∙ go (place_s 3 (2 ∷ 2 ∷ []) n s i p) (sym z ∙ e.1)
    where
      go : (q : Place) → None ≡ told_end q → end_at s q ≡ broken
      go (at l x k) f = cc
      go nowhere f = refl

  -- an end that is there
  module _ {d : End} (z : r ≡ Some d) where
    ends_some : (x k : ℕ) × (place_s 3 (2 ∷ 2 ∷ []) n s i p ≡ at d.level x k) × (Stands n d.level x) × (In n x k) × (d.place ≡ word_of x k)
    ends_some = ends_at (place_s 3 (2 ∷ 2 ∷ []) n s i p) lies (sym z ∙ e.1)

    -- an insert and a remove at a leaf
    module _ (leaf : d.level ≡ 0) where
      pub insert_leaf : (w : ℕ) {s' : St} → ((x k : ℕ) → In n x k → d.place ≡ word_of x k → s' ≡ put_s x k w true s) → s' ≡ insert_m 3 (2 ∷ 2 ∷ []) n p w i s
      insert_leaf w f = let d = ends_some in f d.0 d.1 d.4 d.5 ∙ sym (insert_here n s p w 2 i (d.2 ∙ ap (λ (l : ℕ). at l d.0 d.1) leaf))

      pub remove_leaf : {s' : St} → ((x k : ℕ) → In n x k → d.place ≡ word_of x k → s' ≡ hide_s x k s)
          → ((x k : ℕ) → In n x k → 8 ≤ x → d.place ≡ word_of x k → none_s (hide_s x k s).val x ≡ false) → s' ≡ remove_m 3 (2 ∷ 2 ∷ []) n p i s
      remove_leaf f g =
          let d = ends_some in
          f d.0 d.1 d.4 d.5 ∙ sym (remove_here n s p 2 i (omega arith) (d.2 ∙ ap (λ (l : ℕ). at l d.0 d.1) leaf) (g d.0 d.1 d.4 (leaf_cell d.3 leaf) d.5))

-- what three slices hold, where each is what one of two ways left of it
pub st_as : (n : ℕ) {slots slots' masks masks' book book' : List ℕ} → slots ≡ slots' → masks ≡ masks' → book ≡ book' → st n slots masks book ≡ st n slots' masks' book'
st_as n a b c = λ i. st n (a i) (b i) (c i)

-- ---- the end, by the word and the value bit that are read there

-- a slot of a level that holds the word w, active or hidden as a says
abbrev pub slot_r : ℕ → Bool → ℕ → Reach
slot_r l a w = cond a (active l w) (hidden l w)

-- what `reached` tells of an end
pub reached_told : {r : Maybe End} {d : End} {w : ℕ} (slots : List ℕ) → reached_r slots r ≡ Ok (d, w) → (r ≡ Some d) × (w ≡ get_or slots d.place 0) × (is_finite w ≡ true)
reached_told {r = None} slots o = cc
reached_told {r = Some e} {d} {w} slots o = go (is_finite (get_or slots e.place 0)) refl o
  where
    go : (b : Bool) → is_finite (get_or slots e.place 0) ≡ b → cond {A = Result (End × ℕ) Refusal} b (Ok (e, get_or slots e.place 0)) (Err Damaged) ≡ Ok (d, w)
        → (Some e ≡ Some d) × (w ≡ get_or slots d.place 0) × (is_finite w ≡ true)
    go true f o =
        let y : ◌≡◌ {A = End × ℕ} (e, get_or slots e.place 0) (d, w) = cc in
        let z : w ≡ get_or slots e.place 0 = sym (ap (λ (v : End × ℕ). v.1) y) in
        (ap (λ (v : End × ℕ). Some v.0) y, z ∙ ap (λ (v : End × ℕ). get_or slots v.0.place 0) y, ap is_finite z ∙ f)
    go false f o = cc

module _ (n : ℕ) (slots masks book : List ℕ) (i : ℕ) (p : Point) {r : Maybe End} (e : EndsAt n (st n slots masks book) i p r) where
  abbrev s : St
  s = st n slots masks book

  abbrev q : Reach
  q = reach_s 3 (2 ∷ 2 ∷ []) n s i p

  read_at : {d : End} → r ≡ Some d → (x k : ℕ) × (In n x k) × (d.place ≡ word_of x k)
      × (let w = get_or slots d.place 0 in q ≡ cond (is_finite w) (slot_r d.level (s.val x k) w) broken)
  read_at {d} z =
      let f = ends_some n s i p e z in (
        f.0,
        f.1,
        f.4,
        f.5,
        reach_place 3 (2 ∷ 2 ∷ []) n s i p ∙ ap (end_at s) f.2
            ∙ ap (λ (w : ℕ). cond (is_finite w) (slot_r d.level (s.val f.0 f.1) w) broken) (word_here slots masks book f.4 f.5),
      )

  module _ {T : Type 0} (f : Reach → Result T Refusal) where
    -- refused there
    pub ends_err : f broken ≡ Err Damaged → {y : Refusal} → reached_r slots r ≡ Err y → {a : Result T Refusal} → IsErrAnd a (λ z. z ≡ y) → a ≡ f q
    ends_err b {y} o {a} h = exit_is a h ∙ go r refl o
      where
        same : ◌≡◌ {A = Result (End × ℕ) Refusal} (Err Damaged) (Err y) → ◌≡◌ {A = Result T Refusal} (Err y) (Err Damaged)
        same o = cc

        at_word : (d : End) (w : ℕ) (g : Reach) → q ≡ cond (is_finite w) g broken → (t : Bool) → is_finite w ≡ t → cond {A = Result (End × ℕ) Refusal} t (Ok (d, w)) (Err Damaged) ≡ Err y → Err y ≡ f q
        at_word d w g j true t o = cc
        at_word d w g j false t o = same o ∙ sym (ap f (j ∙ rw t refl) ∙ b)

        go : (m : Maybe End) → r ≡ m → reached_r slots m ≡ Err y → Err y ≡ f q
        go None z o = same o ∙ sym (ap f (ends_none n s i p e z) ∙ b)
        go (Some d) z o = at_word d (get_or slots d.place 0) _ (read_at z).4 (is_finite (get_or slots d.place 0)) refl o

    -- not refused there: the slot is active or hidden, as x says, or either way
    module _ {d : End} {w : ℕ} (o : reached_r slots r ≡ Ok (d, w)) where
      ends_at_slot : (x k : ℕ) × (In n x k) × (d.place ≡ word_of x k) × (f q ≡ f (slot_r d.level (s.val x k) w))
      ends_at_slot =
          let t = reached_told slots o in
          let j = read_at t.0 in
          (j.0, j.1, j.2, j.3, ap f (j.4 ∙ ap (λ (v : ℕ). cond (is_finite v) (slot_r d.level (s.val j.0 j.1) v) broken) (sym t.1) ∙ rw t.2 refl))

      pub ends_ok : {x : Bool} → ((y k : ℕ) → In n y k → d.place ≡ word_of y k → x ≡ s.val y k) → {a : Result T Refusal} → a ≡ f (slot_r d.level x w) → a ≡ f q
      ends_ok g h = let j = ends_at_slot in h ∙ ap (λ (x : Bool). f (slot_r d.level x w)) (g j.0 j.1 j.2 j.3) ∙ sym j.4

      pub ends_either : {a : Result T Refusal} → ((x : Bool) → a ≡ f (slot_r d.level x w)) → a ≡ f q
      ends_either h = let j = ends_at_slot in h (s.val j.0 j.1) ∙ sym j.4

-- ---- what is answered at a slot
pub signed_slot : (l w : ℕ) (filled x : Bool) → signed_r (slot_r l x w) filled ≡ cond filled (Ok (negative w)) (Err Unfilled)
signed_slot l w filled true = refl
signed_slot l w filled false = refl

-- at a leaf an insert needs no cell, whatever is there
pub leaf_need : {l : ℕ} (x y : Bool) → l ≡ 0 → cond x (cond y 0 l) l ≡ 0
leaf_need true true e = refl
leaf_need true false e = e
leaf_need false y e = e

module _ (n : ℕ) (s : St) (l u : ℕ) where
  pub insert_slot : (w : ℕ) (x : Bool) → (let q = slot_r l x u in blocked_r n s q (need_insert_r q w)) ≡ afford_s n s (cond x (cond (equal u w) 0 l) l)
  insert_slot w true = refl
  insert_slot w false = refl

  pub remove_slot : (x : Bool) → (let q = slot_r l x u in blocked_r n s q (need_remove_r q)) ≡ afford_s n s (cond x l 0)
  remove_slot true = refl
  remove_slot false = refl
