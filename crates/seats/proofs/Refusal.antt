-- The order of the refusals: which test decided; that they read named seats alone; and that more free cells change nothing but 9. Assumes nothing.
use mathlib.Core.Path.{◌≡◌, refl, sym, ap, ap₂, subst}
use mathlib.Core.Bool.{Bool, true, false, not, ◌&&◌, cond, false≢true}
use mathlib.Core.List.{List, [], ◌∷◌}
use mathlib.Core.Logic.{◌⊎◌, inl, inr}
use mathlib.Core.Option.{Option, none, some, some-injective}
use Prim.Native.Nat.{ℕ, ◌<◌, ◌≤◌}
use native.Mathlib.Omega.{arith}
use lib.Dec.{T, leb, leb→le, le→leb}
use lib.Ieee.Bits.{is_true}
use Rattle.seats.specs.Call.{Pair, Call, Two, names, on_kind, asks}
use Rattle.seats.specs.Promise.{among, Agree}
use Rattle.seats.specs.Refusal.{Reads, rest, lengths, seat_above, seats_equal, not_finite, unsound, not_filled, hollow_branch, onto_full, Row, order, first, refusal}
use Rattle.seats.specs.Seat.{Seat}
use Rattle.seats.specs.Step.{need_of, reads_of}
use Rattle.seats.proofs.Names.{eqb_not, not_above, among_rest, any_same, any_none}

pub not_none : {A : Type 0} (a : A) → some a ≡ none → ⊥
not_none a e = let z : ◌≡◌ {A = ℕ} 0 1 = cc in omega arith

-- ---- a call that no row refuses

-- something holds of each row
abbrev pub Each : (Row → Type 0) → List Row → Type 0
Each P [] = Unit {0}
Each P (row ∷ rows) = P row × Each P rows

peel : (x : Bool) (n : ℕ) (o : Option ℕ) → cond x (some n) o ≡ none → (x ≡ false) × (o ≡ none)
peel true n o e = absurd (not_none n e)
peel false n o e = (refl, e)

pub all_pass : (rows : List Row) (r : Reads) (c : Call) → first rows r c ≡ none → Each (λ row. row.1 r c ≡ false) rows
all_pass [] r c e = tt
all_pass (row ∷ rows) r c e = let h = peel (row.1 r c) row.0 (first rows r c) e in (h.0, all_pass rows r c h.1)

-- what holds of the number of each row whose test holds is so of the number given
pub first_is : (P : ℕ → Type 0) (rows : List Row) (r : Reads) (c : Call) (n : ℕ) → Each (λ row. row.1 r c ≡ true → P row.0) rows → first rows r c ≡ some n → P n
first_is P [] r c n h e = absurd (not_none n (sym e))
first_is P (row ∷ rows) r c n h e = go (row.1 r c) refl e (first_is P rows r c n h.1)
  where
    go : (x : Bool) → row.1 r c ≡ x → cond x (some row.0) (first rows r c) ≡ some n → (first rows r c ≡ some n → P n) → P n
    go true t e ih = subst P (some-injective row.0 n e) (h.0 t)
    go false t e ih = ih e

pub refusal_number : (r : Reads) (c : Call) (n : ℕ) → refusal r c ≡ some n → 0 < n
refusal_number r c n =
    first_is (λ k. 0 < k) order r c n
    (λ _. omega arith, (λ _. omega arith, (λ _. omega arith, (λ _. omega arith, (λ _. omega arith, (λ _. omega arith, (λ _. omega arith, (λ _. omega arith, (λ _. omega arith, tt)))))))))

-- its seats are below 8 and two are different; it has the cells that it needs
pub below_8 : (r : Reads) (c : Call) → refusal r c ≡ none → (i : ℕ) → among i (names c) ≡ true → i < 8
below_8 r c e i a = not_above i (any_none (λ j. leb 8 j) (names c) (all_pass order r c e).1.0 i a)

pub different : (r : Reads) (x : Pair) (i j : ℕ) → refusal r (Two x i j) ≡ none → j ≡ i → ⊥
different r x i j e h = eqb_not i j (all_pass order r (Two x i j) e).1.1.0 (sym h)

pub enough : (r : Reads) (c : Call) → refusal r c ≡ none → (asks c).takes ≡ true → r.need c ≤ r.free
enough r c e t = leb→le (r.need c) r.free (subst T (sym (go (asks c).takes (leb (r.need c) r.free) t (all_pass order r c e).1.1.1.1.1.1.1.1.0)) tt)
  where
    go : (x y : Bool) → x ≡ true → (x && not y) ≡ false → y ≡ true
    go true true t e = refl
    go true false t e = absurd (false≢true (sym e))
    go false y t e = absurd (false≢true t)

-- ---- the same is read: of the seats that the call names, and of the rest

first_same : (rows : List Row) (c : Call) (r r' : Reads) → Each (λ row. row.1 r c ≡ row.1 r' c) rows → first rows r c ≡ first rows r' c
first_same [] c r r' h = refl
first_same (row ∷ rows) c r r' h = ap₂ (λ x o. cond x (some row.0) o) h.0 (first_same rows c r r' h.1)

pub refusal_agree : (c : Call) (r r' : Reads) → Agree c r r' → refusal r c ≡ refusal r' c
refusal_agree c r r' h =
    first_same order c r r' (
      ap not h.fit,
      (
        refl,
        (
          refl,
          (
            refl,
            (
              ap₂ (λ x y. on_kind x y false (asks c).kind) (ap not h.path) (ap not h.sound),
              (
                ap (◌&&◌ (asks c).filled) (any_same _ _ (names c) (λ i a. ap not (h.filled i a))),
                (
                  ap (◌&&◌ (asks c).solid) (any_same _ _ (names c) h.hollow),
                  (
                    ap (◌&&◌ (asks c).onto) (any_same _ _ (rest (names c)) (λ i a. ap not (h.empty i (among_rest i (names c) a)))),
                    (ap₂ (λ x y. (asks c).takes && not (leb x y)) h.need h.free, tt),
                  ),
                ),
              ),
            ),
          ),
        ),
      ),
    )

-- a seat above 7 is refused before anything of it is read
pub refusal_above : (c : Call) (r r' : Reads) → r.fit ≡ r'.fit → seat_above r c ≡ true → refusal r c ≡ refusal r' c
refusal_above c r r' e h = ap₂ (λ x o. cond x (some 1) o) (ap not e) (rw h refl)

-- ---- the same but for the free cells, of which there are more

abbrev Same9 : Option ℕ → Option ℕ → Type 0
Same9 o o' = (o ≡ some 9) ⊎ (o ≡ o')

row_more : (n : ℕ) (x : Bool) {o o' : Option ℕ} → Same9 o o' → Same9 (cond x (some n) o) (cond x (some n) o')
row_more n true h = inr refl
row_more n false h = h

last_more : (t : Bool) (need k k' : ℕ) → k ≤ k' → Same9 (cond (t && not (leb need k)) (some 9) none) (cond (t && not (leb need k')) (some 9) none)
last_more false need k k' l = inr refl
last_more true need k k' l = go (leb need k) refl
  where
    go : (x : Bool) → leb need k ≡ x → Same9 (cond (not x) (some 9) none) (cond (not (leb need k')) (some 9) none)
    go true e = inr (rw (is_true (leb need k') (le→leb need k' (omega (arith, l, leb→le need k (subst T (sym e) tt))))))
    go false e = inl refl

pub refusal_more : (b : ℕ) (bs : List ℕ) (c : Call) (f : ℕ → Seat b bs) (k k' : ℕ) → k ≤ k' → Same9 (refusal (reads_of b bs f k) c) (refusal (reads_of b bs f k') c)
refusal_more b bs c f k k' l =
    let r = reads_of b bs f k in
    row_more 1 (lengths r c)
    (row_more 2 (seat_above r c)
    (row_more 3 (seats_equal r c)
    (row_more 4 (not_finite r c)
    (row_more 5 (unsound r c)
    (row_more 6 (not_filled r c)
    (row_more 7 (hollow_branch r c)
    (row_more 8 (onto_full r c) (last_more (asks c).takes (need_of b bs c f) k k' l))))))))
