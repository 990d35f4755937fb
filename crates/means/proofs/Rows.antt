-- The rows of the sign fill on one node of a sound pool: three rows in each other, each of which carries a sign along. Assumes nothing.
use mathlib.Core.Path.{◌≡◌, refl, sym, ap, ◌∙◌, subst}
use mathlib.Core.Bool.{Bool}
use mathlib.Core.List.{List}
use Prim.Native.Nat.{ℕ, zero, suc, ◌+◌, ◌*◌, ◌^◌, ◌<◌, ◌≤◌}
use native.Mathlib.Omega.{arith}
use lib.Pow.{pow_pos}
use Rattle.grid.specs.Node.{Node, SlotOf, size, changed}
use Rattle.grid.specs.SignFill.{replaced, along, sign_i, sign_j, sign_k, carried, written, filled_rows}
use Rattle.grid.proofs.Geometry.{square, cube, digits_in}
use Rattle.grid.proofs.SignFill.{carried_at}
use Rattle.nodes.specs.State.{St, Sound}
use Rattle.nodes.specs.Walk.{branching, below}
use Rattle.signs.specs.Signs.{behind_s, start_s, write_s, carry_s, row_z, row_y, rows_m}
use Rattle.means.specs.Level.{levels, span, tree_at, At, Turned}
use Rattle.means.proofs.Levels.{span_pos}
use Rattle.means.proofs.Turned.{stay, then, into}
use Rattle.means.proofs.Each.{upto, upto_none, upto_more, upto_left, upto_all}
use Rattle.means.proofs.SlotSigns.{behind_is, start_is, write_turned}

-- the sign that comes to place k of a row: what it starts as, or the sign behind the place before
abbrev coming : (bs : List ℕ) → (ℕ → SlotOf bs) → Bool → ℕ → Bool
coming bs row g zero = g
coming bs row g (suc k) = along bs row g k

along_is : (bs : List ℕ) (row : ℕ → SlotOf bs) (g : Bool) (k : ℕ) → replaced bs (coming bs row g k) (row k) ≡ along bs row g k
unfolding along
along_is bs row g zero = refl
along_is bs row g (suc k) = refl

module _ (n l x : ℕ) (s : St) where
  abbrev b : ℕ
  b = branching l

  abbrev bs : List ℕ
  bs = below l

  abbrev T : Node (levels l)
  T = tree_at l s x

  abbrev rule : ℕ → SlotOf (below l) → SlotOf (below l)
  rule k = written (below l) (carried (branching l) (below l) (tree_at l s x) k)

  -- the slots below p are written
  abbrev Done : ℕ → St → Type 0
  Done p r = Turned n l x s r (upto (span l) rule T p)

  moved : {p p' : ℕ} {r : St} → p ≡ p' → Done p r → Done p' r
  moved {r = r} e d = subst (λ (p : ℕ). Done p r) e d

  -- slot p is then read as it was
  read : (p : ℕ) (g : Bool) (r : St) → p < span l → Done p r → behind_s bs n r x p g ≡ replaced bs g (T p)
  read p g r q d =
      behind_is d.sound l x p g d.at q
      ∙ ap (λ t. replaced bs g (t p)) d.grid
      ∙ ap (replaced bs g) (upto_left (span l) rule T p p (omega arith) q)

  write : (p : ℕ) (g : Bool) (r : St) → p < span l → Done p r → g ≡ carried b bs T p → Done (suc p) (write_s bs x p g r)
  write p g r q d e =
      into (then d (write_turned d.sound l x p g d.at q))
      (ap (changed (span l) p (written bs g)) d.grid
      ∙ ap (λ (g : Bool). changed (span l) p (written bs g) (upto (span l) rule T p)) e
      ∙ upto_more (span l) rule T p)

  -- ---- a row of m places, which starts as g; what is done at place k with the sign behind it takes the slots from place k to the next one
  module _ (place : ℕ → ℕ) (act : ℕ → Bool → St → St) (m : ℕ) (g : Bool)
      (low : (k : ℕ) → k < m → place k < span l)
      (ok : (k : ℕ) → k < m → (r : St) → Done (place k) r → Done (place (suc k)) (act k (along bs (λ i. T (place i)) g k) r)) where
    abbrev step : ℕ → Bool → St → Bool × St
    step k h r = let h' = behind_s bs n r x (place k) h in (h', act k h' r)

    row : (r : St) → Done (place 0) r → (k : ℕ) → k ≤ m → ((carry_s step k g r).0 ≡ coming bs (λ i. T (place i)) g k) × Done (place k) (carry_s step k g r).1
    unfolding carry_s
    row r d zero h = (refl, d)
    row r d (suc k) h =
        let p : ((carry_s step k g r).0 ≡ coming bs (λ i. T (place i)) g k) × Done (place k) (carry_s step k g r).1 = row r d k (omega arith) in
        let e : behind_s bs n (carry_s step k g r).1 x (place k) (carry_s step k g r).0 ≡ along bs (λ i. T (place i)) g k =
        read (place k) (carry_s step k g r).0 (carry_s step k g r).1 (low k (omega arith)) p.1
        ∙ ap (λ (h : Bool). replaced bs h (T (place k))) p.0
        ∙ along_is bs (λ i. T (place i)) g k in
        (e, subst (λ (h : Bool). Done (place (suc k)) (act k h (carry_s step k g r).1)) (sym e) (ok k (omega arith) (carry_s step k g r).1 p.1))

    -- the whole row, from slot p up to slot p'
    whole : {p p' : ℕ} {r : St} → p ≡ place 0 → place m ≡ p' → Done p r → Done p' (carry_s step m g r).1
    whole {r = r} e e' d = moved e' (row r (moved e d) m (omega arith)).1

  -- ---- the three rows
  done_z : (i y : ℕ) → i < 2 ^ b → y < 2 ^ b → (r : St) → Done (i * 2 ^ (2 * b) + y * 2 ^ b) r
      → Done (i * 2 ^ (2 * b) + suc y * 2 ^ b) (row_z b bs n x (i * 2 ^ (2 * b) + y * 2 ^ b) (sign_j b bs T i y) r)
  unfolding row_z sign_k
  done_z i y h h' r d =
      whole (λ z. i * 2 ^ (2 * b) + y * 2 ^ b + z) (λ z g s. write_s bs x (i * 2 ^ (2 * b) + y * 2 ^ b + z) g s) (2 ^ b) (sign_j b bs T i y)
      (λ z q. digits_in b i y z h h' q)
      (λ z q r d. moved (omega arith) (write (i * 2 ^ (2 * b) + y * 2 ^ b + z) (sign_k b bs T i y z) r (digits_in b i y z h h' q) d (sym (carried_at b bs T i y z h' q))))
      (omega arith) (omega arith) d

  done_y : (i : ℕ) → i < 2 ^ b → (r : St) → Done (i * 2 ^ (2 * b)) r → Done (suc i * 2 ^ (2 * b)) (row_y b bs n x (i * 2 ^ (2 * b)) (sign_i b bs T i) r)
  unfolding row_y sign_j
  done_y i h r d =
      whole (λ y. i * 2 ^ (2 * b) + y * 2 ^ b) (λ y g s. row_z b bs n x (i * 2 ^ (2 * b) + y * 2 ^ b) g s) (2 ^ b) (sign_i b bs T i)
      (λ y q. omega (arith, digits_in b i y 0 h q (pow_pos b)))
      (λ y q r d. done_z i y h q r d)
      (omega arith) (omega (arith, square b)) d

  done_x : Sound n s → At n s l x → Done (span l) (rows_m b bs n x s)
  unfolding rows_m sign_i size
  done_x sd h =
      whole (λ i. i * 2 ^ (2 * b)) (λ i g s. row_y b bs n x (i * 2 ^ (2 * b)) g s) (2 ^ b) (start_s bs n s x 0 (span l))
      (λ i q. omega (arith, digits_in b i 0 0 q (pow_pos b) (pow_pos b)))
      (λ i q r d. subst (λ (g : Bool). Done (suc i * 2 ^ (2 * b)) (row_y b bs n x (i * 2 ^ (2 * b)) (along bs (λ i. T (i * 2 ^ (2 * b))) g i) r))
      (sym (start_is sd l x h (span l) 0 T (λ i. ap T (omega arith)) (omega arith))) (done_y i q r d))
      (omega arith) (rw (square b, cube b) (omega arith)) (into (stay l x s sd h) (upto_none (span l) rule T))

pub rows_right : {n : ℕ} {s : St} (l x : ℕ) → Sound n s → At n s l x
    → Turned n l x s (rows_m (branching l) (below l) n x s) (filled_rows (branching l) (below l) (tree_at l s x))
unfolding filled_rows
rows_right {n} {s} l x sd h = into (done_x n l x s sd h) (upto_all (span l) (rule n l x s) (tree_at l s x) (span_pos l))
