-- The refusals of a call on the whole pool: what the code found, test by test, is what the one list says. Assumes nothing.
use mathlib.Core.Path.{◌≡◌, refl, sym, ap, ◌∙◌}
use mathlib.Core.Bool.{Bool, true, false, not, ◌||◌, cond}
use mathlib.Core.List.{[]}
use mathlib.Core.Option.{Option, none, some}
use Prim.Native.Nat.{ℕ, ◌<◌, ◌≤◌}
use native.Mathlib.Omega.{arith}
use lib.Dec.{leb, eqb}
use borrow.Author.Tests.{le-leb, lt-leb, eq-eqb, not-false}
use borrow.Table.Steps.{cases}
use Rattle.std.specs.Prelude.{Result, Ok, Err, IsErrAnd}
use Rattle.std.specs.Result.{result_and}
use Rattle.seats.specs.Call.{Act, Call, One, names, whole_pool, asks}
use Rattle.seats.specs.Refusal.{any, alike, order, refusal}
use Rattle.seats.proofs.Names.{not_above, among_head}
use Rattle.seats.proofs.Refusal.{all_pass, below_8}
use Rattle.nodes.specs.Layout.{st}
use Rattle.nodes.specs.Test.{sound_b}
use Rattle.means.specs.Mem.{Mem, cells_of, fits, pool_of, SoundMem, reads_in}
use Rattle.means.proofs.Memory.{mem_sound}
use Rattle.voxels.specs.Answers.{or_else}
use Rattle.voxels.specs.Refused.{number_of}
use Rattle.voxels.specs.declared.refusal.Refusal.{Refusal}
use Rattle.voxels.specs.declared.refusal.Refusal.TheVariants.{Lengths, Seat, SameSeat, Value, Damaged}
use Rattle.pool.specs.Guard.{given_of, one_given, two_given, guard_of, later_of, Admitted}
use Rattle.voxels.proofs.Promises.{Counted, is_pool}

-- ---- the guard, on memory for n cells: t is what the test of the pool said
module _ {m : Mem} {n : ℕ} (k : Counted n m) {given : Result Unit Refusal} (g : given ≡ Ok tt) {t : Bool} (e : t ≡ sound_b n (st n m.slots m.masks m.book)) where
  tested : sound_b (cells_of m) (pool_of m) ≡ t
  tested = cc (e, k.cells, is_pool k)

  pub guard_damaged : t ≡ false → guard_of m given ≡ Err Damaged
  unfolding guard_of
  guard_damaged f = rw (k.fit, g, tested ∙ f) refl

  pub guard_passed : t ≡ true → (guard_of m given ≡ Ok tt) × (n ≡ cells_of m)
  unfolding guard_of
  guard_passed f = (rw (k.fit, g, tested ∙ f) refl, k.cells)

-- ---- the one list begins with the guard
pub refusal_guard : (m : Mem) (c : Call) → (asks c).kind ≡ whole_pool → refusal (reads_in m) c ≡ or_else (guard_of m (given_of c)) (later_of (reads_in m) c)
unfolding guard_of
refusal_guard m c k = rw k (go (fits m) (any (λ i. leb 8 i) (names c)) (alike (names c)) (asks c).given (sound_b (cells_of m) (pool_of m)) (later_of (reads_in m) c))
  where
    go : (f a l g s : Bool) (o : Option ℕ)
        → cond (not f) (some 1) (cond a (some 2) (cond l (some 3) (cond (not g) (some 4) (cond (not s) (some 5) o))))
        ≡ or_else (cond f (result_and (cond a (Err Seat) (cond l (Err SameSeat) (cond g (Ok (tt {0})) (Err Value)))) (cond s (Ok tt) (Err Damaged))) (Err Lengths)) o
    go false a l g s o = refl
    go true true l g s o = refl
    go true false true g s o = refl
    go true false false false s o = refl
    go true false false true true o = refl
    go true false false true false o = refl

-- what was given to the call c is g: where the guard refuses it, and where it does not
module _ (m : Mem) (c : Call) (k : (asks c).kind ≡ whole_pool) {g : Result Unit Refusal} (a : g ≡ given_of c) where
  guarded : refusal (reads_in m) c ≡ or_else (guard_of m g) (later_of (reads_in m) c)
  guarded = refusal_guard m c k ∙ ap (λ (g : Result Unit Refusal). or_else (guard_of m g) (later_of (reads_in m) c)) (sym a)

  pub guard_refuses : {e : Refusal} → guard_of m g ≡ Err e → refusal (reads_in m) c ≡ some (number_of e)
  guard_refuses is = guarded ∙ ap (λ (r : Result Unit Refusal). or_else r (later_of (reads_in m) c)) is

  pub guard_passes : guard_of m g ≡ Ok tt → refusal (reads_in m) c ≡ later_of (reads_in m) c
  guard_passes is = guarded ∙ ap (λ (r : Result Unit Refusal). or_else r (later_of (reads_in m) c)) is

-- where a `?` hands on the refusal e as r
pub handed_on : {T : Type 0} (e : Refusal) (r : Result T Refusal) → IsErrAnd r (λ y. y ≡ e) → r ≡ Err e
handed_on e (Ok x) h = absurd h
handed_on e (Err y) h = ap Err h

pub exit_admitted : (c : Call) (m : Mem) (e : Refusal) (r : Result ℕ Refusal) → IsErrAnd r (λ y. y ≡ e) → refusal (reads_in m) c ≡ some (number_of e) → Admitted c m r
exit_admitted c m e r h is = rw (handed_on e r h) is

-- ---- a call on the whole pool that nothing refuses
module _ (m : Mem) (c : Call) (serve : refusal (reads_in m) c ≡ none) where
  pub served_fits : fits m ≡ true
  served_fits = not-false (fits m) (all_pass order (reads_in m) c serve).0

  pub served_given : (asks c).given ≡ true
  served_given = not-false (asks c).given (all_pass order (reads_in m) c serve).1.1.1.0

  pub served_sound : (asks c).kind ≡ whole_pool → SoundMem m
  served_sound k = mem_sound m served_fits (not-false (sound_b (cells_of m) (pool_of m)) (sym (rw k refl) ∙ (all_pass order (reads_in m) c serve).1.1.1.1.0))

  -- the number of cells that the code has
  pub served_counted : {n : ℕ} → n ≡ cells_of m → Counted n m
  served_counted e = record { fit = served_fits; cells = e }

pub served_seat : (m : Mem) (i : ℕ) (x : Act) → refusal (reads_in m) (One i x) ≡ none → i < 8
served_seat m i x serve = below_8 (reads_in m) (One i x) serve i (among_head i [])

-- where the guard finds nothing
pub record Clean (m : Mem) (given : Result Unit Refusal) : Type 0 where
  pub fit : fits m ≡ true
  pub good : given ≡ Ok tt
  pub sound : SoundMem m

pub clean : (m : Mem) (given : Result Unit Refusal) → guard_of m given ≡ Ok tt → Clean m given
unfolding guard_of
clean m given = go (fits m) given (sound_b (cells_of m) (pool_of m)) refl refl refl
  where
    go : (f : Bool) (g : Result Unit Refusal) (s : Bool) → fits m ≡ f → given ≡ g → sound_b (cells_of m) (pool_of m) ≡ s
        → cond f (result_and g (cond s (Ok (tt {0})) (Err Damaged))) (Err Lengths) ≡ Ok tt → Clean m given
    go true (Ok u) true a b d h = record { fit = a; good = b; sound = mem_sound m a d }
    go true (Ok u) false a b d h = cc
    go true (Err e) s a b d h = cc
    go false g s a b d h = cc

-- ---- what was given, where it is no refusal
pub one_seat : (i : ℕ) (f : Bool) → one_given i f ≡ Ok tt → i < 8
one_seat i f e = cases (leb 8 i) (λ d. absurd (seat (sym (rw d refl) ∙ e))) (not_above i)
  where
    seat : ◌≡◌ {A = Result Unit Refusal} (Err Seat) (Ok tt) → ⊥
    seat h = cc

pub two_first : (i j : ℕ) → 7 < i → Err Seat ≡ two_given i j
two_first i j h = rw (le-leb 8 i h) refl

pub two_second : (i j : ℕ) → 7 < j → Err Seat ≡ two_given i j
two_second i j h = rw (le-leb 8 j h) (cases (leb 8 i) (λ e. rw e refl) (λ e. rw e refl))

pub two_equal : (i j : ℕ) → i ≤ 7 → j ≤ 7 → i ≡ j → Err SameSeat ≡ two_given i j
two_equal i j h h' e = rw (lt-leb 8 i (omega arith), lt-leb 8 j (omega arith), eq-eqb i j e) refl

pub two_seats : (i j : ℕ) → two_given i j ≡ Ok tt → (i < 8) × (j < 8)
two_seats i j = go (leb 8 i) (leb 8 j) (eqb i j) refl refl
  where
    go : (a b s : Bool) → leb 8 i ≡ a → leb 8 j ≡ b → cond (a || b) (Err Seat) (cond s (Err SameSeat) (Ok (tt {0}))) ≡ Ok tt → (i < 8) × (j < 8)
    go true b s p q h = cc
    go false true s p q h = cc
    go false false s p q h = (not_above i p, not_above j q)
