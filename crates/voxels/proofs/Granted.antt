-- What a promise says of the answer: of a call that is not refused it is no refusal, and a refusal has one of the nine numbers. Assumes nothing.
use mathlib.Core.Path.{◌≡◌, refl, sym, subst}
use mathlib.Core.List.{[], ◌∷◌}
use mathlib.Core.Option.{Option, none, some}
use Prim.Native.Nat.{ℕ}
use borrow.Table.Steps.{cases}
use Rattle.seats.specs.Call.{Lookup, Sign, Remove, Insert, Fill, Cut, Clear, Prune, Flip, FillSigns, IsEmpty}
use Rattle.seats.specs.Call.{Call, One, Two, Prepare, Count, Answer, refused, found, negative_is, empty_is, free_cells, done}
use Rattle.seats.specs.Promise.{Verdict, refuse, give, turn, loose, Accepted, grants, refuse_or, Keeps, Promise}
use Rattle.seats.specs.Refusal.{Reads, order, refusal}
use Rattle.seats.proofs.Refusal.{first_is}
use Rattle.nodes.specs.Test.{sound_b}
use Rattle.means.specs.Mem.{Mem, cells_of, pool_of, reads_in}
use Rattle.voxels.specs.Lent.{lent}
use Rattle.voxels.specs.Refused.{number_of, refusal_at}

-- the answer of a verdict; of a call that is not refused it is no refusal
abbrev pub answer_in : Verdict → Answer
answer_in (refuse n) = refused n
answer_in (give a) = a
answer_in (turn a) = a
answer_in loose = done

pub keeps_answer : (v : Verdict) (c : Call) (m : Mem) (r : Answer) (m' : Mem) → Keeps 3 (2 ∷ 2 ∷ []) lent v c m r m' → r ≡ answer_in v
keeps_answer (refuse n) c m r m' h = h.0
keeps_answer (give a) c m r m' h = h.0
keeps_answer (turn a) c m r m' h = h.0
keeps_answer loose c m r m' h = h.0

pub granted : (c : Call) (m : Mem) → Accepted (answer_in (grants 3 (2 ∷ 2 ∷ []) lent c m))
granted (One i (Lookup p)) m = tt
granted (One i (Sign p)) m = tt
granted (One i (Remove p)) m = cases (sound_b (cells_of m) (pool_of m)) (λ s. rw s tt) (λ s. rw s tt)
granted (One i (Insert p v)) m = cases (sound_b (cells_of m) (pool_of m)) (λ s. rw s tt) (λ s. rw s tt)
granted (One i (Fill v)) m = tt
granted (One i (Cut t)) m = tt
granted (One i Clear) m = tt
granted (One i Prune) m = tt
granted (One i Flip) m = tt
granted (One i FillSigns) m = tt
granted (One i IsEmpty) m = tt
granted (Two x i j) m = tt
granted Prepare m = tt
granted Count m = tt

-- the number that the tests give is that of its refusal
pub refusal_named : (r : Reads) (c : Call) (n : ℕ) → refusal r c ≡ some n → number_of (refusal_at n) ≡ n
refusal_named r c n =
    first_is (λ k. number_of (refusal_at k) ≡ k) order r c n
    (λ _. refl, (λ _. refl, (λ _. refl, (λ _. refl, (λ _. refl, (λ _. refl, (λ _. refl, (λ _. refl, (λ _. refl, tt)))))))))

-- the number of a refusal is that of its case
abbrev pub Named : Answer → Type 0
Named (refused n) = number_of (refusal_at n) ≡ n
Named (found o) = Unit {0}
Named (negative_is k) = Unit {0}
Named (empty_is k) = Unit {0}
Named (free_cells k) = Unit {0}
Named done = Unit {0}

accepted_named : (a : Answer) → Accepted a → Named a
accepted_named (refused n) h = absurd h
accepted_named (found o) h = tt
accepted_named (negative_is k) h = tt
accepted_named (empty_is k) h = tt
accepted_named (free_cells k) h = tt
accepted_named done h = tt

pub promised_named : (c : Call) (m m' : Mem) (a : Answer) → Promise 3 (2 ∷ 2 ∷ []) lent c m a m' → Named a
promised_named c m m' a = go (refusal (reads_in m) c) (refusal_named (reads_in m) c)
  where
    go : (o : Option ℕ) → ((j : ℕ) → o ≡ some j → number_of (refusal_at j) ≡ j)
        → Keeps 3 (2 ∷ 2 ∷ []) lent (refuse_or 3 (2 ∷ 2 ∷ []) lent o (grants 3 (2 ∷ 2 ∷ []) lent c m)) c m a m' → Named a
    go none f q = accepted_named a (subst Accepted (sym (keeps_answer (grants 3 (2 ∷ 2 ∷ []) lent c m) c m a m' q)) (granted c m))
    go (some j) f q = subst Named (sym q.0) (f j refl)
