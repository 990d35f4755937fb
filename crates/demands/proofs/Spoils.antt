-- Demand 1, "No call puts a NaN or an infinite value into a grid": of every call for C, whatever is answered. On any lent memory none is stored or made active; on a sound pool none
-- is in a grid afterwards. On an unsound one a link may come to lead to a cell that held one before: docs/EXCEPTIONS.md. Assumes nothing.
use mathlib.Core.Path.{◌≡◌, refl, sym, ap, subst}
use mathlib.Core.Bool.{true, false}
use mathlib.Core.List.{[], ◌∷◌}
use mathlib.Core.Logic.{◌⊎◌, inl}
use mathlib.Core.Option.{Option, none, some}
use Prim.Native.Nat.{ℕ, ◌<◌}
use lib.ListN.{get_or}
use Rattle.floats.specs.Value.{is_finite}
use Rattle.seats.specs.Call.{Call}
use Rattle.seats.specs.Promise.{Verdict, refuse, give, turn, loose, Keeps, grants, refuse_or, verdict}
use Rattle.seats.specs.Refusal.{refusal}
use Rattle.seats.proofs.Promise.{sim}
use Rattle.nodes.specs.State.{wide}
use Rattle.means.specs.Mem.{Mem, lens_of, pool_of, SoundMem, reads_in, UnspoiltMem}
use Rattle.means.specs.Once.{Path, end, branch_at, Leads}
use Rattle.means.proofs.Once.{sound_written}
use Rattle.means.proofs.Unspoilt.{unspoilt_same}
use Rattle.means.proofs.Words.{words_unspoilt}
use Rattle.voxels.specs.Lent.{lent}
use Rattle.pool.proofs.Guards.{served_fits}
use Rattle.calls.specs.Forms.{Out, Answered}

module _ (c : Call) (m m' : Mem) (r : Out c) (h : Answered c m r m') where
  same : m' ≡ m → (lens_of m' ≡ lens_of m) × UnspoiltMem m m'
  same e = (ap lens_of e, subst (UnspoiltMem m) (sym e) (unspoilt_same (pool_of m)))

  -- the lengths are the same, and no slot is spoilt
  keeps : (v : Verdict) → Keeps 3 (2 ∷ 2 ∷ []) lent v c m h.0 m' → (lens_of m' ≡ lens_of m) × UnspoiltMem m m'
  keeps (refuse n) p = same p.1
  keeps (give a) p = same p.1
  keeps (turn a) p = (p.3, p.4)
  keeps loose p = (p.1, p.2)

  -- every slot is as it was, perhaps hidden, or holds a finite word
  pub unspoilt : UnspoiltMem m m'
  unspoilt = (keeps (verdict 3 (2 ∷ 2 ∷ []) lent c m) h.2).1

  -- each word of the slots is the word before, or finite
  pub words : (i : ℕ) → (get_or m'.slots i 0 ≡ get_or m.slots i 0) ⊎ (is_finite (get_or m'.slots i 0) ≡ true)
  words i = go (refusal (reads_in m) c) refl h.2
    where
      go : (o : Option ℕ) → refusal (reads_in m) c ≡ o → Keeps 3 (2 ∷ 2 ∷ []) lent (refuse_or 3 (2 ∷ 2 ∷ []) lent o (grants 3 (2 ∷ 2 ∷ []) lent c m)) c m h.0 m'
          → (get_or m'.slots i 0 ≡ get_or m.slots i 0) ⊎ (is_finite (get_or m'.slots i 0) ≡ true)
      go none e q = let k = keeps (grants 3 (2 ∷ 2 ∷ []) lent c m) q in words_unspoilt m m' (served_fits m c e) k.0 k.1 i
      go (some n) e q = inl (ap (λ (m : Mem). get_or m.slots i 0) q.1)

  -- on a sound pool: afterwards it is sound, and every value in a top or a reached cell is finite
  pub stays_sound : SoundMem m → SoundMem m'
  stays_sound s = (sim 3 (2 ∷ 2 ∷ []) lent c m h.0 m' s h.2).1

  pub values : SoundMem m → (p : Path) (k : ℕ) → Leads (pool_of m') p → k < wide (end (pool_of m') p) → branch_at (pool_of m') p k ≡ false
      → is_finite ((pool_of m').slot (end (pool_of m') p) k) ≡ true
  values s = (sound_written (stays_sound s).1).value
