-- The premises of demand 3 are met on lent memory: the calls that `ears` makes in a row (src/lib.rt) are such a sequence. Assumes nothing.
use mathlib.Core.Path.{◌≡◌, refl, subst}
use mathlib.Core.Bool.{true, false≢true}
use mathlib.Core.List.{[], ◌∷◌}
use mathlib.Core.Logic.{inl}
use Prim.Native.Nat.{ℕ, ◌≤◌}
use native.Mathlib.Omega.{arith}
use lib.Dec.{eqb}
use borrow.Author.Tests.{eqb-true}
use Rattle.floats.specs.Value.{is_finite}
use Rattle.floats.proofs.Words.{on_case}
use Rattle.grid.specs.Geometry.{Point}
use Rattle.seats.specs.Call.{Act, Lookup, Insert, One, Prepare}
use Rattle.seats.specs.Run.{NoOther}
use Rattle.seats.specs.Step.{need_one}
use Rattle.means.specs.Mem.{Mem, cells_of}
use Rattle.calls.specs.Forms.{Answered}
use Rattle.calls.specs.declared.GridAnswer.{GridAnswer}
use Rattle.demands.specs.Rows.{Together, Row, few}
use Rattle.demands.specs.Sequence.{calls_of, Run}
use Rattle.demands.proofs.Excluded.{prepares, prepared_insert}
use Rattle.demands.proofs.Refusals.{refuses}

-- a call on one seat names no other
alone : (a : ℕ) (x : Act) → NoOther a (One a x)
alone a x i h = on_case (eqb i a) (λ e. inl (eqb-true i a e)) (λ e. absurd (false≢true (rw e at h)))

-- a lookup needs no cell
enough : (i : ℕ) (p : Point) (m m' : Mem) (r : GridAnswer) → Answered (One i (Lookup p)) m r m' → r.code ≡ 9 → ⊥
unfolding need_one
enough i p m m' r h e = go (((refuses (One i (Lookup p)) m m' r h).0 9 (omega arith) (omega arith)).0 e).0
  where
    go : Row 9 (One i (Lookup p)) m → ⊥
    go (few l) = omega (arith, l)

module _ (n : ℕ) (p : Point) (v w : ℕ) (m m₀ m₁ m₂ m₃ : Mem) (r₀ r₁ r₂ : ℕ) (r₃ : GridAnswer) where
  pub ears_run : 2 ≤ n → is_finite v ≡ true → Together n m → Answered Prepare m r₀ m₀ → Answered (One 0 (Insert p v)) m₀ r₁ m₁ → Answered (One 1 (Insert p w)) m₁ r₂ m₂
      → Answered (One 0 (Lookup p)) m₂ r₃ m₃ → Run n 0 (One 0 (Insert p v) ∷ One 1 (Insert p w) ∷ One 0 (Lookup p) ∷ [])
  unfolding calls_of
  ears_run l f t h h₁ h₂ h₃ = (
    record { call = One 0 (Insert p v); answer = r₁; memory = m₁ }
        ∷ record { call = One 1 (Insert p w); answer = r₂; memory = m₂ }
        ∷ record { call = One 0 (Lookup p); answer = r₃; memory = m₃ }
        ∷ [],
    record { lent = m; ready = m₀; cells = cells; prepared = ready; calls = (h₁, (h₂, (h₃, tt))) },
    refl,
    (
      λ _. (alone 0 (Insert p v), λ e. omega (arith, prepared_insert m m₀ ready 0 (omega arith) p (omega (arith, cells)) v f r₁ m₁ h₁)),
      ((λ o. absurd (false≢true o)), ((λ _. (alone 0 (Lookup p), enough 0 p m₂ m₃ r₃ h₃)), tt)),
    ),
  )
    where
      cells : cells_of m ≡ n
      cells = omega (arith, t.slots)

      ready : Answered Prepare m 0 m₀
      ready = subst (λ (r : ℕ). Answered Prepare m r m₀) (prepares n m m₀ r₀ t h) h
