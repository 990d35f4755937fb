-- A prepared pool is sound, and each seat in it is as after Clear; a sample of the test. Assumes nothing.
use mathlib.Core.Path.{◌≡◌, refl, sym, ap, ◌∙◌, fun_ext}
use mathlib.Core.Bool.{true, false, false≢true}
use mathlib.Core.List.{[], ◌∷◌}
use mathlib.Core.Logic.{inl, inr}
use Prim.Native.Nat.{ℕ, ◌+◌, ◌-◌, ◌%◌, ◌<◌, ◌≤◌}
use native.Mathlib.Nat.{mod-lt}
use native.Mathlib.Omega.{arith}
use lib.Ieee.{of_bits}
use Rattle.floats.specs.Value.{is_finite, far}
use Rattle.floats.proofs.Finite.{finite_far}
use Rattle.grid.specs.Node.{size}
use Rattle.grid.specs.Whole.{clear}
use Rattle.bitset.specs.Set.{every}
use Rattle.nodes.specs.State.{St, wide, linked, Live, Fork, Link, Sound, tree}
use Rattle.nodes.specs.Change.{at1, put_s, attach_s}
use Rattle.nodes.specs.Test.{node_b, sound_b}
use Rattle.means.specs.Prepared.{Ready}
use Rattle.means.proofs.Test.{wide_le}

module _ {n : ℕ} {s : St} (r : Ready n s) where
  -- no cell is used
  unused : n < 65536 → (x : ℕ) → x < 8 + n → 8 ≤ x → 65536 ≤ s.tag (x - 8) → ⊥
  unused l x hx h u = omega (arith, r.tagged (x - 8) (omega arith))

  pub ready_sound : n < 65536 → Sound n s
  ready_sound l =
      record {
        room = l;
        few = omega (arith, r.all_free);
        stacked = λ i h.
            let hi : i < n = omega (arith, r.all_free) in
            record { inside = omega (arith, r.placed i hi); tagged = ap s.tag (r.placed i hi) ∙ r.tagged i hi };
        cell = λ c h. inl (record { below = omega (arith, r.tagged c h, r.all_free); there = ap s.stack (r.tagged c h) ∙ r.placed c h });
        link = link;
        value = λ x k hx hk lv _. value x k hx hk lv;
        marks = λ t h. omega (arith, r.unmarked t h);
      }
    where
      link : (x k : ℕ) → x < 8 + n → k < wide x → Fork s x → s.kid x k ≡ true → Link n s x k
      link x k hx hk (inl h) on = absurd (false≢true (sym (r.no_branch x k h (omega (arith, wide_le x))) ∙ on))
      link x k hx hk (inr h) on = absurd (unused l x hx h.0 h.1.0)

      value : (x k : ℕ) → x < 8 + n → k < wide x → Live s x → is_finite (s.slot x k) ≡ true
      value x k hx hk (inl h) = ap is_finite (r.all_far x k h (omega (arith, wide_le x))) ∙ finite_far
      value x k hx hk (inr h) = absurd (unused l x hx h.0 h.1)

  pub ready_fresh : (t : ℕ) → t < 8 → tree 3 (2 ∷ 2 ∷ []) s t ≡ clear 3 (2 ∷ 2 ∷ [])
  unfolding tree clear size
  ready_fresh t ht = fun_ext (λ k.
      let h : k % size 3 < 512 = mod-lt k (omega arith) in
      rw (r.no_branch t (k % size 3) ht h, r.no_tile t (k % size 3) ht h, r.all_far t (k % size 3) ht h) refl)

-- ---- a sample: two cells, and one voxel in seat 3, at slot 7 of the top, 5 of cell 1 and 9 of cell 0
abbrev pub empty : St
empty = record { slot = λ x k. far; kid = λ x k. false; val = λ x k. false; count = 2; stack = λ i. i; tag = λ c. c; mark = λ t. 0 }

pub empty_ready : Ready 2 empty
empty_ready =
    record {
      all_free = refl;
      placed = λ i _. refl;
      tagged = λ c _. refl;
      no_branch = λ t k _ _. refl;
      no_tile = λ t k _ _. refl;
      all_far = λ t k _ _. refl;
      unmarked = λ t _. refl;
    }

abbrev pub voxel : St
voxel = put_s 8 9 0x3F80_0000 true (attach_s 9 5 far false (attach_s 3 7 far false empty))

-- the same with one use mark changed: cell 0 is linked to by slot 5, and its mark says slot 6
abbrev pub damaged : St
damaged =
    record {
      slot = voxel.slot;
      kid = voxel.kid;
      val = voxel.val;
      count = voxel.count;
      stack = voxel.stack;
      tag = at1 voxel.tag 0 (linked 9 6);
      mark = voxel.mark;
    }

pub voxel_passes : sound_b 2 voxel ≡ true
unfolding sound_b node_b every put_s attach_s is_finite far of_bits
voxel_passes = refl

pub damaged_fails : sound_b 2 damaged ≡ false
unfolding sound_b node_b every put_s attach_s is_finite far
damaged_fails = refl
