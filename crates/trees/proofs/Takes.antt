-- One slot of two nodes that are joined, by the steps of the code: a use mark, a branch taken over, a slot settled. Assumes nothing.
use mathlib.Core.Path.{◌≡◌, refl, sym, ap, ◌∙◌}
use mathlib.Core.Logic.{inl, inr}
use mathlib.Core.Bool.{Bool, true, false}
use mathlib.Core.List.{List}
use Prim.Native.Nat.{ℕ, ◌+◌, ◌<◌}
use native.Mathlib.Omega.{arith}
use lib.ListN.{set}
use lib.Seq.{get_or-set_other}
use Rattle.floats.specs.Value.{far, far_with}
use Rattle.nodes.specs.State.{St, linked}
use Rattle.nodes.specs.Layout.{st, count_place, head}
use Rattle.nodes.specs.Range.{Booked}
use Rattle.nodes.specs.Steps.{slot_s}
use Rattle.nodes.specs.Wipe.{shed_m, wipe_at}
use Rattle.nodes.proofs.Books.{part_out, part_in}
use Rattle.nodes.proofs.Changes.{st_ext}
use Rattle.trees.specs.Combine.{join_o, tag_s, take_child_s, take_m}
use Rattle.trees.specs.Turn.{turn_m}
use Rattle.trees.specs.declared.take.Join.{Join}
use Rattle.trees.specs.declared.take.Join.TheVariants.{Union, Subtract, Intersect}
use Rattle.trees.specs.declared.turn.Work.TheVariants.{Flip}

pub tag_step : (n : ℕ) (bk sl mk : List ℕ) {c : ℕ} (x k : ℕ) → Booked n bk → c < n → st n sl mk (set bk (head + c) (linked x k)) ≡ tag_s c x k (st n sl mk bk)
unfolding st tag_s
tag_step n bk sl mk {c} x k z h =
    st_ext _ _ (λ _ _. refl) (λ _ _. refl) (λ _ _. refl) (get_or-set_other bk (head + c) count_place (linked x k) 0 (λ e. omega arith))
    (part_out (head + n) n bk (head + c) (linked x k) (inl (omega arith)))
    (part_in head n bk c (linked x k) h (omega (arith, z.book_fit)))
    (part_out 0 8 bk (head + c) (linked x k) (inr (omega arith)))

-- x may be y: the slot of x is written last
pub take_by : (x y k : ℕ) (s : St) {c w : ℕ} {s₁ s₂ s₃ : St} → c ≡ s.slot y k → w ≡ far → s₁ ≡ tag_s c x k s → s₂ ≡ slot_s y k w false false s₁ → s₃ ≡ slot_s x k c true false s₂
    → s₃ ≡ take_child_s x y k s
unfolding tag_s slot_s take_child_s
take_by x y k s {c} {w} e f p q r =
    r ∙ ap (slot_s x k c true false) (q ∙ ap (slot_s y k w false false) p)
    ∙ (λ i. slot_s x k (e i) true false (slot_s y k (f i) false false (tag_s (e i) x k s)))

pub settle_by : (go : ℕ → St → St) (n x k : ℕ) (s : St) {a b : Bool} {w : ℕ} {s₁ s₂ : St} → s₁ ≡ shed_m go n x k s → a ≡ b → w ≡ far_with a → s₂ ≡ slot_s x k w false a s₁
    → s₂ ≡ wipe_at go n (far_with b) b x k s
settle_by go n x k s p e f q = q ∙ (λ z. slot_s x k ((f ∙ ap far_with e) z) false (e z) (p z))

-- c is the cell of the branch: it is flipped once it is taken, or not
module _ (b : ℕ) (bs : List ℕ) (n x y k : ℕ) (s : St) {c : ℕ} {r : St} (f : c ≡ s.slot y k) (p : r ≡ take_child_s x y k s) where
  pub take_flipped : {j : Join} {t : St} → j ≡ Subtract → t ≡ turn_m b bs Flip n (8 + c) r → t ≡ take_m b bs (join_o j) n x y k s
  take_flipped e q = q ∙ (λ z. turn_m b bs Flip n (8 + f z) (p z)) ∙ ap (λ (j : Join). take_m b bs (join_o j) n x y k s) (sym e)

  pub take_plain : (j : Join) → (j ≡ Subtract → ⊥) → r ≡ take_m b bs (join_o j) n x y k s
  take_plain Union h = p
  take_plain Subtract h = absurd (h refl)
  take_plain Intersect h = p
