-- A cell released that has nothing below it: the slot of the node is hidden with +far. Assumes nothing.
use mathlib.Core.Path.{◌≡◌, refl, sym, ◌∙◌, subst}
use mathlib.Core.Bool.{true, false, false≢true}
use mathlib.Core.Logic.{◌≢◌, inl, inr, ⊎_elim}
use Prim.Native.Nat.{ℕ, suc, ◌+◌, ◌-◌, ◌<◌, ◌≤◌}
use native.Mathlib.Omega.{arith}
use Rattle.floats.specs.Value.{far}
use Rattle.grid.specs.Node.{hidden, changed}
use Rattle.nodes.specs.State.{St, wide, Fork, Sound}
use Rattle.nodes.specs.Change.{release_s}
use Rattle.means.specs.Level.{span, tree_at, At, In, Equal, Same, Outside, Turned}
use Rattle.means.proofs.Levels.{at_wide, at_inside, at_fork, kept_at}
use Rattle.means.proofs.Frame.{in_own, slot_tree, slot_in, own_apart}
use Rattle.means.proofs.Release as release
use Rattle.means.proofs.Unspoilt.{unspoilt_release}

module _ {n : ℕ} {s : St} (sd : Sound n s) (l x k : ℕ) (h : At n s (suc l) x) (q : k < span (suc l)) (on : s.kid x k ≡ true)
    (bare : Fork s (8 + s.slot x k) → (j : ℕ) → j < 64 → s.kid (8 + s.slot x k) j ≡ false) where
  abbrev c : ℕ
  c = s.slot x k

  abbrev r : St
  r = release_s x k s

  hx : x < 8 + n
  hx = at_inside n s (suc l) x h

  hk : k < wide x
  hk = omega (arith, at_wide n s (suc l) x h)

  fx : Fork s x
  fx = at_fork n s l x h

  here : (r.slot x k ≡ far) × (r.kid x k ≡ false) × (r.val x k ≡ false)
  here = release.here sd x k hx hk fx on bare

  pub prune_room : s.count < n
  unfolding release_s
  prune_room = omega (arith, release.few sd x k hx hk fx on bare)

  same : (y : ℕ) → y ≢ x → Same s r y
  same y ne j = release.else_same sd x k hx hk fx on bare y j ne

  beside : (j : ℕ) → j ≢ k → Equal s r x j
  beside j ne = release.next_same sd x k hx hk fx on bare x j ne

  tags : (y : ℕ) → y ≢ 8 + c → 8 ≤ y → s.tag (y - 8) ≡ r.tag (y - 8)
  tags y ne g = sym (release.tag_old sd x k hx hk fx on bare y g ne)

  -- the other branches are as they were
  aside : (j : ℕ) → j < span (suc l) → s.kid x j ≡ true → (y : ℕ) → In l s (8 + s.slot x j) y → Same s r y
  aside j p t y i = same y (own_apart sd l x j h p t y i)

  none_in : (y : ℕ) → Outside n (suc l) s x y → In (suc l) r x y → ⊥
  none_in y o i = ⊎_elim o.out (λ p. false≢true (sym here.1 ∙ p.0)) (slot_in l s r x k beside (λ j p _. aside j p) y i)

  pub prune_turned : Turned n (suc l) x s r (changed (span (suc l)) k (λ _. hidden far) (tree_at (suc l) s x))
  unfolding release_s
  prune_turned =
      record {
        sound = release.release_sound sd x k hx hk fx on bare;
        at = kept_at n (suc l) x s r (tags x (λ e. own_apart sd l x k h q on (8 + c) (in_own l s (8 + c)) (sym e))) h;
        grid = slot_tree l s r x k beside (λ j p _. aside j p) (hidden far) (rw (here.1, here.2, here.0) refl);
        keep = λ y o.
            record {
              slots = same y (λ e. o.out (inl e));
              tag = tags y (λ e. o.out (inr (k, q, on, subst (In l s (8 + c)) (sym e) (in_own l s (8 + c)))));
            };
        within = none_in;
        marks = refl;
        unspoilt = unspoilt_release x k s;
      }
