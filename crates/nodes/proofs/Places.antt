-- From places in lent memory to slots of nodes: word_of gives each slot of a pool a place of its own, so that what happens at places happens at slots. Assumes nothing.
use mathlib.Core.Path.{◌≡◌, refl, sym, ap, ◌∙◌, subst}
use mathlib.Core.Logic.{inl, inr}
use mathlib.Core.Bool.{Bool, true, false, cond, ◌&&◌}
use Prim.Native.Nat.{ℕ, ◌+◌, ◌*◌, ◌/◌, ◌%◌, ◌<◌, ◌≤◌}
use native.Mathlib.Omega.{arith}
use lib.Dec.{ltb, eqb}
use borrow.Author.Tests.{lt-ltb, le-ltb, eq-eqb, ne_eqb}
use Rattle.bitset.proofs.Digits.{lt_or_le, is_or_not}
use Rattle.nodes.specs.State.{wide}
use Rattle.nodes.specs.Layout.{word_of, inside, slots_length}
use Rattle.nodes.specs.Change.{at2, in_cell}
use Rattle.nodes.specs.Range.{In, Placed}

-- ---- the slots and the words of a top and of a cell
pub wide_top : (x : ℕ) → x < 8 → wide x ≡ 512
wide_top x h = rw (lt-ltb x 8 h)

pub wide_cell : (x : ℕ) → 8 ≤ x → wide x ≡ 64
wide_cell x h = rw (le-ltb x 8 h)

pub word_top : (x k : ℕ) → x < 8 → word_of x k ≡ 512 * x + k
unfolding word_of
word_top x k h = rw (lt-ltb x 8 h)

pub word_cell : (x k : ℕ) → 8 ≤ x → word_of x k ≡ 3584 + 64 * x + k
unfolding word_of
word_cell x k h = rw (le-ltb x 8 h)

pub wide_most : (x : ℕ) → wide x ≤ 512
wide_most x = elim (lt_or_le x 8) [
  | inl h ↦ omega (arith, wide_top x h)
  | inr h ↦ omega (arith, wide_cell x h)
]

pub word_lt : {n x k : ℕ} → In n x k → word_of x k < slots_length n
word_lt {n} {x} {k} i = elim (lt_or_le x 8) [
  | inl h ↦ omega (arith, i.slot, wide_top x h, word_top x k h)
  | inr h ↦ omega (arith, i.node, i.slot, wide_cell x h, word_cell x k h)
]

-- the words of a node are whole groups, of 64 words
pub wide_groups : (x : ℕ) → 64 * (wide x / 64) ≡ wide x
wide_groups x = elim (lt_or_le x 8) [
  | inl h ↦ omega (arith, wide_top x h)
  | inr h ↦ omega (arith, wide_cell x h)
]

pub word_from : (x k : ℕ) → word_of x k ≡ 64 * (word_of x 0 / 64) + k
word_from x k = elim (lt_or_le x 8) [
  | inl h ↦ omega (arith, word_top x 0 h, word_top x k h)
  | inr h ↦ omega (arith, word_cell x 0 h, word_cell x k h)
]

-- the place of a slot can be reckoned, and lies below any end that is past the pool's words
pub placed : {n x k : ℕ} → n < 65536 → In n x k → (m : ℕ) → slots_length n ≤ m → Placed x k m
placed {n} {x} {k} h i m l =
    record { node = omega (arith, i.node); slot = omega (arith, i.slot, wide_most x); below = omega (arith, word_lt i) }

-- ---- two slots have two places
pub word_same : (x k y j : ℕ) → k < wide x → j < wide y → word_of x k ≡ word_of y j → (x ≡ y) × (k ≡ j)
word_same x k y j hk hj e = elim (lt_or_le x 8) [
  | inl a ↦ elim (lt_or_le y 8) [
    | inl b ↦ both (omega (arith, wide_top x a, wide_top y b, word_top x k a, word_top y j b))
        (omega (arith, wide_top x a, wide_top y b, word_top x k a, word_top y j b))
    | inr b ↦ absurd (omega (arith, wide_top x a, wide_cell y b, word_top x k a, word_cell y j b))
  ]
  | inr a ↦ elim (lt_or_le y 8) [
    | inl b ↦ absurd (omega (arith, wide_cell x a, wide_top y b, word_cell x k a, word_top y j b))
    | inr b ↦ both (omega (arith, wide_cell x a, wide_cell y b, word_cell x k a, word_cell y j b))
        (omega (arith, wide_cell x a, wide_cell y b, word_cell x k a, word_cell y j b))
  ]
]
  where
    both : x ≡ y → k ≡ j → (x ≡ y) × (k ≡ j)
    both p q = (p, q)

-- the words of cell c are those of group 64 + c, of 64 words
pub cell_word : (c j : ℕ) → word_of (8 + c) j ≡ 64 * (64 + c) + j
cell_word c j = omega (arith, word_cell (8 + c) j (omega arith))

pub word_group : (c y j : ℕ) → j < wide y → (word_of y j / 64 ≡ 64 + c → y ≡ 8 + c) × (y ≡ 8 + c → word_of y j / 64 ≡ 64 + c)
word_group c y j h = elim (lt_or_le y 8) [
  | inl a ↦ (λ e. absurd (omega (arith, wide_top y a, word_top y j a)), λ e. omega arith)
  | inr a ↦ (λ e. omega (arith, wide_cell y a, word_cell y j a), λ e. omega (arith, wide_cell y a, word_cell y j a))
]

-- ---- tests of two numbers at once
data Test (t : Bool) (P : Type 0) : Type 0 where
  yes_is : t ≡ true → P → Test t P
  no_is : t ≡ false → (P → ⊥) → Test t P

pair_test : (y x j k : ℕ) → Test (eqb y x && eqb j k) ((y ≡ x) × (j ≡ k))
pair_test y x j k = elim (is_or_not y x) [
  | inl p ↦ elim (is_or_not j k) [
    | inl q ↦ yes_is (rw (eq-eqb y x p) (eq-eqb j k q)) (p, q)
    | inr q ↦ no_is (rw (eq-eqb y x p) (ne_eqb j k q)) (λ e. q e.1)
  ]
  | inr p ↦ no_is (rw (ne_eqb y x p) refl) (λ e. p e.0)
]

cell_test : (y c j : ℕ) → Test (eqb y (8 + c) && ltb j 64) ((y ≡ 8 + c) × (j < 64))
cell_test y c j = elim (is_or_not y (8 + c)) [
  | inl p ↦ elim (lt_or_le j 64) [
    | inl q ↦ yes_is (rw (eq-eqb y (8 + c) p) (lt-ltb j 64 q)) (p, q)
    | inr q ↦ no_is (rw (eq-eqb y (8 + c) p) (le-ltb j 64 q)) (λ e. omega (arith, q, e.1))
  ]
  | inr p ↦ no_is (rw (ne_eqb y (8 + c) p) refl) (λ e. p e.0)
]

in_test : (n y j : ℕ) → Test (inside n y j) (In n y j)
in_test n y j = elim (lt_or_le y (8 + n)) [
  | inl p ↦ elim (lt_or_le j (wide y)) [
    | inl q ↦ yes_is (rw (lt-ltb y (8 + n) p) (lt-ltb j (wide y) q)) (record { node = p; slot = q })
    | inr q ↦ no_is (rw (lt-ltb y (8 + n) p) (le-ltb j (wide y) q)) (λ e. omega (arith, q, e.slot))
  ]
  | inr p ↦ no_is (rw (le-ltb y (8 + n) p) refl) (λ e. omega (arith, p, e.node))
]

pub cell_in : {n c : ℕ} → c < n → (y j : ℕ) → y ≡ 8 + c → j < 64 → In n y j
cell_in h y j e l = record { node = omega arith; slot = omega (arith, wide_cell y (omega arith)) }

-- ---- what a function of places is at the slots of a pool of n cells, and d past them
module _ {A : Type 0} (n : ℕ) (d : A) where
  abbrev pub spread : (ℕ → A) → ℕ → ℕ → A
  spread f x k = cond (inside n x k) (f (word_of x k)) d

  pub spread_in : (f : ℕ → A) {x k : ℕ} → In n x k → spread f x k ≡ f (word_of x k)
  spread_in f {x} {k} i = rw (lt-ltb x (8 + n) i.node, lt-ltb k (wide x) i.slot) refl

  spread_out : (f : ℕ → A) {x k : ℕ} → (In n x k → ⊥) → spread f x k ≡ d
  spread_out f {x} {k} o = elim (in_test n x k) [
    | yes_is t i ↦ absurd (o i)
    | no_is t i ↦ rw t refl
  ]

  -- a change of the places of the pool leaves what is past them; here g says what the slots become
  spread_by : (f : ℕ → A) (g : ℕ → ℕ → A) → ((y j : ℕ) → In n y j → f (word_of y j) ≡ g y j) → ((y j : ℕ) → (In n y j → ⊥) → d ≡ g y j) → (y j : ℕ) → spread f y j ≡ g y j
  spread_by f g here out y j = elim (in_test n y j) [
    | yes_is t i ↦ rw t (here y j i)
    | no_is t o ↦ rw t (out y j o)
  ]

  module _ (f f' : ℕ → A) where
    pub spread_same : ((i : ℕ) → i < slots_length n → f' i ≡ f i) → (y j : ℕ) → spread f' y j ≡ spread f y j
    spread_same h = spread_by f' (spread f) (λ y j i. h (word_of y j) (word_lt i) ∙ sym (spread_in f i)) (λ y j o. sym (spread_out f o))

    -- one place is given a
    pub spread_one : (x k : ℕ) (a : A) → In n x k → ((i : ℕ) → i < slots_length n → f' i ≡ cond (eqb i (word_of x k)) a (f i)) → (y j : ℕ) → spread f' y j ≡ at2 (spread f) x k a y j
    spread_one x k a ix h = spread_by f' (at2 (spread f) x k a)
        (λ y j i. h (word_of y j) (word_lt i) ∙ elim (pair_test y x j k) [
          | yes_is t e ↦ rw (t, eq-eqb (word_of y j) (word_of x k) (λ z. word_of (e.0 z) (e.1 z))) refl
          | no_is t e ↦ rw (t, ne_eqb (word_of y j) (word_of x k) (λ q. e (word_same y j x k i.slot ix.slot q))) (sym (spread_in f i))
        ])
        (λ y j o. elim (pair_test y x j k) [
          | yes_is t e ↦ absurd (o (subst (λ (i : ℕ). In n i j) (sym e.0) (subst (In n x) (sym e.1) ix)))
          | no_is t e ↦ rw t (sym (spread_out f o))
        ])

    -- the 64 places of cell c are given a
    pub spread_cell : (c : ℕ) (a : A) → c < n → ((i : ℕ) → i < slots_length n → f' i ≡ cond (eqb (i / 64) (64 + c)) a (f i)) → (y j : ℕ) → spread f' y j ≡ in_cell (spread f) c a y j
    spread_cell c a hc h = spread_by f' (in_cell (spread f) c a)
        (λ y j i. h (word_of y j) (word_lt i) ∙ elim (cell_test y c j) [
          | yes_is t e ↦ rw (t, eq-eqb (word_of y j / 64) (64 + c) ((word_group c y j i.slot).1 e.0)) refl
          | no_is t e ↦ rw (t, ne_eqb (word_of y j / 64) (64 + c) (λ q. e (narrow y j i ((word_group c y j i.slot).0 q)))) (sym (spread_in f i))
        ])
        (λ y j o. elim (cell_test y c j) [
          | yes_is t e ↦ absurd (o (cell_in hc y j e.0 e.1))
          | no_is t e ↦ rw t (sym (spread_out f o))
        ])
      where
        narrow : (y j : ℕ) → In n y j → y ≡ 8 + c → (y ≡ 8 + c) × (j < 64)
        narrow y j i e = (e, omega (arith, i.slot, wide_cell y (omega arith)))

    -- the 64 places of group j of node y, whose words are those from group h on, are given the values a
    pub spread_group : (y h j : ℕ) (a : ℕ → A) → ((k : ℕ) → word_of y k ≡ 64 * h + k) → In n y (64 * j + 63)
        → ((i : ℕ) → i < slots_length n → f' i ≡ cond (eqb (i / 64) (h + j)) (a (i % 64)) (f i)) → (z k : ℕ) → spread f' z k ≡ cond (eqb z y && eqb (k / 64) j) (a (k % 64)) (spread f z k)
    spread_group y h j a w iy p = spread_by f' (λ z k. cond (eqb z y && eqb (k / 64) j) (a (k % 64)) (spread f z k))
        (λ z k i. p (word_of z k) (word_lt i) ∙ elim (pair_test z y (k / 64) j) [
          | yes_is t e ↦
              let q : word_of z k ≡ 64 * h + k = subst (λ (v : ℕ). word_of v k ≡ 64 * h + k) (sym e.0) (w k) in
              let r : word_of z k % 64 ≡ k % 64 = omega arith in
              rw (t, eq-eqb (word_of z k / 64) (h + j) (omega (arith, e.1))) (ap a r)
          | no_is t e ↦ rw (t, ne_eqb (word_of z k / 64) (h + j) (λ q. e (back z k i q))) (sym (spread_in f i))
        ])
        (λ z k o. elim (pair_test z y (k / 64) j) [
          | yes_is t e ↦ absurd (o (subst (λ (v : ℕ). In n v k) (sym e.0) (record { node = iy.node; slot = omega (arith, iy.slot, e.1) })))
          | no_is t e ↦ rw t (sym (spread_out f o))
        ])
      where
        back : (z k : ℕ) → In n z k → word_of z k / 64 ≡ h + j → (z ≡ y) × (k / 64 ≡ j)
        back z k i q =
            let v : word_of z k ≡ word_of y (64 * j + word_of z k % 64) = omega (arith, w (64 * j + word_of z k % 64)) in
            let e = word_same z k y (64 * j + word_of z k % 64) i.slot (omega (arith, iy.slot)) v in
            (e.0, omega (arith, e.1))
