-- Demand 1 over the promises of the calls: each refusal is given exactly when its row of document 01's table is the first that holds, and then no lent word has changed.
-- At last the same of what the calls for C answer. Assumes nothing.
use mathlib.Core.Path.{◌≡◌, refl, sym, ap, ◌∙◌, subst}
use mathlib.Core.Bool.{Bool, true, false, cond, false≢true}
use mathlib.Core.List.{List, [], ◌∷◌}
use mathlib.Core.Logic.{◌⊎◌, inl, inr, ◌↔◌}
use mathlib.Core.Option.{Option, none, some}
use Prim.Native.Nat.{ℕ, suc, ◌-◌, ◌≤◌}
use native.Mathlib.Omega.{arith}
use Rattle.bitset.proofs.Digits.{lt_or_le}
use Rattle.seats.specs.Call.{Call, Answer}
use Rattle.seats.specs.Call.{refused, found, negative_is, empty_is, free_cells, done}
use Rattle.seats.specs.Promise.{Accepted, grants, refuse_or, Keeps, Promise}
use Rattle.seats.specs.Refusal as list
use Rattle.seats.specs.Refusal.{first, order, refusal}
use Rattle.seats.proofs.Refusal.{Each}
use Rattle.means.specs.Mem.{Mem, reads_in}
use Rattle.voxels.specs.Lent.{lent}
use Rattle.voxels.specs.Answers.{code_of}
use Rattle.voxels.proofs.Granted.{keeps_answer, granted}
use Rattle.calls.specs.Forms.{answer_of, count_answer_of, truth_answer_of, Form, plain, lookup, count, whether, form_of, to_c, code_in, CodeOnly, Out, code, Answered}
use Rattle.demands.specs.Rows.{Row, Given, Refuses}
use Rattle.demands.proofs.Rows.{NoneBefore, row_is}

-- ---- the first row that holds

-- o is its number, or none where no row holds
abbrev First : Option ℕ → Call → Mem → Type 0
First none c m = (k : ℕ) → Row k c m → ⊥
First (some k) c m = Given k c m

-- the tests are those of rows n + 1 to 9
abbrev Numbered : ℕ → List list.Row → Type 0
Numbered n [] = n ≡ 9
Numbered n (row ∷ rows) = (row.0 ≡ suc n) × Numbered (suc n) rows

none_after : (j : ℕ) (c : Call) (m : Mem) → Row (suc (suc (suc (suc (suc (suc (suc (suc (suc (suc j)))))))))) c m → ⊥
none_after j c m r = elim r [ ]

none_0 : (c : Call) (m : Mem) → Row 0 c m → ⊥
none_0 c m r = elim r [ ]

module _ (c : Call) (m : Mem) where
  -- no row up to n holds, and then not row n + 1
  next : (n : ℕ) → NoneBefore (suc n) c m → (Row (suc n) c m → ⊥) → NoneBefore (suc (suc n)) c m
  next n b h j l r = elim (lt_or_le j (suc n)) [
    | inl l' ↦ b j l' r
    | inr l' ↦ let e : j ≡ suc n = omega arith in h (subst (λ (k : ℕ). Row k c m) e r)
  ]

  first_holds : (n : ℕ) (rows : List list.Row) → Numbered n rows
      → Each (λ row. NoneBefore row.0 c m → (row.1 (reads_in m) c ≡ true) ↔ Row row.0 c m) rows → NoneBefore (suc n) c m → First (first rows (reads_in m) c) c m
  first_holds n [] e h b = λ k r. elim (lt_or_le k (suc n)) [
    | inl l ↦ b k l r
    | inr l ↦
        let q : k ≡ suc (suc (suc (suc (suc (suc (suc (suc (suc (suc (k - 10)))))))))) = omega arith in
        none_after (k - 10) c m (subst (λ (k : ℕ). Row k c m) q r)
  ]
  first_holds n (row ∷ rows) (e, es) (h, hs) b = go (row.1 (reads_in m) c) refl (first_holds (suc n) rows es hs)
    where
      before : NoneBefore row.0 c m
      before = subst (λ (k : ℕ). NoneBefore k c m) (sym e) b

      go : (x : Bool) → row.1 (reads_in m) c ≡ x → (NoneBefore (suc (suc n)) c m → First (first rows (reads_in m) c) c m)
          → First (cond x (some row.0) (first rows (reads_in m) c)) c m
      go true t rest = ((h before).0 t, before)
      go false t rest = rest (next n b (λ r. false≢true (sym t ∙ (h before).1 (subst (λ (k : ℕ). Row k c m) (sym e) r))))

  refusal_first : First (refusal (reads_in m) c) c m
  refusal_first =
      first_holds 0 order (refl, (refl, (refl, (refl, (refl, (refl, (refl, (refl, (refl, refl))))))))) (row_is c m)
      (λ j l r. let e : j ≡ 0 = omega arith in none_0 c m (subst (λ (k : ℕ). Row k c m) e r))

-- at most one row is the first
given_one : (c : Call) (m : Mem) (j k : ℕ) → Given j c m → Given k c m → j ≡ k
given_one c m j k (r, b) (r', b') = elim (lt_or_le j k) [
  | inl l ↦ absurd (b' j l r)
  | inr l ↦ elim (lt_or_le k j) [
    | inl l' ↦ absurd (b k l' r')
    | inr l' ↦ omega arith
  ]
]

-- ---- what a call promises

-- the call c on m answers r and leaves m'
module _ (c : Call) (m m' : Mem) (r : Answer) (h : Promise 3 (2 ∷ 2 ∷ []) lent c m r m') where
  -- it is refused by the first row that holds, and then nothing has changed; or no row holds, and it is not refused
  outcome : ((k : ℕ) × (r ≡ refused k) × (m' ≡ m) × Given k c m) ⊎ (((k : ℕ) → Row k c m → ⊥) × Accepted r)
  outcome = go (refusal (reads_in m) c) h (refusal_first c m)
    where
      go : (o : Option ℕ) → Keeps 3 (2 ∷ 2 ∷ []) lent (refuse_or 3 (2 ∷ 2 ∷ []) lent o (grants 3 (2 ∷ 2 ∷ []) lent c m)) c m r m' → First o c m
          → ((k : ℕ) × (r ≡ refused k) × (m' ≡ m) × Given k c m) ⊎ (((k : ℕ) → Row k c m → ⊥) × Accepted r)
      go none p f = inr (f, subst Accepted (sym (keeps_answer (grants 3 (2 ∷ 2 ∷ []) lent c m) c m r m' p)) (granted c m))
      go (some k) p f = inl (k, p.0, p.1, f)

  number_is : (j k : ℕ) → r ≡ refused j → r ≡ refused k → j ≡ k
  number_is j k e e' = ap code_of (sym e ∙ e')

  pub refused_exactly : (k : ℕ) → (r ≡ refused k) ↔ Given k c m
  refused_exactly k = elim outcome [
    | inl (j, e, u, g) ↦ (λ q. subst (λ (i : ℕ). Given i c m) (number_is j k e q) g, λ g'. e ∙ ap refused (given_one c m j k g g'))
    | inr (n, a) ↦ (λ q. absurd (subst Accepted q a), λ g'. absurd (n k g'.0))
  ]

  pub refused_nothing_changed : (k : ℕ) → r ≡ refused k → m' ≡ m
  refused_nothing_changed k q = elim outcome [
    | inl (j, e, u, g) ↦ u
    | inr (n, a) ↦ absurd (subst Accepted q a)
  ]

  -- so that a version which refuses everything is ruled out
  pub not_refused : ((k : ℕ) → Row k c m → ⊥) → (k : ℕ) → r ≡ refused k → ⊥
  not_refused n k q = n k ((refused_exactly k).0 q).0

-- ---- what the calls for C answer

-- the code in a refusal is its number, and there is nothing else in it
pub code_refused : (f : Form) (n : ℕ) → code_in f (to_c f (refused n)) ≡ n
code_refused plain n = refl
code_refused lookup n = refl
code_refused count n = refl
code_refused whether n = refl

only_refused : (f : Form) (n : ℕ) → CodeOnly f (to_c f (refused n))
only_refused plain n = tt
only_refused lookup n = refl
only_refused count n = refl
only_refused whether n = refl

-- no other answer has the code of a refusal, in any of the four forms: it is 0, or 10 of a lookup
codes : (a : Answer) → Accepted a → (code_of a ≡ 0) × (((answer_of a).code ≡ 0) ⊎ ((answer_of a).code ≡ 10)) × ((count_answer_of a).code ≡ 0) × ((truth_answer_of a).code ≡ 0)
codes (refused n) h = absurd h
codes (found none) h = (refl, inr refl, refl, refl)
codes (found (some w)) h = (refl, inl refl, refl, refl)
codes (negative_is b) h = (refl, inr refl, refl, refl)
codes (empty_is b) h = (refl, inr refl, refl, refl)
codes (free_cells k) h = (refl, inr refl, refl, refl)
codes done h = (refl, inr refl, refl, refl)

code_accepted : (f : Form) (a : Answer) → Accepted a → (code_in f (to_c f a) ≡ 0) ⊎ ((f ≡ lookup) × (code_in f (to_c f a) ≡ 10))
code_accepted plain a h = inl (codes a h).0
code_accepted lookup a h = elim (codes a h).1 [
  | inl e ↦ inl e
  | inr e ↦ inr (refl, e)
]
code_accepted count a h = inl (codes a h).2
code_accepted whether a h = inl (codes a h).3

-- every call for C, on any lent memory
module _ (c : Call) (m m' : Mem) (r : Out c) (h : Answered c m r m') where
  abbrev f : Form
  f = form_of c

  in_C : {a : Answer} → h.0 ≡ a → code c r ≡ code_in f (to_c f a)
  in_C e = ap (code_in f) (h.1 ∙ ap (to_c f) e)

  -- a call of which no row holds is served: its code is 0, or 10 of a lookup that shows nothing
  pub serves : ((k : ℕ) → Row k c m → ⊥) → (code c r ≡ 0) ⊎ ((f ≡ lookup) × (code c r ≡ 10))
  serves n = elim (outcome c m m' h.0 h.2) [
    | inl (k, e, o, g) ↦ absurd (n k g.0)
    | inr (_, a) ↦ elim (code_accepted f h.0 a) [
      | inl e ↦ inl (in_C refl ∙ e)
      | inr (l, e) ↦ inr (l, in_C refl ∙ e)
    ]
  ]

  is_refused : 1 ≤ code c r → code c r ≤ 9 → h.0 ≡ refused (code c r)
  is_refused l u = elim (outcome c m m' h.0 h.2) [
    | inl (k, e, o, g) ↦ e ∙ ap refused (sym (in_C e ∙ code_refused f k))
    | inr (n, a) ↦ elim (serves n) [
      | inl e ↦ absurd (omega (arith, e))
      | inr (_, e) ↦ absurd (omega (arith, e))
    ]
  ]

  pub refuses : Refuses c m r m'
  refuses = (
    λ k l u. (
      λ q. (refused_exactly c m m' h.0 h.2 k).0 (is_refused (omega arith) (omega arith) ∙ ap refused q),
      λ g. in_C ((refused_exactly c m m' h.0 h.2 k).1 g) ∙ code_refused f k,
    ),
    λ l u. (
      subst (CodeOnly f) (sym (h.1 ∙ ap (to_c f) (is_refused l u))) (only_refused f (code c r)),
      refused_nothing_changed c m m' h.0 h.2 (code c r) (is_refused l u),
    ),
  )
