-- The promises leave nothing open: two outcomes that one of them allows agree, in the answer and in every lent word. Assumes nothing.
use mathlib.Core.Path.{◌≡◌, refl, sym, ap, ap₂, ◌∙◌, subst}
use mathlib.Core.List.{List}
use mathlib.Core.Bool.{Bool, true, false}
use Prim.Native.Nat.{ℕ, ◌<◌}
use native.Mathlib.Omega.{arith}
use lib.Dec.{T, ltb}
use lib.ListN.{length, get_or}
use borrow.Author.Tests.{ltb-true, ltb-false}
use Rattle.bitset.specs.Set.{bit_of}
use Rattle.bitset.specs.Answers.{FirstOn, WordAt}
use Rattle.std.specs.Prelude.{Option, Some, None}
use Rattle.bitset.proofs.Words.{word_ext}
use Rattle.bitset.proofs.Ext.{words_ext}
use Rattle.bitset_calls.specs.declared.BitsAnswer.{BitsAnswer}
use Rattle.bitset_calls.specs.Call.{done, found_answer, Word, First, Mask, Reads, Writes}

-- 64-bit words
abbrev Words : List ℕ → Type 0
Words ws = (q : ℕ) → get_or ws q 0 < 18446744073709551616

pub writes_agree : (b : Bool) (a : BitsAnswer) (bits : ℕ → Bool) (entry x y : List ℕ) (r s : BitsAnswer) → length x ≡ length y → Words x → Words y
    → Writes b a bits entry x r → Writes b a bits entry y s → (r ≡ s) × (x ≡ y)
writes_agree true a bits entry x y r s l X Y h g =
    let p : (r ≡ a) × ((k : ℕ) → bit_of x k ≡ bits k) = h.accepted refl in
    let q : (s ≡ a) × ((k : ℕ) → bit_of y k ≡ bits k) = g.accepted refl in
    (p.0 ∙ sym q.0, words_ext x y l X Y (λ k. p.1 k ∙ sym (q.1 k)))
writes_agree false a bits entry x y r s l X Y h g = ((h.otherwise refl).0 ∙ sym (g.otherwise refl).0, (h.otherwise refl).1 ∙ sym (g.otherwise refl).1)

-- A and B are what is said of r and of s
pub reads_agree : (b : Bool) {A B : Type 0} {r s : BitsAnswer} → (A → B → r ≡ s) → Reads b A r → Reads b B s → r ≡ s
reads_agree true f h g = f (h.accepted refl) (g.accepted refl)
reads_agree false f h g = h.otherwise refl ∙ sym (g.otherwise refl)

no : {A : Type 0} → true ≡ false → A
no e = absurd (subst T e tt)

first_one : (ws : List ℕ) (n : ℕ) (f g : Option ℕ) → FirstOn ws n f → FirstOn ws n g → found_answer f ≡ found_answer g
first_one ws n (Some i) (Some j) p q = go (ltb i j) (ltb j i) refl refl
  where
    go : (x y : Bool) → ltb i j ≡ x → ltb j i ≡ y → done i ≡ done j
    go true y e d = no (sym p.1 ∙ q.2 i (ltb-true i j e))
    go false true e d = no (sym q.1 ∙ p.2 j (ltb-true j i d))
    go false false e d = let z : i ≡ j = omega (arith, ltb-false i j e, ltb-false j i d) in ap done z
first_one ws n (Some i) None p q = no (sym p.1 ∙ q i p.0)
first_one ws n None (Some j) p q = no (sym q.1 ∙ p j q.0)
first_one ws n None None p q = refl

pub first_agree : (ws : List ℕ) (n : ℕ) (r s : BitsAnswer) → First ws n r → First ws n s → r ≡ s
first_agree ws n r s p q = p.1.1 ∙ first_one ws n p.0 q.0 p.1.0 q.1.0 ∙ sym q.1.1

-- an answer's value is a 64-bit word
abbrev Value : BitsAnswer → Type 0
Value r = r.value < 18446744073709551616

word_one : (ws : List ℕ) (n o : ℕ) (w v : Option ℕ) → Value (found_answer w) → Value (found_answer v) → WordAt ws n o w → WordAt ws n o v → found_answer w ≡ found_answer v
word_one ws n o (Some w) (Some v) W U p q = ap done (word_ext w v W U (λ r l. p.1 r l ∙ sym (q.1 r l)))
word_one ws n o (Some w) None W U p q = absurd (omega arith)
word_one ws n o None (Some v) W U p q = absurd (omega arith)
word_one ws n o None None W U p q = refl

pub word_agree : (ws : List ℕ) (n o : ℕ) (r s : BitsAnswer) → Value r → Value s → Word ws n o r → Word ws n o s → r ≡ s
word_agree ws n o r s R S p q =
    p.1.1 ∙ word_one ws n o p.0 q.0 (subst Value p.1.1 R) (subst Value q.1.1 S) p.1.0 q.1.0 ∙ sym q.1.1

pub mask_agree : (m n : ℕ) (r s : BitsAnswer) → Value r → Value s → Mask m n r → Mask m n s → r ≡ s
mask_agree m n r s R S p q =
    ap₂ (λ (c v : ℕ). record { code = c; value = v }) (p.0 ∙ sym q.0) (word_ext r.value s.value R S (λ k l. p.1 k l ∙ sym (q.1 k l)))
