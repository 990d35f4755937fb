-- Slot numbers: in range; and two points that go through the same slots are the same point, masked. Assumes nothing.
use mathlib.Core.Path.{◌≡◌, sym, ◌∙◌, ap, ap₂}
use mathlib.Core.List.{List, [], ◌∷◌}
use Prim.Native.Nat.{ℕ, suc, ◌+◌, ◌-◌, ◌*◌, ◌/◌, ◌%◌, ◌^◌, ◌<◌}
use native.Mathlib.Nat.{mod-lt, add-mul, mul-mod_left}
use native.Mathlib.Omega.{arith}
use lib.IntN.{ℤ, pos, negsuc}
use lib.Pow.{pow_pos, pow-add, shr_lt, split, mod-mod-pow}
use lib.Arith.{digits_lt, digits_div, digits_mod}
use Rattle.grid.specs.Geometry.{Point, masked, total, part, slot_of, Alike}
use Rattle.grid.specs.Node.{size}

pub masked_lt : (k : ℕ) (x : ℤ) → masked k x < 2 ^ k
unfolding masked
masked_lt k (pos n) = mod-lt n (pow_pos k)
masked_lt k (negsuc n) = omega (arith, pow_pos k)

-- the low c bits of the low b + c bits are the low c bits. Of a negative number the parts above and below are what is left of all ones
pub masked_low : (b c : ℕ) (x : ℤ) → masked (b + c) x % 2 ^ c ≡ masked c x
unfolding masked
masked_low b c (pos n) = mod-mod-pow n b c
masked_low b c (negsuc n) = ap (λ (k : ℕ). k % 2 ^ c) whole ∙ digits_mod high rest_lt ∙ ap (λ (r : ℕ). 2 ^ c - 1 - r) (mod-mod-pow n b c)
  where
    m : ℕ
    m = n % 2 ^ (b + c)

    high : ℕ
    high = 2 ^ b - 1 - m / 2 ^ c

    rest_lt : 2 ^ c - 1 - m % 2 ^ c < 2 ^ c
    rest_lt = omega (arith, pow_pos c)

    below : m / 2 ^ c < 2 ^ b
    below = shr_lt b c (mod-lt n (pow_pos (b + c)))

    ones : 2 ^ (b + c) ≡ high * 2 ^ c + m / 2 ^ c * 2 ^ c + 2 ^ c
    ones =
        pow-add 2 b c
        ∙ ap (λ (k : ℕ). k * 2 ^ c) (omega (arith, below))
        ∙ add-mul (high + m / 2 ^ c) 1 (2 ^ c)
        ∙ ap₂ ◌+◌ (add-mul high (m / 2 ^ c) (2 ^ c)) (omega arith)

    whole : 2 ^ (b + c) - 1 - m ≡ high * 2 ^ c + (2 ^ c - 1 - m % 2 ^ c)
    whole = omega (arith, ones, split m c, mod-lt m (pow_pos c), pow_pos c)

-- they are the number modulo 2 ^ k: -1 - n and what is masked of it differ by a multiple
pub masked_modulo : (k n : ℕ) → (masked k (negsuc n) + suc n) % 2 ^ k ≡ 0
unfolding masked
masked_modulo k n = ap (λ (m : ℕ). m % 2 ^ k) whole ∙ mul-mod_left (n / 2 ^ k + 1) (2 ^ k)
  where
    whole : 2 ^ k - 1 - n % 2 ^ k + suc n ≡ (n / 2 ^ k + 1) * 2 ^ k
    whole = omega (arith, split n k, mod-lt n (pow_pos k)) ∙ sym (add-mul (n / 2 ^ k) 1 (2 ^ k))

pub part_lt : (b c : ℕ) (x : ℤ) → part b c x < 2 ^ b
unfolding part
part_lt b c x = shr_lt b c (masked_lt (b + c) x)

pub square : (b : ℕ) → 2 ^ (2 * b) ≡ 2 ^ b * 2 ^ b
square b = ap (λ (k : ℕ). 2 ^ k) (omega arith) ∙ pow-add 2 b b

pub cube : (b : ℕ) → 2 ^ (3 * b) ≡ (2 ^ b * 2 ^ b) * 2 ^ b
cube b = ap (λ (k : ℕ). 2 ^ k) (omega arith) ∙ pow-add 2 (b + b) b ∙ ap (λ (k : ℕ). k * 2 ^ b) (pow-add 2 b b)

-- three digits, as the slot rule writes them
digits : ℕ → ℕ → ℕ → ℕ → ℕ
digits b x y z = x * 2 ^ (2 * b) + y * 2 ^ b + z

digits_is : (b x y z : ℕ) → digits b x y z ≡ (x * 2 ^ b + y) * 2 ^ b + z
unfolding digits
digits_is b x y z = rw (square b) (omega arith)

-- they are the number of a slot
pub digits_in : (b x y z : ℕ) → x < 2 ^ b → y < 2 ^ b → z < 2 ^ b → x * 2 ^ (2 * b) + y * 2 ^ b + z < size b
unfolding digits size
digits_in b x y z h h' h'' = rw (cube b) (rw (digits_is b x y z) (digits_lt (digits_lt h h') h''))

pub slot_lt : (b : ℕ) (bs : List ℕ) (p : Point) → slot_of b bs p < size b
unfolding slot_of
slot_lt b bs p =
    digits_in b (part b (total bs) p.x) (part b (total bs) p.y) (part b (total bs) p.z) (part_lt b (total bs) p.x) (part_lt b (total bs) p.y) (part_lt b (total bs) p.z)

-- equal numbers have equal digits
last_digit : (b q r q' r' : ℕ) → r < 2 ^ b → r' < 2 ^ b → q * 2 ^ b + r ≡ q' * 2 ^ b + r' → (q ≡ q') × (r ≡ r')
last_digit b q r q' r' h h' e = (
  sym (digits_div q h) ∙ ap (λ (n : ℕ). n / 2 ^ b) e ∙ digits_div q' h',
  sym (digits_mod q h) ∙ ap (λ (n : ℕ). n % 2 ^ b) e ∙ digits_mod q' h',
)

-- a masked coordinate is its part above and what is below
part_join : (b c : ℕ) (x x' : ℤ) → part b c x ≡ part b c x' → masked c x ≡ masked c x' → masked (b + c) x ≡ masked (b + c) x'
unfolding part
part_join b c x x' e f =
    sym (split (masked (b + c) x) c)
    ∙ ap₂ (λ (q r : ℕ). q * 2 ^ c + r) e (masked_low b c x ∙ f ∙ sym (masked_low b c x'))
    ∙ split (masked (b + c) x') c

-- the two points go through the same slots
abbrev pub Same : List ℕ → Point → Point → Type 0
Same [] p q = Unit {0}
Same (b ∷ bs) p q = (slot_of b bs q ≡ slot_of b bs p) × Same bs p q

same_slot : (b : ℕ) (bs : List ℕ) (p q : Point) → slot_of b bs q ≡ slot_of b bs p
    → (part b (total bs) q.x ≡ part b (total bs) p.x) × (part b (total bs) q.y ≡ part b (total bs) p.y) × (part b (total bs) q.z ≡ part b (total bs) p.z)
unfolding slot_of digits
same_slot b bs p q e = (high.0, high.1, low.1)
  where
    c : ℕ
    c = total bs

    low : (part b c q.x * 2 ^ b + part b c q.y ≡ part b c p.x * 2 ^ b + part b c p.y) × (part b c q.z ≡ part b c p.z)
    low =
        last_digit b (part b c q.x * 2 ^ b + part b c q.y) (part b c q.z) (part b c p.x * 2 ^ b + part b c p.y) (part b c p.z)
        (part_lt b c q.z) (part_lt b c p.z)
        (sym (digits_is b (part b c q.x) (part b c q.y) (part b c q.z)) ∙ e ∙ digits_is b (part b c p.x) (part b c p.y) (part b c p.z))

    high : (part b c q.x ≡ part b c p.x) × (part b c q.y ≡ part b c p.y)
    high = last_digit b (part b c q.x) (part b c q.y) (part b c p.x) (part b c p.y) (part_lt b c q.y) (part_lt b c p.y) low.0

-- the same slots, the same masked coordinates
pub same_alike : (bs : List ℕ) (p q : Point) → Same bs p q → Alike (total bs) q p
unfolding total
same_alike [] p q h = record { x = none q.x p.x; y = none q.y p.y; z = none q.z p.z }
  where
    none : (x y : ℤ) → masked 0 x ≡ masked 0 y
    none x y = omega (arith, masked_lt 0 x, masked_lt 0 y)
same_alike (b ∷ bs) p q (e, h) = go (same_slot b bs p q e) (same_alike bs p q h)
  where
    go : (part b (total bs) q.x ≡ part b (total bs) p.x) × (part b (total bs) q.y ≡ part b (total bs) p.y) × (part b (total bs) q.z ≡ part b (total bs) p.z)
        → Alike (total bs) q p → Alike (b + total bs) q p
    go s a =
        record {
          x = part_join b (total bs) q.x p.x s.0 a.x;
          y = part_join b (total bs) q.y p.y s.1 a.y;
          z = part_join b (total bs) q.z p.z s.2 a.z;
        }
