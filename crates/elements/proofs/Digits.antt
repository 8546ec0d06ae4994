-- Numbers in bytes, the low byte first.
use mathlib.Core.Path.{◌≡◌, refl, ◌∙◌, ap}
use mathlib.Core.List.{List, [], ◌∷◌, ◌++◌}
use Prim.Native.Nat.{ℕ, zero, suc, ◌+◌, ◌*◌, ◌/◌, ◌%◌, ◌^◌, ◌≤◌, ◌<◌}
use native.Mathlib.Omega.{arith}
use native.Mathlib.Numerals.{add-one}
use lib.ListN.{length, get_or, take, drop}
use lib.Seq.{drop-cons, take-add, drop-drop}
use Rattle.elements.specs.Bytes.{digits}

-- a body with none of the other widths
pub four : (w : ℕ) → w ≤ 4 → (w ≡ 3 → ⊥) → (w ≡ 0 → ⊥) → (w ≡ 1 → ⊥) → (w ≡ 2 → ⊥) → w ≡ 4
four w h a b c d = omega arith

-- one byte of a slice, and two
pub one_byte : (s : List ℕ) (at : ℕ) → at < length s → take 1 (drop at s) ≡ get_or s at 0 ∷ []
one_byte s at h = rw (drop-cons s at 0 h)

pub two_bytes : (s : List ℕ) (at : ℕ) → at + 2 ≤ length s → take 2 (drop at s) ≡ get_or s at 0 ∷ get_or s (at + 1) 0 ∷ []
two_bytes s at h =
    let i : at < length s = omega arith in
    let j : suc at < length s = omega arith in
    rw (drop-cons s at 0 i, drop-cons s (suc at) 0 j, add-one at)

pub digits_one : (n : ℕ) → n < 256 → digits 1 n ≡ n ∷ []
unfolding digits
digits_one n h = let e : n % 256 ≡ n = omega arith in rw e

pub digits_two : (a b : ℕ) → a < 256 → b < 256 → digits 2 (a + b * 256) ≡ a ∷ b ∷ []
unfolding digits
digits_two a b h i =
    let e : (a + b * 256) % 256 ≡ a = omega arith in
    let d : (a + b * 256) / 256 ≡ b = omega arith in
    let f : b % 256 ≡ b = omega arith in
    rw (e, d, f)

-- two low bytes and the others
pub digits_more : (w low high : ℕ) → low < 65536 → digits (suc (suc w)) (low + high * 65536) ≡ digits 2 low ++ digits w high
unfolding digits
digits_more w low high h =
    let e : (low + high * 65536) % 256 ≡ low % 256 = omega arith in
    let d : (low + high * 65536) / 256 ≡ low / 256 + high * 256 = omega arith in
    let f : (low / 256 + high * 256) % 256 ≡ low / 256 % 256 = omega arith in
    let g : (low / 256 + high * 256) / 256 ≡ high = omega arith in
    rw (e, d, f, g)

pub bytes_more : (s : List ℕ) (at w : ℕ) → take (2 + w) (drop at s) ≡ take 2 (drop at s) ++ take w (drop (at + 2) s)
bytes_more s at w = take-add 2 w (drop at s) ∙ rw (drop-drop 2 at s)

-- equal digits, equal numbers
pub digits_same : (w m n : ℕ) → m < 256 ^ w → n < 256 ^ w → digits w m ≡ digits w n → m ≡ n
unfolding digits
digits_same zero m n h i e = omega arith
digits_same (suc w) m n h i e =
    let low : m % 256 ≡ n % 256 = cc in
    let high : digits w (m / 256) ≡ digits w (n / 256) = cc in
    let q = digits_same w (m / 256) (n / 256) (omega arith) (omega arith) high in
    omega arith

pub digits-length : (w n : ℕ) → length (digits w n) ≡ w
unfolding digits
digits-length zero n = refl
digits-length (suc w) n = ap suc (digits-length w (n / 256))
