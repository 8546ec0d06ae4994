-- One slot is joined, the others stay.
use mathlib.Core.Path.{◌≡◌, sym, ◌∙◌, ap, subst}
use mathlib.Core.Bool.{true, false}
use Prim.Native.Nat.{ℕ, suc, ◌+◌, ◌-◌, ◌*◌, ◌/◌, ◌%◌, ◌^◌, ◌<◌}
use native.Mathlib.Omega.{arith}
use native.Mathlib.Nat.{one-mul}
use lib.Bits.{bit_or, or_shr, or_mod, or_zero_r}
use lib.Pow.{shl_exact, shl-shr, shr_le, shr_lt, pow-lt, pow-add}
use lib.Dec.{eqb, ltb}
use borrow.Author.Tests.{eqb-true, eqb-false, ltb-true, ltb-false}
use Rattle.meaning.proofs.Truth.{is_true, is_false, see}
use Rattle.kinds.specs.Slots.{within, joined}

pub none_within : (j : ℕ) → within 0 j ≡ false
unfolding within
none_within j = rw (let z : 0 / 2 ^ j ≡ 0 = omega (arith, shr_le 0 j) in z)

-- the j-th bit of a bitwise or
or_bit : (m n i : ℕ) → bit_or m n / 2 ^ i % 2 ≡ bit_or (m / 2 ^ i % 2) (n / 2 ^ i % 2)
or_bit m n i = ap (λ (x : ℕ). x % 2) (or_shr m n i) ∙ or_mod (m / 2 ^ i) (n / 2 ^ i) 1

or_one : (x : ℕ) → x < 2 → bit_or x 1 ≡ 1
or_one x h =
    elim (see (eqb x 0)) [
      | is_true z ↦ rw (eqb-true x 0 z)
      | is_false z ↦ rw (let q : x ≡ 1 = omega (arith, eqb-false x 0 z) in q)
    ]

own : (j : ℕ) → 2 ^ j / 2 ^ j ≡ 1
own j = ap (λ (x : ℕ). x / 2 ^ j) (sym (one-mul (2 ^ j))) ∙ shl-shr 1 j

pub within_same : (m j : ℕ) → within (joined m j) j ≡ true
unfolding within joined
within_same m j = rw (or_bit m (2 ^ j) j, own j, or_one (m / 2 ^ j % 2) (omega arith))

else_zero : (i j : ℕ) → (i ≡ j → ⊥) → 2 ^ j / 2 ^ i % 2 ≡ 0
else_zero i j n =
    elim (see (ltb i j)) [
      | is_true z ↦
          let h : i < j = ltb-true i j z in
          let e : j ≡ suc (j - i - 1) + i = omega arith in
          rw (e, pow-add 2 (suc (j - i - 1)) i, shl-shr (2 ^ suc (j - i - 1)) i) (omega arith)
      | is_false z ↦
          let h : j < i = omega (arith, ltb-false i j z) in
          let l : 2 ^ j / 2 ^ i < 1 = shr_lt 0 i (subst (λ (x : ℕ). 2 ^ j < 2 ^ x) (let q : i ≡ 0 + i = omega arith in q) (pow-lt h)) in
          omega arith
    ]

pub within_other : (m i j : ℕ) → (i ≡ j → ⊥) → within (joined m j) i ≡ within m i
unfolding within joined
within_other m i j n = rw (or_bit m (2 ^ j) i, else_zero i j n, or_zero_r (m / 2 ^ i % 2))

-- as the code says it
pub one_shifted : (j : ℕ) → j < 48 → (1 * 2 ^ j) % 18446744073709551616 ≡ 2 ^ j
one_shifted j h = shl_exact {a = 1} 1 j 64 (omega arith) (omega arith) ∙ one-mul (2 ^ j)
