-- The table of lengths, compared with the paper's once for all its entries.
use mathlib.Core.Path.{◌≡◌}
use mathlib.Core.Bool.{Bool, true, false, ◌||◌, not}
use native.Mathlib.Omega.{arith}
use Prim.Native.Nat.{ℕ, ◌+◌, ◌≤◌, ◌<◌}
use lib.Dec.{eqb, leb}
use lib.ListN.{get_or, get_or-eq_default}
use borrow.Author.Tests.{eqb-true, lt-leb, leb-true, leb-false}
use Rattle.meaning.specs.Elements.{body, bodies}
use Rattle.meaning.specs.Goodness.{span}
use Rattle.meaning.proofs.Truth.{T_true, never, is_true, is_false, see}
use Rattle.meaning.proofs.Tables.{table_at}
use Rattle.kinds.specs.declared.TheConstants.{LENGTHS}

one_longer : ℕ → ℕ → Bool
one_longer k n = eqb (get_or LENGTHS k 0) (1 + n)

pub length-known : (k : ℕ) → k < 16 → get_or LENGTHS k 0 ≡ 1 + body k
unfolding one_longer body
length-known k h = eqb-true _ _ (T_true _ (table_at one_longer bodies tt k h))

pub body_unknown : (k : ℕ) → 16 ≤ k → body k ≡ 0
unfolding body
body_unknown k h = get_or-eq_default bodies 0 {n = k} h

one_for_variables : ℕ → ℕ → Bool
one_for_variables k n = leb k 7 || (leb 11 k || eqb n 1)

-- a variable's body is its number
pub body_var : (k : ℕ) → 8 ≤ k → k ≤ 10 → body k ≡ 1
unfolding body one_for_variables
body_var k h l =
    let q : one_for_variables k (get_or bodies k 0) ≡ true = T_true _ (table_at one_for_variables bodies tt k (omega arith)) in
    eqb-true (get_or bodies k 0) 1 (rw (lt-leb k 7 (omega arith), lt-leb 11 k (omega arith)) at q)

none_of_three : ℕ → ℕ → Bool
none_of_three k n = not (eqb n 3)

-- no body has three bytes
pub body-not_three : (k : ℕ) → body k ≡ 3 → ⊥
unfolding body none_of_three
body-not_three k e =
    elim (see (leb 16 k)) [
      | is_true z ↦ never (let u = body_unknown k (leb-true 16 k z) in omega arith)
      | is_false z ↦
          let q : none_of_three k (get_or bodies k 0) ≡ true = T_true _ (table_at none_of_three bodies tt k (leb-false 16 k z)) in
          never (let w : false ≡ true = rw e at q in cc)
    ]

known-or_bare : ℕ → ℕ → Bool
known-or_bare k n = leb n 0 || span 1 15 k

-- only a known kind has a body
pub body-known : (k : ℕ) → 0 < body k → span 1 15 k ≡ true
unfolding body known-or_bare span
body-known k h =
    elim (see (leb 16 k)) [
      | is_true z ↦ never (let u = body_unknown k (leb-true 16 k z) in omega arith)
      | is_false z ↦
          let q : known-or_bare k (get_or bodies k 0) ≡ true = T_true _ (table_at known-or_bare bodies tt k (leb-false 16 k z)) in
          rw (lt-leb (get_or bodies k 0) 0 h) at q
    ]
