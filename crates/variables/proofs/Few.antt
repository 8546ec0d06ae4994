-- A sentence has few variables: 16 of each kind.
use mathlib.Core.Path.{◌≡◌, refl, ap}
use mathlib.Core.Bool.{false, cond}
use mathlib.Core.List.{List, [], ◌∷◌, ◌++◌}
use Prim.Native.Nat.{ℕ, zero, suc, ◌+◌, ◌≤◌}
use native.Mathlib.Omega.{arith}
use lib.ListN.{length, length-append}
use lib.Dec.{eqb}
use borrow.Author.Tests.{eqb-true, eqb-false}
use Rattle.meaning.specs.Elements.{same, kind}
use Rattle.meaning.proofs.Truth.{is_true, is_false, see, or_false}
use Rattle.text.specs.Numbering.{Key, number_of, has, adding}
use Rattle.text.proofs.Names.{adding-known, adding_new}
use Rattle.variables.specs.Variables.{keys_from, keys_of}
use Rattle.variables.specs.Few.{count_of, Few}

pub few_none : Few []
unfolding count_of
few_none = record { typed = refl; each = λ k. omega arith }

pub few_length : {vs : List Key} → Few vs → length vs ≤ 48
few_length f = omega (arith, f.each 8, f.each 9, f.each 10)

count_more : (k : ℕ) (vs : List Key) (v : Key) → count_of k (vs ++ (v ∷ [])) ≡ count_of k vs + cond (eqb k (kind v)) 1 0
unfolding count_of
count_more k [] v = omega arith
count_more k (w ∷ vs) v = omega (arith, count_more k vs v)

-- a new variable's number is how many there are of its kind
number_new : (x : Key) (vs : List Key) → has x vs ≡ false → number_of x vs ≡ count_of (kind x) vs
unfolding number_of has count_of
number_new x [] h = refl
number_new x (v ∷ vs) h =
    let (d, r) = or_false (same x v) _ h in
    elim (see (eqb (kind x) (kind v))) [
      | is_true e ↦ rw (d, number_of, e) (omega (arith, number_new x vs r))
      | is_false e ↦ rw (d, number_of, e) (omega (arith, number_new x vs r))
    ]

one_kind : (k : ℕ) → 8 ≤ k → k ≤ 10 → cond (eqb 8 k) 1 0 + cond (eqb 9 k) 1 0 + cond (eqb 10 k) 1 0 ≡ 1
one_kind k lo hi =
    elim (see (eqb 8 k)) [
      | is_true e ↦ rw (← eqb-true 8 k e)
      | is_false d ↦
          elim (see (eqb 9 k)) [
            | is_true e ↦ rw (← eqb-true 9 k e)
            | is_false e ↦ let t : k ≡ 10 = (let p = eqb-false 8 k d in let q = eqb-false 9 k e in omega arith) in rw t
          ]
    ]

pub few_more : {vs : List Key} (k : ℕ) (x : List ℕ) → Few vs → 8 ≤ k → k ≤ 10 → number_of (k ∷ x) vs ≤ 15 → Few (adding (k ∷ x) vs)
few_more {vs} k x f lo hi n =
    elim (see (has (k ∷ x) vs)) [
      | is_true h ↦ rw (adding-known (k ∷ x) vs h) f
      | is_false h ↦
          rw (adding_new (k ∷ x) vs h)
          (record {
            typed =
                omega (
                  arith,
                  f.typed,
                  one_kind k lo hi,
                  length-append vs ((k ∷ x) ∷ []),
                  count_more 8 vs (k ∷ x),
                  count_more 9 vs (k ∷ x),
                  count_more 10 vs (k ∷ x),
                );
            each = λ j.
                elim (see (eqb j k)) [
                  | is_true e ↦ rw (count_more j vs (k ∷ x), e, eqb-true j k e) (omega (arith, number_new (k ∷ x) vs h))
                  | is_false e ↦ rw (count_more j vs (k ∷ x), e) (omega (arith, f.each j))
                ];
          })
    ]

keys_from_length : (s kinds starts sizes : List ℕ) (j n : ℕ) → length (keys_from s kinds starts sizes j n) ≡ n
unfolding keys_from
keys_from_length s kinds starts sizes j zero = refl
keys_from_length s kinds starts sizes j (suc n) = ap suc (keys_from_length s kinds starts sizes (suc j) n)

pub keys_length : (s kinds starts sizes : List ℕ) (m : ℕ) → length (keys_of s kinds starts sizes m) ≡ m
keys_length s kinds starts sizes m = keys_from_length s kinds starts sizes 0 m
