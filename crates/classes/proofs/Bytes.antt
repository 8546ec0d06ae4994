-- The table of classes, and the spelling of a byte by its class.
use mathlib.Core.Path.{◌≡◌, sym}
use mathlib.Core.Logic.{◌⊎◌, inl, inr}
use mathlib.Core.Bool.{Bool, true, false, not}
use Prim.Native.Nat.{ℕ, ◌+◌, ◌<◌}
use native.Mathlib.Omega.{arith}
use lib.Dec.{T, eqb, ltb, eqb→eq}
use lib.ListN.{get_or, replicate}
use borrow.Author.Tests.{ltb-true}
use Rattle.meaning.specs.Goodness.{span, implies}
use Rattle.meaning.proofs.Truth.{T_true}
use Rattle.meaning.proofs.Tables.{every, table_at}
use Rattle.text.specs.Classes.{class_of, of}
use Rattle.classes.specs.Table.{number_of, Classes, spelling}
use Rattle.classes.specs.declared.Class.TheVariants.{Other, Small, Typed, Digit}
use Rattle.classes.specs.declared.Class.{Class}
use Rattle.classes.specs.declared.TheConstants.{CLASSES}

-- one test of all the entries
entry_right : ℕ → ℕ → Bool
entry_right b x = eqb (number_of (get_or CLASSES b Other)) (class_of b)

pub the_table : Classes CLASSES
unfolding entry_right class_of span
the_table = record { rule = λ b h. eqb→eq _ _ (table_at entry_right (replicate 256 0) tt b h) }

low_capital : ℕ → ℕ → Bool
low_capital b x = implies (eqb (class_of b) 3) (ltb b 224)

-- the spelling by the class n of b, one test for all bytes
spelt : (ℕ → Bool) → (ℕ → ℕ) → ℕ → ℕ → Bool
spelt p f b x = implies (p (class_of b)) (eqb (spelling b) (f b))

by_class : (p : ℕ → Bool) (f : ℕ → ℕ) → T (every (spelt p f) 0 (replicate 256 0)) → (b n : ℕ) → n ≡ class_of b → b < 256 → p n ≡ true → f b ≡ spelling b
unfolding spelt
by_class p f t b n e l h =
    let u : T (spelt p f b 0) = table_at (λ i x. spelt p f i 0) (replicate 256 0) t b l in
    sym (eqb→eq _ _ (rw (← e, h) at u))

module _ (b n : ℕ) (e : n ≡ class_of b) (l : b < 256) where
  pub spelling_capital : n ≡ 3 → b + 32 ≡ spelling b
  unfolding spelt spelling class_of span of
  spelling_capital h = by_class (eqb 3) (λ i. i + 32) tt b n e l (rw h)

  pub spelling_same : span 4 6 n ≡ true → b ≡ spelling b
  unfolding spelt spelling class_of span of
  spelling_same h = by_class (span 4 6) (λ i. i) tt b n e l h

  pub spelling_dash : n ≡ 7 → 45 ≡ spelling b
  unfolding spelt spelling class_of span of
  spelling_dash h = by_class (eqb 7) (λ i. 45) tt b n e l (rw h)

  pub spelling_outside : span 3 7 n ≡ false → 0 ≡ spelling b
  unfolding spelt spelling class_of span of
  spelling_outside h = by_class (λ i. not (span 3 7 i)) (λ i. 0) tt b n e l (rw h)

  pub capital_fits : n ≡ 3 → b + 32 < 256
  unfolding low_capital class_of span
  capital_fits h =
      let t : T (low_capital b 0) = table_at (λ i x. low_capital i 0) (replicate 256 0) tt b l in
      omega (arith, ltb-true b 224 (T_true _ (rw (← e, h) at t)))

-- a letter but a capital, or a digit
pub same_in : (k : Class) → (k ≡ Small) ⊎ ((k ≡ Typed) ⊎ (k ≡ Digit)) → span 4 6 (number_of k) ≡ true
unfolding span
same_in k (inl e) = rw e
same_in k (inr (inl e)) = rw e
same_in k (inr (inr e)) = rw e
