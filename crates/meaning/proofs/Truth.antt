-- Tests with their values, and small facts on Bool and on spans.
use mathlib.Core.Path.{◌≡◌, refl, ap₂}
use mathlib.Core.Bool.{Bool, true, false, ◌&&◌, ◌||◌, not}
use mathlib.Core.Option.{Option, none, some}
use mathlib.Core.List.{List, [], ◌∷◌}
use Prim.Native.Nat.{ℕ, ◌≤◌}
use native.Mathlib.Omega.{arith}
use lib.Dec.{T, eqb, leb}
use borrow.Author.Tests.{eqb-true, eq-eqb, leb-true}
use Rattle.meaning.specs.Elements.{same}
use Rattle.meaning.specs.Goodness.{span}

-- 0 is not 1
pub never : {A : Type 0} → ◌≡◌ {A = ℕ} 0 1 → A
never z = absurd (omega arith)

-- a test, with its value
pub data Seen (b : Bool) : Type 0 where
  is_true : b ≡ true → Seen b
  is_false : b ≡ false → Seen b

pub see : (b : Bool) → Seen b
see true = is_true refl
see false = is_false refl

pub data SeenO {A : Type 0} (o : Option A) : Type 0 where
  is_none : o ≡ none → SeenO o
  is_some : (x : A) → o ≡ some x → SeenO o

pub see_o : {A : Type 0} (o : Option A) → SeenO o
see_o none = is_none refl
see_o (some x) = is_some x refl

pub or_right : (a : Bool) → (a || true) ≡ true
or_right true = refl
or_right false = refl

pub or_left : (a : Bool) → (a || false) ≡ true → a ≡ true
or_left true h = refl
or_left false h = h

pub and_left : (a b : Bool) → (a && b) ≡ true → a ≡ true
and_left true b h = refl
and_left false b h = h

pub and_right : (a b : Bool) → (a && b) ≡ true → b ≡ true
and_right true b h = h
and_right false b h = cc

pub or_false : (a b : Bool) → (a || b) ≡ false → (a ≡ false) × (b ≡ false)
or_false true b h = (h, cc)
or_false false b h = (refl, h)

pub and_false : (a : Bool) → (a && false) ≡ false
and_false true = refl
and_false false = refl

pub not-true : (t : Bool) → not t ≡ true → t ≡ false
not-true true e = cc
not-true false e = refl

pub T_true : (b : Bool) → T b → b ≡ true
T_true true t = refl
T_true false t = absurd t

pub true_T : (b : Bool) → b ≡ true → T b
true_T true e = tt
true_T false e = never (cc)

pub same_eq : (x y : List ℕ) → same x y ≡ true → x ≡ y
unfolding same
same_eq [] [] h = refl
same_eq [] (b ∷ ys) h = cc
same_eq (a ∷ xs) [] h = cc
same_eq (a ∷ xs) (b ∷ ys) h =
    ap₂ {C = List ℕ} (λ n l. n ∷ l) (eqb-true a b (and_left (eqb a b) _ h)) (same_eq xs ys (and_right (eqb a b) _ h))

pub same_refl : (x : List ℕ) → same x x ≡ true
unfolding same
same_refl [] = refl
same_refl (a ∷ xs) = rw (eq-eqb a a refl) (same_refl xs)

pub span_le : (a b n : ℕ) → span a b n ≡ true → (a ≤ n) × (n ≤ b)
unfolding span
span_le a b n h = (leb-true a n (and_left (leb a n) _ h), leb-true n b (and_right (leb a n) _ h))
