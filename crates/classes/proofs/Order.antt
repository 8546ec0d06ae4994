-- Classes are equal, and in order, as their numbers are.
use mathlib.Core.Path.{◌≡◌, refl, sym, subst, ap, ap₂, ◌∙◌}
use borrow.Author.Tests.{ltb-true, ltb-false, leb-true}
use mathlib.Core.Bool.{Bool, true, false, not}
use mathlib.Core.List.{List, [], ◌∷◌}
use Prim.Native.Nat.{ℕ, zero, suc, ◌<◌, ◌≤◌}
use native.Mathlib.Omega.{arith}
use lib.ListN.{length, get_or}
use lib.Dec.{T, eqb, leb, ltb, eqb→eq}
use denote.Enum.Declared.{tag_of}
use denote.Enum.Bare.{sameb, same_true, same_false, differs_true, differs_false}
use Rattle.std.proofs.Common.{lit<}
use Rattle.std.specs.Ordering.{partial_lt}
use Rattle.meaning.specs.Goodness.{span}
use Rattle.meaning.proofs.Truth.{is_true, is_false, see}
use Rattle.meaning.proofs.Tables.{both}
use Rattle.classes.specs.Table.{number_of}
use Rattle.classes.specs.contracts.ClassPartialOrd.TheImpl.{partial_cmp-value}
use Rattle.classes.specs.contracts.Class.{the_type}
use Rattle.classes.specs.declared.Class.{Class}
use Rattle.classes.specs.declared.Class.TheVariants.{Other, Blank, Slash, Capital, Small, Typed, Digit, Dash, Quote, Sign, Call, Star, LineEnd}

-- every class passes the test f
passed : (Class → Bool) → List Class → Bool
passed f [] = true
passed f (k ∷ ks) = both (f k) (passed f ks)

classes : List Class
classes = Other ∷ Blank ∷ Slash ∷ Capital ∷ Small ∷ Typed ∷ Digit ∷ Dash ∷ Quote ∷ Sign ∷ Call ∷ Star ∷ LineEnd ∷ []

first : (a b : Bool) → T (both a b) → T a
first true b t = tt
first false b t = absurd t

rest : (a b : Bool) → T (both a b) → T b
rest true b t = t
rest false b t = absurd t

passed_at : (f : Class → Bool) (ks : List Class) → T (passed f ks) → (i : ℕ) → i < length ks → T (f (get_or ks i Other))
unfolding passed
passed_at f [] t i h = absurd (omega arith)
passed_at f (k ∷ ks) t zero h = first (f k) (passed f ks) t
passed_at f (k ∷ ks) t (suc i) h = passed_at f ks (rest (f k) (passed f ks) t) i (omega arith)

own_place : (k : Class) → get_or classes (number_of k) Other ≡ k
unfolding classes
own_place Other = refl
own_place Blank = refl
own_place Slash = refl
own_place Capital = refl
own_place Small = refl
own_place Typed = refl
own_place Digit = refl
own_place Dash = refl
own_place Quote = refl
own_place Sign = refl
own_place Call = refl
own_place Star = refl
own_place LineEnd = refl

below : (k : Class) → number_of k < 13
below Other = lit< tt
below Blank = lit< tt
below Slash = lit< tt
below Capital = lit< tt
below Small = lit< tt
below Typed = lit< tt
below Digit = lit< tt
below Dash = lit< tt
below Quote = lit< tt
below Sign = lit< tt
below Call = lit< tt
below Star = lit< tt
below LineEnd = lit< tt

each : (f : Class → Bool) → T (passed f classes) → (k : Class) → T (f k)
unfolding classes
each f t k = subst (λ (x : Class). T (f x)) (own_place k) (passed_at f classes t (number_of k) (below k))

agree : Bool → Bool → Bool
agree true b = b
agree false b = not b

agree_same : (a b : Bool) → T (agree a b) → a ≡ b
unfolding agree
agree_same true true t = refl
agree_same true false t = absurd t
agree_same false true t = absurd t
agree_same false false t = refl

abbrev less_test : Class → Class → Bool
less_test a b = agree (partial_lt partial_cmp-value.it a b) (ltb (number_of a) (number_of b))

less : (a b : Class) → partial_lt partial_cmp-value.it a b ≡ ltb (number_of a) (number_of b)
unfolding classes passed agree
less a b = agree_same _ _ (each (less_test a) (each (λ x. passed (less_test x) classes) tt a) b)

-- what a test of the order says
module _ (a b : Class) {r : Bool} (e : r ≡ partial_lt partial_cmp-value.it a b) where
  pub low : r ≡ true → number_of a < number_of b
  low t = ltb-true _ _ (sym (less a b) ∙ sym e ∙ t)

  pub high : r ≡ false → number_of b ≤ number_of a
  high t = ltb-false _ _ (sym (less a b) ∙ sym e ∙ t)

tagged : (k : Class) → tag_of the_type k ≡ number_of k
unfolding classes passed
tagged k = eqb→eq _ _ (each (λ x. eqb (tag_of the_type x) (number_of x)) tt k)

pub same_number : (a b : Class) → number_of a ≡ number_of b → a ≡ b
same_number a b e = sym (own_place a) ∙ ap (λ (i : ℕ). get_or classes i Other) e ∙ own_place b

-- what a test for equality says
module _ (a b : Class) {r : Bool} where
  pub eq_by : r ≡ sameb the_type a b → r ≡ eqb (number_of a) (number_of b)
  eq_by e = e ∙ ap₂ eqb (tagged a) (tagged b)

  pub eq_true : r ≡ sameb the_type a b → r ≡ true → number_of a ≡ number_of b
  eq_true e t = ap number_of (same_true the_type tt a b (sym e ∙ t))

  pub eq_false : r ≡ sameb the_type a b → r ≡ false → number_of a ≡ number_of b → ⊥
  eq_false e t n = same_false the_type a b (sym e ∙ t) (same_number a b n)

  pub ne_true : r ≡ not (sameb the_type a b) → r ≡ true → number_of a ≡ number_of b → ⊥
  ne_true e t n = differs_true the_type a b (sym e ∙ t) (same_number a b n)

  pub ne_false : r ≡ not (sameb the_type a b) → r ≡ false → number_of a ≡ number_of b
  ne_false e t = ap number_of (differs_false the_type tt a b (sym e ∙ t))

-- no class of a span
pub span_out : (lo hi n : ℕ) → (lo ≤ n → n ≤ hi → ⊥) → span lo hi n ≡ false
unfolding span
span_out lo hi n h =
    elim (see (leb lo n)) [
      | is_false a ↦ rw a
      | is_true a ↦
          elim (see (leb n hi)) [
            | is_false b ↦ rw (a, b)
            | is_true b ↦ absurd (h (leb-true _ _ a) (leb-true _ _ b))
          ]
    ]

module _ (k : Class) where
  abbrev pub Not : Class → Type 0
  Not c = k ≡ c → ⊥

  pub other_than : (c : Class) → Not c → number_of k ≡ number_of c → ⊥
  other_than c h e = h (same_number k c e)

  pub no_letter : Not Capital → Not Small → Not Typed → span 3 5 (number_of k) ≡ false
  no_letter a b c = span_out 3 5 _ (λ l m. omega (arith, other_than Capital a, other_than Small b, other_than Typed c))

  pub no_name : Not Capital → Not Small → Not Typed → Not Digit → Not Dash → span 3 7 (number_of k) ≡ false
  no_name a b c d e = span_out 3 7 _ (λ l m. omega (arith, other_than Capital a, other_than Small b, other_than Typed c, other_than Digit d, other_than Dash e))

  pub no_one : (c : Class) → Not c → span (number_of c) (number_of c) (number_of k) ≡ false
  no_one c h = span_out (number_of c) (number_of c) _ (λ l m. other_than c h (omega arith))
