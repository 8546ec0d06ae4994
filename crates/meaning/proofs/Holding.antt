-- The first element of a kind among elements: whether there is one, what stands before it and behind it.
use mathlib.Core.Path.{◌≡◌, refl, ◌∙◌, ap}
use mathlib.Core.Bool.{true, false, ◌||◌}
use mathlib.Core.List.{List, [], ◌∷◌, ◌++◌}
use Prim.Native.Nat.{ℕ}
use Rattle.meaning.specs.Elements.{Element, is_kind}
use Rattle.meaning.specs.Machine.{before, behind, holds}
use Rattle.meaning.proofs.Truth.{never, is_true, is_false, see, or_right, or_false}

module _ (k : ℕ) where
  pub holds-append : (xs ys : List Element) → holds k (xs ++ ys) ≡ (holds k xs || holds k ys)
  unfolding holds
  holds-append [] ys = refl
  holds-append (x ∷ xs) ys = elim (see (is_kind k x)) [ is_true h ↦ rw h | is_false h ↦ rw h (holds-append xs ys) ]

  pub holds_at : (xs : List Element) (g : Element) (ys : List Element) → is_kind k g ≡ true → holds k (xs ++ (g ∷ ys)) ≡ true
  unfolding holds
  holds_at xs g ys h = holds-append xs (g ∷ ys) ∙ rw h (or_right (holds k xs))

  pub before_found : (xs ys : List Element) → holds k xs ≡ true → before k (xs ++ ys) ≡ before k xs
  unfolding holds before
  before_found [] ys h = cc
  before_found (x ∷ xs) ys h =
      elim (see (is_kind k x))
      [ is_true e ↦ rw (e, before) | is_false e ↦ rw (e, before) (ap (λ (r : List Element). x ∷ r) (before_found xs ys (rw e at h))) ]

  pub behind_found : (xs ys : List Element) → holds k xs ≡ true → behind k (xs ++ ys) ≡ behind k xs ++ ys
  unfolding holds behind
  behind_found [] ys h = cc
  behind_found (x ∷ xs) ys h =
      elim (see (is_kind k x))
      [ is_true e ↦ rw (e, behind) | is_false e ↦ rw (e, behind) (behind_found xs ys (rw e at h)) ]

  pub before_none : (xs ys : List Element) → holds k xs ≡ false → before k (xs ++ ys) ≡ xs ++ before k ys
  unfolding holds before
  before_none [] ys h = refl
  before_none (x ∷ xs) ys h =
      elim (see (is_kind k x))
      [ is_true e ↦ cc | is_false e ↦ rw (e, before) (ap (λ (r : List Element). x ∷ r) (before_none xs ys (rw e at h))) ]

  pub behind_none : (xs ys : List Element) → holds k xs ≡ false → behind k (xs ++ ys) ≡ behind k ys
  unfolding holds behind
  behind_none [] ys h = refl
  behind_none (x ∷ xs) ys h =
      elim (see (is_kind k x))
      [ is_true e ↦ cc | is_false e ↦ rw (e, behind) (behind_none xs ys (rw e at h)) ]

  pub split_at : (es : List Element) → holds k es ≡ true → (g : Element) × (es ≡ before k es ++ (g ∷ behind k es)) × (is_kind k g ≡ true)
  unfolding holds before behind
  split_at [] h = never (cc)
  split_at (e ∷ es) h =
      elim (see (is_kind k e)) [
        | is_true z ↦ (e, rw (z, before, behind), z)
        | is_false z ↦ let (g, q, w) = split_at es (rw z at h) in (g, rw (z, before, behind) (ap {B = List Element} (λ l. e ∷ l) q), w)
      ]

  pub before_lacks : (es : List Element) → holds k (before k es) ≡ false
  unfolding holds before
  before_lacks [] = refl
  before_lacks (e ∷ es) = elim (see (is_kind k e)) [ is_true z ↦ rw (z, before) | is_false z ↦ rw (z, before) (rw z (before_lacks es)) ]

pub lacks_before : (j k : ℕ) (es : List Element) → holds j es ≡ false → holds j (before k es) ≡ false
unfolding holds before
lacks_before j k [] h = refl
lacks_before j k (e ∷ es) h =
    let m = or_false (is_kind j e) (holds j es) h in
    elim (see (is_kind k e)) [ is_true z ↦ rw (z, before) | is_false z ↦ rw (z, before) (rw m.0 (lacks_before j k es m.1)) ]
