-- The number of a name among others: the place of the first that equals it.
use mathlib.Core.Path.{◌≡◌, refl, sym, ◌∙◌, ap}
use mathlib.Core.Bool.{true, false}
use mathlib.Core.List.{List, [], ◌∷◌, ◌++◌}
use Prim.Native.Nat.{ℕ, zero, suc, ◌+◌, ◌≤◌, ◌<◌}
use native.Mathlib.Omega.{arith}
use native.Mathlib.Numerals.{add-one}
use lib.ListN.{length, get_or, take, set}
use lib.Seq.{get_or-take, length-take-le, take-suc-set}
use Rattle.meaning.specs.Elements.{same}
use Rattle.meaning.proofs.Truth.{is_true, is_false, see, same_eq, same_refl}
use Rattle.text.specs.Numbering.{number_of, has, adding, name_key}
use Rattle.names.specs.Names.{key_at, name_at, keys, named, number_at}

same_no : (x y : List ℕ) → (x ≡ y → ⊥) → same x y ≡ false
same_no x y n = elim (see (same x y)) [ is_true h ↦ absurd (n (same_eq x y h)) | is_false h ↦ h ]

pub differ : (x y : List ℕ) → x ≡ y → same x y ≡ false → ⊥
differ x y e h = let z : same x y ≡ true = rw (← e) (same_refl x) in let w : ◌≡◌ {A = ℕ} 0 1 = cc in omega arith

key_same : (x y : List ℕ) → same (name_key x) (name_key y) ≡ same x y
unfolding name_key same
key_same x y = refl

-- the number of the name x among those that begin at the places t
module _ (x s : List ℕ) where
  abbrev Number : List ℕ → ℕ
  Number t = number_of (name_key x) (keys s t)

  number_here : (o : ℕ) (os : List ℕ) → same x (key_at s o) ≡ true → Number (o ∷ os) ≡ 0
  unfolding number_of keys
  number_here o os h = rw (key_same x (key_at s o), h, number_of)

  number_there : (o : ℕ) (os : List ℕ) → same x (key_at s o) ≡ false → Number (o ∷ os) ≡ suc (Number os)
  unfolding number_of keys name_key
  number_there o os h = rw (key_same x (key_at s o), h, number_of)

  number-nil : Number [] ≡ 0
  unfolding number_of keys
  number-nil = refl

  number_none : (t : List ℕ) → ((j : ℕ) → j < length t → x ≡ key_at s (get_or t j 0) → ⊥) → Number t ≡ length t
  number_none [] h = number-nil
  number_none (o ∷ os) h =
      omega (arith, number_there o os (same_no _ _ (h 0 (omega arith))), number_none os (λ j l. h (suc j) (omega arith)))

  number_first : (t : List ℕ) (k : ℕ) → k < length t → x ≡ key_at s (get_or t k 0) → ((j : ℕ) → j < k → x ≡ key_at s (get_or t j 0) → ⊥)
      → Number t ≡ k
  number_first [] k l e h = absurd (omega arith)
  number_first (o ∷ os) zero l e h = number_here o os (rw (← e) (same_refl x))
  number_first (o ∷ os) (suc k) l e h =
      omega (arith, number_there o os (same_no _ _ (h 0 (omega arith))), number_first os k (omega arith) e (λ j m. h (suc j) (omega arith)))

  -- the number is no later than an equal name
  number_le : (t : List ℕ) (k : ℕ) → k < length t → x ≡ key_at s (get_or t k 0) → Number t ≤ k
  number_le [] k l e = absurd (omega arith)
  number_le (o ∷ os) zero l e = omega (arith, number_here o os (rw (← e) (same_refl x)))
  number_le (o ∷ os) (suc k) l e =
      elim (see (same x (key_at s o))) [
        | is_true h ↦ omega (arith, number_here o os h)
        | is_false h ↦ omega (arith, number_there o os h, number_le os k (omega arith) e)
      ]

  number_most : (t : List ℕ) → Number t ≤ length t
  number_most [] = omega (arith, number-nil)
  number_most (o ∷ os) =
      elim (see (same x (key_at s o))) [
        | is_true h ↦ omega (arith, number_here o os h)
        | is_false h ↦ omega (arith, number_there o os h, number_most os)
      ]

  -- the number tells whether the name is among them
  has-not : (t : List ℕ) → Number t ≡ length t → has (name_key x) (keys s t) ≡ false
  unfolding has keys
  has-not [] e = refl
  has-not (o ∷ os) e =
      elim (see (same x (key_at s o))) [
        | is_true h ↦ absurd (omega (arith, number_here o os h))
        | is_false h ↦ rw (key_same x (key_at s o), h) (has-not os (omega (arith, number_there o os h)))
      ]

  has_one : (t : List ℕ) → Number t < length t → has (name_key x) (keys s t) ≡ true
  unfolding has keys
  has_one [] l = absurd (omega arith)
  has_one (o ∷ os) l =
      elim (see (same x (key_at s o))) [
        | is_true h ↦ rw (key_same x (key_at s o), h)
        | is_false h ↦ rw (key_same x (key_at s o), h) (has_one os (omega (arith, number_there o os h)))
      ]

pub keys_more : (s t : List ℕ) (o : ℕ) → keys s (t ++ (o ∷ [])) ≡ keys s t ++ (name_key (key_at s o) ∷ [])
unfolding keys
keys_more s [] o = refl
keys_more s (a ∷ t) o = rw (keys_more s t o)

-- the same of the first n names of a table, and the name that begins at `at`
module _ (s firsts : List ℕ) (n : ℕ) (room : n ≤ length firsts) (at : ℕ) where
  abbrev Other : ℕ → Type 0
  Other j = key_at s at ≡ name_at s firsts j → ⊥

  long : length (take n firsts) ≡ n
  long = length-take-le n firsts room

  name_is : (j : ℕ) → j < n → key_at s (get_or (take n firsts) j 0) ≡ name_at s firsts j
  name_is j l = ap (key_at s) (get_or-take n firsts j 0 l)

  pub none_equal : ((j : ℕ) → j < n → Other j) → n ≡ number_at s firsts n at
  none_equal h =
      sym (number_none _ s (take n firsts) (λ j l e. let i : j < n = omega (arith, long) in h j i (e ∙ name_is j i)) ∙ long)

  pub first_equal : (k : ℕ) → k < n → key_at s at ≡ name_at s firsts k → ((j : ℕ) → j < k → Other j) → k ≡ number_at s firsts n at
  first_equal k l e h =
      sym (number_first _ s (take n firsts) k (omega (arith, long)) (e ∙ sym (name_is k l)) (λ j m f. h j m (f ∙ name_is j (omega arith))))

  pub at_most : number_at s firsts n at ≤ n
  at_most = omega (arith, number_most (key_at s at) s (take n firsts), long)

  pub new_other : n ≡ number_at s firsts n at → (j : ℕ) → j < n → Other j
  new_other h j l e = omega (arith, number_le (key_at s at) s (take n firsts) j (omega (arith, long)) (e ∙ sym (name_is j l)))

  -- the names after it
  pub keys_new : n < length firsts → n ≡ number_at s firsts n at → named s (set firsts n at) (n + 1) ≡ adding (name_key (key_at s at)) (named s firsts n)
  unfolding adding
  keys_new l e =
      rw (add-one n, take-suc-set firsts n at l, has-not (key_at s at) s (take n firsts) (sym e ∙ sym long)) (keys_more s (take n firsts) at)

  pub keys_old : number_at s firsts n at < n → named s firsts n ≡ adding (name_key (key_at s at)) (named s firsts n)
  unfolding adding
  keys_old l = rw (has_one (key_at s at) s (take n firsts) (omega (arith, long)))
