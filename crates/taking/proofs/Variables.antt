-- A set of slots stands for a list of variables.
use mathlib.Core.Path.{◌≡◌, refl, sym, ◌∙◌, ap}
use mathlib.Core.Bool.{Bool, true, false, ◌&&◌, ◌||◌, not, cond}
use mathlib.Core.List.{List, ◌∷◌, ◌++◌, []}
use Prim.Native.Nat.{ℕ, ◌+◌, ◌^◌, ◌≤◌, ◌<◌}
use native.Mathlib.Omega.{arith}
use lib.ListN.{length-append}
use lib.Bits.{or_lt}
use lib.Pow.{pow-lt}
use lib.Dec.{leb}
use borrow.Author.Tests.{le-leb, leb-true, eq-eqb}
use Rattle.meaning.specs.Elements.{Element, kind, among, same, is_variable}
use Rattle.meaning.specs.Goodness.{Part, field, outside, start, left, right, after, ended, span, implies, on_right, variables_after}
use Rattle.meaning.proofs.Truth.{never, is_true, is_false, see, and_left, or_right, same_eq, same_refl, span_le}
use Rattle.kinds.specs.Slots.{slot_of, joined}
use Rattle.kinds.proofs.Sets.{none_within, within_same, within_other}
use Rattle.taking.specs.Standing.{number_of, fresh, Holds}

pub holds_none : Holds 0 0 []
unfolding among
holds_none = record { small = omega arith; counted = refl; marked = λ k v h l w. none_within (slot_of k v) }

pub or_no : (b : Bool) → (b || false) ≡ b
or_no true = refl
or_no false = refl

or_assoc : (a b c : Bool) → (a || (b || c)) ≡ ((a || b) || c)
or_assoc true b c = refl
or_assoc false b c = refl

among_last : (e x : Element) (vs : List Element) → among e (vs ++ (x ∷ [])) ≡ (among e vs || same e x)
unfolding among
among_last e x [] = or_no (same e x)
among_last e x (y ∷ vs) = ap (λ (b : Bool). same e y || b) (among_last e x vs) ∙ or_assoc (same e y) (among e vs) (same e x)

joined_small : (slots j : ℕ) → slots < 2 ^ 48 → j < 48 → joined slots j < 2 ^ 48
unfolding joined
joined_small slots j h l = or_lt 48 slots (2 ^ j) h (pow-lt {j = 48} l)

-- variables that differ have slots that differ
slots_differ : (k v k' v' : ℕ) → 8 ≤ k → 8 ≤ k' → v ≤ 15 → v' ≤ 15 → same (k' ∷ v' ∷ []) (k ∷ v ∷ []) ≡ false → slot_of k' v' ≡ slot_of k v → ⊥
unfolding same
slots_differ k v k' v' hk hk' hv hv' e s =
    let a : k' ≡ k = omega arith in
    let b : v' ≡ v = omega arith in
    never (let z : true ≡ false = rw (eq-eqb k' k a, eq-eqb v' v b) at e in cc)

module _ (slots n : ℕ) (vs : List Element) (k v : ℕ) (hk : 8 ≤ k) (lk : k ≤ 10) (lv : v ≤ 15) (H : Holds slots n vs) where
  holds_with : Holds (joined slots (slot_of k v)) (n + 1) (vs ++ ((k ∷ v ∷ []) ∷ []))
  holds_with =
      record {
        small = joined_small slots (slot_of k v) H.small (omega arith);
        counted = ap (λ (m : ℕ). m + 1) H.counted ∙ sym (length-append vs ((k ∷ v ∷ []) ∷ []));
        marked = λ k' v' h l w.
            elim (see (same (k' ∷ v' ∷ []) (k ∷ v ∷ []))) [
              | is_true z ↦
                  let q : k' ∷ v' ∷ [] ≡ k ∷ v ∷ [] = same_eq (k' ∷ v' ∷ []) (k ∷ v ∷ []) z in
                  let a : k' ≡ k = cc in
                  let b : v' ≡ v = cc in
                  rw (a, b, among_last (k ∷ v ∷ []) (k ∷ v ∷ []) vs, same_refl (k ∷ v ∷ [])) (within_same slots (slot_of k v) ∙ sym (or_right (among (k ∷ v ∷ []) vs)))
              | is_false z ↦
                  within_other slots (slot_of k' v') (slot_of k v) (slots_differ k v k' v' hk h lv w z) ∙ H.marked k' v' h l w
                  ∙ rw (among_last (k' ∷ v' ∷ []) (k ∷ v ∷ []) vs, z) (sym (or_no (among (k' ∷ v' ∷ []) vs)))
            ];
      }

-- ---- an element x, of which k and v are told
pub is_variable_lem : (x : Element) → is_variable x ≡ span 8 10 (kind x)
unfolding is_variable span
is_variable_lem x = refl

module _ (slots n : ℕ) (vs : List Element) (k v : ℕ) (x : Element) (H : Holds slots n vs) (ek : kind x ≡ k)
    (pair : span 8 10 k ≡ true → x ≡ k ∷ v ∷ []) (nu : implies (span 8 10 k) (leb v 15) ≡ true) where
  v_small : span 8 10 k ≡ true → v ≤ 15
  v_small z = leb-true v 15 (rw z at nu)

  var_is : is_variable x ≡ span 8 10 k
  var_is = is_variable_lem x ∙ ap (span 8 10) ek

  pub fresh_is : fresh slots k v ≡ (is_variable x && not (among x vs))
  unfolding fresh
  fresh_is =
      elim (see (span 8 10 k)) [
        | is_false z ↦ rw (var_is, z)
        | is_true z ↦
            let q = span_le 8 10 k z in
            rw (var_is, z, pair z, le-leb v 15 (v_small z), H.marked k v q.0 q.1 (v_small z))
      ]

  -- the variables of the part q, to which x led; a fresh one leads to no right side
  pub holds_after : (q : Part) → (fresh slots k v ≡ true → on_right q ≡ false)
      → Holds (cond (span 3 4 (number_of q)) (cond (fresh slots k v) (joined slots (slot_of k v)) slots) 0) (cond (span 3 4 (number_of q)) (cond (fresh slots k v) (n + 1) n) 0) (variables_after q x vs)
  unfolding variables_after span on_right
  holds_after field h = holds_none
  holds_after outside h = holds_none
  holds_after start h = holds_none
  holds_after left h =
      elim (see (is_variable x && not (among x vs))) [
        | is_false z ↦ rw (fresh_is, z) H
        | is_true z ↦
            let y : span 8 10 k ≡ true = sym var_is ∙ and_left (is_variable x) _ z in
            let q = span_le 8 10 k y in
            rw (fresh_is, z, pair y) (holds_with slots n vs k v q.0 q.1 (v_small y) H)
      ]
  holds_after right h =
      elim (see (fresh slots k v)) [
        | is_false z ↦ rw z H
        | is_true z ↦ never (let w : true ≡ false = h z in cc)
      ]
  holds_after after h = holds_none
  holds_after ended h = holds_none
