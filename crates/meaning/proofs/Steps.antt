-- What a step does; and a step of a good program on a good field leaves a good field.
use mathlib.Core.Path.{◌≡◌, refl, sym, ◌∙◌, ap}
use mathlib.Core.Bool.{true}
use mathlib.Core.Logic.{inl, inr}
use mathlib.Core.Option.{Option, none, some}
use mathlib.Core.List.Memᴰ
use mathlib.Core.List.{List, [], ◌∷◌, ◌++◌, append_assoc, append-nil, tail, Memᴰ}
use Prim.Native.Nat.{ℕ, ◌≤◌}
use native.Mathlib.Omega.{arith}
use lib.Dec.{leb}
use borrow.Author.Tests.{leb-true, leb-false, le-leb, lt-leb, ne_eqb}
use Rattle.meaning.specs.Elements.{Element, kind, same, size, join, cut, elements}
use Rattle.meaning.specs.Goodness.{bad_field, span}
use Rattle.meaning.specs.Matching.{Assignment, plain, role, put, Env, free, seek, given}
use Rattle.meaning.specs.Machine.{before, behind, Lead, nothing, lead, leading, Step, idle, stuck, onward, fit_in, replace, call, step_at, step, apply, function, pieces}
use Rattle.meaning.proofs.Words.{Innermost, Leads, Tried, none_left, not_this, this_one, StepIs, no_call, no_function, no_match, no_room, goes}
use Rattle.meaning.proofs.Truth.{never, is_true, is_false, see, is_none, is_some, see_o, and_left, and_right, same_eq}
use Rattle.meaning.proofs.Cutting.{cut-join}
use Rattle.meaning.proofs.Searching.{Sure, Result, seek_sound, fit_put, given_plain, given_itself, found, lost, only_one}
use Rattle.meaning.proofs.Leading.{leading_leads, leading_none}
use Rattle.meaning.proofs.Balance.{brackets, brackets_append, brackets_6, then, fours, inner, put_keeps, balanced_middle}
use Rattle.meaning.proofs.Programs.{field_element, Solid, s_none, s_more, solid_append, solid_split, good_solid, good_balanced, field_good, solid_whole, RightSide, r_none, r_fixed, r_variable, Sentence, Sentences, t_none, t_more, Functions, f_none, f_more}

-- SENTENCES TRIED IN ORDER

pub tried : (x : List Element) (ss : List (List Element)) → Tried x ss (apply ss x)
unfolding apply
tried x [] = none_left
tried x (s ∷ ss) =
    elim (see_o (seek (before 11 s) x free)) [
      | is_none h ↦ rw (h, apply) (not_this (lost (before 11 s) x h) (tried x ss))
      | is_some env h ↦ rw (h, apply) (this_one (given env) (found (before 11 s) x env h) (given_itself (before 11 s) x env h) refl)
    ]

-- the sentences of a function of a good program
pub function-sentences : (name : List ℕ) {es : List Element} {ss : List (List Element)} → Functions es → function name es ≡ some ss → Sentences ss
unfolding function
function-sentences name f_none h = never (cc)
function-sentences name {ss} (f_more {e} {es} r t) h =
    elim (see (same e (13 ∷ name))) [
      | is_true z ↦
          let k : some (pieces 12 (before 14 es)) ≡ some ss = rw (z, function) at h in
          let q : pieces 12 (before 14 es) ≡ ss = cc in
          rw q at (r (ap kind (same_eq e (13 ∷ name) z)))
      | is_false z ↦ function-sentences name t (rw (z, function) at h)
    ]

low_plain : (e : Element) → field_element e ≡ true → role e ≡ plain
unfolding field_element span role
low_plain e h =
    let l : kind e ≤ 7 = leb-true _ _ (and_right (leb 1 (kind e)) _ (and_left _ _ h)) in
    rw (ne_eqb (kind e) 8 (omega arith), ne_eqb (kind e) 9 (omega arith), ne_eqb (kind e) 10 (omega arith))

-- two assignments that agree on a left side give one right side
pub same_right : (a b : Assignment) {side r : List Element} → ((e : Element) → role e ≡ plain → a e ≡ e ∷ []) → ((e : Element) → role e ≡ plain → b e ≡ e ∷ [])
    → ((e : Element) → Memᴰ e side → a e ≡ b e) → RightSide side r → put a r ≡ put b r
unfolding put
same_right a b f g h r_none = refl
same_right a b f g h (r_fixed {e} k t) = rw (f e (low_plain e k), g e (low_plain e k), same_right a b f g h t)
same_right a b f g h (r_variable {e} m t) = rw (h e m, same_right a b f g h t)

-- no other right side comes of them
pub tried_only : (x : List Element) {ss : List (List Element)} {o : Option (List Element)} → Sentences ss → Tried x ss o → apply ss x ≡ o
unfolding apply
tried_only x t_none none_left = refl
tried_only x (t_more {s} i t) (not_this f k) =
    elim (see_o (seek (before 11 s) x free)) [
      | is_none h ↦ rw (h, apply) (tried_only x t k)
      | is_some env h ↦ absurd (f (given env) (found (before 11 s) x env h).fits)
    ]
tried_only x (t_more {s} i t) (this_one a f p e) =
    elim (see_o (seek (before 11 s) x free)) [
      | is_none h ↦ absurd (lost (before 11 s) x h a f.fits)
      | is_some env h ↦
          rw (h, apply) (ap some (same_right (given env) a (given_itself (before 11 s) x env h) p
          (only_one (given env) a (before 11 s) x (found (before 11 s) x env h) f) i.known) ∙ sym e)
    ]

-- THE STEP BY CASES

module _ (fs : List Element) (room : ℕ) (es : List Element) where
  put_in : {a : List Element} {c : Element} {x b : List Element} {ss : List (List Element)} → Leads es a c x b → function (tail c) fs ≡ some ss
      → (o : Option (List Element)) → Tried x ss o → StepIs fs room es (replace room a b o)
  unfolding replace fit_in
  put_in l f none t = no_match l f t refl refl
  put_in {a} {b = b} l f (some r) t =
      elim (see (leb (size (a ++ r ++ b)) room)) [
        | is_true z ↦ rw (z, fit_in) (goes l f t (leb-true _ _ z) (append_assoc a r b))
        | is_false z ↦ rw (z, fit_in) (no_room l f t (rw append_assoc at (leb-false (size (a ++ r ++ b)) room z)) refl refl)
      ]

  called : {a : List Element} {c : Element} {x b : List Element} → Leads es a c x b → (o : Option (List (List Element))) → function (tail c) fs ≡ o
      → StepIs fs room es (call room a x b o)
  unfolding call
  called l none f = no_function l f refl refl
  called {x = x} l (some ss) f = put_in l f (apply ss x) (tried x ss)

  led : (l : Lead) → leading es ≡ l → StepIs fs room es (step_at fs room l)
  unfolding step_at
  led nothing h = no_call ((leading_none es).0 h)
  led (lead a c x b) h = called ((leading_leads es a c x b).0 h) (function (tail c) fs) refl

  pub step_is : StepIs fs room es (step fs room es)
  unfolding step
  step_is = led (leading es) refl

pub idle_nothing : {fs : List Element} {room : ℕ} {es : List Element} → StepIs fs room es idle → leading es ≡ nothing
idle_nothing {es} (no_call n) = (leading_none es).1 n

-- a step that cannot be carried out has code 2, 3 or 4
pub stuck_code : {fs : List Element} {room : ℕ} {es : List Element} {c place : ℕ} → StepIs fs room es (stuck c place) → (2 ≤ c) × (c ≤ 4)
stuck_code (no_function l f k q) = omega arith
stuck_code (no_match l f t k q) = omega arith
stuck_code (no_room l f t s k q) = omega arith

-- no other step of a good program is by these cases
pub only_step : {fs : List Element} {room : ℕ} {es : List Element} {s : Step} → Functions fs → StepIs fs room es s → step fs room es ≡ s
unfolding step step_at call replace fit_in
only_step {es} ok (no_call n) = rw ((leading_none es).1 n)
only_step {es} ok (no_function l f k q) = rw ((leading_leads es _ _ _ _).1 l, f, k, q)
only_step {es} ok (no_match {c} {x} l f t k q) = rw ((leading_leads es _ _ _ _).1 l, f, tried_only x (function-sentences (tail c) ok f) t, k, q)
only_step {room} {es} ok (no_room {a} {c} {x} {b} {r} l f t h k q) =
    rw ((leading_leads es _ _ _ _).1 l, f, tried_only x (function-sentences (tail c) ok f) t, lt-leb (size (a ++ r ++ b)) room (rw (append_assoc a r b) h), fit_in, k, q)
only_step {room} {es} ok (goes {a} {c} {x} {b} {r} l f t h e) =
    rw ((leading_leads es _ _ _ _).1 l, f, tried_only x (function-sentences (tail c) ok f) t, le-leb (size (a ++ r ++ b)) room (rw (append_assoc a r b, ← e) h), fit_in, e)
    (ap onward (append_assoc a r b))

-- WHAT IS PUT IN IS BALANCED, AND MADE OF ELEMENTS OF A FIELD

put-part : (a : Assignment) (side : List Element) (e : Element) → Memᴰ e side → Solid (put a side) → Solid (a e)
unfolding put
put-part a [] e m s = absurd (Memᴰ.not-nil m)
put-part a (p ∷ ps) e m s =
    let (h, t) = solid_split (a p) s in
    elim (Memᴰ.cases_cons m) [ inl q ↦ rw q h | inr m' ↦ put-part a ps e m' t ]

module _ (env : Env) (sure : Sure env) (side : List Element) (put-solid : Solid (put (given env) side)) where
  right_solid : {r : List Element} → RightSide side r → Solid (put (given env) r)
  unfolding put Sure
  right_solid r_none = s_none
  right_solid (r_fixed {e} h t) =
      let k : given env e ≡ e ∷ [] = given_plain env e (λ u q. rw (low_plain e h) at (sure e u q)) in
      solid_append {xs = given env e} (rw k (s_more h s_none)) (right_solid t)
  right_solid (r_variable {e} m t) = solid_append (put-part (given env) side e m put-solid) (right_solid t)

pub record Fine (r : List Element) : Type 0 where
  pub passes : (b : List Element) (o : List ℕ) → brackets o (r ++ b) ≡ brackets o b
  pub solid : Solid r

apply_fine : {ss : List (List Element)} (x : List Element) {r : List Element} → Sentences ss → Solid x → apply ss x ≡ some r → Fine r
unfolding apply Sure free
apply_fine x t_none g h = never (cc)
apply_fine x {r} (t_more {s} i t) g h =
    elim (see_o (seek (before 11 s) x free)) [
      | is_none z ↦ apply_fine x t g (rw (z, apply) at h)
      | is_some env z ↦
          let k : some (put (given env) (behind 11 s)) ≡ some r = rw (z, apply) at h in
          let e : put (given env) (behind 11 s) ≡ r = cc in
          let f = seek_sound (before 11 s) x free env (λ w u q. never (cc)) z in
          rw e at (fine s env f i)
    ]
  where
    fine : (s : List Element) (env : Env) → Result (before 11 s) x free env → Sentence s → Fine (put (given env) (behind 11 s))
    fine s env f i = record {
      passes = λ b o. put_keeps env f.sure (behind 11 s) b o ∙ balanced_middle (behind 11 s) b o i.balanced;
      solid = right_solid env f.sure (before 11 s) (rw (fit_put f.fit) g) i.known;
    }

-- GOOD STAYS GOOD

pub record Good (es : List Element) : Type 0 where
  pub solid : Solid es
  pub balanced : brackets [] es ≡ some []

replaced : (es a : List Element) (c : Element) (x b r : List Element) → Innermost es a c x b → Good es → (Solid x → Fine r) → Good (a ++ (r ++ b))
unfolding then fours
replaced es a c x b r p g f =
    let (sa, s₁) = solid_split a (rw p.split at g.solid) in
    let (sc, s₂) = solid_split (c ∷ []) s₁ in
    let (sx, s₃) = solid_split x s₂ in
    let (sl, sb) = solid_split (p.last ∷ []) s₃ in
    let i = f sx in
    record {
      solid = solid_append sa (solid_append i.solid sb);
      balanced =
          elim (see_o (brackets [] a)) [
            | is_none z ↦ never (cc (p.split, g.balanced, brackets_append [] a (c ∷ (x ++ (p.last ∷ b)))))
            | is_some o z ↦
                let k : brackets o (c ∷ (x ++ (p.last ∷ b))) ≡ some [] = (rw (brackets_append, z) at (rw p.split at g.balanced)) in
                let j = inner x p.last b 0 o [] p.no_6 p.no_7 p.last_7 (sym (brackets_6 o c _ p.first_6) ∙ k) in
                brackets_append [] a (r ++ b) ∙ rw z (i.passes b o ∙ j)
          ];
    }

step_is_good : {fs : List Element} {room : ℕ} {es es' : List Element} → Functions fs → Good es → StepIs fs room es (onward es') → Good es'
step_is_good {es} ok g (goes {a} {c} {x} {b} {r} l f t s e) =
    let ss = function-sentences (tail c) ok f in
    rw e (replaced es a c x b r l.term g (λ sx. apply_fine x ss sx (tried_only x ss t)))

pub step_good : (fs : List Element) (room : ℕ) (es es' : List Element) → Functions fs → Good es → step fs room es ≡ onward es' → Good es'
step_good fs room es es' ok g s = step_is_good ok g (rw s at (step_is fs room es))

pub step_room : {fs : List Element} {room : ℕ} {es es' : List Element} → StepIs fs room es (onward es') → size es' ≤ room
step_room (goes l f q s e) = s

pub field_is_good : (f : List ℕ) → bad_field f ≡ none → Good (elements f)
unfolding bad_field
field_is_good f h = record { solid = good_solid (elements f) [] 0 [] 0 h; balanced = good_balanced (elements f) [] 0 [] 0 h }

-- cut again, it is the same elements
pub good_cut : (es : List Element) → Good es → elements (join es) ≡ es
unfolding cut
good_cut es g = ap elements (sym (append-nil (join es))) ∙ cut-join (solid_whole g.solid) [] ∙ append-nil es

-- and is accepted again
pub good_accepted : (es : List Element) → Good es → bad_field (join es) ≡ none
unfolding bad_field
good_accepted es g = rw (good_cut es g) (field_good g.solid [] 0 [] 0 g.balanced)
