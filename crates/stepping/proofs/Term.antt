-- The leading term: where it stands, and what a step makes of it.
use mathlib.Core.Path.{◌≡◌, refl, sym, ◌∙◌, ap, ap₂, subst}
use mathlib.Core.Bool.{true, false}
use mathlib.Core.Option.{Option, none, some}
use mathlib.Core.List.{List, [], ◌∷◌, ◌++◌, append_assoc, append-nil, tail}
use Prim.Native.Nat.{ℕ, ◌+◌, ◌-◌, ◌≤◌, ◌<◌}
use native.Mathlib.Omega.{arith}
use lib.ListN.{length, get_or, take, drop, length-append, length-drop}
use lib.Seq.{take-take, take_at, drop_at, drop-drop, get_or-take, get_or-append-add, length-take-le, take-append-le}
use lib.Dec.{leb}
use borrow.Author.Tests.{le-leb, lt-leb}
use Rattle.meaning.specs.Elements.{Element, body, cut, elements, join, size}
use Rattle.meaning.specs.Machine.{Step, stuck, onward, fit_in, replace, call, step_at, step, apply, function}
use Rattle.meaning.proofs.Truth.{never}
use Rattle.meaning.proofs.Cutting.{Whole, whole_append, join-append, size-append}
use Rattle.meaning.proofs.Leading.{leading_parts}
use Rattle.meaning.proofs.Programs.{Solid, solid_split}
use Rattle.elements.specs.Reading.{Balanced}
use Rattle.scanning.specs.State.{field_at, Good}
use Rattle.scanning.proofs.Marks.{size-nil, size-cons, whole_left, whole_right, join_whole}
use Rattle.scanning.proofs.Gap.{front_bytes, back_bytes, back_long}
use Rattle.choosing.specs.Choose.{rest_of}
use Rattle.choosing.proofs.Rest.{whole_one}
use Rattle.stepping.specs.Stepping.{argument_of, Term}
use Rattle.stepping.proofs.Argument.{argument_balanced}

-- PLACES
module _ {f : List ℕ} {from hi at : ℕ} (g : Good f (from + 3) hi) (t : Term f from hi at) where
  parts_x : field_at f (from + 3) hi ≡ (t.a ++ (t.c ∷ [])) ++ (t.x ++ (t.g ∷ t.b))
  parts_x = t.parts ∙ sym (append_assoc t.a (t.c ∷ []) (t.x ++ (t.g ∷ t.b)))

  long_c : length t.c ≡ 3
  long_c = whole_one t.c _ (t.c ∷ (t.x ++ (t.g ∷ t.b))) refl (whole_right t.a _ _ t.parts g.whole) ∙ rw t.kc (unfold body in refl)

  low : size (t.a ++ (t.c ∷ [])) ≡ from + 3
  low = omega (arith, size-append t.a (t.c ∷ []), size-cons t.c [], size-nil, long_c, t.from_is)

  back_whole : Whole (t.x ++ (t.g ∷ t.b))
  back_whole = whole_right (t.a ++ (t.c ∷ [])) _ _ parts_x g.whole

  whole_g : Whole (t.g ∷ t.b)
  whole_g = whole_right t.x (t.g ∷ t.b) _ refl back_whole

  long_g : length t.g ≡ 1
  long_g = whole_one t.g t.b (t.g ∷ t.b) refl whole_g ∙ rw t.kg (unfold body in refl)

  pub whole_b : Whole t.b
  whole_b = whole_right (t.g ∷ []) t.b (t.g ∷ t.b) refl whole_g

  pub whole_a : Whole t.a
  whole_a = whole_left t.a _ _ t.parts g.whole

  back : join (t.x ++ (t.g ∷ t.b)) ≡ drop hi f
  back = back_bytes f (from + 3) hi (t.a ++ (t.c ∷ [])) (t.x ++ (t.g ∷ t.b)) g.gap g.fits parts_x low

  total : at + 1 + size t.b ≡ length f
  total =
      let l = back_long f (from + 3) hi (t.a ++ (t.c ∷ [])) (t.x ++ (t.g ∷ t.b)) g.gap g.fits parts_x low in
      omega (arith, size-append t.x (t.g ∷ t.b), size-cons t.g t.b, long_g, t.at_is)

  pub places : (from + 3 ≤ hi) × (hi ≤ at) × (at < length f)
  places = let z = total in let y = t.at_is in (g.gap, omega arith, omega arith)

  -- the argument
  back_x : drop hi f ≡ join t.x ++ join (t.g ∷ t.b)
  back_x = sym back ∙ join-append t.x (t.g ∷ t.b)

  arg_bytes : argument_of f hi at ≡ join t.x
  unfolding size
  arg_bytes = ap (take (at - hi)) back_x ∙ take_at (join t.x) (join (t.g ∷ t.b)) (at - hi) (let y = t.at_is in omega arith)

  pub arg_is : elements (argument_of f hi at) ≡ t.x
  arg_is = ap (cut 0) arg_bytes ∙ join_whole t.x (whole_left t.x (t.g ∷ t.b) _ refl back_whole)

  pub arg_balanced : Balanced 0 (elements (argument_of f hi at))
  arg_balanced =
      let m = leading_parts (field_at f (from + 3) hi) t.led in
      let r = (solid_split t.a (subst Solid t.parts g.solid)).1 in
      let s = (solid_split (t.c ∷ []) {ys = t.x ++ (t.g ∷ t.b)} r).1 in
      subst (Balanced 0) (sym arg_is)
      (argument_balanced t.a t.c t.g t.b t.kc t.kg (solid_split t.x s).0 m.no_6 m.no_7 (rw t.parts at g.balanced))

  -- the name
  front : take (from + 3) f ≡ join t.a ++ t.c
  unfolding join
  front =
      let p : join (t.a ++ (t.c ∷ [])) ≡ take (from + 3) f = front_bytes f (from + 3) hi (t.a ++ (t.c ∷ [])) (t.x ++ (t.g ∷ t.b)) g.gap g.fits parts_x low in
      sym p ∙ join-append t.a (t.c ∷ []) ∙ ap {B = List ℕ} (λ l. join t.a ++ l) (append-nil t.c)

  pub before_is : take from f ≡ join t.a
  unfolding size
  before_is = sym (take-take from (from + 3) f (omega arith)) ∙ ap (take from) front ∙ take_at (join t.a) t.c from (sym t.from_is)

  name_long : (c : Element) → length c ≡ 3 → tail c ≡ get_or c 1 0 ∷ get_or c 2 0 ∷ []
  name_long [] h = never (omega arith)
  name_long (x ∷ []) h = never (omega arith)
  name_long (x ∷ y ∷ []) h = never (omega arith)
  name_long (x ∷ y ∷ z ∷ []) h = refl
  name_long (x ∷ y ∷ z ∷ w ∷ l) h = never (omega arith)

  byte_c : (i : ℕ) → i < 3 → get_or f (from + i) 0 ≡ get_or t.c i 0
  unfolding size
  byte_c i h =
      let q : length (join t.a) + i ≡ from + i = omega (arith, t.from_is) in
      sym (get_or-take (from + 3) f (from + i) 0 (omega arith)) ∙ ap (λ (l : List ℕ). get_or l (from + i) 0) front
      ∙ ap (λ (k : ℕ). get_or (join t.a ++ t.c) k 0) (sym q) ∙ get_or-append-add (join t.a) t.c i 0

  pub name_is : tail t.c ≡ get_or f (from + 1) 0 ∷ get_or f (from + 2) 0 ∷ []
  name_is = name_long t.c long_c ∙ ap₂ {C = List ℕ} (λ (u v : ℕ). u ∷ v ∷ []) (sym (byte_c 1 (omega arith))) (sym (byte_c 2 (omega arith)))

  -- what stands behind it
  pub after_is : drop (at + 1) f ≡ join t.b
  unfolding size join
  after_is =
      let q : at + 1 ≡ hi + (at + 1 - hi) = (let y = t.at_is in omega arith) in
      let l : length (join t.x ++ t.g) ≡ at + 1 - hi = (let y = t.at_is in omega (arith, length-append (join t.x) t.g, long_g)) in
      ap (λ (k : ℕ). drop k f) q ∙ sym (drop-drop (at + 1 - hi) hi f)
      ∙ ap (drop (at + 1 - hi)) (back_x ∙ sym (append_assoc (join t.x) t.g (join t.b)))
      ∙ drop_at (join t.x ++ t.g) (join t.b) (at + 1 - hi) l

  -- WHAT THE STEP IS
  module _ (p : List ℕ) (room : ℕ) where
    step_here : (o : Option (List (List Element))) → function (get_or f (from + 1) 0 ∷ get_or f (from + 2) 0 ∷ []) (rest_of p 0) ≡ o
        → step (rest_of p 0) room (field_at f (from + 3) hi) ≡ call room t.a t.x t.b o
    unfolding step step_at
    step_here o h =
        ap (step_at (rest_of p 0) room) t.led
        ∙ ap {B = Step} (λ (n : List ℕ). call room t.a t.x t.b (function n (rest_of p 0))) name_is
        ∙ ap {B = Step} (call room t.a t.x t.b) h

    pub no_function : function (get_or f (from + 1) 0 ∷ get_or f (from + 2) 0 ∷ []) (rest_of p 0) ≡ none → step (rest_of p 0) room (field_at f (from + 3) hi) ≡ stuck 3 from
    unfolding call
    no_function h = step_here none h ∙ ap (stuck 3) (sym t.from_is)

    module _ (ss : List (List Element)) (here : function (get_or f (from + 1) 0 ∷ get_or f (from + 2) 0 ∷ []) (rest_of p 0) ≡ some ss) where
      pub no_match : apply ss t.x ≡ none → step (rest_of p 0) room (field_at f (from + 3) hi) ≡ stuck 2 from
      unfolding call replace
      no_match h = step_here (some ss) here ∙ ap (replace room t.a t.b) h ∙ ap (stuck 2) (sym t.from_is)

      step_fits : (r : List Element) → apply ss t.x ≡ some r → step (rest_of p 0) room (field_at f (from + 3) hi) ≡ fit_in room from (t.a ++ r ++ t.b)
      unfolding call replace
      step_fits r h = step_here (some ss) here ∙ ap (replace room t.a t.b) h ∙ ap (λ (k : ℕ). fit_in room k (t.a ++ r ++ t.b)) (sym t.from_is)

      pub new_size : (r : List Element) → size (t.a ++ r ++ t.b) + (at + 1) ≡ from + size r + length f
      new_size r = let z = total in omega (arith, size-append (t.a ++ r) t.b, size-append t.a r, t.from_is)

      pub no_room : (r : List Element) → room ≡ length f → apply ss t.x ≡ some r → at + 1 - from < size r → step (rest_of p 0) room (field_at f (from + 3) hi) ≡ stuck 4 from
      unfolding fit_in
      no_room r er h l =
          let ns = new_size r in
          let pl = places in
          let longest : leb (size (t.a ++ r ++ t.b)) room ≡ false = lt-leb (size (t.a ++ r ++ t.b)) room (omega (arith, pl.0, pl.1)) in
          step_fits r h ∙ rw (longest, fit_in)

      pub new_field : (r : List Element) → room ≡ length f → apply ss t.x ≡ some r → size r ≤ at + 1 - from → step (rest_of p 0) room (field_at f (from + 3) hi) ≡ onward (t.a ++ r ++ t.b)
      unfolding fit_in
      new_field r er h l =
          let ns = new_size r in
          let pl = places in
          let fits : leb (size (t.a ++ r ++ t.b)) room ≡ true = le-leb (size (t.a ++ r ++ t.b)) room (omega (arith, pl.0, pl.1)) in
          step_fits r h ∙ rw (fits, fit_in)

  pub new_whole : {r : List Element} → Whole r → Whole (t.a ++ r ++ t.b)
  new_whole w = whole_append (whole_append whole_a w) whole_b

  -- the new field, spread over the buffer
  module _ (r : List Element) (w : List ℕ) (n : ℕ) (ew : w ≡ join r) (en : n ≡ size r) (fit : n ≤ at + 1 - from) (f' : List ℕ) (e : f' ≡ take (at + 1 - n) f ++ (w ++ drop (at + 1) f)) where
    pub new_long : length f' ≡ length f
    unfolding size
    new_long =
        let pl = places in
        let lt = length-take-le (at + 1 - n) f (omega (arith, pl.2)) in
        omega (arith, ap length e, length-append (take (at + 1 - n) f) (w ++ drop (at + 1) f), length-append w (drop (at + 1) f), length-drop (at + 1) f, ap length ew, pl.2)

    pub new_is : Whole r → field_at f' from (at + 1 - n) ≡ t.a ++ r ++ t.b
    unfolding field_at
    new_is wr =
        let pl = places in
        let lt : length (take (at + 1 - n) f) ≡ at + 1 - n = length-take-le (at + 1 - n) f (omega (arith, pl.2)) in
        let a1 : take from f' ≡ join t.a =
        ap (take from) e ∙ take-append-le from (take (at + 1 - n) f) _ (omega (arith, lt, pl.0, pl.1))
        ∙ take-take from (at + 1 - n) f (omega (arith, pl.0, pl.1)) ∙ before_is in
        let a2 : drop (at + 1 - n) f' ≡ join r ++ join t.b =
        ap (drop (at + 1 - n)) e ∙ drop_at (take (at + 1 - n) f) _ (at + 1 - n) lt ∙ ap₂ {C = List ℕ} (λ u v. u ++ v) ew after_is in
        ap (cut 0) (ap₂ {C = List ℕ} (λ u v. u ++ v) a1 a2
        ∙ sym (append_assoc (join t.a) (join r) (join t.b))
        ∙ ap (λ (l : List ℕ). l ++ join t.b) (sym (join-append t.a r))
        ∙ sym (join-append (t.a ++ r) t.b))
        ∙ join_whole (t.a ++ r ++ t.b) (new_whole wr)
