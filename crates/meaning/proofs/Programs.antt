-- What a good field and a good program are good for.
use mathlib.Core.Path.{◌≡◌, refl, sym, ◌∙◌, ap}
use mathlib.Core.Bool.{Bool, true, false, ◌&&◌, ◌||◌, not}
use mathlib.Core.Logic.{◌⊎◌, inl, inr}
use mathlib.Core.Option.{none, some}
use mathlib.Core.List.{List, [], ◌∷◌, ◌++◌, append_assoc, append-nil, Memᴰ}
use Prim.Native.Nat.{ℕ, suc, ◌+◌, ◌≤◌}
use native.Mathlib.Omega.{arith}
use lib.ListN.{length, get_or}
use lib.Dec.{eqb, leb}
use borrow.Author.Tests.{eqb-true, eqb-false, eq-eqb, ne_eqb, leb-true, le-leb, lt-leb}
use Rattle.meaning.specs.Elements.{Element, kind, is_kind, body, same, among, is_variable, elements}
use Rattle.meaning.specs.Goodness.{Part, field, outside, start, left, right, after, ended, at, span, stands, top, implies, ends_side, paired, under_limit, on_right, tests, first_failing, fault, part_after, opens_after, variables_after, state_after, may_end, first_bad, bad_program}
use Rattle.meaning.specs.Machine.{before, behind, holds, pieces, onto}
use Rattle.meaning.proofs.Truth.{never, is_true, is_false, see, and_left, and_right, or_left, or_right, or_false, same_eq, same_refl}
use Rattle.meaning.proofs.Cutting.{Whole, w_none, w_more}
use Rattle.meaning.proofs.Holding.{holds-append, before_none}
use Rattle.meaning.proofs.Balance.{brackets, brackets_yes, brackets_no, brackets_nil, shuts}

-- THE TESTS THAT AN ELEMENT PASSED

pub record Passed (p : Part) (o : List ℕ) (vs : List Element) (e : Element) : Type 0 where
  pub long : length e ≡ suc (body (kind e))
  pub place : stands p (kind e) ≡ true
  pub small : implies (is_variable e) (leb (get_or e 1 0) 15) ≡ true
  pub fit : paired (kind e) o ≡ true
  pub met : implies (is_variable e) (not (on_right p) || among e vs) ≡ true

failing_first : (r : ℕ) (b : Bool) (bs : List Bool) → first_failing (suc r) (b ∷ bs) ≡ 0 → (b ≡ true) × (first_failing (suc (suc r)) bs ≡ 0)
unfolding first_failing
failing_first r true bs h = (refl, h)
failing_first r false bs h = never (omega arith)

passed : (p : Part) (o : List ℕ) (n : ℕ) (vs : List Element) (e : Element) → fault (at p o n vs) e ≡ 0 → Passed p o vs e
unfolding fault tests
passed p o n vs e h =
    let (h1, r1) = failing_first 0 _ _ h in
    let (h2, r2) = failing_first 1 _ _ r1 in
    let (h3, r3) = failing_first 2 _ _ r2 in
    let (h4, r4) = failing_first 3 _ _ r3 in
    let (h5, r5) = failing_first 4 _ _ r4 in
    let (h6, r6) = failing_first 5 _ _ r5 in
    let (h7, r7) = failing_first 6 _ _ r6 in
    record { long = eqb-true _ _ h2; place = h3; small = h4; fit = h5; met = h7 }

-- the first element of what has no bad one, and the rest
record Took (p : Part) (o : List ℕ) (n : ℕ) (vs : List Element) (i : ℕ) (e : Element) (es : List Element) : Type 0 where
  pass : Passed p o vs e
  rest : first_bad (state_after (at p o n vs) e) (i + length e) es ≡ none

took : (p : Part) (o : List ℕ) (n : ℕ) (vs : List Element) (i : ℕ) (e : Element) (es : List Element)
    → first_bad (at p o n vs) i (e ∷ es) ≡ none → Took p o n vs i e es
unfolding first_bad
took p o n vs i e es h =
    elim (see (eqb (fault (at p o n vs) e) 0)) [
      | is_true g ↦ record { pass = passed p o n vs e (eqb-true _ 0 g); rest = rw g at h }
      | is_false g ↦ never (let k : some i ≡ none = rw g at h in cc)
    ]

passes_shuts : (p : Part) (o : List ℕ) (vs : List Element) (e : Element) → Passed p o vs e → shuts o (kind e) ≡ true
unfolding shuts paired
passes_shuts p o vs e t =
    let r = and_right (implies (eqb (kind e) 5) (eqb (top o) 4)) _ t.fit in
    rw (and_left (implies (eqb (kind e) 5) (eqb (top o) 4)) _ t.fit) (and_left (implies (eqb (kind e) 7) (eqb (top o) 6)) _ r)

-- nothing is open at the end of a side
shut_empty : (p : Part) (o : List ℕ) (vs : List Element) (e : Element) → Passed p o vs e → ends_side (kind e) ≡ true → o ≡ []
unfolding paired
shut_empty p [] vs e t h = refl
shut_empty p (b ∷ o) vs e t h =
    let f = and_right (implies (eqb (kind e) 7) (eqb b 6)) _ (and_right (implies (eqb (kind e) 5) (eqb b 4)) _ t.fit) in
    never (let k : false ≡ true = rw h at f in cc)

-- GOOD FIELDS: elements of a field, with balanced brackets

unfoldable pub field_element : Element → Bool
field_element e = span 1 7 (kind e) && eqb (length e) (suc (body (kind e)))

pub data Solid : List Element → Type 0 where
  s_none : Solid []
  s_more : {e : Element} {es : List Element} → field_element e ≡ true → Solid es → Solid (e ∷ es)

pub solid_append : {xs ys : List Element} → Solid xs → Solid ys → Solid (xs ++ ys)
solid_append s_none t = t
solid_append (s_more h s) t = s_more h (solid_append s t)

pub solid_split : (xs : List Element) {ys : List Element} → Solid (xs ++ ys) → Solid xs × Solid ys
solid_split [] s = (s_none, s)
solid_split (x ∷ xs) (s_more h s) = let (a, b) = solid_split xs s in (s_more h a, b)

pub good_solid : (es : List Element) (o : List ℕ) (n : ℕ) (vs : List Element) (i : ℕ) → first_bad (at field o n vs) i es ≡ none → Solid es
unfolding state_after part_after field_element stands
good_solid [] o n vs i h = s_none
good_solid (e ∷ es) o n vs i h =
    let t = took field o n vs i e es h in
    s_more {e = e} (rw t.pass.place (eq-eqb _ _ t.pass.long)) (good_solid es _ _ _ _ t.rest)

pub good_balanced : (es : List Element) (o : List ℕ) (n : ℕ) (vs : List Element) (i : ℕ) → first_bad (at field o n vs) i es ≡ none → brackets o es ≡ some []
unfolding state_after part_after
good_balanced [] [] n vs i h = brackets_nil []
good_balanced [] (b ∷ o) n vs i h = never (unfold first_bad may_end in cc)
good_balanced (e ∷ es) o n vs i h =
    let t = took field o n vs i e es h in
    brackets_yes o e es (passes_shuts field o vs e t.pass) ∙ good_balanced es _ _ _ _ t.rest

-- and such a field is good
no_fault : (o : List ℕ) (n : ℕ) (vs : List Element) (e : Element) → field_element e ≡ true → shuts o (kind e) ≡ true → fault (at field o n vs) e ≡ 0
unfolding fault tests first_failing field_element span stands is_variable ends_side paired under_limit on_right shuts
no_fault o n vs e h b =
    let low : leb 1 (kind e) ≡ true = and_left (leb 1 (kind e)) _ (and_left _ _ h) in
    let high : leb (kind e) 7 ≡ true = and_right (leb 1 (kind e)) _ (and_left _ _ h) in
    let l : kind e ≤ 7 = leb-true _ _ high in
    let f5 = and_left (implies (eqb (kind e) 5) (eqb (top o) 4)) _ b in
    let f7 = and_right (implies (eqb (kind e) 5) (eqb (top o) 4)) _ b in
    rw (
      low,
      high,
      and_right (leb 1 (kind e) && leb (kind e) 7) _ h,
      le-leb (kind e) 15 (omega arith),
      lt-leb 8 (kind e) (omega arith),
      f5,
      f7,
      ne_eqb (kind e) 11 (omega arith),
      ne_eqb (kind e) 12 (omega arith),
    )

pub field_good : {es : List Element} → Solid es → (o : List ℕ) (n : ℕ) (vs : List Element) (i : ℕ) → brackets o es ≡ some [] → first_bad (at field o n vs) i es ≡ none
unfolding first_bad may_end state_after part_after
field_good s_none o n vs i h = (let e : o ≡ [] = cc (brackets_nil o) in rw e)
field_good (s_more {e} {es} f s) o n vs i h =
    elim (see (shuts o (kind e))) [
      | is_true z ↦ rw (no_fault o n vs e f z) (field_good s _ _ _ _ (sym (brackets_yes o e es z) ∙ h))
      | is_false z ↦ never (cc (brackets_no o e es z))
    ]

whole_cons : (e : Element) {es : List Element} → length e ≡ suc (body (kind e)) → Whole es → Whole (e ∷ es)
whole_cons [] h w = never (omega arith)
whole_cons (k ∷ b) h w = w_more {k = k} {b = b} (omega arith) w

-- the elements of what has no bad one are whole
pub good_whole : (es : List Element) (p : Part) (o : List ℕ) (n : ℕ) (vs : List Element) (i : ℕ) → first_bad (at p o n vs) i es ≡ none → Whole es
unfolding state_after
good_whole [] p o n vs i h = w_none
good_whole (e ∷ es) p o n vs i h =
    let t = took p o n vs i e es h in
    whole_cons e t.pass.long (good_whole es _ _ _ _ _ t.rest)

pub solid_whole : {es : List Element} → Solid es → Whole es
unfolding field_element
solid_whole s_none = w_none
solid_whole (s_more {e} h s) = whole_cons e (eqb-true _ _ (and_right (span 1 7 (kind e)) _ h)) (solid_whole s)

pub before_here : (k : ℕ) (e : Element) (es : List Element) → eqb (kind e) k ≡ true → before k (e ∷ es) ≡ []
unfolding before
before_here k e es h = rw (h, before)

pub before_on : (k : ℕ) (e : Element) (es : List Element) → eqb (kind e) k ≡ false → before k (e ∷ es) ≡ e ∷ before k es
unfolding before
before_on k e es h = rw (h, before)

behind_here : (k : ℕ) (e : Element) (es : List Element) → eqb (kind e) k ≡ true → behind k (e ∷ es) ≡ es
unfolding behind
behind_here k e es h = rw (h, behind)

behind_on : (k : ℕ) (e : Element) (es : List Element) → eqb (kind e) k ≡ false → behind k (e ∷ es) ≡ behind k es
unfolding behind
behind_on k e es h = rw (h, behind)

pieces_end : (k : ℕ) (e : Element) (es : List Element) → eqb (kind e) k ≡ true → pieces k (e ∷ es) ≡ [] ∷ pieces k es
unfolding pieces
pieces_end k e es h = rw (h, pieces)

pieces_on : (k : ℕ) (e : Element) (es : List Element) → eqb (kind e) k ≡ false → pieces k (e ∷ es) ≡ onto e (pieces k es)
unfolding pieces
pieces_on k e es h = rw (h, pieces)

-- GOOD PROGRAMS: functions of sentences, each a left side, =, a right side, an end

-- a kind that cannot stand in a part is not the kind of an element there
other_kind : (p : Part) (o : List ℕ) (vs : List Element) (e : Element) (j : ℕ) → Passed p o vs e → stands p j ≡ false → eqb (kind e) j ≡ false
other_kind p o vs e j t h = ne_eqb (kind e) j (λ q. never (let k : stands p j ≡ true = rw q at t.place in cc))

-- the elements of a side in turn, o brackets being open and vs the variables of the left side so far; ws are those at its end
pub data Side (p : Part) : List ℕ → List Element → List Element → List Element → Type 0 where
  side_end : {vs : List Element} → Side p [] vs vs []
  side_more : {o : List ℕ} {vs ws : List Element} {e : Element} {es : List Element} → Passed p o vs e → ends_side (kind e) ≡ false
      → Side p (opens_after (kind e) o) (variables_after p e vs) ws es → Side p o vs ws (e ∷ es)

-- the left and the right side of a sentence
pub record Sided (l r : List Element) : Type 0 where
  pub vs : List Element
  pub left_side : Side left [] [] vs l
  pub right_side : Side right [] vs vs r

-- sentences, each with its = and its end, up to the end of the function
pub data Body : List Element → Type 0 where
  body_end : {e : Element} {es : List Element} → kind e ≡ 14 → Body (e ∷ es)
  body_more : {l r rest : List Element} (q s : Element) → Sided l r → kind q ≡ 11 → kind s ≡ 12 → Body rest → Body (l ++ (q ∷ (r ++ (s ∷ rest))))

-- behind each header there is a body
pub data Bodies : List Element → Type 0 where
  bodies_none : Bodies []
  bodies_more : {e : Element} {es : List Element} → (kind e ≡ 13 → Body es) → Bodies es → Bodies (e ∷ es)

-- what is left of a right side, and of the function
data InRight (o : List ℕ) (vs : List Element) : List Element → Type 0 where
  in_right : {r rest : List Element} (s : Element) → Side right o vs vs r → kind s ≡ 12 → Body rest → InRight o vs (r ++ (s ∷ rest))

-- what is left of a left side, and of the function
data InLeft (o : List ℕ) (vs : List Element) : List Element → Type 0 where
  in_left : {l rest ws : List Element} (q : Element) → Side left o vs ws l → kind q ≡ 11 → InRight [] ws rest → InLeft o vs (l ++ (q ∷ rest))

-- what is left in each part; functions and sentences begin with no bracket open
abbrev Left : Part → List ℕ → List Element → List Element → Type 0
Left field o vs es = Unit {0}
Left outside o vs es = o ≡ [] → Bodies es
Left start o vs es = InLeft o vs es × Bodies es
Left left o vs es = InLeft o vs es × Bodies es
Left right o vs es = InRight o vs es × Bodies es
Left after o vs es = o ≡ [] → vs ≡ [] → Body es × Bodies es
Left ended o vs es = Bodies es

-- an element that is no header
no_header : (e : Element) {es : List Element} → eqb (kind e) 13 ≡ false → Bodies es → Bodies (e ∷ es)
no_header e n b = bodies_more (λ k. absurd (eqb-false (kind e) 13 n k)) b

-- a whole sentence, and what is behind it
sentence : {es : List Element} → InLeft [] [] es → Body es
sentence (in_left {ws} q l kq (in_right s r ks b)) = body_more q s (record { vs = ws; left_side = l; right_side = r }) kq ks b

after_left : (k : ℕ) → stands after k ≡ true → eqb k 14 ≡ false → stands left k ≡ true
unfolding stands
after_left k h n = elim (see (span 1 5 k)) [ is_true z ↦ rw z | is_false z ↦ rw z (or_left _ (rw (z, n) at h)) ]

left_more : {o : List ℕ} {vs : List Element} {e : Element} {es : List Element} → Passed left o vs e → ends_side (kind e) ≡ false
    → InLeft (opens_after (kind e) o) (variables_after left e vs) es → InLeft o vs (e ∷ es)
left_more t n (in_left q l kq r) = in_left q (side_more t n l) kq r

right_more : {o : List ℕ} {vs : List Element} {e : Element} {es : List Element} → Passed right o vs e → ends_side (kind e) ≡ false
    → InRight (opens_after (kind e) o) vs es → InRight o vs (e ∷ es)
unfolding variables_after
right_more t n (in_right s r ks b) = in_right s (side_more t n r) ks b

-- an element that begins a left side is one of it
as_left : {p : Part} {o : List ℕ} {vs : List Element} {e : Element} → Passed p o vs e → stands left (kind e) ≡ true → Passed left o vs e
unfolding on_right
as_left {e} t h = record { long = t.long; place = h; small = t.small; fit = t.fit; met = elim (see (is_variable e)) [ is_true z ↦ rw z | is_false z ↦ rw z ] }

module _ (es : List Element) (ih : (p : Part) (o : List ℕ) (n : ℕ) (vs : List Element) (i : ℕ) → first_bad (at p o n vs) i es ≡ none → Left p o vs es)
    (e : Element) (o : List ℕ) (n : ℕ) (vs : List Element) (i : ℕ) where
  -- an element of a left side, or its =
  on_left : Passed left o vs e → first_bad (state_after (at left o n vs) e) (i + length e) es ≡ none → Left left o vs (e ∷ es)
  unfolding stands span ends_side state_after part_after opens_after variables_after
  on_left t h =
      let n13 = other_kind left o vs e 13 t refl in
      elim (see (eqb (kind e) 11)) [
        | is_true z ↦
            let k = eqb-true (kind e) 11 z in
            let q : o ≡ [] = shut_empty left o vs e t (rw z) in
            let (j, b) = ih right _ _ _ _ (rw z at h) in
            rw q (in_left e side_end k (rw (k, q) at j), no_header e n13 b)
        | is_false z ↦
            let (j, b) = ih left _ _ _ _ (rw z at h) in
            (left_more t (rw (z, other_kind left o vs e 12 t refl)) j, no_header e n13 b)
      ]

  program_step : (p : Part) → Took p o n vs i e es → Left p o vs (e ∷ es)
  unfolding stands span ends_side state_after part_after opens_after variables_after
  program_step field t = tt
  program_step outside t =
      elim (see (eqb (kind e) 13)) [
        | is_true h ↦
            let k = eqb-true (kind e) 13 h in
            let (j, b) = ih start _ _ _ _ (rw k at t.rest) in
            λ q. bodies_more (λ _. sentence (rw q at j)) b
        | is_false h ↦ λ _. no_header e h (ih ended _ _ _ _ (rw h at t.rest))
      ]
  program_step start t = on_left (as_left t.pass t.pass.place) t.rest
  program_step left t = on_left t.pass t.rest
  program_step right t =
      let n13 = other_kind right o vs e 13 t.pass refl in
      elim (see (eqb (kind e) 12)) [
        | is_true h ↦
            let k = eqb-true (kind e) 12 h in
            let q : o ≡ [] = shut_empty right o vs e t.pass (rw k) in
            let (b, c) = ih after o _ [] _ (rw k at t.rest) q refl in
            rw q (in_right e side_end k b, no_header e n13 c)
        | is_false h ↦
            let (j, c) = ih right _ _ _ _ (rw h at t.rest) in
            (right_more t.pass (rw (other_kind right o vs e 11 t.pass refl, h)) j, no_header e n13 c)
      ]
  program_step after t =
      elim (see (eqb (kind e) 14)) [
        | is_true h ↦
            let k = eqb-true (kind e) 14 h in
            let j : Left outside o [] es = ih outside _ _ _ _ (rw k at t.rest) in
            λ q _. (body_end k, no_header e (rw k) (j q))
        | is_false m ↦
            let (j, c) = on_left (as_left t.pass (after_left (kind e) t.pass.place m)) (rw m at t.rest) in
            λ q v. (sentence (rw (q, v) at j), c)
      ]
  program_step ended t = never (cc t.pass.place)

program_left : (es : List Element) (p : Part) (o : List ℕ) (n : ℕ) (vs : List Element) (i : ℕ) → first_bad (at p o n vs) i es ≡ none → Left p o vs es
unfolding first_bad may_end
program_left [] field o n vs i h = tt
program_left [] outside o n vs i h = never (cc)
program_left [] start o n vs i h = never (cc)
program_left [] left o n vs i h = never (cc)
program_left [] right o n vs i h = never (cc)
program_left [] after o n vs i h = never (cc)
program_left [] ended o n vs i h = bodies_none
program_left (e ∷ es) p o n vs i h = program_step es (program_left es) e o n vs i p (took p o n vs i e es h)

pub program_bodies : (p : List ℕ) → bad_program p ≡ none → Bodies (elements p)
unfolding bad_program
program_bodies p h = program_left (elements p) outside [] 0 [] 0 h refl

-- WHAT THE SIDES ARE

-- no element of a side has a kind that cannot stand there, or ends a side
pub side_holds : {p : Part} {o : List ℕ} {vs ws l : List Element} (k : ℕ) → Side p o vs ws l → (stands p k && not (ends_side k)) ≡ false → holds k l ≡ false
unfolding holds
side_holds k side_end h = refl
side_holds k (side_more {e} t n s) h =
    let m : eqb (kind e) k ≡ false = ne_eqb (kind e) k (λ q. never (let z : true ≡ false = rw (← q, t.place, n) at h in cc)) in
    rw m (side_holds k s h)

among-append : (e x : Element) (vs : List Element) → among e (vs ++ (x ∷ [])) ≡ true → (among e vs ≡ true) ⊎ (e ≡ x)
unfolding among
among-append e x [] h = elim (see (same e x)) [ is_true z ↦ inr (same_eq e x z) | is_false z ↦ never (let k : false ≡ true = rw z at h in cc) ]
among-append e x (v ∷ vs) h =
    elim (see (same e v)) [
      | is_true z ↦ inl (rw z)
      | is_false z ↦ elim (among-append e x vs (rw z at h)) [ inl a ↦ inl (rw z a) | inr q ↦ inr q ]
    ]

-- the variables at the end of a left side stand on it
met_more : (x v : Element) (vs l : List Element)
    → (among v (variables_after left x vs) ≡ true) ⊎ (among v l ≡ true) → (among v vs ≡ true) ⊎ (among v (x ∷ l) ≡ true)
unfolding among variables_after
met_more x v vs l (inr m) = inr (rw m (or_right (same v x)))
met_more x v vs l (inl a) =
    elim (see (is_variable x && not (among x vs))) [
      | is_true z ↦ elim (among-append v x vs (rw z at a)) [ inl q ↦ inl q | inr q ↦ inr (rw (q, same_refl x)) ]
      | is_false z ↦ inl (rw z at a)
    ]

met : {o : List ℕ} {vs ws l : List Element} → Side left o vs ws l → (v : Element) → among v ws ≡ true → (among v vs ≡ true) ⊎ (among v l ≡ true)
met side_end v a = inl a
met (side_more {vs} {e} {es} t n s) v a = met_more e v vs es (met s v a)

-- each variable of the right side is on the left
asked : {o : List ℕ} {vs ws r : List Element} → Side right o vs ws r → (v : Element) → among v r ≡ true → is_variable v ≡ true → among v vs ≡ true
unfolding among on_right variables_after
asked side_end v m y = never (cc)
asked (side_more {e} t n s) v m y =
    elim (see (same v e)) [
      | is_true z ↦ let q : v ≡ e = same_eq v e z in rw q (rw (rw q at y) at t.met)
      | is_false z ↦ asked s v (rw z at m) y
    ]

met_left : {l r : List Element} (t : Sided l r) (v : Element) → among v t.vs ≡ true → among v l ≡ true
unfolding among
met_left t v a = elim (met t.left_side v a) [ inl n ↦ never (cc) | inr n ↦ n ]

pub sided-known : {l r : List Element} → Sided l r → (v : Element) → among v r ≡ true → is_variable v ≡ true → among v l ≡ true
sided-known t v m y = met_left t v (asked t.right_side v m y)

-- THE SENTENCES OF A BODY
pub before_at : (k : ℕ) (xs : List Element) (s : Element) (ys : List Element) → holds k xs ≡ false → is_kind k s ≡ true → before k (xs ++ (s ∷ ys)) ≡ xs
before_at k xs s ys h e = before_none k xs (s ∷ ys) h ∙ rw (before_here k s ys e) (append-nil xs)

pub behind_at : (k : ℕ) (xs : List Element) (s : Element) (ys : List Element) → holds k xs ≡ false → is_kind k s ≡ true → behind k (xs ++ (s ∷ ys)) ≡ ys
unfolding holds
behind_at k [] s ys h e = behind_here k s ys e
behind_at k (x ∷ xs) s ys h e = let m = or_false (is_kind k x) (holds k xs) h in behind_on k x (xs ++ (s ∷ ys)) m.0 ∙ behind_at k xs s ys m.1 e

pieces_first : (k : ℕ) (xs : List Element) (s : Element) (ys : List Element) → holds k xs ≡ false → is_kind k s ≡ true → pieces k (xs ++ (s ∷ ys)) ≡ xs ∷ pieces k ys
unfolding holds onto
pieces_first k [] s ys h e = pieces_end k s ys e
pieces_first k (x ∷ xs) s ys h e =
    let m = or_false (is_kind k x) (holds k xs) h in
    pieces_on k x (xs ++ (s ∷ ys)) m.0 ∙ rw (pieces_first k xs s ys m.1 e)

module _ {l r : List Element} (t : Sided l r) (q : Element) (kq : kind q ≡ 11) where
  pub body_split : (s : Element) (rest : List Element) → kind s ≡ 12 → pieces 12 (before 14 (l ++ (q ∷ (r ++ (s ∷ rest))))) ≡ (l ++ (q ∷ r)) ∷ pieces 12 (before 14 rest)
  unfolding holds stands span ends_side
  body_split s rest ks =
      let n14 : holds 14 ((l ++ (q ∷ r)) ++ (s ∷ [])) ≡ false = simp (holds-append, side_holds 14 t.left_side refl, side_holds 14 t.right_side refl, kq, ks) in
      let n12 : holds 12 (l ++ (q ∷ r)) ≡ false = simp (holds-append, side_holds 12 t.left_side refl, side_holds 12 t.right_side refl, kq) in
      ap (λ (z : List Element). pieces 12 (before 14 z)) (sym (append_assoc (l ++ (q ∷ r)) (s ∷ []) rest ∙ append_assoc l (q ∷ r) (s ∷ rest)))
      ∙ ap (pieces 12) (before_none 14 ((l ++ (q ∷ r)) ++ (s ∷ [])) rest n14)
      ∙ ap (pieces 12) (append_assoc (l ++ (q ∷ r)) (s ∷ []) (before 14 rest))
      ∙ pieces_first 12 (l ++ (q ∷ r)) s (before 14 rest) n12 (rw ks)

  pub left_of : before 11 (l ++ (q ∷ r)) ≡ l
  unfolding stands span ends_side
  left_of = before_at 11 l q r (side_holds 11 t.left_side refl) (rw kq)

  pub right_of : behind 11 (l ++ (q ∷ r)) ≡ r
  unfolding stands span ends_side
  right_of = behind_at 11 l q r (side_holds 11 t.left_side refl) (rw kq)

-- GOOD PROGRAMS AS THE MACHINE TAKES THEM: each right side is balanced, and holds elements of a field and variables of the left side

-- each element of a right side, behind the left side l
pub data RightSide (l : List Element) : List Element → Type 0 where
  r_none : RightSide l []
  r_fixed : {e : Element} {es : List Element} → field_element e ≡ true → RightSide l es → RightSide l (e ∷ es)
  r_variable : {e : Element} {es : List Element} → Memᴰ e l → RightSide l es → RightSide l (e ∷ es)

pub record Sentence (s : List Element) : Type 0 where
  pub balanced : brackets [] (behind 11 s) ≡ some []
  pub known : RightSide (before 11 s) (behind 11 s)

pub data Sentences : List (List Element) → Type 0 where
  t_none : Sentences []
  t_more : {s : List Element} {ss : List (List Element)} → Sentence s → Sentences ss → Sentences (s ∷ ss)

-- behind each header there are such sentences
pub data Functions : List Element → Type 0 where
  f_none : Functions []
  f_more : {e : Element} {es : List Element} → (kind e ≡ 13 → Sentences (pieces 12 (before 14 es))) → Functions es → Functions (e ∷ es)

side_balanced : {p : Part} {o : List ℕ} {vs ws r : List Element} → Side p o vs ws r → brackets o r ≡ some []
side_balanced side_end = brackets_nil []
side_balanced {p} {o} {vs} (side_more {e} {es} t n s) = brackets_yes o e es (passes_shuts p o vs e t) ∙ side_balanced s

among_mem : (v : Element) (l : List Element) → among v l ≡ true → Memᴰ v l
unfolding among
among_mem v [] h = never (cc)
among_mem v (e ∷ l) h = elim (see (same v e)) [ is_true z ↦ Memᴰ.head (same_eq v e z) | is_false z ↦ Memᴰ.tail (among_mem v l (rw z at h)) ]

-- an element of a right side that is no variable
fixed : {o : List ℕ} {vs : List Element} {e : Element} → Passed right o vs e → ends_side (kind e) ≡ false → is_variable e ≡ false → field_element e ≡ true
unfolding stands span ends_side is_variable field_element
fixed {e} t n v =
    let k : (leb 1 (kind e) && leb (kind e) 10) ≡ true = or_left _ (rw (or_false (eqb (kind e) 11) (eqb (kind e) 12) n).1 at t.place) in
    let l : 8 ≤ kind e → ⊥ = λ q. never (let z : true ≡ false = rw (le-leb 8 (kind e) q, and_right (leb 1 (kind e)) _ k) at v in cc) in
    rw (and_left (leb 1 (kind e)) _ k, le-leb (kind e) 7 (omega (arith, l)), eq-eqb _ _ t.long)

right_known : {o : List ℕ} {vs ws l r : List Element} → Side right o vs ws r → ((v : Element) → among v vs ≡ true → Memᴰ v l) → RightSide l r
unfolding on_right variables_after
right_known side_end f = r_none
right_known (side_more {e} t n s) f =
    elim (see (is_variable e)) [
      | is_true v ↦ r_variable {e = e} (f e (rw v at t.met)) (right_known s f)
      | is_false v ↦ r_fixed {e = e} (fixed t n v) (right_known s f)
    ]

body-sentences : {es : List Element} → Body es → Sentences (pieces 12 (before 14 es))
unfolding pieces
body-sentences (body_end {e} {es} k) = rw (before_here 14 e es (rw k)) t_none
body-sentences (body_more {l} {r} {rest} q s t kq ks b) =
    rw (body_split t q kq s rest ks)
    (t_more {s = l ++ (q ∷ r)}
    (record {
      balanced = rw (right_of t q kq) (side_balanced t.right_side);
      known = rw (left_of t q kq, right_of t q kq) (right_known t.right_side (λ v a. among_mem v l (met_left t v a)));
    })
    (body-sentences b))

bodies_functions : {es : List Element} → Bodies es → Functions es
bodies_functions bodies_none = f_none
bodies_functions (bodies_more f b) = f_more (λ k. body-sentences (f k)) (bodies_functions b)

pub program_functions : (p : List ℕ) → bad_program p ≡ none → Functions (elements p)
program_functions p h = bodies_functions (program_bodies p h)
