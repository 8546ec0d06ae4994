-- The leading term: how it is found, that it is the leftmost < ... > that holds no other <, and where there is one.
use mathlib.Core.Path.{◌≡◌, refl, sym, ◌∙◌, ap, subst}
use mathlib.Core.Bool.{Bool, true, false, ◌&&◌, ◌||◌, not}
use mathlib.Core.Logic.{◌↔◌}
use mathlib.Core.Option.{some}
use mathlib.Core.List.{List, [], ◌∷◌, ◌++◌, append-nil}
use Prim.Native.Nat.{ℕ, ◌≤◌, ◌<◌}
use native.Mathlib.Omega.{arith}
use lib.ListN.{length, length-append}
use lib.Dec.{eqb}
use borrow.Author.Tests.{eqb-true, eqb-false}
use Rattle.meaning.specs.Elements.{Element, kind, is_kind}
use Rattle.meaning.specs.Goodness.{opens_after}
use Rattle.meaning.specs.Machine.{before, behind, holds, Lead, nothing, lead, shift, innermost, leading}
use Rattle.meaning.proofs.Words.{Innermost, Leads, NoneLeads}
use Rattle.meaning.proofs.Truth.{never, is_true, is_false, see, is_none, is_some, see_o, or_left, or_right, and_left, and_right, or_false, and_false, not-true}
use Rattle.meaning.proofs.Holding.{holds-append, holds_at, before_found, behind_found, before_none, behind_none, split_at, before_lacks, lacks_before}
use Rattle.meaning.proofs.Balance.{brackets, then, shuts, brackets_append, brackets_yes, brackets_no, brackets_nil, brackets_4, brackets_5, brackets_5_bad, passes, b4, b5, b6, b7, b0, brace, fours, at_call, call_first}

-- HOW IT IS FOUND

pub data SeenL (l : Lead) : Type 0 where
  is_nothing : l ≡ nothing → SeenL l
  is_lead : (a : List Element) (c : Element) (x b : List Element) → l ≡ lead a c x b → SeenL l

pub see_l : (l : Lead) → SeenL l
see_l nothing = is_nothing refl
see_l (lead a c x b) = is_lead a c x b refl

-- what a moved leading term was
pub unshift : (e : Element) (l : Lead) {a : List Element} {c : Element} {x b : List Element} → shift e l ≡ lead a c x b → (a' : List Element) × (a ≡ e ∷ a') × (l ≡ lead a' c x b)
unfolding shift
unshift e nothing h = never (cc)
unshift e (lead a' c' x' b') h = (a', cc, cc)

pub shift_lead : (e : Element) (l : Lead) → (l ≡ nothing → ⊥) → shift e l ≡ nothing → ⊥
unfolding shift
shift_lead e nothing f h = f refl
shift_lead e (lead a c x b) f h = never (cc)

pub leading_here : (e : Element) (es : List Element) → (is_kind 6 e && innermost es) ≡ true → leading (e ∷ es) ≡ lead [] e (before 7 es) (behind 7 es)
unfolding leading
leading_here e es p = rw (p, leading)

pub leading_there : (e : Element) (es : List Element) → (is_kind 6 e && innermost es) ≡ false → leading (e ∷ es) ≡ shift e (leading es)
unfolding leading
leading_there e es p = rw (p, leading)

pub leading-nil : leading [] ≡ nothing
unfolding leading
leading-nil = refl

-- the same term with something else before it
moved_term : {es es' a a' : List Element} {c : Element} {x b : List Element} (i : Innermost es a c x b) → es' ≡ a' ++ (c ∷ (x ++ (i.last ∷ b))) → Innermost es' a' c x b
moved_term i e = record { last = i.last; split = e; first_6 = i.first_6; last_7 = i.last_7; no_6 = i.no_6; no_7 = i.no_7 }

-- what a leading term is
pub leading_parts : (es : List Element) {a : List Element} {c : Element} {x b : List Element} → leading es ≡ lead a c x b → Innermost es a c x b
unfolding innermost
leading_parts [] h = never (cc leading-nil)
leading_parts (e ∷ es) {a} {c} {x} {b} h =
    elim (see (is_kind 6 e && innermost es)) [
      | is_true p ↦
          let m : (holds 7 es && not (holds 6 (before 7 es))) ≡ true = and_right (is_kind 6 e) _ p in
          let (g, q, w) = split_at 7 es (and_left (holds 7 es) _ m) in
          let k = leading_here e es p in
          let ea : [] ≡ a = cc in let ec : e ≡ c = cc in let ex : before 7 es ≡ x = cc in let eb : behind 7 es ≡ b = cc in
          record {
            last = g;
            split = rw (← ea, ← ec, ← ex, ← eb) (ap {B = List Element} (λ l. e ∷ l) q);
            first_6 = rw (← ec) (eqb-true (kind e) 6 (and_left (is_kind 6 e) _ p));
            last_7 = eqb-true (kind g) 7 w;
            no_6 = rw (← ex) (not-true _ (and_right (holds 7 es) _ m));
            no_7 = rw (← ex) (before_lacks 7 es);
          }
      | is_false p ↦
          let (a', ea, r) = unshift e (leading es) (sym (leading_there e es p) ∙ h) in
          subst (λ (l : List Element). Innermost (e ∷ es) l c x b) (sym ea) (let i = leading_parts es r in moved_term i (ap {B = List Element} (λ l. e ∷ l) i.split))
    ]

-- it has its < and its >
pub leading-holds : (es : List Element) {a : List Element} {c : Element} {x b : List Element} → leading es ≡ lead a c x b → holds 6 es ≡ true
leading-holds es {a} h = (let i = leading_parts es h in rw i.split (holds_at 6 a _ _ (rw i.first_6)))

pub leading_closed : (es : List Element) {a : List Element} {c : Element} {x b : List Element} → leading es ≡ lead a c x b → holds 7 es ≡ true
unfolding holds
leading_closed es {a} {c} {x} {b} h =
    let i = leading_parts es h in
    rw (i.split, holds-append 7 a, holds_at 7 x i.last b (rw i.last_7), or_right (is_kind 7 c)) (or_right (holds 7 a))

innermost_right : (es B : List Element) → holds 7 es ≡ true → innermost (es ++ B) ≡ innermost es
unfolding innermost
innermost_right es B h = simp (holds-append, before_found, h)

-- the leading term of X is that of X B
pub leading_right : (es B : List Element) {a : List Element} {c : Element} {x b : List Element} → leading es ≡ lead a c x b → leading (es ++ B) ≡ lead a c x (b ++ B)
unfolding innermost shift
leading_right [] B h = cc leading-nil
leading_right (e ∷ es) B {a} {c} {x} {b} h =
    elim (see (is_kind 6 e && innermost es)) [
      | is_true p ↦
          let q : holds 7 es ≡ true = and_left (holds 7 es) _ (and_right (is_kind 6 e) _ p) in
          leading_here e (es ++ B) (rw innermost_right p) ∙ simp (before_found, behind_found) (cc (leading_here e es p))
      | is_false p ↦
          let (a', ea, r) = unshift e (leading es) (sym (leading_there e es p) ∙ h) in
          let q : holds 7 es ≡ true = leading_closed es r in
          leading_there e (es ++ B) (rw innermost_right p) ∙ ap (shift e) (leading_right es B r) ∙ cc
    ]

-- the elements before X keep their place: no > among them, and in Y a < comes before the first >
pub leading_left : (A Y : List Element) {a : List Element} {c : Element} {x b : List Element}
    → holds 7 A ≡ false → holds 6 (before 7 Y) ≡ true → leading Y ≡ lead a c x b → leading (A ++ Y) ≡ lead (A ++ a) c x b
unfolding innermost holds shift
leading_left [] Y n m h = h
leading_left (e ∷ A) Y n m h =
    let k : holds 7 A ≡ false = (or_false (is_kind 7 e) (holds 7 A) n).1 in
    leading_there e (A ++ Y) (simp (before_none, holds-append, m, or_right, and_false))
    ∙ rw (leading_left A Y k m h)

-- THE LEADING TERM IS THE LEFTMOST < ... > THAT HOLDS NO OTHER <

-- an innermost term at the start leads
at_start : {es : List Element} {c : Element} {x b : List Element} → Innermost es [] c x b → leading es ≡ lead [] c x b
unfolding innermost holds before behind
at_start {c = c} {x = x} {b = b} i =
    let y : List Element = x ++ (i.last ∷ b) in
    let g7 : is_kind 7 i.last ≡ true = rw i.last_7 in
    let nil : before 7 (i.last ∷ b) ≡ [] = rw (g7, before) in
    let front : before 7 y ≡ x = before_none 7 x _ i.no_7 ∙ rw nil (append-nil x) in
    let back : behind 7 y ≡ b = behind_none 7 x _ i.no_7 ∙ rw (g7, behind) in
    let shut : holds 7 y ≡ true = holds_at 7 x _ b g7 in
    ap leading i.split ∙ leading_here c y (rw (i.first_6, shut, front, i.no_6)) ∙ rw (front, back)

-- an innermost term leads, or one further left does
data First (es a : List Element) (c : Element) (x b : List Element) : Type 0 where
  this : leading es ≡ lead a c x b → First es a c x b
  earlier : {a' : List Element} {c' : Element} {x' b' : List Element} → leading es ≡ lead a' c' x' b' → length a' < length a → First es a c x b

first : (es a : List Element) {c : Element} {x b : List Element} → Innermost es a c x b → First es a c x b
unfolding shift
first es [] i = this (at_start i)
first [] (e ∷ a) i = never (cc i.split)
first (d ∷ es) (e ∷ a) {c} {x} {b} i =
    elim (see (is_kind 6 d && innermost es)) [
      | is_true p ↦ earlier (leading_here d es p) (omega arith)
      | is_false p ↦
          let e₀ : d ≡ e = cc i.split in
          let e₁ : es ≡ a ++ (c ∷ (x ++ (i.last ∷ b))) = cc i.split in
          elim (first es a (moved_term i e₁)) [
            | this l ↦ this (leading_there d es p ∙ ap (shift d) l ∙ rw e₀)
            | earlier l h ↦ earlier (leading_there d es p ∙ ap (shift d) l) (omega arith)
          ]
    ]

-- the leading term is the leftmost of them
pub leading_leads : (es a : List Element) (c : Element) (x b : List Element) → (leading es ≡ lead a c x b) ↔ Leads es a c x b
leading_leads es a c x b = (λ h. record { term = leading_parts es h; leftmost = λ i. no_later h (first es _ i) }, λ l. found l (first es a l.term))
  where
    no_later : {a' : List Element} {c' : Element} {x' b' : List Element} → leading es ≡ lead a c x b → First es a' c' x' b' → length a ≤ length a'
    no_later {a'} h (this k) = (let e : a ≡ a' = cc in rw e (omega arith))
    no_later h (earlier {a' = a''} k l) = (let e : a ≡ a'' = cc in rw e (omega arith))

    found : Leads es a c x b → First es a c x b → leading es ≡ lead a c x b
    found l (this k) = k
    found l (earlier k h) = never (let i = l.leftmost (leading_parts es k) in omega arith)

-- and there is none exactly if there is no such < ... >
pub leading_none : (es : List Element) → (leading es ≡ nothing) ↔ NoneLeads es
leading_none es =
    (λ h a c x b i. no h (first es a i), λ n. elim (see_l (leading es)) [ is_nothing h ↦ h | is_lead a c x b h ↦ absurd (n a c x b (leading_parts es h)) ])
  where
    no : {a : List Element} {c : Element} {x b : List Element} → leading es ≡ nothing → First es a c x b → ⊥
    no h (this k) = never (cc)
    no h (earlier k l) = never (cc)

-- IN A BALANCED FIELD IT IS THE ONE WITH NO > BEFORE IT

-- where a < comes before the first > there is a leading term
call_leads : (X : List Element) → holds 7 X ≡ true → holds 6 (before 7 X) ≡ true → leading X ≡ nothing → ⊥
unfolding holds before innermost
call_leads [] h k n = never (cc)
call_leads (e ∷ X) h k n =
    elim (see (is_kind 7 e)) [
      | is_true z ↦ never (let q : false ≡ true = rw (z, before) at k in cc)
      | is_false z ↦
          let h' : holds 7 X ≡ true = rw z at h in
          let k' : (is_kind 6 e || holds 6 (before 7 X)) ≡ true = rw (z, before) at k in
          elim (see (is_kind 6 e && innermost X)) [
            | is_true p ↦ never (cc (leading_here e X p))
            | is_false p ↦
                elim (see (holds 6 (before 7 X))) [
                  | is_true w ↦ shift_lead e (leading X) (call_leads X h' w) (sym (leading_there e X p) ∙ n)
                  | is_false w ↦ never (let i : is_kind 6 e ≡ true = or_left (is_kind 6 e) (rw w at k') in let q : true ≡ false = rw (i, h', w) at p in cc)
                ]
          ]
    ]

module _ (es a : List Element) (c : Element) (x b : List Element) where
  -- no > stands before it
  none_shut : brackets [] es ≡ some [] → leading es ≡ lead a c x b → holds 7 a ≡ false
  unfolding fours then
  none_shut o h =
      let i = leading_parts es h in
      let y : List Element = c ∷ (x ++ (i.last ∷ b)) in
      elim (see (holds 7 a)) [
        | is_false z ↦ z
        | is_true z ↦
            elim (see_l (leading a)) [
              | is_nothing n ↦
                  elim (see_o (brackets [] a))
                  [ is_none q ↦ never (cc (i.split, brackets_append [] a y)) | is_some o' q ↦ absurd (call_leads a z (call_first a 0 o' q z) n) ]
              | is_lead a' c' x' b' e ↦
                  let j = leading_parts a e in
                  let w : a' ≡ a = cc (i.split, leading_right a y e) in
                  never (omega (arith, ap length j.split, length-append a' (c' ∷ (x' ++ (j.last ∷ b'))), ap length w))
            ]
      ]

  -- and an innermost term with none before it leads
  pub none_shut_leads : Innermost es a c x b → holds 7 a ≡ false → leading es ≡ lead a c x b
  none_shut_leads i n = ap leading i.split ∙ leading_left a _ n (at_call c _ i.first_6) (at_start (moved_term i refl)) ∙ rw append-nil

  pub leading_balanced : brackets [] es ≡ some [] → (leading es ≡ lead a c x b) ↔ (Innermost es a c x b × (holds 7 a ≡ false))
  leading_balanced o = (λ h. (leading_parts es h, none_shut o h), λ (i, n). none_shut_leads i n)

-- A LEADING TERM THERE IS EXACTLY WHERE THERE IS A <

has : ℕ → List ℕ → Bool
has k [] = false
has k (b ∷ o) = eqb b k || has k o

-- a ) closes a (
popped : (o : List ℕ) (e : Element) (X : List Element) (q : List ℕ) → kind e ≡ 5 → brackets o (e ∷ X) ≡ some q → (o' : List ℕ) × (o ≡ 4 ∷ o') × (brackets o' X ≡ some q)
popped [] e X q k h = never (cc (brackets_5_bad [] e X k refl))
popped (b ∷ o) e X q k h =
    elim (see (eqb b 4)) [
      | is_true z ↦ (let i : b ≡ 4 = eqb-true b 4 z in (o, ap {B = List ℕ} (λ x. x ∷ o) i, sym (brackets_5 o e X k) ∙ (rw i at h)))
      | is_false z ↦ never (cc (brackets_5_bad (b ∷ o) e X k z))
    ]

-- an open < and no further <: its > comes
comes : (X : List Element) (o : List ℕ) → brackets o X ≡ some [] → has 6 o ≡ true → holds 6 X ≡ false → holds 7 X ≡ true
unfolding has holds
comes [] o h a n = never (cc (brackets_nil o))
comes (e ∷ X) o h a n =
    let m = or_false (is_kind 6 e) (holds 6 X) n in
    elim (see (is_kind 7 e)) [
      | is_true z ↦ rw z
      | is_false z ↦
          rw z (elim (brace (kind e)) [
            | b4 k ↦ comes X (4 ∷ o) (sym (brackets_4 o e X k) ∙ h) a m.1
            | b5 k ↦ (let (o', i, j) = popped o e X [] k h in comes X o' j (rw i at a) m.1)
            | b6 k ↦ absurd (eqb-false (kind e) 6 m.0 k)
            | b7 k ↦ absurd (eqb-false (kind e) 7 z k)
            | b0 k ↦ comes X o (sym (passes o e X k) ∙ h) a m.1
          ])
    ]

-- brackets after one element, whatever it is
after_one : (o : List ℕ) (e : Element) (X : List Element) → brackets o (e ∷ X) ≡ some [] → (o' : List ℕ) × (brackets o' X ≡ some []) × (kind e ≡ 6 → has 6 o' ≡ true)
unfolding has opens_after
after_one o e X h =
    elim (see (shuts o (kind e))) [
      | is_true z ↦ (opens_after (kind e) o, sym (brackets_yes o e X z) ∙ h, λ k. rw k)
      | is_false z ↦ never (cc (brackets_no o e X z))
    ]

pub some_leading : (X : List Element) (o : List ℕ) → brackets o X ≡ some [] → holds 6 X ≡ true → leading X ≡ nothing → ⊥
unfolding holds innermost
some_leading [] o h k n = never (cc)
some_leading (e ∷ X) o h k n =
    let (o', j, six) = after_one o e X h in
    elim (see (is_kind 6 e && innermost X)) [
      | is_true z ↦ never (cc (leading_here e X z))
      | is_false z ↦
          elim (see (holds 6 X)) [
            | is_true w ↦ shift_lead e (leading X) (some_leading X o' j w) (sym (leading_there e X z) ∙ n)
            | is_false w ↦
                let i : is_kind 6 e ≡ true = or_left (is_kind 6 e) (rw w at k) in
                let c : holds 7 X ≡ true = comes X o' j (six (eqb-true (kind e) 6 i)) w in
                never (let q : not (holds 6 (before 7 X)) ≡ false = rw (i, c) at z in cc (lacks_before 6 7 X w))
          ]
    ]

pub leading-call : (X : List Element) → brackets [] X ≡ some [] → (leading X ≡ nothing) ↔ (holds 6 X ≡ false)
leading-call X b = (λ n. elim (see (holds 6 X)) [ is_true h ↦ absurd (some_leading X [] b h n) | is_false h ↦ h ], none)
  where
    none : holds 6 X ≡ false → leading X ≡ nothing
    none h = elim (see_l (leading X)) [ is_nothing n ↦ n | is_lead a c x b' l ↦ never (cc (leading-holds X l)) ]
