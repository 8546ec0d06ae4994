-- The open brackets after some elements; what values put in, and a balanced middle, leave of them.
use mathlib.Core.Path.{◌≡◌, refl, sym, ◌∙◌}
use mathlib.Core.Bool.{Bool, true, false, ◌&&◌, ◌||◌}
use mathlib.Core.Option.{Option, none, some}
use mathlib.Core.List.{List, [], ◌∷◌, ◌++◌, append_assoc}
use Prim.Native.Nat.{ℕ, zero, suc, ◌≤◌, ◌<◌}
use native.Mathlib.Omega.{arith}
use lib.Dec.{T, eqb, leb}
use borrow.Author.Tests.{leb-true, eqb-true, eqb-false, ne_eqb}
use Rattle.meaning.specs.Elements.{Element, kind, is_kind, is_symbol}
use Rattle.meaning.proofs.Truth.{never, is_true, is_false, see, is_none, is_some, see_o, or_right, and_right, or_false, T_true}
use Rattle.meaning.specs.Matching.{Terms, stop, symbol, bracket, Role, s_var, t_var, e_var, plain, role, Stands, put, Env, given}
use Rattle.meaning.proofs.Searching.{Sure}
use Rattle.meaning.specs.Goodness.{implies, top, opens_after}
use Rattle.meaning.specs.Machine.{before, holds}

-- a closing bracket fits the latest open one
unfoldable pub shuts : List ℕ → ℕ → Bool
shuts o k = implies (eqb k 5) (eqb (top o) 4) && implies (eqb k 7) (eqb (top o) 6)

-- the open brackets after some elements
unfoldable pub brackets : List ℕ → List Element → Option (List ℕ)
brackets o [] = some o
brackets o (e ∷ es) = elim (shuts o (kind e)) [ true ↦ brackets (opens_after (kind e) o) es | false ↦ none ]

unfoldable pub then : Option (List ℕ) → List Element → Option (List ℕ)
then none es = none
then (some o) es = brackets o es

pub brackets_yes : (o : List ℕ) (e : Element) (es : List Element) → shuts o (kind e) ≡ true → brackets o (e ∷ es) ≡ brackets (opens_after (kind e) o) es
unfolding brackets
brackets_yes o e es h = rw (h, brackets)

pub brackets_no : (o : List ℕ) (e : Element) (es : List Element) → shuts o (kind e) ≡ false → brackets o (e ∷ es) ≡ none
unfolding brackets
brackets_no o e es h = rw (h, brackets)

pub brackets_append : (o : List ℕ) (xs ys : List Element) → brackets o (xs ++ ys) ≡ then (brackets o xs) ys
brackets_append o [] ys = unfold brackets then in refl
brackets_append o (x ∷ xs) ys =
    elim (see (shuts o (kind x))) [
      | is_true h ↦ rw (brackets_yes o x (xs ++ ys) h, brackets_yes o x xs h) (brackets_append (opens_after (kind x) o) xs ys)
      | is_false h ↦ rw (brackets_no o x (xs ++ ys) h, brackets_no o x xs h) (unfold then in refl)
    ]

-- a kind that is no bracket
pub record NoBracket (k : ℕ) : Type 0 where
  pub no4 : eqb k 4 ≡ false
  pub no5 : eqb k 5 ≡ false
  pub no6 : eqb k 6 ≡ false
  pub no7 : eqb k 7 ≡ false

pub passes : (o : List ℕ) (e : Element) (es : List Element) → NoBracket (kind e) → brackets o (e ∷ es) ≡ brackets o es
unfolding shuts opens_after
passes o e es n = brackets_yes o e es (simp (n.no5, n.no7)) ∙ simp (n.no4, n.no5, n.no6, n.no7)

low_kind : (k : ℕ) → k < 4 → NoBracket k
low_kind k h = record { no4 = ne_eqb k 4 (omega arith); no5 = ne_eqb k 5 (omega arith); no6 = ne_eqb k 6 (omega arith); no7 = ne_eqb k 7 (omega arith) }

high_kind : (k : ℕ) → 7 < k → NoBracket k
high_kind k h = record { no4 = ne_eqb k 4 (omega arith); no5 = ne_eqb k 5 (omega arith); no6 = ne_eqb k 6 (omega arith); no7 = ne_eqb k 7 (omega arith) }

symbol_kind : (e : Element) → T (is_symbol e) → NoBracket (kind e)
unfolding is_symbol
symbol_kind e h =
    let l : kind e ≤ 3 = leb-true (kind e) 3 (and_right (leb 1 (kind e)) _ (T_true _ h)) in
    low_kind (kind e) (omega arith)

opening : (o : List ℕ) (es : List Element) → brackets o ((4 ∷ []) ∷ es) ≡ brackets (4 ∷ o) es
unfolding brackets shuts opens_after
opening o es = refl

closing : (o : List ℕ) (es : List Element) → brackets (4 ∷ o) ((5 ∷ []) ∷ es) ≡ brackets o es
unfolding brackets shuts opens_after
closing o es = refl

-- a run of terms leaves the open brackets as they were
run_keeps : {n : ℕ} {v : List Element} → Terms n v → (o : List ℕ) (es : List Element) → brackets o (v ++ es) ≡ brackets o es
run_keeps stop o es = refl
run_keeps (symbol {e} {es = v} h r) o es = passes o e (v ++ es) (symbol_kind e h) ∙ run_keeps r o es
run_keeps (bracket {xs} {es = ys} {zs} r q e) o es =
    opening o (zs ++ es) ∙ rw (e, append_assoc, run_keeps r (4 ∷ o) _, closing, run_keeps q o es)

var_kind : (e : Element) → (role e ≡ plain → ⊥) → NoBracket (kind e)
unfolding role
var_kind e n =
    elim (see (is_kind 8 e)) [
      | is_true h ↦ high_kind (kind e) (let q = eqb-true (kind e) 8 h in omega arith)
      | is_false h ↦
          elim (see (is_kind 9 e)) [
            | is_true i ↦ high_kind (kind e) (let q = eqb-true (kind e) 9 i in omega arith)
            | is_false i ↦
                elim (see (is_kind 10 e)) [
                  | is_true j ↦ high_kind (kind e) (let q = eqb-true (kind e) 10 j in omega arith)
                  | is_false j ↦
                      absurd (n (rw (h, i, j)))
                ]
          ]
    ]

-- what an element stands for moves the brackets as the element does
stands_keeps : (e : Element) (v : List Element) (t : Role) → role e ≡ t → Stands t e v → (o : List ℕ) (es : List Element) → brackets o (v ++ es) ≡ brackets o (e ∷ es)
stands_keeps e v s_var k (x, h, q) o es = rw q (passes o x es (symbol_kind x h) ∙ sym (passes o e es (var_kind e (λ r. never (cc)))))
stands_keeps e v t_var k h o es = run_keeps h o es ∙ sym (passes o e es (var_kind e (λ r. never (cc))))
stands_keeps e v e_var k (n, h) o es = run_keeps h o es ∙ sym (passes o e es (var_kind e (λ r. never (cc))))
stands_keeps e v plain k h o es = rw h

given_keeps : (env : Env) → Sure env → (e : Element) (o : List ℕ) (es : List Element) → brackets o (given env e ++ es) ≡ brackets o (e ∷ es)
unfolding given Sure
given_keeps env s e o es =
    elim (see_o (env e)) [
      | is_none h ↦ rw (h, given)
      | is_some v h ↦ rw (h, given) (stands_keeps e v (role e) refl (s e v h) o es)
    ]

brackets_cong : (o : List ℕ) (e : Element) (xs ys : List Element) → ((o' : List ℕ) → brackets o' xs ≡ brackets o' ys) → brackets o (e ∷ xs) ≡ brackets o (e ∷ ys)
brackets_cong o e xs ys f =
    elim (see (shuts o (kind e)))
    [ is_true h ↦ brackets_yes o e xs h ∙ f _ ∙ sym (brackets_yes o e ys h) | is_false h ↦ brackets_no o e xs h ∙ sym (brackets_no o e ys h) ]

-- so putting values in keeps the brackets
pub put_keeps : (env : Env) → Sure env → (side es : List Element) (o : List ℕ) → brackets o (put (given env) side ++ es) ≡ brackets o (side ++ es)
unfolding put
put_keeps env s [] es o = refl
put_keeps env s (e ∷ side) es o =
    rw append_assoc (given_keeps env s e o (put (given env) side ++ es) ∙ brackets_cong o e _ _ (λ o'. put_keeps env s side es o'))

-- the kinds that matter
pub data Brace (k : ℕ) : Type 0 where
  b4 : k ≡ 4 → Brace k
  b5 : k ≡ 5 → Brace k
  b6 : k ≡ 6 → Brace k
  b7 : k ≡ 7 → Brace k
  b0 : NoBracket k → Brace k

pub brace : (k : ℕ) → Brace k
brace k =
    elim (see (eqb k 4)) [
      | is_true h ↦ b4 (eqb-true k 4 h)
      | is_false n4 ↦
          elim (see (eqb k 5)) [
            | is_true h ↦ b5 (eqb-true k 5 h)
            | is_false n5 ↦
                elim (see (eqb k 6)) [
                  | is_true h ↦ b6 (eqb-true k 6 h)
                  | is_false n6 ↦
                      elim (see (eqb k 7)) [
                        | is_true h ↦ b7 (eqb-true k 7 h)
                        | is_false n7 ↦
                            b0 (record { no4 = n4; no5 = n5; no6 = n6; no7 = n7 })
                      ]
                ]
          ]
    ]

pub brackets_4 : (o : List ℕ) (e : Element) (es : List Element) → kind e ≡ 4 → brackets o (e ∷ es) ≡ brackets (4 ∷ o) es
unfolding shuts opens_after
brackets_4 o e es h = brackets_yes o e es (rw h) ∙ rw h

pub brackets_6 : (o : List ℕ) (e : Element) (es : List Element) → kind e ≡ 6 → brackets o (e ∷ es) ≡ brackets (6 ∷ o) es
unfolding shuts opens_after
brackets_6 o e es h = brackets_yes o e es (rw h) ∙ rw h

pub brackets_5 : (o : List ℕ) (e : Element) (es : List Element) → kind e ≡ 5 → brackets (4 ∷ o) (e ∷ es) ≡ brackets o es
unfolding shuts opens_after
brackets_5 o e es h = brackets_yes (4 ∷ o) e es (rw h) ∙ rw h

pub brackets_7 : (o : List ℕ) (e : Element) (es : List Element) → kind e ≡ 7 → brackets (6 ∷ o) (e ∷ es) ≡ brackets o es
unfolding shuts opens_after
brackets_7 o e es h = brackets_yes (6 ∷ o) e es (rw h) ∙ rw h

pub brackets_5_bad : (o : List ℕ) (e : Element) (es : List Element) → kind e ≡ 5 → eqb (top o) 4 ≡ false → brackets o (e ∷ es) ≡ none
unfolding shuts
brackets_5_bad o e es h t = brackets_no o e es (rw (h, t))

pub brackets_7_bad : (o : List ℕ) (e : Element) (es : List Element) → kind e ≡ 7 → eqb (top o) 6 ≡ false → brackets o (e ∷ es) ≡ none
unfolding shuts
brackets_7_bad o e es h t = brackets_no o e es (rw (h, t))

-- d open (
unfoldable pub fours : ℕ → List ℕ → List ℕ
fours zero o = o
fours (suc d) o = 4 ∷ fours d o

pub not-kind : (e : Element) (j k : ℕ) → kind e ≡ j → eqb j k ≡ false → is_kind k e ≡ false
not-kind e j k h t = rw h t

nothing_holds : holds 7 [] ≡ false
unfolding holds
nothing_holds = refl

step_over : (e : Element) (X : List Element) → is_kind 7 e ≡ false → (holds 7 X ≡ true → holds 6 (before 7 X) ≡ true) → holds 7 (e ∷ X) ≡ true → holds 6 (before 7 (e ∷ X)) ≡ true
unfolding holds before
step_over e X n f h = rw (n, before) (rw (f (rw n at h)) (or_right (is_kind 6 e)))

pub at_call : (e : Element) (X : List Element) → kind e ≡ 6 → holds 6 (before 7 (e ∷ X)) ≡ true
unfolding holds before
at_call e X z = rw (not-kind e 6 7 z refl, before) (rw z)

-- in a balanced field a < comes before the first >
pub call_first : (X : List Element) (d : ℕ) (q : List ℕ) → brackets (fours d []) X ≡ some q → holds 7 X ≡ true → holds 6 (before 7 X) ≡ true
unfolding fours
call_first [] d q h k = never (cc nothing_holds)
call_first (e ∷ X) zero q h k =
    elim (brace (kind e)) [
      | b4 z ↦ step_over e X (not-kind e 4 7 z refl) (call_first X 1 q (sym (brackets_4 [] e X z) ∙ h)) k
      | b5 z ↦ never (cc (brackets_5_bad [] e X z refl))
      | b6 z ↦ at_call e X z
      | b7 z ↦ never (cc (brackets_7_bad [] e X z refl))
      | b0 z ↦ step_over e X z.no7 (call_first X 0 q (sym (passes [] e X z) ∙ h)) k
    ]
call_first (e ∷ X) (suc d) q h k =
    elim (brace (kind e)) [
      | b4 z ↦ step_over e X (not-kind e 4 7 z refl) (call_first X (suc (suc d)) q (sym (brackets_4 _ e X z) ∙ h)) k
      | b5 z ↦ step_over e X (not-kind e 5 7 z refl) (call_first X d q (sym (brackets_5 _ e X z) ∙ h)) k
      | b6 z ↦ at_call e X z
      | b7 z ↦ never (cc (brackets_7_bad (fours (suc d) []) e X z refl))
      | b0 z ↦ step_over e X z.no7 (call_first X (suc d) q (sym (passes _ e X z) ∙ h)) k
    ]

opens_frame : (k b : ℕ) (o s : List ℕ) → opens_after k (b ∷ (o ++ s)) ≡ opens_after k (b ∷ o) ++ s
unfolding opens_after
opens_frame k b o s =
    elim (see (eqb k 4 || eqb k 6)) [
      | is_true h ↦ rw h
      | is_false h ↦
          elim (see (eqb k 5 || eqb k 7)) [ is_true j ↦ rw (h, j) | is_false j ↦ rw (h, j) ]
    ]

pub brackets_nil : (o : List ℕ) → brackets o [] ≡ some o
unfolding brackets
brackets_nil o = refl

-- more open brackets below change nothing
frame : (xs : List Element) (o o' s : List ℕ) → brackets o xs ≡ some o' → brackets (o ++ s) xs ≡ some (o' ++ s)
unfolding shuts
frame [] o o' s h =
    let e : o ≡ o' = cc (brackets_nil o) in
    brackets_nil (o ++ s) ∙ rw e
frame (e ∷ xs) [] o' s h =
    elim (brace (kind e)) [
      | b4 z ↦ brackets_4 s e xs z ∙ frame xs (4 ∷ []) o' s (sym (brackets_4 [] e xs z) ∙ h)
      | b5 z ↦ never (cc (brackets_5_bad [] e xs z refl))
      | b6 z ↦ brackets_6 s e xs z ∙ frame xs (6 ∷ []) o' s (sym (brackets_6 [] e xs z) ∙ h)
      | b7 z ↦ never (cc (brackets_7_bad [] e xs z refl))
      | b0 z ↦ passes s e xs z ∙ frame xs [] o' s (sym (passes [] e xs z) ∙ h)
    ]
frame (e ∷ xs) (b ∷ o) o' s h =
    elim (see (shuts (b ∷ o) (kind e))) [
      | is_true z ↦ brackets_yes (b ∷ (o ++ s)) e xs z ∙ rw opens_frame (frame xs (opens_after (kind e) (b ∷ o)) o' s (sym (brackets_yes (b ∷ o) e xs z) ∙ h))
      | is_false z ↦ never (cc (brackets_no (b ∷ o) e xs z))
    ]

-- an argument without < and >: behind its > the brackets are those before its <
pub inner : (x : List Element) (g : Element) (B : List Element) (d : ℕ) (o q : List ℕ) → holds 6 x ≡ false → holds 7 x ≡ false → kind g ≡ 7
    → brackets (fours d (6 ∷ o)) (x ++ (g ∷ B)) ≡ some q → brackets o B ≡ some q
unfolding fours holds
inner [] g B zero o q n6 n7 k h = sym (brackets_7 o g B k) ∙ h
inner [] g B (suc d) o q n6 n7 k h = never (cc (brackets_7_bad (fours (suc d) (6 ∷ o)) g B k refl))
inner (e ∷ x) g B zero o q n6 n7 k h =
    let m6 = or_false (is_kind 6 e) (holds 6 x) n6 in
    let m7 = or_false (is_kind 7 e) (holds 7 x) n7 in
    elim (brace (kind e)) [
      | b4 z ↦ inner x g B 1 o q m6.1 m7.1 k (sym (brackets_4 (6 ∷ o) e (x ++ (g ∷ B)) z) ∙ h)
      | b5 z ↦ never (cc (brackets_5_bad (6 ∷ o) e (x ++ (g ∷ B)) z refl))
      | b6 z ↦ absurd (eqb-false (kind e) 6 m6.0 z)
      | b7 z ↦ absurd (eqb-false (kind e) 7 m7.0 z)
      | b0 z ↦ inner x g B 0 o q m6.1 m7.1 k (sym (passes (6 ∷ o) e (x ++ (g ∷ B)) z) ∙ h)
    ]
inner (e ∷ x) g B (suc d) o q n6 n7 k h =
    let m6 = or_false (is_kind 6 e) (holds 6 x) n6 in
    let m7 = or_false (is_kind 7 e) (holds 7 x) n7 in
    let s : List ℕ = fours (suc d) (6 ∷ o) in
    elim (brace (kind e)) [
      | b4 z ↦ inner x g B (suc (suc d)) o q m6.1 m7.1 k (sym (brackets_4 s e (x ++ (g ∷ B)) z) ∙ h)
      | b5 z ↦ inner x g B d o q m6.1 m7.1 k (sym (brackets_5 (fours d (6 ∷ o)) e (x ++ (g ∷ B)) z) ∙ h)
      | b6 z ↦ absurd (eqb-false (kind e) 6 m6.0 z)
      | b7 z ↦ absurd (eqb-false (kind e) 7 m7.0 z)
      | b0 z ↦ inner x g B (suc d) o q m6.1 m7.1 k (sym (passes s e (x ++ (g ∷ B)) z) ∙ h)
    ]

-- a balanced side in the middle changes nothing
pub balanced_middle : (R B : List Element) (o : List ℕ) → brackets [] R ≡ some [] → brackets o (R ++ B) ≡ brackets o B
balanced_middle R B o h = brackets_append o R B ∙ rw (frame R [] [] o h) (unfold then in refl)
