-- An argument without calls, in a balanced field, is balanced by itself.
use mathlib.Core.Path.{◌≡◌, refl, sym, ◌∙◌, subst}
use mathlib.Core.Bool.{true, false, ◌&&◌}
use mathlib.Core.Option.{none, some}
use mathlib.Core.List.{List, [], ◌∷◌, ◌++◌}
use Prim.Native.Nat.{ℕ, zero, suc, ◌≤◌}
use native.Mathlib.Omega.{arith}
use lib.ListN.{length}
use lib.Dec.{T, eqb, leb}
use borrow.Author.Tests.{eqb-true, eqb-false, leb-true, le-leb}
use Rattle.meaning.specs.Elements.{Element, kind, body, is_kind, is_symbol}
use Rattle.meaning.specs.Goodness.{span}
use Rattle.meaning.specs.Machine.{holds}
use Rattle.meaning.proofs.Truth.{never, or_false, and_left, and_right, is_none, is_some, see_o}
use Rattle.meaning.proofs.Balance.{brackets, then, brackets_append, brackets_4, brackets_5, brackets_6, brackets_5_bad, brackets_7_bad, NoBracket, passes, b4, b5, b6, b7, b0, brace, fours}
use Rattle.meaning.proofs.Programs.{Solid, s_none, s_more, field_element}
use Rattle.elements.specs.Reading.{Balanced, ended, symbols, opening, closing}

-- an element with no body is its kind alone
bare : (e : Element) (k : ℕ) → kind e ≡ k → body k ≡ 0 → length e ≡ suc (body (kind e)) → e ≡ k ∷ []
bare [] k h b l = never (omega arith)
bare (j ∷ []) k h b l = rw h
bare (j ∷ i ∷ e) k h b l = never (let z : body j ≡ 0 = rw h b in omega arith)

no_body_4 : body 4 ≡ 0
unfolding body
no_body_4 = refl

no_body_5 : body 5 ≡ 0
unfolding body
no_body_5 = refl

element_long : (e : Element) → field_element e ≡ true → length e ≡ suc (body (kind e))
unfolding field_element
element_long e h = eqb-true _ _ (and_right (span 1 7 (kind e)) _ h)

lower : (k m : ℕ) → k ≤ suc m → eqb k (suc m) ≡ false → k ≤ m
lower k m h n = let i = eqb-false k (suc m) n in omega (arith, i)

-- what is no bracket is a symbol
element_symbol : (e : Element) → field_element e ≡ true → NoBracket (kind e) → T (is_symbol e)
unfolding field_element span is_symbol
element_symbol e h n =
    let s = and_left (leb 1 (kind e) && leb (kind e) 7) _ h in
    let low = and_left (leb 1 (kind e)) _ s in
    let high = lower _ 3 (lower _ 4 (lower _ 5 (lower _ 6 (leb-true (kind e) 7 (and_right (leb 1 (kind e)) _ s)) n.no7) n.no6) n.no5) n.no4 in
    rw (low, le-leb (kind e) 3 high) tt

module _ (g : Element) (kg : kind g ≡ 7) (b : List Element) (o : List ℕ) where
  Inside : ℕ → List Element → Type 0
  Inside d es = brackets (fours d (6 ∷ o)) (es ++ (g ∷ b)) ≡ some []

  close : (e : Element) (es : List Element) → field_element e ≡ true → ((d : ℕ) → Inside d es → Balanced d es) → (d : ℕ) → kind e ≡ 5 → Inside d (e ∷ es) → Balanced d (e ∷ es)
  unfolding Inside fours
  close e es f more zero k h = never (cc (brackets_5_bad (6 ∷ o) e (es ++ (g ∷ b)) k refl))
  close e es f more (suc d) k h =
      subst (λ (y : Element). Balanced (suc d) (y ∷ es)) (sym (bare e 5 k no_body_5 (element_long e f)))
      (closing (more d (sym (brackets_5 (fours d (6 ∷ o)) e (es ++ (g ∷ b)) k) ∙ h)))

  one : (e : Element) (es : List Element) → field_element e ≡ true → ((d : ℕ) → Inside d es → Balanced d es) → is_kind 6 e ≡ false → is_kind 7 e ≡ false
      → (d : ℕ) → Inside d (e ∷ es) → Balanced d (e ∷ es)
  unfolding Inside fours
  one e es f more n6 n7 d h =
      elim (brace (kind e)) [
        | b4 k ↦
            subst (λ (y : Element). Balanced d (y ∷ es)) (sym (bare e 4 k no_body_4 (element_long e f)))
            (opening (more (suc d) (sym (brackets_4 (fours d (6 ∷ o)) e (es ++ (g ∷ b)) k) ∙ h)))
        | b5 k ↦ close e es f more d k h
        | b6 k ↦ absurd (eqb-false (kind e) 6 n6 k)
        | b7 k ↦ absurd (eqb-false (kind e) 7 n7 k)
        | b0 n ↦ symbols {e = e} (element_symbol e f n) (element_long e f) (more d (sym (passes (fours d (6 ∷ o)) e (es ++ (g ∷ b)) n) ∙ h))
      ]

  -- d brackets are open since the <, and the > comes behind x
  inside : {x : List Element} → Solid x → holds 6 x ≡ false → holds 7 x ≡ false → (d : ℕ) → Inside d x → Balanced d x
  unfolding Inside fours holds
  inside s_none n6 n7 zero h = ended
  inside s_none n6 n7 (suc d) h = never (cc (brackets_7_bad (4 ∷ fours d (6 ∷ o)) g b kg refl))
  inside (s_more {e} {es} f s) n6 n7 d h =
      let (i6, r6) = or_false (is_kind 6 e) (holds 6 es) n6 in
      let (i7, r7) = or_false (is_kind 7 e) (holds 7 es) n7 in
      one e es f (λ d' h'. inside s r6 r7 d' h') i6 i7 d h

-- the argument of a term of a balanced field
pub argument_balanced : (a : List Element) (c : Element) {x : List Element} (g : Element) (b : List Element) → kind c ≡ 6 → kind g ≡ 7 → Solid x → holds 6 x ≡ false → holds 7 x ≡ false
    → brackets [] (a ++ (c ∷ (x ++ (g ∷ b)))) ≡ some [] → Balanced 0 x
unfolding then fours Inside
argument_balanced a c {x} g b kc kg s n6 n7 h =
    elim (see_o (brackets [] a)) [
      | is_none z ↦ never (let q : none ≡ some [] = rw z at (sym (brackets_append [] a (c ∷ (x ++ (g ∷ b)))) ∙ h) in cc)
      | is_some o z ↦
          let q : brackets o (c ∷ (x ++ (g ∷ b))) ≡ some [] = rw z at (sym (brackets_append [] a (c ∷ (x ++ (g ∷ b)))) ∙ h) in
          inside g kg b o s n6 n7 0 (sym (brackets_6 o c (x ++ (g ∷ b)) kc) ∙ q)
    ]
