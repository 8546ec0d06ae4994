-- How many call brackets a field has, and where those of a right side come to stand.
use mathlib.Core.Path.{◌≡◌, refl, sym, ◌∙◌, ap}
use mathlib.Core.Bool.{true, false}
use mathlib.Core.Option.{some}
use mathlib.Core.List.{List, [], ◌∷◌, ◌++◌, append_assoc}
use Prim.Native.Nat.{ℕ, suc, ◌+◌, ◌*◌, ◌≤◌}
use native.Mathlib.Omega.{arith}
use lib.ListN.{length, take, drop}
use lib.Seq.{sets, sets-eq, drop_at, length-take-le}
use lib.Dec.{eqb}
use borrow.Author.Tests.{eqb-true, ne_eqb}
use Rattle.meaning.specs.Elements.{Element, kind, body, size, same, is_kind, is_variable, among}
use Rattle.meaning.specs.Goodness.{top}
use Rattle.meaning.specs.Machine.{holds}
use Rattle.meaning.specs.Matching.{put}
use Rattle.meaning.proofs.Truth.{never, is_true, is_false, see, or_false, or_right, same_refl}
use Rattle.meaning.proofs.Cutting.{Whole, w_none, w_more}
use Rattle.meaning.proofs.Balance.{brackets, brackets_4, brackets_5, brackets_6, brackets_7, brackets_5_bad, brackets_7_bad, passes, b4, b5, b6, b7, b0, brace}
use Rattle.scanning.specs.State.{is_call, marks_of, Opens, none_open, one_open}
use Rattle.scanning.proofs.Marks.{size-nil, size-cons}
use Rattle.building.specs.Build.{calls_of, span_of, placed, Calm}
use Rattle.building.proofs.Spans.{calls_one, calls_none, placed_one, placed_none, span_plain}
use Rattle.building.proofs.Sides.{var_range}

calls_nil : calls_of [] ≡ 0
unfolding calls_of
calls_nil = refl

pub calls_append : (xs ys : List Element) → calls_of (xs ++ ys) ≡ calls_of xs + calls_of ys
unfolding calls_of
calls_append [] ys = omega arith
calls_append (e ∷ xs) ys =
    elim (see (is_call e)) [
      | is_true z ↦ omega (arith, calls_one [] e (xs ++ ys) z, calls_one [] e xs z, calls_append xs ys)
      | is_false z ↦ omega (arith, calls_none [] e (xs ++ ys) z, calls_none [] e xs z, calls_append xs ys)
    ]

no_calls : (es : List Element) → holds 6 es ≡ false → holds 7 es ≡ false → calls_of es ≡ 0
unfolding holds
no_calls [] h k = calls_nil
no_calls (e ∷ es) h k =
    let (a, p) = or_false (is_kind 6 e) (holds 6 es) h in
    let (b, q) = or_false (is_kind 7 e) (holds 7 es) k in
    let z : is_call e ≡ false = rw (a, b) in
    calls_none [] e es z ∙ no_calls es p q

pub opens_calls : {zs : List Element} {st : List ℕ} → Opens zs st → calls_of zs ≡ length st
opens_calls (none_open {zs} n6 n7) = no_calls zs n6 n7
opens_calls (one_open {xs} {zs} {at} {st} c ys o k n6 n7 a q) =
    let z : is_call c ≡ true = rw k in
    omega (arith, ap calls_of q, calls_append xs (c ∷ ys), opens_calls o, calls_one [] c ys z, no_calls ys n6 n7)

-- A BALANCED FIELD HAS ROOM FOR ITS BRACKETS
sixes : List ℕ → ℕ
sixes [] = 0
sixes (k ∷ o) = elim (eqb k 6) [ true ↦ suc (sixes o) | false ↦ sixes o ]

whole_next : {es : List Element} (e : Element) (r : List Element) → es ≡ e ∷ r → Whole es → (length e ≡ suc (body (kind e))) × Whole r
whole_next e r q w_none = never (cc)
whole_next e r q (w_more {k} {b} {es} h w) = let i : k ∷ b ≡ e = cc in let j : es ≡ r = cc in (rw (← i) (ap suc h), rw j at w)

popped_5 : (e : Element) (es : List Element) (o : List ℕ) → kind e ≡ 5 → brackets o (e ∷ es) ≡ some [] → (o' : List ℕ) × (o ≡ 4 ∷ o') × (brackets o' es ≡ some [])
popped_5 e es [] k h = never (cc (sym (brackets_5_bad [] e es k refl) ∙ h))
popped_5 e es (t ∷ o) k h =
    elim (see (eqb t 4)) [
      | is_true z ↦ let q : t ≡ 4 = eqb-true t 4 z in (o, rw q, sym (brackets_5 o e es k) ∙ rw q at h)
      | is_false z ↦ never (cc (sym (brackets_5_bad (t ∷ o) e es k z) ∙ h))
    ]

popped_7 : (e : Element) (es : List Element) (o : List ℕ) → kind e ≡ 7 → brackets o (e ∷ es) ≡ some [] → (o' : List ℕ) × (o ≡ 6 ∷ o') × (brackets o' es ≡ some [])
popped_7 e es [] k h = never (cc (sym (brackets_7_bad [] e es k refl) ∙ h))
popped_7 e es (t ∷ o) k h =
    elim (see (eqb t 6)) [
      | is_true z ↦ let q : t ≡ 6 = eqb-true t 6 z in (o, rw q, sym (brackets_7 o e es k) ∙ rw q at h)
      | is_false z ↦ never (cc (sym (brackets_7_bad (t ∷ o) e es k z) ∙ h))
    ]

brackets_fit : (es : List Element) (o : List ℕ) → Whole es → brackets o es ≡ some [] → 2 * calls_of es ≤ size es + sixes o
unfolding sixes
brackets_fit [] o w h = omega (arith, calls_nil)
brackets_fit (e ∷ es) o w h =
    let (le, wr) = whole_next e es refl w in
    let sc = size-cons e es in
    elim (brace (kind e)) [
      | b4 k ↦
          let z : is_call e ≡ false = rw k in
          let i : 2 * calls_of es ≤ size es + sixes (4 ∷ o) = brackets_fit es (4 ∷ o) wr (sym (brackets_4 o e es k) ∙ h) in
          omega (arith, calls_none [] e es z, i)
      | b5 k ↦
          let z : is_call e ≡ false = rw k in
          let (o', q, h') = popped_5 e es o k h in
          let i = brackets_fit es o' wr h' in
          let t : sixes o ≡ sixes o' = ap sixes q in
          omega (arith, calls_none [] e es z, i, t)
      | b6 k ↦
          let z : is_call e ≡ true = rw k in
          let two : body (kind e) ≡ 2 = rw k (unfold body in refl) in
          let i : 2 * calls_of es ≤ size es + sixes (6 ∷ o) = brackets_fit es (6 ∷ o) wr (sym (brackets_6 o e es k) ∙ h) in
          omega (arith, calls_one [] e es z, i, le, two)
      | b7 k ↦
          let z : is_call e ≡ true = rw k in
          let (o', q, h') = popped_7 e es o k h in
          let i = brackets_fit es o' wr h' in
          let t : sixes o ≡ suc (sixes o') = ap sixes q in
          omega (arith, calls_one [] e es z, i, t, le)
      | b0 n ↦
          let z : is_call e ≡ false = rw (n.no6, n.no7) in
          let i = brackets_fit es o wr (sym (passes o e es n) ∙ h) in
          omega (arith, calls_none [] e es z, i)
    ]

pub calls_fit : (es : List Element) → Whole es → brackets [] es ≡ some [] → 2 * calls_of es ≤ size es
unfolding sixes
calls_fit es w h = let i = brackets_fit es [] w h in omega arith

-- WHERE THE BRACKETS STAND
pub marks_append : (xs ys : List Element) (at : ℕ) → marks_of at (xs ++ ys) ≡ marks_of at xs ++ marks_of (at + size xs) ys
unfolding marks_of
marks_append [] ys at = let q : at + size [] ≡ at = omega (arith, size-nil) in rw q
marks_append (e ∷ xs) ys at =
    let q : at + size (e ∷ xs) ≡ at + length e + size xs = omega (arith, size-cons e xs) in
    elim (see (is_call e)) [
      | is_true z ↦ rw (z, marks_of, q) (ap {B = List ℕ} (λ l. at ∷ l) (marks_append xs ys (at + length e)))
      | is_false z ↦ rw (z, marks_of, q) (marks_append xs ys (at + length e))
    ]

marks_none : (es : List Element) (at : ℕ) → holds 6 es ≡ false → holds 7 es ≡ false → marks_of at es ≡ []
unfolding marks_of holds
marks_none [] at h k = refl
marks_none (e ∷ es) at h k =
    let (a, p) = or_false (is_kind 6 e) (holds 6 es) h in
    let (b, q) = or_false (is_kind 7 e) (holds 7 es) k in
    let z : is_call e ≡ false = rw (a, b) in
    rw (z, marks_of) (marks_none es (at + length e) p q)

pub marks_long : (es : List Element) (at : ℕ) → length (marks_of at es) ≡ calls_of es
unfolding marks_of calls_of
marks_long [] at = refl
marks_long (e ∷ es) at =
    elim (see (is_call e)) [
      | is_true z ↦ rw (z, marks_of, calls_of) (ap suc (marks_long es (at + length e)))
      | is_false z ↦ rw (z, marks_of, calls_of) (marks_long es (at + length e))
    ]

among_first : (e : Element) (es : List Element) → among e (e ∷ es) ≡ true
unfolding among
among_first e es = rw same_refl

among_rest : (v e : Element) (es : List Element) → among v es ≡ true → among v (e ∷ es) ≡ true
unfolding among
among_rest v e es h = rw h (or_right (same v e))

variable_calm : (e : Element) → is_variable e ≡ true → is_call e ≡ false
variable_calm e h = let (a, b) = var_range e h in rw (ne_eqb (kind e) 6 (λ q. omega (arith, q)), ne_eqb (kind e) 7 (λ q. omega (arith, q)))

-- of a right side with its values put in
pub marks_put : (f b : List ℕ) (val : Element → List Element) (side : List Element) (at : ℕ)
    → ((v : Element) → among v side ≡ true → is_variable v ≡ true → Calm f b v (val v)) → ((v : Element) → is_variable v ≡ false → val v ≡ v ∷ []) → marks_of at (put val side) ≡ placed at b side
unfolding put marks_of placed
marks_put f b val [] at vs ls = refl
marks_put f b val (e ∷ side) at vs ls =
    let more : (n : ℕ) → marks_of n (put val side) ≡ placed n b side = λ n. marks_put f b val side n (λ v m. vs v (among_rest v e side m)) ls in
    let split : marks_of at (val e ++ put val side) ≡ marks_of at (val e) ++ marks_of (at + size (val e)) (put val side) = marks_append (val e) (put val side) at in
    elim (see (is_variable e)) [
      | is_true y ↦
          let c = vs e (among_first e side) y in
          let q : at + size (val e) ≡ at + span_of b e = omega (arith, c.long) in
          split ∙ rw (marks_none (val e) at c.no6 c.no7, q) (more (at + span_of b e) ∙ sym (placed_none b e side at (variable_calm e y)))
      | is_false y ↦
          let q : at + length e ≡ at + span_of b e = omega (arith, span_plain b e y) in
          elim (see (is_call e)) [
            | is_true z ↦ rw (ls e y) (rw (z, marks_of, q) (ap {B = List ℕ} (λ l. at ∷ l) (more (at + span_of b e)) ∙ sym (placed_one b e side at z)))
            | is_false z ↦ rw (ls e y) (rw (z, marks_of, q) (more (at + span_of b e) ∙ sym (placed_none b e side at z)))
          ]
    ]

-- NOTES OVER NOTES
pub noted-top : (calls vs : List ℕ) (first top : ℕ) → first + length vs ≡ top → top ≤ length calls → drop first (sets calls first vs) ≡ vs ++ drop top calls
noted-top calls vs first top e h =
    ap (drop first) (sets-eq vs calls first (omega arith)) ∙ ap (drop first) (append_assoc (take first calls) vs (drop (first + length vs) calls))
    ∙ drop_at (take first calls) _ first (length-take-le first calls (omega arith))
    ∙ ap {B = List ℕ} (λ (k : ℕ). vs ++ drop k calls) e

pub placed_long : (side : List Element) (b : List ℕ) (at : ℕ) → length (placed at b side) ≡ calls_of side
unfolding placed calls_of
placed_long [] b at = refl
placed_long (e ∷ side) b at =
    elim (see (is_call e)) [
      | is_true z ↦ rw (z, placed, calls_of) (ap suc (placed_long side b (at + span_of b e)))
      | is_false z ↦ rw (z, placed, calls_of) (placed_long side b (at + span_of b e))
    ]
