-- Equal values, element by element.
use mathlib.Core.Path.{◌≡◌, refl, sym, ◌∙◌, ap}
use mathlib.Core.Bool.{Bool, true, false}
use mathlib.Core.List.{List, [], ◌∷◌, ◌++◌, append-nil}
use Prim.Native.Nat.{ℕ, suc, ◌+◌, ◌-◌, ◌^◌, ◌≤◌, ◌<◌}
use native.Mathlib.Omega.{arith}
use lib.ListN.{length, get_or, take, drop, length-take, length-drop, take-append-drop}
use lib.Seq.{take_at, take-add, drop-drop}
use Rattle.std.specs.Cmp.Lexicographic.{pointwise}
use Rattle.std.specs.Prelude.{nat_eq, Result, Ok, Err, Some, None}
use Rattle.std.specs.Result.{result_ok}
use Rattle.std.proofs.lemmas.Slice.Eq.{bytes_eq-Decides}
use Rattle.meaning.specs.Elements.{kind, body, elements, join}
use Rattle.meaning.proofs.Truth.{never}
use Rattle.meaning.proofs.Cutting.{Whole, w_none, w_more, cut-join, join-cut}
use Rattle.elements.specs.declared.Element.{Element}
use Rattle.elements.specs.declared.Element.TheVariants.{Character, Name, Macrodigit, Open, Close, Call, Return, SVariable, TVariable, EVariable, Equals, SentenceEnd, Header, FunctionEnd, ProgramEnd}
use Rattle.elements.specs.declared.Cursor.{Cursor}
use Rattle.elements.specs.declared.Unread.{Unread}
use Rattle.elements.specs.Bytes.{kind_of, number_of, digits, bytes_of, Told}
use Rattle.elements.specs.Reading.{Splits, ReadAt, got, Proper, more, ProperAt, Shared, both, differ, Comparing}
use Rattle.elements.proofs.Digits.{digits_same, two_bytes}
use Rattle.elements.proofs.Places.{here, cut_here, proper_splits, proper_too, not_unread, split_bytes, split_size}

-- the element of a kind with a number
element_of : ℕ → ℕ → Element
element_of k n =
    get_or (Open ∷ Character n ∷ Name n ∷ Macrodigit n ∷ Open ∷ Close ∷ Call n ∷ Return ∷ SVariable n ∷ TVariable n ∷ EVariable n ∷ Equals ∷ SentenceEnd ∷ Header n ∷ FunctionEnd ∷ ProgramEnd ∷ []) k Open

element_back : (x : Element) → element_of (kind_of x) (number_of x) ≡ x
unfolding element_of
element_back (Character n) = refl
element_back (Name n) = refl
element_back (Macrodigit n) = refl
element_back Open = refl
element_back Close = refl
element_back (Call n) = refl
element_back Return = refl
element_back (SVariable n) = refl
element_back (TVariable n) = refl
element_back (EVariable n) = refl
element_back Equals = refl
element_back SentenceEnd = refl
element_back (Header n) = refl
element_back FunctionEnd = refl
element_back ProgramEnd = refl

-- elements with the same bytes are one
same_element : (x y : Element) → number_of x < 256 ^ body (kind_of x) → number_of y < 256 ^ body (kind_of y) → bytes_of x ≡ bytes_of y → x ≡ y
same_element x y bx by q =
    let k : kind_of x ≡ kind_of y = cc in
    let z : digits (body (kind_of x)) (number_of x) ≡ digits (body (kind_of y)) (number_of y) = cc in
    let n : number_of x ≡ number_of y = digits_same _ _ _ bx (rw (← k) at by) (rw (← k) at z) in
    sym (element_back x) ∙ rw (k, n) (element_back y)

-- bytes that are cut into the same elements are the same
pub bytes_same : (a b : List ℕ) → elements a ≡ elements b → a ≡ b
bytes_same a b q = sym (join-cut a) ∙ ap join q ∙ join-cut b

pub bytes_told : (a b : List ℕ) {r : Bool} → r ≡ pointwise nat_eq a b → Told r (a ≡ b)
bytes_told a b {r} e = go r e
  where
    go : (r : Bool) → r ≡ pointwise nat_eq a b → Told r (a ≡ b)
    go true e = (bytes_eq-Decides a b).0 (sym e)
    go false e = λ q. let w = (bytes_eq-Decides a b).1 q in never (cc (e, w))

-- WHAT IS SHARED AT A PLACE

pub read_ok : {s : List ℕ} {at : ℕ} {r : Result (Element × Cursor) Unread} {x : Element} {c : Cursor} → ReadAt s at r → result_ok r ≡ Some (x, c) → ReadAt s at (Ok (x, c))
read_ok {r = Ok y} {x} {c} h q = let e : y ≡ (x, c) = cc in rw e at h
read_ok {r = Err u} h q = never (cc)

pub whole_read : {s : List ℕ} {at : ℕ} {r : Result (Element × Cursor) Unread} → ProperAt s at → ReadAt s at r → result_ok r ≡ None → ⊥
whole_read {r = Ok y} p h q = never (cc)
whole_read {r = Err u} p h q = not_unread p h

module _ (a b : List ℕ) (at : ℕ) where
  pub shared : {x y : Element} {c d : Cursor} → ReadAt a at (Ok (x, c)) → ReadAt b at (Ok (y, d)) → x ≡ y → Shared a b at (Some c.at)
  shared {x} {y} {c} {d} (got nx lx sx) (got ny ly sy) q =
      let e = ap bytes_of q in
      let z : d.at ≡ c.at = omega (arith, split_size sx, split_size sy, ap (λ (l : List ℕ). length (join (l ∷ []))) e, sx.on, sy.on) in
      both lx sx (rw (← e, z) at sy)

  pub different : {x y : Element} {c d : Cursor} → ReadAt a at (Ok (x, c)) → ReadAt b at (Ok (y, d)) → (x ≡ y → ⊥) → Shared a b at None
  different {x} {y} (got nx lx sx) (got ny ly sy) n = differ (λ q. n (same_element x y nx ny (cc (sx.front, sy.front))))

  pub lost : {r : Result (Element × Cursor) Unread} → ProperAt a at → ReadAt b at r → result_ok r ≡ None → Shared a b at None
  lost p h q = differ (λ e. whole_read (proper_too p e) h q)

-- a whole element's bytes
module _ (a b : List ℕ) (at t : ℕ) (p : ProperAt a at) (is : t ≡ at + 1 + body (get_or a at 0)) where
  split_a : Splits a at (p.e ∷ []) t
  split_a = rw is (proper_splits p)

  pub bytes_inside : t ≤ length a
  bytes_inside = split_a.fits

  whole_one : (e : List ℕ) → length e ≡ suc (body (kind e)) → Whole (e ∷ [])
  whole_one [] h = never (omega arith)
  whole_one (k ∷ bs) h = w_more {k = k} {b = bs} (omega arith) w_none

  pub bytes_shared : take (t - at) (drop at a) ≡ take (t - at) (drop at b) → Shared a b at (Some t)
  bytes_shared q =
      let n = split_size split_a in
      let z : at + (t - at) ≡ t = omega arith in
      let e : take (t - at) (drop at b) ≡ join (p.e ∷ []) = (sym q ∙ rw (split_bytes split_a) (take_at (join (p.e ∷ [])) (drop t a) (t - at) n)) in
      let d : drop at b ≡ join (p.e ∷ []) ++ drop t b = (sym (take-append-drop (t - at) (drop at b)) ∙ rw (e, drop-drop (t - at) at b, z)) in
      let l = simp (length-take, length-drop) at (ap length e) in
      both {t = t} (omega arith) split_a (record { on = omega arith; fits = omega arith; front = ap elements d ∙ cut-join (whole_one p.e p.whole.long) (drop t b) })

  pub bytes_apart : (take (t - at) (drop at a) ≡ take (t - at) (drop at b) → ⊥) → Shared a b at None
  bytes_apart f = differ (λ q. f (ap (λ (l : List ℕ). take (t - at) l) (bytes_same (drop at a) (drop at b) q)))

  pub bytes_short : length b < t → Shared a b at None
  bytes_short h =
      let f = split_a.fits in
      let g = split_a.on in
      bytes_apart (λ q. never (let e = simp (length-take, length-drop) at (ap length q) in omega arith))

-- THE LOOP

pub compare_proper : (a b : List ℕ) (at : ℕ) → Comparing a b at → at < length a → ProperAt a at
compare_proper a b at k h = go (rw (cut_here a at h) at k.proper)
  where
    go : Proper (here a at h ∷ elements (drop (at + 1 + body (get_or a at 0)) a)) → ProperAt a at
    go (more w p) = record { e = here a at h; es = _; is = cut_here a at h; whole = w }

-- the bytes before t are those before `at` and the element
fronts : {s : List ℕ} {at : ℕ} {e : List ℕ} {t : ℕ} → Splits s at (e ∷ []) t → take t s ≡ take at s ++ e
fronts {s} {at} {e} {t} p =
    let l = p.on in
    let n : length e ≡ t - at = split_size_one p in
    let z : at + (t - at) ≡ t = omega arith in
    (rw z at (take-add at (t - at) s)) ∙ rw (split_bytes_one p, take_at e (drop t s) (t - at) n)
  where
    split_bytes_one : Splits s at (e ∷ []) t → drop at s ≡ e ++ drop t s
    split_bytes_one q = unfold join in (simp append-nil at (split_bytes q))

    split_size_one : Splits s at (e ∷ []) t → length e ≡ t - at
    split_size_one q = unfold join in (simp append-nil at (split_size q))

pub compare_on : (a b : List ℕ) (at t : ℕ) → Comparing a b at → Shared a b at (Some t) → Comparing a b t
compare_on a b at t k (both {e} l p q) = record {
  fits = p.fits;
  long = k.long;
  proper = rest (rw p.front at k.proper);
  same = fronts p ∙ rw k.same (sym (fronts q));
}
  where
    rest : Proper (e ∷ elements (drop t a)) → Proper (elements (drop t a))
    rest (more w r) = r

-- one character more
module _ (a b : List ℕ) (at : ℕ) (k : Comparing a b at) (h : at < length a) (e : get_or a at 0 ≡ 1) where
  character_inside : at + 2 ≤ length a
  unfolding body
  character_inside =
      let f : at + 1 + body 1 ≤ length a = rw e at (proper_splits (compare_proper a b at k h)).fits in
      omega arith

  pub compare_character : get_or b at 0 ≡ 1 → get_or a (at + 1) 0 ≡ get_or b (at + 1) 0 → Comparing a b (at + 2)
  unfolding body
  compare_character eb q =
      let l = character_inside in
      let n = k.long in
      let is : at + 2 ≡ at + 1 + body (get_or a at 0) = rw e (omega arith) in
      let z : at + 2 - at ≡ 2 = omega arith in
      let two : take 2 (drop at a) ≡ take 2 (drop at b) = (let g : get_or a at 0 ≡ get_or b at 0 = e ∙ sym eb in two_bytes a at l ∙ rw (g, q) (sym (two_bytes b at (omega arith)))) in
      compare_on a b at (at + 2) k (bytes_shared a b at (at + 2) (compare_proper a b at k h) is (rw z two))

pub compare_lost : (a b : List ℕ) (at : ℕ) → Shared a b at None → elements a ≡ elements b → ⊥
compare_lost a b at (differ f) q = f (ap (λ (l : List ℕ). elements (drop at l)) (bytes_same a b q))

pub lengths_differ : (a b : List ℕ) → (length a ≡ length b → ⊥) → elements a ≡ elements b → ⊥
lengths_differ a b n q = n (ap length (bytes_same a b q))
