-- A program read element by element: places and elements.
use mathlib.Core.Path.{◌≡◌, refl, sym, ◌∙◌, ap}
use mathlib.Core.Bool.{Bool, true, false}
use mathlib.Core.List.{List, [], ◌∷◌}
use Prim.Native.Nat.{ℕ, suc, ◌+◌, ◌*◌, ◌/◌, ◌%◌, ◌≤◌, ◌<◌}
use native.Mathlib.Omega.{arith}
use native.Mathlib.Numerals.{add-one}
use lib.ListN.{length, get_or, take, drop, length-take, length-drop}
use lib.Seq.{get_or-take, get_or-drop, drop-cons}
use lib.Dec.{eqb, leb}
use borrow.Author.Tests.{eq-eqb, ne_eqb, eqb-true, leb-true, leb-false}
use Rattle.meaning.specs.Elements.{Element, kind, is_kind, body, size, same}
use Rattle.meaning.specs.Machine.{before, holds, function}
use Rattle.meaning.proofs.Truth.{never, is_true, is_false, see, same_eq, same_refl}
use Rattle.meaning.proofs.Cutting.{Whole, w_none, w_more}
use Rattle.meaning.proofs.Programs.{before_here, before_on, Body, Bodies, bodies_none, bodies_more}
use Rattle.elements.specs.declared.Cursor.{Cursor}
use Rattle.elements.specs.Bytes.{digits, Told}
use Rattle.elements.specs.Reading.{NumberedAt, PassedOver}
use Rattle.scanning.proofs.Marks.{size-nil, size-cons}
use Rattle.building.proofs.Sides.{kind_first, side_is, side_within, side_rest, side_end}
use Rattle.std.specs.Prelude.{Some, None}
use Rattle.choosing.specs.Choose.{rest_of, element_at, sentences, Program, Looked, there, nowhere}

pub whole_one : (e : Element) (es zs : List Element) → zs ≡ e ∷ es → Whole zs → length e ≡ suc (body (kind e))
whole_one e es zs q w_none = never (cc)
whole_one e es zs q (w_more {k} {b} h w) = let i : k ∷ b ≡ e = cc in rw (← i) (ap suc h)

-- ONE ELEMENT
module _ (p : List ℕ) (at : ℕ) (h : at < length p) (w : Whole (rest_of p at)) where
  pub rest_is : rest_of p at ≡ element_at p at ∷ rest_of p (at + 1 + body (get_or p at 0))
  unfolding rest_of
  rest_is = side_is p at (length p) (omega arith) h (unfold rest_of in w)

  pub rest_within : at + 1 + body (get_or p at 0) ≤ length p
  rest_within = side_within p at (length p) (omega arith) h (unfold rest_of in w)

  pub rest_rest : Whole (rest_of p (at + 1 + body (get_or p at 0)))
  unfolding rest_of
  rest_rest = side_rest p at (length p) (omega arith) h (unfold rest_of in w)

  pub kind_el : kind (element_at p at) ≡ get_or p at 0
  kind_el =
      let q : at + 0 ≡ at = omega arith in
      kind_first (element_at p at) ∙ get_or-take (1 + body (get_or p at 0)) (drop at p) 0 0 (omega arith) ∙ get_or-drop at p 0 0 ∙ rw q

  pub first_kind : (e : Element) (es : List Element) → rest_of p at ≡ e ∷ es → kind e ≡ get_or p at 0
  first_kind e es q =
      let j : element_at p at ∷ rest_of p (at + 1 + body (get_or p at 0)) ≡ e ∷ es = sym rest_is ∙ q in
      let i : element_at p at ≡ e = cc in
      rw i at kind_el

  pub long_el : length (element_at p at) ≡ 1 + body (get_or p at 0)
  long_el = omega (arith, length-take (1 + body (get_or p at 0)) (drop at p), length-drop at p, rest_within)

-- a header has room for its name
pub header_fits : {p : List ℕ} {at k n : ℕ} → at < length p → Whole (rest_of p at) → PassedOver p at k n → k ≡ 13 → at + 1 + body 13 ≤ length p
header_fits {p} {at} h w q e = let z : get_or p at 0 ≡ 13 = sym q.kind_is ∙ e in rw z at (rest_within p at h w)

pub rest_end : (p : List ℕ) (at : ℕ) → length p ≤ at → rest_of p at ≡ []
unfolding rest_of
rest_end p at h = side_end p at (length p) h (omega arith)

-- what has an element begins inside the program
pub rest_in : (p : List ℕ) (at : ℕ) → (rest_of p at ≡ [] → ⊥) → at < length p
rest_in p at n =
    elim (see (leb (length p) at)) [
      | is_true z ↦ absurd (n (rest_end p at (leb-true _ _ z)))
      | is_false z ↦ leb-false _ _ z
    ]

-- SEEKING A KIND
pub record Seeking (p : List ℕ) (from k i : ℕ) : Type 0 where
  pub whole : Whole (rest_of p i)
  pub some : holds k (rest_of p i) ≡ true
  pub so : from + size (before k (rest_of p from)) ≡ i + size (before k (rest_of p i))

module _ {p : List ℕ} {from k i : ℕ} (s : Seeking p from k i) where
  pub seek_in : i < length p
  unfolding holds
  seek_in = rest_in p i (λ e. never (let z : false ≡ true = rw e at s.some in cc))

  pub seek_here : get_or p i 0 ≡ k → i ≡ from + size (before k (rest_of p from))
  seek_here e =
      let z : size (before k (rest_of p i)) ≡ 0 =
      ap (λ (l : List Element). size (before k l)) (rest_is p i seek_in s.whole)
      ∙ ap size (before_here k _ _ (rw (kind_el p i seek_in s.whole) (eq-eqb (get_or p i 0) k e)))
      ∙ size-nil in
      omega (arith, s.so)

  pub seek_next : (get_or p i 0 ≡ k → ⊥) → (n : ℕ) → n ≡ i + 1 + body (get_or p i 0) → Seeking p from k n
  unfolding holds
  seek_next e n q =
      let no : is_kind k (element_at p i) ≡ false = rw (kind_el p i seek_in s.whole) (ne_eqb (get_or p i 0) k e) in
      let z : size (before k (rest_of p i)) ≡ length (element_at p i) + size (before k (rest_of p (i + 1 + body (get_or p i 0)))) =
      ap (λ (l : List Element). size (before k l)) (rest_is p i seek_in s.whole)
      ∙ ap size (before_on k _ _ no)
      ∙ size-cons (element_at p i) _ in
      record {
        whole = rw q (rest_rest p i seek_in s.whole);
        some = rw q (rw (rest_is p i seek_in s.whole, no) at s.some);
        so = rw q (omega (arith, s.so, long_el p i seek_in s.whole));
      }

-- NAMES

told : (b : Bool) {P : Type 0} → (b ≡ true → P) → (P → b ≡ true) → Told b P
told true f g = f refl
told false f g = λ x. never (let z = g x in cc)

-- bytes compared one by one
pub bytes_told : (n lo hi : ℕ) → n < 65536 → n % 256 ≡ lo → Told (eqb (n / 256) hi) (digits 2 n ≡ lo ∷ hi ∷ [])
unfolding digits
bytes_told n lo hi h e =
    let d : n / 256 % 256 ≡ n / 256 = omega arith in
    told (eqb (n / 256) hi) (λ y. rw (e, d, eqb-true (n / 256) hi y)) (λ y. eq-eqb (n / 256) hi (let z : n / 256 % 256 ≡ hi = cc in sym d ∙ z))

pub low_byte : (n lo hi : ℕ) → digits 2 n ≡ lo ∷ hi ∷ [] → n % 256 ≡ lo
unfolding digits
low_byte n lo hi e = cc

-- the number of two bytes
pub number_is : {n lo hi : ℕ} → n < 65536 → digits 2 n ≡ lo ∷ hi ∷ [] → n ≡ lo + hi * 256
unfolding digits
number_is {n} {lo} {hi} h e =
    let a : n % 256 ≡ lo = cc in
    let b : n / 256 % 256 ≡ hi = cc in
    omega arith

-- HEADERS
module _ (p : List ℕ) (at : ℕ) (fits : at + 1 + body (get_or p at 0) ≤ length p) where
  el_is : element_at p at ≡ get_or p at 0 ∷ take (body (get_or p at 0)) (drop (at + 1) p)
  el_is =
      let u : 1 + body (get_or p at 0) ≡ suc (body (get_or p at 0)) = omega arith in
      let d : drop at p ≡ get_or p at 0 ∷ drop (at + 1) p = drop-cons p at 0 (omega arith) ∙ rw add-one in
      rw (u, d)

  pub no_header : (get_or p at 0 ≡ 13 → ⊥) → (name : List ℕ) → same (element_at p at) (13 ∷ name) ≡ false
  unfolding same
  no_header n name = rw (el_is, ne_eqb (get_or p at 0) 13 n)

  module _ (k : get_or p at 0 ≡ 13) where
    header_is : element_at p at ≡ 13 ∷ take 2 (drop (at + 1) p)
    unfolding body
    header_is = el_is ∙ rw k

    -- whether a header that was read has a name
    pub header_same : {n next : ℕ} → NumberedAt p at 13 n next → (b : Bool) (name : List ℕ) → Told b (digits 2 n ≡ name) → same (element_at p at) (13 ∷ name) ≡ b
    unfolding body
    header_same r true name e = rw (header_is, sym r.bytes ∙ e) (same_refl (13 ∷ name))
    header_same {n} r false name f =
        elim (see (same (element_at p at) (13 ∷ name))) [
          | is_false z ↦ z
          | is_true z ↦
              let e : 13 ∷ take 2 (drop (at + 1) p) ≡ 13 ∷ name = sym header_is ∙ same_eq _ _ z in
              absurd (f (let q = r.bytes in cc))
        ]

-- FINDING A FUNCTION
pub record Finding (p name : List ℕ) (i : ℕ) : Type 0 where
  pub upto : i ≤ length p
  pub whole : Whole (rest_of p i)
  pub bodies : Bodies (rest_of p i)
  pub so : function name (rest_of p 0) ≡ function name (rest_of p i)

pub bodies_first : {zs : List Element} (e : Element) (es : List Element) → Bodies zs → zs ≡ e ∷ es → (kind e ≡ 13 → Body es) × Bodies es
bodies_first e es bodies_none q = never (cc)
bodies_first e es (bodies_more {e = e'} {es = es'} h r) q =
    let i : e' ≡ e = cc in let j : es' ≡ es = cc in
    (λ k. rw j at (h (rw i k)), rw j at r)

pub finding_start : (p name : List ℕ) → Program p → Finding p name 0
finding_start p name g = record { upto = omega arith; whole = g.whole; bodies = g.bodies; so = refl }

module _ {p name : List ℕ} {i : ℕ} (s : Finding p name i) where
  module _ (h : i < length p) {k n : ℕ} (q : PassedOver p i k n) where
    pub found_here : same (element_at p i) (13 ∷ name) ≡ true → (c : Cursor) → c.at ≡ n → Looked p name (Some c)
    unfolding function sentences
    found_here z c e =
        let j : c.at ≡ i + 1 + body (get_or p i 0) = e ∙ q.next_is in
        there {c = c}
        (rw j (s.so ∙ ap (function name) (rest_is p i h s.whole) ∙ rw (z, function)))
        (rw j (rest_within p i h s.whole))
        (rw j (rest_rest p i h s.whole))
        (rw j ((bodies_first _ _ s.bodies (rest_is p i h s.whole)).0 (ap kind (same_eq _ _ z))))

    found_not : same (element_at p i) (13 ∷ name) ≡ false → Finding p name n
    unfolding function
    found_not z =
        rw q.next_is
        (record {
          upto = rest_within p i h s.whole;
          whole = rest_rest p i h s.whole;
          bodies = (bodies_first _ _ s.bodies (rest_is p i h s.whole)).1;
          so = s.so ∙ ap (function name) (rest_is p i h s.whole) ∙ rw (z, function);
        })

    pub found_other : (k ≡ 13 → ⊥) → Finding p name n
    found_other f = found_not (no_header p i (rest_within p i h s.whole) (λ e. f (q.kind_is ∙ e)) name)

    pub named_here : k ≡ 13 → {m next : ℕ} → NumberedAt p i 13 m next → {b : Bool} → Told b (digits 2 m ≡ name) → b ≡ true → (c : Cursor) → c.at ≡ n → Looked p name (Some c)
    named_here e r {b} t z = found_here (header_same p i (rest_within p i h s.whole) (sym q.kind_is ∙ e) r b name t ∙ z)

    pub named-not : k ≡ 13 → {m next : ℕ} → NumberedAt p i 13 m next → {b : Bool} → Told b (digits 2 m ≡ name) → b ≡ false → Finding p name n
    named-not e r {b} t z = found_not (header_same p i (rest_within p i h s.whole) (sym q.kind_is ∙ e) r b name t ∙ z)

  pub found_end : length p ≤ i → Looked p name None
  unfolding function
  found_end h = nowhere (s.so ∙ ap (function name) (rest_end p i h))
