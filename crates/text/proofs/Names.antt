-- Names: what a token spells, their numbers, their records.
use mathlib.Core.Path.{◌≡◌, refl, sym, ◌∙◌, ap, ap₂}
use mathlib.Core.Bool.{Bool, true, false, ◌&&◌, ◌||◌, cond}
use mathlib.Core.Option.{Option, none, some}
use mathlib.Core.List.{List, [], ◌∷◌, ◌++◌, map, tail}
use Prim.Native.Nat.{ℕ, zero, suc, ◌+◌, ◌-◌, ◌≤◌, ◌<◌}
use native.Mathlib.Omega.{arith}
use lib.ListN.{length, drop, replicate}
use lib.Dec.{eqb, leb, ltb}
use borrow.Author.Tests.{leb-true}
use Rattle.meaning.specs.Elements.{Element, kind, same}
use Rattle.meaning.specs.Goodness.{span}
use Rattle.meaning.proofs.Truth.{is_true, is_false, see, or_false, and_left, and_right, same_eq, same_refl}
use Rattle.text.specs.Classes.{class_of, of, is_capital, is_letter, is_digit, in_name, ends_line, front, spell}
use Rattle.text.specs.Tokens.{Token, malformed, name, call, macrodigit, string, variable, sign, Lexeme, token, gap, tail_of, spelled, identifier, as_name, as_call, real, value, number, dotted, apart, indexed, Quoted, unclosed, closed, quoted, as_string, commented, as_gap, slashed, lex_of, lex, Placed, placed, follow, tokens}
use Rattle.text.specs.Numbering.{Key, name_key, number_of, has, adding}
use Rattle.text.specs.Reading.{element}
use Rattle.text.specs.Agreeing.{naming, Counted, over, other, known, first, Distinct, alone, besides}
use Rattle.text.specs.Answers.{record_of}

-- WHAT A TOKEN SPELLS

-- no byte is 0
pub data Solid : List ℕ → Type 0 where
  solid_none : Solid []
  solid_more : {b : ℕ} {x : List ℕ} → (b ≡ 0 → ⊥) → Solid x → Solid (b ∷ x)

abbrev pub Spelt : List ℕ → Type 0
Spelt x = Solid x × (length x ≤ 15)

abbrev pub Proper : Token → Type 0
Proper malformed = Unit {0}
Proper (name x) = Spelt x
Proper (call x) = Spelt x
Proper (macrodigit n) = Unit {0}
Proper (string x) = Unit {0}
Proper (variable b x) = Unit {0}
Proper (sign c) = Unit {0}

abbrev ProperL : Lexeme → Type 0
ProperL (token t n) = Proper t
ProperL (gap n) = Unit {0}

cond_proper : (c : Bool) (x y : Lexeme) → ProperL x → ProperL y → ProperL (cond c x y)
cond_proper true x y h k = h
cond_proper false x y h k = k

-- a byte that is not 0 is not spelt 0
spell_solid : (b : ℕ) → (b ≡ 0 → ⊥) → spell b ≡ 0 → ⊥
spell_solid b n e =
    elim (see (is_capital b)) [
      | is_true c ↦ (let z : b + 32 ≡ 0 = rw c at e in omega arith)
      | is_false c ↦
          elim (see (eqb b 95)) [
            | is_true d ↦ (let z : ◌≡◌ {A = ℕ} 45 0 = rw (c, d) at e in omega arith)
            | is_false d ↦ n (rw (c, d) at e)
          ]
    ]

in_name_solid : (b : ℕ) → in_name b ≡ true → b ≡ 0 → ⊥
unfolding of class_of span
in_name_solid b h e = absurd (let z : false ≡ true = rw e at h in (let w : ◌≡◌ {A = ℕ} 0 1 = cc in omega arith))

front_solid : (bs : List ℕ) → Solid (map spell (front in_name bs))
unfolding front
front_solid [] = solid_none
front_solid (b ∷ bs) =
    elim (see (in_name b)) [
      | is_true h ↦ rw (h, map) (solid_more (spell_solid b (in_name_solid b h)) (front_solid bs))
      | is_false h ↦ rw (h, map) solid_none
    ]

length-map : (xs : List ℕ) → length (map spell xs) ≡ length xs
length-map [] = refl
length-map (x ∷ xs) = ap suc (length-map xs)

abbrev SpeltO : Option (List ℕ) → Type 0
SpeltO none = Unit {0}
SpeltO (some x) = Spelt x

capital_solid : (b : ℕ) → is_capital b ≡ true → b ≡ 0 → ⊥
unfolding of class_of span
capital_solid b h e = absurd (let z : false ≡ true = rw e at h in (let w : ◌≡◌ {A = ℕ} 0 1 = cc in omega arith))

identifier_spelt : (bs : List ℕ) → SpeltO (identifier bs)
unfolding identifier spelled tail_of
identifier_spelt [] = tt
identifier_spelt (b ∷ bs) =
    elim (see (is_capital b && leb (length (front in_name bs)) 14)) [
      | is_true h ↦
          let short : length (front in_name bs) ≤ 14 = leb-true _ 14 (and_right (is_capital b) _ h) in
          rw h (solid_more (capital_solid b (and_left _ (leb (length (front in_name bs)) 14) h)) (front_solid bs), omega (arith, length-map (front in_name bs)))
      | is_false h ↦ rw h tt
    ]

name_proper : (o : Option (List ℕ)) → SpeltO o → ProperL (as_name o)
name_proper none h = tt
name_proper (some x) h = h

call_proper : (o : Option (List ℕ)) → SpeltO o → ProperL (as_call o)
call_proper none h = tt
call_proper (some x) h = h

number_proper : (ds rest : List ℕ) → ProperL (number ds rest)
unfolding number
number_proper ds rest = cond_proper (real rest || ltb 4294967295 (value 0 ds)) _ _ tt tt

dotted_proper : (b : ℕ) (ds x : List ℕ) → ProperL (dotted b ds x)
unfolding dotted
dotted_proper b ds [] = tt
dotted_proper b ds (c ∷ x) = cond_proper (eqb (length ds) (suc (length x))) _ _ tt (cond_proper (is_letter c && leb (length x) 14) _ _ tt tt)

indexed_proper : (b : ℕ) (bs : List ℕ) → ProperL (indexed b bs)
unfolding indexed
indexed_proper b [] = tt
indexed_proper b (c ∷ bs) = cond_proper (eqb c 46) _ _ (dotted_proper b (front is_digit bs) (front in_name bs)) (cond_proper ((is_capital c || is_digit c) && apart bs) _ _ tt tt)

string_proper : (x : Quoted) → ProperL (as_string x)
string_proper unclosed = tt
string_proper (closed x n) = cond_proper (leb (length x) 255) _ _ tt tt

gap_proper : (o : Option ℕ) → ProperL (as_gap o)
gap_proper none = tt
gap_proper (some n) = tt

slashed_proper : (bs : List ℕ) → ProperL (slashed bs)
unfolding slashed
slashed_proper [] = tt
slashed_proper (b ∷ bs) = cond_proper (eqb b 42) _ _ (gap_proper (commented false bs)) tt

lex_of_proper : (k : ℕ) (c : Bool) (b : ℕ) (bs : List ℕ) → ProperL (lex_of k c b bs)
unfolding lex_of
lex_of_proper k c b bs =
    cond_proper (eqb k 1 || eqb k 12) _ _ tt
    (cond_proper (eqb k 2) _ _ (slashed_proper bs)
    (cond_proper (eqb k 3) _ _ (name_proper (identifier (b ∷ bs)) (identifier_spelt (b ∷ bs)))
    (cond_proper (eqb k 5) _ _ (indexed_proper b bs)
    (cond_proper (eqb k 6) _ _ (number_proper (b ∷ front is_digit bs) (drop (length (front is_digit bs)) bs))
    (cond_proper (eqb k 8) _ _ (string_proper (quoted b false bs))
    (cond_proper (eqb k 9) _ _ tt
    (cond_proper (eqb k 10) _ _ (call_proper (identifier bs) (identifier_spelt bs))
    (cond_proper (eqb k 11 && c) _ _ tt tt))))))))

pub data AllProper : List Placed → Type 0 where
  no_token : AllProper []
  one_more : {i : ℕ} {t : Token} {ts : List Placed} → Proper t → AllProper ts → AllProper (placed i t ∷ ts)

pub tokens_proper : (n : ℕ) (c : Bool) (i : ℕ) (bs : List ℕ) → AllProper (tokens n c i bs)
unfolding tokens follow
tokens_proper n c i [] = no_token
tokens_proper zero c i (b ∷ bs) = follows (lex c b bs) (unfold lex in lex_of_proper (class_of b) c b bs) (λ n. tokens_proper n (ends_line b) (suc i) bs)
  where
    follows : (x : Lexeme) → ProperL x → ((n : ℕ) → AllProper (tokens n (ends_line b) (suc i) bs)) → AllProper (follow i x (λ n. tokens n (ends_line b) (suc i) bs))
    follows (token t n) h rest = one_more h (rest n)
    follows (gap n) h rest = rest n
tokens_proper (suc n) c i (b ∷ bs) = tokens_proper n (ends_line b) (suc i) bs

-- NUMBERS

-- a name's key
pub record Named (k : Key) : Type 0 where
  pub spelling : List ℕ
  pub is : k ≡ 20 ∷ spelling
  pub spelt : Spelt spelling

pub data AllNamed : List Key → Type 0 where
  no_name : AllNamed []
  name_more : {k : Key} {ks : List Key} → Named k → AllNamed ks → AllNamed (k ∷ ks)

pub named_key : (x : List ℕ) → Spelt x → Named (name_key x)
unfolding name_key
named_key x h = record { spelling = x; is = refl; spelt = h }

pub named_snoc : {ks : List Key} {k : Key} → AllNamed ks → Named k → AllNamed (ks ++ (k ∷ []))
named_snoc no_name h = name_more h no_name
named_snoc (name_more k ks) h = name_more k (named_snoc ks h)

pub number-known : (x : Key) (ks : List Key) → has x ks ≡ true → number_of x ks < length ks
unfolding has number_of
number-known x [] h = absurd (let z : ◌≡◌ {A = ℕ} 0 1 = cc in omega arith)
number-known x (k ∷ ks) h =
    elim (see (same x k)) [
      | is_true s ↦ rw (s, number_of) (omega arith)
      | is_false s ↦
          let r : number_of x ks < length ks = number-known x ks (rw s at h) in
          elim (see (eqb (kind x) (kind k))) [
            | is_true e ↦ rw (s, e, number_of) (omega arith)
            | is_false e ↦ rw (s, e, number_of) (omega arith)
          ]
    ]

pub number_new : (x : Key) {ks : List Key} → Named x → AllNamed ks → has x ks ≡ false → number_of x ks ≡ length ks
unfolding has number_of
number_new x n no_name h = refl
number_new x n (name_more {k} {ks} m ms) h =
    let (s, g) = or_false (same x k) (has x ks) h in
    let r : number_of x ks ≡ length ks = number_new x n ms g in
    let e : eqb (kind x) (kind k) ≡ true = rw (n.is, m.is) in
    rw (s, e, number_of) (ap suc r)

pub adding-known : (x : Key) (ks : List Key) → has x ks ≡ true → adding x ks ≡ ks
unfolding adding
adding-known x ks h = rw h

pub adding_new : (x : Key) (ks : List Key) → has x ks ≡ false → adding x ks ≡ ks ++ (x ∷ [])
unfolding adding
adding_new x ks h = rw h

-- COUNTED

pub counted_other : {n m : ℕ} {es : List Element} (e : Element) → naming (kind e) ≡ false → Counted n es m → Counted n (es ++ (e ∷ [])) m
counted_other e h over = other h over
counted_other e h (other g c) = other g (counted_other e h c)
counted_other e h (known j k g l c) = known j k g l (counted_other e h c)
counted_other e h (first j g c) = first j g (counted_other e h c)

pub counted_known : {n m : ℕ} {es : List Element} (j k : ℕ) → naming j ≡ true → k < m → Counted n es m → Counted n (es ++ (element j k ∷ [])) m
counted_known j k h l over = known j k h l over
counted_known j k h l (other g c) = other g (counted_known j k h l c)
counted_known j k h l (known i p g q c) = known i p g q (counted_known j k h l c)
counted_known j k h l (first i g c) = first i g (counted_known j k h l c)

pub counted_first : {n m : ℕ} {es : List Element} (j : ℕ) → naming j ≡ true → Counted n es m → Counted n (es ++ (element j m ∷ [])) (suc m)
counted_first j h over = first j h over
counted_first j h (other g c) = other g (counted_first j h c)
counted_first j h (known i p g q c) = known i p g q (counted_first j h c)
counted_first j h (first i g c) = first i g (counted_first j h c)

-- RECORDS

same_no : (x y : List ℕ) → (x ≡ y → ⊥) → same x y ≡ false
same_no x y n = elim (see (same x y)) [ is_true h ↦ absurd (n (same_eq x y h)) | is_false h ↦ h ]

differ : (x y : List ℕ) → same x y ≡ false → x ≡ y → ⊥
differ x y h e = absurd (let z : true ≡ false = sym (same_refl y) ∙ ap (λ (u : List ℕ). same u y) (sym e) ∙ h in (let w : ◌≡◌ {A = ℕ} 1 0 = cc in omega arith))

has_snoc : (x y : Key) (ks : List Key) → has x ks ≡ false → same x y ≡ false → has x (ks ++ (y ∷ [])) ≡ false
unfolding has
has_snoc x y [] h s = rw s
has_snoc x y (k ∷ ks) h s = (let (a, b) = or_false (same x k) (has x ks) h in rw (a, has_snoc x y ks b s))

pub distinct_snoc : {ks : List Key} (x : Key) → Distinct ks → has x ks ≡ false → Distinct (ks ++ (x ∷ []))
unfolding has
distinct_snoc x alone h = besides refl alone
distinct_snoc y (besides {x} {xs} a d) h =
    let (b, c) = or_false (same y x) (has y xs) h in
    besides (has_snoc x y xs a (same_no x y (λ e. differ y x b (sym e)))) (distinct_snoc y d c)

-- a spelling and the zeros behind it tell the spelling
apart_zeros : {x y : List ℕ} (m n : ℕ) → Solid x → Solid y → x ++ replicate m 0 ≡ y ++ replicate n 0 → x ≡ y
apart_zeros m n solid_none solid_none e = refl
apart_zeros zero n solid_none (solid_more b h) e = absurd (let z : ◌≡◌ {A = ℕ} 0 1 = cc in omega arith)
apart_zeros (suc m) n solid_none (solid_more b h) e = absurd (b cc)
apart_zeros m zero (solid_more b h) solid_none e = absurd (let z : ◌≡◌ {A = ℕ} 0 1 = cc in omega arith)
apart_zeros m (suc n) (solid_more b h) solid_none e = absurd (b cc)
apart_zeros m n (solid_more b h) (solid_more c k) e = (let t = apart_zeros m n h k (ap tail e) in ap₂ {C = List ℕ} (λ u v. u ∷ v) (ap kind e) t)

record_tells : (x y : Key) → Named x → Named y → record_of x ≡ record_of y → x ≡ y
unfolding record_of
record_tells x y h k e =
    let m = 16 - length (20 ∷ h.spelling) in
    let n = 16 - length (20 ∷ k.spelling) in
    let d : 20 ∷ (h.spelling ++ replicate m 0) ≡ 20 ∷ (k.spelling ++ replicate n 0) = rw (h.is, k.is) at e in
    h.is ∙ ap {B = Key} (λ z. 20 ∷ z) (apart_zeros m n h.spelt.0 k.spelt.0 (ap tail d)) ∙ sym k.is

pub distinct_records : {ks : List Key} → AllNamed ks → Distinct ks → Distinct (map record_of ks)
unfolding has
distinct_records no_name alone = alone
distinct_records (name_more n ns) (besides {x} a d) = besides (away ns a) (distinct_records ns d)
  where
    away : {ks : List Key} → AllNamed ks → has x ks ≡ false → has (record_of x) (map record_of ks) ≡ false
    away no_name h = h
    away (name_more {k} {ks} m ms) h =
        let (b, c) = or_false (same x k) (has x ks) h in
        rw (same_no (record_of x) (record_of k) (λ e. differ x k b (record_tells x k n m e)), away ms c)
