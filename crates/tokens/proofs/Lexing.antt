-- What the code's lexemes stand for, kind by kind.
use mathlib.Core.Logic.{◌⊎◌, inl, inr}
use mathlib.Core.Path.{◌≡◌, refl, sym, ◌∙◌, ap, ap₂}
use mathlib.Core.Bool.{Bool, true, false, ◌&&◌, ◌||◌, not, cond}
use mathlib.Core.Option.{Option as Maybe, none, some}
use mathlib.Core.List.{List, [], ◌∷◌, map, tail}
use Prim.Native.Nat.{ℕ, zero, suc, ◌+◌, ◌-◌, ◌≤◌, ◌<◌}
use native.Mathlib.Omega.{arith}
use native.Mathlib.Numerals.{add-one}
use lib.ListN.{length, get_or, take, drop, drop_of_length-le}
use lib.Seq.{drop-cons, drop-drop, get_or-drop}
use lib.Dec.{eqb, leb, ltb}
use borrow.Author.Tests.{eq-eqb, ne_eqb, le-leb, lt-leb, leb-true, leb-false, ltb-true, ltb-false}
use Rattle.meaning.specs.Goodness.{span}
use Rattle.meaning.proofs.Truth.{never, is_true, is_false, see, or_right, and_left, and_right, span_le}
use Rattle.text.specs.Classes.{class_of, of, is_capital, is_letter, is_digit, in_name, in_line, front, spell}
use Rattle.text.specs.Tokens.{name, call, string, variable, sign, Lexeme as Meant, token, gap, wrong, tail_of, spelled, identifier, as_name, as_call, real, value, number, trim, dotted, apart, indexed, Quoted as Chars, unclosed, closed, quoted, as_string, commented, as_gap, slashed, lex_of, lex}
use Rattle.classes.specs.Table.{number_of, spelling, part}
use Rattle.classes.specs.declared.Class.{Class}
use Rattle.classes.specs.declared.Class.TheVariants.{Other, Blank, Small, Dash, LineEnd}
use Rattle.classes.proofs.Runs.{of_yes, of_low, of_high, of_eq, of_ne, run_yes, run_no, run_past, run_most}
use Rattle.tokens.specs.Lexemes.{past_name, closed_at, past_at, ended, Sums, column_at, number_at, starred_at, Trimmed, dotted_at, lex_at, characters_of, token_of, lexeme_of, Proper, Tells}
use Rattle.tokens.specs.declared.Token.{Token}
use Rattle.tokens.specs.declared.Token.TheVariants as T
use Rattle.tokens.specs.declared.Lexeme.{Lexeme}
use Rattle.std.specs.Prelude.{Option, Some, None}
use Rattle.tokens.specs.declared.Closed.{Closed}
use Rattle.tokens.proofs.Digits.{cap_over, cap_under}
use Rattle.tokens.proofs.Comments.{one_class}

-- a token that ends at e stands for x
abbrev pub Whole : List ℕ → ℕ → Token → ℕ → Meant → Type 0
Whole s at t e x = (at < e) × (lexeme_of s at t (e - (at + 1)) ≡ x) × Proper s at t e

-- a lexeme made of a token and its end
pub tells : {s : List ℕ} {at : ℕ} {r : Lexeme} {x : Meant} (t : Token) (e : ℕ) → (r.token ≡ t) × (r.end ≡ e) → Whole s at t e x → Tells s at r x
tells t e (p, q) (l, h, o) = record { is = rw (p, q) h; ahead = rw q l; proper = rw (p, q) o }

-- a malformed one
pub tells_wrong : {s : List ℕ} {at : ℕ} {r : Lexeme} {x : Meant} → (r.token ≡ T.Malformed) × (r.end ≡ at + 1) → wrong ≡ x → Tells s at r x
unfolding lexeme_of token_of
tells_wrong {at = at} m h = tells T.Malformed (at + 1) m (omega arith, h, tt)

-- a test of a byte by its class
pub by_span : (lo hi k b : ℕ) → k ≡ class_of b → of lo hi b ≡ span lo hi k
unfolding of
by_span lo hi k b e = rw (← e)

-- IDENTIFIERS

pub data Identified (bs : List ℕ) : Type 0 where
  no_name : identifier bs ≡ none → Identified bs
  a_name : identifier bs ≡ some (spelled bs) → 0 < length (spelled bs) → length (spelled bs) ≤ 15 → is_capital (get_or bs 0 0) ≡ true → Identified bs

length-spell : (xs : List ℕ) → length (map spell xs) ≡ length xs
length-spell [] = refl
length-spell (x ∷ xs) = ap suc (length-spell xs)

spelled_inside : (s : List ℕ) (i : ℕ) → 0 < length (spelled (drop i s)) → i < length s
unfolding spelled tail_of
spelled_inside s i h =
    elim (see (leb (length s) i)) [
      | is_true l ↦ absurd (omega (arith, h, ap (λ (x : List ℕ). length (spelled x)) (drop_of_length-le s (leb-true (length s) i l))))
      | is_false l ↦ leb-false (length s) i l
    ]

pub see_name : (bs : List ℕ) → Identified bs
unfolding identifier spelled tail_of
see_name [] = no_name refl
see_name (b ∷ bs) =
    elim (see (is_capital b && leb (length (front in_name bs)) 14)) [
      | is_true h ↦
          let short : length (front in_name bs) ≤ 14 = leb-true _ 14 (and_right (is_capital b) _ h) in
          a_name (rw h) (omega arith) (omega (arith, length-spell (front in_name bs))) (and_left (is_capital b) _ h)
      | is_false h ↦ no_name (rw h)
    ]

-- what `ended` makes of an end
module _ (at : ℕ) (t : Token) (o : Option ℕ) (r : Lexeme) (e : r ≡ ended at t o) where
  ended_none : o ≡ None → (r.token ≡ T.Malformed) × (r.end ≡ at + 1)
  ended_none d = (let f : r ≡ ended at t None = e ∙ ap (ended at t) d in (ap (λ (z : Lexeme). z.token) f, ap (λ (z : Lexeme). z.end) f))

  ended_some : {k : ℕ} → o ≡ Some k → (r.token ≡ t) × (r.end ≡ k)
  ended_some {k} d = (let f : r ≡ ended at t (Some k) = e ∙ ap (ended at t) d in (ap (λ (z : Lexeme). z.token) f, ap (λ (z : Lexeme). z.end) f))

none_some : {A : Type 0} {k : ℕ} → ◌≡◌ {A = Option ℕ} None (Some k) → A
none_some e = never (cc)

some_same : {a b : ℕ} → ◌≡◌ {A = Option ℕ} (Some a) (Some b) → a ≡ b
some_same e = cc

module _ (s : List ℕ) (at : ℕ) {o : Option ℕ} {r : Lexeme} where
  pub name_told : o ≡ past_name at (identifier (drop at s)) → r ≡ ended at T.Name o → Tells s at r (as_name (identifier (drop at s)))
  unfolding lexeme_of token_of
  name_told d e =
      elim (see_name (drop at s)) [
        | no_name h ↦ tells_wrong (ended_none at T.Name o r e (d ∙ ap (past_name at) h)) (rw h)
        | a_name h p q k ↦
            let w : at + length (spelled (drop at s)) - (at + 1) ≡ length (spelled (drop at s)) - 1 = omega arith in
            let z : at + 0 ≡ at = omega arith in
            tells T.Name (at + length (spelled (drop at s))) (ended_some at T.Name o r e (d ∙ ap (past_name at) h))
            (omega arith, rw h (ap {B = Meant} (λ n. token (name (spelled (drop at s))) n) w), (rw (get_or-drop at s 0 0, z) at k, q, refl))
      ]

module _ (s : List ℕ) (at : ℕ) {r : Lexeme} where
  pub call_none : None ≡ past_name (at + 1) (identifier (drop (at + 1) s)) → (r.token ≡ T.Malformed) × (r.end ≡ at + 1) → Tells s at r (as_call (identifier (drop (at + 1) s)))
  unfolding lexeme_of token_of
  call_none d e =
      elim (see_name (drop (at + 1) s)) [
        | no_name h ↦ tells_wrong e (rw h)
        | a_name h p q k ↦ none_some (d ∙ ap (past_name (at + 1)) h)
      ]

  pub call_some : {k : ℕ} → Some k ≡ past_name (at + 1) (identifier (drop (at + 1) s)) → (r.token ≡ T.Call) × (r.end ≡ k) → Tells s at r (as_call (identifier (drop (at + 1) s)))
  unfolding lexeme_of token_of
  call_some d (f, e) =
      elim (see_name (drop (at + 1) s)) [
        | no_name h ↦ none_some (sym (d ∙ ap (past_name (at + 1)) h))
        | a_name h p q k ↦
            let w : at + 1 + length (spelled (drop (at + 1) s)) - (at + 1) ≡ length (spelled (drop (at + 1) s)) = omega arith in
            let there = e ∙ some_same (d ∙ ap (past_name (at + 1)) h) in
            tells T.Call (at + 1 + length (spelled (drop (at + 1) s))) (f, there)
            (omega arith, rw h (ap {B = Meant} (λ n. token (call (spelled (drop (at + 1) s))) n) w), (spelled_inside s (at + 1) p, q, refl))
      ]

-- where an identifier ends
module _ (s : List ℕ) (i : ℕ) where
  pub ends_out : length s ≤ i → None ≡ past_name i (identifier (drop i s))
  unfolding identifier
  ends_out h = rw (drop_of_length-le s h)

  module _ (h : i < length s) (k : ℕ) (q : k ≡ class_of (get_or s i 0)) where
    pub ends_other : (k ≡ 3 → ⊥) → None ≡ past_name i (identifier (drop i s))
    unfolding identifier
    ends_other n = rw (drop-cons s i 0 h, of_ne 3 _ k q n)

    module _ (t : k ≡ 3) (e : ℕ) (d : e ≡ i + 1 + length (front in_name (drop (i + 1) s))) where
      pub ends_name : e ≤ i + 15 → Some e ≡ past_name i (identifier (drop i s))
      unfolding identifier spelled tail_of
      ends_name l =
          let n : length (front in_name (drop (i + 1) s)) ≡ length (front in_name (drop (suc i) s)) = ap (λ (j : ℕ). length (front in_name (drop j s))) (add-one i) in
          let m : length (front in_name (drop (suc i) s)) ≤ 14 = omega arith in
          rw (drop-cons s i 0 h, of_eq 3 _ k q t, le-leb _ 14 m)
          (ap {B = Option ℕ} (λ x. Some x) (omega (arith, length-spell (front in_name (drop (suc i) s)))))

      pub ends_long : i + 15 < e → None ≡ past_name i (identifier (drop i s))
      unfolding identifier
      ends_long l =
          let n : length (front in_name (drop (i + 1) s)) ≡ length (front in_name (drop (suc i) s)) = ap (λ (j : ℕ). length (front in_name (drop j s))) (add-one i) in
          let m : 14 < length (front in_name (drop (suc i) s)) = omega arith in
          rw (drop-cons s i 0 h, of_eq 3 _ k q t, lt-leb _ 14 m)

-- STRINGS

pub string_open : (s : List ℕ) (at : ℕ) → None ≡ closed_at (at + 1) 0 (quoted (get_or s at 0) false (drop (at + 1) s)) → wrong ≡ as_string (quoted (get_or s at 0) false (drop (at + 1) s))
string_open s at e = go (quoted (get_or s at 0) false (drop (at + 1) s)) e
  where
    go : (x : Chars) → None ≡ closed_at (at + 1) 0 x → wrong ≡ as_string x
    go unclosed e = refl
    go (closed x m) e = absurd (cc)

module _ (s : List ℕ) (at : ℕ) (c : Closed) (e : Some c ≡ closed_at (at + 1) 0 (quoted (get_or s at 0) false (drop (at + 1) s))) where
  pub string_long : 255 < c.characters → wrong ≡ as_string (quoted (get_or s at 0) false (drop (at + 1) s))
  string_long h = go (quoted (get_or s at 0) false (drop (at + 1) s)) e
    where
      go : (x : Chars) → Some c ≡ closed_at (at + 1) 0 x → wrong ≡ as_string x
      go unclosed e = refl
      go (closed x m) e = (let d : c ≡ record { end = at + 1 + m; characters = 0 + length x } = cc in let n : c.characters ≡ 0 + length x = ap (λ (z : Closed). z.characters) d in rw (lt-leb (length x) 255 (omega arith)))

  pub string_some : c.characters ≤ 255
      → (at < c.end) × (lexeme_of s at T.String (c.end - (at + 1)) ≡ as_string (quoted (get_or s at 0) false (drop (at + 1) s))) × Proper s at T.String c.end
  unfolding lexeme_of token_of
  string_some h = go (quoted (get_or s at 0) false (drop (at + 1) s)) e
    where
      go : (x : Chars) → Some c ≡ closed_at (at + 1) 0 x → (at < c.end) × (token (string (characters_of x)) (c.end - (at + 1)) ≡ as_string x) × (x ≡ closed (characters_of x) (c.end - (at + 1)))
      go unclosed e = absurd (cc)
      go (closed x m) e =
          let f : c ≡ record { end = at + 1 + m; characters = 0 + length x } = cc in
          let d : c.characters ≡ 0 + length x = ap (λ (z : Closed). z.characters) f in
          let w : c.end ≡ at + 1 + m = ap (λ (z : Closed). z.end) f in
          let v : c.end - (at + 1) ≡ m = omega arith in
          (omega arith, rw (le-leb (length x) 255 (omega arith)) (ap {B = Meant} (λ k. token (string x) k) v), ap {B = Chars} (λ k. closed x k) (sym v))

-- NUMBERS

-- the value of all digits, cut off
module _ (s : List ℕ) (at end v : ℕ) (h : Sums s at end v) where
  abbrev ds : List ℕ
  ds = front is_digit (drop at s)

  pub number-real : (b : Bool) → b ≡ real (drop end s) → b ≡ true → wrong ≡ number_at s at
  unfolding number
  number-real b e t = rw (← h.ends, ← e, t)

  pub number_over : (b : Bool) → b ≡ real (drop end s) → b ≡ false → 4294967295 < v → wrong ≡ number_at s at
  unfolding number
  number_over b e t l =
      elim (see (ltb 4294967295 (value 0 ds))) [
        | is_true k ↦ rw (← h.ends, ← e, t, k)
        | is_false k ↦ absurd (let w : value 0 ds ≤ 4294967295 = ltb-false _ _ k in let z : v ≡ value 0 ds = h.sums ∙ cap_under _ w in omega arith)
      ]

  pub number_some : (b : Bool) → b ≡ real (drop end s) → b ≡ false → v ≤ 4294967295 → at < length s → is_digit (get_or s at 0) ≡ true
      → Whole s at (T.Macrodigit v) end (number_at s at)
  unfolding number lexeme_of token_of
  number_some b e t l i d =
      let f : length ds ≡ suc (length (front is_digit (drop (at + 1) s))) = ap (λ (x : List ℕ). length x) (run_yes is_digit s at i d) in
      let g : end ≡ at + length ds = h.ends in
      elim (see (ltb 4294967295 (value 0 ds))) [
        | is_true k ↦ absurd (let z : v ≡ 4294967296 = h.sums ∙ cap_over _ (ltb-true _ _ k) in omega arith)
        | is_false k ↦
            let z : v ≡ value 0 ds = h.sums ∙ cap_under _ (ltb-false _ _ k) in
            let w : end - (at + 1) ≡ length ds - 1 = omega arith in
            (omega arith, rw (← h.ends, ← e, t, k, ← z, w), tt)
      ]

-- COMMENTS

module _ (s : List ℕ) (at : ℕ) where
  pub slashed_out : length s ≤ at + 1 → wrong ≡ slashed (drop (at + 1) s)
  unfolding slashed
  slashed_out h = rw (drop_of_length-le s h)

  module _ (l : at + 1 < length s) where
    pub slashed_other : (get_or s (at + 1) 0 ≡ 42 → ⊥) → wrong ≡ slashed (drop (at + 1) s)
    unfolding slashed
    slashed_other n = rw (drop-cons s (at + 1) 0 l, ne_eqb _ 42 n)

    -- what stands behind slash and star
    slashed_at : get_or s (at + 1) 0 ≡ 42 → slashed (drop (at + 1) s) ≡ as_gap (commented false (drop (at + 2) s))
    unfolding slashed
    slashed_at e = rw (drop-cons s (at + 1) 0 l, eq-eqb _ 42 e) (ap (λ (j : ℕ). as_gap (commented false (drop j s))) (let z : suc (at + 1) ≡ at + 2 = omega arith in z))

    pub slashed_told : get_or s (at + 1) 0 ≡ 42 → {o : Option ℕ} {r : Lexeme} → o ≡ past_at (at + 2) (commented false (drop (at + 2) s)) → r ≡ ended at T.Gap o
        → Tells s at r (slashed (drop (at + 1) s))
    unfolding lexeme_of token_of
    slashed_told c {o} {r} d e = rw (slashed_at c) (go (commented false (drop (at + 2) s)) d)
      where
        go : (x : Maybe ℕ) → o ≡ past_at (at + 2) x → Tells s at r (as_gap x)
        go none d = tells_wrong (ended_none at T.Gap o r e d) refl
        go (some n) d = tells T.Gap (at + 2 + n) (ended_some at T.Gap o r e d) (omega arith, ap gap (let z : at + 2 + n - (at + 1) ≡ suc n = omega arith in z), tt)

  pub starred_no : (b : Bool) → b ≡ column_at s at → b ≡ false → wrong ≡ starred_at s at
  starred_no b e t = rw (← e, t)

  pub starred_yes : (b : Bool) → b ≡ column_at s at → b ≡ true → (end : ℕ) → end ≡ at + 1 + length (front in_line (drop (at + 1) s))
      → Whole s at T.Gap end (starred_at s at)
  unfolding lexeme_of token_of
  starred_yes b e t end d = (omega arith, rw (← e, t) (ap gap (let z : end - (at + 1) ≡ length (front in_line (drop (at + 1) s)) = omega arith in z)), tt)

-- the first column
pub column_later : (s : List ℕ) (i k : ℕ) → (i ≡ 0 → ⊥) → k ≡ class_of (get_or s (i - 1) 0) → eqb k 12 ≡ column_at s i
unfolding column_at of
column_later s zero k n e = absurd (n refl)
column_later s (suc i) k n e = rw (one_class 12 k, e) (ap (λ (j : ℕ). span 12 12 (class_of (get_or s j 0))) (let z : suc i - 1 ≡ i = omega arith in z))

-- INDICES

-- a front is a part
pub take-front : (p : ℕ → Bool) (bs : List ℕ) → take (length (front p bs)) bs ≡ front p bs
unfolding front
take-front p [] = refl
take-front p (b ∷ bs) =
    elim (see (p b)) [
      | is_true h ↦ rw (h, front) (ap {B = List ℕ} (λ x. b ∷ x) (take-front p bs))
      | is_false h ↦ rw (h, front)
    ]

wide : (k b : ℕ) → 3 ≤ k → k ≤ 7 → of k k b ≡ true → in_name b ≡ true
unfolding of span
wide k b p q h = (let (l, m) = span_le k k (class_of b) h in rw (le-leb 3 (class_of b) (omega arith), le-leb (class_of b) 7 (omega arith)))

-- bytes of a name are spelled as they are spelled in a name
name_spelled : (b : ℕ) → in_name b ≡ true → spelling b ≡ spell b
unfolding spelling
name_spelled b h = rw h

not_underscore : (b : ℕ) → class_of b ≡ 6 → b ≡ 95 → ⊥
unfolding class_of span
not_underscore b h e = absurd (let z : ◌≡◌ {A = ℕ} 7 6 = rw e at h in omega arith)

digit_spelled : (b : ℕ) → is_digit b ≡ true → spelling b ≡ b
unfolding spelling of span
digit_spelled b h =
    let (l, m) = span_le 6 6 (class_of b) h in
    let e : class_of b ≡ 6 = omega arith in
    rw (e, ne_eqb b 95 (not_underscore b e))

digits-spelled : (bs : List ℕ) → map spelling (front is_digit bs) ≡ front is_digit bs
unfolding front
digits-spelled [] = refl
digits-spelled (b ∷ bs) =
    elim (see (is_digit b)) [
      | is_true h ↦ rw (h, front, map) (ap₂ {C = List ℕ} (λ u v. u ∷ v) (digit_spelled b h) (digits-spelled bs))
      | is_false h ↦ rw (h, front, map)
    ]

names_spelled : (bs : List ℕ) → map spelling (front in_name bs) ≡ map spell (front in_name bs)
unfolding front
names_spelled [] = refl
names_spelled (b ∷ bs) =
    elim (see (in_name b)) [
      | is_true h ↦ rw (h, front, map) (ap₂ {C = List ℕ} (λ u v. u ∷ v) (name_spelled b h) (names_spelled bs))
      | is_false h ↦ rw (h, front, map)
    ]

trim-spelled : (ds : List ℕ) → map spelling ds ≡ ds → map spelling (trim ds) ≡ trim ds
unfolding trim
trim-spelled [] h = h
trim-spelled (d ∷ []) h = h
trim-spelled (d ∷ x ∷ ds) h =
    elim (see (eqb d 48)) [
      | is_true e ↦ rw (e, trim) (trim-spelled (x ∷ ds) (ap tail h))
      | is_false e ↦ rw (e, trim) h
    ]

-- a run that is not empty has its first byte
pub run_first : (p : ℕ → Bool) (s : List ℕ) (i : ℕ) → 0 < length (front p (drop i s)) → (i < length s) × (p (get_or s i 0) ≡ true)
run_first p s i h =
    elim (see (leb (length s) i)) [
      | is_true l ↦ absurd (omega (arith, h, ap (λ (x : List ℕ). length x) (run_past p s i (leb-true (length s) i l))))
      | is_false l ↦
          let m : i < length s = leb-false (length s) i l in
          elim (see (p (get_or s i 0))) [
            | is_true e ↦ (m, e)
            | is_false e ↦ absurd (omega (arith, h, ap (λ (x : List ℕ). length x) (run_no p s i m e)))
          ]
    ]

module _ (b : ℕ) (ds : List ℕ) where
  dotted_none : (x : List ℕ) → length x ≡ 0 → wrong ≡ dotted b ds x
  unfolding dotted
  dotted_none [] h = refl
  dotted_none (c ∷ x) h = absurd (omega arith)

  dotted-number : (x : List ℕ) → 0 < length x → length ds ≡ length x → token (variable b (trim ds)) (1 + length x) ≡ dotted b ds x
  unfolding dotted
  dotted-number [] p h = absurd (omega arith)
  dotted-number (c ∷ x) p h = rw (eq-eqb (length ds) (suc (length x)) h) (ap {B = Meant} (λ n. token (variable b (trim ds)) n) (let z : 1 + suc (length x) ≡ 2 + length x = omega arith in z))

  dotted_long : (x : List ℕ) → 15 < length x → (length ds ≡ length x → ⊥) → wrong ≡ dotted b ds x
  unfolding dotted
  dotted_long [] p n = absurd (omega arith)
  dotted_long (c ∷ x) p n = rw (ne_eqb (length ds) (suc (length x)) n, lt-leb (length x) 14 (omega arith)) (sym (off (is_letter c) _))
    where
      off : (t : Bool) (u : Meant) → cond (t && false) u wrong ≡ wrong
      off true u = refl
      off false u = refl

  dotted_letter : (c : ℕ) (x : List ℕ) → is_letter c ≡ true → length (c ∷ x) ≤ 15 → (length ds ≡ length (c ∷ x) → ⊥)
      → token (variable b (map spell (c ∷ x))) (1 + length (c ∷ x)) ≡ dotted b ds (c ∷ x)
  unfolding dotted
  dotted_letter c x h l n =
      rw (ne_eqb (length ds) (suc (length x)) n, h, le-leb (length x) 14 (omega arith))
      (ap {B = Meant} (λ m. token (variable b (map spell (c ∷ x))) m) (let z : 1 + suc (length x) ≡ 2 + length x = omega arith in z))

  dotted_other : (c : ℕ) (x : List ℕ) → is_letter c ≡ false → (length ds ≡ length (c ∷ x) → ⊥) → wrong ≡ dotted b ds (c ∷ x)
  unfolding dotted
  dotted_other c x h n = rw (ne_eqb (length ds) (suc (length x)) n, h)

-- the index behind the dot of a variable at `at`; its run ends at `end`, its digits at `stop`
module _ (s : List ℕ) (at end : ℕ) (e : end ≡ at + 2 + length (front in_name (drop (at + 2) s))) where
  abbrev run : List ℕ
  run = front in_name (drop (at + 2) s)

  abbrev figures : List ℕ
  figures = front is_digit (drop (at + 2) s)

  pub dot_none : end ≡ at + 2 → wrong ≡ dotted_at s at
  dot_none z = dotted_none (get_or s at 0) figures run (omega arith)

  module _ (n : end ≡ at + 2 → ⊥) (stop : ℕ) (d : stop ≡ at + 2 + length figures) where
    pub dot_number : stop ≡ end → (r : ℕ) → Trimmed s (at + 2) end r → at + 2 ≤ length s → Whole s at (T.Variable r (end - r)) end (dotted_at s at)
    unfolding lexeme_of token_of part
    dot_number q r t l =
        let inside : end ≤ length s = omega (arith, e, run_most in_name s (at + 2) l) in
        let long : length figures ≡ length run = omega arith in
        let size : end - (at + 2) ≡ length figures = omega arith in
        let whole : take (end - (at + 2)) (drop (at + 2) s) ≡ figures = ap (λ (k : ℕ). take k (drop (at + 2) s)) size ∙ take-front is_digit (drop (at + 2) s) in
        let index : map spelling (take (end - r) (drop r s)) ≡ trim figures =
        ap (map spelling) (t.same ∙ ap trim whole) ∙ trim-spelled figures (digits-spelled (drop (at + 2) s)) in
        let m : end - (at + 1) ≡ 1 + length run = omega arith in
        (omega arith, rw (index, m) (dotted-number (get_or s at 0) figures run (omega arith) long), (omega (arith, t.least), omega (arith, t.most), omega (arith, t.most)))

    module _ (q : stop ≡ end → ⊥) where
      apart_ends : length figures ≡ length run → ⊥
      apart_ends h = q (omega arith)

      pub dot_long : at + 2 + 15 < end → wrong ≡ dotted_at s at
      dot_long l = dotted_long (get_or s at 0) figures run (omega arith) apart_ends

      -- the run by its first byte
      begun : run ≡ get_or s (at + 2) 0 ∷ front in_name (drop (at + 2 + 1) s)
      begun = (let (i, h) = run_first in_name s (at + 2) (omega arith) in run_yes in_name s (at + 2) i h)

      pub dot_letter : end ≤ at + 2 + 15 → is_letter (get_or s (at + 2) 0) ≡ true → at + 2 ≤ length s → Whole s at (T.Variable (at + 2) (end - (at + 2))) end (dotted_at s at)
      unfolding lexeme_of token_of part
      dot_letter l h k =
          let inside : end ≤ length s = omega (arith, e, run_most in_name s (at + 2) k) in
          let size : end - (at + 2) ≡ length run = omega arith in
          let index : map spelling (take (end - (at + 2)) (drop (at + 2) s)) ≡ map spell run =
          ap (λ (k : ℕ). map spelling (take k (drop (at + 2) s))) size ∙ ap (map spelling) (take-front in_name (drop (at + 2) s)) ∙ names_spelled (drop (at + 2) s) in
          let m : end - (at + 1) ≡ 1 + length run = omega arith in
          let long = ap (λ (x : List ℕ). length x) begun in
          let told = dotted_letter (get_or s at 0) figures (get_or s (at + 2) 0) (front in_name (drop (at + 2 + 1) s)) h (omega (arith, long)) (λ z. apart_ends (z ∙ sym long)) in
          (omega arith, rw (index, m, begun) told, (omega arith, omega arith, omega arith))

      pub dot_other : is_letter (get_or s (at + 2) 0) ≡ false → wrong ≡ dotted_at s at
      dot_other h =
          rw begun
          (dotted_other (get_or s at 0) figures (get_or s (at + 2) 0) (front in_name (drop (at + 2 + 1) s)) h (λ z. apart_ends (z ∙ sym (ap (λ (x : List ℕ). length x) begun))))

pub by_index : (k b : ℕ) → k ≡ class_of b → (is_capital b || is_digit b) ≡ (span 3 3 k || span 6 6 k)
by_index k b e = rw (by_span 3 3 k b e, by_span 6 6 k b e)

-- a variable
module _ (s : List ℕ) (at : ℕ) where
  abbrev letter : ℕ
  letter = get_or s at 0

  pub indexed_out : length s ≤ at + 1 → wrong ≡ indexed letter (drop (at + 1) s)
  unfolding indexed
  indexed_out h = rw (drop_of_length-le s h)

  module _ (l : at + 1 < length s) where
    behind : drop (at + 1) s ≡ get_or s (at + 1) 0 ∷ drop (at + 2) s
    behind = drop-cons s (at + 1) 0 l ∙ ap {B = List ℕ} (λ x. get_or s (at + 1) 0 ∷ x) (ap (λ (j : ℕ). drop j s) (let z : suc (at + 1) ≡ at + 2 = omega arith in z))

    pub indexed_dot : get_or s (at + 1) 0 ≡ 46 → dotted_at s at ≡ indexed letter (drop (at + 1) s)
    unfolding indexed
    indexed_dot e = rw (behind, eq-eqb _ 46 e)

    module _ (n : get_or s (at + 1) 0 ≡ 46 → ⊥) where
      pub indexed_other : (is_capital (get_or s (at + 1) 0) || is_digit (get_or s (at + 1) 0)) ≡ false → wrong ≡ indexed letter (drop (at + 1) s)
      unfolding indexed
      indexed_other h = rw (behind, ne_eqb _ 46 n, h)

      module _ (h : (is_capital (get_or s (at + 1) 0) || is_digit (get_or s (at + 1) 0)) ≡ true) where
        pub indexed_touching : (b : Bool) → b ≡ apart (drop (at + 2) s) → b ≡ false → wrong ≡ indexed letter (drop (at + 1) s)
        unfolding indexed
        indexed_touching b e t = rw (behind, ne_eqb _ 46 n, h, ← e, t)

        pub indexed_yes : (b : Bool) → b ≡ apart (drop (at + 2) s) → b ≡ true
            → Whole s at (T.Variable (at + 1) 1) (at + 2) (indexed letter (drop (at + 1) s))
        unfolding indexed lexeme_of token_of part
        indexed_yes b e t =
            let m : at + 2 - (at + 1) ≡ 1 = omega arith in
            (omega arith, rw (behind, ne_eqb _ 46 n, h, ← e, t, m) (ap {B = Meant} (λ x. token (variable letter (x ∷ [])) 1) (name_spelled (get_or s (at + 1) 0) (either (get_or s (at + 1) 0) h))), (omega arith, omega arith, omega arith))
          where
            either : (c : ℕ) → (is_capital c || is_digit c) ≡ true → in_name c ≡ true
            either c h = elim (see (is_capital c)) [ is_true k ↦ wide 3 c (omega arith) (omega arith) k | is_false k ↦ wide 6 c (omega arith) (omega arith) (rw k at h) ]

-- nothing of a name stands at i, or a variable begins there
module _ (s : List ℕ) (i k : ℕ) where
  pub apart_out : length s ≤ i → true ≡ apart (drop i s)
  unfolding apart
  apart_out h = rw (drop_of_length-le s h)

  module _ (l : i < length s) (e : k ≡ class_of (get_or s i 0)) where
    pub apart_yes : (3 ≤ k → k ≤ 7 → k ≡ 5) → true ≡ apart (drop i s)
    unfolding apart
    apart_yes h =
        elim (see (leb 3 k)) [
          | is_false a ↦ rw (drop-cons s i 0 l, of_low 3 7 _ k e (leb-false 3 k a))
          | is_true a ↦
              elim (see (leb k 7)) [
                | is_false b ↦ rw (drop-cons s i 0 l, of_high 3 7 _ k e (leb-true 3 k a) (leb-false k 7 b))
                | is_true b ↦ sym (rw (drop-cons s i 0 l, of_eq 5 _ k e (h (leb-true _ _ a) (leb-true _ _ b))) (or_right (not (in_name (get_or s i 0)))))
              ]
        ]

    pub apart_no : 3 ≤ k → k ≤ 7 → (k ≡ 5 → ⊥) → false ≡ apart (drop i s)
    unfolding apart
    apart_no p q n = rw (drop-cons s i 0 l, of_yes 3 7 _ k e p q, of_ne 5 _ k e n)

-- BY CLASS

module _ (s : List ℕ) (at k : ℕ) (e : k ≡ class_of (get_or s at 0)) where
  abbrev byte : ℕ
  byte = get_or s at 0

  abbrev rest : List ℕ
  rest = drop (at + 1) s

  -- the lexeme of class k
  by_class : lex_of k (column_at s at) byte rest ≡ lex_at s at
  unfolding lex
  by_class = ap (λ (j : ℕ). lex_of j (column_at s at) byte rest) e

  -- what the definition says for each class
  lex_blank : k ≡ 1 → gap 0 ≡ lex_at s at
  unfolding lex_of
  lex_blank h = rw (← by_class, h)

  pub lex_slash : k ≡ 2 → slashed rest ≡ lex_at s at
  unfolding lex_of
  lex_slash h = rw (← by_class, h)

  pub lex_name : k ≡ 3 → at < length s → as_name (identifier (drop at s)) ≡ lex_at s at
  unfolding lex_of
  lex_name h l = rw (← by_class, h, drop-cons s at 0 l, add-one at)

  pub lex_variable : k ≡ 5 → indexed byte rest ≡ lex_at s at
  unfolding lex_of
  lex_variable h = rw (← by_class, h)

  pub lex-number : k ≡ 6 → at < length s → number_at s at ≡ lex_at s at
  unfolding lex_of
  lex-number h l =
      let f = run_yes is_digit s at l (of_eq 6 byte k e h) in
      let d : drop (at + suc (length (front is_digit rest))) s ≡ drop (length (front is_digit rest)) rest =
      sym (drop-drop (length (front is_digit rest)) (at + 1) s ∙ ap (λ (j : ℕ). drop j s) (let z : at + 1 + length (front is_digit rest) ≡ at + suc (length (front is_digit rest)) = omega arith in z)) in
      rw (← by_class, h, f, d)

  pub lex_string : k ≡ 8 → as_string (quoted byte false rest) ≡ lex_at s at
  unfolding lex_of
  lex_string h = rw (← by_class, h)

  pub lex_sign : k ≡ 9 → token (sign byte) 0 ≡ lex_at s at
  unfolding lex_of
  lex_sign h = rw (← by_class, h)

  pub lex-call : k ≡ 10 → as_call (identifier rest) ≡ lex_at s at
  unfolding lex_of
  lex-call h = rw (← by_class, h)

  pub lex_star : k ≡ 11 → starred_at s at ≡ lex_at s at
  unfolding lex_of
  lex_star h = rw (← by_class, h)

  lex_end : k ≡ 12 → gap 0 ≡ lex_at s at
  unfolding lex_of
  lex_end h = rw (← by_class, h)

  lex_nothing : (k ≡ 0) ⊎ ((k ≡ 4) ⊎ (k ≡ 7)) → wrong ≡ lex_at s at
  unfolding lex_of
  lex_nothing (inl h) = rw (← by_class, h)
  lex_nothing (inr (inl h)) = rw (← by_class, h)
  lex_nothing (inr (inr h)) = rw (← by_class, h)

module _ (s : List ℕ) (at : ℕ) (c : Class) (e : number_of c ≡ class_of (get_or s at 0)) where
  pub lex_gap : (c ≡ Blank) ⊎ (c ≡ LineEnd) → gap 0 ≡ lex_at s at
  lex_gap (inl h) = lex_blank s at (number_of c) e (ap number_of h)
  lex_gap (inr h) = lex_end s at (number_of c) e (ap number_of h)

  pub lex_other : (c ≡ Other) ⊎ ((c ≡ Small) ⊎ (c ≡ Dash)) → wrong ≡ lex_at s at
  lex_other (inl h) = lex_nothing s at (number_of c) e (inl (ap number_of h))
  lex_other (inr (inl h)) = lex_nothing s at (number_of c) e (inr (inl (ap number_of h)))
  lex_other (inr (inr h)) = lex_nothing s at (number_of c) e (inr (inr (ap number_of h)))

pub tells_as : {s : List ℕ} {at : ℕ} {r : Lexeme} {x y : Meant} → x ≡ y → Tells s at r x → Tells s at r y
tells_as e t = record { is = t.is ∙ e; ahead = t.ahead; proper = t.proper }

-- a token of one byte
pub one_byte : {s : List ℕ} {at : ℕ} {r : Lexeme} {x y : Meant} (t : Token) → Proper s at t (at + 1) → lexeme_of s at t 0 ≡ x → x ≡ y → (r.token ≡ t) × (r.end ≡ at + 1) → Tells s at r y
one_byte {s} {at} t o h e m = tells t (at + 1) m (omega arith, (let z : at + 1 - (at + 1) ≡ 0 = omega arith in rw z (h ∙ e)), o)
