-- What signs and tokens make, by the phase.
use mathlib.Core.Path.{◌≡◌, refl, sym, ◌∙◌, ap}
use mathlib.Core.Bool.{true, false}
use mathlib.Core.Logic.{inl}
use mathlib.Core.Option.{Option, none, some}
use mathlib.Core.List.{List, [], ◌∷◌}
use Prim.Native.Nat.{ℕ, ◌+◌, ◌-◌, ◌≤◌, ◌<◌}
use native.Mathlib.Omega.{arith}
use lib.ListN.{length, get_or, drop, length-drop}
use lib.Dec.{eqb}
use borrow.Author.Tests.{eq-eqb, ne_eqb, eqb-true, eqb-false}
use Rattle.meaning.specs.Elements.{Element, body}
use Rattle.meaning.specs.Goodness.{Part}
use Rattle.meaning.proofs.Truth.{is_true, is_false, see}
use Rattle.taking.specs.Standing.{part_of as part_at}
use Rattle.text.specs.Numbering.{Key}
use Rattle.text.specs.Tokens.{Token as Meaning, closed, quoted}
use Rattle.text.specs.Reading.{element, Reader as Told, reader, put_all, closing, part_of, type_of, signed, put_some, within, heading, is_sign, entering}
use Rattle.tokens.specs.declared.Token.{Token}
use Rattle.tokens.specs.declared.Token.TheVariants as T
use Rattle.tokens.specs.contracts.Token.{the_type}
use types.Run.{OneOf, miss}
use denote.Enum.Declared.{tag_of}
use Rattle.tokens.specs.Lexemes.{characters_of, token_of, Proper}
use Rattle.putting.proofs.Putting.{going_from, going_on, going_bad, going_over}
use Rattle.putting.proofs.Characters.{shut_some, quoted_inside}
use Rattle.putting.specs.declared.Reader.{Reader}
use Rattle.putting.specs.declared.Phase.{Phase}
use Rattle.putting.specs.declared.Phase.TheVariants as P
use Rattle.std.specs.Prelude.{Option as Maybe, Some, None}
use Rattle.putting.specs.Putting.{phase_of, Stands, Led, Onward, leads, stops, Closes, Fits, Entered, braced, signing, making_within, making_header}

-- steps that are one on what the code stands for
pub onward_as : {f g : Told → Option Told} {q : Reader} {st buf : List ℕ} {n : Maybe Reader} {st' buf' : List ℕ}
    → ((Ns Vs : ℕ → List Key) (r : Told) → Stands Ns Vs q st buf r → g r ≡ f r) → Onward f q st buf n st' buf' → Onward g q st buf n st' buf'
onward_as e (leads l) =
    leads (record {
      after = λ Ns Vs z r s. let a = l.after Ns Vs z r s in record { next = a.next; is = e Ns Vs r s ∙ a.is; stands = a.stands };
      names = l.names;
      variables = l.variables;
    })
onward_as e (stops b) = stops (λ Ns Vs z r s. e Ns Vs r s ∙ b Ns Vs z r s)

-- BRACES

part_is : {Ns Vs : ℕ → List Key} {q : Reader} {st buf : List ℕ} {r : Told} (s : Stands Ns Vs q st buf r) → part_of s.stage ≡ part_at q.state.part
part_is s = ap part_of s.means.is

other_closing : (n : ℕ) → (n ≡ 4 → ⊥) → closing (part_at n) ≡ element 14 0 ∷ []
unfolding part_at closing
other_closing n h =
    elim (see (eqb n 0)) [
      | is_true a ↦ rw a
      | is_false a ↦ elim (see (eqb n 1)) [
        | is_true b ↦ rw (a, b)
        | is_false b ↦ elim (see (eqb n 2)) [
          | is_true c ↦ rw (a, b, c)
          | is_false c ↦ elim (see (eqb n 3)) [
            | is_true d ↦ rw (a, b, c, d)
            | is_false d ↦ elim (see (eqb n 5)) [ is_true e ↦ rw (a, b, c, d, ne_eqb n 4 h, e) | is_false e ↦ rw (a, b, c, d, ne_eqb n 4 h, e) ]
          ]
        ]
      ]
    ]

module _ {q : Reader} {st buf : List ℕ} where
  pub brace_other : (q.state.part ≡ 4 → ⊥) → (Ns Vs : ℕ → List Key) (r : Told) → Stands Ns Vs q st buf r → braced r ≡ put_all (element 14 0 ∷ []) r
  brace_other n Ns Vs r s = rw (s.is, part_is s, other_closing q.state.part n)

  pub brace_right : q.state.part ≡ 4 → (Ns Vs : ℕ → List Key) (r : Told) → Stands Ns Vs q st buf r → braced r ≡ put_all (element 12 0 ∷ element 14 0 ∷ []) r
  unfolding part_at closing
  brace_right e Ns Vs r s = rw (s.is, part_is s, e)

-- one element, then another
pub brace_then : {q q' : Reader} {st buf st' buf' st'' buf'' : List ℕ} {n : Maybe Reader} (e f : Element) → Led (put_all (e ∷ [])) q st buf q' st' buf'
    → Onward (put_all (f ∷ [])) q' st' buf' n st'' buf'' → Onward (put_all (e ∷ f ∷ [])) q st buf n st'' buf''
brace_then e f l (leads m) = leads (going_over (going_on (going_on (going_from _ _ _ _) l) m))
brace_then e f l (stops b) = stops (going_bad (going_on (going_from _ _ _ _) l) b)

-- SIGNS

module _ {q : Reader} {st buf : List ℕ} (c : ℕ) where
  -- a sign that makes one element
  pub sign_one : (k : ℕ) → ((p : Part) → signed p c ≡ some (element k 0 ∷ [])) → (Ns Vs : ℕ → List Key) (r : Told) → Stands Ns Vs q st buf r → signing c r ≡ put_all (element k 0 ∷ []) r
  unfolding put_some
  sign_one k h Ns Vs r s = rw (s.is, h (part_of s.stage))

  pub sign_brace : c ≡ 125 → (Ns Vs : ℕ → List Key) (r : Told) → Stands Ns Vs q st buf r → signing c r ≡ braced r
  unfolding put_some signed
  sign_brace e Ns Vs r s = rw (s.is, e)

  pub sign_none : (c ≡ 40 → ⊥) → (c ≡ 41 → ⊥) → (c ≡ 62 → ⊥) → (c ≡ 61 → ⊥) → (c ≡ 59 → ⊥) → (c ≡ 125 → ⊥) → {st' buf' : List ℕ} → Onward (signing c) q st buf None st' buf'
  unfolding put_some signed
  sign_none g h i j k l = stops (λ Ns Vs z r s. rw (s.is, ne_eqb c 40 g, ne_eqb c 41 h, ne_eqb c 62 i, ne_eqb c 61 j, ne_eqb c 59 k, ne_eqb c 125 l))

-- TOKENS

module _ {q : Reader} {st buf : List ℕ} (t : Meaning) (n : ℕ) where
  -- a token that makes these elements inside braces
  pub makes : (es : List Element) → ((p : Part) → within p t n ≡ some es) → (Ns Vs : ℕ → List Key) (r : Told) → Stands Ns Vs q st buf r → making_within t n r ≡ put_all es r
  unfolding put_some
  makes es h Ns Vs r s = rw (s.is, h (part_of s.stage))

  pub makes_none : ((p : Part) → within p t n ≡ none) → {st' buf' : List ℕ} → Onward (making_within t n) q st buf None st' buf'
  unfolding put_some
  makes_none h = stops (λ Ns Vs z r s. rw (s.is, h (part_of s.stage)))

  pub heads : heading t n ≡ some (element 13 n ∷ []) → (Ns Vs : ℕ → List Key) (r : Told) → Stands Ns Vs q st buf r → making_header t n r ≡ put_all (element 13 n ∷ []) r
  unfolding put_some
  heads h Ns Vs r s = rw h

  pub heads_none : heading t n ≡ none → {st' buf' : List ℕ} → Onward (making_header t n) q st buf None st' buf'
  unfolding put_some
  heads_none h = stops (λ Ns Vs z r s. rw h)

-- a sign inside braces
pub makes_sign : {q : Reader} {st buf : List ℕ} (s : List ℕ) (at : ℕ) (t : Token) (n : ℕ) → t ≡ T.Sign → (Ns Vs : ℕ → List Key) (r : Told) → Stands Ns Vs q st buf r
    → making_within (token_of s at t) n r ≡ signing (get_or s at 0) r
unfolding token_of within
makes_sign s at t n e Ns Vs r h = rw (h.is, e)

pub name_heads : (s : List ℕ) (at : ℕ) (t : Token) (n : ℕ) → t ≡ T.Name → heading (token_of s at t) n ≡ some (element 13 n ∷ [])
unfolding token_of heading
name_heads s at t n e = rw e

-- a token that is no name, and one that is no sign
pub not_name : (s : List ℕ) (at : ℕ) (t : Token) (n : ℕ) → OneOf (0 ∷ 1 ∷ 3 ∷ 4 ∷ 5 ∷ 6 ∷ 7 ∷ []) (tag_of the_type t) → heading (token_of s at t) n ≡ none
unfolding token_of heading
not_name s at T.Gap n k = refl
not_name s at T.Malformed n k = refl
not_name s at T.Name n k = absurd (miss (0 ∷ 1 ∷ 3 ∷ 4 ∷ 5 ∷ 6 ∷ 7 ∷ []) 2 tt k)
not_name s at T.Call n k = refl
not_name s at (T.Macrodigit v) n k = refl
not_name s at T.String n k = refl
not_name s at (T.Variable start size) n k = refl
not_name s at T.Sign n k = refl

pub not_sign : (s : List ℕ) (at : ℕ) (t : Token) (c : ℕ) → OneOf (0 ∷ 1 ∷ 2 ∷ 3 ∷ 4 ∷ 5 ∷ 6 ∷ []) (tag_of the_type t) → false ≡ is_sign c (token_of s at t)
unfolding token_of
not_sign s at T.Gap c k = refl
not_sign s at T.Malformed c k = refl
not_sign s at T.Name c k = refl
not_sign s at T.Call c k = refl
not_sign s at (T.Macrodigit v) c k = refl
not_sign s at T.String c k = refl
not_sign s at (T.Variable start size) c k = refl
not_sign s at T.Sign c k = absurd (miss (0 ∷ 1 ∷ 2 ∷ 3 ∷ 4 ∷ 5 ∷ 6 ∷ []) 7 tt k)

pub is_the_sign : (s : List ℕ) (at : ℕ) (t : Token) (b c : ℕ) → t ≡ T.Sign → b ≡ get_or s at 0 → eqb b c ≡ is_sign c (token_of s at t)
unfolding token_of
is_the_sign s at t b c e f = rw (e, ← f) (eqb_sym b c)
  where
    eqb_sym : (a b : ℕ) → eqb a b ≡ eqb b a
    eqb_sym a b = elim (see (eqb a b)) [ is_true h ↦ rw h (sym (eq-eqb b a (sym (eqb-true a b h)))) | is_false h ↦ rw h (sym (ne_eqb b a (λ z. eqb-false a b h (sym z)))) ]

pub body_type : (b : ℕ) → body (type_of b) ≡ 1
unfolding body type_of
body_type b =
    elim (see (eqb b 115)) [
      | is_true h ↦ rw h
      | is_false h ↦ elim (see (eqb b 116)) [ is_true k ↦ rw (h, k) | is_false k ↦ rw (h, k) ]
    ]

-- what is known of a token, by its variant
pub entered_as : {s : List ℕ} {at end n : ℕ} {t u : Token} → t ≡ u → Entered s at t end n → Entered s at u end n
entered_as e h = rw e at h

-- a number of one byte has two as well
pub fits_two : {s : List ℕ} {at end n : ℕ} {t : Token} → Entered s at t end n → n < 65536
fits_two {n = n} {t = t} h = go t h.fits
  where
    go : (t : Token) → Fits t n → n < 65536
    go T.Gap f = f
    go T.Malformed f = f
    go T.Name f = f
    go T.Call f = f
    go (T.Macrodigit v) f = f
    go T.String f = f
    go (T.Variable start size) f = omega arith
    go T.Sign f = f

-- a string's characters up to its closing quote
pub closes : (s : List ℕ) (at end : ℕ) → at < length s → at < end → Proper s at T.String end → Closes s (get_or s at 0) (at + 1) (end - 1)
closes s at end l h p =
    let X = quoted (get_or s at 0) false (drop (at + 1) s) in
    let long : end - (at + 1) ≤ length (drop (at + 1) s) = quoted_inside (get_or s at 0) false (drop (at + 1) s) _ _ p in
    let some_bytes : 0 < end - (at + 1) = shut_some (get_or s at 0) (drop (at + 1) s) _ _ p in
    let last : end - 1 + 1 - (at + 1) ≡ end - (at + 1) = omega arith in
    record { most = omega arith; inside = omega (arith, length-drop (at + 1) s); shut = p ∙ ap (closed (characters_of X)) (sym last) }

-- ENTERING

-- the phase alone changes
abbrev in_phase : Reader → Phase → Reader
in_phase q p = record { phase = p; names = q.names; variables = q.variables; state = q.state; len = q.len }

module _ {q : Reader} {st buf : List ℕ} (t : Meaning) (n : ℕ) where
  pub enter_inside : q.phase ≡ P.Inside → (Ns Vs : ℕ → List Key) (r : Told) → Stands Ns Vs q st buf r → entering t n r ≡ making_within t n r
  unfolding entering
  enter_inside e Ns Vs r s = rw (s.is, e)

  -- another phase
  enter_phase : (p : Phase) → ((Ns Vs : ℕ → List Key) (r : Told) (s : Stands Ns Vs q st buf r) → entering t n r ≡ some (reader (phase_of p) (Ns q.names) (Vs q.variables) s.stage s.out)) → Onward (entering t n) q st buf (Some (in_phase q p)) st buf
  enter_phase p e =
      leads (record {
        after = λ Ns Vs z r s.
            record {
              next = reader (phase_of p) (Ns q.names) (Vs q.variables) s.stage s.out;
              is = e Ns Vs r s;
              stands = record { stage = s.stage; out = s.out; is = refl; means = s.means; program = s.program; room = s.room; short = s.short; filled = s.filled };
            };
        names = refl;
        variables = inl refl;
      })

  pub enter_open : q.phase ≡ P.Named → is_sign 123 t ≡ true → Onward (entering t n) q st buf (Some (in_phase q P.Inside)) st buf
  unfolding entering
  enter_open e h = enter_phase P.Inside (λ Ns Vs r s. rw (s.is, e, h))

  pub enter_shut : q.phase ≡ P.Named → is_sign 123 t ≡ false → {st' buf' : List ℕ} → Onward (entering t n) q st buf None st' buf'
  unfolding entering
  enter_shut e h = stops (λ Ns Vs z r s. rw (s.is, e, h))

  pub enter-part : q.phase ≡ P.Between → is_sign 59 t ≡ true → Onward (entering t n) q st buf (Some (in_phase q P.Owed)) st buf
  unfolding entering
  enter-part e h = enter_phase P.Owed (λ Ns Vs r s. rw (s.is, e, h))

  pub enter_between : q.phase ≡ P.Between → is_sign 59 t ≡ false → (Ns Vs : ℕ → List Key) (r : Told) → Stands Ns Vs q st buf r → entering t n r ≡ making_header t n r
  unfolding entering
  enter_between e h Ns Vs r s = rw (s.is, e, h)

  pub enter_header : (q.phase ≡ P.Inside → ⊥) → (q.phase ≡ P.Named → ⊥) → (q.phase ≡ P.Between → ⊥) → (Ns Vs : ℕ → List Key) (r : Told) → Stands Ns Vs q st buf r → entering t n r ≡ making_header t n r
  unfolding entering
  enter_header f g h Ns Vs r s = go q.phase refl
    where
      go : (p : Phase) → q.phase ≡ p → entering t n r ≡ making_header t n r
      go P.Free e = rw (s.is, e)
      go P.Between e = absurd (h e)
      go P.Owed e = rw (s.is, e)
      go P.Named e = absurd (g e)
      go P.Inside e = absurd (f e)
