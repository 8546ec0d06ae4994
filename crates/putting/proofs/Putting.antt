-- One element put: what it does to the reader that the code's values stand for.
use mathlib.Core.Path.{◌≡◌, refl, sym, ◌∙◌, ap}
use mathlib.Core.Bool.{true, false}
use mathlib.Core.Logic.{◌⊎◌, inl, inr}
use mathlib.Core.Option.{Option, none, some}
use mathlib.Core.List.{List, [], ◌∷◌, ◌++◌}
use Prim.Native.Nat.{ℕ, zero, suc, ◌/◌, ◌%◌, ◌^◌, ◌<◌}
use native.Mathlib.Omega.{arith}
use lib.ListN.{length}
use lib.Dec.{eqb}
use borrow.Author.Tests.{eq-eqb, ne_eqb, eqb-false}
use Rattle.meaning.specs.Elements.{Element, kind, body}
use Rattle.meaning.specs.Goodness.{State as Stage, Part, at, fault, state_after}
use Rattle.meaning.proofs.Truth.{is_true, is_false, see}
use Rattle.elements.specs.declared.Element.{Element as Read}
use Rattle.elements.specs.Bytes.{kind_of, number_of, digits, bytes_of}
use Rattle.taking.specs.declared.State.{State}
use Rattle.taking.specs.declared.Fault.{Fault}
use Rattle.taking.specs.Standing.{number_of as part_number, Means, Ready, Steps, Tells}
use Rattle.taking.proofs.Parts.{in_field, field_stays}
use Rattle.taking.proofs.Tests.{some_test}
use Rattle.taking.proofs.Stepping.{told_by}
use Rattle.text.specs.Numbering.{Key}
use Rattle.text.specs.Reading.{digits as digits_of, element, Phase as Meant, Reader as Told, reader, kept, phase_after, put_all}
use Rattle.text.proofs.Kept.{put_yes, put_no}
use Rattle.putting.specs.declared.Reader.{Reader}
use Rattle.putting.specs.declared.Phase.{Phase}
use Rattle.std.specs.Prelude.{Some, None, is_some, Result, Ok, Err}
use Rattle.std.specs.Result.{result_ok}
use Rattle.putting.specs.Putting.{phase_of, phase_next, kept_count, Written, Stands, Able, After, Led, Barred, Onward, leads, stops, Going}
use Rattle.putting.proofs.Writing.{filled_more, join_more}

digits_are : (w n : ℕ) → digits w n ≡ digits_of w n
unfolding digits digits_of
digits_are zero n = refl
digits_are (suc w) n = ap {B = List ℕ} (λ l. n % 256 ∷ l) (digits_are w (n / 256))

pub bytes_are : (y : Read) → bytes_of y ≡ element (kind_of y) (number_of y)
unfolding element
bytes_are y = ap {B = List ℕ} (λ l. kind_of y ∷ l) (digits_are (body (kind_of y)) (number_of y))

-- the check can take an element
pub ready_of : {Ns Vs : ℕ → List Key} {q : Reader} {st buf : List ℕ} {r : Told} → Stands Ns Vs q st buf r → Ready q.state st
ready_of {q = q} s = record { stage = s.stage; means = s.means; room = (let z : eqb q.state.part 0 ≡ false = ne_eqb q.state.part 0 (λ e. omega (arith, s.program)) in rw z s.room) }

abbrev part_in : Stage → Part
part_in (at p opens n vs) = p

part_stays : (s : Stage) (x : Element) → eqb (part_number (part_in (state_after s x))) 0 ≡ eqb (part_number (part_in s)) 0
unfolding state_after
part_stays (at p opens n vs) x = field_stays p (kind x)

phase_is : (k n : ℕ) (p : Phase) → phase_after (element k n) (phase_of p) ≡ phase_of (phase_next k p)
unfolding phase_after phase_next element
phase_is k n p =
    elim (see (eqb k 13)) [
      | is_true h ↦ rw h
      | is_false h ↦ elim (see (eqb k 14)) [ is_true g ↦ rw (h, g) | is_false g ↦ rw (h, g) ]
    ]

kept_is : (Vs : ℕ → List Key) → Vs 0 ≡ [] → (k n m : ℕ) → kept (element k n) (Vs m) ≡ Vs (kept_count k m)
unfolding kept kept_count element
kept_is Vs z k n m =
    elim (see (eqb k 13)) [
      | is_true h ↦ rw h (sym z)
      | is_false h ↦ elim (see (eqb k 12)) [ is_true g ↦ rw (h, g) (sym z) | is_false g ↦ rw (h, g) ]
    ]

count_either : (k m : ℕ) → (kept_count k m ≡ m) ⊎ (kept_count k m ≡ 0)
unfolding kept_count
count_either k m =
    elim (see (eqb k 13)) [
      | is_true h ↦ inr (rw h)
      | is_false h ↦ elim (see (eqb k 12)) [ is_true g ↦ inr (rw (h, g)) | is_false g ↦ inl (rw (h, g)) ]
    ]

module _ (q : Reader) (y : Read) (st buf st' : List ℕ) (fits : number_of y < 256 ^ body (kind_of y)) where
  abbrev x : Element
  x = element (kind_of y) (number_of y)

  tells : Tells (kind_of y) (number_of y) x
  tells = rw (← bytes_are y) (told_by y fits)

  pub put_bad : {e : Fault} → Steps q.state (kind_of y) (number_of y) st (Err e) st' → (buf' : List ℕ) → Onward (put_all (x ∷ [])) q st buf None st' buf'
  put_bad {e} S buf' = stops (λ Ns Vs z r s.
      ap (put_all (x ∷ [])) s.is ∙ put_no x [] _ _ _ s.stage s.out (ne_eqb (fault s.stage x) 0 (λ z. some_test e (S.fault_is s.means tells ∙ z))))

  module _ {t : State} (S : Steps q.state (kind_of y) (number_of y) st (Ok t) st') (l : length st' ≡ length st) (len' : ℕ) (buf' : List ℕ) (w : Written buf q.len (kind_of y ∷ digits (body (kind_of y)) (number_of y)) len' buf') (m : length buf' ≡ length buf) where
    abbrev q' : Reader
    q' = record { phase = phase_next (kind_of y) q.phase; names = q.names; variables = kept_count (kind_of y) q.variables; state = t; len = len' }

    module _ (Ns Vs : ℕ → List Key) (z : Vs 0 ≡ []) (r : Told) (s : Stands Ns Vs q st buf r) where
      good : fault s.stage x ≡ 0
      good = sym (S.fault_is s.means tells)

      next : Means t st' (state_after s.stage x)
      next = S.next_is s.means tells refl

      field_still : eqb t.part 0 ≡ eqb q.state.part 0
      field_still =
          sym (in_field t.part) ∙ ap (λ (u : Stage). eqb (part_number (part_in u)) 0) (sym next.is) ∙ part_stays s.stage x
          ∙ ap (λ (u : Stage). eqb (part_number (part_in u)) 0) s.means.is ∙ in_field q.state.part

      abbrev told : Told
      told = reader (phase_after x (phase_of q.phase)) (Ns q.names) (kept x (Vs q.variables)) (state_after s.stage x) (s.out ++ (x ∷ []))

      after : After (put_all (x ∷ [])) Ns Vs r q' st' buf'
      unfolding put_all
      after =
          record {
            next = told;
            is = ap (put_all (x ∷ [])) s.is ∙ put_yes x [] _ _ _ s.stage s.out (eq-eqb (fault s.stage x) 0 good);
            stands =
                record {
                  stage = state_after s.stage x;
                  out = s.out ++ (x ∷ []);
                  is = rw (phase_is (kind_of y) (number_of y) q.phase, kept_is Vs z (kind_of y) (number_of y) q.variables);
                  means = next;
                  program = (let n = eqb-false t.part 0 (field_still ∙ ne_eqb q.state.part 0 (λ e. omega (arith, s.program))) in omega arith);
                  room = omega (arith, s.room);
                  short = omega (arith, s.short);
                  filled = rw (join_more s.out x, ← bytes_are y) (filled_more s.filled w);
                };
          }

    put_good : Onward (put_all (x ∷ [])) q st buf (Some q') st' buf'
    put_good = leads (record { after = after; names = refl; variables = count_either (kind_of y) q.variables })

  -- the same in the code's own values
  pub put_made : {t : State} {k v m len' : ℕ} {p : Phase} {buf' : List ℕ} → Steps q.state (kind_of y) (number_of y) st (Ok t) st' → length st' ≡ length st → k ≡ kind_of y → v ≡ number_of y → p ≡ phase_next k q.phase → m ≡ kept_count k q.variables
      → Written buf q.len (k ∷ digits (body k) v) len' buf' → length buf' ≡ length buf
      → Onward (put_all (x ∷ [])) q st buf (Some (record { phase = p; names = q.names; variables = m; state = t; len = len' })) st' buf'
  put_made S l ek ev ep em w b = rw (ep, em, ek) (put_good S l _ _ (rw (ek, ev) at w) b)

-- what the check found, as an option
nothing : {s : State} → None ≡ Some s → ⊥
nothing h = absurd (let z : false ≡ true = ap is_some h in cc)

module _ (q : State) (k v : ℕ) (st st' : List ℕ) where
  pub step_made : (t : Result State Fault) {s : State} → Steps q k v st t st' → Some s ≡ result_ok t → Steps q k v st (Ok s) st'
  step_made (Ok u) {s} S h = let e : s ≡ u = cc in rw e S
  step_made (Err e) S h = absurd (nothing (sym h))

  pub step_refused : (t : Result State Fault) → Steps q k v st t st' → None ≡ result_ok t → (e : Fault) × Steps q k v st (Err e) st'
  step_refused (Ok u) S h = absurd (nothing h)
  step_refused (Err e) S h = (e, S)

-- SEVERAL ELEMENTS

same_some : {a b : Told} → some a ≡ some b → a ≡ b
same_some {a} h = ap (λ (o : Option Told). elim o [ none ↦ a | some c ↦ c ]) h

none_some : {a : Told} → none ≡ some a → ⊥
none_some h = absurd (let z : ◌≡◌ {A = ℕ} 0 1 = ap (λ (o : Option Told). elim o [ none ↦ 0 | some c ↦ 1 ]) h in omega arith)

put_one : (e : Element) (p : Meant) (ns vs : List Key) (s : Stage) (out : List Element) → eqb (fault s e) 0 ≡ true
    → put_all (e ∷ []) (reader p ns vs s out) ≡ some (reader (phase_after e p) ns (kept e vs) (state_after s e) (out ++ (e ∷ [])))
unfolding put_all
put_one e p ns vs s out g = put_yes e [] p ns vs s out g

put-cons : (e : Element) (fs : List Element) (r r' : Told) → put_all (e ∷ []) r ≡ some r' → put_all (e ∷ fs) r ≡ put_all fs r'
put-cons e fs (reader p ns vs s out) r' h =
    elim (see (eqb (fault s e) 0)) [
      | is_true g ↦ put_yes e fs p ns vs s out g ∙ ap (put_all fs) (same_some (sym (put_one e p ns vs s out g) ∙ h))
      | is_false g ↦ absurd (none_some (sym (put_no e [] p ns vs s out g) ∙ h))
    ]

put-cons_none : (e : Element) (fs : List Element) (r : Told) → put_all (e ∷ []) r ≡ none → put_all (e ∷ fs) r ≡ none
put-cons_none e fs (reader p ns vs s out) h =
    elim (see (eqb (fault s e) 0)) [
      | is_true g ↦ absurd (none_some (sym h ∙ put_one e p ns vs s out g))
      | is_false g ↦ put_no e fs p ns vs s out g
    ]

pub going_from : (es : List Element) (q : Reader) (st buf : List ℕ) → Going es es q st buf q st buf
going_from es q st buf = record { going = λ Ns Vs z r s. record { next = r; left = refl; stands = s }; names = refl; variables = inl refl }

chain : {a b c : ℕ} → (b ≡ a) ⊎ (b ≡ 0) → (c ≡ b) ⊎ (c ≡ 0) → (c ≡ a) ⊎ (c ≡ 0)
chain (inl e) (inl f) = inl (f ∙ e)
chain (inr e) (inl f) = inr (f ∙ e)
chain d (inr f) = inr f

module _ {es : List Element} {q₀ : Reader} {st₀ buf₀ : List ℕ} {q : Reader} {st buf : List ℕ} where
  pub going_on : {e : Element} {fs : List Element} {q' : Reader} {st' buf' : List ℕ} → Going es (e ∷ fs) q₀ st₀ buf₀ q st buf → Led (put_all (e ∷ [])) q st buf q' st' buf' → Going es fs q₀ st₀ buf₀ q' st' buf'
  going_on {e} {fs} g l =
      record {
        going = λ Ns Vs z r s.
            let m = g.going Ns Vs z r s in
            let a = l.after Ns Vs z m.next m.stands in
            record { next = a.next; left = m.left ∙ put-cons e fs m.next a.next a.is; stands = a.stands };
        names = l.names ∙ g.names;
        variables = chain g.variables l.variables;
      }

  pub going_bad : {e : Element} {fs : List Element} → Going es (e ∷ fs) q₀ st₀ buf₀ q st buf → Barred (put_all (e ∷ [])) q st buf → Barred (put_all es) q₀ st₀ buf₀
  going_bad {e} {fs} g l Ns Vs z r s =
      let m = g.going Ns Vs z r s in
      m.left ∙ put-cons_none e fs m.next (l Ns Vs z m.next m.stands)

  pub going_over : Going es [] q₀ st₀ buf₀ q st buf → Led (put_all es) q₀ st₀ buf₀ q st buf
  unfolding put_all
  going_over g =
      record {
        after = λ Ns Vs z r s. let m = g.going Ns Vs z r s in record { next = m.next; is = m.left; stands = m.stands };
        names = g.names;
        variables = g.variables;
      }

  pub going_able : {fs : List Element} → Able q₀ st₀ buf₀ → Going es fs q₀ st₀ buf₀ q st buf → Able q st buf
  going_able a g = (let m = g.going a.Ns a.Vs a.none a.told a.stands in record { Ns = a.Ns; Vs = a.Vs; none = a.none; told = m.next; stands = m.stands })

-- what is known of the answer
pub led : {f : Told → Option Told} {q q' : Reader} {st buf st' buf' : List ℕ} → Onward f q st buf (Some q') st' buf' → Led f q st buf q' st' buf'
led (leads l) = l

pub barred : {f : Told → Option Told} {q : Reader} {st buf st' buf' : List ℕ} → Onward f q st buf None st' buf' → Barred f q st buf
barred (stops b) = b

pub led_able : {f : Told → Option Told} {q q' : Reader} {st buf st' buf' : List ℕ} → Able q st buf → Led f q st buf q' st' buf' → Able q' st' buf'
led_able a l = (let m = l.after a.Ns a.Vs a.none a.told a.stands in record { Ns = a.Ns; Vs = a.Vs; none = a.none; told = m.next; stands = m.stands })
