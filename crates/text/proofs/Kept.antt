-- What stays true while a text is read: the elements so far are good, and their name numbers agree with the names.
use mathlib.Core.Path.{◌≡◌, refl, sym, ◌∙◌, ap, subst}
use mathlib.Core.Bool.{Bool, true, false, cond}
use mathlib.Core.Option.{Option, none, some}
use mathlib.Core.List.{List, [], ◌∷◌, ◌++◌, map, append_assoc, append-nil}
use Prim.Native.Nat.{ℕ, suc, ◌+◌}
use native.Mathlib.Omega.{arith}
use lib.ListN.{length, length-append}
use lib.Dec.{eqb}
use borrow.Author.Tests.{eqb-true}
use Rattle.meaning.specs.Elements.{Element, kind, body, cut, join, size}
use Rattle.meaning.specs.Goodness.{Part, field, outside, start, left, right, after, ended, State, at, tests, first_failing, fault, state_after, part_after, may_end, first_bad, bad_program, span, stands}
use Rattle.meaning.proofs.Truth.{is_true, is_false, see}
use Rattle.meaning.proofs.Cutting.{Whole, w_none, w_more, cut-join}
use Rattle.text.specs.Tokens.{Token, malformed, name, call, macrodigit, string, variable, sign, Placed}
use Rattle.text.specs.Numbering.{Key, name_key, number_of, has, adding}
use Rattle.text.specs.Agreeing.{naming, Counted, over, Distinct, alone}
use Rattle.text.proofs.Names.{Proper, Spelt, AllProper, no_token, one_more, tokens_proper, AllNamed, no_name, named_key, named_snoc, number-known, number_new, adding-known, adding_new, counted_other, counted_known, counted_first, distinct_snoc}
use Rattle.text.specs.Reading.{digits, element, Phase, free, between, owed, named, inside, Reader, reader, phase_after, kept, put_all, closing, part_of, type_of, signed, put_some, number_in, names_with, variables_with, within, heading, entering, enter, is_sign, Said, says, amiss, saying, finish, reads, begin, said}

pub never : {A : Type 0} → false ≡ true → A
never h = absurd (let z : ◌≡◌ {A = ℕ} 0 1 = cc in omega arith)

-- where no test fails, the second holds
second : (r : ℕ) (a b : Bool) (bs : List Bool) → eqb (first_failing (suc r) (a ∷ b ∷ bs)) 0 ≡ true → b ≡ true
unfolding first_failing
second r true true bs h = refl
second r true false bs h = absurd (omega (arith, eqb-true (suc (suc r)) 0 h))
second r false b bs h = absurd (omega (arith, eqb-true (suc r) 0 h))

-- a good element has its whole body
good_whole : (s : State) (e : Element) → eqb (fault s e) 0 ≡ true → length e ≡ suc (body (kind e))
unfolding fault tests
good_whole (at p os n vs) e h = eqb-true _ _ (second 0 _ _ _ h)

abbrev beginning : State
beginning = at outside [] 0 []

-- the elements so far are good and whole, and the check stands at s behind them
pub record Ready (s : State) (out : List Element) : Type 0 where
  pub wholes : Whole out
  pub stand : (es : List Element) → first_bad beginning 0 (out ++ es) ≡ first_bad s (size out) es

size-append : (xs : List Element) (e : Element) → size (xs ++ (e ∷ [])) ≡ size xs + length e
unfolding size join
size-append [] e = length-append e [] ∙ (let l : length e + 0 ≡ 0 + length e = omega arith in l)
size-append (x ∷ xs) e = length-append x (join (xs ++ (e ∷ []))) ∙ rw (size-append xs e) (let l : length (x ++ join xs) ≡ length x + length (join xs) = length-append x (join xs) in omega arith)

whole_append : {out : List Element} → Whole out → (e : Element) → length e ≡ suc (body (kind e)) → Whole (out ++ (e ∷ []))
whole_append w_none [] h = absurd (omega arith)
whole_append w_none (k ∷ b) h = w_more {k = k} (let q : length b ≡ body k = omega arith in q) w_none
whole_append (w_more h w) e q = w_more h (whole_append w e q)

bad_cons : (s : State) (i : ℕ) (e : Element) (es : List Element) → eqb (fault s e) 0 ≡ true → first_bad s i (e ∷ es) ≡ first_bad (state_after s e) (i + length e) es
unfolding first_bad
bad_cons s i e es h = rw h

pub ready_more : {s : State} {out : List Element} (e : Element) → eqb (fault s e) 0 ≡ true → Ready s out → Ready (state_after s e) (out ++ (e ∷ []))
ready_more {s} {out} e h r = record {
  wholes = whole_append r.wholes e (good_whole s e h);
  stand = λ es. rw (append_assoc out (e ∷ []) es) (r.stand (e ∷ es) ∙ bad_cons s (size out) e es h ∙ rw (size-append out e) refl);
}

-- what is true of names, the check's state and the elements so far
pub record Sound (ns : List Key) (s : State) (out : List Element) : Type 0 where
  pub ready : Ready s out
  pub counted : Counted 0 out (length ns)
  pub named : AllNamed ns
  pub distinct : Distinct ns

abbrev SoundR : Reader → Type 0
SoundR (reader p ns vs s out) = Sound ns s out

abbrev Kept : Option Reader → Type 0
Kept none = Unit {0}
Kept (some r) = SoundR r

-- a good program, whose name numbers are those of the list, which holds no name twice
pub record Agreed (es : List Element) (ns : List Key) : Type 0 where
  pub good : bad_program (join es) ≡ none
  pub counted : Counted 0 es (length ns)
  pub named : AllNamed ns
  pub distinct : Distinct ns

abbrev Fine : Said → Type 0
Fine (amiss i) = Unit {0}
Fine (says es ns) = Agreed es ns

pub put_yes : (e : Element) (es : List Element) (p : Phase) (ns vs : List Key) (s : State) (out : List Element)
    → eqb (fault s e) 0 ≡ true → put_all (e ∷ es) (reader p ns vs s out) ≡ put_all es (reader (phase_after e p) ns (kept e vs) (state_after s e) (out ++ (e ∷ [])))
unfolding put_all
put_yes e es p ns vs s out h = rw (h, put_all)

pub put_no : (e : Element) (es : List Element) (p : Phase) (ns vs : List Key) (s : State) (out : List Element)
    → eqb (fault s e) 0 ≡ false → put_all (e ∷ es) (reader p ns vs s out) ≡ none
unfolding put_all
put_no e es p ns vs s out h = rw (h, put_all)

-- elements without a name
pub data Plain : List Element → Type 0 where
  no_element : Plain []
  plain_more : {e : Element} {es : List Element} → naming (kind e) ≡ false → Plain es → Plain (e ∷ es)

plain_put : {ns : List Key} {s : State} {out : List Element} (e : Element) → naming (kind e) ≡ false → eqb (fault s e) 0 ≡ true → Sound ns s out → Sound ns (state_after s e) (out ++ (e ∷ []))
plain_put e p g h = record { ready = ready_more e g h.ready; counted = counted_other e p h.counted; named = h.named; distinct = h.distinct }

put-kept : {es : List Element} → Plain es → (r : Reader) → SoundR r → Kept (put_all es r)
put-kept no_element r h = unfold put_all in h
put-kept (plain_more {e} {es} n ps) (reader p ns vs s out) h =
    elim (see (eqb (fault s e) 0)) [
      | is_true g ↦ subst Kept (sym (put_yes e es p ns vs s out g)) (put-kept ps _ (plain_put e n g h))
      | is_false g ↦ subst Kept (sym (put_no e es p ns vs s out g)) tt
    ]

-- an element with a name
named_put : {ns : List Key} {s : State} {out : List Element} (j : ℕ) (x : List ℕ) → naming j ≡ true → Spelt x → Sound ns s out
    → eqb (fault s (element j (number_of (name_key x) ns))) 0 ≡ true
    → Sound (adding (name_key x) ns) (state_after s (element j (number_of (name_key x) ns))) (out ++ (element j (number_of (name_key x) ns) ∷ []))
named_put {ns} j x n k h g =
    elim (see (has (name_key x) ns)) [
      | is_true a ↦
          rw (adding-known (name_key x) ns a)
          (record { ready = ready_more _ g h.ready; counted = counted_known j _ n (number-known (name_key x) ns a) h.counted; named = h.named; distinct = h.distinct })
      | is_false a ↦
          let e : number_of (name_key x) ns ≡ length ns = number_new (name_key x) (named_key x k) h.named a in
          let l : length (ns ++ (name_key x ∷ [])) ≡ suc (length ns) = length-append ns (name_key x ∷ []) ∙ (let z : length ns + 1 ≡ suc (length ns) = omega arith in z) in
          rw (adding_new (name_key x) ns a)
          (record {
            ready = ready_more _ g h.ready;
            counted = rw (l, e) (counted_first j n h.counted);
            named = named_snoc h.named (named_key x k);
            distinct = distinct_snoc (name_key x) h.distinct a;
          })
    ]

name_kept : (j : ℕ) (x : List ℕ) → naming j ≡ true → Spelt x → (p : Phase) (ns vs : List Key) (s : State) (out : List Element) → Sound ns s out
    → Kept (put_all (element j (number_of (name_key x) ns) ∷ []) (reader p (adding (name_key x) ns) vs s out))
name_kept j x n k p ns vs s out h =
    let e = element j (number_of (name_key x) ns) in
    elim (see (eqb (fault s e) 0)) [
      | is_true g ↦ subst Kept (sym (put_yes e [] p _ vs s out g)) (unfold put_all in named_put j x n k h g)
      | is_false g ↦ subst Kept (sym (put_no e [] p _ vs s out g)) tt
    ]

plain_string : (x : List ℕ) → Plain (map (element 1) x)
unfolding element naming
plain_string [] = no_element
plain_string (c ∷ x) = plain_more refl (plain_string x)

plain_one : (k n : ℕ) → naming k ≡ false → Plain (element k n ∷ [])
unfolding element
plain_one k n h = plain_more h no_element

abbrev PlainO : Option (List Element) → Type 0
PlainO none = Unit {0}
PlainO (some es) = Plain es

plain_cond : (c : Bool) (x y : Option (List Element)) → PlainO x → PlainO y → PlainO (cond c x y)
plain_cond true x y h k = h
plain_cond false x y h k = k

plain_closing : (p : Part) → Plain (closing p)
unfolding closing element naming
plain_closing field = plain_more refl no_element
plain_closing outside = plain_more refl no_element
plain_closing start = plain_more refl no_element
plain_closing left = plain_more refl no_element
plain_closing right = plain_more refl (plain_more refl no_element)
plain_closing after = plain_more refl no_element
plain_closing ended = plain_more refl no_element

plain_signed : (p : Part) (c : ℕ) → PlainO (signed p c)
unfolding signed naming
plain_signed p c =
    plain_cond (eqb c 40) _ _ (plain_one 4 0 refl)
    (plain_cond (eqb c 41) _ _ (plain_one 5 0 refl)
    (plain_cond (eqb c 62) _ _ (plain_one 7 0 refl)
    (plain_cond (eqb c 61) _ _ (plain_one 11 0 refl)
    (plain_cond (eqb c 59) _ _ (plain_one 12 0 refl)
    (plain_cond (eqb c 125) _ _ (plain_closing p) tt)))))

some_kept : (o : Option (List Element)) → PlainO o → (r : Reader) → SoundR r → Kept (put_some o r)
unfolding put_some
some_kept none p r h = tt
some_kept (some es) p r h = put-kept p r h

plain_type : (b : ℕ) → naming (type_of b) ≡ false
unfolding naming type_of
plain_type b =
    elim (see (eqb b 115)) [
      | is_true h ↦ rw h
      | is_false h ↦ elim (see (eqb b 116)) [ is_true k ↦ rw (h, k) | is_false k ↦ rw (h, k) ]
    ]

-- what a token makes in some phase: elements without a name, or one with its name's number
data Makes (ns : List Key) : Token → Option (List Element) → Type 0 where
  makes_plain : {t : Token} {o : Option (List Element)} → names_with t ns ≡ ns → PlainO o → Makes ns t o
  makes_named : (t : Token) (x : List ℕ) (j : ℕ) → Spelt x → naming j ≡ true → names_with t ns ≡ adding (name_key x) ns → Makes ns t (some (element j (number_of (name_key x) ns) ∷ []))
  makes_none : {t : Token} → Makes ns t none

makes_kept : {ns : List Key} {t : Token} {o : Option (List Element)} → Makes ns t o → (p : Phase) (vs : List Key) (s : State) (out : List Element) → Sound ns s out → Kept (put_some o (reader p (names_with t ns) vs s out))
unfolding put_some
makes_kept {o = o} (makes_plain e q) p vs s out h = rw e (some_kept o q (reader p _ vs s out) h)
makes_kept {ns} (makes_named t x j sp n e) p vs s out h = rw e (name_kept j x n sp p ns vs s out h)
makes_kept makes_none p vs s out h = tt

within_makes : (t : Token) → Proper t → (p : Part) (ns vs : List Key) → Makes ns t (within p t (number_in t ns vs))
unfolding within number_in names_with naming
within_makes malformed h p ns vs = makes_none
within_makes (name x) h p ns vs = makes_named (name x) x 2 h refl refl
within_makes (call x) h p ns vs = makes_named (call x) x 6 h refl refl
within_makes (macrodigit v) h p ns vs = makes_plain refl (plain_one 3 v refl)
within_makes (string x) h p ns vs = makes_plain refl (plain_string x)
within_makes (variable b x) h p ns vs = makes_plain refl (plain_one (type_of b) (number_of (type_of b ∷ x) vs) (plain_type b))
within_makes (sign c) h p ns vs = makes_plain refl (plain_signed p c)

heading_makes : (t : Token) → Proper t → (ns vs : List Key) → Makes ns t (heading t (number_in t ns vs))
unfolding heading number_in names_with naming
heading_makes malformed h ns vs = makes_none
heading_makes (name x) h ns vs = makes_named (name x) x 13 h refl refl
heading_makes (call x) h ns vs = makes_none
heading_makes (macrodigit v) h ns vs = makes_none
heading_makes (string x) h ns vs = makes_none
heading_makes (variable b x) h ns vs = makes_none
heading_makes (sign c) h ns vs = makes_none

-- a sign brings no name
sign_names : (c : ℕ) (t : Token) (ns : List Key) → is_sign c t ≡ true → names_with t ns ≡ ns
unfolding names_with
sign_names c malformed ns h = refl
sign_names c (name x) ns h = never h
sign_names c (call x) ns h = never h
sign_names c (macrodigit n) ns h = refl
sign_names c (string x) ns h = refl
sign_names c (variable b x) ns h = refl
sign_names c (sign d) ns h = refl

sign_kept : (c : ℕ) (t : Token) (p : Phase) (ns vs : List Key) (s : State) (out : List Element) (y : Option Reader) → Sound ns s out → Kept y → Kept (cond (is_sign c t) (some (reader p (names_with t ns) vs s out)) y)
sign_kept c t p ns vs s out y h k = elim (see (is_sign c t)) [ is_true e ↦ rw (e, sign_names c t ns e) h | is_false e ↦ rw e k ]

enter-kept : (t : Token) → Proper t → (r : Reader) → SoundR r → Kept (enter t r)
unfolding enter entering
enter-kept t p (reader free ns vs s out) h = makes_kept (heading_makes t p ns vs) free (variables_with t vs) s out h
enter-kept t p (reader between ns vs s out) h = sign_kept 59 t owed ns (variables_with t vs) s out _ h (makes_kept (heading_makes t p ns vs) between (variables_with t vs) s out h)
enter-kept t p (reader owed ns vs s out) h = makes_kept (heading_makes t p ns vs) owed (variables_with t vs) s out h
enter-kept t p (reader named ns vs s out) h = sign_kept 123 t inside ns (variables_with t vs) s out none h tt
enter-kept t p (reader inside ns vs s out) h = makes_kept (within_makes t p (part_of s) ns vs) inside (variables_with t vs) s out h

-- 0F can be put outside functions only, and ends the program
last_whole : (s : State) → eqb (fault s (element 15 0)) 0 ≡ true → may_end (state_after s (element 15 0)) ≡ true
unfolding fault tests first_failing may_end state_after part_after stands span body element digits
last_whole (at field os n vs) h = never h
last_whole (at outside os n vs) h = refl
last_whole (at start os n vs) h = h
last_whole (at left os n vs) h = h
last_whole (at right os n vs) h = h
last_whole (at after os n vs) h = h
last_whole (at ended os n vs) h = refl

bad_end : (s : State) (i : ℕ) → may_end s ≡ true → first_bad s i [] ≡ none
unfolding first_bad
bad_end s i h = rw h

-- elements that are whole are cut again as they were
cut_back : {es : List Element} → Whole es → cut 0 (join es) ≡ es
unfolding cut
cut_back {es} w = ap (cut 0) (sym (append-nil (join es))) ∙ cut-join w [] ∙ append-nil es

ends_good : {s : State} {out : List Element} → Ready s out → eqb (fault s (element 15 0)) 0 ≡ true → bad_program (join (out ++ (element 15 0 ∷ []))) ≡ none
unfolding bad_program
ends_good {s} {out} h g =
    let r = ready_more (element 15 0) g h in
    rw (cut_back r.wholes) (ap (first_bad beginning 0) (sym (append-nil (out ++ (element 15 0 ∷ [])))) ∙ r.stand [] ∙ bad_end _ _ (last_whole s g))

fine_end : (p : Phase) (ns vs : List Key) (s : State) (out : List Element) (n : ℕ) → Sound ns s out → Fine (saying n (put_all (element 15 0 ∷ []) (reader p ns vs s out)))
unfolding naming put_all
fine_end p ns vs s out n h =
    elim (see (eqb (fault s (element 15 0)) 0)) [
      | is_true g ↦
          subst (λ (o : Option Reader). Fine (saying n o)) (sym (put_yes (element 15 0) [] p ns vs s out g))
          (record { good = ends_good h.ready g; counted = counted_other (element 15 0) (unfold element in refl) h.counted; named = h.named; distinct = h.distinct })
      | is_false g ↦ subst (λ (o : Option Reader). Fine (saying n o)) (sym (put_no (element 15 0) [] p ns vs s out g)) tt
    ]

finish_fine : (n : ℕ) (r : Reader) → SoundR r → Fine (finish n r)
unfolding finish
finish_fine n (reader free ns vs s out) h = fine_end free ns vs s out n h
finish_fine n (reader between ns vs s out) h = fine_end between ns vs s out n h
finish_fine n (reader owed ns vs s out) h = tt
finish_fine n (reader named ns vs s out) h = fine_end named ns vs s out n h
finish_fine n (reader inside ns vs s out) h = fine_end inside ns vs s out n h

reads_fine : (n : ℕ) {ts : List Placed} → AllProper ts → (r : Reader) → SoundR r → Fine (reads n ts r)
unfolding reads
reads_fine n no_token r h = finish_fine n r h
reads_fine n (one_more {i} {t} {ts} p ps) r h = go (λ r' k. reads_fine n ps r' k) (enter t r) (enter-kept t p r h)
  where
    go : ((r' : Reader) → SoundR r' → Fine (reads n ts r')) → (o : Option Reader) → Kept o → Fine (elim o [ none ↦ amiss i | some r' ↦ reads n ts r' ])
    go ih none k = tt
    go ih (some r') k = ih r' k

begin_sound : Sound [] beginning []
unfolding size join
begin_sound = record { ready = record { wholes = w_none; stand = λ es. refl }; counted = over; named = no_name; distinct = alone }

pub agreed : (text : List ℕ) (es : List Element) (ns : List Key) → said text ≡ says es ns → Agreed es ns
unfolding said
agreed text es ns h = subst Fine h (reads_fine (length text) (tokens_proper 0 true 0 text) begin begin_sound)
