-- A token's name or variable, met: its number, and the tables with it.
use mathlib.Core.Path.{◌≡◌, refl, sym, ◌∙◌, ap}
use mathlib.Core.Bool.{Bool, true, false}
use mathlib.Core.List.{List, [], ◌∷◌, map}
use Prim.Native.Nat.{ℕ, suc, ◌+◌, ◌≤◌, ◌<◌}
use native.Mathlib.Omega.{arith}
use native.Mathlib.Numerals.{add-one}
use lib.ListN.{length, get_or, drop, get_or-eq_default}
use lib.Seq.{drop-cons}
use lib.Dec.{eqb, leb}
use borrow.Author.Tests.{leb-true, leb-false, le-leb}
use types.Run.{OneOf, miss}
use denote.Enum.Declared.{tag_of}
use Rattle.meaning.specs.Goodness.{span}
use Rattle.meaning.specs.Elements.{kind, same}
use Rattle.meaning.proofs.Truth.{is_true, is_false, see, span_le}
use Rattle.text.specs.Classes.{class_of, of, is_capital, in_name, front, spell}
use Rattle.text.specs.Tokens.{tail_of, spelled}
use Rattle.text.specs.Numbering.{Key, name_key, number_of, adding}
use Rattle.text.specs.Reading.{type_of, number_in, names_with, variables_with}
use Rattle.classes.proofs.Runs.{run_ends}
use Rattle.names.specs.Names.{key_at}
use Rattle.names.specs.Index.{count_after, Numbered}
use Rattle.names.specs.Tables.{Numbered as NameMet}
use Rattle.names.specs.declared.Names.{Names}
use Rattle.variables.specs.Entries.{kinds, starts, sizes}
use Rattle.variables.specs.Tables.{keys, Numbered as VariableMet}
use Rattle.variables.specs.declared.Variables.{Variables}
use denote.Bor.{Bor}
use Rattle.classes.specs.Table.{part}
use Rattle.variables.proofs.Few.{few_length, keys_length}
use Rattle.tokens.specs.declared.Token.{Token}
use Rattle.tokens.specs.declared.Token.TheVariants as T
use Rattle.tokens.specs.contracts.Token.{the_type}
use Rattle.tokens.specs.Lexemes.{token_of, Proper}
use Rattle.putting.specs.Putting.{Fits}
use Rattle.reading.specs.Reading.{Spaced, names_in, Meeting, Met, Sentence}

key_is : (s : List ℕ) (i : ℕ) → key_at s i ≡ spelled (drop i s)
unfolding key_at
key_is s i = refl

count_most : (n r : ℕ) → count_after n r ≤ n + 1
count_most n r = elim (see (eqb r n)) [ is_true h ↦ rw h (omega arith) | is_false h ↦ rw h (omega arith) ]

-- NAMES

module _ {s : List ℕ} {j n : ℕ} {firsts heads links firsts' heads' links' : List ℕ} {r : ℕ} (h : Numbered s firsts heads links n j firsts' heads' links' r) where
  -- a token t at `at` with the name at j
  met_name : {kinds starts sizes : List ℕ} {m : ℕ} (at : ℕ) (t : Token) → n < 32768
      → ((ns vs : List Key) → number_in (token_of s at t) ns vs ≡ number_of (name_key (spelled (drop j s))) ns)
      → ((ns : List Key) → names_with (token_of s at t) ns ≡ adding (name_key (spelled (drop j s))) ns)
      → ((vs : List Key) → variables_with (token_of s at t) vs ≡ vs)
      → ((n : ℕ) → n < 65536 → Fits t n) → names_in t ≡ 1 → Meeting s at t firsts kinds starts sizes n m firsts' kinds starts sizes (count_after n r) m r
  met_name at t small en ew ev f one =
      record {
        number = h.number ∙ rw (key_is s j) (sym (en _ _));
        fits = f r (omega (arith, h.most));
        names = h.list ∙ rw (key_is s j) (sym (ew _));
        variables = sym (ev _);
        most = omega (arith, count_most n r, one);
      }

module _ {at : ℕ} {t : Token} {ns ns' : Names} {vs : Variables} {r : ℕ} (small : ns.count < 32768) where
  pub met_as_name : t ≡ T.Name → NameMet ns at ns' r → Met at t ns vs ns' vs r
  unfolding token_of number_in names_with variables_with
  met_as_name e h =
      rw e (record { meeting = rw h.count (met_name h.numbered at T.Name small (λ ns vs. refl) (λ ns. refl) (λ vs. refl) (λ n h. h) refl); names_text = h.text; variables_text = refl })

  pub met_as_call : t ≡ T.Call → NameMet ns (at + 1) ns' r → Met at t ns vs ns' vs r
  unfolding token_of number_in names_with variables_with
  met_as_call e h =
      rw e (record { meeting = rw h.count (met_name h.numbered at T.Call small (λ ns vs. refl) (λ ns. refl) (λ vs. refl) (λ n h. h) refl); names_text = h.text; variables_text = refl })

-- VARIABLES

pub number_most : (x : Key) (ks : List Key) → number_of x ks ≤ length ks
unfolding number_of
number_most x [] = omega arith
number_most x (k ∷ ks) =
    elim (see (same x k)) [
      | is_true h ↦ rw (h, number_of) (omega arith)
      | is_false h ↦
          let l : number_of x ks ≤ length ks = number_most x ks in
          elim (see (eqb (kind x) (kind k))) [ is_true e ↦ rw (h, e, number_of) (omega arith) | is_false e ↦ rw (h, e, number_of) (omega arith) ]
    ]

-- how many variables there are
pub variables_few : {ns : Names} {vs : Variables} → Sentence ns vs → vs.count ≤ 48
variables_few {vs = vs} h =
    omega (arith, few_length h.few, keys_length vs.text.now (kinds vs.entries) (starts vs.entries) (sizes vs.entries) vs.count)

-- a variable's number is small
pub variable_small : {ns : Names} {vs vs' : Variables} {x : Key} {r : ℕ} → Sentence ns vs → VariableMet vs x vs' r → r < 49
variable_small {vs = vs} {x = x} sentence h = omega (arith, h.numbered.number, number_most x (keys vs), few_length sentence.few)

module _ {ns : Names} {vs vs' : Variables} {at start size k r : ℕ} (sentence : Sentence ns vs) (e : k ≡ type_of (get_or ns.text.now at 0))
    (h : VariableMet vs (k ∷ part vs.text.now start size) vs' r) where
  pub met_as_variable : {t : Token} → t ≡ T.Variable start size → Met at t ns vs ns vs' r
  unfolding token_of number_in names_with variables_with
  met_as_variable f =
      let one : vs.text.now ≡ ns.text.now = ap (λ (b : Bor (List ℕ)). b.now) sentence.text in
      let v = rw (e, one) at h.numbered in
      rw f (record {
        meeting = record {
          number = v.number;
          fits = omega (arith, variable_small sentence h);
          names = refl;
          variables = v.keys;
          most = omega arith;
        };
        names_text = refl;
        variables_text = h.text;
      })

-- OTHER TOKENS

module _ {at : ℕ} {ns : Names} {vs : Variables} where
  nothing_met : (t : Token) → ((s : List ℕ) (ns vs : List Key) → number_in (token_of s at t) ns vs ≡ 0) → ((s : List ℕ) (ns : List Key) → names_with (token_of s at t) ns ≡ ns)
      → ((s : List ℕ) (vs : List Key) → variables_with (token_of s at t) vs ≡ vs) → Fits t 0 → names_in t ≡ 0 → Met at t ns vs ns vs 0
  nothing_met t en ew ev f none =
      record {
        meeting = record { number = sym (en _ _ _); fits = f; names = sym (ew _ _); variables = sym (ev _ _); most = omega (arith, none) };
        names_text = refl;
        variables_text = refl;
      }

  pub met_as_other : (t : Token) → OneOf (0 ∷ 1 ∷ 4 ∷ 5 ∷ 7 ∷ []) (tag_of the_type t) → Met at t ns vs ns vs 0
  unfolding token_of number_in names_with variables_with
  met_as_other T.Gap k = nothing_met T.Gap (λ s ns vs. refl) (λ s ns. refl) (λ s vs. refl) (omega arith) refl
  met_as_other T.Malformed k = nothing_met T.Malformed (λ s ns vs. refl) (λ s ns. refl) (λ s vs. refl) (omega arith) refl
  met_as_other T.Name k = absurd (miss (0 ∷ 1 ∷ 4 ∷ 5 ∷ 7 ∷ []) 2 tt k)
  met_as_other T.Call k = absurd (miss (0 ∷ 1 ∷ 4 ∷ 5 ∷ 7 ∷ []) 3 tt k)
  met_as_other (T.Macrodigit d) k = nothing_met (T.Macrodigit d) (λ s ns vs. refl) (λ s ns. refl) (λ s vs. refl) (omega arith) refl
  met_as_other T.String k = nothing_met T.String (λ s ns vs. refl) (λ s ns. refl) (λ s vs. refl) (omega arith) refl
  met_as_other (T.Variable a b) k = absurd (miss (0 ∷ 1 ∷ 4 ∷ 5 ∷ 7 ∷ []) 6 tt k)
  met_as_other T.Sign k = nothing_met T.Sign (λ s ns vs. refl) (λ s ns. refl) (λ s vs. refl) (omega arith) refl

-- SPACES BETWEEN NAMES

length_tail : (bs : List ℕ) → length (tail_of bs) ≡ length (front in_name bs)
unfolding tail_of
length_tail bs = go (front in_name bs)
  where
    go : (xs : List ℕ) → length (map spell xs) ≡ length xs
    go [] = refl
    go (x ∷ xs) = ap suc (go xs)

spelled_long : (s : List ℕ) (i : ℕ) → i < length s → length (spelled (drop i s)) ≡ 1 + length (front in_name (drop (i + 1) s))
unfolding spelled
spelled_long s i l = rw (drop-cons s i 0 l, add-one i) (omega (arith, length_tail (drop (suc i) s)))

capital_named : (b : ℕ) → is_capital b ≡ true → in_name b ≡ true
unfolding of span
capital_named b h = (let (l, m) = span_le 3 3 (class_of b) h in rw (le-leb 3 (class_of b) (omega arith), le-leb (class_of b) 7 (omega arith)))

zero_plain : (b : ℕ) → b ≡ 0 → is_capital b ≡ true → ⊥
unfolding of class_of span
zero_plain b e h = absurd (let z : false ≡ true = rw e at h in (let w : ◌≡◌ {A = ℕ} 0 1 = cc in omega arith))

true_false : {b : Bool} → b ≡ true → b ≡ false → ⊥
true_false h k = absurd (let z : true ≡ false = sym h ∙ k in (let w : ◌≡◌ {A = ℕ} 1 0 = cc in omega arith))

-- no name begins where one ends
name_ends : (s : List ℕ) (i end : ℕ) → i < length s → end ≡ i + length (spelled (drop i s)) → is_capital (get_or s end 0) ≡ true → ⊥
name_ends s i end l e h =
    let d : end ≡ i + 1 + length (front in_name (drop (i + 1) s)) = omega (arith, spelled_long s i l) in
    elim (see (leb (length s) end)) [
      | is_true k ↦ zero_plain _ (get_or-eq_default s 0 (leb-true (length s) end k)) h
      | is_false k ↦ true_false (capital_named _ h) (rw (← d) at (run_ends in_name s (i + 1) (rw d at (leb-false (length s) end k))))
    ]

pub proper_as : (s : List ℕ) (at end : ℕ) {t u : Token} → t ≡ u → Proper s at t end → Proper s at u end
proper_as s at end e p = rw e at p

pub names_fit : {s : List ℕ} {at end n : ℕ} → length s ≤ 65536 → at < length s → Proper s at T.Name end → Spaced s at n → n < 32768
names_fit l h p sp = omega (arith, sp.next p.0)

pub calls_fit : {s : List ℕ} {at end n : ℕ} → length s ≤ 65536 → Proper s at T.Call end → Spaced s at n → n < 32768
calls_fit l p sp = omega (arith, sp.near, p.0)

-- behind a token
pub spaced_on : {s : List ℕ} {at end n n' : ℕ} (t : Token) → at < length s → at < end → Proper s at t end → Spaced s at n → n' ≤ n + names_in t → Spaced s end n'
spaced_on T.Gap l h p sp m = record { near = omega (arith, sp.near); next = λ c. omega (arith, sp.near) }
spaced_on T.Malformed l h p sp m = record { near = omega (arith, sp.near); next = λ c. omega (arith, sp.near) }
spaced_on {s} {at} {end} T.Name l h p sp m = record { near = omega (arith, sp.next p.0); next = λ c. absurd (name_ends s at end l p.2 c) }
spaced_on {s} {at} {end} T.Call l h p sp m = record { near = omega (arith, sp.near, p.2, spelled_long s (at + 1) p.0); next = λ c. absurd (name_ends s (at + 1) end p.0 p.2 c) }
spaced_on (T.Macrodigit v) l h p sp m = record { near = omega (arith, sp.near); next = λ c. omega (arith, sp.near) }
spaced_on T.String l h p sp m = record { near = omega (arith, sp.near); next = λ c. omega (arith, sp.near) }
spaced_on (T.Variable a b) l h p sp m = record { near = omega (arith, sp.near); next = λ c. omega (arith, sp.near) }
spaced_on T.Sign l h p sp m = record { near = omega (arith, sp.near); next = λ c. omega (arith, sp.near) }
