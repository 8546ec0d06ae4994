-- The loop over a text's tokens: what it has read so far, a turn, and its ends.
use mathlib.Core.Path.{◌≡◌, refl, sym, ◌∙◌, ap}
use mathlib.Core.Bool.{Bool, true, false}
use mathlib.Core.Logic.{◌⊎◌, inl, inr}
use mathlib.Core.Option.{Option, none, some}
use mathlib.Core.List.{List, [], ◌∷◌}
use Prim.Native.Nat.{ℕ, ◌+◌, ◌-◌, ◌%◌, ◌≤◌, ◌<◌}
use native.Mathlib.Omega.{arith}
use lib.ListN.{length, get_or}
use lib.Dec.{eqb, leb}
use borrow.Author.Tests.{le-leb, leb-true}
use Rattle.meaning.specs.Elements.{Element, body, join, is_variable}
use Rattle.meaning.specs.Goodness.{State as Stage, at, outside, implies, fault, tests, first_failing}
use Rattle.meaning.proofs.Truth.{is_true, is_false, see}
use Rattle.text.specs.Tokens.{Token as Meaning, malformed, variable, token, gap}
use Rattle.text.specs.Tokens as Tok
use Rattle.text.specs.Numbering.{Key, number_of}
use Rattle.text.specs.Reading.{digits, element, free, between, owed, named as is_named, inside, Reader as Told, reader, put_all, put_some, type_of, within, heading, number_in, variables_with, entering, enter, begin, says, amiss, saying, reads, finish, said}
use Rattle.text.proofs.Kept.{put_no}
use Rattle.kinds.specs.Stacks.{stack}
use Rattle.taking.specs.Standing.{part_of as part_at}
use Rattle.taking.proofs.Variables.{holds_none}
use denote.Bor.{Bor}
use Rattle.names.specs.Names.{keys, named}
use Rattle.names.specs.Entries.{firsts}
use Rattle.names.specs.declared.Names.{Names}
use Rattle.variables.specs.Entries.{kinds, starts, sizes}
use Rattle.variables.specs.declared.Variables.{Variables}
use Rattle.variables.specs.Variables.{keys_from, keys_of}
use Rattle.variables.specs.Few.{Few}
use Rattle.variables.proofs.Few.{few_none, few_length, few_more}
use Rattle.tokens.specs.declared.Token.{Token}
use Rattle.tokens.specs.declared.Token.TheVariants as T
use Rattle.tokens.specs.contracts.Token.{the_type}
use types.Run.{OneOf, miss}
use denote.Enum.Declared.{tag_of}
use Rattle.tokens.specs.declared.Lexeme.{Lexeme}
use Rattle.tokens.specs.Lexemes.{token_of, lexeme_of, lex_at, Tells}
use Rattle.putting.specs.declared.Reader.{Reader}
use Rattle.putting.specs.Putting.{phase_of, Filled, Stands, Able, After, Led, Barred, Entered}
use Rattle.putting.proofs.Making.{body_type}
use Rattle.std.specs.Prelude.{Result, Ok, Err}
use Rattle.putting.specs.declared.Phase.{Phase}
use Rattle.putting.specs.declared.Phase.TheVariants as P
use Rattle.reading.specs.Reading.{with_counts, begun, gaps, Spaced, Meeting, Met, Finishing, ends, early, Saying, good, bad}
use Rattle.reading.proofs.Places.{from, gap_at, reads_on, reads_stop, reads_end, reads-begin}
use Rattle.reading.proofs.Meeting.{number_most, spaced_on}

-- what was read up to a place
pub record Reads (s firsts kinds starts sizes st buf : List ℕ) (q : Reader) (i : ℕ) : Type 0 where
  pub told : Told
  pub stands : Stands (named s firsts) (keys_of s kinds starts sizes) q st buf told
  pub few : Few (keys_of s kinds starts sizes q.variables)
  pub spaced : Spaced s i q.names
  pub same : said s ≡ reads (length s) (from s i) told

no_variables : (s kinds starts sizes : List ℕ) → keys_of s kinds starts sizes 0 ≡ []
unfolding keys_from
no_variables s kinds starts sizes = refl

-- BEFORE THE FIRST TOKEN

no_keys : (s firsts : List ℕ) → named s firsts 0 ≡ []
unfolding keys
no_keys s firsts = refl

nothing_filled : (buf : List ℕ) → Filled buf (join []) 0
unfolding join
nothing_filled buf = record { fits = λ h. (refl, refl); over = λ h. absurd (omega arith) }

pub reads_first : (s firsts kinds starts sizes st buf : List ℕ) → 400 ≤ length st → length buf ≤ 65536 → Reads s firsts kinds starts sizes st buf begun 0
unfolding begun part_at stack
reads_first s firsts kinds starts sizes st buf r b =
    record {
      told = begin;
      stands =
          record {
            stage = at outside [] 0 [];
            out = [];
            is = rw (no_keys s firsts, no_variables s kinds starts sizes);
            means = record { vs = []; is = refl; holds = holds_none; part = omega arith; deep = omega arith; inside = omega arith; few = omega arith };
            program = omega arith;
            room = r;
            short = b;
            filled = nothing_filled buf;
          };
      few = rw (no_variables s kinds starts sizes) few_none;
      spaced = record { near = omega arith; next = λ c. omega arith };
      same = reads-begin s;
    }

-- A GAP

-- a lexeme's end
end_is : (i end : ℕ) → i < end → i + 1 + (end - (i + 1)) ≡ end
end_is i end h = omega arith

true_not : {A : Type 0} → false ≡ true → A
true_not h = absurd (let z : ◌≡◌ {A = ℕ} 0 1 = cc in omega arith)

is_gap : (s : List ℕ) (i : ℕ) (t : Token) (n : ℕ) → gaps t ≡ true → lexeme_of s i t n ≡ gap n
unfolding lexeme_of
is_gap s i T.Gap n g = refl
is_gap s i T.Malformed n g = true_not g
is_gap s i T.Name n g = true_not g
is_gap s i T.Call n g = true_not g
is_gap s i (T.Macrodigit v) n g = true_not g
is_gap s i T.String n g = true_not g
is_gap s i (T.Variable a b) n g = true_not g
is_gap s i T.Sign n g = true_not g

pub not_gap : (t : Token) → OneOf (1 ∷ 2 ∷ 3 ∷ 4 ∷ 5 ∷ 6 ∷ 7 ∷ []) (tag_of the_type t) → false ≡ gaps t
not_gap T.Gap k = absurd (miss (1 ∷ 2 ∷ 3 ∷ 4 ∷ 5 ∷ 6 ∷ 7 ∷ []) 0 tt k)
not_gap T.Malformed k = refl
not_gap T.Name k = refl
not_gap T.Call k = refl
not_gap (T.Macrodigit v) k = refl
not_gap T.String k = refl
not_gap (T.Variable a b) k = refl
not_gap T.Sign k = refl

-- another is a token, or malformed
is_token : (s : List ℕ) (i : ℕ) (t : Token) (n : ℕ) → gaps t ≡ false → (lexeme_of s i t n ≡ token (token_of s i t) n) ⊎ ((lexeme_of s i t n ≡ token malformed 0) × (token_of s i t ≡ malformed))
unfolding lexeme_of token_of
is_token s i T.Gap n g = true_not (sym g)
is_token s i T.Malformed n g = inr (refl, refl)
is_token s i T.Name n g = inl refl
is_token s i T.Call n g = inl refl
is_token s i (T.Macrodigit v) n g = inl refl
is_token s i T.String n g = inl refl
is_token s i (T.Variable a b) n g = inl refl
is_token s i T.Sign n g = inl refl

module _ {s firsts kinds starts sizes st buf : List ℕ} {q : Reader} {i : ℕ} (R : Reads s firsts kinds starts sizes st buf q i) where
  pub reads_able : Able q st buf
  reads_able = record { Ns = named s firsts; Vs = keys_of s kinds starts sizes; none = no_variables s kinds starts sizes; told = R.told; stands = R.stands }

  pub reads_gap : (x : Lexeme) → Tells s i x (lex_at s i) → i < length s → gaps x.token ≡ true → Reads s firsts kinds starts sizes st buf q x.end
  reads_gap x t l g =
      record {
        told = R.told;
        stands = R.stands;
        few = R.few;
        spaced = spaced_on x.token l t.ahead t.proper R.spaced (omega arith);
        same = R.same ∙ ap (λ ts. reads (length s) ts R.told) (gap_at s i (x.end - (i + 1)) l (sym t.is ∙ is_gap s i x.token (x.end - (i + 1)) g) ∙ ap (from s) (end_is i x.end t.ahead));
      }

-- A TOKEN

-- where no test fails, the fourth holds
fourth : (a b c d : Bool) (bs : List Bool) → eqb (first_failing 1 (a ∷ b ∷ c ∷ d ∷ bs)) 0 ≡ true → d ≡ true
unfolding first_failing
fourth true true true true bs h = refl
fourth true true true false bs h = true_not h
fourth true true false d bs h = true_not h
fourth true false c d bs h = true_not h
fourth false b c d bs h = true_not h

type_span : (b : ℕ) → (8 ≤ type_of b) × (type_of b ≤ 10)
unfolding type_of
type_span b =
    elim (see (eqb b 115)) [
      | is_true h ↦ rw h (omega arith, omega arith)
      | is_false h ↦ elim (see (eqb b 116)) [ is_true k ↦ rw (h, k) (omega arith, omega arith) | is_false k ↦ rw (h, k) (omega arith, omega arith) ]
    ]

-- a variable that is put has one of sixteen numbers
low_number : (b n : ℕ) (s : Stage) → eqb (fault s (element (type_of b) n)) 0 ≡ true → n < 256 → n ≤ 15
unfolding fault tests element
low_number b n (at p os c vs) h l =
    let (lo, hi) = type_span b in
    let e : implies (is_variable (type_of b ∷ digits (body (type_of b)) n)) (leb (get_or (type_of b ∷ digits (body (type_of b)) n) 1 0) 15) ≡ true = fourth _ _ _ _ _ h in
    let v : is_variable (type_of b ∷ digits (body (type_of b)) n) ≡ true = (unfold is_variable in rw (le-leb 8 (type_of b) lo, le-leb (type_of b) 10 hi)) in
    let d : digits (body (type_of b)) n ≡ n % 256 ∷ [] = rw (body_type b) (unfold digits in refl) in
    let f : leb (n % 256) 15 ≡ true = rw (v, d) at e in
    omega (arith, leb-true (n % 256) 15 f)

none_some : {r : Told} → none ≡ some r → ⊥
none_some h = absurd (let z : ◌≡◌ {A = ℕ} 0 1 = ap (λ (o : Option Told). elim o [ none ↦ 0 | some c ↦ 1 ]) h in omega arith)

enter_variable : (b n : ℕ) (x : List ℕ) (r next : Told) → entering (variable b x) n r ≡ some next → n < 256 → n ≤ 15
unfolding entering heading within put_some
enter_variable b n x (reader free ns vs s out) next h l = absurd (none_some h)
enter_variable b n x (reader between ns vs s out) next h l = absurd (none_some h)
enter_variable b n x (reader owed ns vs s out) next h l = absurd (none_some h)
enter_variable b n x (reader is_named ns vs s out) next h l = absurd (none_some h)
enter_variable b n x (reader inside ns vs s out) next h l =
    elim (see (eqb (fault s (element (type_of b) n)) 0)) [
      | is_true g ↦ low_number b n s g l
      | is_false g ↦ absurd (none_some (sym (put_no (element (type_of b) n) [] inside ns vs s out g) ∙ h))
    ]

enter_malformed : (n : ℕ) (r : Told) → entering malformed n r ≡ none
unfolding entering heading within put_some
enter_malformed n (reader free ns vs s out) = refl
enter_malformed n (reader between ns vs s out) = refl
enter_malformed n (reader owed ns vs s out) = refl
enter_malformed n (reader is_named ns vs s out) = refl
enter_malformed n (reader inside ns vs s out) = refl

-- the variables stay few
few_with : (t : Meaning) (ns vs : List Key) (r next : Told) → entering t (number_in t ns vs) r ≡ some next → Few vs → Few (variables_with t vs)
unfolding variables_with number_in
few_with malformed ns vs r next h f = f
few_with (Tok.name x) ns vs r next h f = f
few_with (Tok.call x) ns vs r next h f = f
few_with (Tok.macrodigit v) ns vs r next h f = f
few_with (Tok.string x) ns vs r next h f = f
few_with (variable b x) ns vs r next h f =
    let (lo, hi) = type_span b in
    let small : number_of (type_of b ∷ x) vs < 256 = omega (arith, number_most (type_of b ∷ x) vs, few_length f) in
    few_more (type_of b) x f lo hi (enter_variable b (number_of (type_of b ∷ x) vs) x r next h small)
few_with (Tok.sign c) ns vs r next h f = f

module _ {s firsts kinds starts sizes st buf : List ℕ} {q : Reader} {i : ℕ} (R : Reads s firsts kinds starts sizes st buf q i)
    {firsts' kinds' starts' sizes' : List ℕ} {n m r : ℕ} (x : Lexeme) (t : Tells s i x (lex_at s i)) (l : i < length s) (g : gaps x.token ≡ false)
    (mt : Meeting s i x.token firsts kinds starts sizes q.names q.variables firsts' kinds' starts' sizes' n m r) where
  abbrev tok : Meaning
  tok = token_of s i x.token

  -- the reader that has met the token
  abbrev met : Told
  met = reader (phase_of q.phase) (named s firsts' n) (keys_of s kinds' starts' sizes' m) R.stands.stage R.stands.out

  known : Stands (named s firsts') (keys_of s kinds' starts' sizes') (with_counts q n m) st buf met
  known =
      record {
        stage = R.stands.stage;
        out = R.stands.out;
        is = refl;
        means = R.stands.means;
        program = R.stands.program;
        room = R.stands.room;
        short = R.stands.short;
        filled = R.stands.filled;
      }

  pub known_able : Able (with_counts q n m) st buf
  known_able = record { Ns = named s firsts'; Vs = keys_of s kinds' starts' sizes'; none = no_variables s kinds' starts' sizes'; told = met; stands = known }

  pub known_entered : Entered s i x.token x.end r
  known_entered = record { ahead = t.ahead; proper = t.proper; fits = mt.fits }

  enter_is : enter tok R.told ≡ entering tok r met
  unfolding enter
  enter_is = rw (R.stands.is, ← mt.number, ← mt.names, ← mt.variables)

  -- a token that stops the reader
  pub turn_bad : Barred (entering tok r) (with_counts q n m) st buf → said s ≡ amiss i
  turn_bad b =
      let e : enter tok R.told ≡ none = enter_is ∙ b (named s firsts') (keys_of s kinds' starts' sizes') (no_variables s kinds' starts' sizes') met known in
      elim (is_token s i x.token (x.end - (i + 1)) g) [
        | inl h ↦ R.same ∙ reads_stop s (length s) i (x.end - (i + 1)) tok R.told l (sym t.is ∙ h) e
        | inr (h, f) ↦ R.same ∙ reads_stop s (length s) i 0 malformed R.told l (sym t.is ∙ h) (rw f at e)
      ]

  module _ {q'' : Reader} {st'' buf'' : List ℕ} (d : Led (entering tok r) (with_counts q n m) st buf q'' st'' buf'') where
    after : After (entering tok r) (named s firsts') (keys_of s kinds' starts' sizes') met q'' st'' buf''
    after = d.after (named s firsts') (keys_of s kinds' starts' sizes') (no_variables s kinds' starts' sizes') met known

    reads_next : said s ≡ reads (length s) (from s x.end) after.next
    reads_next =
        let e : enter tok R.told ≡ some after.next = enter_is ∙ after.is in
        elim (is_token s i x.token (x.end - (i + 1)) g) [
          | inl h ↦
              R.same ∙ reads_on s (length s) i (x.end - (i + 1)) tok R.told after.next l (sym t.is ∙ h) e
              ∙ ap (λ (j : ℕ). reads (length s) (from s j) after.next) (end_is i x.end t.ahead)
          | inr (h, f) ↦ absurd (none_some (sym (enter_malformed r met) ∙ (rw f at after.is)))
        ]

    few_next : Few (keys_of s kinds' starts' sizes' q''.variables)
    few_next =
        elim d.variables [
          | inl e ↦ rw (e, mt.variables) (few_with tok (named s firsts q.names) (keys_of s kinds starts sizes q.variables) met after.next (rw (← mt.number) after.is) R.few)
          | inr e ↦ rw (e, no_variables s kinds' starts' sizes') few_none
        ]

    pub kept_most : q''.variables ≤ m
    kept_most = elim d.variables [ inl e ↦ omega arith | inr e ↦ omega arith ]

    pub turn : Reads s firsts' kinds' starts' sizes' st'' buf'' q'' x.end
    turn =
        record {
          told = after.next;
          stands = after.stands;
          few = few_next;
          spaced = spaced_on x.token l t.ahead t.proper R.spaced (omega (arith, d.names, mt.most));
          same = reads_next;
        }

-- THE END

finish-put : (n : ℕ) (p : Phase) (ns vs : List Key) (st : Stage) (out : List Element) → (p ≡ P.Owed → ⊥) → finish n (reader (phase_of p) ns vs st out) ≡ saying n (put_all (element 15 0 ∷ []) (reader (phase_of p) ns vs st out))
unfolding finish
finish-put n P.Free ns vs st out h = refl
finish-put n P.Between ns vs st out h = refl
finish-put n P.Owed ns vs st out h = absurd (h refl)
finish-put n P.Named ns vs st out h = refl
finish-put n P.Inside ns vs st out h = refl

module _ (m : ℕ) {q : Reader} {st buf : List ℕ} where
  pub finish_owed : q.phase ≡ P.Owed → Finishing m q st buf buf (Err m)
  unfolding finish
  finish_owed e = early (λ Ns Vs z r s. rw (s.is, e))

  module _ (n : q.phase ≡ P.Owed → ⊥) where
    -- the end makes 0F
    at_end : {Ns Vs : ℕ → List Key} {r : Told} → Stands Ns Vs q st buf r → finish m r ≡ saying m (put_all (element 15 0 ∷ []) r)
    at_end s = rw s.is (finish-put m q.phase _ _ s.stage s.out n)

    pub finish_early : {buf' : List ℕ} → Barred (put_all (element 15 0 ∷ [])) q st buf → Finishing m q st buf buf' (Err m)
    finish_early b = early (λ Ns Vs z r s. at_end s ∙ ap (saying m) (b Ns Vs z r s))

    pub finish_good : {q' : Reader} {st' buf' : List ℕ} → Led (put_all (element 15 0 ∷ [])) q st buf q' st' buf' → Finishing m q st buf buf' (Ok q'.len)
    finish_good {q'} d =
        ends (λ Ns Vs z r s.
        let a = d.after Ns Vs z r s in
        (a.stands.out, at_end s ∙ ap (saying m) (a.is ∙ ap some a.stands.is) ∙ ap (λ (k : ℕ). says a.stands.out (Ns k)) d.names, a.stands.filled))

pub saying_end : {s firsts kinds starts sizes st buf buf' : List ℕ} {q : Reader} {i : ℕ} {o : Result ℕ ℕ} → Reads s firsts kinds starts sizes st buf q i → length s ≤ i
    → Finishing (length s) q st buf buf' o → Saying s firsts q.names buf' o
saying_end {s} {firsts} {kinds = kinds} {starts = starts} {sizes = sizes} {i = i} R l (ends {len} f) =
    let (es, h, w) = f (named s firsts) (keys_of s kinds starts sizes) (no_variables s kinds starts sizes) R.told R.stands in
    good {len = len} es (R.same ∙ reads_end s (length s) i R.told l ∙ h) w
saying_end {s} {firsts} {kinds = kinds} {starts = starts} {sizes = sizes} {i = i} R l (early f) =
    bad (R.same ∙ reads_end s (length s) i R.told l ∙ f (named s firsts) (keys_of s kinds starts sizes) (no_variables s kinds starts sizes) R.told R.stands)

-- a token met, among what was read
pub meeting_of : {at r : ℕ} {t : Token} {ns ns' : Names} {vs vs' : Variables} → Met at t ns vs ns' vs' r → (q : Reader) (b : Bor (List ℕ)) → ns.text ≡ b
    → q.names ≡ ns.count → q.variables ≡ vs.count
    → Meeting b.now at t (firsts ns.entries) (kinds vs.entries) (starts vs.entries) (sizes vs.entries) q.names q.variables
    (firsts ns'.entries) (kinds vs'.entries) (starts vs'.entries) (sizes vs'.entries) ns'.count vs'.count r
meeting_of m q b e n v = rw (← e, n, v) m.meeting
