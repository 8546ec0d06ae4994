-- What request One promises of a text that is read, each as a theorem.
use mathlib.Core.Path.{◌≡◌, refl, sym, ◌∙◌, ap}
use mathlib.Core.Bool.{Bool, true, false, ◌&&◌, cond}
use mathlib.Core.Option.{Option, none, some}
use mathlib.Core.List.{List, [], ◌∷◌, map}
use Prim.Native.Nat.{ℕ, zero, suc, ◌+◌, ◌≤◌}
use native.Mathlib.Omega.{arith}
use lib.ListN.{length}
use lib.Dec.{leb}
use Rattle.meaning.specs.Elements.{Element, join}
use Rattle.meaning.specs.Goodness.{bad_program}
use Rattle.text.specs.Classes.{ends_line}
use Rattle.text.specs.Tokens.{Token, Lexeme, token, gap, lex, Placed, placed, follow, tokens}
use Rattle.text.specs.Numbering.{Key}
use Rattle.text.specs.Reading.{Reader, reader, free, between, owed, named, inside, enter, put_all, element, Said, says, amiss, saying, finish, reads, begin, said}
use Rattle.text.specs.Agreeing.{Counted, Distinct}
use Rattle.text.specs.Answers.{record_of, list_of, reply, Outcome, outcome, fitted, read_text}
use Rattle.text.proofs.Names.{distinct_records}
use Rattle.text.proofs.Kept.{agreed}

module _ (text : List ℕ) (es : List Element) (ns : List Key) (h : said text ≡ says es ns) where
  -- "The result is always a good program"
  pub always_good : bad_program (join es) ≡ none
  always_good = (agreed text es ns h).good

  -- "Names are numbered from 0 by first appearance in the text": each is below the list's count, and the list holds no others
  pub names_agree : Counted 0 es (length ns)
  names_agree = (agreed text es ns h).counted

  -- "A name list holds one spelling": no two records alike
  pub records_differ : Distinct (map record_of ns)
  records_differ = distinct_records (agreed text es ns h).named (agreed text es ns h).distinct

-- no second answer
pub one_answer : (text program list : List ℕ) (a b : Outcome) → a ≡ read_text text program list → b ≡ read_text text program list → a ≡ b
one_answer text program list a b h k = h ∙ sym k

-- WHATEVER STANDS BETWEEN TOKENS

-- the tokens, wherever they stand
abbrev pub spoken : List Placed → List Token
spoken [] = []
spoken (placed i t ∷ ts) = t ∷ spoken ts

-- what is said, wherever a bad text is bad
pub data Meant : Type 0 where
  meaning : List Element → List Key → Meant
  nothing : Meant

abbrev pub meant : Said → Meant
meant (says es ns) = meaning es ns
meant (amiss i) = nothing

told : List Token → Reader → Meant
told [] r = meant (finish 0 r)
told (t ∷ ts) r = elim (enter t r) [ none ↦ nothing | some r' ↦ told ts r' ]

saying_meant : (n : ℕ) (o : Option Reader) → meant (saying n o) ≡ meant (saying 0 o)
saying_meant n none = refl
saying_meant n (some (reader p ns vs s out)) = refl

finish_meant : (n : ℕ) (r : Reader) → meant (finish n r) ≡ meant (finish 0 r)
unfolding finish
finish_meant n (reader free ns vs s out) = saying_meant n (put_all (element 15 0 ∷ []) (reader free ns vs s out))
finish_meant n (reader between ns vs s out) = saying_meant n (put_all (element 15 0 ∷ []) (reader between ns vs s out))
finish_meant n (reader owed ns vs s out) = refl
finish_meant n (reader named ns vs s out) = saying_meant n (put_all (element 15 0 ∷ []) (reader named ns vs s out))
finish_meant n (reader inside ns vs s out) = saying_meant n (put_all (element 15 0 ∷ []) (reader inside ns vs s out))

reads-told : (n : ℕ) (ts : List Placed) (r : Reader) → meant (reads n ts r) ≡ told (spoken ts) r
unfolding reads told
reads-told n [] r = finish_meant n r
reads-told n (placed i t ∷ ts) r = go (λ r'. reads-told n ts r') (enter t r)
  where
    go : ((r' : Reader) → meant (reads n ts r') ≡ told (spoken ts) r') → (o : Option Reader)
        → meant (elim o [ none ↦ amiss i | some r' ↦ reads n ts r' ]) ≡ (elim o [ none ↦ nothing | some r' ↦ told (spoken ts) r' ])
    go ih none = refl
    go ih (some r') = ih r'

-- two texts with the same tokens say the same, whatever blanks and comments stand between them
pub gaps_say_nothing : (a b : List ℕ) → spoken (tokens 0 true 0 a) ≡ spoken (tokens 0 true 0 b) → meant (said a) ≡ meant (said b)
unfolding said
gaps_say_nothing a b h =
    reads-told (length a) (tokens 0 true 0 a) begin ∙ ap (λ (ts : List Token). told ts begin) h ∙ sym (reads-told (length b) (tokens 0 true 0 b) begin)

-- WHERE A BAD TEXT IS BAD

place_of : Said → ℕ
place_of (says es ns) = 0
place_of (amiss i) = i

saying_place : (n : ℕ) (o : Option Reader) → place_of (saying n o) ≤ n
unfolding place_of
saying_place n none = omega arith
saying_place n (some (reader p ns vs s out)) = omega arith

finish_place : (n : ℕ) (r : Reader) → place_of (finish n r) ≤ n
unfolding finish place_of
finish_place n (reader free ns vs s out) = saying_place n (put_all (element 15 0 ∷ []) (reader free ns vs s out))
finish_place n (reader between ns vs s out) = saying_place n (put_all (element 15 0 ∷ []) (reader between ns vs s out))
finish_place n (reader owed ns vs s out) = omega arith
finish_place n (reader named ns vs s out) = saying_place n (put_all (element 15 0 ∷ []) (reader named ns vs s out))
finish_place n (reader inside ns vs s out) = saying_place n (put_all (element 15 0 ∷ []) (reader inside ns vs s out))

reads_place : (n m : ℕ) (c : Bool) (i : ℕ) (bs : List ℕ) (r : Reader) → i + length bs ≤ n → place_of (reads n (tokens m c i bs) r) ≤ n
unfolding reads tokens follow place_of
reads_place n m c i [] r h = finish_place n r
reads_place n zero c i (b ∷ bs) r h = go (lex c b bs) (λ m r'. reads_place n m (ends_line b) (suc i) bs r' (omega (arith, h)))
  where
    Bounded : (Reader → Said) → Type 0
    Bounded f = (r' : Reader) → place_of (f r') ≤ n

    entered : (o : Option Reader) (f : Reader → Said) → Bounded f → place_of (elim o [ none ↦ amiss i | some r' ↦ f r' ]) ≤ n
    entered none f k = omega (arith, h)
    entered (some r') f k = k r'

    go : (x : Lexeme) → ((m : ℕ) (r' : Reader) → place_of (reads n (tokens m (ends_line b) (suc i) bs) r') ≤ n)
        → place_of (reads n (follow i x (λ m. tokens m (ends_line b) (suc i) bs)) r) ≤ n
    go (token t m) k = entered (enter t r) (λ r'. reads n (tokens m (ends_line b) (suc i) bs) r') (k m)
    go (gap m) k = k m r
reads_place n (suc m) c i (b ∷ bs) r h = reads_place n m (ends_line b) (suc i) bs r (omega (arith, h))

abbrev pub place_in : Outcome → ℕ
place_in (outcome (reply c p l i) x y) = i

cond_place : (c : Bool) (x y : Outcome) (n : ℕ) → place_in x ≤ n → place_in y ≤ n → place_in (cond c x y) ≤ n
cond_place true x y n h k = h
cond_place false x y n h k = k

fitted_place : (s : Said) (program list : List ℕ) (n : ℕ) → place_of s ≤ n → place_in (fitted s program list) ≤ n
unfolding fitted place_of
fitted_place (amiss i) program list n h = h
fitted_place (says es ns) program list n h =
    cond_place (leb (length (join es)) (length program) && leb (length (list_of ns)) (length list)) _ _ n (omega arith) (omega arith)

-- "the offset of the first token that is malformed ...; the text's length if it ends early": no place is beyond the text
pub place_in_text : (text program list : List ℕ) → place_in (read_text text program list) ≤ length text
unfolding read_text said
place_in_text text program list =
    cond_place (leb (length text) 65536 && leb (length program) 65536 && leb (length list) 65536) _ _ (length text)
    (fitted_place (said text) program list (length text) (reads_place (length text) 0 true 0 text begin (omega arith)))
    (omega arith)
