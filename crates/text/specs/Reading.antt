-- Tokens turned into the elements of a program and a list of names.
use Rattle.std.specs.Prelude.{Bool, true, false, ◌||◌, cond, List, [], ◌∷◌, ◌++◌, map, ℕ, zero, suc, ◌/◌, ◌%◌, length, eqb}
use Rattle.std.proofs.Math.Option.{Option, none, some}
use Rattle.meaning.specs.Elements.{Element, body, is_kind}
use Rattle.meaning.specs.Goodness.{Part, field, outside, start, left, right, after, ended, State, at, fault, state_after}
use Rattle.text.specs.Tokens.{Token, malformed, name, call, macrodigit, string, variable, sign, Placed, placed, tokens}
use Rattle.text.specs.Numbering.{Key, name_key, number_of, adding}

-- "Numbers of several bytes have the low byte first": n in w bytes
unfoldable pub digits : ℕ → ℕ → List ℕ
digits zero n = []
digits (suc w) n = n % 256 ∷ digits w (n / 256)

-- the element of kind k with the number n in its body
unfoldable pub element : ℕ → ℕ → Element
element k n = k ∷ digits (body k) n

-- where reading stands: a function may begin or the text end; so, or a ; may stand (behind a function); a function must begin (behind that ;);
-- { must follow (behind a function's name); inside a function's braces
pub data Phase : Type 0 where
  free between owed named inside : Phase

-- the phase, the names so far, the variables of this sentence, where the program's check stands, the elements so far
pub data Reader : Type 0 where
  reader : Phase → List Key → List Key → State → List Element → Reader

-- variables are numbered in "their sentence": anew behind a header and behind each sentence
unfoldable pub kept : Element → List Key → List Key
kept e vs = cond (is_kind 13 e || is_kind 12 e) [] vs

-- { must follow a header, a function is over behind 0E
unfoldable pub phase_after : Element → Phase → Phase
phase_after e p = cond (is_kind 13 e) named (cond (is_kind 14 e) between p)

-- elements more; none if one "would make a bad element"
unfoldable pub put_all : List Element → Reader → Option Reader
put_all [] r = some r
put_all (e ∷ es) (reader p ns vs s out) = elim (eqb (fault s e) 0) [ true ↦ put_all es (reader (phase_after e p) ns (kept e vs) (state_after s e) (out ++ (e ∷ []))) | false ↦ none ]

-- } ends a sentence whose ; was left out, and the function
unfoldable pub closing : Part → List Element
closing field = element 14 0 ∷ []
closing outside = element 14 0 ∷ []
closing start = element 14 0 ∷ []
closing left = element 14 0 ∷ []
closing right = element 12 0 ∷ element 14 0 ∷ []
closing after = element 14 0 ∷ []
closing ended = element 14 0 ∷ []

abbrev pub part_of : State → Part
part_of (at p opens n vs) = p

-- the kind of a variable by its letter
unfoldable pub type_of : ℕ → ℕ
type_of letter = cond (eqb letter 115) 8 (cond (eqb letter 116) 9 10)

-- what the signs make inside a function: ( ) > = ; } by their bytes; { cannot stand there
unfoldable pub signed : Part → ℕ → Option (List Element)
signed p c =
    cond (eqb c 40) (some (element 4 0 ∷ []))
    (cond (eqb c 41) (some (element 5 0 ∷ []))
    (cond (eqb c 62) (some (element 7 0 ∷ []))
    (cond (eqb c 61) (some (element 11 0 ∷ []))
    (cond (eqb c 59) (some (element 12 0 ∷ []))
    (cond (eqb c 125) (some (closing p)) none)))))

unfoldable pub put_some : Option (List Element) → Reader → Option Reader
put_some none r = none
put_some (some es) r = put_all es r

-- the number of a token's name or variable, among those before it
unfoldable pub number_in : Token → List Key → List Key → ℕ
number_in malformed ns vs = 0
number_in (name x) ns vs = number_of (name_key x) ns
number_in (call x) ns vs = number_of (name_key x) ns
number_in (macrodigit n) ns vs = 0
number_in (string x) ns vs = 0
number_in (variable b x) ns vs = number_of (type_of b ∷ x) vs
number_in (sign c) ns vs = 0

-- the names, and the variables of this sentence, with the token's own
unfoldable pub names_with : Token → List Key → List Key
names_with malformed ns = ns
names_with (name x) ns = adding (name_key x) ns
names_with (call x) ns = adding (name_key x) ns
names_with (macrodigit n) ns = ns
names_with (string x) ns = ns
names_with (variable b x) ns = ns
names_with (sign c) ns = ns

unfoldable pub variables_with : Token → List Key → List Key
variables_with malformed vs = vs
variables_with (name x) vs = vs
variables_with (call x) vs = vs
variables_with (macrodigit n) vs = vs
variables_with (string x) vs = vs
variables_with (variable b x) vs = adding (type_of b ∷ x) vs
variables_with (sign c) vs = vs

-- what a token makes inside a function's braces; its name or variable has the number n
unfoldable pub within : Part → Token → ℕ → Option (List Element)
within p malformed n = none
within p (name x) n = some (element 2 n ∷ [])
within p (call x) n = some (element 6 n ∷ [])
within p (macrodigit v) n = some (element 3 v ∷ [])
within p (string x) n = some (map (element 1) x)
within p (variable b x) n = some (element (type_of b) n ∷ [])
within p (sign c) n = signed p c

-- a function's name makes its header
unfoldable pub heading : Token → ℕ → Option (List Element)
heading malformed n = none
heading (name x) n = some (element 13 n ∷ [])
heading (call x) n = none
heading (macrodigit v) n = none
heading (string x) n = none
heading (variable b x) n = none
heading (sign c) n = none

-- the token is the sign c
abbrev pub is_sign : ℕ → Token → Bool
is_sign c malformed = false
is_sign c (name x) = false
is_sign c (call x) = false
is_sign c (macrodigit n) = false
is_sign c (string x) = false
is_sign c (variable b x) = false
is_sign c (sign d) = eqb c d

-- a token with the number n, among the names and variables; none: it is malformed, cannot stand here, or would make a bad element
unfoldable pub entering : Token → ℕ → Reader → Option Reader
entering t n (reader free ns vs s out) = put_some (heading t n) (reader free ns vs s out)
entering t n (reader between ns vs s out) = cond (is_sign 59 t) (some (reader owed ns vs s out)) (put_some (heading t n) (reader between ns vs s out))
entering t n (reader owed ns vs s out) = put_some (heading t n) (reader owed ns vs s out)
entering t n (reader named ns vs s out) = cond (is_sign 123 t) (some (reader inside ns vs s out)) none
entering t n (reader inside ns vs s out) = put_some (within (part_of s) t n) (reader inside ns vs s out)

-- one token more
unfoldable pub enter : Token → Reader → Option Reader
enter t (reader p ns vs s out) = entering t (number_in t ns vs) (reader p (names_with t ns) (variables_with t vs) s out)

-- what a text says: elements and names; or that it is bad, and where
pub data Said : Type 0 where
  says : List Element → List Key → Said
  amiss : ℕ → Said

abbrev pub saying : ℕ → Option Reader → Said
saying n none = amiss n
saying n (some (reader p ns vs s out)) = says out ns

-- the end of a text of n bytes makes 0F, but not behind a ; that parts functions; "the text's length if it ends early"
unfoldable pub finish : ℕ → Reader → Said
finish n (reader free ns vs s out) = saying n (put_all (element 15 0 ∷ []) (reader free ns vs s out))
finish n (reader between ns vs s out) = saying n (put_all (element 15 0 ∷ []) (reader between ns vs s out))
finish n (reader owed ns vs s out) = amiss n
finish n (reader named ns vs s out) = saying n (put_all (element 15 0 ∷ []) (reader named ns vs s out))
finish n (reader inside ns vs s out) = saying n (put_all (element 15 0 ∷ []) (reader inside ns vs s out))

-- "the offset of the first token that is malformed or would make a bad element"
unfoldable pub reads : ℕ → List Placed → Reader → Said
reads n [] r = finish n r
reads n (placed i t ∷ ts) r = elim (enter t r) [ none ↦ amiss i | some r' ↦ reads n ts r' ]

-- before the first token
abbrev pub begin : Reader
begin = reader free [] [] (at outside [] 0 []) []

unfoldable pub said : List ℕ → Said
said text = reads (length text) (tokens 0 true 0 text) begin
