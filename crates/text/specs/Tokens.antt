-- A text as tokens (document 01, 'Rules as text'; document 003, syntax reference).
use Rattle.std.specs.Prelude.{Bool, true, false, ◌&&◌, ◌||◌, not, cond, List, [], ◌∷◌, map, ℕ, zero, suc, ◌+◌, ◌-◌, ◌*◌, length, drop, eqb, leb, ltb}
use Rattle.std.proofs.Math.Option.{Option, none, some}
use Rattle.text.specs.Classes.{class_of, is_capital, is_letter, is_type, is_digit, in_name, ends_line, in_line, front, spell}

pub data Token : Type 0 where
  malformed : Token
  -- an identifier, in its one spelling
  name : List ℕ → Token
  -- < with its identifier
  call : List ℕ → Token
  macrodigit : ℕ → Token
  -- the characters of a string
  string : List ℕ → Token
  -- a variable's letter, and its index in one spelling
  variable : ℕ → List ℕ → Token
  -- ( ) > { } = ; by their byte
  sign : ℕ → Token

-- what begins at a byte, and how many bytes it has behind that one: a token, or a gap (a blank, a comment)
pub data Lexeme : Type 0 where
  token : Token → ℕ → Lexeme
  gap : ℕ → Lexeme

abbrev pub wrong : Lexeme
wrong = token malformed 0

-- the bytes of a name behind its first: "later letters small, dashes"
unfoldable pub tail_of : List ℕ → List ℕ
tail_of bs = map spell (front in_name bs)

-- a name at the front, in its one spelling
unfoldable pub spelled : List ℕ → List ℕ
spelled [] = []
spelled (b ∷ bs) = b ∷ tail_of bs

-- "An identifier ... has a capital first and at most 15 characters"
unfoldable pub identifier : List ℕ → Option (List ℕ)
identifier [] = none
identifier (b ∷ bs) = cond (is_capital b && leb (length (front in_name bs)) 14) (some (spelled (b ∷ bs))) none

abbrev pub as_name : Option (List ℕ) → Lexeme
as_name none = wrong
as_name (some x) = token (name x) (length x - 1)

-- malformed is "a < with no identifier next"
abbrev pub as_call : Option (List ℕ) → Lexeme
as_call none = wrong
as_call (some x) = token (call x) (length x)

-- what follows digits makes a real number of them, which is malformed: a dot or E, and a digit
unfoldable pub real : List ℕ → Bool
real [] = false
real (a ∷ []) = false
real (a ∷ b ∷ bs) = (eqb a 46 || eqb a 69) && is_digit b

-- the value of decimal digits, v standing before them
unfoldable pub value : ℕ → List ℕ → ℕ
value v [] = v
value v (d ∷ ds) = value (v * 10 + (d - 48)) ds

-- malformed are "macrodigits over 2^32 - 1"
unfoldable pub number : List ℕ → List ℕ → Lexeme
number digits rest = cond (real rest || ltb 4294967295 (value 0 digits)) wrong (token (macrodigit (value 0 digits)) (length digits - 1))

-- digits without leading zeros: an index that is a number
unfoldable pub trim : List ℕ → List ℕ
trim [] = []
trim (d ∷ []) = d ∷ []
trim (d ∷ x ∷ ds) = elim (eqb d 48) [ true ↦ trim (x ∷ ds) | false ↦ d ∷ x ∷ ds ]

-- an index behind a dot, from its longest runs of digits and of bytes of a name: a number, or an identifier whose first letter is in either case
unfoldable pub dotted : ℕ → List ℕ → List ℕ → Lexeme
dotted letter digits [] = wrong
dotted letter digits (b ∷ x) =
    cond (eqb (length digits) (suc (length x))) (token (variable letter (trim digits)) (2 + length x))
    (cond (is_letter b && leb (length x) 14) (token (variable letter (map spell (b ∷ x))) (2 + length x)) wrong)

-- after a variable without a dot nothing of an identifier follows at once, but another variable may
unfoldable pub apart : List ℕ → Bool
apart [] = true
apart (b ∷ bs) = not (in_name b) || is_type b

-- the index of a variable: behind a dot, or one capital or digit
unfoldable pub indexed : ℕ → List ℕ → Lexeme
indexed letter [] = wrong
indexed letter (b ∷ bs) =
    cond (eqb b 46) (dotted letter (front is_digit bs) (front in_name bs))
    (cond ((is_capital b || is_digit b) && apart bs) (token (variable letter (spell b ∷ [])) 1) wrong)

-- a string's characters, and how many bytes it has behind its opening quote
pub data Quoted : Type 0 where
  unclosed : Quoted
  closed : List ℕ → ℕ → Quoted

unfoldable pub longer : Quoted → Quoted
longer unclosed = unclosed
longer (closed x n) = closed x (suc n)

unfoldable pub before : ℕ → Quoted → Quoted
before b unclosed = unclosed
before b (closed x n) = closed (b ∷ x) (suc n)

-- "strings in either quote, doubled quotes inside"; held: the byte before was the quote q, the first of two or the last
unfoldable pub quoted : ℕ → Bool → List ℕ → Quoted
quoted q false [] = unclosed
quoted q true [] = closed [] 0
quoted q false (b ∷ bs) =
    elim (eqb b q) [ true ↦ longer (quoted q true bs) | false ↦ elim (ends_line b) [ true ↦ unclosed | false ↦ before b (quoted q false bs) ] ]
quoted q true (b ∷ bs) = elim (eqb b q) [ true ↦ before b (quoted q false bs) | false ↦ closed [] 0 ]

-- malformed is "a string not closed on its line"; document 003: a chain has at most 255 characters
abbrev pub as_string : Quoted → Lexeme
as_string unclosed = wrong
as_string (closed x n) = cond (leb (length x) 255) (token (string x) n) wrong

unfoldable pub further : Option ℕ → Option ℕ
further none = none
further (some n) = some (suc n)

-- the bytes of a comment up to its star and slash; held: the byte before was a star inside
unfoldable pub commented : Bool → List ℕ → Option ℕ
commented held [] = none
commented held (b ∷ bs) = elim (held && eqb b 47) [ true ↦ some 1 | false ↦ further (commented (eqb b 42) bs) ]

-- malformed is "a comment never closed"
abbrev pub as_gap : Option ℕ → Lexeme
as_gap none = wrong
as_gap (some n) = gap (suc n)

-- a slash begins a comment with a star next
unfoldable pub slashed : List ℕ → Lexeme
slashed [] = wrong
slashed (b ∷ bs) = cond (eqb b 42) (as_gap (commented false bs)) wrong

-- what begins with the byte b of class k, bs behind it; column: b stands in the first column
unfoldable pub lex_of : ℕ → Bool → ℕ → List ℕ → Lexeme
lex_of k column b bs =
    cond (eqb k 1 || eqb k 12) (gap 0)
    (cond (eqb k 2) (slashed bs)
    (cond (eqb k 3) (as_name (identifier (b ∷ bs)))
    (cond (eqb k 5) (indexed b bs)
    (cond (eqb k 6) (number (b ∷ front is_digit bs) (drop (length (front is_digit bs)) bs))
    (cond (eqb k 8) (as_string (quoted b false bs))
    (cond (eqb k 9) (token (sign b) 0)
    (cond (eqb k 10) (as_call (identifier bs))
    -- "a star in the first column"
    (cond (eqb k 11 && column) (gap (length (front in_line bs))) wrong))))))))

unfoldable pub lex : Bool → ℕ → List ℕ → Lexeme
lex column b bs = lex_of (class_of b) column b bs

-- a token and its offset
pub data Placed : Type 0 where
  placed : ℕ → Token → Placed

unfoldable pub follow : ℕ → Lexeme → (ℕ → List Placed) → List Placed
follow i (token t n) rest = placed i t ∷ rest n
follow i (gap n) rest = rest n

-- the tokens of a text; n bytes are still to come of what began before, the next byte stands at i
unfoldable pub tokens : ℕ → Bool → ℕ → List ℕ → List Placed
tokens n column i [] = []
tokens zero column i (b ∷ bs) = follow i (lex column b bs) (λ n. tokens n (ends_line b) (suc i) bs)
tokens (suc n) column i (b ∷ bs) = tokens n (ends_line b) (suc i) bs
