-- What the code's lexemes stand for, and what its scanners hand back.
use Rattle.std.specs.Prelude.{◌≡◌, Bool, true, false, cond, List, [], ℕ, zero, suc, ◌+◌, ◌-◌, ◌≤◌, ◌<◌, length, get_or, take, drop, ltb, Option, Some, None}
use Rattle.std.proofs.Math.Option.{Option as Maybe, none, some}
use Rattle.text.specs.Classes.{is_capital, is_digit, in_name, ends_line, in_line, front}
use Rattle.text.specs.Tokens.{Token as Meaning, malformed, name, call, macrodigit, string, variable, sign, Lexeme as Meant, token, gap, wrong, spelled, value, number, trim, dotted, Quoted as Chars, unclosed, closed, quoted, lex}
use Rattle.classes.specs.Table.{part}
use Rattle.tokens.specs.declared.Token.{Token}
use Rattle.tokens.specs.declared.Token.TheVariants as T
use Rattle.tokens.specs.declared.Lexeme.{Lexeme}
use Rattle.tokens.specs.declared.Closed.{Closed}

-- an identifier's end, with i bytes before
abbrev pub past_name : ℕ → Maybe (List ℕ) → Option ℕ
past_name i none = None
past_name i (some x) = Some (i + length x)

-- a string's end and the number of its characters, with i bytes and n characters before
abbrev pub closed_at : ℕ → ℕ → Chars → Option Closed
closed_at i n unclosed = None
closed_at i n (closed x m) = Some (record { end = i + m; characters = n + length x })

-- a comment's end, with i bytes before
abbrev pub past_at : ℕ → Maybe ℕ → Option ℕ
past_at i none = None
past_at i (some n) = Some (i + n)

-- a token that ends there, or a malformed one
abbrev pub ended : ℕ → Token → Option ℕ → Lexeme
ended at t None = record { token = T.Malformed; end = at + 1 }
ended at t (Some e) = record { token = t; end = e }

-- 2^32 for every number that is no macrodigit
unfoldable pub capped : ℕ → ℕ
capped v = cond (ltb 4294967295 v) 4294967296 v

-- where the digits from `at` on end, and their value
pub record Sums (s : List ℕ) (at end v : ℕ) : Type 0 where
  pub ends : end ≡ at + length (front is_digit (drop at s))
  pub sums : v ≡ capped (value 0 (front is_digit (drop at s)))

-- the byte at i stands in the first column
unfoldable pub column_at : List ℕ → ℕ → Bool
column_at s zero = true
column_at s (suc i) = ends_line (get_or s i 0)

-- the definitions' lexemes, at places of a text
abbrev pub number_at : List ℕ → ℕ → Meant
number_at s at = number (front is_digit (drop at s)) (drop (at + length (front is_digit (drop at s))) s)

abbrev pub starred_at : List ℕ → ℕ → Meant
starred_at s at = cond (column_at s at) (gap (length (front in_line (drop (at + 1) s)))) wrong

abbrev pub dotted_at : List ℕ → ℕ → Meant
dotted_at s at = dotted (get_or s at 0) (front is_digit (drop (at + 2) s)) (front in_name (drop (at + 2) s))

abbrev pub lex_at : List ℕ → ℕ → Meant
lex_at s at = lex (column_at s at) (get_or s at 0) (drop (at + 1) s)

-- from r on the bytes up to `end` are those from `start` on without leading zeros
pub record Trimmed (s : List ℕ) (start end r : ℕ) : Type 0 where
  pub least : start ≤ r
  pub most : r < end
  pub same : take (end - r) (drop r s) ≡ trim (take (end - start) (drop start s))

-- a string's characters
abbrev pub characters_of : Chars → List ℕ
characters_of unclosed = []
characters_of (closed x n) = x

-- the definition's token that a token of the code at `at` stands for
unfoldable pub token_of : List ℕ → ℕ → Token → Meaning
token_of s at T.Gap = malformed
token_of s at T.Malformed = malformed
token_of s at T.Name = name (spelled (drop at s))
token_of s at T.Call = call (spelled (drop (at + 1) s))
token_of s at (T.Macrodigit v) = macrodigit v
token_of s at T.String = string (characters_of (quoted (get_or s at 0) false (drop (at + 1) s)))
token_of s at (T.Variable start size) = variable (get_or s at 0) (part s start size)
token_of s at T.Sign = sign (get_or s at 0)

-- the definition's lexeme, with n bytes behind its first
unfoldable pub lexeme_of : List ℕ → ℕ → Token → ℕ → Meant
lexeme_of s at T.Gap n = gap n
lexeme_of s at T.Malformed n = wrong
lexeme_of s at T.Name n = token (token_of s at T.Name) n
lexeme_of s at T.Call n = token (token_of s at T.Call) n
lexeme_of s at (T.Macrodigit v) n = token (token_of s at (T.Macrodigit v)) n
lexeme_of s at T.String n = token (token_of s at T.String) n
lexeme_of s at (T.Variable start size) n = token (token_of s at (T.Variable start size)) n
lexeme_of s at T.Sign n = token (token_of s at T.Sign) n

-- what is known of a token's bytes: an identifier has a capital, is short and ends with the token, a string is closed, an index lies inside
abbrev pub Proper : List ℕ → ℕ → Token → ℕ → Type 0
Proper s at T.Gap end = Unit {0}
Proper s at T.Malformed end = Unit {0}
Proper s at T.Name end = (is_capital (get_or s at 0) ≡ true) × (length (spelled (drop at s)) ≤ 15) × (end ≡ at + length (spelled (drop at s)))
Proper s at T.Call end = (at + 1 < length s) × (length (spelled (drop (at + 1) s)) ≤ 15) × (end ≡ at + 1 + length (spelled (drop (at + 1) s)))
Proper s at (T.Macrodigit v) end = Unit {0}
Proper s at T.String end = quoted (get_or s at 0) false (drop (at + 1) s) ≡ closed (characters_of (quoted (get_or s at 0) false (drop (at + 1) s))) (end - (at + 1))
Proper s at (T.Variable start size) end = (at < start) × (0 < size) × (start + size ≤ length s)
Proper s at T.Sign end = Unit {0}

-- a lexeme of the code stands for x
pub record Tells (s : List ℕ) (at : ℕ) (r : Lexeme) (x : Meant) : Type 0 where
  pub is : lexeme_of s at r.token (r.end - (at + 1)) ≡ x
  pub ahead : at < r.end
  pub proper : Proper s at r.token r.end
