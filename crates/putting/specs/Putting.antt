-- What the code's values stand for while a text is read, and how a step leads on.
use Rattle.std.specs.Prelude.{◌≡◌, false, cond, ◌⊎◌, List, [], map, ℕ, ◌+◌, ◌-◌, ◌*◌, ◌≤◌, ◌<◌, length, take, drop, eqb, Option as Maybe, Some, None}
use Rattle.std.proofs.Math.Option.{Option, none, some}
use Rattle.std.proofs.lemmas.List.Edits.{sets}
use Rattle.meaning.specs.Elements.{Element, join}
use Rattle.meaning.specs.Goodness.{State as Stage}
use Rattle.taking.specs.Standing.{Means}
use Rattle.text.specs.Numbering.{Key}
use Rattle.text.specs.Tokens.{Token as Meaning, closed, quoted}
use Rattle.text.specs.Reading.{Phase as Meant, free, between, owed, named, inside, Reader as Told, reader, element, put_all, closing, part_of, signed, put_some, within, heading}
use Rattle.tokens.specs.declared.Token.{Token}
use Rattle.tokens.specs.declared.Token.TheVariants as T
use Rattle.tokens.specs.Lexemes.{characters_of, Proper}
use Rattle.putting.specs.declared.Reader.{Reader}
use Rattle.putting.specs.declared.Phase.{Phase}
use Rattle.putting.specs.declared.Phase.TheVariants as P

-- the definition's phases
abbrev pub phase_of : Phase → Meant
phase_of P.Free = free
phase_of P.Between = between
phase_of P.Owed = owed
phase_of P.Named = named
phase_of P.Inside = inside

-- the definition's phases by their numbers
unfoldable pub phase_numbered : ℕ → Meant
phase_numbered n = cond (eqb n 1) between (cond (eqb n 2) owed (cond (eqb n 3) named (cond (eqb n 4) inside free)))

-- the phase, and the number of variables, behind an element of kind k
unfoldable pub phase_next : ℕ → Phase → Phase
phase_next k p = cond (eqb k 13) P.Named (cond (eqb k 14) P.Between p)

unfoldable pub kept_count : ℕ → ℕ → ℕ
kept_count k m = cond (eqb k 13) 0 (cond (eqb k 12) 0 m)

-- x stands behind the first len bytes; where it does not fit, the length is one more than the buffer has
pub record Written (buf : List ℕ) (len : ℕ) (x : List ℕ) (r : ℕ) (buf' : List ℕ) : Type 0 where
  pub fits : len + length x ≤ length buf → (r ≡ len + length x) × (buf' ≡ sets buf len x)
  pub over : length buf < len + length x → (r ≡ length buf + 1) × (buf' ≡ buf)

-- a buffer holds these bytes, if it is long enough
pub record Filled (buf bytes : List ℕ) (len : ℕ) : Type 0 where
  pub fits : length bytes ≤ length buf → (len ≡ length bytes) × (take len buf ≡ bytes)
  pub over : length buf < length bytes → len ≡ length buf + 1

-- the code's values stand for a reader of the definition; Ns and Vs are the names and the variables by how many there are
pub record Stands (Ns Vs : ℕ → List Key) (q : Reader) (st buf : List ℕ) (r : Told) : Type 0 where
  pub stage : Stage
  pub out : List Element
  pub is : r ≡ reader (phase_of q.phase) (Ns q.names) (Vs q.variables) stage out
  pub means : Means q.state st stage
  pub program : 0 < q.state.part
  pub room : 400 ≤ length st
  pub short : length buf ≤ 65536
  pub filled : Filled buf (join out) q.len

-- they stand for some reader
pub record Able (q : Reader) (st buf : List ℕ) : Type 0 where
  pub Ns : ℕ → List Key
  pub Vs : ℕ → List Key
  pub none : Vs 0 ≡ []
  pub told : Told
  pub stands : Stands Ns Vs q st buf told

-- a step of the definition was made
pub record After (f : Told → Option Told) (Ns Vs : ℕ → List Key) (r : Told) (q' : Reader) (st' buf' : List ℕ) : Type 0 where
  pub next : Told
  pub is : f r ≡ some next
  pub stands : Stands Ns Vs q' st' buf' next

-- names stay, and variables but for a new sentence
pub record Led (f : Told → Option Told) (q : Reader) (st buf : List ℕ) (q' : Reader) (st' buf' : List ℕ) : Type 0 where
  pub after : (Ns Vs : ℕ → List Key) → Vs 0 ≡ [] → (r : Told) → Stands Ns Vs q st buf r → After f Ns Vs r q' st' buf'
  pub names : q'.names ≡ q.names
  pub variables : (q'.variables ≡ q.variables) ⊎ (q'.variables ≡ 0)

-- the definition's reader stops
abbrev pub Barred : (Told → Option Told) → Reader → List ℕ → List ℕ → Type 0
Barred f q st buf = (Ns Vs : ℕ → List Key) → Vs 0 ≡ [] → (r : Told) → Stands Ns Vs q st buf r → f r ≡ none

-- what is good leads on, and what is bad stops the definition's reader too
pub data Onward (f : Told → Option Told) (q : Reader) (st buf : List ℕ) : Maybe Reader → List ℕ → List ℕ → Type 0 where
  leads : {q' : Reader} {st' buf' : List ℕ} → Led f q st buf q' st' buf' → Onward f q st buf (Some q') st' buf'
  stops : {st' buf' : List ℕ} → Barred f q st buf → Onward f q st buf None st' buf'

-- of es, which were to be put, fs are left
pub record Reached (es fs : List Element) (Ns Vs : ℕ → List Key) (r : Told) (q : Reader) (st buf : List ℕ) : Type 0 where
  pub next : Told
  pub left : put_all es r ≡ put_all fs next
  pub stands : Stands Ns Vs q st buf next

pub record Going (es fs : List Element) (q₀ : Reader) (st₀ buf₀ : List ℕ) (q : Reader) (st buf : List ℕ) : Type 0 where
  pub going : (Ns Vs : ℕ → List Key) → Vs 0 ≡ [] → (r : Told) → Stands Ns Vs q₀ st₀ buf₀ r → Reached es fs Ns Vs r q st buf
  pub names : q.names ≡ q₀.names
  pub variables : (q.variables ≡ q₀.variables) ⊎ (q.variables ≡ 0)

-- behind a character of a string, whose quote is doubled inside
unfoldable pub past_character : ℕ → ℕ → ℕ → ℕ
past_character i b quote = cond (eqb b quote) (i + 2) (i + 1)

-- the rest of a string, from i on, is closed by the quote at `last`
pub record Closes (s : List ℕ) (quote i last : ℕ) : Type 0 where
  pub most : i ≤ last
  pub inside : last < length s
  pub shut : quoted quote false (drop i s) ≡ closed (characters_of (quoted quote false (drop i s))) (last + 1 - i)

-- the elements of a string's characters from i on
abbrev pub elements_at : List ℕ → ℕ → ℕ → List Element
elements_at s quote i = map (element 1) (characters_of (quoted quote false (drop i s)))

-- n characters further
unfoldable pub further_by : Reader → ℕ → Reader
further_by q n =
    record {
      phase = q.phase;
      names = q.names;
      variables = q.variables;
      state = record { part = q.state.part; depth = q.state.depth; count = q.state.count + n; set = q.state.set; number = q.state.number };
      len = q.len + 2 * n;
    }

-- r characters are left, and a side with c elements and a buffer with len bytes have room for them
pub record Sure (c len limit bytes left r : ℕ) : Type 0 where
  pub most : r ≤ left
  pub side : 0 < r → c + r ≤ limit
  pub space : 0 < r → len + 2 * r ≤ bytes

-- the characters of a string from i up to j were put
pub record Runs (s : List ℕ) (quote last i : ℕ) (q : Reader) (buf : List ℕ) (j : ℕ) (q' : Reader) (buf' : List ℕ) : Type 0 where
  pub shut : Closes s quote j last
  pub going : (es : List Element) (q₀ : Reader) (st₀ buf₀ st : List ℕ) → Able q₀ st₀ buf₀ → Going es (elements_at s quote i) q₀ st₀ buf₀ q st buf
      → Going es (elements_at s quote j) q₀ st₀ buf₀ q' st buf'

-- what } makes, what a sign makes, and what a token makes: the definition's steps
abbrev pub braced : Told → Option Told
braced (reader p ns vs s out) = put_all (closing (part_of s)) (reader p ns vs s out)

abbrev pub signing : ℕ → Told → Option Told
signing c (reader p ns vs s out) = put_some (signed (part_of s) c) (reader p ns vs s out)

abbrev pub making_within : Meaning → ℕ → Told → Option Told
making_within t n (reader p ns vs s out) = put_some (within (part_of s) t n) (reader p ns vs s out)

abbrev pub making_header : Meaning → ℕ → Told → Option Told
making_header t n r = put_some (heading t n) r

-- a variable's number has one byte, a name's two
abbrev pub Fits : Token → ℕ → Type 0
Fits T.Gap n = n < 65536
Fits T.Malformed n = n < 65536
Fits T.Name n = n < 65536
Fits T.Call n = n < 65536
Fits (T.Macrodigit v) n = n < 65536
Fits T.String n = n < 65536
Fits (T.Variable start size) n = n < 256
Fits T.Sign n = n < 65536

-- a token that ends at `end`, and the number of its name or variable
pub record Entered (s : List ℕ) (at : ℕ) (t : Token) (end n : ℕ) : Type 0 where
  pub ahead : at < end
  pub proper : Proper s at t end
  pub fits : Fits t n
