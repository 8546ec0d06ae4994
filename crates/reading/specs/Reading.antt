-- What the reader's tables stand for, and what its steps hand back.
use Rattle.std.specs.Prelude.{◌≡◌, Bool, true, false, List, [], ℕ, ◌+◌, ◌*◌, ◌≤◌, get_or, Result, Ok, Err}
use Rattle.meaning.specs.Elements.{Element, join}
use Rattle.text.specs.Classes.{is_capital}
use Rattle.text.specs.Numbering.{Key}
use Rattle.text.specs.Reading.{Reader as Told, number_in, names_with, variables_with, says, amiss, finish, said}
use Rattle.names.specs.Names.{named}
use Rattle.names.specs.Entries.{firsts}
use Rattle.names.specs.declared.Names.{Names}
use Rattle.variables.specs.Variables.{keys_of}
use Rattle.variables.specs.Entries.{kinds, starts, sizes}
use Rattle.variables.specs.Few.{Few}
use Rattle.variables.specs.Tables.{keys}
use Rattle.variables.specs.declared.Variables.{Variables}
use Rattle.tokens.specs.declared.Token.{Token}
use Rattle.tokens.specs.declared.Token.TheVariants as T
use Rattle.tokens.specs.Lexemes.{token_of}
use Rattle.putting.specs.declared.Reader.{Reader}
use Rattle.putting.specs.declared.Phase.TheVariants.{Free}
use Rattle.putting.specs.Putting.{Filled, Stands, Fits}

-- the reader with so many names and variables
abbrev pub with_counts : Reader → ℕ → ℕ → Reader
with_counts q n m = record { phase = q.phase; names = n; variables = m; state = q.state; len = q.len }

-- before the first token
unfoldable pub begun : Reader
begun = record { phase = Free; names = 0; variables = 0; state = record { part = 1; depth = 0; count = 0; set = record { bits = 0 }; number = 0 }; len = 0 }

abbrev pub gaps : Token → Bool
gaps T.Gap = true
gaps T.Malformed = false
gaps T.Name = false
gaps T.Call = false
gaps (T.Macrodigit v) = false
gaps T.String = false
gaps (T.Variable start size) = false
gaps T.Sign = false

-- each of n names before the place i took two bytes, but one that ends there
pub record Spaced (s : List ℕ) (i n : ℕ) : Type 0 where
  pub near : 2 * n ≤ i + 1
  pub next : is_capital (get_or s i 0) ≡ true → 2 * n ≤ i

-- how many names a token has
abbrev pub names_in : Token → ℕ
names_in T.Gap = 0
names_in T.Malformed = 0
names_in T.Name = 1
names_in T.Call = 1
names_in (T.Macrodigit v) = 0
names_in T.String = 0
names_in (T.Variable start size) = 0
names_in T.Sign = 0

-- a token's name or variable has the number r, and is in the tables: of n names and m variables they have n' and m' then
pub record Meeting (s : List ℕ) (at : ℕ) (t : Token) (firsts kinds starts sizes : List ℕ) (n m : ℕ) (firsts' kinds' starts' sizes' : List ℕ) (n' m' r : ℕ) : Type 0 where
  pub number : r ≡ number_in (token_of s at t) (named s firsts n) (keys_of s kinds starts sizes m)
  pub fits : Fits t r
  pub names : named s firsts' n' ≡ names_with (token_of s at t) (named s firsts n)
  pub variables : keys_of s kinds' starts' sizes' m' ≡ variables_with (token_of s at t) (keys_of s kinds starts sizes m)
  pub most : n' ≤ n + names_in t

-- the same of the tables of one text
pub record Met (at : ℕ) (t : Token) (ns : Names) (vs : Variables) (ns' : Names) (vs' : Variables) (r : ℕ) : Type 0 where
  pub meeting : Meeting ns.text.now at t (firsts ns.entries) (kinds vs.entries) (starts vs.entries) (sizes vs.entries) ns.count vs.count
      (firsts ns'.entries) (kinds vs'.entries) (starts vs'.entries) (sizes vs'.entries) ns'.count vs'.count r
  pub names_text : ns'.text ≡ ns.text
  pub variables_text : vs'.text ≡ vs.text

-- the variables are of the names' text, and few
pub record Sentence (ns : Names) (vs : Variables) : Type 0 where
  pub text : vs.text ≡ ns.text
  pub few : Few (keys vs)

-- the end of a text of m bytes: the bytes of the program, or the place where it is bad
pub data Finishing (m : ℕ) (q : Reader) (st buf buf' : List ℕ) : Result ℕ ℕ → Type 0 where
  ends : {len : ℕ} → ((Ns Vs : ℕ → List Key) → Vs 0 ≡ [] → (r : Told) → Stands Ns Vs q st buf r → (es : List Element) × (finish m r ≡ says es (Ns q.names)) × Filled buf' (join es) len)
      → Finishing m q st buf buf' (Ok len)
  early : ((Ns Vs : ℕ → List Key) → Vs 0 ≡ [] → (r : Told) → Stands Ns Vs q st buf r → finish m r ≡ amiss m) → Finishing m q st buf buf' (Err m)

-- what the text says, with n names
pub data Saying (s firsts : List ℕ) (n : ℕ) (buf : List ℕ) : Result ℕ ℕ → Type 0 where
  good : {len : ℕ} (es : List Element) → said s ≡ says es (named s firsts n) → Filled buf (join es) len → Saying s firsts n buf (Ok len)
  bad : {i : ℕ} → said s ≡ amiss i → Saying s firsts n buf (Err i)

-- the table has the names of the text, which stays
pub record ToldBy (ns ns' : Names) (buf : List ℕ) (r : Result ℕ ℕ) : Type 0 where
  pub saying : Saying ns.text.now (firsts ns'.entries) ns'.count buf r
  pub text : ns'.text ≡ ns.text
