-- The classes of bytes as a table, and the spelling of one byte.
use Rattle.std.specs.Prelude.{◌≡◌, cond, List, map, ℕ, ◌<◌, get_or, take, drop}
use Rattle.text.specs.Classes.{class_of, in_name, spell}
use Rattle.classes.specs.declared.Class.{Class}
use Rattle.classes.specs.declared.Class.TheVariants.{Other, Blank, Slash, Capital, Small, Typed, Digit, Dash, Quote, Sign, Call, Star, LineEnd}

-- the definition's number of a class
abbrev pub number_of : Class → ℕ
number_of Other = 0
number_of Blank = 1
number_of Slash = 2
number_of Capital = 3
number_of Small = 4
number_of Typed = 5
number_of Digit = 6
number_of Dash = 7
number_of Quote = 8
number_of Sign = 9
number_of Call = 10
number_of Star = 11
number_of LineEnd = 12

-- "A table over all 256 byte values says which class each belongs to"
pub record Classes (table : List Class) : Type 0 where
  pub rule : (b : ℕ) → b < 256 → number_of (get_or table b Other) ≡ class_of b

-- a byte in a name's one spelling, 0 where it cannot stand in a name
unfoldable pub spelling : ℕ → ℕ
spelling b = cond (in_name b) (spell b) 0

-- n bytes of a text from i on, in that spelling
unfoldable pub part : List ℕ → ℕ → ℕ → List ℕ
part s i n = map spelling (take n (drop i s))
