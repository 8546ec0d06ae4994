-- Names by the places where they begin in a text.
use Rattle.std.specs.Prelude.{List, [], ◌∷◌, ℕ, get_or, take, drop}
use Rattle.text.specs.Tokens.{spelled}
use Rattle.text.specs.Numbering.{Key, name_key, number_of}

-- the name that begins at a place, in its one spelling
unfoldable pub key_at : List ℕ → ℕ → List ℕ
key_at s i = spelled (drop i s)

-- the name of number k
abbrev pub name_at : List ℕ → List ℕ → ℕ → List ℕ
name_at s firsts k = key_at s (get_or firsts k 0)

-- the keys of the names that begin at these places
unfoldable pub keys : List ℕ → List ℕ → List Key
keys s [] = []
keys s (o ∷ os) = name_key (key_at s o) ∷ keys s os

-- the keys of the first n names
abbrev pub named : List ℕ → List ℕ → ℕ → List Key
named s firsts n = keys s (take n firsts)

-- the number of the name that begins at `at`
abbrev pub number_at : List ℕ → List ℕ → ℕ → ℕ → ℕ
number_at s firsts n at = number_of (name_key (key_at s at)) (named s firsts n)
