-- What the code's elements are in bytes.
use Rattle.std.specs.Prelude.{Bool, true, false, List, [], ◌∷◌, ℕ, zero, suc, ◌/◌, ◌%◌}
use Rattle.meaning.specs.Elements.{body}
use Rattle.elements.specs.declared.Element.{Element}
use Rattle.elements.specs.declared.Element.TheVariants.{Character, Name, Macrodigit, Open, Close, Call, Return, SVariable, TVariable, EVariable, Equals, SentenceEnd, Header, FunctionEnd, ProgramEnd}

-- the column Kind of document 01's table
abbrev pub kind_of : Element → ℕ
kind_of (Character n) = 1
kind_of (Name n) = 2
kind_of (Macrodigit n) = 3
kind_of Open = 4
kind_of Close = 5
kind_of (Call n) = 6
kind_of Return = 7
kind_of (SVariable n) = 8
kind_of (TVariable n) = 9
kind_of (EVariable n) = 10
kind_of Equals = 11
kind_of SentenceEnd = 12
kind_of (Header n) = 13
kind_of FunctionEnd = 14
kind_of ProgramEnd = 15

-- the number in the body
abbrev pub number_of : Element → ℕ
number_of (Character n) = n
number_of (Name n) = n
number_of (Macrodigit n) = n
number_of Open = 0
number_of Close = 0
number_of (Call n) = n
number_of Return = 0
number_of (SVariable n) = n
number_of (TVariable n) = n
number_of (EVariable n) = n
number_of Equals = 0
number_of SentenceEnd = 0
number_of (Header n) = n
number_of FunctionEnd = 0
number_of ProgramEnd = 0

-- "Numbers of several bytes have the low byte first": n in w bytes
unfoldable pub digits : ℕ → ℕ → List ℕ
digits zero n = []
digits (suc w) n = n % 256 ∷ digits w (n / 256)

abbrev pub bytes_of : Element → List ℕ
bytes_of x = kind_of x ∷ digits (body (kind_of x)) (number_of x)

-- b tells whether P
abbrev pub Told : Bool → Type 0 → Type 0
Told true P = P
Told false P = P → ⊥
