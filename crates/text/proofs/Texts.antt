-- Texts worked by hand: document 01's programs, a dozen of document 003's, and texts that are refused.
use mathlib.Core.Bool.{Bool, true, false, ◌&&◌, cond}
use mathlib.Core.List.{List, [], ◌∷◌}
use Prim.Native.Nat.{ℕ, ◌+◌, ◌-◌, ◌*◌}
use Prim.Native.Char.{code}
use Prim.Native.String.{String, [] as none, ◌∷◌ as ◌then◌}
use lib.Dec.{T, eqb, ltb}
use Rattle.meaning.specs.Elements.{body, join, same, among, is_variable}
use Rattle.meaning.specs.Goodness.{span, stands, ends_side, paired, under_limit, on_right, tests, first_failing, fault, part_after, opens_after, sided, count_after, variables_after, state_after}
use Rattle.text.specs.Classes.{class_of, of, front}
use Rattle.text.specs.Tokens.{tail_of, spelled, identifier, real, value, number, trim, dotted, apart, indexed, longer, before, quoted, further, commented, slashed, lex_of, lex, follow, tokens}
use Rattle.text.specs.Numbering.{Key, name_key, number_of, has, adding}
use Rattle.text.specs.Reading.{digits, element, kept, phase_after, put_all, closing, type_of, signed, number_in, names_with, variables_with, put_some, within, heading, entering, enter, Said, says, amiss, finish, reads, said}

-- the bytes of a text
abbrev bytes : String → List ℕ
bytes none = []
bytes (c then s) = code c ∷ bytes s

-- the value of a digit of upper-case hexadecimal
abbrev nibble : ℕ → ℕ
nibble c = cond (ltb c 65) (c - 48) (c - 55)

-- bytes written as pairs of such digits with single spaces
abbrev hex : List ℕ → List ℕ
hex [] = []
hex (a ∷ []) = []
hex (a ∷ b ∷ []) = (nibble a * 16 + nibble b) ∷ []
hex (a ∷ b ∷ c ∷ s) = (nibble a * 16 + nibble b) ∷ hex s

pub data Text : Type 0 where
  -- a text, its program's bytes, and its names
  read : String → String → List String → Text
  -- a text, and the place where it is bad
  bad : String → ℕ → Text

abbrev named : List Key → List String → Bool
named [] [] = true
named [] (n ∷ ns) = false
named (x ∷ xs) [] = false
named (x ∷ xs) (n ∷ ns) = same x (20 ∷ bytes n) && named xs ns

abbrev reading : Said → List ℕ → List String → Bool
reading (says es ns) p names = same (join es) p && named ns names
reading (amiss i) p names = false

abbrev refusing : Said → ℕ → Bool
refusing (says es ns) n = false
refusing (amiss i) n = eqb i n

unfoldable pub right : Text → Bool
right (read t p names) = reading (said (bytes t)) (hex (bytes p)) names
right (bad t i) = refusing (said (bytes t)) i

unfoldable pub every : List Text → Bool
every [] = true
every (t ∷ ts) = right t && every ts

unfoldable pub texts : List Text
texts =
    -- program P of document 01, Find numbered from 0
    read "Find { s.0 e.1 (s.0 t.0) e.2 = t.0; s.0 e.1 = ; }"
    "0D 00 00 08 00 0A 00 04 08 00 09 00 05 0A 01 0B 09 00 0C 08 00 0A 00 0B 0C 0E 0F" ("Find" ∷ [])
    -- its Tri
    ∷ read "Tri { e.0 = e.0 e.0 e.0; }"
    "0D 00 00 0A 00 0B 0A 00 0A 00 0A 00 0C 0E 0F" ("Tri" ∷ [])
    -- document 003, 1.6: chpm by search
    ∷ read "Chpm {\n  e.1 '+' e.2 = e.1 '-' <Chpm e.2>;\n  e.1 = e.1; }"
    "0D 00 00 0A 00 01 2B 0A 01 0B 0A 00 01 2D 06 00 00 0A 01 07 0C 0A 00 0B 0A 00 0C 0E 0F" ("Chpm" ∷ [])
    -- document 003: unary addition
    ∷ read "Add {\n  (eX) '0' = eX;\n  (eX) eY's' = <Add (eX) eY>'s'; }"
    "0D 00 00 04 0A 00 05 01 30 0B 0A 00 0C 04 0A 00 05 0A 01 01 73 0B 06 00 00 04 0A 00 05 0A 01 07 01 73 0C 0E 0F" ("Add" ∷ [])
    -- document 003, 1.1: palindrome
    ∷ read "Pal { = True;\n  s.1 = True;\n  s.1 e.2 s.1 = <Pal e.2>;\n  e.1 = False; }"
    "0D 00 00 0B 02 01 00 0C 08 00 0B 02 01 00 0C 08 00 0A 00 08 00 0B 06 00 00 0A 00 07 0C 0A 00 0B 02 02 00 0C 0E 0F" ("Pal" ∷ "True" ∷ "False" ∷ [])
    -- document 003, 5.1: look up
    ∷ read "Look-up { sM In e1 sM(e.Who) e2 = e.Who }\nTable { =\n  1('MM') 2('CC') 3('MC') 4('M ') 5('C ') }"
    "0D 00 00 08 00 02 01 00 0A 00 08 00 04 0A 01 05 0A 02 0B 0A 01 0C 0E 0D 02 00 0B 03 01 00 00 00 04 01 4D 01 4D 05 03 02 00 00 00 04 01 43 01 43 05 03 03 00 00 00 04 01 4D 01 43 05 03 04 00 00 00 04 01 4D 01 20 05 03 05 00 00 00 04 01 43 01 20 05 0C 0E 0F" ("Look-up" ∷ "In" ∷ "Table" ∷ [])
    -- document 003, 3.4: choice
    ∷ read "If {\n  T Then (e1) Else (e2) = e1;\n  F Then (e1) Else (e2) = e2; }\n\nAnd {\n  T sX = sX;\n  F sX = F; }"
    "0D 00 00 02 01 00 02 02 00 04 0A 00 05 02 03 00 04 0A 01 05 0B 0A 00 0C 02 04 00 02 02 00 04 0A 00 05 02 03 00 04 0A 01 05 0B 0A 01 0C 0E 0D 05 00 02 01 00 08 00 0B 08 00 0C 02 04 00 08 00 0B 02 04 00 0C 0E 0F" ("If" ∷ "T" ∷ "Then" ∷ "Else" ∷ "F" ∷ "And" ∷ [])
    -- document 003, 3.1: blanks
    ∷ read "Blanks-slow {\n  e1'  'e2 = <Blanks-slow e1' 'e2>;\n  e1 = e1; }\n\nBlanks {\n  e1'  'e2 = e1 <Blanks ' 'e2>;\n  e1 = e1; }"
    "0D 00 00 0A 00 01 20 01 20 0A 01 0B 06 00 00 0A 00 01 20 0A 01 07 0C 0A 00 0B 0A 00 0C 0E 0D 01 00 0A 00 01 20 01 20 0A 01 0B 0A 00 06 01 00 01 20 0A 01 07 0C 0A 00 0B 0A 00 0C 0E 0F" ("Blanks-slow" ∷ "Blanks" ∷ [])
    -- document 003, 5.3: paths in graph
    ∷ read "Paths {\n  eP(e1 sV e2)(e3 sV(e.Next)e4) =\n    <Paths eP sV (e.Next)(e3 e4)>\n    <Paths eP (e2)(e3 sV(e.Next)e4)>;\n  eP(e1)(e2) = (eP);\n}"
    "0D 00 00 0A 00 04 0A 01 08 00 0A 02 05 04 0A 03 08 00 04 0A 04 05 0A 05 05 0B 06 00 00 0A 00 08 00 04 0A 04 05 04 0A 03 0A 05 05 07 06 00 00 0A 00 04 0A 02 05 04 0A 03 08 00 04 0A 04 05 0A 05 05 07 0C 0A 00 04 0A 01 05 04 0A 02 05 0B 04 0A 00 05 0C 0E 0F" ("Paths" ∷ [])
    -- document 003: binary addition
    ∷ read "Addb {\n  (eX'0')(eY s1) = <Addb (eX)(eY)> s1;\n  (eX'1')(eY'0') = <Addb (eX)(eY)>'1';\n  (eX'1')(eY'1') =\n    <Addb (<Addb (eX)('1')>)(eY)>'0';\n  (eX)(eY) = eX eY; }"
    "0D 00 00 04 0A 00 01 30 05 04 0A 01 08 00 05 0B 06 00 00 04 0A 00 05 04 0A 01 05 07 08 00 0C 04 0A 00 01 31 05 04 0A 01 01 30 05 0B 06 00 00 04 0A 00 05 04 0A 01 05 07 01 31 0C 04 0A 00 01 31 05 04 0A 01 01 31 05 0B 06 00 00 04 06 00 00 04 0A 00 05 04 01 31 05 07 05 04 0A 01 05 07 01 30 0C 04 0A 00 05 04 0A 01 05 0B 0A 00 0A 01 0C 0E 0F" ("Addb" ∷ [])
    -- document 003: ackermann
    ∷ read "Ack {\n  ()(e.N) = 1 e.N;\n  (1 e.M)() = <Ack (e.M)(1)>;\n  (1 e.M)(1 e.N) = <Ack (e.M)(<Ack (1 e.M)(e.N)>)>; }\n\nMul {\n  (e.X)() = ;\n  (e.X)(1 e.Y) = e.X <Mul (e.X)(e.Y)>; }"
    "0D 00 00 04 05 04 0A 00 05 0B 03 01 00 00 00 0A 00 0C 04 03 01 00 00 00 0A 00 05 04 05 0B 06 00 00 04 0A 00 05 04 03 01 00 00 00 05 07 0C 04 03 01 00 00 00 0A 00 05 04 03 01 00 00 00 0A 01 05 0B 06 00 00 04 0A 00 05 04 06 00 00 04 03 01 00 00 00 0A 00 05 04 0A 01 05 07 05 07 0C 0E 0D 01 00 04 0A 00 05 04 05 0B 0C 04 0A 00 05 04 03 01 00 00 00 0A 01 05 0B 0A 00 06 01 00 04 0A 00 05 04 0A 01 05 07 0C 0E 0F" ("Ack" ∷ "Mul" ∷ [])
    -- document 003: reverse
    ∷ read "* Recursive definition\nReverse {\n  s1 e2 = <Reverse e2> s1;\n  = ; }\n\n*Iterative definition\nReversei { eX = <Revit ()(eX)>; }\n\nRevit {\n  (eR)(s1 e2) = <Revit (s1 eR)(e2)>;\n  (eR)() = eR; }"
    "0D 00 00 08 00 0A 00 0B 06 00 00 0A 00 07 08 00 0C 0B 0C 0E 0D 01 00 0A 00 0B 06 02 00 04 05 04 0A 00 05 07 0C 0E 0D 02 00 04 0A 00 05 04 08 00 0A 01 05 0B 06 02 00 04 08 00 0A 00 05 04 0A 01 05 07 0C 04 0A 00 05 04 05 0B 0A 00 0C 0E 0F" ("Reverse" ∷ "Reversei" ∷ "Revit" ∷ [])
    -- document 003, 1.6: chpm by symbols
    ∷ read "* Chpm, Change Plus to Minus\nChpm {\n*1.Symbol '+' encountered.Replace by '-':\n  '+' e.1 = '-' <Chpm e.1>;\n*2.Any symbol distinct from '+':\n  s.2 e.1 = s.2 <Chpm e.1>;\n*3.Empty string:\n  = ;\n}"
    "0D 00 00 01 2B 0A 00 0B 01 2D 06 00 00 0A 00 07 0C 08 00 0A 00 0B 08 00 06 00 00 0A 00 07 0C 0B 0C 0E 0F" ("Chpm" ∷ [])
    -- document 003: string kept
    ∷ read "String {\n  e1 s2 = <String e1> s2;\n  = T;\n  e1(e2) = F e1(e2); }\n\nPal { eX = <Pal1 ()eX()>; }\nPal1 {\n  (eL) s1 e2 s1 (eR) =\n    <Pal1 (eL s1) e2 (s1 eR)>;\n  (eL)(eR) = T eL eR;\n  (eL) eI (eR) = F eL eI eR; }"
    "0D 00 00 0A 00 08 00 0B 06 00 00 0A 00 07 08 00 0C 0B 02 01 00 0C 0A 00 04 0A 01 05 0B 02 02 00 0A 00 04 0A 01 05 0C 0E 0D 03 00 0A 00 0B 06 04 00 04 05 0A 00 04 05 07 0C 0E 0D 04 00 04 0A 00 05 08 00 0A 01 08 00 04 0A 02 05 0B 06 04 00 04 0A 00 08 00 05 0A 01 04 08 00 0A 02 05 07 0C 04 0A 00 05 04 0A 01 05 0B 02 01 00 0A 00 0A 01 0C 04 0A 00 05 0A 01 04 0A 02 05 0B 02 02 00 0A 00 0A 01 0A 02 0C 0E 0F" ("String" ∷ "T" ∷ "F" ∷ "Pal" ∷ "Pal1" ∷ [])
    -- the empty text
    ∷ read ""
    "0F" ([])
    -- blanks, both comment forms, either quote, a doubled quote, another spelling, no last ;
    ∷ read "* of one\nF{/* {*/'it''s' A-b=\"\" A_B}"
    "0D 00 00 01 69 01 74 01 27 01 73 02 01 00 0B 02 01 00 0C 0E 0F" ("F" ∷ "A-b" ∷ [])
    -- one ; between functions; variables anew in each sentence
    ∷ read "F{sX e.Two=e.two;};G{s1=;s2=<F s2>}"
    "0D 00 00 08 00 0A 00 0B 0A 00 0C 0E 0D 01 00 08 00 0B 0C 08 00 0B 06 00 00 08 00 07 0C 0E 0F" ("F" ∷ "G" ∷ [])
    -- the greatest macrodigit
    ∷ read "F{=4294967295}"
    "0D 00 00 0B 03 FF FF FF FF 0C 0E 0F" ("F" ∷ [])
    -- real numbers
    ∷ bad "F { = 1.5 }" 6
    -- a macrodigit over 2^32 - 1
    ∷ bad "F { = 4294967296 }" 6
    -- < with no identifier next
    ∷ bad "F { = < F> }" 6
    -- $ENTRY
    ∷ bad "$ENTRY F { = }" 0
    -- a string not closed on its line
    ∷ bad "F { 'a\n' = }" 4
    -- a comment never closed
    ∷ bad "F { = } /* F" 8
    -- comments do not nest
    ∷ bad "/* /* */ */" 9
    -- a star in mid-line
    ∷ bad "F { = } * F" 8
    -- an identifier of 16 characters
    ∷ bad "F { = A123456789012345 }" 6
    -- an identifier begins with a capital
    ∷ bad "F { = -a }" 6
    -- a variable without a dot has one character
    ∷ bad "F { t12 = }" 4
    -- a right-side variable absent from the left
    ∷ bad "F { s.1 = s.2; }" 10
    -- brackets
    ∷ bad "F { (= }" 5
    -- a function has a sentence
    ∷ bad "F { }" 4
    -- the text ends early
    ∷ bad "F { = " 6
    ∷ []

pub worked : T (every texts)
unfolding texts every right
    body join same among is_variable
    span stands ends_side paired under_limit on_right tests first_failing fault part_after opens_after sided count_after variables_after state_after
    class_of of front
    spelled tail_of identifier real value number trim dotted apart indexed longer before quoted further commented slashed lex_of lex follow tokens
    name_key number_of has adding
    digits element kept phase_after put_all closing type_of signed put_some number_in names_with variables_with within heading entering enter finish reads said
worked = tt
