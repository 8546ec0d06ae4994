-- What one element of a field does to the open brackets.
use mathlib.Core.Path.{◌≡◌, refl}
use mathlib.Core.List.{List, ◌∷◌, []}
use Prim.Native.Nat.{ℕ, ◌+◌, ◌<◌}
use native.Mathlib.Omega.{arith}
use lib.ListN.{length, set}
use borrow.Author.Tests.{ne_eqb}
use types.Run.{OneOf, miss}
use denote.Enum.Declared.{tag_of}
use Rattle.meaning.specs.Elements.{body, is_variable}
use Rattle.meaning.specs.Goodness.{span, stands, ends_side, paired, under_limit, tests, first_failing, fault, opens_after}
use Rattle.kinds.proofs.Stacks.{stack_push, stack_pop}
use Rattle.elements.specs.declared.Element.{Element}
use Rattle.elements.specs.contracts.Element.{the_type}
use Rattle.elements.specs.declared.Element.TheVariants.{Character, Name, Macrodigit, Open, Close, Call, Return, SVariable, TVariable, EVariable, Equals, SentenceEnd, Header, FunctionEnd, ProgramEnd}
use Rattle.elements.specs.Bytes.{digits}
use Rattle.checking_fields.specs.Fields.{within, Closed, closes, stays, Turned, good, bad}
use Rattle.std.specs.Prelude.{Option as Maybe, Some, None}

-- the places of the variants that cannot stand in a field
abbrev others : List ℕ
others = 7 ∷ 8 ∷ 9 ∷ 10 ∷ 11 ∷ 12 ∷ 13 ∷ 14 ∷ []

-- a character, whatever its code
pub character_good : (opens : List ℕ) (v : ℕ) → fault (within opens) (1 ∷ v ∷ []) ≡ 0
unfolding fault tests first_failing span stands paired ends_side under_limit is_variable body
character_good opens v = refl

module _ {st : List ℕ} {d : ℕ} where
  pub turn_character : (n : ℕ) → Turned (Character n) st d (Some d) st
  unfolding body digits opens_after
  turn_character n = good (character_good _ _) refl (omega arith)

  pub turn_name : (n : ℕ) → Turned (Name n) st d (Some d) st
  unfolding fault tests first_failing span stands paired ends_side under_limit is_variable body digits opens_after
  turn_name n = good refl refl (omega arith)

  pub turn_macrodigit : (n : ℕ) → Turned (Macrodigit n) st d (Some d) st
  unfolding fault tests first_failing span stands paired ends_side under_limit is_variable body digits opens_after
  turn_macrodigit n = good refl refl (omega arith)

  pub turn_open : d < length st → Turned Open st d (Some (d + 1)) (set st d 4)
  unfolding fault tests first_failing span stands paired ends_side under_limit is_variable body digits opens_after
  turn_open h = good refl (stack_push d 4 st h) (omega arith)

  pub turn_call : (n : ℕ) → d < length st → Turned (Call n) st d (Some (d + 1)) (set st d 6)
  unfolding fault tests first_failing span stands paired ends_side under_limit is_variable body digits opens_after
  turn_call n h = good refl (stack_push d 6 st h) (omega arith)

  pub turn_close : {r : Maybe ℕ} → Closed st d 4 r → Turned Close st d r st
  unfolding fault tests first_failing span stands paired ends_side under_limit is_variable body digits opens_after
  turn_close (closes e) = good (rw e) (stack_pop d st) (omega arith)
  turn_close (stays n) = bad (λ z. let w = rw (ne_eqb _ 4 n) at z in omega arith)

  pub turn_return : {r : Maybe ℕ} → Closed st d 6 r → Turned Return st d r st
  unfolding fault tests first_failing span stands paired ends_side under_limit is_variable body digits opens_after
  turn_return (closes e) = good (rw e) (stack_pop d st) (omega arith)
  turn_return (stays n) = bad (λ z. let w = rw (ne_eqb _ 6 n) at z in omega arith)

  pub turn_other : (x : Element) → OneOf others (tag_of the_type x) → Turned x st d None st
  unfolding fault tests first_failing span stands body digits
  turn_other (Character n) k = absurd (miss others 0 tt k)
  turn_other (Name n) k = absurd (miss others 1 tt k)
  turn_other (Macrodigit n) k = absurd (miss others 2 tt k)
  turn_other Open k = absurd (miss others 3 tt k)
  turn_other Close k = absurd (miss others 4 tt k)
  turn_other (Call n) k = absurd (miss others 5 tt k)
  turn_other Return k = absurd (miss others 6 tt k)
  turn_other (SVariable n) k = bad (λ z. omega arith)
  turn_other (TVariable n) k = bad (λ z. omega arith)
  turn_other (EVariable n) k = bad (λ z. omega arith)
  turn_other Equals k = bad (λ z. omega arith)
  turn_other SentenceEnd k = bad (λ z. omega arith)
  turn_other (Header n) k = bad (λ z. omega arith)
  turn_other FunctionEnd k = bad (λ z. omega arith)
  turn_other ProgramEnd k = bad (λ z. omega arith)
