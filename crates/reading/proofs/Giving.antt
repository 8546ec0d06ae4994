-- What was read, handed over.
use mathlib.Core.Path.{◌≡◌, sym, ◌∙◌, ap}
use mathlib.Core.List.{List, [], ◌++◌, append-nil}
use Prim.Native.Nat.{ℕ, ◌+◌, ◌-◌, ◌*◌, ◌≤◌, ◌<◌}
use native.Mathlib.Omega.{arith}
use lib.ListN.{length, take, drop, replicate, drop_of_length-le}
use lib.Seq.{paste, take-paste, length-paste}
use lib.Dec.{leb}
use borrow.Author.Tests.{le-leb, lt-leb, leb-true, leb-false}
use Rattle.meaning.specs.Elements.{Element, join}
use Rattle.meaning.proofs.Truth.{is_true, is_false, see, and_false}
use Rattle.text.specs.Numbering.{Key}
use Rattle.text.specs.Reading.{says, said}
use Rattle.text.specs.Answers.{list_of, filled, reply, Outcome, outcome, fitted, read_text}
use Rattle.names.specs.Names.{named}
use Rattle.names.specs.Index.{Places}
use Rattle.names.proofs.Writing.{list_length}
use Rattle.putting.specs.Putting.{Filled}
use Rattle.reading.specs.declared.Code.{Code}
use Rattle.reading.specs.declared.Answer.{Answer}
use Rattle.reading.specs.Answers.{code_of, reply_of}
use Rattle.std.specs.Prelude.{Ok, Err}
use Rattle.reading.specs.Reading.{Saying, good, bad}

module _ {s firsts : List ℕ} {n : ℕ} (p : Places s firsts n) (es : List Element) {buf : List ℕ} {len : ℕ} (f : Filled buf (join es) len) (program list : List ℕ) (b : length buf ≡ 65536) (w : length program ≤ 65536) where
  abbrev ns : List Key
  ns = named s firsts n

  list_long : length (list_of ns) ≡ 16 * n
  list_long = list_length p

  -- the length tells whether the program has room
  pub no_program : length program < len → outcome (reply 4 0 0 0) program list ≡ fitted (says es ns) program list
  unfolding fitted
  no_program h = rw (lt-leb (length (join es)) (length program) long)
    where
      long : length program < length (join es)
      long =
          elim (see (leb (length (join es)) (length buf))) [
            | is_true k ↦ omega (arith, (f.fits (leb-true _ _ k)).0)
            | is_false k ↦ (let z : length buf < length (join es) = leb-false _ _ k in omega arith)
          ]

  pub no_list : length list < 16 * n → outcome (reply 4 0 0 0) program list ≡ fitted (says es ns) program list
  unfolding fitted
  no_list h = rw (lt-leb (length (list_of ns)) (length list) (omega (arith, list_long)), and_false (leb (length (join es)) (length program)))

  module _ (h : len ≤ length program) (k : 16 * n ≤ length list) where
    held : (len ≡ length (join es)) × (take len buf ≡ join es)
    held =
        elim (see (leb (length (join es)) (length buf))) [
          | is_true z ↦ f.fits (leb-true _ _ z)
          | is_false z ↦ absurd (omega (arith, f.over (leb-false _ _ z)))
        ]

    pub given : {program' program'' list' : List ℕ} → program' ≡ paste program 0 (drop 0 buf) len → program'' ≡ take len program' ++ replicate (length program' - len) 0 ++ drop (length program') program'
        → list' ≡ filled (list_of ns) list → outcome (reply 0 len (16 * n) 0) program'' list' ≡ fitted (says es ns) program list
    unfolding fitted filled
    given {program'} {program''} e c g =
        let (el, et) = held in
        let long : length program' ≡ length program = ap (λ (l : List ℕ). length l) e ∙ length-paste program 0 buf len (omega arith) (omega arith) in
        let front : take len program' ≡ join es = ap (take len) e ∙ ap (λ (k : ℕ). take k (paste program 0 buf len)) (let z : len ≡ 0 + len = omega arith in z) ∙ take-paste program 0 buf len (omega arith) (omega arith) ∙ et in
        let rest : drop (length program') program' ≡ [] = drop_of_length-le program' {i = length program'} (omega arith) in
        let size : length program' - len ≡ length program - length (join es) = omega arith in
        let whole : program'' ≡ join es ++ replicate (length program - length (join es)) 0 = c ∙ rw (front, rest, size, append-nil) in
        rw (le-leb (length (join es)) (length program) (omega arith), le-leb (length (list_of ns)) (length list) (omega (arith, list_long)))
        (rw (whole, g, ← el, list_long))

-- a refusal's numbers
pub refused_is : {r : Answer} {c : Code} {p : ℕ} → (r.code ≡ c) × (r.program ≡ 0) × (r.names ≡ 0) × (r.place ≡ p) → reply_of r ≡ reply (code_of c) 0 0 p
refused_is (a, b, d, e) = rw (a, b, d, e)

-- what the text says, as the code has it
module _ {s firsts buf : List ℕ} {n : ℕ} where
  pub bad_said : {i : ℕ} {program list : List ℕ} → Saying s firsts n buf (Err i) → outcome (reply 8 0 0 i) program list ≡ fitted (said s) program list
  unfolding fitted
  bad_said (bad f) = rw f

  pub given-said : (program list : List ℕ) {len : ℕ} {a : Outcome} → Saying s firsts n buf (Ok len)
      → ((es : List Element) → Filled buf (join es) len → a ≡ fitted (says es (named s firsts n)) program list) → a ≡ fitted (said s) program list
  given-said program list (good es f w) g = g es w ∙ ap (λ x. fitted x program list) (sym f)

-- the sizes come first
module _ (text program list : List ℕ) where
  pub long_text : 65536 < length text → outcome (reply 5 0 0 0) program list ≡ read_text text program list
  unfolding read_text
  long_text h = rw (lt-leb (length text) 65536 h)

  module _ (a : length text ≤ 65536) where
    pub long_program : 65536 < length program → outcome (reply 5 0 0 0) program list ≡ read_text text program list
    unfolding read_text
    long_program h = rw (le-leb (length text) 65536 a, lt-leb (length program) 65536 h)

    module _ (b : length program ≤ 65536) where
      pub long_list : 65536 < length list → outcome (reply 5 0 0 0) program list ≡ read_text text program list
      unfolding read_text
      long_list h = rw (le-leb (length text) 65536 a, le-leb (length program) 65536 b, lt-leb (length list) 65536 h)

      pub sized : length list ≤ 65536 → fitted (said text) program list ≡ read_text text program list
      unfolding read_text
      sized h = rw (le-leb (length text) 65536 a, le-leb (length program) 65536 b, le-leb (length list) 65536 h)
