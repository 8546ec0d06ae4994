-- A step inside A X B is X's step, moved.
use mathlib.Core.Path.{◌≡◌, sym, ◌∙◌, ap}
use mathlib.Core.Bool.{true, false}
use mathlib.Core.Option.{Option, none, some}
use mathlib.Core.List.{List, ◌++◌, tail, append_assoc}
use Prim.Native.Nat.{ℕ, ◌+◌, ◌≤◌, ◌<◌}
use native.Mathlib.Omega.{arith}
use lib.Dec.{leb}
use borrow.Author.Tests.{leb-true, leb-false, le-leb, lt-leb}
use Rattle.meaning.specs.Elements.{Element, size}
use Rattle.meaning.specs.Machine.{before, holds, lead, leading, Step, idle, stuck, onward, fit_in, replace, call, step_at, step, apply, function}
use Rattle.meaning.proofs.Truth.{is_true, is_false, see}
use Rattle.meaning.proofs.Cutting.{size-append}
use Rattle.meaning.proofs.Holding.{before_found}
use Rattle.meaning.proofs.Leading.{leading_closed, leading_left, leading_right}

-- a step's outcome, with A before it and B behind it
unfoldable pub moved : List Element → List Element → Step → Step
moved A B idle = idle
moved A B (stuck c at) = stuck c (size A + at)
moved A B (onward X) = onward (A ++ (X ++ B))

leb_shift : (m n k l : ℕ) → leb (k + (m + l)) (k + n + l) ≡ leb m n
leb_shift m n k l =
    elim (see (leb m n)) [
      | is_true e ↦ le-leb (k + (m + l)) (k + n + l) (let h : m ≤ n = leb-true m n e in omega arith) ∙ sym e
      | is_false e ↦ lt-leb (k + (m + l)) (k + n + l) (let h : n < m = leb-false m n e in omega arith) ∙ sym e
    ]

fit_in_yes : (room at : ℕ) (es : List Element) → leb (size es) room ≡ true → fit_in room at es ≡ onward es
unfolding fit_in
fit_in_yes room at es h = rw (h, fit_in)

fit_in_no : (room at : ℕ) (es : List Element) → leb (size es) room ≡ false → fit_in room at es ≡ stuck 4 at
unfolding fit_in
fit_in_no room at es h = rw (h, fit_in)

module _ (room : ℕ) (A B : List Element) where
  unfoldable pub wide : ℕ
  wide = size A + room + size B

  size_moved : (X : List Element) → leb (size (A ++ (X ++ B))) wide ≡ leb (size X) room
  unfolding wide
  size_moved X = rw (size-append A (X ++ B), size-append X B) (leb_shift (size X) room (size A) (size B))

  fit_in_moved : (at : ℕ) (X : List Element) → fit_in wide (size A + at) (A ++ (X ++ B)) ≡ moved A B (fit_in room at X)
  unfolding moved
  fit_in_moved at X =
      elim (see (leb (size X) room)) [
        | is_true h ↦ fit_in_yes _ _ _ (size_moved X ∙ h) ∙ ap (moved A B) (sym (fit_in_yes room at X h))
        | is_false h ↦ fit_in_no _ _ _ (size_moved X ∙ h) ∙ ap (moved A B) (sym (fit_in_no room at X h))
      ]

  call_moved : (a x b : List Element) (o : Option (List (List Element))) → call wide (A ++ a) x (b ++ B) o ≡ moved A B (call room a x b o)
  unfolding moved call replace
  call_moved a x b none = ap (stuck 3) (size-append A a)
  call_moved a x b (some ss) = go (apply ss x)
    where
      go : (o : Option (List Element)) → replace wide (A ++ a) (b ++ B) o ≡ moved A B (replace room a b o)
      go none = ap (stuck 2) (size-append A a)
      go (some r) = rw size-append (simp append_assoc (simp append_assoc at (fit_in_moved (size a) (a ++ r ++ b))))

  pub step_moved : (fs : List Element) (X : List Element) {a : List Element} {c : Element} {x b : List Element}
      → holds 7 A ≡ false → holds 6 (before 7 X) ≡ true → leading X ≡ lead a c x b
      → step fs wide (A ++ (X ++ B)) ≡ moved A B (step fs room X)
  unfolding step step_at
  step_moved fs X {a} {c} {x} {b} n m h =
      let k : holds 7 X ≡ true = leading_closed X h in
      let m' : holds 6 (before 7 (X ++ B)) ≡ true = rw (before_found 7 X B k) m in
      rw (leading_left A (X ++ B) n m' (leading_right X B h), h) (call_moved a x b (function (tail c) fs))
