-- The class of a byte as a test, and runs of bytes, one byte at a time.
use mathlib.Core.Path.{◌≡◌}
use mathlib.Core.Bool.{Bool, true, false}
use mathlib.Core.List.{List, [], ◌∷◌}
use Prim.Native.Nat.{ℕ, suc, ◌+◌, ◌≤◌, ◌<◌}
use native.Mathlib.Omega.{arith}
use native.Mathlib.Numerals.{add-one}
use lib.ListN.{length, get_or, drop, drop_of_length-le, length-drop}
use lib.Seq.{drop-cons, get_or-drop}
use lib.Dec.{leb}
use borrow.Author.Tests.{le-leb, lt-leb, leb-true, leb-false}
use Rattle.meaning.specs.Goodness.{span}
use Rattle.meaning.proofs.Truth.{Seen, is_true, is_false, see}
use Rattle.text.specs.Classes.{class_of, of, front}

-- a byte of class k
module _ (lo hi b k : ℕ) (e : k ≡ class_of b) where
  pub of_yes : lo ≤ k → k ≤ hi → of lo hi b ≡ true
  unfolding of span
  of_yes l m = rw (← e, le-leb lo k l, le-leb k hi m)

  pub of_low : k < lo → of lo hi b ≡ false
  unfolding of span
  of_low l = rw (← e, lt-leb lo k l)

  pub of_high : lo ≤ k → hi < k → of lo hi b ≡ false
  unfolding of span
  of_high l m = rw (← e, le-leb lo k l, lt-leb k hi m)

module _ (c b k : ℕ) (e : k ≡ class_of b) where
  pub of_eq : k ≡ c → of c c b ≡ true
  of_eq q = of_yes c c b k e (omega arith) (omega arith)

  pub of_ne : (k ≡ c → ⊥) → of c c b ≡ false
  of_ne n =
      elim (see (leb c k)) [
        | is_true h ↦ (let l : c ≤ k = leb-true c k h in of_high c c b k e l (let m : c < k = omega arith in m))
        | is_false h ↦ of_low c c b k e (leb-false c k h)
      ]

-- the longest front of a list
module _ (p : ℕ → Bool) where
  pub front_yes : (b : ℕ) (bs : List ℕ) → p b ≡ true → front p (b ∷ bs) ≡ b ∷ front p bs
  unfolding front
  front_yes b bs h = rw (h, front)

  pub front_no : (b : ℕ) (bs : List ℕ) → p b ≡ false → front p (b ∷ bs) ≡ []
  unfolding front
  front_no b bs h = rw (h, front)

  -- the run that begins at place i
  module _ (s : List ℕ) (i : ℕ) where
    pub run_yes : i < length s → p (get_or s i 0) ≡ true → front p (drop i s) ≡ get_or s i 0 ∷ front p (drop (i + 1) s)
    run_yes h e = rw (drop-cons s i 0 h, add-one i) (front_yes _ (drop (suc i) s) e)

    pub run_no : i < length s → p (get_or s i 0) ≡ false → front p (drop i s) ≡ []
    run_no h e = rw (drop-cons s i 0 h) (front_no _ (drop (suc i) s) e)

    pub run_past : length s ≤ i → front p (drop i s) ≡ []
    unfolding front
    run_past h = rw (drop_of_length-le s h)

    pub run_on : i < length s → p (get_or s i 0) ≡ true → i + length (front p (drop i s)) ≡ i + 1 + length (front p (drop (i + 1) s))
    run_on h e = rw (run_yes h e) (omega arith)

    pub run_stop : i < length s → p (get_or s i 0) ≡ false → i ≡ i + length (front p (drop i s))
    run_stop h e = rw (run_no h e) (omega arith)

    pub run_out : length s ≤ i → i ≡ i + length (front p (drop i s))
    run_out h = rw (run_past h) (omega arith)

  -- a run stays inside
  front_most : (bs : List ℕ) → length (front p bs) ≤ length bs
  unfolding front
  front_most [] = omega arith
  front_most (b ∷ bs) = elim (see (p b)) [ is_true h ↦ rw (h, front) (omega (arith, front_most bs)) | is_false h ↦ rw (h, front) (omega arith) ]

  pub run_most : (s : List ℕ) (i : ℕ) → i ≤ length s → i + length (front p (drop i s)) ≤ length s
  run_most s i h = omega (arith, front_most (drop i s), length-drop i s)

  -- the byte behind a longest run is none of its own
  front_stops : (bs : List ℕ) → length (front p bs) < length bs → p (get_or bs (length (front p bs)) 0) ≡ false
  unfolding front
  front_stops [] l = absurd (omega arith)
  front_stops (b ∷ bs) l = go (front_stops bs) (see (p b)) l
    where
      go : (length (front p bs) < length bs → p (get_or bs (length (front p bs)) 0) ≡ false) → Seen (p b)
          → length (front p (b ∷ bs)) < suc (length bs) → p (get_or (b ∷ bs) (length (front p (b ∷ bs))) 0) ≡ false
      go ih (is_true h) l = rw (h, front) (ih (let m = rw (h, front) at l in omega arith))
      go ih (is_false h) l = rw (h, front) h

  pub run_ends : (s : List ℕ) (i : ℕ) → i + length (front p (drop i s)) < length s → p (get_or s (i + length (front p (drop i s))) 0) ≡ false
  run_ends s i l = rw (← get_or-drop i s (length (front p (drop i s))) 0) (front_stops (drop i s) (omega (arith, length-drop i s)))
