-- A good program has the structure in which functions and sentences are found.
use mathlib.Core.Path.{◌≡◌, refl, ◌∙◌}
use mathlib.Core.Bool.{true, false}
use mathlib.Core.Logic.{◌⊎◌, inl, inr}
use mathlib.Core.Option.{none}
use mathlib.Core.List.{List, [], ◌∷◌}
use Prim.Native.Nat.{ℕ, ◌≤◌}
use native.Mathlib.Omega.{arith}
use lib.ListN.{length, get_or}
use lib.Seq.{take-length}
use lib.Dec.{eqb, leb}
use borrow.Author.Tests.{eqb-true, eqb-false, ne_eqb, leb-true, le-leb}
use Rattle.meaning.specs.Elements.{Element, kind, body, is_symbol, is_variable, elements}
use Rattle.meaning.specs.Goodness.{outside, left, span, stands, ends_side, paired, opens_after, bad_program}
use Rattle.meaning.proofs.Truth.{never, Seen, is_true, is_false, see, or_false, true_T, span_le}
use Rattle.meaning.proofs.Programs.{Passed, Side, side_end, side_more, good_whole, program_bodies}
use Rattle.kinds.proofs.Bodies.{body_var}
use Rattle.settling.specs.Values.{LeftSide, l_end, l_symbol, l_open, l_close, l_variable}
use Rattle.building.specs.Build.{side_of}
use Rattle.choosing.specs.Choose.{rest_of, Program}

-- ONE ELEMENT OF A LEFT SIDE

alone : (e : Element) (k : ℕ) → kind e ≡ k → length e ≡ 1 → e ≡ k ∷ []
alone [] k q h = never (omega arith)
alone (b ∷ []) k q h = cc
alone (b ∷ c ∷ bs) k q h = never (omega arith)

numbered : (e : Element) → length e ≡ 2 → e ≡ kind e ∷ get_or e 1 0 ∷ []
numbered [] h = never (omega arith)
numbered (k ∷ []) h = never (omega arith)
numbered (k ∷ n ∷ []) h = refl
numbered (k ∷ n ∷ c ∷ bs) h = never (omega arith)

-- the kinds of a left side
data LeftKind (k : ℕ) : Type 0 where
  symbol : 1 ≤ k → k ≤ 3 → LeftKind k
  opening : k ≡ 4 → LeftKind k
  closing : k ≡ 5 → LeftKind k
  variable : 8 ≤ k → k ≤ 10 → LeftKind k

left_kind : (k : ℕ) → stands left k ≡ true → eqb k 11 ≡ false → LeftKind k
unfolding stands
left_kind k h n = sort (see (span 1 5 k)) (see (eqb k 4)) (see (eqb k 5))
  where
    sort : Seen (span 1 5 k) → Seen (eqb k 4) → Seen (eqb k 5) → LeftKind k
    sort (is_true w) (is_true y) x = opening (eqb-true k 4 y)
    sort (is_true w) (is_false y) (is_true x) = closing (eqb-true k 5 x)
    sort (is_true w) (is_false y) (is_false x) = let (a, b) = span_le 1 5 k w in symbol a (omega (arith, eqb-false k 4 y, eqb-false k 5 x))
    sort (is_false w) y x = let (a, b) = span_le 8 11 k (rw w at h) in variable a (omega (arith, eqb-false k 11 n))

opens_kept : (k : ℕ) (o : List ℕ) → (k ≤ 3) ⊎ (8 ≤ k) → opens_after k o ≡ o
unfolding opens_after
opens_kept k o (inl h) = rw (ne_eqb k 4 (omega arith), ne_eqb k 5 (omega arith), ne_eqb k 6 (omega arith), ne_eqb k 7 (omega arith))
opens_kept k o (inr h) = rw (ne_eqb k 4 (omega arith), ne_eqb k 5 (omega arith), ne_eqb k 6 (omega arith), ne_eqb k 7 (omega arith))

-- the depth is the number of open brackets: where 05 fits, one is open
left_more : (o : List ℕ) (vs : List Element) (e : Element) {l : List Element}
    → Passed left o vs e → LeftKind (kind e) → LeftSide (length (opens_after (kind e) o)) l → LeftSide (length o) (e ∷ l)
unfolding body opens_after paired is_symbol is_variable
left_more o vs e t (symbol a b) s =
    l_symbol (true_T (is_symbol e) (rw (le-leb 1 (kind e) a) (le-leb (kind e) 3 b))) t.long (rw (opens_kept (kind e) o (inl b)) at s)
left_more o vs e t (opening k) s = rw (alone e 4 k (t.long ∙ rw k)) (l_open (rw k at s))
left_more [] vs e t (closing k) s = never (let b : false ≡ true = rw k at t.fit in cc)
left_more (b ∷ o) vs e t (closing k) s = rw (alone e 5 k (t.long ∙ rw k)) (l_close (rw k at s))
left_more o vs e t (variable a b) s =
    let n : leb (get_or e 1 0) 15 ≡ true = rw (le-leb 8 (kind e) a, le-leb (kind e) 10 b) at t.small in
    rw (numbered e (t.long ∙ rw (body_var (kind e) a b)))
    (l_variable (record { low = a; high = b; small = leb-true (get_or e 1 0) 15 n }) (rw (opens_kept (kind e) o (inr a)) at s))

pub left_is : {o : List ℕ} {vs ws l : List Element} → Side left o vs ws l → LeftSide (length o) l
unfolding ends_side
left_is side_end = l_end
left_is {o} {vs} (side_more {e} t n s) = left_more o vs e t (left_kind (kind e) t.place (or_false (eqb (kind e) 11) (eqb (kind e) 12) n).0) (left_is s)

pub good_program : (p : List ℕ) → bad_program p ≡ none → Program p
unfolding bad_program rest_of side_of
good_program p h = record {
  whole = rw (take-length p) (good_whole (elements p) outside [] 0 [] 0 h);
  bodies = rw (take-length p) (program_bodies p h);
}
