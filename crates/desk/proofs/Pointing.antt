-- The part of a slice from a place on.
use mathlib.Core.Path.{◌≡◌, sym, ◌∙◌}
use mathlib.Core.Bool.{true}
use mathlib.Core.List.{List, []}
use mathlib.Core.Logic.{◌⊎◌, inl, inr}
use denote.Bor.{Bor}
use Rattle.std.specs.Prelude.{Option, Some, None, MatchOption, slice_range}
use Rattle.std.specs.Option.{unwrap_or}
use Prim.Native.Nat.{ℕ, ◌+◌, ◌-◌, ◌≤◌, ◌<◌}
use native.Mathlib.Omega.{arith}
use lib.ListN.{length, take, drop, length-drop}
use lib.Seq.{drop-nil, take_all, length-take-le}
use lib.Dec.{leb}
use borrow.Author.Tests.{le-leb, lt-leb}
use Rattle.meaning.specs.Pointer.{part_from, used_field, pointer}
use Rattle.meaning.proofs.Truth.{is_true, is_false, see}
use Rattle.building.proofs.Sides.{drop-take}

pub past-part : (place : ℕ) (part : List ℕ) → length part < place → [] ≡ part_from place part
unfolding part_from
past-part place part h = rw (lt-leb place (length part) h)

pub rest_of_part : (place : ℕ) (part : List ℕ) → place ≤ length part → take (length part - place) (drop place part) ≡ part_from place part
unfolding part_from
rest_of_part place part h = rw (le-leb place (length part) h) (take_all (length part - place) (drop place part) (omega (arith, length-drop place part)))

module _ (used place : ℕ) (f : List ℕ) where
  pub used_past_field : length f < used → [] ≡ part_from place (used_field used f)
  unfolding part_from used_field
  used_past_field h =
      rw (lt-leb used (length f) h)
      (elim (see (leb place 0)) [ is_true z ↦ rw z (sym (drop-nil place)) | is_false z ↦ rw z ])

  pub place_past_used : used ≤ length f → used < place → [] ≡ part_from place (used_field used f)
  unfolding used_field
  place_past_used h k = rw (le-leb used (length f) h) (past-part place (take used f) (omega (arith, length-take-le used f h)))

  pub inside_used : used ≤ length f → place ≤ used → take (used - place) (drop place f) ≡ part_from place (used_field used f)
  unfolding used_field part_from
  inside_used h k =
      let q : place + (used - place) ≡ used = omega arith in
      let t : leb place (length (take used f)) ≡ true = le-leb place (length (take used f)) (omega (arith, length-take-le used f h)) in
      rw (le-leb used (length f) h) (rw t (sym (drop-take place (used - place) f) ∙ rw q))

-- what the rest of a part is, or an empty one where it is not there
pub rest_found : (place : ℕ) (p : List ℕ) (o : Option (Bor (List ℕ))) (d : Bor (List ℕ)) → d.now ≡ []
    → MatchOption o ((length p < place) ⊎ (length p < length p)) (λ x. (place ≤ length p) × (length p ≤ length p) × (x.now ≡ slice_range p place (length p)) × (length x.now + place ≡ length p))
    → (unwrap_or o d).now ≡ part_from place p
rest_found place p (Some x) d e h = h.2 ∙ rest_of_part place p h.0
rest_found place p None d e (inl k) = e ∙ past-part place p k
rest_found place p None d e (inr k) = absurd (omega arith)

-- what the pointer promises leaves no second part
pub only_part : (c used place : ℕ) (p f : List ℕ) {a b : List ℕ} → a ≡ pointer c used place p f → b ≡ pointer c used place p f → a ≡ b
only_part c used place p f h k = h ∙ sym k
