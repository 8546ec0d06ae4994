-- The bytes on both sides of the gap, and what moves over it.
use mathlib.Core.Path.{◌≡◌, refl, sym, ◌∙◌, ap, ap₂}
use mathlib.Core.List.{List, ◌∷◌, ◌++◌, append_assoc, append-nil}
use Prim.Native.Nat.{ℕ, ◌+◌, ◌-◌, ◌≤◌}
use native.Mathlib.Omega.{arith}
use lib.ListN.{length, get_or, take, drop, length-drop, take-append-drop, drop_of_length-le}
use lib.Seq.{paste, take-paste, drop-paste, drop-drop, take-add, take-take, take-append-le, drop_at, get_or-drop, get_or_at, length-take-le}
use Rattle.meaning.specs.Elements.{Element, kind, cut, join, size}
use Rattle.meaning.proofs.Cutting.{join-cut, join-append}
use Rattle.scanning.specs.State.{field_of, field_at}
use Rattle.scanning.proofs.Marks.{same-front, same_back}

module _ (f : List ℕ) (lo hi : ℕ) (front back : List Element) (gap : lo ≤ hi) (fits : hi ≤ length f) (parts : field_at f lo hi ≡ front ++ back) (low : size front ≡ lo) where
  all_bytes : join front ++ join back ≡ take lo f ++ drop hi f
  unfolding field_at
  all_bytes = sym (join-append front back) ∙ ap join (sym parts) ∙ join-cut (take lo f ++ drop hi f)

  same_long : length (join front) ≡ length (take lo f)
  unfolding size
  same_long = low ∙ sym (length-take-le lo f (omega arith))

  pub front_bytes : join front ≡ take lo f
  front_bytes = same-front (join front) (join back) (take lo f) (drop hi f) all_bytes same_long

  pub back_bytes : join back ≡ drop hi f
  back_bytes = same_back (join front) (join back) (take lo f) (drop hi f) all_bytes same_long

  pub back_long : hi + size back ≡ length f
  unfolding size
  back_long = omega (arith, ap length back_bytes, length-drop hi f)

-- the kind of an element behind the gap
pub kind_at : (f : List ℕ) (hi at : ℕ) (plain : List Element) (g : Element) (more : List Element) {k : ℕ} {b : List ℕ} → join (plain ++ (g ∷ more)) ≡ drop hi f → hi + size plain ≡ at → g ≡ k ∷ b
    → kind g ≡ get_or f at 0
unfolding join size
kind_at f hi at plain g more {k} {b} e q i =
    let j : drop hi f ≡ join plain ++ (k ∷ (b ++ join more)) = sym e ∙ join-append plain (g ∷ more) ∙ ap {B = List ℕ} (λ (x : Element). join plain ++ (x ++ join more)) i in
    ap kind i ∙ sym (get_or_at (join plain) k (b ++ join more) 0 (length (join plain)) refl) ∙ ap (λ (l : List ℕ). get_or l (length (join plain)) 0) (sym j)
    ∙ get_or-drop hi f (length (join plain)) 0 ∙ ap (λ (i : ℕ). get_or f i 0) q

-- n bytes come from behind the gap before it
module _ (f f' : List ℕ) (lo hi n : ℕ) (gap : lo ≤ hi) (fits : hi + n ≤ length f) (e : f' ≡ paste f lo (drop hi f) n) where
  pub down_front : take (lo + n) f' ≡ take lo f ++ take n (drop hi f)
  down_front = ap (take (lo + n)) e ∙ take-paste f lo (drop hi f) n (omega arith) (omega (arith, length-drop hi f))

  down_back : drop (hi + n) f' ≡ drop (hi + n) f
  down_back =
      let q : hi + n ≡ (lo + n) + (hi - lo) = omega arith in
      let d : drop (lo + n) f' ≡ drop (lo + n) f = ap (drop (lo + n)) e ∙ drop-paste f lo (drop hi f) n (omega arith) (omega (arith, length-drop hi f)) in
      rw q (sym (drop-drop (hi - lo) (lo + n) f') ∙ ap (drop (hi - lo)) d ∙ drop-drop (hi - lo) (lo + n) f)

  pub slid_down : field_at f' (lo + n) (hi + n) ≡ field_at f lo hi
  unfolding field_at
  slid_down =
      let q : take n (drop hi f) ++ drop (hi + n) f ≡ drop hi f = ap {B = List ℕ} (λ l. take n (drop hi f) ++ l) (sym (drop-drop n hi f)) ∙ take-append-drop n (drop hi f) in
      ap (cut 0) (ap₂ {C = List ℕ} (λ a b. a ++ b) down_front down_back ∙ append_assoc (take lo f) (take n (drop hi f)) (drop (hi + n) f) ∙ ap {B = List ℕ} (λ l. take lo f ++ l) q)

-- and back
module _ (f f' : List ℕ) (from hi n : ℕ) (gap : from + n ≤ hi) (fits : hi ≤ length f) (e : f' ≡ paste f (hi - n) (drop from f) n) where
  up_front : take from f' ≡ take from f
  up_front =
      rw (e, append_assoc)
      (take-append-le from (take (hi - n) f) _ (omega (arith, length-take-le (hi - n) f (omega arith))) ∙ take-take from (hi - n) f (omega arith))

  pub up_back : drop (hi - n) f' ≡ take n (drop from f) ++ drop hi f
  up_back =
      let q : hi - n + n ≡ hi = omega arith in
      rw (e, append_assoc, q) (drop_at (take (hi - n) f) _ (hi - n) (length-take-le (hi - n) f (omega arith)))

  pub slid_up : field_at f' from (hi - n) ≡ field_at f (from + n) hi
  unfolding field_at
  slid_up =
      ap (cut 0) (ap₂ {C = List ℕ} (λ a b. a ++ b) up_front up_back ∙ sym (append_assoc (take from f) (take n (drop from f)) (drop hi f))
      ∙ ap (λ (l : List ℕ). l ++ drop hi f) (sym (take-add from n f)))

-- the field as it comes, brought behind the gap
pub brought_up : (f f' : List ℕ) (used : ℕ) → used ≤ length f → f' ≡ paste f (length f - used) (drop 0 f) used → field_at f' 0 (length f - used) ≡ field_of f used
unfolding field_at field_of
brought_up f f' used h e =
    ap (cut 0) (up_back f f' 0 (length f) used (omega arith) (omega arith) e ∙ ap {B = List ℕ} (λ l. take used f ++ l) (drop_of_length-le f {i = length f} (omega arith)) ∙ append-nil (take used f))
