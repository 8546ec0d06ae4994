-- The next element of a left side, and its slot.
use mathlib.Core.Path.{◌≡◌, refl, sym, ◌∙◌, ap}
use mathlib.Core.Bool.{false}
use mathlib.Core.List.{List, [], ◌∷◌}
use Prim.Native.Nat.{ℕ, suc, ◌+◌, ◌-◌, ◌≤◌, ◌<◌}
use native.Mathlib.Omega.{arith}
use lib.ListN.{length, get_or, take, drop}
use lib.Dec.{leb}
use borrow.Author.Tests.{lt-leb, leb-true, leb-false}
use Rattle.meaning.specs.Elements.{kind, body, elements, is_variable}
use Rattle.meaning.specs.Goodness.{span}
use Rattle.meaning.proofs.Truth.{never, is_true, is_false, see}
use Rattle.kinds.specs.Slots.{slot_of}
use Rattle.std.specs.Prelude.{Some, None}
use Rattle.std.specs.Prelude as P
use Rattle.elements.specs.Reading.{Splits, Whole1, ProperAt}
use Rattle.elements.proofs.Digits.{one_byte}
use Rattle.elements.proofs.Places.{symbol_kind, none_left as nothing_left, here as there, kind_here, cut_here, proper_splits}
use Rattle.settling.specs.Values.{Variable, LeftSide, l_symbol, l_open, l_close, l_variable, LeftAt, ItemAt, Placed, of_variable, of_fixed}
use Rattle.settling.proofs.Sides.{bare, symbol_whole, one_bytes, l_head, h_symbol, h_open, h_close, h_variable}
use Rattle.settling.proofs.Ends.{s_role, t_role, e_role, roles}

variable_whole : {k n : ℕ} → Variable k n → Whole1 (k ∷ n ∷ [])
unfolding span body
variable_whole {k} {n} v =
    elim (roles v) [
      | s_role e f ↦ rw e (record { known = refl; long = refl })
      | t_role e f ↦ rw e (record { known = refl; long = refl })
      | e_role e f ↦ rw e (record { known = refl; long = refl })
    ]

pub low_fixed : (e : List ℕ) → kind e < 8 → is_variable e ≡ false
unfolding is_variable
low_fixed e h = rw (lt-leb 8 (kind e) h)

-- THE LEFT SIDE'S NEXT ELEMENT

module _ {left : List ℕ} {at : ℕ} (l : LeftAt left at) where
  whole_at : (e : List ℕ) (es : List (List ℕ)) → elements (drop at left) ≡ e ∷ es → Whole1 e
  whole_at e es q =
      elim (l_head (rw q at l.left_side)) [
        | h_symbol t w s ↦ symbol_whole e t w
        | h_open p s ↦ rw p (bare 4 (unfold span in refl) (unfold body in refl))
        | h_close d p s ↦ rw p (bare 5 (unfold span in refl) (unfold body in refl))
        | h_variable {k} {n} v p s ↦ rw p (variable_whole v)
      ]

  pub left_proper : ProperAt left at
  left_proper = record { e = there left at l.inside; es = _; is = cut_here left at l.inside; whole = whole_at _ _ (cut_here left at l.inside) }

  pub left_kind : kind left_proper.e ≡ get_or left at 0
  unfolding left_proper
  left_kind = kind_here left at l.inside

  pub record NamedAt : Type 0 where
    pub v : Variable (get_or left at 0) (get_or left (at + 1) 0)
    pub long : at + 1 < length left
    pub is : there left at l.inside ≡ get_or left at 0 ∷ get_or left (at + 1) 0 ∷ []

  pub named_at : 8 ≤ get_or left at 0 → NamedAt
  unfolding there
  named_at h =
      let kh = kind_here left at l.inside in
      elim (l_head (rw (cut_here left at l.inside) at l.left_side)) [
        | h_symbol t w s ↦ never (let w = symbol_kind _ t in omega arith)
        | h_open q s ↦ never (let w : get_or left at 0 ≡ 4 = ap kind q in omega arith)
        | h_close d q s ↦ never (let w : get_or left at 0 ≡ 5 = ap kind q in omega arith)
        | h_variable {k} {n} v q s ↦
            let ek : get_or left at 0 ≡ k = ap kind q in
            let one : body (get_or left at 0) ≡ 1 = (let w = (variable_whole v).long in rw ek (omega arith)) in
            let long : at + 1 < length left = omega (arith, (proper_splits left_proper).fits) in
            let tail : take (body (get_or left at 0)) (drop (at + 1) left) ≡ n ∷ [] = cc in
            let en : get_or left (at + 1) 0 ≡ n = cc (one_byte left (at + 1) long, rw one at tail) in
            record { v = rw (ek, en) v; long = long; is = rw one (ap {B = List ℕ} (λ (l : List ℕ). get_or left at 0 ∷ l) (one_byte left (at + 1) long)) }
      ]

  -- the element there, by its kind
  pub item_fixed : {next : ℕ} → get_or left at 0 < 8 → next ≡ at + 1 + body (get_or left at 0) → ItemAt left at left_proper.e None next
  item_fixed h q = record { on = omega arith; split = rw q (proper_splits left_proper); slotted = of_fixed (low_fixed left_proper.e (rw left_kind h)) }

  pub item_named : {next slot : ℕ} → 8 ≤ get_or left at 0 → next ≡ at + 1 + body (get_or left at 0) → slot ≡ slot_of (get_or left at 0) (get_or left (at + 1) 0)
      → ItemAt left at left_proper.e (Some slot) next
  unfolding left_proper
  item_named h q z =
      let n = named_at h in
      record { on = omega arith; split = rw q (proper_splits left_proper); slotted = of_variable n.v n.is z }

  -- its bytes
  pub item_bytes : {next : ℕ} → next ≡ at + 1 + body (get_or left at 0) → take (next - at) (drop at left) ≡ left_proper.e
  item_bytes {next} q = let p : Splits left at (left_proper.e ∷ []) next = rw q (proper_splits left_proper) in one_bytes p

-- it is an element of the left side
pub item_placed : {left : List ℕ} {at : ℕ} {e : List ℕ} {slot : P.Option ℕ} {next : ℕ} → LeftAt left at → ItemAt left at e slot next → Placed e slot
item_placed l x = record { depth = l.depth; rest = _; left_side = rw x.split.front at l.left_side; slotted = x.slotted }

-- its kind
pub item_kind : {left : List ℕ} {at : ℕ} {e : List ℕ} {slot : P.Option ℕ} {next : ℕ} → LeftAt left at → ItemAt left at e slot next → kind e ≡ get_or left at 0
item_kind {e = e} l x = let q : (left_proper l).e ≡ e = cc ((left_proper l).is, x.split.front) in sym (ap kind q) ∙ left_kind l

-- an opening bracket, and the left side behind it
pub opening_next : {left : List ℕ} {here : ℕ} {e : List ℕ} {slot : P.Option ℕ} {next : ℕ} → LeftAt left here → (x : ItemAt left here e slot next) → get_or left here 0 ≡ 4
    → (e ≡ 4 ∷ []) × LeftAt left next
opening_next {left} {here} {e = el} {next = next} l x h =
    let e = item_kind l x in
    elim (l_head (rw x.split.front at l.left_side)) [
      | h_symbol t z s ↦ never (let y = symbol_kind _ t in omega arith)
      | h_open z s ↦ (z, record { depth = suc l.depth; inside = more_left s; left_side = s })
      | h_close d z s ↦ never (let y : kind el ≡ 5 = ap kind z in omega arith)
      | h_variable {k} {n} v z s ↦ never (let y : kind el ≡ k = ap kind z in let o = v.low in omega arith)
    ]
  where
    not_over : {d : ℕ} {es : List (List ℕ)} → LeftSide (suc d) es → es ≡ [] → ⊥
    not_over (l_symbol t z s) y = never (cc)
    not_over (l_open s) y = never (cc)
    not_over (l_close s) y = never (cc)
    not_over (l_variable v s) y = never (cc)

    more_left : LeftSide (suc l.depth) (elements (drop next left)) → next < length left
    more_left s =
        elim (see (leb (length left) next)) [
          | is_true z ↦ absurd (not_over s (nothing_left left next (leb-true _ _ z)))
          | is_false z ↦ leb-false _ _ z
        ]
