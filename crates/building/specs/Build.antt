-- A right side with the values put in, in bytes.
use Rattle.std.specs.Prelude.{◌≡◌, true, false, cond, Option, Some, None, List, [], ◌∷◌, ◌++◌, ℕ, suc, ◌+◌, ◌-◌, ◌≤◌, ◌<◌, length, get_or, take, drop}
use Rattle.meaning.specs.Elements.{Element, kind, cut, is_variable, size}
use Rattle.meaning.specs.Machine.{holds}
use Rattle.meaning.proofs.Cutting.{Whole}
use Rattle.kinds.specs.Slots.{slot_of, value_of}
use Rattle.scanning.specs.State.{is_call}
use Rattle.building.specs.declared.Extent.{Extent}
use Rattle.building.specs.declared.Side.{Side}

-- the elements of the bytes from a up to e
unfoldable pub side_of : List ℕ → ℕ → ℕ → List Element
side_of p a e = cut 0 (drop a (take e p))

-- the same of a side
abbrev pub right_of : List ℕ → Side → List Element
right_of p s = side_of p s.from s.to

-- what an element gives
unfoldable pub piece : List ℕ → List ℕ → Element → List ℕ
piece f b e = cond (is_variable e) (value_of f b (slot_of (kind e) (get_or e 1 0))) e

unfoldable pub pour : List ℕ → List ℕ → List Element → List ℕ
pour f b [] = []
pour f b (e ∷ es) = piece f b e ++ pour f b es

-- a variable's value is there
pub record Held (f b : List ℕ) (e : Element) : Type 0 where
  pub low : get_or e 1 0 < 16
  pub up : get_or b (slot_of (kind e) (get_or e 1 0)) 0 ≤ get_or b (slot_of (kind e) (get_or e 1 0) + 48) 0
  pub fits : get_or b (slot_of (kind e) (get_or e 1 0) + 48) 0 ≤ length f

pub data Ready (f b : List ℕ) : List Element → Type 0 where
  ready_none : Ready f b []
  ready_more : {e : Element} {es : List Element} → (is_variable e ≡ true → Held f b e) → Ready f b es → Ready f b (e ∷ es)

-- what is known of the element at a place
pub record Known (p : List ℕ) (at len : ℕ) (f b : List ℕ) : Type 0 where
  pub within : at + len ≤ length p
  pub some : 0 < len
  pub var : is_variable (take len (drop at p)) ≡ true → (len ≡ 2) × Held f b (take len (drop at p))

-- the length of what an element gives, and a side
unfoldable pub span_of : List ℕ → Element → ℕ
span_of b e = cond (is_variable e) (get_or b (slot_of (kind e) (get_or e 1 0) + 48) 0 - get_or b (slot_of (kind e) (get_or e 1 0)) 0) (length e)

unfoldable pub spans : List ℕ → List Element → ℕ
spans b [] = 0
spans b (e ∷ es) = span_of b e + spans b es

-- the < and > of a side: how many, and where they come to stand if what it gives begins at a place
unfoldable pub calls_of : List Element → ℕ
calls_of [] = 0
calls_of (e ∷ es) = elim (is_call e) [ true ↦ suc (calls_of es) | false ↦ calls_of es ]

unfoldable pub placed : ℕ → List ℕ → List Element → List ℕ
placed at b [] = []
placed at b (e ∷ es) = elim (is_call e) [ true ↦ at ∷ placed (at + span_of b e) b es | false ↦ placed (at + span_of b e) b es ]

-- a value without any call
pub record Calm (f b : List ℕ) (v : Element) (xs : List Element) : Type 0 where
  pub held : Held f b v
  pub no6 : holds 6 xs ≡ false
  pub no7 : holds 7 xs ≡ false
  pub long : size xs ≡ span_of b v

-- the side p[from..to], with values that are parts of some argument
pub record Given (p : List ℕ) (from to : ℕ) (b : List ℕ) : Type 0 where
  pub upto : from ≤ to
  pub fits : to ≤ length p
  pub arg : List ℕ
  pub ready : Ready arg b (side_of p from to)

-- the element at a place, with such a value
pub record Spanned (p : List ℕ) (at len : ℕ) (b : List ℕ) : Type 0 where
  pub arg : List ℕ
  pub known : Known p at len arg b

-- a variable of the side stands at `pivot`, or this is the side's end
pub data Pivot (p : List ℕ) (from to : ℕ) : ℕ → Type 0 where
  at_end : Pivot p from to to
  at_variable : {pivot : ℕ} (a : List Element) (v : Element) (b : List Element) → side_of p from to ≡ a ++ (v ∷ b) → pivot ≡ from + size a → is_variable v ≡ true → Pivot p from to pivot

-- a side measured: all of it, or it would pass the limit
pub record Measured (p : List ℕ) (from to : ℕ) (b : List ℕ) (limit : ℕ) (r : Option Extent) : Type 0 where
  pub yes : (x : Extent) → r ≡ Some x → (x.size ≡ spans b (side_of p from to)) × (x.size ≤ limit) × (x.calls ≡ calls_of (side_of p from to)) × Pivot p from to x.pivot
  pub no : r ≡ None → limit < spans b (side_of p from to)

-- the same of some side that ends there
pub record Pivoted (p : List ℕ) (to : ℕ) (b : List ℕ) (pivot : ℕ) : Type 0 where
  pub from : ℕ
  pub given : Given p from to b
  pub whole : Whole (side_of p from to)
  pub pivot_is : Pivot p from to pivot

-- a side in three: before the pivot, the value f[v..w] at the pivot, and from `next` on
pub record Parted (p : List ℕ) (from pivot to : ℕ) (f b : List ℕ) (v w next : ℕ) : Type 0 where
  pub upto : (from ≤ pivot) × (pivot ≤ length p)
  pub before : Whole (side_of p from pivot) × Ready f b (side_of p from pivot)
  pub upto_next : next ≤ to
  pub after : Whole (side_of p next to) × Ready f b (side_of p next to)
  pub value : (v ≤ w) × (w ≤ length f)
  pub is : pour f b (side_of p from to) ≡ pour f b (side_of p from pivot) ++ (take (w - v) (drop v f) ++ pour f b (side_of p next to))
