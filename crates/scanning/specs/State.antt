-- Where a run stands: a good field, spread over its buffer with a gap, and the call brackets on both sides of the gap.
use Rattle.std.specs.Prelude.{◌≡◌, Bool, true, false, ◌||◌, Option, Some, None, List, [], ◌∷◌, ◌++◌, ℕ, ◌+◌, ◌*◌, ◌≤◌, ◌<◌, length, get_or, take, drop}
use Rattle.std.proofs.Math.Option.{some}
use Rattle.meaning.specs.Elements.{Element, kind, cut, is_kind, size}
use Rattle.meaning.specs.Machine.{holds}
use Rattle.meaning.proofs.Cutting.{Whole}
use Rattle.meaning.proofs.Balance.{brackets}
use Rattle.meaning.proofs.Programs.{Solid}
use Rattle.kinds.specs.Stacks.{stack}
use Rattle.scanning.specs.declared.Spread.{Spread}

-- the elements of the first `used` bytes
unfoldable pub field_of : List ℕ → ℕ → List Element
field_of f used = cut 0 (take used f)

-- the elements before and behind the gap
unfoldable pub field_at : List ℕ → ℕ → ℕ → List Element
field_at f lo hi = cut 0 (take lo f ++ drop hi f)

-- a good field
pub record Good (f : List ℕ) (lo hi : ℕ) : Type 0 where
  pub gap : lo ≤ hi
  pub fits : hi ≤ length f
  pub whole : Whole (field_at f lo hi)
  pub solid : Solid (field_at f lo hi)
  pub balanced : brackets [] (field_at f lo hi) ≡ some []

-- elements without any >, and the offsets of the < among them, the last first
pub data Opens : List Element → List ℕ → Type 0 where
  none_open : {zs : List Element} → holds 6 zs ≡ false → holds 7 zs ≡ false → Opens zs []
  one_open : {xs zs : List Element} {at : ℕ} {st : List ℕ} (c : Element) (ys : List Element) → Opens xs st → kind c ≡ 6 → holds 6 ys ≡ false → holds 7 ys ≡ false
      → at ≡ size xs → zs ≡ xs ++ (c ∷ ys) → Opens zs (at ∷ st)

-- a < or a >
abbrev pub is_call : Element → Bool
is_call e = is_kind 6 e || is_kind 7 e

-- the places of the < and > among elements that begin at a place
unfoldable pub marks_of : ℕ → List Element → List ℕ
marks_of at [] = []
marks_of at (e ∷ es) = elim (is_call e) [ true ↦ at ∷ marks_of (at + length e) es | false ↦ marks_of (at + length e) es ]

-- the elements before the first < or >
unfoldable pub calm : List Element → List Element
calm [] = []
calm (e ∷ es) = elim (is_call e) [ true ↦ [] | false ↦ e ∷ calm es ]

-- what is noted: before the gap the open calls; behind it, up to `read`, the < and >
pub record Standing (f : List ℕ) (lo hi read depth top : ℕ) (calls : List ℕ) : Type 0 where
  pub front : List Element
  pub known : List Element
  pub unread : List Element
  pub parts : field_at f lo hi ≡ front ++ (known ++ unread)
  pub low : size front ≡ lo
  pub up : hi + size known ≡ read
  pub opened : Opens front (stack depth calls)
  pub deep : 3 * depth ≤ lo
  pub marked : drop top calls ≡ marks_of hi known
  pub below : depth ≤ top
  pub inside : top ≤ length calls

-- the first < or > behind the gap stands at `at`, and what is noted is behind it
pub record Reached (f : List ℕ) (lo hi at read depth top : ℕ) (calls : List ℕ) : Type 0 where
  pub front : List Element
  pub plain : List Element
  pub g : Element
  pub known : List Element
  pub unread : List Element
  pub parts : field_at f lo hi ≡ front ++ (plain ++ (g ∷ (known ++ unread)))
  pub low : size front ≡ lo
  pub place : hi + size plain ≡ at
  pub up : at + length g + size known ≡ read
  pub no6 : holds 6 plain ≡ false
  pub no7 : holds 7 plain ≡ false
  pub call : is_call g ≡ true
  pub sort : kind g ≡ get_or f at 0
  pub fits : at + length g ≤ length f
  pub opened : Opens front (stack depth calls)
  pub deep : 3 * depth ≤ lo
  pub marked : drop top calls ≡ marks_of (at + length g) known
  pub below : depth < top
  pub inside : top ≤ length calls

-- the next < or >, if there is one
pub record Next (f : List ℕ) (lo hi : ℕ) (calls : List ℕ) (at : Option ℕ) (read depth top : ℕ) : Type 0 where
  pub yes : (k : ℕ) → at ≡ Some k → Reached f lo hi k read depth top calls
  pub no : at ≡ None → holds 6 (field_at f lo hi) ≡ false

-- the same field; the next > is reached, or there is none
pub record Advanced (f₀ : List ℕ) (lo₀ hi₀ : ℕ) (f : List ℕ) (lo hi : ℕ) (calls : List ℕ) (at : Option ℕ) (read depth top : ℕ) : Type 0 where
  pub good : Good f lo hi
  pub same : field_at f lo hi ≡ field_at f₀ lo₀ hi₀
  pub next : Next f lo hi calls at read depth top
  pub shuts : (k : ℕ) → at ≡ Some k → get_or f k 0 ≡ 7

-- the notes have room for two brackets a call, which is four bytes long at least
abbrev pub Roomy : List ℕ → List ℕ → Type 0
Roomy f calls = (length f ≤ 65536) × (length f ≤ 2 * length calls)

-- the same by a spread's parts
abbrev pub Stands : List ℕ → Spread → List ℕ → Type 0
Stands f s calls = Standing f s.lo s.hi s.read s.depth s.top calls

abbrev pub Reaches : List ℕ → Spread → ℕ → List ℕ → Type 0
Reaches f s at calls = Reached f s.lo s.hi at s.read s.depth s.top calls
