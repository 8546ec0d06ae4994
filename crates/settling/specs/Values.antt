-- The elements of a left side, the values of variables as the code's table holds them, and where the value of one element ends.
use Rattle.std.specs.Prelude.{◌≡◌, Bool, true, false, ◌&&◌, List, [], ◌∷◌, ◌++◌, ℕ, suc, ◌+◌, ◌-◌, ◌≤◌, ◌<◌, length, get_or, take, drop, set, T, leb, Some, None, IfSome}
use Rattle.std.specs.Prelude as P
use Rattle.std.proofs.Math.Option.{Option, none, some}
use Rattle.meaning.specs.Elements.{kind, body, elements, is_symbol, is_variable}
use Rattle.meaning.specs.Matching.{role, Stands, Way, way, Env, known}
use Rattle.kinds.specs.Slots.{slot_of, within, joined, value_of}
use Rattle.elements.specs.Reading.{Splits, Proper, Balanced, Level}

abbrev pub pick : Bool → List (List ℕ) → Option (List (List ℕ))
pick true x = some x
pick false x = none

-- the values that the table holds of the settled slots
unfoldable pub env_of : List ℕ → List ℕ → ℕ → Env
env_of arg b m [] = none
env_of arg b m (k ∷ []) = none
env_of arg b m (k ∷ n ∷ []) = pick (leb 8 k && leb k 10 && leb n 15 && within m (slot_of k n)) (elements (value_of arg b (slot_of k n)))
env_of arg b m (k ∷ n ∷ x ∷ w) = none

-- a variable by its kind and number
pub record Variable (k n : ℕ) : Type 0 where
  pub low : 8 ≤ k
  pub high : k ≤ 10
  pub small : n ≤ 15

-- what is left of a left side, d brackets being open
pub data LeftSide : ℕ → List (List ℕ) → Type 0 where
  l_end : LeftSide 0 []
  l_symbol : {d : ℕ} {e : List ℕ} {es : List (List ℕ)} → T (is_symbol e) → length e ≡ suc (body (kind e)) → LeftSide d es → LeftSide d (e ∷ es)
  l_open : {d : ℕ} {es : List (List ℕ)} → LeftSide (suc d) es → LeftSide d ((4 ∷ []) ∷ es)
  l_close : {d : ℕ} {es : List (List ℕ)} → LeftSide d es → LeftSide (suc d) ((5 ∷ []) ∷ es)
  l_variable : {d k n : ℕ} {es : List (List ℕ)} → Variable k n → LeftSide d es → LeftSide d ((k ∷ n ∷ []) ∷ es)

-- the value in a slot lies in the argument, and is one that the variable may stand for
pub record Held (arg b : List ℕ) (k n : ℕ) : Type 0 where
  pub up : get_or b (slot_of k n) 0 ≤ get_or b (slot_of k n + 48) 0
  pub fits : get_or b (slot_of k n + 48) 0 ≤ length arg
  pub stands : Stands (role (k ∷ n ∷ [])) (k ∷ n ∷ []) (elements (value_of arg b (slot_of k n)))
  pub proper : Proper (elements (value_of arg b (slot_of k n)))

pub record Table (arg b : List ℕ) (m : ℕ) : Type 0 where
  pub long : length b ≡ 96
  pub held : (k n : ℕ) → Variable k n → within m (slot_of k n) ≡ true → Held arg b k n

-- where matching stands
pub record Ready (left : List ℕ) (i : ℕ) (arg : List ℕ) (at : ℕ) (b : List ℕ) (m : ℕ) : Type 0 where
  pub depth : ℕ
  pub left_fits : i ≤ length left
  pub arg_fits : at ≤ length arg
  pub left_side : LeftSide depth (elements (drop i left))
  pub argument : Balanced depth (elements (drop at arg))
  pub table : Table arg b m

-- the settled slots are as they were
pub record Kept (m : ℕ) (b b' : List ℕ) : Type 0 where
  pub long : length b' ≡ length b
  pub from : (v : ℕ) → v < 48 → within m v ≡ true → get_or b' v 0 ≡ get_or b v 0
  pub to : (v : ℕ) → v < 48 → within m v ≡ true → get_or b' (v + 48) 0 ≡ get_or b (v + 48) 0

pub data ValueEnd (v : List (List ℕ)) (arg : List ℕ) (at : ℕ) : P.Option ℕ → Type 0 where
  stands_at : {t : ℕ} → Splits arg at v t → ValueEnd v arg at (Some t)
  differs : ((r : List (List ℕ)) → elements (drop at arg) ≡ v ++ r → ⊥) → ValueEnd v arg at None

-- an e-variable without a value
pub record FreshE (slot m : ℕ) : Type 0 where
  pub low : 32 ≤ slot
  pub high : slot < 48
  pub free : within m slot ≡ false

-- the slot of an element, if it is a variable
pub data Slotted (e : List ℕ) : P.Option ℕ → Type 0 where
  of_variable : {k n slot : ℕ} → Variable k n → e ≡ k ∷ n ∷ [] → slot ≡ slot_of k n → Slotted e (Some slot)
  of_fixed : is_variable e ≡ false → Slotted e None

-- an element of a left side stands there
pub record LeftAt (left : List ℕ) (at : ℕ) : Type 0 where
  pub depth : ℕ
  pub inside : at < length left
  pub left_side : LeftSide depth (elements (drop at left))

-- the element there, its slot, and the place behind it
pub record ItemAt (left : List ℕ) (at : ℕ) (e : List ℕ) (slot : P.Option ℕ) (next : ℕ) : Type 0 where
  pub on : at < next
  pub split : Splits left at (e ∷ []) next
  pub slotted : Slotted e slot

-- an element of a left side, and its slot
pub record Placed (e : List ℕ) (slot : P.Option ℕ) : Type 0 where
  pub depth : ℕ
  pub rest : List (List ℕ)
  pub left_side : LeftSide depth (e ∷ rest)
  pub slotted : Slotted e slot

-- what an element stands for: itself, or the value of its variable
pub data Meant (e : List ℕ) (slot : P.Option ℕ) (arg b : List ℕ) (m : ℕ) (v : List ℕ) : Type 0 where
  itself : slot ≡ None → v ≡ e → Meant e slot arg b m v
  valued : {s : ℕ} → slot ≡ Some s → within m s ≡ true → v ≡ value_of arg b s → Meant e slot arg b m v

-- or that is open, as its variable has no value
pub record Open (slot : P.Option ℕ) (m : ℕ) : Type 0 where
  pub s : ℕ
  pub is : slot ≡ Some s
  pub free : within m s ≡ false

-- an element that is no e-variable without a value, and the place in the argument
pub record Single (e : List ℕ) (slot : P.Option ℕ) (arg : List ℕ) (at : ℕ) (b : List ℕ) (m : ℕ) : Type 0 where
  pub placed : Placed e slot
  pub level : Level arg at
  pub table : Table arg b m
  pub only : (s : ℕ) → slot ≡ Some s → FreshE s m → ⊥

-- one way at the front of the argument from `at` on, or none
pub data Ways (ws : List Way) (arg : List ℕ) (at : ℕ) : P.Option ℕ → Type 0 where
  one_way : {v : List (List ℕ)} {t : ℕ} → ws ≡ way v (elements (drop t arg)) ∷ [] → Splits arg at v t → Ways ws arg at (Some t)
  no_ways : ws ≡ [] → Ways ws arg at None

pub record OnlyEnd (e : List ℕ) (arg : List ℕ) (at : ℕ) (b : List ℕ) (m : ℕ) (r : P.Option ℕ) : Type 0 where
  pub ways : Ways (known (env_of arg b m e) e (elements (drop at arg))) arg at r

-- the table with a value more
unfoldable pub noting : List ℕ → ℕ → ℕ → ℕ → List ℕ
noting b slot from to = set (set b slot from) (slot + 48) to

-- what noting a value does
pub record Settling (b : List ℕ) (slot : P.Option ℕ) : Type 0 where
  pub long : length b ≡ 96
  pub high : IfSome slot (λ s. s < 48)

pub data Settled (b : List ℕ) (m : ℕ) (slot : P.Option ℕ) (from to : ℕ) (b' : List ℕ) (m' : ℕ) : Type 0 where
  as_before : ((s : ℕ) → slot ≡ Some s → within m s ≡ true) → b' ≡ b → m' ≡ m → Settled b m slot from to b' m'
  noted : {s : ℕ} → slot ≡ Some s → s < 48 → within m s ≡ false → b' ≡ noting b s from to → m' ≡ joined m s → Settled b m slot from to b' m'
