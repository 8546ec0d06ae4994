-- What fits, which is first, and the search that finds it (document 01, 'Matching and the step').
use Rattle.std.specs.Prelude.{◌≡◌, true, false, cond, ℕ, zero, suc, ◌<◌, T}
use Rattle.std.proofs.Math.Option.{Option, none, some}
use mathlib.Core.List.{List, [], ◌∷◌, ◌++◌, Memᴰ}
use Rattle.meaning.specs.Elements.{Element, same, is_kind, is_symbol}

-- THE MEANING

-- a run of n terms. "A term is a symbol or a bracketed expression"
pub data Terms : ℕ → List Element → Type 0 where
  stop : Terms 0 []
  symbol : {n : ℕ} {e : Element} {es : List Element} → T (is_symbol e) → Terms n es → Terms (suc n) (e ∷ es)
  bracket : {m n : ℕ} {xs es zs : List Element} → Terms m xs → Terms n es → zs ≡ xs ++ ((5 ∷ []) ∷ es) → Terms (suc n) ((4 ∷ []) ∷ zs)

-- what an element of a left side is: a variable of one of the three kinds, or no variable
pub data Role : Type 0 where
  s_var t_var e_var plain : Role

-- 08, 09, 0A: "s-, t-, e-variable"
unfoldable pub role : Element → Role
role e = cond (is_kind 8 e) s_var (cond (is_kind 9 e) t_var (cond (is_kind 10 e) e_var plain))

-- "An s-variable stands for one symbol, a t-variable for one term, an e-variable for any run of terms, also none"; any other element for itself
abbrev pub Stands : Role → Element → List Element → Type 0
Stands s_var p v = (e : Element) × T (is_symbol e) × (v ≡ e ∷ [])
Stands t_var p v = Terms 1 v
Stands e_var p v = (n : ℕ) × Terms n v
Stands plain p v = v ≡ p ∷ []

-- an assignment gives each variable one value, so "All occurrences of a variable stand for equal values"
abbrev pub Assignment : Type 0
Assignment = Element → List Element

-- "putting the values into the left side", and a "right side with values put in"
unfoldable pub put : Assignment → List Element → List Element
put a [] = []
put a (e ∷ es) = a e ++ put a es

-- "An assignment fits if putting the values into the left side gives exactly the argument"
pub record Fits (a : Assignment) (side arg : List Element) : Type 0 where
  pub each : (p : Element) → Memᴰ p side → Stands (role p) p (a p)
  pub exactly : put a side ≡ arg

-- by "the e-variables in the order of their first occurrence, left to right through brackets", b has as many terms as a up to one at which a has fewer, or to the end
pub data NoLater (a b : Assignment) : List Element → Type 0 where
  level : NoLater a b []
  fewer : {p : Element} {ps : List Element} {m n : ℕ} → role p ≡ e_var → Terms m (a p) → Terms n (b p) → m < n → NoLater a b (p ∷ ps)
  alike : {p : Element} {ps : List Element} → (role p ≡ e_var → (n : ℕ) × Terms n (a p) × Terms n (b p)) → NoLater a b ps → NoLater a b (p ∷ ps)

-- "the first of them has the fewest terms, then the second among those left, and so on"
pub record First (a : Assignment) (side arg : List Element) : Type 0 where
  pub fits : Fits a side arg
  pub first : (b : Assignment) → Fits b side arg → NoLater a b side

-- THE SEARCH, which computes it

-- a front of the argument, and what is left behind it
pub data Way : Type 0 where
  way : List Element → List Element → Way

-- e before a front
unfoldable pub push : Element → Way → Way
push e (way v r) = way (e ∷ v) r

-- e before each front
unfoldable pub push_all : Element → List Way → List Way
push_all e [] = []
push_all e (w ∷ ws) = push e w ∷ push_all e ws

-- an element inside an argument: a symbol, a ( or a ), or neither
pub data Token : Type 0 where
  symb opens closes other : Token

-- which of them e is
unfoldable pub token : Element → Token
token e = cond (is_symbol e) symb (cond (same e (4 ∷ [])) opens (cond (same e (5 ∷ [])) closes other))

-- the ways past e, d brackets being open; `rest` gives those behind it
unfoldable pub past : (ℕ → List Way) → Element → Token → ℕ → List Way
past rest e symb d = push_all e (rest d)
past rest e opens d = push_all e (rest (suc d))
past rest e closes zero = []
past rest e closes (suc d) = push_all e (rest d)
past rest e other d = []

-- the fronts that are "any run of terms, also none", fewest terms first; d brackets are open
unfoldable pub fronts : List Element → ℕ → List Way
fronts [] zero = way [] [] ∷ []
fronts [] (suc d) = []
fronts (e ∷ es) zero = way [] (e ∷ es) ∷ past (fronts es) e (token e) zero
fronts (e ∷ es) (suc d) = past (fronts es) e (token e) (suc d)

-- v at the front, or nothing: of "equal values"
unfoldable pub exact : List Element → List Element → List Way
exact [] ys = way [] ys ∷ []
exact (x ∷ xs) [] = []
exact (x ∷ xs) (y ∷ ys) = elim (same x y) [ true ↦ push_all x (exact xs ys) | false ↦ [] ]

-- "one symbol" at the front, or nothing
unfoldable pub symbols : List Element → List Way
symbols [] = []
symbols (e ∷ es) = elim (is_symbol e) [ true ↦ way (e ∷ []) es ∷ [] | false ↦ [] ]

-- the second way, alone: of the fronts, the one of "one term"
unfoldable pub second : List Way → List Way
second [] = []
second (w ∷ []) = []
second (w ∷ u ∷ ws) = u ∷ []

-- the ways of an element that has no value yet
unfoldable pub fresh : Role → Element → List Element → List Way
fresh s_var p xs = symbols xs
fresh t_var p xs = second (fronts xs 0)
fresh e_var p xs = fronts xs 0
fresh plain p xs = exact (p ∷ []) xs

-- the values of the variables met so far
abbrev pub Env : Type 0
Env = Element → Option (List Element)

-- none is met yet
unfoldable pub free : Env
free w = none

-- v has the value x
unfoldable pub bind : Element → List Element → Env → Env
bind v x env w = elim (same v w) [ true ↦ some x | false ↦ env w ]

-- a variable keeps its value; what is no variable has none
unfoldable pub keep : Role → Element → List Element → Env → Env
keep s_var p v env = bind p v env
keep t_var p v env = bind p v env
keep e_var p v env = bind p v env
keep plain p v env = env

-- a variable that has a value stands for it again: "All occurrences of a variable stand for equal values"
unfoldable pub known : Option (List Element) → Element → List Element → List Way
known none p xs = fresh (role p) p xs
known (some v) p xs = exact v xs

-- the first way on which the rest goes through
unfoldable pub first_of : (List Element → Env → Option Env) → Element → Env → List Way → Option Env
first_of k p env [] = none
first_of k p env (way v r ∷ ws) = elim (k r (keep (role p) p v env)) [ none ↦ first_of k p env ws | some x ↦ some x ]

-- each element of the left side in turn, "plain left to right through all brackets", and each of its ways in turn
unfoldable pub seek : List Element → List Element → Env → Option Env
seek [] [] env = some env
seek [] (x ∷ xs) env = none
seek (p ∷ ps) xs env = first_of (seek ps) p env (known (env p) p xs)

-- what an element stands for after a search
unfoldable pub given : Env → Assignment
given env e = elim (env e) [ none ↦ e ∷ [] | some x ↦ x ]
