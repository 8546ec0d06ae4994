-- What stands at a place of some bytes.
use Rattle.std.specs.Prelude.{◌≡◌, true, false, cond, List, [], ◌∷◌, ◌++◌, ℕ, suc, ◌+◌, ◌-◌, ◌^◌, ◌≤◌, ◌<◌, length, get_or, take, drop, T, eqb, Option, Some, None, Result, Ok, Err}
use Rattle.meaning.specs.Elements.{kind, body, elements, is_symbol}
use Rattle.meaning.specs.Goodness.{span}
use Rattle.meaning.specs.Matching.{Terms}
use Rattle.elements.specs.declared.Element.{Element}
use Rattle.elements.specs.declared.Cursor.{Cursor}
use Rattle.elements.specs.declared.Unread.{Unread}
use Rattle.elements.specs.declared.Unread.TheVariants.{Unknown, Cut, End}
use Rattle.elements.specs.Bytes.{kind_of, number_of, digits, bytes_of}

-- from `at` to `next` stand the elements v
pub record Splits (s : List ℕ) (at : ℕ) (v : List (List ℕ)) (next : ℕ) : Type 0 where
  pub on : at ≤ next
  pub fits : next ≤ length s
  pub front : elements (drop at s) ≡ v ++ elements (drop next s)

-- an element of a known kind with its whole body
pub record Whole1 (e : List ℕ) : Type 0 where
  pub known : span 1 15 (kind e) ≡ true
  pub long : length e ≡ suc (body (kind e))

-- what a cursor at a place reads
pub data ReadAt (s : List ℕ) (at : ℕ) : Result (Element × Cursor) Unread → Type 0 where
  over : length s ≤ at → ReadAt s at (Err End)
  unknown : at < length s → span 1 15 (get_or s at 0) ≡ false → ReadAt s at (Err Unknown)
  short : at < length s → span 1 15 (get_or s at 0) ≡ true → length s - at ≤ body (get_or s at 0) → ReadAt s at (Err Cut)
  got : {x : Element} {c : Cursor} → number_of x < 256 ^ body (kind_of x) → at < c.at → Splits s at (bytes_of x ∷ []) c.at → ReadAt s at (Ok (x, c))

-- an element of kind k read: the number in its body, and the place behind it
pub record NumberedAt (s : List ℕ) (at k n next : ℕ) : Type 0 where
  pub small : n < 256 ^ body k
  pub bytes : digits (body k) n ≡ take (body k) (drop (at + 1) s)
  pub next_is : next ≡ at + 1 + body k

-- an element passed over: its kind, and the place behind it
pub record PassedOver (s : List ℕ) (at k next : ℕ) : Type 0 where
  pub kind_is : k ≡ get_or s at 0
  pub next_is : next ≡ at + 1 + body (get_or s at 0)

-- elements of known kinds with their whole bodies
pub data Proper : List (List ℕ) → Type 0 where
  none : Proper []
  more : {e : List ℕ} {es : List (List ℕ)} → Whole1 e → Proper es → Proper (e ∷ es)

-- what closes d open brackets and is otherwise a run of terms
pub data Balanced : ℕ → List (List ℕ) → Type 0 where
  ended : Balanced 0 []
  symbols : {d : ℕ} {e : List ℕ} {es : List (List ℕ)} → T (is_symbol e) → length e ≡ suc (body (kind e)) → Balanced d es → Balanced d (e ∷ es)
  opening : {d : ℕ} {es : List (List ℕ)} → Balanced (suc d) es → Balanced d ((4 ∷ []) ∷ es)
  closing : {d : ℕ} {es : List (List ℕ)} → Balanced d es → Balanced (suc d) ((5 ∷ []) ∷ es)

-- an argument from a place on, at which d brackets are open
pub record Level (s : List ℕ) (at : ℕ) : Type 0 where
  pub depth : ℕ
  pub fits : at ≤ length s
  pub balanced : Balanced depth (elements (drop at s))

pub data SymbolEnd (s : List ℕ) (at : ℕ) : Option ℕ → Type 0 where
  symbol_at : {e : List ℕ} {t : ℕ} → T (is_symbol e) → Splits s at (e ∷ []) t → SymbolEnd s at (Some t)
  no_symbol : ((e : List ℕ) (es : List (List ℕ)) → T (is_symbol e) → elements (drop at s) ≡ e ∷ es → ⊥) → SymbolEnd s at None

pub data TermEnd (s : List ℕ) (at : ℕ) : Option ℕ → Type 0 where
  term_at : {v : List (List ℕ)} {t : ℕ} → Terms 1 v → Splits s at v t → TermEnd s at (Some t)
  no_term : ((v es : List (List ℕ)) → Terms 1 v → elements (drop at s) ≡ v ++ es → ⊥) → TermEnd s at None

-- j brackets are open, then an element of kind k comes
unfoldable pub depth_after : ℕ → ℕ → ℕ
depth_after k j = cond (eqb k 4) (j + 1) (cond (eqb k 5) (j - 1) j)

-- whole characters from `at` on that end at `to` at the latest, none with the code `stop`
pub data Characters (s : List ℕ) (stop to at : ℕ) : ℕ → Type 0 where
  no_more : Characters s stop to at at
  one_more : {i : ℕ} → Characters s stop to at i → i + 1 < to → get_or s i 0 ≡ 1 → (get_or s (i + 1) 0 ≡ stop → ⊥) → Characters s stop to at (i + 2)

-- a place behind an opening bracket, and the one behind its closing bracket
pub record Shutting (s : List ℕ) (at : ℕ) : Type 0 where
  pub depth : ℕ
  pub behind : 1 ≤ at
  pub fits : at ≤ length s
  pub balanced : Balanced (suc depth) (elements (drop at s))

pub record Shut (s : List ℕ) (at t : ℕ) : Type 0 where
  pub m : ℕ
  pub xs : List (List ℕ)
  pub inside : Terms m xs
  pub split : Splits s at (xs ++ ((5 ∷ []) ∷ [])) t

-- an element of a known kind stands there, whole
pub record ProperAt (s : List ℕ) (at : ℕ) : Type 0 where
  pub e : List ℕ
  pub es : List (List ℕ)
  pub is : elements (drop at s) ≡ e ∷ es
  pub whole : Whole1 e

-- the element at a place, if both have it there
pub data Shared (a b : List ℕ) (at : ℕ) : Option ℕ → Type 0 where
  both : {e : List ℕ} {t : ℕ} → at < t → Splits a at (e ∷ []) t → Splits b at (e ∷ []) t → Shared a b at (Some t)
  differ : (elements (drop at a) ≡ elements (drop at b) → ⊥) → Shared a b at None

-- two values of one length are the same up to `at`, and whole from there on
pub record Comparing (a b : List ℕ) (at : ℕ) : Type 0 where
  pub fits : at ≤ length a
  pub long : length a ≡ length b
  pub proper : Proper (elements (drop at a))
  pub same : take at a ≡ take at b
