-- Elements of left sides and arguments: whole ones, parts of bytes, the head of a left side.
use mathlib.Core.Path.{◌≡◌, refl, sym, ◌∙◌, ap}
use mathlib.Core.Bool.{true}
use mathlib.Core.List.{List, [], ◌∷◌, ◌++◌, append-nil}
use Prim.Native.Nat.{ℕ, suc, ◌-◌}
use native.Mathlib.Omega.{arith}
use lib.ListN.{length, take, drop}
use lib.Seq.{take_at}
use lib.Dec.{T}
use borrow.Author.Tests.{le-leb}
use Rattle.meaning.specs.Elements.{kind, body, cut, elements, join, is_symbol}
use Rattle.meaning.specs.Goodness.{span}
use Rattle.meaning.proofs.Truth.{never}
use Rattle.meaning.proofs.Cutting.{Whole, w_none, w_more, cut-join}
use Rattle.elements.specs.Reading.{Splits, Whole1, Proper, none, more}
use Rattle.elements.proofs.Places.{symbol_kind, split_bytes, split_size}
use Rattle.settling.specs.Values.{Variable, LeftSide, l_symbol, l_open, l_close, l_variable}

pub proper_whole : {es : List (List ℕ)} → Proper es → Whole es
proper_whole none = w_none
proper_whole (more {e} w p) = go e w.long (proper_whole p)
  where
    go : (e : List ℕ) {es : List (List ℕ)} → length e ≡ suc (body (kind e)) → Whole es → Whole (e ∷ es)
    go [] h t = never (omega arith)
    go (k ∷ bs) h t = w_more {k = k} {b = bs} (omega arith) t

pub bare : (b : ℕ) → span 1 15 b ≡ true → body b ≡ 0 → Whole1 (b ∷ [])
bare b h z = record { known = h; long = rw z }

pub symbol_whole : (e : List ℕ) → T (is_symbol e) → length e ≡ suc (body (kind e)) → Whole1 e
unfolding span
symbol_whole e t l = let (a, b) = symbol_kind e t in record { known = rw (le-leb 1 (kind e) a, le-leb (kind e) 15 (omega arith)); long = l }

-- the bytes of a part are those of its elements
pub part_bytes : {s : List ℕ} {at : ℕ} {v : List (List ℕ)} {next : ℕ} → Splits s at v next → take (next - at) (drop at s) ≡ join v
part_bytes {s} {at} {v} {next} p = rw (split_bytes p) (take_at (join v) (drop next s) (next - at) (split_size p))

pub part-elements : {s : List ℕ} {at : ℕ} {v : List (List ℕ)} {next : ℕ} → Splits s at v next → Proper v → elements (take (next - at) (drop at s)) ≡ v
unfolding cut
part-elements {v = v} p w = ap elements (part_bytes p ∙ sym (append-nil (join v))) ∙ cut-join (proper_whole w) [] ∙ append-nil v

-- one element's bytes are the element
pub one_bytes : {s : List ℕ} {at : ℕ} {e : List ℕ} {next : ℕ} → Splits s at (e ∷ []) next → take (next - at) (drop at s) ≡ e
unfolding join
one_bytes {e = e} p = part_bytes p ∙ append-nil e

pub one_element : (e : List ℕ) → Whole1 e → elements e ≡ e ∷ []
unfolding join cut
one_element e w = ap elements (sym (append-nil e) ∙ sym (append-nil (e ++ []))) ∙ cut-join (proper_whole (more w none)) [] ∙ refl

-- the head of a left side
pub data LHead (d : ℕ) (e : List ℕ) (es : List (List ℕ)) : Type 0 where
  h_symbol : T (is_symbol e) → length e ≡ suc (body (kind e)) → LeftSide d es → LHead d e es
  h_open : e ≡ 4 ∷ [] → LeftSide (suc d) es → LHead d e es
  h_close : {c : ℕ} → d ≡ suc c → e ≡ 5 ∷ [] → LeftSide c es → LHead d e es
  h_variable : {k n : ℕ} → Variable k n → e ≡ k ∷ n ∷ [] → LeftSide d es → LHead d e es

pub l_head : {d : ℕ} {e : List ℕ} {es : List (List ℕ)} → LeftSide d (e ∷ es) → LHead d e es
l_head (l_symbol t l s) = h_symbol t l s
l_head (l_open s) = h_open refl s
l_head (l_close s) = h_close refl refl s
l_head (l_variable v s) = h_variable v refl s
