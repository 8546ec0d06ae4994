-- A string's end and the number of its characters, byte by byte.
use mathlib.Core.Path.{◌≡◌, refl, sym, ◌∙◌, ap, ap₂}
use mathlib.Core.Bool.{Bool, true, false}
use mathlib.Core.List.{List, [], ◌∷◌}
use Prim.Native.Nat.{ℕ, ◌+◌, ◌≤◌, ◌<◌}
use native.Mathlib.Omega.{arith}
use native.Mathlib.Numerals.{add-one}
use lib.ListN.{length, get_or, drop, drop_of_length-le}
use lib.Seq.{drop-cons}
use borrow.Author.Tests.{eq-eqb, ne_eqb}
use Rattle.text.specs.Classes.{class_of, ends_line}
use Rattle.text.specs.Tokens.{Quoted as Chars, unclosed, closed, longer, before, quoted}
use Rattle.classes.proofs.Runs.{of_eq, of_ne}
use Rattle.tokens.specs.Lexemes.{closed_at}
use Rattle.std.specs.Prelude.{Option, Some, None}
use Rattle.tokens.specs.declared.Closed.{Closed}

closed_before : (i n b : ℕ) (x : Chars) → closed_at i n (before b x) ≡ closed_at (i + 1) (n + 1) x
unfolding before
closed_before i n b unclosed = refl
closed_before i n b (closed x m) = ap₂ {C = Option Closed} (λ u v. Some (record { end = u; characters = v })) (omega arith) (omega arith)

closed_longer : (i n : ℕ) (x : Chars) → closed_at i n (longer x) ≡ closed_at (i + 1) n x
unfolding longer
closed_longer i n unclosed = refl
closed_longer i n (closed x m) = ap {B = Option Closed} (λ u. Some (record { end = u; characters = n + length x })) (omega arith)

module _ (q b : ℕ) (bs : List ℕ) where
  twice : b ≡ q → quoted q true (b ∷ bs) ≡ before b (quoted q false bs)
  unfolding quoted
  twice e = rw (eq-eqb b q e, quoted)

  once : b ≡ q → quoted q false (b ∷ bs) ≡ longer (quoted q true bs)
  unfolding quoted
  once e = rw (eq-eqb b q e, quoted)

  done : (b ≡ q → ⊥) → quoted q true (b ∷ bs) ≡ closed [] 0
  unfolding quoted
  done e = rw (ne_eqb b q e, quoted)

  torn : (b ≡ q → ⊥) → ends_line b ≡ true → quoted q false (b ∷ bs) ≡ unclosed
  unfolding quoted
  torn e h = rw (ne_eqb b q e, h, quoted)

  on : (b ≡ q → ⊥) → ends_line b ≡ false → quoted q false (b ∷ bs) ≡ before b (quoted q false bs)
  unfolding quoted
  on e h = rw (ne_eqb b q e, h, quoted)

-- the string seen from j on, m characters and perhaps a quote before it
abbrev pub Closing : List ℕ → ℕ → Bool → ℕ → ℕ → Option Closed
Closing s q held j m = closed_at j m (quoted q held (drop j s))

module _ (s : List ℕ) (q i n : ℕ) where
  at_byte : (held : Bool) → i < length s → Closing s q held i n ≡ closed_at i n (quoted q held (get_or s i 0 ∷ drop (i + 1) s))
  at_byte held h = rw (drop-cons s i 0 h, add-one i)

  pub quote_held : i < length s → get_or s i 0 ≡ q → Closing s q true i n ≡ Closing s q false (i + 1) (n + 1)
  quote_held h e = at_byte true h ∙ ap (closed_at i n) (twice q _ _ e) ∙ closed_before i n _ _

  pub quote_free : i < length s → get_or s i 0 ≡ q → Closing s q false i n ≡ Closing s q true (i + 1) n
  quote_free h e = at_byte false h ∙ ap (closed_at i n) (once q _ _ e) ∙ closed_longer i n _

  pub other_held : i < length s → (get_or s i 0 ≡ q → ⊥) → Some (record { end = i; characters = n }) ≡ Closing s q true i n
  other_held h e = ap₂ {C = Option Closed} (λ u v. Some (record { end = u; characters = v })) (omega arith) (omega arith) ∙ sym (at_byte true h ∙ ap (closed_at i n) (done q _ _ e))

  pub other_end : i < length s → (get_or s i 0 ≡ q → ⊥) → (k : ℕ) → k ≡ class_of (get_or s i 0) → k ≡ 12 → None ≡ Closing s q false i n
  other_end h e k d z = sym (at_byte false h ∙ ap (closed_at i n) (torn q _ _ e (of_eq 12 _ k d z)))

  pub other_on : i < length s → (get_or s i 0 ≡ q → ⊥) → (k : ℕ) → k ≡ class_of (get_or s i 0) → (k ≡ 12 → ⊥) → Closing s q false i n ≡ Closing s q false (i + 1) (n + 1)
  other_on h e k d z = at_byte false h ∙ ap (closed_at i n) (on q _ _ e (of_ne 12 _ k d z)) ∙ closed_before i n _ _

  pub out_held : length s ≤ i → Some (record { end = i; characters = n }) ≡ Closing s q true i n
  unfolding quoted
  out_held h = rw (drop_of_length-le s h) (ap₂ {C = Option Closed} (λ u v. Some (record { end = u; characters = v })) (omega arith) (omega arith))

  pub out_free : length s ≤ i → None ≡ Closing s q false i n
  unfolding quoted
  out_free h = rw (drop_of_length-le s h)

-- where the loop stands, m characters before the place j
abbrev pub Stands : List ℕ → ℕ → ℕ → ℕ → Option Closed → Type 0
Stands s q j m all = (Closing s q false j m ≡ all) × (m ≤ j)

-- a turn of the loop, and its ends
module _ (s : List ℕ) (q i n : ℕ) {all : Option Closed} (inv : Stands s q i n all) where
  pub end_open : length s ≤ i → None ≡ all
  end_open h = out_free s q i n h ∙ inv.0

  module _ (h : i < length s) where
    module _ (e : get_or s i 0 ≡ q) where
      pub turn_doubled : i + 1 < length s → get_or s (i + 1) 0 ≡ q → Stands s q (i + 1 + 1) (n + 1) all
      turn_doubled l f = (sym (quote_held s q (i + 1) n l f) ∙ sym (quote_free s q i n h e) ∙ inv.0, (let m : n ≤ i = inv.1 in omega arith))

      pub end_single : i + 1 < length s → (get_or s (i + 1) 0 ≡ q → ⊥) → Some (record { end = i + 1; characters = n }) ≡ all
      end_single l f = other_held s q (i + 1) n l f ∙ sym (quote_free s q i n h e) ∙ inv.0

      pub end_last : length s ≤ i + 1 → Some (record { end = i + 1; characters = n }) ≡ all
      end_last l = out_held s q (i + 1) n l ∙ sym (quote_free s q i n h e) ∙ inv.0

    module _ (e : get_or s i 0 ≡ q → ⊥) where
      pub turn_on : (k : ℕ) → k ≡ class_of (get_or s i 0) → (k ≡ 12 → ⊥) → Stands s q (i + 1) (n + 1) all
      turn_on k d z = (sym (other_on s q i n h e k d z) ∙ inv.0, (let m : n ≤ i = inv.1 in omega arith))

      pub end_line : (k : ℕ) → k ≡ class_of (get_or s i 0) → k ≡ 12 → None ≡ all
      end_line k d z = other_end s q i n h e k d z ∙ inv.0
