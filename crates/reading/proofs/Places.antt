-- Tokens by their places in the text: what a loop over the text cites.
use mathlib.Core.Path.{◌≡◌, refl, sym, ◌∙◌, ap}
use mathlib.Core.Bool.{Bool}
use mathlib.Core.Option.{none, some}
use mathlib.Core.List.{List, [], ◌∷◌}
use Prim.Native.Nat.{ℕ, zero, suc, ◌+◌, ◌≤◌, ◌<◌}
use native.Mathlib.Omega.{arith}
use native.Mathlib.Numerals.{add-one}
use lib.ListN.{length, get_or, drop, drop_of_length-le}
use lib.Seq.{drop-cons}
use lib.Dec.{leb}
use borrow.Author.Tests.{leb-true, leb-false}
use Rattle.meaning.proofs.Truth.{is_true, is_false, see}
use Rattle.text.specs.Classes.{ends_line}
use Rattle.text.specs.Tokens.{Token, Lexeme, token, gap, lex, Placed, placed, follow, tokens}
use Rattle.text.specs.Reading.{Reader, amiss, finish, enter, reads, begin, said}
use Rattle.tokens.specs.Lexemes.{column_at, lex_at}

tokens-nil : (n : ℕ) (c : Bool) (i : ℕ) → tokens n c i [] ≡ []
unfolding tokens
tokens-nil zero c i = refl
tokens-nil (suc n) c i = refl

tokens-past : (n : ℕ) (c : Bool) (i b : ℕ) (bs : List ℕ) → tokens (suc n) c i (b ∷ bs) ≡ tokens n (ends_line b) (suc i) bs
unfolding tokens
tokens-past n c i b bs = refl

tokens_here : (c : Bool) (i b : ℕ) (bs : List ℕ) → tokens 0 c i (b ∷ bs) ≡ follow i (lex c b bs) (λ n. tokens n (ends_line b) (suc i) bs)
unfolding tokens
tokens_here c i b bs = refl

module _ (s : List ℕ) where
  -- the tokens from the place i on
  abbrev pub from : ℕ → List Placed
  from i = tokens 0 (column_at s i) i (drop i s)

  gone : (n i : ℕ) (c : Bool) → length s ≤ i → tokens n c i (drop i s) ≡ []
  gone n i c h = ap (tokens n c i) (drop_of_length-le s h) ∙ tokens-nil n c i

  skip : (n i : ℕ) → tokens n (column_at s i) i (drop i s) ≡ from (i + n)
  skip zero i = ap from (let e : i ≡ i + 0 = omega arith in e)
  skip (suc n) i =
      elim (see (leb (length s) i)) [
        | is_true h ↦ (let l : length s ≤ i = leb-true (length s) i h in gone (suc n) i (column_at s i) l ∙ sym (gone 0 (i + suc n) _ (omega arith)))
        | is_false h ↦
            let l : i < length s = leb-false (length s) i h in
            ap (tokens (suc n) (column_at s i) i) (drop-cons s i 0 l) ∙ tokens-past n _ i (get_or s i 0) (drop (suc i) s)
            ∙ behind i ∙ skip n (suc i) ∙ ap from (let e : suc i + n ≡ i + suc n = omega arith in e)
      ]
    where
      behind : (i : ℕ) → tokens n (ends_line (get_or s i 0)) (suc i) (drop (suc i) s) ≡ tokens n (column_at s (suc i)) (suc i) (drop (suc i) s)
      behind i = ap (λ (c : Bool). tokens n c (suc i) (drop (suc i) s)) (unfold column_at in refl)

  rest : (i n : ℕ) → tokens n (ends_line (get_or s i 0)) (suc i) (drop (suc i) s) ≡ from (i + 1 + n)
  unfolding column_at
  rest i n = skip n (suc i) ∙ ap from (let e : suc i + n ≡ i + 1 + n = omega arith in e)

  onward : (i : ℕ) (x : Lexeme) → follow i x (λ n. tokens n (ends_line (get_or s i 0)) (suc i) (drop (suc i) s)) ≡ follow i x (λ n. from (i + 1 + n))
  unfolding follow
  onward i (token t n) = ap {B = List Placed} (λ l. placed i t ∷ l) (rest i n)
  onward i (gap n) = rest i n

  -- what begins at i is followed by what stands behind it
  here : (i : ℕ) → i < length s → from i ≡ follow i (lex_at s i) (λ n. from (i + 1 + n))
  here i l =
      ap (tokens 0 (column_at s i) i) (drop-cons s i 0 l) ∙ tokens_here (column_at s i) i (get_or s i 0) (drop (suc i) s)
      ∙ ap (λ (j : ℕ). follow i (lex (column_at s i) (get_or s i 0) (drop j s)) (λ n. tokens n (ends_line (get_or s i 0)) (suc i) (drop (suc i) s))) (sym (add-one i))
      ∙ onward i (lex_at s i)

  -- a loop's step: a gap, or a token
  pub gap_at : (i n : ℕ) → i < length s → lex_at s i ≡ gap n → from i ≡ from (i + 1 + n)
  unfolding follow
  gap_at i n l h = here i l ∙ rw h

  token_at : (i n : ℕ) (t : Token) → i < length s → lex_at s i ≡ token t n → from i ≡ placed i t ∷ from (i + 1 + n)
  unfolding follow
  token_at i n t l h = here i l ∙ rw h

  pub reads_on : (m i n : ℕ) (t : Token) (r r' : Reader) → i < length s → lex_at s i ≡ token t n → enter t r ≡ some r' → reads m (from i) r ≡ reads m (from (i + 1 + n)) r'
  unfolding reads
  reads_on m i n t r r' l h e = ap (λ (ts : List Placed). reads m ts r) (token_at i n t l h) ∙ rw (e, reads)

  pub reads_stop : (m i n : ℕ) (t : Token) (r : Reader) → i < length s → lex_at s i ≡ token t n → enter t r ≡ none → reads m (from i) r ≡ amiss i
  unfolding reads
  reads_stop m i n t r l h e = ap (λ (ts : List Placed). reads m ts r) (token_at i n t l h) ∙ rw (e, reads)

  pub reads_end : (m i : ℕ) (r : Reader) → length s ≤ i → reads m (from i) r ≡ finish m r
  unfolding reads
  reads_end m i r h = ap (λ (ts : List Placed). reads m ts r) (gone 0 i (column_at s i) h)

  pub reads-begin : said s ≡ reads (length s) (from 0) begin
  unfolding said column_at
  reads-begin = refl
