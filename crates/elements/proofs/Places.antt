-- What stands at a place: one element, a symbol, a term; and what the code read there.
use mathlib.Core.Path.{◌≡◌, refl, sym, ◌∙◌, ap}
use mathlib.Core.Bool.{true, false}
use mathlib.Core.Logic.{◌⊎◌, inl, inr}
use mathlib.Core.List.{List, [], ◌∷◌, ◌++◌, append_assoc}
use Prim.Native.Nat.{ℕ, zero, suc, ◌+◌, ◌-◌, ◌^◌, ◌≤◌, ◌<◌}
use native.Mathlib.Omega.{arith}
use lib.ListN.{length, get_or, take, drop, length-append, length-take, length-drop, drop_of_length-le}
use lib.Dec.{T, leb}
use borrow.Author.Tests.{leb-true, leb-false}
use Rattle.meaning.specs.Elements.{kind, body, cut, elements, join, is_symbol}
use Rattle.meaning.specs.Goodness.{span}
use Rattle.meaning.specs.Matching.{Terms, symbol, bracket}
use Rattle.meaning.proofs.Truth.{never, and_left, and_right, T_true, true_T, is_true, is_false, see, span_le}
use Rattle.meaning.proofs.Cutting.{cut_at as cut-there, join-cut, join-append}
use Rattle.kinds.proofs.Bodies.{body-known}
use Rattle.elements.specs.declared.Element.{Element}
use Rattle.elements.specs.declared.Element.TheVariants.{Character, Name, Macrodigit, Open, Close, Call, Return, SVariable, TVariable, EVariable, Equals, SentenceEnd, Header, FunctionEnd, ProgramEnd}
use Rattle.std.specs.Prelude.{Ok, Err, None}
use Rattle.elements.specs.declared.Unread.{Unread}
use Rattle.elements.specs.declared.Unread.TheVariants.{Unknown, Cut}
use Rattle.elements.specs.Bytes.{kind_of, number_of, digits, bytes_of}
use Rattle.elements.specs.Reading.{Splits, ReadAt, over, unknown, short, got, Balanced, symbols, opening, closing, SymbolEnd, no_symbol, TermEnd, no_term, ProperAt}

-- k is none of 1 to n
abbrev NoneOf : ℕ → ℕ → Type 0
NoneOf k zero = Unit {0}
NoneOf k (suc n) = NoneOf k n × (k ≡ suc n → ⊥)

beyond : (n k : ℕ) → NoneOf k n → 1 ≤ k → n < k
beyond zero k r h = h
beyond (suc n) k r h = let l = beyond n k r.0 h in let q = r.1 in omega arith

-- nothing stands past the end
pub none_left : (s : List ℕ) (at : ℕ) → length s ≤ at → elements (drop at s) ≡ []
unfolding cut
none_left s at h = rw (drop_of_length-le s h)

-- where nothing stands is the end
pub ends_here : (s : List ℕ) (at : ℕ) → elements (drop at s) ≡ [] → length s ≤ at
unfolding join
ends_here s at q =
    let e : drop at s ≡ [] = (sym (join-cut (drop at s)) ∙ ap join q) in
    omega (arith, simp length-drop at (ap length e))

module _ (s : List ℕ) (at : ℕ) (h : at < length s) where
  -- the element there
  unfoldable pub here : List ℕ
  here = get_or s at 0 ∷ take (body (get_or s at 0)) (drop (at + 1) s)

  pub kind_here : kind here ≡ get_or s at 0
  unfolding here
  kind_here = refl

  pub cut_here : elements (drop at s) ≡ here ∷ elements (drop (at + 1 + body (get_or s at 0)) s)
  unfolding here
  cut_here = cut-there s at h

  room : length here ≡ suc (body (get_or s at 0)) → at + 1 + body (get_or s at 0) ≤ length s
  unfolding here
  room e = omega (arith, simp (length-take, length-drop) at e)

  pub splits_here : length here ≡ suc (body (get_or s at 0)) → Splits s at (here ∷ []) (at + 1 + body (get_or s at 0))
  splits_here e = record { on = omega arith; fits = room e; front = cut_here }

  -- an element without a body is whole
  pub bare : (b : ℕ) → here ≡ b ∷ [] → body b ≡ 0 → length here ≡ suc (body (get_or s at 0))
  bare b q z = ap length q ∙ (let e : get_or s at 0 ≡ b = sym kind_here ∙ ap kind q in rw (e, z))

  -- what a cursor reads
  pub read_got : (w n : ℕ) (x : Element) → w ≡ body (get_or s at 0) → w < length s - at → digits w n ≡ take w (drop (at + 1) s) → n < 256 ^ w
      → kind_of x ≡ get_or s at 0 → number_of x ≡ n → ReadAt s at (Ok (x, record { at = at + 1 + w }))
  unfolding here
  read_got w n x ew l d b ek en =
      let e : bytes_of x ≡ here = rw (ek, en, ← ew, d) in
      let r : length here ≡ suc (body (get_or s at 0)) = simp (length-take, length-drop) (omega arith) in
      got {x = x} {c = record { at = at + 1 + w }} (rw (ek, en, ← ew) b) (omega arith) (rw (e, ew) (splits_here r))

-- each element has a known kind
pub known-kind : (x : Element) → span 1 15 (kind_of x) ≡ true
unfolding span
known-kind (Character n) = refl
known-kind (Name n) = refl
known-kind (Macrodigit n) = refl
known-kind Open = refl
known-kind Close = refl
known-kind (Call n) = refl
known-kind Return = refl
known-kind (SVariable n) = refl
known-kind (TVariable n) = refl
known-kind (EVariable n) = refl
known-kind Equals = refl
known-kind SentenceEnd = refl
known-kind (Header n) = refl
known-kind FunctionEnd = refl
known-kind ProgramEnd = refl

pub known_as : (x : Element) {k : ℕ} → k ≡ kind_of x → span 1 15 k ≡ true
known_as x e = rw e (known-kind x)

-- where a known kind stands
pub behind : (at b : ℕ) {n : ℕ} → n ≡ 1 + b → at + n ≡ at + 1 + b
behind at b e = omega arith

pub body_fits : {n at l b : ℕ} (w : ℕ) → b ≡ w → n ≡ 1 + b → n ≤ l - at → at < l → at + 1 + w ≤ l
body_fits w e q f h = omega arith

module _ {s : List ℕ} {at n : ℕ} (h : at < length s) (q : n ≡ 1 + body (get_or s at 0)) where
  pub cut_at : length s - at < n → ReadAt s at (Err Cut)
  cut_at c = short h (body-known _ (omega arith)) (omega arith)

  module _ (f : n ≤ length s - at) where
    pub got_at : (w : ℕ) (x : Element) → kind_of x ≡ get_or s at 0 → body (get_or s at 0) ≡ w → digits w (number_of x) ≡ take w (drop (at + 1) s)
        → number_of x < 256 ^ w → ReadAt s at (Ok (x, record { at = at + 1 + w }))
    got_at w x ek ew d l = read_got s at h w (number_of x) x (sym ew) (omega arith) d l ek refl

    pub bare_at : (x : Element) → kind_of x ≡ get_or s at 0 → body (get_or s at 0) ≡ 0 → number_of x ≡ 0 → ReadAt s at (Ok (x, record { at = at + 1 }))
    unfolding digits
    bare_at x ek ew z = let e : at + 1 + 0 ≡ at + 1 = omega arith in rw e at (got_at 0 x ek ew refl (rw z (omega arith)))

-- a kind that is none of the fifteen is unknown
pub no_kind : (k : ℕ) → NoneOf k 15 → span 1 15 k ≡ false
no_kind k n = elim (see (span 1 15 k)) [ is_true z ↦ absurd (let w = span_le 1 15 k z in omega (arith, w.1, beyond 15 k n w.0)) | is_false z ↦ z ]

-- what is not read within the bytes
pub unread : {s : List ℕ} {at : ℕ} {r : Unread} → ReadAt s at (Err r) → at < length s → ReadAt s at (Err Unknown) ⊎ ReadAt s at (Err Cut)
unread (over l) h = never (omega arith)
unread (unknown i z) h = inl (unknown i z)
unread (short i z l) h = inr (short i z l)

-- where a whole element stands
module _ {s : List ℕ} {at : ℕ} (p : ProperAt s at) where
  pub proper_inside : at < length s
  proper_inside =
      elim (see (leb (length s) at)) [
        | is_true z ↦ never (cc (p.is, none_left s at (leb-true _ _ z)))
        | is_false z ↦ leb-false _ _ z
      ]

  pub proper_splits : Splits s at (p.e ∷ []) (at + 1 + body (get_or s at 0))
  proper_splits =
      let h = proper_inside in
      let i : here s at h ≡ p.e = cc (cut_here s at h, p.is) in
      rw i at (splits_here s at h (rw i (p.whole.long ∙ ap (λ (x : List ℕ). suc (body (kind x))) (sym i) ∙ rw (kind_here s at h))))

  -- it is read
  pub not_unread : {r : Unread} → ReadAt s at (Err r) → ⊥
  not_unread (over l) = let h = proper_inside in omega arith
  not_unread (unknown h z) =
      let i : here s at h ≡ p.e = cc (cut_here s at h, p.is) in
      let k : kind p.e ≡ get_or s at 0 = sym (ap kind i) ∙ kind_here s at h in
      let y : span 1 15 (get_or s at 0) ≡ true = rw k at p.whole.known in
      never (cc)
  not_unread (short h z l) = let r = proper_splits.fits in omega arith

pub proper_too : {a b : List ℕ} {at : ℕ} → ProperAt a at → elements (drop at a) ≡ elements (drop at b) → ProperAt b at
proper_too p q = record { e = p.e; es = p.es; is = sym q ∙ p.is; whole = p.whole }

-- SYMBOLS AND TERMS, where an argument is balanced

pub data Head (d : ℕ) (e : List ℕ) (es : List (List ℕ)) : Type 0 where
  head_symbol : T (is_symbol e) → length e ≡ suc (body (kind e)) → Balanced d es → Head d e es
  head_open : e ≡ 4 ∷ [] → Balanced (suc d) es → Head d e es
  head_close : {c : ℕ} → d ≡ suc c → e ≡ 5 ∷ [] → Balanced c es → Head d e es

pub head : {d : ℕ} {e : List ℕ} {es : List (List ℕ)} → Balanced d (e ∷ es) → Head d e es
head (symbols t l b) = head_symbol t l b
head (opening b) = head_open refl b
head (closing b) = head_close refl refl b

pub symbol_kind : (e : List ℕ) → T (is_symbol e) → (1 ≤ kind e) × (kind e ≤ 3)
unfolding is_symbol
symbol_kind e t = (leb-true _ _ (and_left (leb 1 (kind e)) _ (T_true _ t)), leb-true _ _ (and_right (leb 1 (kind e)) _ (T_true _ t)))

module _ (s : List ℕ) (at : ℕ) (h : at < length s) where
  pub head_here : {d : ℕ} → Balanced d (elements (drop at s)) → Head d (here s at h) (elements (drop (at + 1 + body (get_or s at 0)) s))
  head_here b = head (rw (cut_here s at h) at b)

  pub symbol_here : {d : ℕ} → Balanced d (elements (drop at s)) → (get_or s at 0 ≡ 4 → ⊥) → (get_or s at 0 ≡ 5 → ⊥)
      → T (is_symbol (here s at h)) × Splits s at (here s at h ∷ []) (at + 1 + body (get_or s at 0))
  unfolding here
  symbol_here b n4 n5 =
      elim (head_here b) [
        | head_symbol t l c ↦ (t, splits_here s at h l)
        | head_open e c ↦ absurd (n4 (ap kind e))
        | head_close q e c ↦ absurd (n5 (ap kind e))
      ]

  -- as the code finds it out: by its kind, with its length
  pub symbol_told : {d n : ℕ} → Balanced d (elements (drop at s)) → is_symbol (get_or s at 0 ∷ []) ≡ true → n ≡ 1 + body (get_or s at 0)
      → T (is_symbol (here s at h)) × Splits s at (here s at h ∷ []) (at + n)
  symbol_told b t l =
      let k = symbol_kind (get_or s at 0 ∷ []) (true_T _ t) in
      let (i, p) = symbol_here b (λ q. omega (arith, k, q)) (λ q. omega (arith, k, q)) in
      (i, rw (behind at _ l) p)

  kind_told : (e : List ℕ) → T (is_symbol e) → here s at h ≡ e → is_symbol (get_or s at 0 ∷ []) ≡ true
  unfolding is_symbol
  kind_told e t i =
      let k : kind e ≡ get_or s at 0 = sym (ap kind i) ∙ kind_here s at h in
      rw k at (T_true (is_symbol e) t)

  pub no_symbol_here : is_symbol (get_or s at 0 ∷ []) ≡ false → SymbolEnd s at None
  no_symbol_here z = no_symbol (λ e es t q. never (let y = kind_told e t (cc (cut_here s at h)) in cc))

  pub open_here : {d : ℕ} → Balanced d (elements (drop at s)) → get_or s at 0 ≡ 4 → Balanced (suc d) (elements (drop (at + 1) s))
  unfolding here body
  open_here b e =
      elim (head_here b) [
        | head_symbol t l c ↦ never (let w = symbol_kind _ t in omega arith)
        | head_open q c ↦ (let z : at + 1 + body (get_or s at 0) ≡ at + 1 = rw e (omega arith) in rw z at c)
        | head_close q f c ↦ never (let w : get_or s at 0 ≡ 5 = ap kind f in omega arith)
      ]

  pub open_splits : {d : ℕ} → Balanced d (elements (drop at s)) → get_or s at 0 ≡ 4 → Splits s at ((4 ∷ []) ∷ []) (at + 1)
  unfolding body
  open_splits b e =
      elim (head_here b) [
        | head_symbol t l c ↦ never (let w = symbol_kind _ t in let z = kind_here s at h in omega arith)
        | head_open q c ↦
            let z : at + 1 + body (get_or s at 0) ≡ at + 1 = rw e (omega arith) in
            rw (z, q) at (splits_here s at h (bare s at h 4 q refl))
        | head_close q f c ↦ never (let w : get_or s at 0 ≡ 5 = sym (kind_here s at h) ∙ ap kind f in omega arith)
      ]

  pub no_term_here : is_symbol (get_or s at 0 ∷ []) ≡ false → (get_or s at 0 ≡ 4 → ⊥) → TermEnd s at None
  no_term_here n n4 = no_term (λ v es t q. starts v es t (sym (cut_here s at h) ∙ q))
    where
      starts : (v es : List (List ℕ)) → Terms 1 v → here s at h ∷ elements (drop (at + 1 + body (get_or s at 0)) s) ≡ v ++ es → ⊥
      starts v es (symbol {e = x} t r) q = never (let y = kind_told x t (cc) in cc)
      starts v es (bracket r r' q') q = n4 (let i : here s at h ≡ 4 ∷ [] = cc in sym (kind_here s at h) ∙ ap kind i)

pub no_symbol_end : (s : List ℕ) (at : ℕ) → length s ≤ at → SymbolEnd s at None
no_symbol_end s at h = no_symbol (λ e es t q. never (cc (none_left s at h)))

pub no_term_end : (s : List ℕ) (at : ℕ) → length s ≤ at → TermEnd s at None
no_term_end s at h = no_term (λ v es t q. starts v es t (sym (none_left s at h) ∙ q))
  where
    starts : (v es : List (List ℕ)) → Terms 1 v → [] ≡ v ++ es → ⊥
    starts v es (symbol t r) q = never (cc)
    starts v es (bracket r r' q') q = never (cc)

-- BYTES OF WHAT IS SPLIT

pub split_bytes : {s : List ℕ} {at : ℕ} {v : List (List ℕ)} {next : ℕ} → Splits s at v next → drop at s ≡ join v ++ drop next s
split_bytes {s} {at} {v} {next} p = sym (join-cut (drop at s)) ∙ ap join p.front ∙ join-append v (elements (drop next s)) ∙ rw (join-cut (drop next s))

pub split_size : {s : List ℕ} {at : ℕ} {v : List (List ℕ)} {next : ℕ} → Splits s at v next → length (join v) ≡ next - at
split_size {s} {at} {v} {next} p =
    let l = p.on in let f = p.fits in
    omega (arith, simp (length-append, length-drop) at (ap length (split_bytes p)))

-- one run after the other
pub split_join : {s : List ℕ} {at : ℕ} {v : List (List ℕ)} {next : ℕ} {w : List (List ℕ)} {end : ℕ} → Splits s at v next → Splits s next w end → Splits s at (v ++ w) end
split_join {v = v} {w = w} p q = record {
  on = omega (arith, p.on, q.on);
  fits = q.fits;
  front = p.front ∙ rw q.front (sym (append_assoc v w _));
}

pub split_nothing : (s : List ℕ) (at : ℕ) → at ≤ length s → Splits s at [] at
split_nothing s at h = record { on = omega arith; fits = h; front = refl }
