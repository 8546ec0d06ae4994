-- Balanced elements and runs of terms; the bracket that shuts.
use mathlib.Core.Path.{◌≡◌, refl, sym, ◌∙◌, ap}
use mathlib.Core.Bool.{true, false}
use mathlib.Core.List.{List, [], ◌∷◌, ◌++◌, append_assoc}
use Prim.Native.Nat.{ℕ, zero, suc, ◌+◌, ◌-◌, ◌≤◌, ◌<◌}
use native.Mathlib.Omega.{arith}
use native.Mathlib.Nat.{suc-add}
use native.Mathlib.Numerals.{add-one}
use lib.ListN.{length, get_or, drop}
use lib.Dec.{T, eqb, leb}
use borrow.Author.Tests.{leb-true, leb-false, eqb-true, eqb-false, ne_eqb}
use Rattle.meaning.specs.Elements.{kind, body, elements, is_kind, is_symbol}
use Rattle.meaning.specs.Matching.{Terms, stop, symbol, bracket}
use Rattle.meaning.proofs.Truth.{never, is_true, is_false, see}
use Rattle.meaning.proofs.Searching.{Closing, closing_symbol, closing_open, closing_open₀, closing_close}
use Rattle.elements.specs.Reading.{Splits, Balanced, ended, symbols, opening, closing, depth_after, Characters, no_more, one_more, Level, TermEnd, term_at, Shutting, Shut}
use Rattle.std.specs.Prelude.{Some}
use Rattle.elements.proofs.Places.{here, bare, cut_here, head_here, head_symbol, head_open, head_close, symbol_kind, symbol_here, none_left, splits_here, open_here, open_splits, split_join}

pub closes : {d : ℕ} {es : List (List ℕ)} → Balanced d es → (n : ℕ) × Closing d n es
unfolding Closing
closes ended = (0, stop)
closes {d} (symbols {e} {es} t l b) = go d (closes b)
  where
    go : (d : ℕ) → (n : ℕ) × Closing d n es → (n : ℕ) × Closing d n (e ∷ es)
    go zero (n, c) = (suc n, symbol t c)
    go (suc d) (n, c) = (n, closing_symbol e t d n es c)
closes {d} (opening {es} b) = go d (closes b)
  where
    go : (d : ℕ) → (n : ℕ) × Closing (suc d) n es → (n : ℕ) × Closing d n ((4 ∷ []) ∷ es)
    go zero (n, c) = (suc n, closing_open₀ n es c)
    go (suc d) (n, c) = (n, closing_open d n es c)
closes (closing {d} {es} b) = let (n, c) = closes b in (n, closing_close d n es c)

-- at level 0 there is a run of terms
pub level_terms : {es : List (List ℕ)} → Balanced 0 es → (n : ℕ) × Terms n es
unfolding Closing
level_terms b = closes b

-- behind a run of terms the level is the same
pub behind_terms : {n : ℕ} {v : List (List ℕ)} → Terms n v → {d : ℕ} {es : List (List ℕ)} → Balanced d (v ++ es) → Balanced d es
behind_terms stop b = b
behind_terms (symbol t r) (symbols t' l b) = behind_terms r b
behind_terms (symbol t r) (opening b) = never (let w = symbol_kind _ t in omega arith)
behind_terms (symbol t r) (closing b) = never (let w = symbol_kind _ t in omega arith)
behind_terms (bracket {xs} {es = ys} r q e) (symbols t l b) = never (let w = symbol_kind _ t in omega arith)
behind_terms (bracket {xs} {es = ys} r q e) {es} (opening b) =
    shut_one (λ c. behind_terms q c) (behind_terms r (rw (e, append_assoc) at b))
  where
    shut_one : {d : ℕ} → (Balanced d (ys ++ es) → Balanced d es) → Balanced (suc d) ((5 ∷ []) ∷ (ys ++ es)) → Balanced d es
    shut_one f (closing c) = f c
    shut_one f (symbols t l c) = never (let w = symbol_kind _ t in omega arith)

-- CHARACTERS

module _ (s : List ℕ) (at : ℕ) (h : at < length s) (b : Level s at) (e : get_or s at 0 ≡ 1) where
  pub character_here : T (is_symbol (here s at h)) × Splits s at (here s at h ∷ []) (at + 2)
  unfolding body
  character_here =
      let (t, p) = symbol_here s at h b.balanced (λ q. never (omega arith)) (λ q. never (omega arith)) in
      let z : at + 1 + body (get_or s at 0) ≡ at + 2 = rw e (omega arith) in
      (t, rw z at p)

  character_behind : Level s (at + 2)
  character_behind =
      let (t, p) = character_here in
      record { depth = b.depth; fits = p.fits; balanced = behind_terms (symbol t stop) (rw p.front at b.balanced) }

-- behind them the level is the same
pub characters_level : {s : List ℕ} {stop to at i : ℕ} → Level s at → to ≤ length s → Characters s stop to at i → Level s i
characters_level b l no_more = b
characters_level {s} b l (one_more {i} c h e n) = character_behind s i (omega arith) (characters_level b l c) e

pub characters_on : {s : List ℕ} {stop to at i : ℕ} → Characters s stop to at i → at ≤ i
characters_on no_more = omega arith
characters_on (one_more c h e n) = let l = characters_on c in omega arith

-- THE BRACKET THAT SHUTS

-- what stands behind the bracket that shuts the outermost of j open ones
unfoldable pub shut : List (List ℕ) → ℕ → List (List ℕ)
shut [] j = []
shut (e ∷ es) zero = e ∷ es
shut (e ∷ es) (suc j) =
    elim (is_kind 4 e) [
      | true ↦ shut es (suc (suc j))
      | false ↦ elim (is_kind 5 e) [ true ↦ shut es j | false ↦ shut es (suc j) ]
    ]

shut_none : (es : List (List ℕ)) → shut es 0 ≡ es
unfolding shut
shut_none [] = refl
shut_none (e ∷ es) = refl

shut_open : (j : ℕ) (e : List ℕ) (es : List (List ℕ)) → kind e ≡ 4 → shut (e ∷ es) (suc j) ≡ shut es (suc (suc j))
unfolding shut
shut_open j e es h = rw (h, shut)

shut_close : (j : ℕ) (e : List ℕ) (es : List (List ℕ)) → kind e ≡ 5 → shut (e ∷ es) (suc j) ≡ shut es j
unfolding shut
shut_close j e es h = rw (h, shut) (rw h)

shut_other : (j : ℕ) (e : List ℕ) (es : List (List ℕ)) → (kind e ≡ 4 → ⊥) → (kind e ≡ 5 → ⊥) → shut (e ∷ es) (suc j) ≡ shut es (suc j)
unfolding shut
shut_other j e es n4 n5 = rw (ne_eqb (kind e) 4 n4, shut) (rw (ne_eqb (kind e) 5 n5))

shut_terms : {n : ℕ} {v : List (List ℕ)} → Terms n v → (j : ℕ) (es : List (List ℕ)) → shut (v ++ es) (suc j) ≡ shut es (suc j)
shut_terms stop j es = refl
shut_terms (symbol {e} {es = v} t r) j es =
    let w = symbol_kind e t in
    shut_other j e (v ++ es) (λ q. never (omega arith)) (λ q. never (omega arith)) ∙ shut_terms r j es
shut_terms (bracket {xs} {es = ys} {zs} r q e) j es =
    shut_open j _ (zs ++ es) refl ∙ rw (e, append_assoc) (shut_terms r (suc j) _ ∙ shut_close (suc j) _ (ys ++ es) refl ∙ shut_terms q j es)

-- a run of terms, the bracket, and what stands behind it
pub shuts : {d : ℕ} {es : List (List ℕ)} → Balanced (suc d) es → (m : ℕ) × (xs : List (List ℕ)) × Terms m xs × (es ≡ xs ++ ((5 ∷ []) ∷ shut es 1))
unfolding Closing
shuts {d} {es} b =
    let (n, (m, xs, ys, r, c, e)) = closes b in
    let q : shut es 1 ≡ ys = (ap (λ (l : List (List ℕ)). shut l 1) e ∙ shut_terms r 0 ((5 ∷ []) ∷ ys) ∙ shut_close 0 _ ys refl ∙ shut_none ys) in
    (m, xs, r, rw q e)

-- THE LOOP THAT SEEKS IT, i being the place and j the depth

pub record Seeking (s : List ℕ) (at i j : ℕ) : Type 0 where
  pub depth : ℕ
  pub behind : 1 ≤ at
  pub on : at ≤ i
  pub fits : i ≤ length s
  pub few : j + at ≤ i + 1
  pub balanced : Balanced (j + depth) (elements (drop i s))
  pub same : shut (elements (drop i s)) j ≡ shut (elements (drop at s)) 1
  pub start : Balanced (suc depth) (elements (drop at s))

pub seek_start : (s : List ℕ) (at : ℕ) → Shutting s at → Seeking s at at 1
seek_start s at h = record {
  depth = h.depth;
  behind = h.behind;
  on = omega arith;
  fits = h.fits;
  few = omega arith;
  balanced = (let e : 1 + h.depth ≡ suc h.depth = omega arith in rw e h.balanced);
  same = refl;
  start = h.balanced;
}

not-empty : {d : ℕ} {es : List (List ℕ)} → Balanced (suc d) es → es ≡ [] → ⊥
not-empty (symbols t l b) q = never (cc)
not-empty (opening b) q = never (cc)
not-empty (closing b) q = never (cc)

seek_inside : (s : List ℕ) (at i j : ℕ) → Seeking s at i j → 0 < j → i < length s
seek_inside s at i zero k h = never (omega arith)
seek_inside s at i (suc j) k h =
    elim (see (leb (length s) i)) [
      | is_true z ↦ absurd (not-empty (rw suc-add at k.balanced) (none_left s i (leb-true _ _ z)))
      | is_false z ↦ leb-false _ _ z
    ]

pub seek_done : (s : List ℕ) (at i : ℕ) → Seeking s at i 0 → Shut s at i
seek_done s at i k =
    let (m, xs, r, e) = shuts k.start in
    record {
      m = m;
      xs = xs;
      inside = r;
      split = record { on = k.on; fits = k.fits; front = e ∙ rw (← k.same, shut_none) (sym (append_assoc xs ((5 ∷ []) ∷ []) _)) };
    }

-- one element further, the depth being j' then
module _ (s : List ℕ) (at i j : ℕ) (k : Seeking s at i (suc j)) (h : i < length s) where
  next : ℕ
  next = i + 1 + body (get_or s i 0)

  moved : (j' : ℕ) → next ≤ length s → j' ≤ suc (suc j) → Balanced (j' + k.depth) (elements (drop next s))
      → shut (elements (drop next s)) j' ≡ shut (elements (drop i s)) (suc j) → Seeking s at next j'
  unfolding next
  moved j' l f b e = record {
    depth = k.depth;
    behind = k.behind;
    on = omega (arith, k.on);
    fits = l;
    few = omega (arith, k.few);
    balanced = b;
    same = e ∙ k.same;
    start = k.start;
  }

  balanced : Balanced (suc (j + k.depth)) (elements (drop i s))
  balanced = rw suc-add at k.balanced

  in_deeper : get_or s i 0 ≡ 4 → Seeking s at next (suc (suc j))
  unfolding next here
  in_deeper e =
      elim (head_here s i h balanced) [
        | head_symbol t l b ↦ never (let w = symbol_kind _ t in omega arith)
        | head_open q b ↦
            moved (suc (suc j)) (splits_here s i h (bare s i h 4 q (unfold body in refl))).fits (omega arith)
            (rw (suc-add (suc j) k.depth, suc-add j k.depth) b) (sym (shut_open j _ _ e) ∙ ap (λ (l : List (List ℕ)). shut l (suc j)) (sym (cut_here s i h)))
        | head_close q f b ↦ never (let w : get_or s i 0 ≡ 5 = ap kind f in omega arith)
      ]

  out_again : get_or s i 0 ≡ 5 → Seeking s at next j
  unfolding next here
  out_again e =
      elim (head_here s i h balanced) [
        | head_symbol t l b ↦ never (let w = symbol_kind _ t in omega arith)
        | head_open q b ↦ never (let w : get_or s i 0 ≡ 4 = ap kind q in omega arith)
        | head_close {c} q f b ↦
            let z : c ≡ j + k.depth = omega arith in
            moved j (splits_here s i h (bare s i h 5 f (unfold body in refl))).fits (omega arith) (rw z at b)
            (sym (shut_close j _ _ e) ∙ ap (λ (l : List (List ℕ)). shut l (suc j)) (sym (cut_here s i h)))
      ]

  same_depth : (get_or s i 0 ≡ 4 → ⊥) → (get_or s i 0 ≡ 5 → ⊥) → Seeking s at next (suc j)
  unfolding next here
  same_depth n4 n5 =
      elim (head_here s i h balanced) [
        | head_symbol t l b ↦
            moved (suc j) (splits_here s i h l).fits (omega arith) (rw suc-add b)
            (sym (shut_other j _ _ n4 n5) ∙ ap (λ (l : List (List ℕ)). shut l (suc j)) (sym (cut_here s i h)))
        | head_open q b ↦ absurd (n4 (ap kind q))
        | head_close q f b ↦ absurd (n5 (ap kind f))
      ]

  turned : Seeking s at next (depth_after (get_or s i 0) (suc j))
  unfolding depth_after
  turned =
      elim (see (eqb (get_or s i 0) 4)) [
        | is_true z ↦ rw (z, add-one) (in_deeper (eqb-true _ 4 z))
        | is_false z ↦
            elim (see (eqb (get_or s i 0) 5)) [
              | is_true w ↦ (let e : suc j - 1 ≡ j = omega arith in rw (z, w, e) (out_again (eqb-true _ 5 w)))
              | is_false w ↦ rw (z, w) (same_depth (eqb-false _ 4 z) (eqb-false _ 5 w))
            ]
      ]

pub seek_on : (s : List ℕ) (at i j : ℕ) → Seeking s at i j → 0 < j → Seeking s at (i + 1 + body (get_or s i 0)) (depth_after (get_or s i 0) j)
unfolding next
seek_on s at i zero k h = never (omega arith)
seek_on s at i (suc j) k h = turned s at i j k (seek_inside s at i (suc j) k h)

-- over characters the depth stays
over : {s : List ℕ} {at i j stop to t : ℕ} → Seeking s at i j → 0 < j → Characters s stop to i t → Seeking s at t j
unfolding depth_after body
over k h no_more = k
over {s} {at} {j = j} k h (one_more {i} c l e n) =
    let z : i + 1 + 1 ≡ i + 2 = omega arith in
    rw z at (rw e at (seek_on s at i j (over k h c) h))

-- the place behind them, at which an element stands
pub record Onward (s : List ℕ) (at i j t : ℕ) : Type 0 where
  pub on : i ≤ t
  pub inside : t < length s
  pub seeking : Seeking s at t j

pub seek_over : {s : List ℕ} {at i j stop to t : ℕ} → Seeking s at i j → 0 < j → Characters s stop to i t → Onward s at i j t
seek_over {s} {at} {j = j} {t = t} k h c = let o = over k h c in record { on = characters_on c; inside = seek_inside s at t j o h; seeking = o }

-- at a closing bracket it falls
pub seek_shut : {s : List ℕ} {at i j : ℕ} → Seeking s at i j → 0 < j → get_or s i 0 ≡ 5 → Seeking s at (i + 1) (j - 1)
unfolding depth_after body
seek_shut {s} {at} {i} {j} k h e =
    let z : i + 1 + 0 ≡ i + 1 = omega arith in
    rw z at (rw e at (seek_on s at i j k h))

-- A BRACKETED TERM

pub shutting_here : (s : List ℕ) (at : ℕ) → at < length s → (b : Level s at) → get_or s at 0 ≡ 4 → Shutting s (at + 1)
shutting_here s at h b e = record { depth = b.depth; behind = omega arith; fits = omega arith; balanced = open_here s at h b.balanced e }

pub bracketed : (s : List ℕ) (at t : ℕ) → at < length s → (b : Level s at) → get_or s at 0 ≡ 4 → Shut s (at + 1) t → TermEnd s at (Some t)
bracketed s at t h b e k = term_at (bracket k.inside stop refl) (split_join (open_splits s at h b.balanced e) k.split)
