-- Cutting bytes into elements and joining them again.
use mathlib.Core.Path.{◌≡◌, refl, sym, ◌∙◌, ap}
use mathlib.Core.Bool.{Bool, true, false, false≢true}
use lib.Dec.{leb}
use borrow.Author.Tests.{leb-true}
use Rattle.meaning.proofs.Truth.{Seen, is_true, is_false, see}
use mathlib.Core.List.{List, [], ◌∷◌, ◌++◌, append_assoc}
use Prim.Native.Nat.{ℕ, zero, suc, ◌+◌, ◌≤◌, ◌<◌}
use native.Mathlib.Omega.{arith}
use lib.ListN.{length, get_or, take, drop, take-append-drop, length-append}
use native.Mathlib.Numerals.{add-one}
use lib.Seq.{take_at, drop_at, drop-cons, drop-drop}
use Rattle.meaning.specs.Elements.{Element, body, bodies, cut, join, size}

pub cut_skip : (n : ℕ) (bs : List ℕ) → cut n bs ≡ cut 0 (drop n bs)
unfolding cut
cut_skip zero [] = refl
cut_skip (suc n) [] = refl
cut_skip zero (b ∷ bs) = refl
cut_skip (suc n) (b ∷ bs) = cut_skip n bs

-- the first element, and the rest
pub cut-cons : (k : ℕ) (bs : List ℕ) → cut 0 (k ∷ bs) ≡ (k ∷ take (body k) bs) ∷ cut 0 (drop (body k) bs)
unfolding cut
cut-cons k bs = ap {B = List Element} (λ l. (k ∷ take (body k) bs) ∷ l) (cut_skip (body k) bs)

-- cutting loses nothing
join-cut_from : (n : ℕ) (bs : List ℕ) → join (cut n bs) ≡ drop n bs
unfolding cut join
join-cut_from zero [] = refl
join-cut_from (suc n) [] = refl
join-cut_from zero (k ∷ bs) = ap {B = List ℕ} (λ l. k ∷ l) (ap (λ (l : List ℕ). take (body k) bs ++ l) (join-cut_from (body k) bs) ∙ take-append-drop (body k) bs)
join-cut_from (suc n) (b ∷ bs) = join-cut_from n bs

pub join-cut : (bs : List ℕ) → join (cut 0 bs) ≡ bs
join-cut bs = join-cut_from 0 bs

pub join-append : (xs ys : List Element) → join (xs ++ ys) ≡ join xs ++ join ys
unfolding join
join-append [] ys = refl
join-append (x ∷ xs) ys = rw (join-append xs ys) (sym (append_assoc x (join xs) (join ys)))

pub size-append : (xs ys : List Element) → size (xs ++ ys) ≡ size xs + size ys
unfolding size
size-append xs ys = ap length (join-append xs ys) ∙ length-append (join xs) (join ys)

-- each element has its whole body
pub data Whole : List Element → Type 0 where
  w_none : Whole []
  w_more : {k : ℕ} {b : List ℕ} {es : List Element} → length b ≡ body k → Whole es → Whole ((k ∷ b) ∷ es)

pub whole_append : {xs ys : List Element} → Whole xs → Whole ys → Whole (xs ++ ys)
whole_append w_none w = w
whole_append (w_more h v) w = w_more h (whole_append v w)

-- joining loses nothing of whole elements, whatever stands behind them
pub cut-join : {es : List Element} → Whole es → (bs : List ℕ) → cut 0 (join es ++ bs) ≡ es ++ cut 0 bs
unfolding join
cut-join w_none bs = refl
cut-join (w_more {k} {b} {es} h w) bs =
    cut-cons k _ ∙ rw (append_assoc b (join es) bs, take_at b (join es ++ bs) (body k) h, drop_at b (join es ++ bs) (body k) h) (rw (cut-join w bs))

-- the element at a place inside the bytes, and those behind it
pub cut_at : (s : List ℕ) (i : ℕ) → i < length s → cut 0 (drop i s) ≡ (get_or s i 0 ∷ take (body (get_or s i 0)) (drop (i + 1) s)) ∷ cut 0 (drop (i + 1 + body (get_or s i 0)) s)
cut_at s i h =
    let k : ℕ = get_or s i 0 in
    ap (cut 0) (drop-cons s i 0 h) ∙ cut-cons k (drop (suc i) s) ∙ rw (drop-drop (body k) (suc i) s, ← add-one i)

unfoldable pub small : ℕ → List ℕ → Bool
small b [] = true
small b (x ∷ xs) = elim (leb x b) [ true ↦ small b xs | false ↦ false ]

small_at : (b : ℕ) (xs : List ℕ) → small b xs ≡ true → (k : ℕ) → get_or xs k 0 ≤ b
unfolding small
small_at b [] h k = omega arith
small_at b (x ∷ xs) h k = go (λ q j. small_at b xs q j) (see (leb x b)) k
  where
    go : (small b xs ≡ true → (j : ℕ) → get_or xs j 0 ≤ b) → Seen (leb x b) → (k : ℕ) → get_or (x ∷ xs) k 0 ≤ b
    go ih (is_true z) zero = leb-true x b z
    go ih (is_true z) (suc k) = ih (rw (z, small) at h) k
    go ih (is_false z) k = absurd (let q : false ≡ true = rw (z, small) at h in false≢true q)

pub body_le : (k : ℕ) → body k ≤ 4
unfolding body small
body_le k = small_at 4 bodies refl k
