-- Elements, their bytes, and the call brackets among them.
use mathlib.Core.Path.{◌≡◌, refl, sym, ◌∙◌, ap, subst}
use mathlib.Core.Bool.{true, false}
use mathlib.Core.Option.{some}
use mathlib.Core.List.{List, [], ◌∷◌, ◌++◌, append_assoc, append-nil}
use Prim.Native.Nat.{ℕ, ◌+◌}
use native.Mathlib.Omega.{arith}
use lib.ListN.{length, take, drop, length-append}
use lib.Seq.{take_at, drop_at}
use Rattle.meaning.specs.Elements.{Element, kind, body, cut, join, size, is_kind}
use Rattle.meaning.specs.Machine.{holds, nothing, lead, Lead, leading}
use Rattle.meaning.proofs.Truth.{never, is_true, is_false, see, or_false}
use Rattle.meaning.proofs.Cutting.{Whole, w_none, w_more, cut-join}
use Rattle.meaning.proofs.Balance.{brackets}
use Rattle.meaning.proofs.Holding.{holds-append}
use Rattle.meaning.proofs.Leading.{leading_closed, some_leading}
use Rattle.scanning.specs.State.{is_call, marks_of, calm, Opens, none_open, one_open}

pub size-nil : size [] ≡ 0
unfolding size join
size-nil = refl

pub size-cons : (e : Element) (es : List Element) → size (e ∷ es) ≡ length e + size es
unfolding size join
size-cons e es = length-append e (join es)

pub whole_right : (xs ys zs : List Element) → zs ≡ xs ++ ys → Whole zs → Whole ys
whole_right [] ys zs e w = rw e at w
whole_right (x ∷ xs) ys zs e w_none = never (cc)
whole_right (x ∷ xs) ys zs e (w_more {k} {b} {es} h w) = whole_right xs ys es (cc) w

pub whole_left : (xs ys zs : List Element) → zs ≡ xs ++ ys → Whole zs → Whole xs
whole_left [] ys zs e w = w_none
whole_left (x ∷ xs) ys zs e w_none = never (cc)
whole_left (x ∷ xs) ys zs e (w_more {k} {b} {es} h w) =
    let i : k ∷ b ≡ x = cc in
    subst (λ (z : Element). Whole (z ∷ xs)) i (w_more h (whole_left xs ys es (cc) w))

pub whole_first : (e : Element) (es zs : List Element) → zs ≡ e ∷ es → Whole zs → (k : ℕ) × (b : List ℕ) × (e ≡ k ∷ b) × (length b ≡ body k)
whole_first e es zs q w_none = never (cc)
whole_first e es zs q (w_more {k} {b} h w) = (k, b, cc, h)

pub join_whole : (es : List Element) → Whole es → cut 0 (join es) ≡ es
unfolding cut
join_whole es w = ap (cut 0) (sym (append-nil (join es))) ∙ cut-join w [] ∙ append-nil es

-- two ways to cut a list at one place
pub same-front : (a b c d : List ℕ) → a ++ b ≡ c ++ d → length a ≡ length c → a ≡ c
same-front a b c d e l = sym (take_at a b (length c) l) ∙ ap (take (length c)) e ∙ take_at c d (length c) refl

pub same_back : (a b c d : List ℕ) → a ++ b ≡ c ++ d → length a ≡ length c → b ≡ d
same_back a b c d e l = sym (drop_at a b (length c) l) ∙ ap (drop (length c)) e ∙ drop_at c d (length c) refl

-- THE OPEN CALLS
pub opens_no7 : {zs : List Element} {st : List ℕ} → Opens zs st → holds 7 zs ≡ false
opens_no7 (none_open n6 n7) = n7
opens_no7 (one_open {xs} {zs} c ys o k n6 n7 a q) =
    rw q (holds-append 7 xs (c ∷ ys) ∙ rw (opens_no7 o) (unfold holds in (rw (k, n7))))

pub opens_many : {zs : List Element} {st : List ℕ} (xs : List Element) → Opens zs st → holds 6 xs ≡ false → holds 7 xs ≡ false → Opens (zs ++ xs) st
opens_many {zs} xs (none_open n6 n7) m6 m7 = none_open (holds-append 6 zs xs ∙ rw (n6, m6)) (holds-append 7 zs xs ∙ rw (n7, m7))
opens_many xs (one_open {xs = ws} c ys o k n6 n7 a q) m6 m7 =
    one_open c (ys ++ xs) o k (holds-append 6 ys xs ∙ rw (n6, m6)) (holds-append 7 ys xs ∙ rw (n7, m7)) a
    (ap (λ (l : List Element). l ++ xs) q ∙ append_assoc ws (c ∷ ys) xs)

pub opens_call : {zs : List Element} {st : List ℕ} (e : Element) (at : ℕ) → Opens zs st → kind e ≡ 6 → at ≡ size zs → Opens (zs ++ (e ∷ [])) (at ∷ st)
unfolding holds
opens_call e at o k a = one_open e [] o k refl refl a refl

-- a balanced field without > has no <
pub no_close : (es : List Element) → brackets [] es ≡ some [] → holds 7 es ≡ false → holds 6 es ≡ false
no_close es h n =
    elim (see (holds 6 es)) [
      | is_false z ↦ z
      | is_true z ↦ go (leading es) refl z
    ]
  where
    go : (l : Lead) → leading es ≡ l → holds 6 es ≡ true → holds 6 es ≡ false
    go nothing e z = absurd (some_leading es [] h z e)
    go (lead a c x b) e z = never (cc (leading_closed es e))

-- THE NOTED BRACKETS
pub record FirstMark (at : ℕ) (es : List Element) (m : ℕ) (ms : List ℕ) : Type 0 where
  pub plain : List Element
  pub g : Element
  pub rest : List Element
  pub is : es ≡ plain ++ (g ∷ rest)
  pub place : at + size plain ≡ m
  pub call : is_call g ≡ true
  pub no6 : holds 6 plain ≡ false
  pub no7 : holds 7 plain ≡ false
  pub more : ms ≡ marks_of (m + length g) rest

pub first_mark : (es : List Element) (at : ℕ) {m : ℕ} {ms : List ℕ} → marks_of at es ≡ m ∷ ms → FirstMark at es m ms
unfolding marks_of holds
first_mark [] at h = never (cc)
first_mark (e ∷ es) at {m} {ms} h =
    elim (see (is_call e)) [
      | is_true z ↦
          let q : at ∷ marks_of (at + length e) es ≡ m ∷ ms = rw (z, marks_of) at h in
          let p : at ≡ m = cc in
          let r : marks_of (at + length e) es ≡ ms = cc in
          record { plain = []; g = e; rest = es; is = refl; place = omega (arith, size-nil, p); call = z; no6 = refl; no7 = refl; more = rw (← p) (sym r) }
      | is_false z ↦
          let k = first_mark es (at + length e) (rw (z, marks_of) at h) in
          let (a, b) = or_false (is_kind 6 e) (is_kind 7 e) z in
          record {
            plain = e ∷ k.plain;
            g = k.g;
            rest = k.rest;
            is = ap (λ (l : List Element). e ∷ l) k.is;
            place = omega (arith, size-cons e k.plain, k.place);
            call = k.call;
            no6 = rw (a, k.no6);
            no7 = rw (b, k.no7);
            more = k.more;
          }
    ]

pub no_mark : (es : List Element) (at : ℕ) → marks_of at es ≡ [] → (holds 6 es ≡ false) × (holds 7 es ≡ false)
unfolding marks_of holds
no_mark [] at h = (refl, refl)
no_mark (e ∷ es) at h =
    elim (see (is_call e)) [
      | is_true z ↦ never (let q = rw (z, marks_of) at h in cc)
      | is_false z ↦
          let (a, b) = or_false (is_kind 6 e) (is_kind 7 e) z in
          let (p, q) = no_mark es (at + length e) (rw (z, marks_of) at h) in
          (rw (a, p), rw (b, q))
    ]

-- THE FIRST BRACKET THAT IS READ
pub data Calmed (es : List Element) : Type 0 where
  all_calm : calm es ≡ es → holds 6 es ≡ false → holds 7 es ≡ false → Calmed es
  then_call : (g : Element) (rest : List Element) → es ≡ calm es ++ (g ∷ rest) → is_call g ≡ true → holds 6 (calm es) ≡ false → holds 7 (calm es) ≡ false → Calmed es

pub calmed : (es : List Element) → Calmed es
unfolding calm holds
calmed [] = all_calm refl refl refl
calmed (e ∷ es) =
    elim (see (is_call e)) [
      | is_true z ↦ then_call e es (rw (z, calm)) z (rw (z, calm)) (rw (z, calm))
      | is_false z ↦
          let (a, b) = or_false (is_kind 6 e) (is_kind 7 e) z in
          elim (calmed es) [
            | all_calm q m n ↦ all_calm (rw (z, calm) (ap (λ (l : List Element). e ∷ l) q)) (rw (a, m)) (rw (b, n))
            | then_call g rest q c m n ↦ then_call g rest (rw (z, calm) (ap (λ (l : List Element). e ∷ l) q)) c (rw (z, calm) (rw (a, m))) (rw (z, calm) (rw (b, n)))
          ]
    ]

pub calm-call : (e : Element) (es : List Element) → is_call e ≡ true → calm (e ∷ es) ≡ []
unfolding calm
calm-call e es z = rw (z, calm)

pub calm_plain : (e : Element) (es : List Element) → is_call e ≡ false → calm (e ∷ es) ≡ e ∷ calm es
unfolding calm
calm_plain e es z = rw (z, calm)
