-- The values that matching leaves in the table, put into a right side, in bytes.
use mathlib.Core.Path.{◌≡◌, refl, sym, ◌∙◌, ap, ap₂, subst}
use mathlib.Core.Bool.{true, false}
use mathlib.Core.Option.{some}
use mathlib.Core.Logic.{◌⊎◌, inl, inr}
use mathlib.Core.List.{List, [], ◌∷◌, ◌++◌, append-nil}
use Prim.Native.Nat.{ℕ, ◌+◌, ◌-◌, ◌≤◌, ◌<◌}
use native.Mathlib.Omega.{arith}
use lib.ListN.{length, get_or, drop, length-take, length-drop}
use lib.Dec.{T, leb}
use borrow.Author.Tests.{ne_eqb, leb-true}
use Rattle.meaning.specs.Elements.{Element, kind, elements, join, size, same, among, is_variable, is_symbol}
use Rattle.meaning.specs.Matching.{Terms, stop, symbol, bracket, Role, s_var, t_var, e_var, plain, role, Stands, put, Env, given}
use Rattle.meaning.specs.Machine.{holds}
use Rattle.meaning.proofs.Truth.{never, and_left, and_right, T_true, is_true, is_false, see, or_right, same_eq, same_refl}
use Rattle.meaning.proofs.Cutting.{Whole, w_none, w_more, whole_append, join-cut, join-append}
use Rattle.meaning.proofs.Holding.{holds-append}
use Rattle.settling.specs.Values.{LeftSide, l_end, l_symbol, l_open, l_close, l_variable, Variable}
use Rattle.matching.specs.Binding.{Bound}
use Rattle.settling.proofs.Sides.{proper_whole}
use Rattle.kinds.specs.Slots.{slot_of, value_of}
use Rattle.building.specs.Build.{piece, pour, Held, Ready, ready_none, ready_more, span_of, Calm}

symbol_low : (e : Element) → T (is_symbol e) → kind e ≤ 3
unfolding is_symbol
symbol_low e h = leb-true (kind e) 3 (and_right (leb 1 (kind e)) _ (T_true _ h))

var_high : (e : Element) → is_variable e ≡ true → 8 ≤ kind e
unfolding is_variable
var_high e h = leb-true 8 (kind e) (and_left (leb 8 (kind e)) _ h)

-- THE VARIABLES OF A LEFT SIDE
low_other : (v e : Element) → is_variable v ≡ true → kind e ≤ 5 → v ≡ e → ⊥
low_other v e y l q = let a = var_high v y in let b : kind v ≡ kind e = ap kind q in omega arith

met : (v e : Element) (es : List Element) → among v (e ∷ es) ≡ true → (v ≡ e) ⊎ (among v es ≡ true)
unfolding among
met v e es h = elim (see (same v e)) [ is_true z ↦ inl (same_eq v e z) | is_false z ↦ inr (rw z at h) ]

variable_of : {d : ℕ} {l : List Element} → LeftSide d l → (v : Element) → among v l ≡ true → is_variable v ≡ true
    → (k : ℕ) × (n : ℕ) × Variable k n × (v ≡ k ∷ n ∷ [])
unfolding among
variable_of l_end v m y = never (cc)
variable_of (l_symbol {e} {es} s w r) v m y =
    elim (met v e es m) [ inl q ↦ absurd (low_other v e y (let z = symbol_low e s in omega arith) q) | inr i ↦ variable_of r v i y ]
variable_of (l_open {es} r) v m y = elim (met v (4 ∷ []) es m) [ inl q ↦ absurd (low_other v (4 ∷ []) y (omega arith) q) | inr i ↦ variable_of r v i y ]
variable_of (l_close {es} r) v m y = elim (met v (5 ∷ []) es m) [ inl q ↦ absurd (low_other v (5 ∷ []) y (omega arith) q) | inr i ↦ variable_of r v i y ]
variable_of (l_variable {k} {n} {es} w r) v m y = elim (met v (k ∷ n ∷ []) es m) [ inl q ↦ (k, n, w, q) | inr i ↦ variable_of r v i y ]

abbrev value_for : List ℕ → List ℕ → Element → List ℕ
value_for f b v = value_of f b (slot_of (kind v) (get_or v 1 0))

-- what the table holds of a variable
pub record Valued (f b : List ℕ) (env : Env) (v : Element) : Type 0 where
  held : Held f b v
  is : env v ≡ some (elements (value_for f b v))
  stands : Stands (role v) v (elements (value_for f b v))
  whole : Whole (elements (value_for f b v))

pub valued : (f b : List ℕ) (env : Env) {l : List Element} → LeftSide 0 l → ((k n : ℕ) → Variable k n → among (k ∷ n ∷ []) l ≡ true → Bound f b env k n)
    → (v : Element) → among v l ≡ true → is_variable v ≡ true → Valued f b env v
unfolding value_of
valued f b env {l} s g v m y = go (variable_of s v m y)
  where
    go : (k : ℕ) × (n : ℕ) × Variable k n × (v ≡ k ∷ n ∷ []) → Valued f b env v
    go (k, n, w, q) =
        let i = g k n w (rw q at m) in
        let h = i.held in
        subst (Valued f b env) (sym q)
        (record {
          held = record { low = (let z = w.small in omega arith); up = h.up; fits = h.fits };
          is = i.is;
          stands = h.stands;
          whole = proper_whole h.proper;
        })

given-value : (f b : List ℕ) (env : Env) (v : Element) → Valued f b env v → given env v ≡ elements (value_for f b v)
unfolding given
given-value f b env v i = rw (i.is, given)

-- PUTTING VALUES IN
piece_var : (f b : List ℕ) (e : Element) → is_variable e ≡ true → piece f b e ≡ value_for f b e
unfolding piece
piece_var f b e h = rw h

piece_plain : (f b : List ℕ) (e : Element) → is_variable e ≡ false → piece f b e ≡ e
unfolding piece
piece_plain f b e h = rw h

join_one : (e : Element) → join (e ∷ []) ≡ e
unfolding join
join_one e = append-nil e

module _ (f b : List ℕ) (env : Env) (itself : (e : Element) → is_variable e ≡ false → given env e ≡ e ∷ []) where
  abbrev pub Has : List Element → Type 0
  Has r = (v : Element) → among v r ≡ true → is_variable v ≡ true → Valued f b env v

  has_first : (e : Element) (r : List Element) → Has (e ∷ r) → is_variable e ≡ true → Valued f b env e
  unfolding among
  has_first e r g v = g e (rw same_refl) v

  has_rest : (e : Element) (r : List Element) → Has (e ∷ r) → Has r
  unfolding among
  has_rest e r g v m i = g v (rw m (or_right (same v e))) i

  pub ready : (r : List Element) → Has r → Ready f b r
  ready [] g = ready_none
  ready (e ∷ r) g = ready_more (λ v. (has_first e r g v).held) (ready r (has_rest e r g))

  pub poured : (r : List Element) → Has r → pour f b r ≡ join (put (given env) r)
  unfolding pour put join
  poured [] g = refl
  poured (e ∷ r) g =
      join_both (elim (see (is_variable e)) [
        | is_true v ↦ piece_var f b e v ∙ sym (join-cut (value_for f b e)) ∙ ap join (sym (given-value f b env e (has_first e r g v)))
        | is_false v ↦ piece_plain f b e v ∙ sym (join_one e) ∙ ap join (sym (itself e v))
      ]) (poured r (has_rest e r g))
    where
      join_both : piece f b e ≡ join (given env e) → pour f b r ≡ join (put (given env) r) → piece f b e ++ pour f b r ≡ join (given env e ++ put (given env) r)
      join_both p q = ap₂ {C = List ℕ} (λ (x y : List ℕ). x ++ y) p q ∙ sym (join-append (given env e) (put (given env) r))

  pub put_whole : (r : List Element) → Whole r → Has r → Whole (put (given env) r)
  unfolding put
  put_whole r w_none g = w_none
  put_whole r (w_more {k} {b = bs} {es} h w) g =
      whole_append {xs = given env (k ∷ bs)}
      (elim (see (is_variable (k ∷ bs))) [
        | is_true v ↦ (let i = has_first (k ∷ bs) es g v in subst Whole (sym (given-value f b env (k ∷ bs) i)) i.whole)
        | is_false v ↦ subst Whole (sym (itself (k ∷ bs) v)) (w_more h w_none)
      ])
      (put_whole es w (has_rest (k ∷ bs) es g))

-- A VALUE HOLDS NO CALL
holds-cons : (k : ℕ) (e : Element) (es : List Element) → (kind e ≡ k → ⊥) → holds k es ≡ false → holds k (e ∷ es) ≡ false
unfolding holds
holds-cons k e es n h = rw (ne_eqb (kind e) k n) h

holds-nil : (k : ℕ) → holds k [] ≡ false
unfolding holds
holds-nil k = refl

run-calm : {n : ℕ} {xs : List Element} (k : ℕ) → 5 < k → Terms n xs → holds k xs ≡ false
run-calm k h stop = holds-nil k
run-calm k h (symbol {e} {es} s r) = let l = symbol_low e s in holds-cons k e es (λ q. omega arith) (run-calm k h r)
run-calm k h (bracket {xs} {es} {zs} r q e) =
    holds-cons k (4 ∷ []) zs (λ z. omega arith)
    (rw e (holds-append k xs ((5 ∷ []) ∷ es) ∙ rw (run-calm k h r) (holds-cons k (5 ∷ []) es (λ z. omega arith) (run-calm k h q))))

stands-calm : (k : ℕ) → 5 < k → k < 8 → (t : Role) (e : Element) (v : List Element) → is_variable e ≡ true → Stands t e v → holds k v ≡ false
stands-calm k h l s_var e v y (x, s, q) = let z = symbol_low x s in rw q (holds-cons k x [] (λ w. omega arith) (holds-nil k))
stands-calm k h l t_var e v y r = run-calm k h r
stands-calm k h l e_var e v y (n, r) = run-calm k h r
stands-calm k h l plain e v y q = let z = var_high e y in rw q (holds-cons k e [] (λ w. omega arith) (holds-nil k))

value_long : (f b : List ℕ) (v : Element) → Held f b v → is_variable v ≡ true → length (value_for f b v) ≡ span_of b v
unfolding value_of span_of
value_long f b v d y =
    let from : ℕ = get_or b (slot_of (kind v) (get_or v 1 0)) 0 in
    let to : ℕ = get_or b (slot_of (kind v) (get_or v 1 0) + 48) 0 in
    rw y (let u = d.up in let w = d.fits in omega (arith, length-take (to - from) (drop from f), length-drop from f))

pub calm : (f b : List ℕ) (env : Env) (v : Element) → is_variable v ≡ true → Valued f b env v → Calm f b v (given env v)
unfolding size
calm f b env v y i =
    let g = given-value f b env v i in
    record {
      held = i.held;
      no6 = rw g (stands-calm 6 (omega arith) (omega arith) (role v) v _ y i.stands);
      no7 = rw g (stands-calm 7 (omega arith) (omega arith) (role v) v _ y i.stands);
      long = rw g (ap length (join-cut (value_for f b v)) ∙ value_long f b v i.held y);
    }
