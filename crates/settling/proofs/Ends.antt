-- Where the value of one element ends.
use mathlib.Core.Path.{◌≡◌, refl, sym, ◌∙◌, ap}
use mathlib.Core.Bool.{true, false}
use mathlib.Core.Option.{none}
use mathlib.Core.List.{List, [], ◌∷◌, ◌++◌}
use Prim.Native.Nat.{ℕ, ◌+◌, ◌-◌, ◌/◌, ◌%◌, ◌≤◌, ◌<◌}
use native.Mathlib.Omega.{arith}
use lib.ListN.{length, get_or, take, drop, length-append, length-drop, take-append-drop}
use lib.Seq.{take_at, drop-drop}
use lib.Dec.{eqb}
use borrow.Author.Tests.{le-leb, eqb-true, eqb-false, ne_eqb}
use Rattle.meaning.specs.Elements.{kind, body, elements, join, is_variable}
use Rattle.meaning.specs.Goodness.{span}
use Rattle.meaning.specs.Matching.{s_var, t_var, e_var, plain, role, exact, fresh, known}
use Rattle.meaning.proofs.Truth.{never, is_true, is_false, see}
use Rattle.meaning.proofs.Cutting.{cut-join, join-cut, join-append}
use Rattle.meaning.proofs.Searching.{exact_here, exact_each, fresh_each, second_term}
use Rattle.meaning.proofs.Trying.{no_way, symbol_way}
use Rattle.kinds.specs.Slots.{slot_of, within, value_of}
use Rattle.std.specs.Prelude.{Some, None, IfSome, MatchOption}
use Rattle.std.proofs.Common.{Bor}
use Rattle.std.specs.Prelude as P
use Rattle.elements.specs.Reading.{Whole1, Proper, none, more, SymbolEnd, symbol_at, no_symbol, TermEnd, term_at, no_term}
use Rattle.settling.specs.Values.{Variable, ValueEnd, stands_at, differs, Table, Slotted, of_variable, of_fixed, Placed, Meant, itself, valued, Open, Single, Ways, one_way, no_ways, OnlyEnd}
use Rattle.settling.proofs.Sides.{proper_whole, bare, symbol_whole, one_element, l_head, h_symbol, h_open, h_close, h_variable}
use Rattle.settling.proofs.Slots.{env_settled, env_open, env_fixed, slot_small}

-- A VALUE AT A PLACE

module _ (value arg : List ℕ) (at : ℕ) (proper : Proper (elements value)) (fits : at ≤ length arg) where
  -- the bytes there are the value's: the elements are too
  pub value_there : (n : ℕ) → n ≡ length value → n ≤ length arg - at → elements value ≡ elements (take (at + n - at) (drop at arg)) → ValueEnd (elements value) arg at (Some (at + n))
  value_there n en l q =
      let z : at + n - at ≡ n = omega arith in
      let e : value ≡ take n (drop at arg) = (sym (join-cut value) ∙ ap join q ∙ join-cut _ ∙ rw z) in
      let d : drop at arg ≡ value ++ drop (at + n) arg = (sym (take-append-drop n (drop at arg)) ∙ rw (← e, drop-drop n at arg)) in
      let h : elements (drop at arg) ≡ elements value ++ elements (drop (at + n) arg) =
      (ap elements d ∙ (rw join-cut at (cut-join (proper_whole proper) (drop (at + n) arg)))) in
      stands_at {t = at + n} (record { on = omega arith; fits = omega arith; front = h })

  -- what begins with the value's elements begins with its bytes
  begins : (r : List (List ℕ)) → elements (drop at arg) ≡ elements value ++ r → drop at arg ≡ value ++ join r
  begins r q = sym (join-cut (drop at arg)) ∙ ap join q ∙ join-append (elements value) r ∙ rw (join-cut value)

  pub value_elsewhere : (n : ℕ) → n ≡ length value → (elements value ≡ elements (take (at + n - at) (drop at arg)) → ⊥) → ValueEnd (elements value) arg at None
  value_elsewhere n en f =
      differs (λ r q.
      let z : at + n - at ≡ length value = omega arith in
      f (ap elements (rw (z, begins r q) (sym (take_at value (join r) (length value) refl)))))

  pub value_long : length arg - at < length value → ValueEnd (elements value) arg at None
  value_long l =
      differs (λ r q. never (let e = simp (length-append, length-drop) at (ap length (begins r q)) in omega arith))

-- ROLES BY KINDS

pub role_fixed : (e : List ℕ) → is_variable e ≡ false → role e ≡ plain
unfolding role is_variable
role_fixed e h =
    let f : (8 ≤ kind e) → (kind e ≤ 10) → ⊥ = λ a b. never (let q : true ≡ false = rw (le-leb 8 (kind e) a, le-leb (kind e) 10 b) at h in cc) in
    rw (ne_eqb (kind e) 8 (λ q. f (omega arith) (omega arith)), ne_eqb (kind e) 9 (λ q. f (omega arith) (omega arith)), ne_eqb (kind e) 10 (λ q. f (omega arith) (omega arith)))

pub data Roles (k n : ℕ) : Type 0 where
  s_role : k ≡ 8 → role (k ∷ n ∷ []) ≡ s_var → Roles k n
  t_role : k ≡ 9 → role (k ∷ n ∷ []) ≡ t_var → Roles k n
  e_role : k ≡ 10 → role (k ∷ n ∷ []) ≡ e_var → Roles k n

pub roles : {k n : ℕ} → Variable k n → Roles k n
unfolding role
roles {k} {n} v =
    elim (see (eqb k 8)) [
      | is_true z ↦ s_role (eqb-true k 8 z) (rw z)
      | is_false z ↦
          elim (see (eqb k 9)) [
            | is_true w ↦ t_role (eqb-true k 9 w) (rw (z, w))
            | is_false w ↦
                let e : k ≡ 10 = (let a = v.low in let b = v.high in let c = eqb-false k 8 z in let d = eqb-false k 9 w in omega arith) in
                e_role e (rw e)
          ]
    ]

is_variable_lem : {k n : ℕ} → Variable k n → (n' : ℕ) → is_variable (k ∷ n' ∷ []) ≡ true
unfolding is_variable
is_variable_lem {k} v n' = rw (le-leb 8 k v.low, le-leb k 10 v.high)

-- THE ONLY WAY OF AN ELEMENT

-- a value that has to stand there
exact_ways : (v : List (List ℕ)) (arg : List ℕ) (at : ℕ) {r : P.Option ℕ} → ValueEnd v arg at r → Ways (exact v (elements (drop at arg))) arg at r
exact_ways v arg at (stands_at {t} p) = one_way {v = v} {t = t} (rw p.front (exact_here v (elements (drop t arg)))) p
exact_ways v arg at (differs f) = no_ways (no_way (exact_each v (elements (drop at arg))) (λ u r (i, q). f r q))

symbol_ways : (p : List ℕ) (arg : List ℕ) (at : ℕ) {r : P.Option ℕ} → SymbolEnd arg at r → Ways (fresh s_var p (elements (drop at arg))) arg at r
unfolding fresh
symbol_ways p arg at (symbol_at {e} {t} h q) = one_way {v = e ∷ []} {t = t} (rw q.front (symbol_way e (elements (drop t arg)) h)) q
symbol_ways p arg at (no_symbol f) = no_ways (no_way (fresh_each s_var p (elements (drop at arg))) (λ u r ((x, h, i), q). f x r h (rw i at q)))

term_ways : (p : List ℕ) (arg : List ℕ) (at : ℕ) {r : P.Option ℕ} → TermEnd arg at r → Ways (fresh t_var p (elements (drop at arg))) arg at r
unfolding fresh
term_ways p arg at (term_at {v} {t} h q) = one_way {v = v} {t = t} (rw q.front (second_term h (elements (drop t arg)))) q
term_ways p arg at (no_term f) = no_ways (no_way (fresh_each t_var p (elements (drop at arg))) (λ u r (h, q). f u r h q))

-- A SLOT

pub slotted_small : {e : List ℕ} {slot : P.Option ℕ} → Slotted e slot → IfSome slot (λ s. s < 48)
slotted_small (of_variable v q z) = let l = slot_small v in omega arith
slotted_small (of_fixed f) = tt

-- the variable of a slot
slot_variable : (s : ℕ) → s < 48 → Variable (8 + s / 16) (s % 16)
slot_variable s h = record { low = omega arith; high = omega arith; small = omega arith }

slot_back : (s : ℕ) → slot_of (8 + s / 16) (s % 16) ≡ s
slot_back s = omega arith

pub record HeldIn (arg b : List ℕ) (s : ℕ) : Type 0 where
  pub up : get_or b s 0 ≤ get_or b (s + 48) 0
  pub fits : get_or b (s + 48) 0 ≤ length arg
  pub proper : Proper (elements (value_of arg b s))

-- its value lies in the argument
pub held_in : {arg b : List ℕ} {m : ℕ} → Table arg b m → (s : ℕ) → s < 48 → within m s ≡ true → HeldIn arg b s
held_in {arg} {b} t s h w =
    let k = slot_back s in
    let e = t.held _ _ (slot_variable s h) (rw k w) in
    let r : HeldIn arg b (slot_of (8 + s / 16) (s % 16)) = record { up = e.up; fits = e.fits; proper = e.proper } in
    rw k at r

-- an element without a slot is whole
pub fixed_element : {e : List ℕ} {slot : P.Option ℕ} → Placed e slot → slot ≡ None → is_variable e ≡ false
fixed_element {e} p q = go (rw q at p.slotted)
  where
    go : Slotted e None → is_variable e ≡ false
    go (of_fixed f) = f

pub fixed_whole : {e : List ℕ} {slot : P.Option ℕ} → Placed e slot → slot ≡ None → Whole1 e
fixed_whole {e} p q =
    let f = fixed_element p q in
    elim (l_head p.left_side) [
      | h_symbol t l r ↦ symbol_whole e t l
      | h_open q r ↦ rw q (bare 4 (unfold span in refl) (unfold body in refl))
      | h_close d q r ↦ rw q (bare 5 (unfold span in refl) (unfold body in refl))
      | h_variable {k} {n} v q r ↦ never (let i : is_variable e ≡ true = rw q (is_variable_lem v n) in cc)
    ]

-- what is meant holds whole elements
pub meant_proper : {e : List ℕ} {slot : P.Option ℕ} {arg b : List ℕ} {m : ℕ} {v : List ℕ} → Placed e slot → Table arg b m → Meant e slot arg b m v → Proper (elements v)
meant_proper {e} p t (itself q z) = rw (z, one_element e (fixed_whole p q)) (more (fixed_whole p q) none)
meant_proper {slot = slot} p t (valued {s} q w z) = rw z (held_in t s (rw q at (slotted_small p.slotted)) w).proper

pub meant_value : (e : List ℕ) {slot : P.Option ℕ} (arg b : List ℕ) (m : ℕ) {s : ℕ} (r : P.Option (Bor (List ℕ))) → slot ≡ Some s
    → MatchOption r (within m s ≡ false) (λ v. (within m s ≡ true) × (v.now ≡ value_of arg b s)) → MatchOption r (Open slot m) (λ v. Meant e slot arg b m v.now)
meant_value e arg b m {s} None q w = record { s = s; is = q; free = w }
meant_value e arg b m (Some v) q w = valued q w.0 w.1

module _ {e : List ℕ} {slot : P.Option ℕ} {arg : List ℕ} {at : ℕ} {b : List ℕ} {m : ℕ} (s : Single e slot arg at b m) where
  pub meant_only : {v : List ℕ} (r : P.Option ℕ) → Meant e slot arg b m v → ValueEnd (elements v) arg at r → OnlyEnd e arg at b m r
  unfolding known fresh
  meant_only r (itself q z) v =
      let f = fixed_element s.placed q in
      record { ways = rw (env_fixed arg b m e f, role_fixed e f) (exact_ways (e ∷ []) arg at (rw (z, one_element e (fixed_whole s.placed q)) at v)) }
  meant_only r (valued {s = t} q w z) v = go (rw q at s.placed.slotted)
    where
      go : Slotted e (Some t) → OnlyEnd e arg at b m r
      go (of_variable x y o) = record { ways = rw (y, env_settled arg b m x (rw o at w)) (exact_ways _ arg at (rw (z, o) at v)) }

  -- or what it may mean
  pub symbol_only : (r : P.Option ℕ) (o : Open slot m) → o.s < 16 → SymbolEnd arg at r → OnlyEnd e arg at b m r
  unfolding known
  symbol_only r o h v = go (rw o.is at s.placed.slotted)
    where
      go : Slotted e (Some o.s) → OnlyEnd e arg at b m r
      go (of_variable {k} {n} x y z) =
          elim (roles x) [
            | s_role c f ↦ record { ways = rw (y, env_open arg b m x (rw z at o.free), f) (symbol_ways _ arg at v) }
            | t_role c f ↦ never (omega arith)
            | e_role c f ↦ never (omega arith)
          ]

  pub term_only : (r : P.Option ℕ) (o : Open slot m) → 16 ≤ o.s → TermEnd arg at r → OnlyEnd e arg at b m r
  unfolding known
  term_only r o h v = go (rw o.is at s.placed.slotted)
    where
      go : Slotted e (Some o.s) → OnlyEnd e arg at b m r
      go (of_variable {k} {n} x y z) =
          let c = x.small in
          elim (roles x) [
            | s_role d f ↦ never (omega arith)
            | t_role d f ↦ record { ways = rw (y, env_open arg b m x (rw z at o.free), f) (term_ways _ arg at v) }
            | e_role d f ↦ absurd (s.only o.s o.is (record { low = omega arith; high = let l = slot_small x in omega arith; free = o.free }))
          ]
