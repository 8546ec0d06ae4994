-- The table of functions.
use mathlib.Core.Path.{◌≡◌, refl, sym, ◌∙◌, ap}
use mathlib.Core.Bool.{Bool, true, false}
use mathlib.Core.List.{List, [], ◌∷◌}
use Prim.Native.Nat.{ℕ, ◌+◌, ◌-◌, ◌*◌, ◌≤◌, ◌<◌}
use native.Mathlib.Omega.{arith}
use lib.ListN.{length, get_or, take, drop, set, length-set, replicate, length-replicate, get_or-replicate}
use lib.Seq.{get_or-set_same, get_or-set_other}
use lib.Dec.{eqb}
use borrow.Author.Tests.{eqb-true, eqb-false}
use Rattle.meaning.specs.Elements.{body, same}
use Rattle.meaning.specs.Machine.{function}
use Rattle.meaning.proofs.Truth.{never, Seen, is_true, is_false, see}
use Rattle.elements.specs.declared.Cursor.{Cursor}
use Rattle.elements.specs.Bytes.{digits, Told}
use Rattle.elements.specs.Reading.{NumberedAt, PassedOver}
use Rattle.std.specs.Prelude.{Some, None}
use Rattle.choosing.specs.Choose.{rest_of, element_at, Program, Looked, nowhere, slot_for, Entry, empty, taken, Indexed, Cache}
use Rattle.choosing.proofs.Rest.{rest_is, rest_within, rest_rest, header_fits, rest_end, number_is, no_header, header_same, bodies_first, named_here}

slot_low : (n : ℕ) → slot_for n < 8192
slot_low n = omega arith

pub empty_cache : (p : List ℕ) → Program p → Cache p (record { read = 0; spots = replicate 8192 0 })
empty_cache p g =
    record {
      upto = omega arith;
      whole = g.whole;
      bodies = g.bodies;
      long = length-replicate {A = ℕ} 8192 0;
      each = λ lo hi. empty (get_or-replicate {A = ℕ} 8192 (slot_for (lo + hi * 256)) 0 0 (slot_low (lo + hi * 256))) refl;
    }

-- ONE ELEMENT
module _ {p : List ℕ} {i : ℕ} {spots : List ℕ} (x : Indexed p i spots) (h : i < length p) {k n : ℕ} (q : PassedOver p i k n) where
  fits : i + 1 + body (get_or p i 0) ≤ length p
  fits = rest_within p i h x.whole

  not_here : (name : List ℕ) → same (element_at p i) (13 ∷ name) ≡ false → function name (rest_of p i) ≡ function name (rest_of p n)
  unfolding function
  not_here name z = rw q.next_is (ap (function name) (rest_is p i h x.whole) ∙ rw (z, function))

  on : (spots' : List ℕ) → length spots' ≡ 8192 → ((lo hi : ℕ) → Entry p n lo hi (get_or spots' (slot_for (lo + hi * 256)) 0)) → Indexed p n spots'
  on spots' l e =
      record {
        upto = rw q.next_is fits;
        whole = rw q.next_is (rest_rest p i h x.whole);
        bodies = rw q.next_is (bodies_first _ _ x.bodies (rest_is p i h x.whole)).1;
        long = l;
        each = e;
      }

  -- an entry that is not about the element
  passed : (lo hi : ℕ) {s : ℕ} → (s ≡ 0 → same (element_at p i) (13 ∷ lo ∷ hi ∷ []) ≡ false) → Entry p i lo hi s → Entry p n lo hi s
  passed lo hi f (empty z e) = empty z (e ∙ not_here (lo ∷ hi ∷ []) (f z))
  passed lo hi f (taken b e l g) = taken b e l g

  pub index_other : (k ≡ 13 → ⊥) → Indexed p n spots
  index_other f = on spots x.long (λ lo hi. passed lo hi (λ _. no_header p i fits (λ e. f (q.kind_is ∙ e)) _) (x.each lo hi))

  -- a header, with its name's number
  module _ (e13 : k ≡ 13) {number next : ℕ} (r : NumberedAt p i 13 number next) where
    -- a name with another place is another name
    other_slot : (lo hi : ℕ) → (slot_for (lo + hi * 256) ≡ slot_for number → ⊥) → same (element_at p i) (13 ∷ lo ∷ hi ∷ []) ≡ false
    unfolding body
    other_slot lo hi ne =
        header_same p i fits (sym q.kind_is ∙ e13) r false _ (λ e. ne (let m : number ≡ lo + hi * 256 = number_is r.small e in rw m))

    pub header_kept : (get_or spots (slot_for number) 0 ≡ 0 → ⊥) → Indexed p n spots
    header_kept ne = on spots x.long (λ lo hi. passed lo hi (λ z. other_slot lo hi (λ e. ne (rw (← e) z))) (x.each lo hi))

    pub header_new : get_or spots (slot_for number) 0 ≡ 0 → Indexed p n (set spots (slot_for number) (i + 1))
    unfolding body
    header_new z = on (set spots (slot_for number) (i + 1)) (length-set spots (slot_for number) (i + 1) ∙ x.long) (λ lo hi. entry lo hi (see _))
      where
        room : i + 3 ≤ length p
        room = let w : i + 1 + 2 ≤ length p = header_fits h x.whole q e13 in omega arith

        looked : (lo hi : ℕ) → slot_for (lo + hi * 256) ≡ slot_for number → take 2 (drop (i + 1) p) ≡ lo ∷ hi ∷ [] → Looked p (lo ∷ hi ∷ []) (Some (record { at = i + 3 }))
        looked lo hi es e = go (x.each lo hi)
          where
            go : Entry p i lo hi (get_or spots (slot_for (lo + hi * 256)) 0) → Looked p (lo ∷ hi ∷ []) (Some (record { at = i + 3 }))
            go (taken b f l g) = never (let w : get_or spots (slot_for (lo + hi * 256)) 0 ≡ 0 = rw es z in omega arith)
            go (empty w f) =
                let m : n ≡ i + 1 + 2 = (let k13 : get_or p i 0 ≡ 13 = sym q.kind_is ∙ e13 in rw k13 at q.next_is) in
                named_here (record { upto = x.upto; whole = x.whole; bodies = x.bodies; so = f }) h q e13 r {b = true} (r.bytes ∙ e) refl _ (omega arith)

        entry : (lo hi : ℕ) → Seen (eqb (slot_for (lo + hi * 256)) (slot_for number)) → Entry p n lo hi (get_or (set spots (slot_for number) (i + 1)) (slot_for (lo + hi * 256)) 0)
        entry lo hi (is_true w) =
            let e = eqb-true (slot_for (lo + hi * 256)) (slot_for number) w in
            let l = x.long in
            let g : get_or (set spots (slot_for number) (i + 1)) (slot_for (lo + hi * 256)) 0 ≡ i + 1 =
            rw e (get_or-set_same spots (slot_for number) (i + 1) 0 (let s = slot_low number in omega arith)) in
            rw g (taken {s = i + 1} i refl room (looked lo hi e))
        entry lo hi (is_false w) =
            let e = eqb-false (slot_for (lo + hi * 256)) (slot_for number) w in
            rw (get_or-set_other spots (slot_for number) (slot_for (lo + hi * 256)) (i + 1) 0 e) (passed lo hi (λ _. other_slot lo hi e) (x.each lo hi))

-- WHAT THE TABLE SAYS
module _ {p : List ℕ} {i : ℕ} {spots : List ℕ} (x : Indexed p i spots) (lo hi : ℕ) where
  pub table_none : get_or spots (slot_for (lo + hi * 256)) 0 ≡ 0 → i ≡ length p → Looked p (lo ∷ hi ∷ []) None
  unfolding function
  table_none z e = go (x.each lo hi)
    where
      go : Entry p i lo hi (get_or spots (slot_for (lo + hi * 256)) 0) → Looked p (lo ∷ hi ∷ []) None
      go (taken b f l g) = never (omega arith)
      go (empty w f) = nowhere (f ∙ ap (function (lo ∷ hi ∷ [])) (rest_end p i (omega arith)))

  module _ (s : ℕ) (e : s ≡ get_or spots (slot_for (lo + hi * 256)) 0) (n : s ≡ 0 → ⊥) where
    pub table_in : (1 ≤ s) × (s - 1 + 1 + body 13 ≤ length p)
    unfolding body
    table_in = go (x.each lo hi)
      where
        go : Entry p i lo hi (get_or spots (slot_for (lo + hi * 256)) 0) → (1 ≤ s) × (s - 1 + 1 + 2 ≤ length p)
        go (taken b f l g) = (omega arith, omega arith)
        go (empty w f) = absurd (n (e ∙ w))

    pub table_some : {m next : ℕ} → NumberedAt p (s - 1) 13 m next → {t : Bool} → Told t (digits 2 m ≡ lo ∷ hi ∷ []) → t ≡ true → (c : Cursor) → c.at ≡ next → Looked p (lo ∷ hi ∷ []) (Some c)
    unfolding body
    table_some {m} {next} r {t} d z c k = go (x.each lo hi)
      where
        go : Entry p i lo hi (get_or spots (slot_for (lo + hi * 256)) 0) → Looked p (lo ∷ hi ∷ []) (Some c)
        go (taken b f l g) =
            let q : s - 1 ≡ b = omega arith in
            let j : c.at ≡ b + 3 = (let y : next ≡ s - 1 + 1 + 2 = r.next_is in omega arith) in
            let o : digits 2 m ≡ lo ∷ hi ∷ [] = rw z at d in
            rw (← j) at (g (sym (rw q at r.bytes) ∙ o))
        go (empty w f) = absurd (n (e ∙ w))
