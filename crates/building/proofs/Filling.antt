-- A side measured, built and noted, element by element.
use mathlib.Core.Path.{◌≡◌, refl, sym, ◌∙◌, ap, subst}
use mathlib.Core.Bool.{true, false, ◌&&◌, cond}
use mathlib.Core.Logic.{◌⊎◌, inl, inr}
use Rattle.std.specs.Prelude.{Some, None}
use Rattle.building.specs.declared.Extent.{Extent}
use mathlib.Core.List.{List, [], ◌∷◌, ◌++◌, append_assoc, append-nil}
use Prim.Native.Nat.{ℕ, ◌+◌, ◌-◌, ◌≤◌, ◌<◌}
use native.Mathlib.Omega.{arith}
use native.Mathlib.Numerals.{add-one}
use lib.ListN.{length, get_or, take, drop, set, length-set}
use lib.Seq.{sets}
use lib.Dec.{eqb, leb}
use borrow.Author.Tests.{eqb-true, lt-leb}
use Rattle.meaning.specs.Elements.{Element, size, is_variable}
use Rattle.meaning.proofs.Truth.{never, Seen, is_true, is_false, see}
use Rattle.meaning.proofs.Cutting.{Whole, size-append}
use Rattle.scanning.specs.State.{is_call}
use Rattle.scanning.proofs.Marks.{size-nil, size-cons}
use Rattle.building.specs.Build.{side_of, piece, pour, Ready, span_of, spans, calls_of, placed, Pivot, at_end, at_variable, Measured}
use Rattle.building.proofs.Sides.{side_end}
use Rattle.building.proofs.Spans.{span_plain, Walk, call_by_kind, variable_by_kind, calls_one, calls_none, placed_one, placed_none, spans_now}

nothing_left : (p : List ℕ) (at to : ℕ) (b : List ℕ) → to ≤ at → to ≤ length p → (spans b (side_of p at to) ≡ 0) × (calls_of (side_of p at to) ≡ 0)
unfolding spans calls_of
nothing_left p at to b h l = let e = side_end p at to h l in (rw e, rw e)

-- MEASURED
pub record Measuring (p : List ℕ) (from to : ℕ) (f b : List ℕ) (limit at n calls pivot : ℕ) : Type 0 where
  pub done : List Element
  pub parts : side_of p from to ≡ done ++ side_of p at to
  pub place : at ≡ from + size done
  pub upto : at ≤ to
  pub whole : Whole (side_of p at to)
  pub ready : Ready f b (side_of p at to)
  pub n_so : n + spans b (side_of p at to) ≡ spans b (side_of p from to)
  pub room : n ≤ limit
  pub calls_so : calls + calls_of (side_of p at to) ≡ calls_of (side_of p from to)
  pub few : calls ≤ at
  pub pivot_is : Pivot p from to pivot

none_some : {A B : Type 0} {x : A} → None ≡ Some x → B
none_some e = never (cc)

some_none : {A B : Type 0} {x : A} → Some x ≡ None → B
some_none e = never (cc)

pub measuring_start : (p : List ℕ) (from to : ℕ) (f b : List ℕ) (limit : ℕ) → from ≤ to → Whole (side_of p from to) → Ready f b (side_of p from to) → Measuring p from to f b limit from 0 0 to
measuring_start p from to f b limit h w r =
    record { done = []; parts = refl; place = omega (arith, size-nil); upto = h; whole = w; ready = r; n_so = omega arith; room = omega arith; calls_so = omega arith; few = omega arith; pivot_is = at_end }

module _ (p : List ℕ) (from to : ℕ) (f b : List ℕ) (limit at n calls pivot : ℕ) (i : Measuring p from to f b limit at n calls pivot) where
  module _ (len : ℕ) (w : Walk p at to f b len) where
    pub measured_no : limit - n < span_of b (take len (drop at p)) → Measured p from to b limit None
    measured_no h = record { yes = λ x z. none_some z; no = λ _. (let r = i.room in omega (arith, i.n_so, spans_now w)) }

    pub measuring_more : (calls' pivot' : ℕ) → calls' ≡ cond (is_call (get_or p at 0 ∷ [])) (calls + 1) calls → (pivot' ≡ pivot) ⊎ ((is_variable (get_or p at 0 ∷ []) ≡ true) × (pivot' ≡ at))
        → span_of b (take len (drop at p)) ≤ limit - n → Measuring p from to f b limit (at + len) (n + span_of b (take len (drop at p))) calls' pivot'
    measuring_more calls' pivot' ec ep h =
        let r = i.room in
        let ws = w.some in
        let fw = i.few in
        record {
          done = i.done ++ (take len (drop at p) ∷ []);
          parts = i.parts ∙ ap {B = List Element} (λ l. i.done ++ l) w.is ∙ sym (append_assoc i.done (take len (drop at p) ∷ []) (side_of p (at + len) to));
          place = omega (arith, i.place, size-append i.done (take len (drop at p) ∷ []), size-cons (take len (drop at p)) [], size-nil, w.long);
          upto = w.within;
          whole = w.whole;
          ready = w.ready;
          n_so = omega (arith, i.n_so, spans_now w);
          room = omega arith;
          calls_so = count.0;
          few = count.1;
          pivot_is = go ep;
        }
      where
        count : (calls' + calls_of (side_of p (at + len) to) ≡ calls_of (side_of p from to)) × (calls' ≤ at + len)
        count =
            let q = call_by_kind (take len (drop at p)) (get_or p at 0) w.sort in
            let ws = w.some in
            let fw = i.few in
            elim (see (is_call (get_or p at 0 ∷ []))) [
              | is_true z ↦
                  (let e : calls' ≡ calls + 1 = rw z at ec in
                  let k = calls_one b (take len (drop at p)) (side_of p (at + len) to) (q ∙ z) in
                  (omega (arith, e, i.calls_so, ap calls_of w.is, k), omega (arith, e)))
              | is_false z ↦
                  (let e : calls' ≡ calls = rw z at ec in
                  let k = calls_none b (take len (drop at p)) (side_of p (at + len) to) (q ∙ z) in
                  (omega (arith, e, i.calls_so, ap calls_of w.is, k), omega (arith, e)))
            ]

        go : (pivot' ≡ pivot) ⊎ ((is_variable (get_or p at 0 ∷ []) ≡ true) × (pivot' ≡ at)) → Pivot p from to pivot'
        go (inl e) = subst (Pivot p from to) (sym e) i.pivot_is
        go (inr (v, e)) =
            at_variable i.done (take len (drop at p)) (side_of p (at + len) to) (i.parts ∙ ap {B = List Element} (λ l. i.done ++ l) w.is) (e ∙ i.place)
            (variable_by_kind (take len (drop at p)) (get_or p at 0) w.sort ∙ v)

  pub measured_all : to ≤ at → to ≤ length p → Measured p from to b limit (Some (record { size = n; calls = calls; pivot = pivot }))
  measured_all h l =
      let (s0, c0) = nothing_left p at to b h l in
      record { yes = found_as (omega (arith, i.n_so, s0), i.room, omega (arith, i.calls_so, c0), i.pivot_is); no = λ z. some_none z }
    where
      found_as : (spans_in : (n ≡ spans b (side_of p from to)) × (n ≤ limit) × (calls ≡ calls_of (side_of p from to)) × Pivot p from to pivot) → (x : Extent) → Some (record { size = n; calls = calls; pivot = pivot }) ≡ Some x
          → (x.size ≡ spans b (side_of p from to)) × (x.size ≤ limit) × (x.calls ≡ calls_of (side_of p from to)) × Pivot p from to x.pivot
      found_as k x z =
          let e : ◌≡◌ {A = Extent} (record { size = n; calls = calls; pivot = pivot }) x = cc in
          subst (λ (x : Extent). (x.size ≡ spans b (side_of p from to)) × (x.size ≤ limit) × (x.calls ≡ calls_of (side_of p from to)) × Pivot p from to x.pivot) e k

-- BUILT
pub record Building (p : List ℕ) (from to : ℕ) (f b out₀ : List ℕ) (start : ℕ) (out : List ℕ) (at n : ℕ) : Type 0 where
  pub upto : at ≤ to
  pub whole : Whole (side_of p at to)
  pub ready : Ready f b (side_of p at to)
  pub long : length out ≡ length out₀
  pub n_so : n + spans b (side_of p at to) ≡ start + spans b (side_of p from to)
  pub so : take n out ++ pour f b (side_of p at to) ≡ take start out₀ ++ pour f b (side_of p from to)

module _ (p : List ℕ) (from to : ℕ) (f b out₀ : List ℕ) (start : ℕ) (out : List ℕ) (at n : ℕ) (i : Building p from to f b out₀ start out at n) where
  module _ (len : ℕ) (w : Walk p at to f b len) where
    pub build_room : start + spans b (side_of p from to) ≤ length out₀ → n + span_of b (take len (drop at p)) ≤ length out
    build_room h = let l = i.long in omega (arith, i.n_so, spans_now w)

    pub building_more : (m : ℕ) (out' : List ℕ) → m ≡ n + span_of b (take len (drop at p)) → take m out' ≡ take n out ++ piece f b (take len (drop at p)) → length out' ≡ length out
        → Building p from to f b out₀ start out' (at + len) m
    unfolding pour
    building_more m out' em eo l =
        record {
          upto = w.within;
          whole = w.whole;
          ready = w.ready;
          long = l ∙ i.long;
          n_so = omega (arith, em, i.n_so, spans_now w);
          so =
              ap (λ (t : List ℕ). t ++ pour f b (side_of p (at + len) to)) eo ∙ append_assoc (take n out) (piece f b (take len (drop at p))) (pour f b (side_of p (at + len) to))
              ∙ ap {B = List ℕ} (λ (z : List Element). take n out ++ pour f b z) (sym w.is) ∙ i.so;
        }

  pub built : to ≤ at → to ≤ length p → (n ≡ start + spans b (side_of p from to)) × (take n out ≡ take start out₀ ++ pour f b (side_of p from to))
  unfolding pour
  built h l =
      let (s0, c0) = nothing_left p at to b h l in
      (omega (arith, i.n_so, s0), sym (append-nil (take n out)) ∙ ap {B = List ℕ} (λ (z : List Element). take n out ++ pour f b z) (sym (side_end p at to h l)) ∙ i.so)

-- NOTED
pub record Noting (p : List ℕ) (from to : ℕ) (f b : List ℕ) (start : ℕ) (calls₀ : List ℕ) (first : ℕ) (calls : List ℕ) (i at k : ℕ) : Type 0 where
  pub upto : i ≤ to
  pub whole : Whole (side_of p i to)
  pub ready : Ready f b (side_of p i to)
  pub reach : at + spans b (side_of p i to) ≡ start + spans b (side_of p from to)
  pub index : k + calls_of (side_of p i to) ≡ first + calls_of (side_of p from to)
  pub long : length calls ≡ length calls₀
  pub so : sets calls k (placed at b (side_of p i to)) ≡ sets calls₀ first (placed start b (side_of p from to))

module _ (p : List ℕ) (from to : ℕ) (f b : List ℕ) (start : ℕ) (calls₀ : List ℕ) (first : ℕ) (calls : List ℕ) (i at k : ℕ) (s : Noting p from to f b start calls₀ first calls i at k) where
  module _ (len : ℕ) (w : Walk p i to f b len) where
    by_kind : is_call (take len (drop i p)) ≡ is_call (get_or p i 0 ∷ [])
    by_kind = call_by_kind (take len (drop i p)) (get_or p i 0) w.sort

    pub on_room : start + spans b (side_of p from to) ≤ 65536 → at + span_of b (take len (drop i p)) ≤ 65536
    on_room h = omega (arith, s.reach, spans_now w)

    pub note_room : start + spans b (side_of p from to) ≤ 65536 → first + calls_of (side_of p from to) ≤ length calls₀ → is_call (get_or p i 0 ∷ []) ≡ true → span_of b (take len (drop i p)) ≡ len
        → (k < length calls) × (at < 65536)
    note_room h r c e =
        let q = calls_one b (take len (drop i p)) (side_of p (i + len) to) (by_kind ∙ c) in
        let l = s.long in
        let ws = w.some in
        (omega (arith, s.index, ap calls_of w.is, q), omega (arith, s.reach, spans_now w))

    pub noting_more : (k' : ℕ) (calls' : List ℕ) → k' ≡ cond (is_call (get_or p i 0 ∷ [])) (k + 1) k → calls' ≡ cond (is_call (get_or p i 0 ∷ [])) (set calls k at) calls
        → Noting p from to f b start calls₀ first calls' (i + len) (at + span_of b (take len (drop i p))) k'
    noting_more k' calls' ek ec =
        elim (see (is_call (get_or p i 0 ∷ []))) [
          | is_true z ↦
              let e : k' ≡ k + 1 = rw z at ek in
              let g : calls' ≡ set calls k at = rw z at ec in
              let q = calls_one b (take len (drop i p)) (side_of p (i + len) to) (by_kind ∙ z) in
              let m : placed at b (side_of p i to) ≡ at ∷ placed (at + span_of b (take len (drop i p))) b (side_of p (i + len) to) = ap (placed at b) w.is ∙ placed_one b (take len (drop i p)) (side_of p (i + len) to) at (by_kind ∙ z) in
              record {
                upto = w.within;
                whole = w.whole;
                ready = w.ready;
                reach = omega (arith, s.reach, spans_now w);
                index = omega (arith, e, s.index, ap calls_of w.is, q);
                long = ap length g ∙ length-set calls k at ∙ s.long;
                so = rw (g, e, add-one) (ap (sets calls k) (sym m) ∙ s.so);
              }
          | is_false z ↦
              let e : k' ≡ k = rw z at ek in
              let g : calls' ≡ calls = rw z at ec in
              let q = calls_none b (take len (drop i p)) (side_of p (i + len) to) (by_kind ∙ z) in
              let m : placed at b (side_of p i to) ≡ placed (at + span_of b (take len (drop i p))) b (side_of p (i + len) to) = ap (placed at b) w.is ∙ placed_none b (take len (drop i p)) (side_of p (i + len) to) at (by_kind ∙ z) in
              record {
                upto = w.within;
                whole = w.whole;
                ready = w.ready;
                reach = omega (arith, s.reach, spans_now w);
                index = omega (arith, e, s.index, ap calls_of w.is, q);
                long = ap length g ∙ s.long;
                so = rw (g, e) (ap (sets calls k) (sym m) ∙ s.so);
              }
        ]

  pub noted : to ≤ i → to ≤ length p → calls ≡ sets calls₀ first (placed start b (side_of p from to))
  unfolding placed
  noted h l = ap (λ (z : List Element). sets calls k (placed at b z)) (sym (side_end p i to h l)) ∙ s.so

-- a call bracket gives itself
pub call-span : (p : List ℕ) (at to : ℕ) (f b : List ℕ) (len : ℕ) → Walk p at to f b len → is_call (get_or p at 0 ∷ []) ≡ true → span_of b (take len (drop at p)) ≡ len
unfolding is_variable
call-span p at to f b len w c = span_plain b _ (rw w.sort (go (see (eqb (get_or p at 0) 6)))) ∙ w.long
  where
    go : Seen (eqb (get_or p at 0) 6) → (leb 8 (get_or p at 0) && leb (get_or p at 0) 10) ≡ false
    go (is_true z) = let e = eqb-true (get_or p at 0) 6 z in rw (lt-leb 8 (get_or p at 0) (omega arith))
    go (is_false z) = let q : eqb (get_or p at 0) 7 ≡ true = rw z at c in let e = eqb-true (get_or p at 0) 7 q in rw (lt-leb 8 (get_or p at 0) (omega arith))
