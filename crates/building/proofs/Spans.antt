-- How long what a side gives is, element by element.
use mathlib.Core.Path.{◌≡◌, refl, sym, ◌∙◌, ap}
use mathlib.Core.Bool.{true, false}
use mathlib.Core.List.{List, [], ◌∷◌}
use Prim.Native.Nat.{ℕ, suc, ◌+◌, ◌-◌, ◌≤◌, ◌<◌}
use native.Mathlib.Omega.{arith}
use lib.ListN.{length, get_or, take, drop, length-append, length-take, length-drop}
use lib.Seq.{get_or-take, get_or-drop}
use Rattle.meaning.specs.Elements.{Element, kind, body, is_variable}
use Rattle.meaning.proofs.Truth.{is_true, is_false, see}
use Rattle.meaning.proofs.Cutting.{Whole, body_le}
use Rattle.kinds.proofs.Bodies.{body_var}
use Rattle.kinds.specs.Slots.{slot_of, value_of}
use Rattle.building.specs.Build.{side_of, piece, pour, Held, Ready, ready_none, ready_more, Known, span_of, spans, calls_of, placed}
use Rattle.scanning.specs.State.{is_call}
use Rattle.building.proofs.Sides.{kind_first, kind_is, plain, var_yes, side_is, side_within, side_rest, ready_first, var_range}

pub span_plain : (b : List ℕ) (e : Element) → is_variable e ≡ false → span_of b e ≡ length e
unfolding span_of
span_plain b e h = rw h

module _ (p : List ℕ) (at len : ℕ) (f b : List ℕ) (w : Known p at len f b) where
  long_known : length (take len (drop at p)) ≡ len
  long_known = let y = w.within in omega (arith, length-take len (drop at p), length-drop at p)

  pub span_fixed : (k : ℕ) → k ≡ get_or p at 0 → is_variable (k ∷ []) ≡ false → len ≡ span_of b (take len (drop at p))
  span_fixed k e h = sym (span_plain b _ (plain p at len f b w k e h) ∙ long_known)

  pub span_var : (k v : ℕ) → k ≡ get_or p at 0 → is_variable (k ∷ []) ≡ true → v ≡ get_or p (at + 1) 0 → get_or b (slot_of k v + 48) 0 - get_or b (slot_of k v) 0 ≡ span_of b (take len (drop at p))
  unfolding span_of
  span_var k v e h q =
      let y = var_yes p at len f b w k e h in
      let n2 = (w.var y).0 in
      let ek : kind (take len (drop at p)) ≡ k = kind_is p at len f b w ∙ sym e in
      let ev : get_or (take len (drop at p)) 1 0 ≡ v = get_or-take len (drop at p) 1 0 (omega arith) ∙ get_or-drop at p 1 0 ∙ sym q in
      sym (rw (y, ek, ev))

piece_long : (f b : List ℕ) (e : Element) → (is_variable e ≡ true → Held f b e) → length (piece f b e) ≡ span_of b e
unfolding piece span_of value_of
piece_long f b e h =
    elim (see (is_variable e)) [
      | is_true v ↦
          let d = h v in
          let from : ℕ = get_or b (slot_of (kind e) (get_or e 1 0)) 0 in
          let to : ℕ = get_or b (slot_of (kind e) (get_or e 1 0) + 48) 0 in
          let u = d.up in
          let w = d.fits in
          rw v (omega (arith, length-take (to - from) (drop from f), length-drop from f))
      | is_false v ↦ rw v
    ]

pub pour_long : {f b : List ℕ} {es : List Element} → Ready f b es → length (pour f b es) ≡ spans b es
unfolding pour spans
pour_long ready_none = refl
pour_long {f} {b} (ready_more {e} {es} h r) = omega (arith, length-append (piece f b e) (pour f b es), piece_long f b e h, pour_long r)

-- THE NEXT ELEMENT OF A SIDE
pub record Walk (p : List ℕ) (at to : ℕ) (f b : List ℕ) (len : ℕ) : Type 0 where
  pub is : side_of p at to ≡ take len (drop at p) ∷ side_of p (at + len) to
  pub within : at + len ≤ to
  pub some : 1 ≤ len
  pub few : len ≤ 5
  pub known : Known p at len f b
  pub whole : Whole (side_of p (at + len) to)
  pub ready : Ready f b (side_of p (at + len) to)
  pub sort : kind (take len (drop at p)) ≡ get_or p at 0
  pub long : length (take len (drop at p)) ≡ len

pub walk : (p : List ℕ) (at to : ℕ) (f b : List ℕ) → to ≤ length p → at < to → Whole (side_of p at to) → Ready f b (side_of p at to) → (len : ℕ) → len ≡ 1 + body (get_or p at 0) → Walk p at to f b len
walk p at to f b fits h w r len e =
    let q : at + len ≡ at + 1 + body (get_or p at 0) = omega arith in
    let i : side_of p at to ≡ take len (drop at p) ∷ side_of p (at + len) to = rw (q, e) (side_is p at to fits h w) in
    let s = side_within p at to fits h w in
    let y = ready_first _ _ r i in
    let z : at + 0 ≡ at = omega arith in
    let kk : kind (take len (drop at p)) ≡ get_or p at 0 = kind_first (take len (drop at p)) ∙ get_or-take len (drop at p) 0 0 (omega arith) ∙ get_or-drop at p 0 0 ∙ rw z in
    let bl = body_le (get_or p at 0) in
    record {
      is = i;
      within = omega arith;
      some = omega arith;
      few = omega arith;
      known = record {
        within = omega arith;
        some = omega arith;
        var = λ v. (let g = var_range (take len (drop at p)) v in omega (arith, body_var (get_or p at 0) (omega arith) (omega arith)), y.0 v);
      };
      whole = rw q (side_rest p at to fits h w);
      ready = y.1;
      sort = kk;
      long = omega (arith, length-take len (drop at p), length-drop at p);
    }

-- tests on the kind are tests on the element
pub call_by_kind : (e : Element) (k : ℕ) → kind e ≡ k → is_call e ≡ is_call (k ∷ [])
call_by_kind e k h = rw h

pub variable_by_kind : (e : Element) (k : ℕ) → kind e ≡ k → is_variable e ≡ is_variable (k ∷ [])
unfolding is_variable
variable_by_kind e k h = rw h

module _ (b : List ℕ) (e : Element) (es : List Element) where
  pub calls_one : is_call e ≡ true → calls_of (e ∷ es) ≡ suc (calls_of es)
  unfolding calls_of
  calls_one h = rw (h, calls_of)

  pub calls_none : is_call e ≡ false → calls_of (e ∷ es) ≡ calls_of es
  unfolding calls_of
  calls_none h = rw (h, calls_of)

  pub placed_one : (at : ℕ) → is_call e ≡ true → placed at b (e ∷ es) ≡ at ∷ placed (at + span_of b e) b es
  unfolding placed
  placed_one at h = rw (h, placed)

  pub placed_none : (at : ℕ) → is_call e ≡ false → placed at b (e ∷ es) ≡ placed (at + span_of b e) b es
  unfolding placed
  placed_none at h = rw (h, placed)

-- what a side gives is what its next element gives, and the rest
pub spans_now : {p : List ℕ} {at to : ℕ} {f b : List ℕ} {len : ℕ} → Walk p at to f b len → spans b (side_of p at to) ≡ span_of b (take len (drop at p)) + spans b (side_of p (at + len) to)
unfolding spans
spans_now {b = b} w = ap (spans b) w.is
