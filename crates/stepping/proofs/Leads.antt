-- The leading term is found, and its argument brought into one piece.
use mathlib.Core.Path.{◌≡◌, refl, sym, ◌∙◌, ap}
use mathlib.Core.Bool.{true, false, ◌&&◌}
use mathlib.Core.List.{List, [], ◌∷◌, ◌++◌, append_assoc, append-nil}
use Prim.Native.Nat.{ℕ, ◌+◌, ◌*◌, ◌-◌, ◌≤◌, ◌<◌}
use native.Mathlib.Omega.{arith}
use lib.ListN.{length, get_or, drop, length-drop}
use lib.Seq.{paste, length-paste}
use Rattle.meaning.specs.Elements.{Element, kind, body, size, is_kind}
use Rattle.meaning.specs.Machine.{before, behind, holds, innermost, lead, leading}
use Rattle.meaning.proofs.Truth.{never, or_right}
use Rattle.meaning.proofs.Cutting.{Whole, size-append}
use Rattle.meaning.proofs.Holding.{holds-append}
use Rattle.meaning.proofs.Leading.{leading_left, leading_here}
use Rattle.meaning.proofs.Balance.{call_first, fours}
use Rattle.kinds.specs.Stacks.{stack}
use Rattle.kinds.proofs.Stacks.{stack_long, stack_parts}
use Rattle.scanning.specs.State.{field_at, Good, Opens, none_open, one_open, Reached}
use Rattle.scanning.proofs.Marks.{size-cons, whole_left, whole_right, opens_no7}
use Rattle.scanning.proofs.Gap.{slid_up}
use Rattle.choosing.proofs.Rest.{whole_one}
use Rattle.meaning.proofs.Programs.{before_at, behind_at}
use Rattle.stepping.specs.Stepping.{Under}

holds_mid : (k : ℕ) (xs : List Element) (g : Element) (more : List Element) → is_kind k g ≡ true → holds k (xs ++ (g ∷ more)) ≡ true
unfolding holds
holds_mid k xs g more h = holds-append k xs (g ∷ more) ∙ rw h (or_right (holds k xs))

call_there : (c : Element) (zs : List Element) → is_kind 6 c ≡ true → is_kind 7 c ≡ false → holds 6 (before 7 (c ∷ zs)) ≡ true
unfolding holds before
call_there c zs c6 c7 = rw (c7, before) (rw c6)

inner_there : (c : Element) (zs ys : List Element) → is_kind 6 c ≡ true → holds 7 zs ≡ true → before 7 zs ≡ ys → holds 6 ys ≡ false → (is_kind 6 c && innermost zs) ≡ true
unfolding innermost
inner_there c zs ys c6 i7 b7 m6 = rw (c6, i7, b7, m6)

leads : (xs ys more : List Element) (c g : Element) → holds 7 xs ≡ false → kind c ≡ 6 → holds 6 ys ≡ false → holds 7 ys ≡ false → kind g ≡ 7
    → leading (xs ++ (c ∷ (ys ++ (g ∷ more)))) ≡ lead xs c ys more
leads xs ys more c g n7 kc m6 m7 kg =
    let k7 : is_kind 7 g ≡ true = rw kg in
    let b7 : before 7 (ys ++ (g ∷ more)) ≡ ys = before_at 7 ys g more m7 k7 in
    let h7 : behind 7 (ys ++ (g ∷ more)) ≡ more = behind_at 7 ys g more m7 k7 in
    let i7 : holds 7 (ys ++ (g ∷ more)) ≡ true = holds_mid 7 ys g more k7 in
    let c6 : is_kind 6 c ≡ true = rw kc in
    let c7 : is_kind 7 c ≡ false = rw kc in
    let inn : (is_kind 6 c && innermost (ys ++ (g ∷ more))) ≡ true = inner_there c (ys ++ (g ∷ more)) ys c6 i7 b7 m6 in
    let l : leading (c ∷ (ys ++ (g ∷ more))) ≡ lead [] c ys more = leading_here c (ys ++ (g ∷ more)) inn ∙ rw (b7, h7) in
    let six : holds 6 (before 7 (c ∷ (ys ++ (g ∷ more)))) ≡ true = call_there c (ys ++ (g ∷ more)) c6 c7 in
    leading_left xs (c ∷ (ys ++ (g ∷ more))) n7 six l ∙ rw append-nil

-- a call is three bytes long at least
three_deep : {zs : List Element} {st : List ℕ} → Opens zs st → Whole zs → 3 * length st ≤ size zs
three_deep (none_open n6 n7) w = omega arith
three_deep (one_open {xs} {zs} {at = i} {st} c ys o k n6 n7 a q) w =
    let d = three_deep o (whole_left xs (c ∷ ys) zs q w) in
    let l : length c ≡ 3 = whole_one c ys (c ∷ ys) refl (whole_right xs (c ∷ ys) zs q w) ∙ rw k (unfold body in refl) in
    omega (arith, ap size q, size-append xs (c ∷ ys), size-cons c ys)

-- the last open call
pub record Last (calls : List ℕ) (depth : ℕ) (front : List Element) : Type 0 where
  pub above : 0 < depth
  pub xs : List Element
  pub c : Element
  pub ys : List Element
  pub is : front ≡ xs ++ (c ∷ ys)
  pub place : get_or calls (depth - 1) 0 ≡ size xs
  pub under : Opens xs (stack (depth - 1) calls)
  pub kc : kind c ≡ 6
  pub no6 : holds 6 ys ≡ false
  pub no7 : holds 7 ys ≡ false

module _ (f : List ℕ) (lo hi at read depth top : ℕ) (calls : List ℕ) (good : Good f lo hi) (r : Reached f lo hi at read depth top calls) (shut : get_or f at 0 ≡ 7) where
  kg : kind r.g ≡ 7
  kg = r.sort ∙ shut

  rest : List Element
  rest = r.known ++ r.unread

  not_none : holds 6 r.front ≡ false → holds 7 r.front ≡ false → ⊥
  unfolding fours rest
  not_none n6 n7 =
      let k7 : is_kind 7 r.g ≡ true = rw kg in
      let pre : List Element = r.front ++ r.plain in
      let es : field_at f lo hi ≡ pre ++ (r.g ∷ rest) = r.parts ∙ sym (append_assoc r.front r.plain (r.g ∷ rest)) in
      let p6 : holds 6 pre ≡ false = holds-append 6 r.front r.plain ∙ rw (n6, r.no6) in
      let p7 : holds 7 pre ≡ false = holds-append 7 r.front r.plain ∙ rw (n7, r.no7) in
      let h7 : holds 7 (field_at f lo hi) ≡ true = ap (holds 7) es ∙ holds_mid 7 pre r.g rest k7 in
      let q = call_first (field_at f lo hi) 0 [] good.balanced h7 in
      let b : before 7 (field_at f lo hi) ≡ pre = ap (before 7) es ∙ before_at 7 pre r.g rest p7 k7 in
      never (cc (sym q ∙ ap (holds 6) b ∙ p6))

  pub last : Last calls depth r.front
  last = go r.opened refl refl
    where
      go : {zs : List Element} {st : List ℕ} → Opens zs st → zs ≡ r.front → st ≡ stack depth calls → Last calls depth r.front
      go (none_open n6 n7) ez es = absurd (not_none (ap (holds 6) (sym ez) ∙ n6) (ap (holds 7) (sym ez) ∙ n7))
      go (one_open {xs} {zs} {at = i} {st} c ys o k n6 n7 a q) ez es =
          let (d0, ei, et) = stack_parts depth calls es in
          record { above = d0; xs = xs; c = c; ys = ys; is = sym ez ∙ q; place = sym ei ∙ a; under = rw et at o; kc = k; no6 = n6; no7 = n7 }

  long_c : length last.c ≡ 3
  long_c =
      let l = last in
      let w = whole_left r.front (r.plain ++ (r.g ∷ (r.known ++ r.unread))) _ r.parts good.whole in
      whole_one l.c l.ys (l.c ∷ l.ys) refl (whole_right l.xs (l.c ∷ l.ys) r.front l.is w) ∙ rw l.kc (unfold body in refl)

  long_g : length r.g ≡ 1
  long_g =
      let w = whole_right r.plain (r.g ∷ (r.known ++ r.unread)) _ refl (whole_right r.front (r.plain ++ (r.g ∷ (r.known ++ r.unread))) _ r.parts good.whole) in
      whole_one r.g (r.known ++ r.unread) _ refl w ∙ rw kg (unfold body in refl)

  module _ (from : ℕ) (ef : from ≡ get_or calls (depth - 1) 0) where
    sizes : from + 3 + size last.ys ≡ lo
    sizes = let l = last in omega (arith, ef, l.place, r.low, ap size l.is, size-append l.xs (l.c ∷ l.ys), size-cons l.c l.ys, long_c)

    pub may_gather : (0 < depth) × (depth ≤ length calls) × (from + 3 ≤ lo) × (lo - (from + 3) ≤ hi) × (lo ≤ hi) × (hi ≤ length f)
    may_gather =
        let z = sizes in
        let g = good.gap in
        let b = r.below in
        let i = r.inside in
        (last.above, omega arith, omega arith, omega arith, g, good.fits)

    module _ (f' : List ℕ) (e : f' ≡ paste f (hi - (lo - (from + 3))) (drop (from + 3) f) (lo - (from + 3))) where
      pub gathered_same : field_at f' (from + 3) (hi - (lo - (from + 3))) ≡ field_at f lo hi
      gathered_same =
          let z = sizes in
          let g = good.gap in
          let q : from + 3 + (lo - (from + 3)) ≡ lo = omega arith in
          rw q at (slid_up f f' (from + 3) hi (lo - (from + 3)) (omega arith) good.fits e)

      pub gathered_good : Good f' (from + 3) (hi - (lo - (from + 3)))
      gathered_good =
          let z = sizes in
          let g = good.gap in
          let t = good.fits in
          let l : length f' ≡ length f = ap length e ∙ length-paste f (hi - (lo - (from + 3))) (drop (from + 3) f) (lo - (from + 3)) (omega arith) (omega (arith, length-drop (from + 3) f)) in
          record { gap = omega arith; fits = omega arith; whole = rw gathered_same good.whole; solid = rw gathered_same good.solid; balanced = rw gathered_same good.balanced }

      pub gathered : Under f' from (hi - (lo - (from + 3))) at read (depth - 1) top calls
      gathered =
          let l = last in
          let z = sizes in
          let g = good.gap in
          let x : List Element = l.ys ++ r.plain in
          let b : List Element = r.known ++ r.unread in
          let p : field_at f lo hi ≡ l.xs ++ (l.c ∷ (x ++ (r.g ∷ b))) =
          r.parts ∙ ap (λ (y : List Element). y ++ (r.plain ++ (r.g ∷ b))) l.is ∙ append_assoc l.xs (l.c ∷ l.ys) (r.plain ++ (r.g ∷ b))
          ∙ ap {B = List Element} (λ y. l.xs ++ (l.c ∷ y)) (sym (append_assoc l.ys r.plain (r.g ∷ b))) in
          let n6 : holds 6 x ≡ false = holds-append 6 l.ys r.plain ∙ rw (l.no6, r.no6) in
          let n7 : holds 7 x ≡ false = holds-append 7 l.ys r.plain ∙ rw (l.no7, r.no7) in
          let led : leading (field_at f lo hi) ≡ lead l.xs l.c x b = ap leading p ∙ leads l.xs x b l.c r.g (opens_no7 l.under) l.kc n6 n7 kg in
          let dp = r.deep in
          let bl = r.below in
          let h1 : at + length r.g ≡ at + 1 = omega (arith, long_g) in
          record {
            term = record {
              a = l.xs;
              c = l.c;
              x = x;
              g = r.g;
              b = b;
              parts = gathered_same ∙ p;
              led = ap leading gathered_same ∙ led;
              kc = l.kc;
              kg = kg;
              from_is = ef ∙ l.place;
              at_is = omega (arith, r.place, size-append l.ys r.plain);
            };
            known = r.known;
            unread = r.unread;
            behind = refl;
            up = omega (arith, r.up, h1);
            opened = l.under;
            deep = deep_below;
            marked = r.marked ∙ rw h1;
            below = omega arith;
            inside = r.inside;
          }
        where
          deep_below : 3 * (depth - 1) ≤ from
          deep_below =
              let l = last in
              let wf = whole_left r.front (r.plain ++ (r.g ∷ (r.known ++ r.unread))) _ r.parts good.whole in
              let d = three_deep l.under (whole_left l.xs (l.c ∷ l.ys) r.front l.is wf) in
              omega (arith, d, stack_long (depth - 1) calls, ef, l.place)
