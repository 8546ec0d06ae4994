-- On to the next call bracket, and over it.
use mathlib.Core.Path.{◌≡◌, refl, sym, ◌∙◌, ap, subst}
use mathlib.Core.Bool.{true, false}
use Rattle.std.specs.Prelude.{Option, Some, None}
use mathlib.Core.List.{List, [], ◌∷◌, ◌++◌, append_assoc}
use Prim.Native.Nat.{ℕ, suc, ◌+◌, ◌*◌, ◌-◌, ◌≤◌, ◌<◌}
use native.Mathlib.Omega.{arith}
use native.Mathlib.Numerals.{add-one}
use lib.ListN.{length, get_or, take, drop, set, length-set, length-take, length-drop, drop_of_length-le}
use lib.Seq.{paste, drop-cons, drop-drop, drop_at, drop-set-lt, length-paste}
use lib.Dec.{eqb}
use borrow.Author.Tests.{ne_eqb, eqb-true}
use Rattle.meaning.specs.Elements.{Element, kind, body, cut, join, size}
use Rattle.meaning.specs.Machine.{holds}
use Rattle.meaning.proofs.Truth.{never, or_left}
use Rattle.meaning.proofs.Cutting.{Whole, cut_at, join-append, size-append}
use Rattle.meaning.proofs.Holding.{holds-append}
use Rattle.elements.specs.Reading.{Characters, no_more, one_more}
use Rattle.kinds.proofs.Stacks.{stack_push}
use Rattle.scanning.specs.State.{field_at, Good, is_call, marks_of, calm, Standing, Reached, Next, Advanced}
use Rattle.scanning.proofs.Marks.{size-nil, size-cons, whole_right, whole_first, join_whole, opens_no7, opens_many, opens_call, no_close, first_mark, no_mark, Calmed, all_calm, then_call, calmed, calm-call, calm_plain}
use Rattle.scanning.proofs.Gap.{back_bytes, back_long, kind_at, slid_down}

-- READING
pub record Seeking (f : List ℕ) (at i : ℕ) : Type 0 where
  pub upto : i ≤ length f
  pub whole : Whole (cut 0 (drop i f))
  pub so : at + size (calm (cut 0 (drop at f))) ≡ i + size (calm (cut 0 (drop i f)))

module _ (f : List ℕ) (at i : ℕ) (s : Seeking f at i) where
  module _ (h : i < length f) where
    el : Element
    el = get_or f i 0 ∷ take (body (get_or f i 0)) (drop (i + 1) f)

    rest : List Element
    rest = cut 0 (drop (i + 1 + body (get_or f i 0)) f)

    cut_is : cut 0 (drop i f) ≡ el ∷ rest
    unfolding el rest
    cut_is = cut_at f i h

    long : length el ≡ suc (body (get_or f i 0))
    unfolding el
    long =
        let (k, b, e, l) = whole_first el rest _ cut_is s.whole in
        let q : get_or f i 0 ≡ k = cc in
        ap length e ∙ ap suc l ∙ ap (λ (n : ℕ). suc (body n)) (sym q)

    within : i + 1 + body (get_or f i 0) ≤ length f
    unfolding el
    within = omega (arith, long, length-take (body (get_or f i 0)) (drop (i + 1) f), length-drop (i + 1) f)

    here : is_call el ≡ true → i ≡ at + size (calm (cut 0 (drop at f)))
    here c = omega (arith, s.so, ap (λ (l : List Element). size (calm l)) cut_is, ap size (calm-call el rest c), size-nil)

    pub here_open : get_or f i 0 ≡ 6 → i ≡ at + size (calm (cut 0 (drop at f)))
    unfolding el
    here_open k = here (rw k)

    pub here_close : get_or f i 0 ≡ 7 → i ≡ at + size (calm (cut 0 (drop at f)))
    unfolding el
    here_close k = here (rw k)

    pub seek_next : (get_or f i 0 ≡ 6 → ⊥) → (get_or f i 0 ≡ 7 → ⊥) → (n : ℕ) → n ≡ body (get_or f i 0) → Seeking f at (i + 1 + n)
    unfolding el rest
    seek_next n6 n7 n q =
        let c : is_call el ≡ false = rw (ne_eqb (get_or f i 0) 6 n6, ne_eqb (get_or f i 0) 7 n7) in
        let w = within in
        rw q (record {
          upto = w;
          whole = whole_right (el ∷ []) rest (cut 0 (drop i f)) cut_is s.whole;
          so = omega (arith, s.so, ap (λ (l : List Element). size (calm l)) cut_is, ap size (calm_plain el rest c), size-cons el (calm rest), long);
        })

-- characters are no brackets
pub seek_on : {f : List ℕ} {at stop to i j : ℕ} → to ≤ length f → Seeking f at i → Characters f stop to i j → Seeking f at j
seek_on h s no_more = s
seek_on {f} {at} h s (one_more {i = j} c l e n) =
    let t = seek_on h s c in
    let one : 1 ≡ body (get_or f j 0) = rw e (unfold body in refl) in
    let q : j + 1 + 1 ≡ j + 2 = omega arith in
    rw q at (seek_next f at j t (omega arith) (λ z. omega (arith, z)) (λ z. omega (arith, z)) 1 one)

module _ (f : List ℕ) (at i : ℕ) (s : Seeking f at i) where
  pub seek_end : length f ≤ i → i ≡ at + size (calm (cut 0 (drop at f)))
  unfolding cut calm
  seek_end h =
      let z : size (calm (cut 0 (drop i f))) ≡ 0 = rw (drop_of_length-le f {i = i} h) size-nil in
      omega (arith, s.so)

-- THE NEXT BRACKET
module _ (f : List ℕ) (lo hi read depth top : ℕ) (calls : List ℕ) (good : Good f lo hi) (s : Standing f lo hi read depth top calls) where
  back : join (s.known ++ s.unread) ≡ drop hi f
  back = back_bytes f lo hi s.front (s.known ++ s.unread) good.gap good.fits s.parts s.low

  total : read + size s.unread ≡ length f
  total = omega (arith, back_long f lo hi s.front (s.known ++ s.unread) good.gap good.fits s.parts s.low, size-append s.known s.unread, s.up)

  back_whole : Whole (s.known ++ s.unread)
  back_whole = whole_right s.front (s.known ++ s.unread) _ s.parts good.whole

  unread_whole : Whole s.unread
  unread_whole = whole_right s.known s.unread _ refl back_whole

  unread_is : cut 0 (drop read f) ≡ s.unread
  unfolding size
  unread_is =
      let d : drop read f ≡ join s.unread =
      ap (λ (i : ℕ). drop i f) (sym s.up) ∙ sym (drop-drop (size s.known) hi f)
      ∙ ap (drop (size s.known)) (sym back ∙ join-append s.known s.unread) ∙ drop_at (join s.known) (join s.unread) (size s.known) refl in
      ap (cut 0) d ∙ join_whole s.unread unread_whole

  pub may_read : (read ≤ length f) × Whole (cut 0 (drop read f))
  may_read = (omega (arith, total), rw unread_is unread_whole)

  -- an element behind the gap
  module _ (plain : List Element) (g : Element) (more : List Element) (is : s.known ++ s.unread ≡ plain ++ (g ∷ more)) (at : ℕ) (place : hi + size plain ≡ at) where
    g_first : (k : ℕ) × (b : List ℕ) × (g ≡ k ∷ b) × (length b ≡ body k)
    g_first = whole_first g more (g ∷ more) refl (whole_right plain (g ∷ more) _ is back_whole)

    pub g_sort : kind g ≡ get_or f at 0
    g_sort = let (k, b, e, l) = g_first in kind_at f hi at plain g more (ap join (sym is) ∙ back) place e

    pub g_long : length g ≡ suc (body (get_or f at 0))
    g_long = let (k, b, e, l) = g_first in ap length e ∙ ap suc l ∙ ap (λ (n : ℕ). suc (body n)) (sym (ap kind e) ∙ g_sort)

    pub g_fits : at + length g ≤ length f
    g_fits = omega (arith, total, s.up, size-append s.known s.unread, ap size is, size-append plain (g ∷ more), size-cons g more)

  pub from_notes : (at : ℕ) → at ≡ get_or calls top 0 → top < length calls → Reached f lo hi at read depth (top + 1) calls
  from_notes at q h =
      let m : marks_of hi s.known ≡ at ∷ drop (top + 1) calls = sym s.marked ∙ rw (add-one, q) (drop-cons calls top 0 h) in
      let k = first_mark s.known hi m in
      let i : s.known ++ s.unread ≡ k.plain ++ (k.g ∷ (k.rest ++ s.unread)) = ap (λ (l : List Element). l ++ s.unread) k.is ∙ append_assoc k.plain (k.g ∷ k.rest) s.unread in
      let b = s.below in
      record {
        front = s.front;
        plain = k.plain;
        g = k.g;
        known = k.rest;
        unread = s.unread;
        parts = s.parts ∙ ap {B = List Element} (λ l. s.front ++ l) i;
        low = s.low;
        place = k.place;
        up = omega (arith, s.up, ap size k.is, size-append k.plain (k.g ∷ k.rest), size-cons k.g k.rest, k.place);
        no6 = k.no6;
        no7 = k.no7;
        call = k.call;
        sort = g_sort k.plain k.g (k.rest ++ s.unread) i at k.place;
        fits = g_fits k.plain k.g (k.rest ++ s.unread) i at k.place;
        opened = s.opened;
        deep = s.deep;
        marked = k.more;
        below = omega arith;
        inside = omega arith;
      }

  module _ (h : length calls ≤ top) where
    top_is : top ≡ length calls
    top_is = let i = s.inside in omega arith

    none_noted : (holds 6 s.known ≡ false) × (holds 7 s.known ≡ false)
    none_noted = no_mark s.known hi (sym s.marked ∙ drop_of_length-le calls {i = top} h)

    module _ (at : ℕ) (q : at ≡ read + size (calm (cut 0 (drop read f)))) where
      place_is : at ≡ read + size (calm s.unread)
      place_is = q ∙ ap (λ (l : List Element). read + size (calm l)) unread_is

      pub none_left : at ≡ length f → holds 6 (field_at f lo hi) ≡ false
      none_left e = go (calmed s.unread)
        where
          go : Calmed s.unread → holds 6 (field_at f lo hi) ≡ false
          go (all_calm c n6 n7) =
              let n : holds 7 (field_at f lo hi) ≡ false =
              ap (holds 7) s.parts ∙ holds-append 7 s.front (s.known ++ s.unread) ∙ rw (opens_no7 s.opened) (holds-append 7 s.known s.unread ∙ rw (none_noted.1, n7)) in
              no_close (field_at f lo hi) good.balanced n
          go (then_call g rest i c n6 n7) =
              let (k, b, z, l) = whole_first g rest (g ∷ rest) refl (whole_right (calm s.unread) (g ∷ rest) _ i unread_whole) in
              never (omega (arith, total, place_is, ap size i, size-append (calm s.unread) (g ∷ rest), size-cons g rest, ap length z))

      pub read_on : (at ≡ length f → ⊥) → length f ≤ 2 * length calls → (next : ℕ) → next ≡ at + 1 + body (get_or f at 0) → Reached f lo hi at next depth top calls
      read_on ne room next next_is = go (calmed s.unread)
        where
          go : Calmed s.unread → Reached f lo hi at next depth top calls
          go (all_calm c n6 n7) = absurd (ne (omega (arith, total, place_is, ap size c)))
          go (then_call g rest i c n6 n7) =
              let plain : List Element = s.known ++ calm s.unread in
              let j : s.known ++ s.unread ≡ plain ++ (g ∷ rest) = ap {B = List Element} (λ l. s.known ++ l) i ∙ sym (append_assoc s.known (calm s.unread) (g ∷ rest)) in
              let pl : hi + size plain ≡ at = omega (arith, place_is, s.up, size-append s.known (calm s.unread)) in
              let fit = g_fits plain g rest j at pl in
              let lg = g_long plain g rest j at pl in
              let dp = s.deep in
              let gp = good.gap in
              record {
                front = s.front;
                plain = plain;
                g = g;
                known = [];
                unread = rest;
                parts = s.parts ∙ ap {B = List Element} (λ l. s.front ++ l) j;
                low = s.low;
                place = pl;
                up = omega (arith, lg, size-nil);
                no6 = holds-append 6 s.known (calm s.unread) ∙ rw (none_noted.0, n6);
                no7 = holds-append 7 s.known (calm s.unread) ∙ rw (none_noted.1, n7);
                call = c;
                sort = g_sort plain g rest j at pl;
                fits = fit;
                opened = s.opened;
                deep = dp;
                marked = drop_of_length-le calls {i = top} h ∙ (unfold marks_of in refl);
                below = omega (arith, top_is, size-append s.known (calm s.unread), s.up);
                inside = s.inside;
              }

-- OVER A <
module _ (f : List ℕ) (lo hi at read depth top : ℕ) (calls : List ℕ) (good : Good f lo hi) (r : Reached f lo hi at read depth top calls) (six : get_or f at 0 ≡ 6) where
  six_long : length r.g ≡ 3
  six_long =
      let w = whole_right r.plain (r.g ∷ (r.known ++ r.unread)) _ refl (whole_right r.front (r.plain ++ (r.g ∷ (r.known ++ r.unread))) _ r.parts good.whole) in
      let (k, b, e, l) = whole_first r.g (r.known ++ r.unread) _ refl w in
      let q : k ≡ 6 = sym (ap kind e) ∙ r.sort ∙ six in
      let two : body k ≡ 2 = rw q (unfold body in refl) in
      omega (arith, ap length e)

  pub may_move : (lo ≤ hi) × (hi + (at + 3 - hi) ≤ length f)
  may_move = (good.gap, omega (arith, r.fits, r.place, six_long))

  pub may_note : length f ≤ 65536 → lo + (at + 3 - hi) - 3 < 65536
  may_note h = let g = good.gap in omega (arith, r.fits, r.place, six_long)

  pub in_notes : depth < length calls
  in_notes = let b = r.below in let i = r.inside in omega arith

  module _ (f' calls' : List ℕ) (e : f' ≡ paste f lo (drop hi f) (at + 3 - hi)) (c : calls' ≡ set calls depth (lo + (at + 3 - hi) - 3)) where
    pub open_same : field_at f' (lo + (at + 3 - hi)) (hi + (at + 3 - hi)) ≡ field_at f lo hi
    open_same = slid_down f f' lo hi (at + 3 - hi) may_move.0 may_move.1 e

    pub open_more : hi < hi + (at + 3 - hi)
    open_more = omega (arith, r.place)

    pub open_good : Good f' (lo + (at + 3 - hi)) (hi + (at + 3 - hi))
    open_good =
        let l : length f' ≡ length f = ap length e ∙ length-paste f lo (drop hi f) (at + 3 - hi) (let (a, b) = may_move in omega arith) (let (a, b) = may_move in omega (arith, length-drop hi f)) in
        record {
          gap = (let g = good.gap in omega arith);
          fits = rw l may_move.1;
          whole = rw open_same good.whole;
          solid = rw open_same good.solid;
          balanced = rw open_same good.balanced;
        }

    pub open_standing : Standing f' (lo + (at + 3 - hi)) (hi + (at + 3 - hi)) read (depth + 1) top calls'
    open_standing =
        let rest : List Element = r.known ++ r.unread in
        let p : field_at f lo hi ≡ ((r.front ++ r.plain) ++ (r.g ∷ [])) ++ rest =
        r.parts ∙ sym (append_assoc r.front r.plain (r.g ∷ rest)) ∙ sym (append_assoc (r.front ++ r.plain) (r.g ∷ []) rest) in
        let sf : size (r.front ++ r.plain) ≡ lo + size r.plain = omega (arith, size-append r.front r.plain, r.low) in
        let sg : size (r.g ∷ []) ≡ 3 = omega (arith, size-cons r.g [], size-nil, six_long) in
        let a : lo + (at + 3 - hi) - 3 ≡ size (r.front ++ r.plain) = omega (arith, sf, r.place) in
        let h3 : hi + (at + 3 - hi) ≡ at + length r.g = omega (arith, r.place, six_long) in
        let dp = r.deep in
        let bl = r.below in
        record {
          front = (r.front ++ r.plain) ++ (r.g ∷ []);
          known = r.known;
          unread = r.unread;
          parts = open_same ∙ p;
          low = omega (arith, size-append (r.front ++ r.plain) (r.g ∷ []), sf, sg, r.place);
          up = omega (arith, r.up, h3);
          opened = rw (c, stack_push depth (lo + (at + 3 - hi) - 3) calls in_notes) (opens_call r.g (lo + (at + 3 - hi) - 3) (opens_many r.plain r.opened r.no6 r.no7) (r.sort ∙ six) a);
          deep = omega (arith, r.place);
          marked = ap (drop top) c ∙ drop-set-lt top calls depth _ bl ∙ r.marked ∙ rw h3;
          below = omega arith;
          inside = rw (c, length-set) r.inside;
        }

-- FROM BRACKET TO BRACKET
-- a bracket is found in one place alone, or not at all
pub none_some : {A : Type 0} {k : ℕ} → None ≡ Some k → A
none_some e = never (cc)

pub some_none : {A : Type 0} {k : ℕ} → Some k ≡ None → A
some_none e = never (cc)

one_some : {j k : ℕ} → Some j ≡ Some k → j ≡ k
one_some e = cc

pub found_at : (P : ℕ → Type 0) {j : ℕ} → P j → (k : ℕ) → Some j ≡ Some k → P k
found_at P h k e = subst P (one_some e) h

pub record Advancing (f₀ : List ℕ) (lo₀ hi₀ : ℕ) (calls₀ f : List ℕ) (lo hi read depth top : ℕ) (calls : List ℕ) : Type 0 where
  pub good : Good f lo hi
  pub same : field_at f lo hi ≡ field_at f₀ lo₀ hi₀
  pub standing : Standing f lo hi read depth top calls
  pub long : length f ≡ length f₀
  pub room : length calls ≡ length calls₀

is_six : (g : Element) (k : ℕ) → kind g ≡ k → is_call g ≡ true → (k ≡ 7 → ⊥) → k ≡ 6
is_six g k e c n7 = eqb-true k 6 (or_left (eqb k 6) (rw (e, ne_eqb k 7 n7) at c))

module _ (f₀ : List ℕ) (lo₀ hi₀ : ℕ) (calls₀ f : List ℕ) (lo hi read depth top : ℕ) (calls : List ℕ) (i : Advancing f₀ lo₀ hi₀ calls₀ f lo hi read depth top calls)
    (found : Option ℕ) (read' lo' hi' depth' top' : ℕ) (el : lo' ≡ lo) (eh : hi' ≡ hi) (ed : depth' ≡ depth) (n : Next f lo hi calls found read' depth top') where
  pub advanced : ((at : ℕ) → found ≡ Some at → get_or f at 0 ≡ 7) → Advanced f₀ lo₀ hi₀ f lo' hi' calls found read' depth' top'
  advanced s = rw (el, eh, ed) (record { good = i.good; same = i.same; next = n; shuts = s })

  pub reached_open : (at : ℕ) → found ≡ Some at → (get_or f at 0 ≡ 7 → ⊥) → Reached f lo' hi' at read' depth' top' calls × (get_or f at 0 ≡ 6)
  reached_open at z n7 = let r = n.yes at z in (rw (el, eh, ed) r, is_six r.g (get_or f at 0) r.sort r.call n7)

  pub in_field : (at : ℕ) → found ≡ Some at → at < length f
  in_field at z = let r = n.yes at z in omega (arith, r.fits, r.sort, g_some r.g r.call)
    where
      g_some : (g : Element) → is_call g ≡ true → 0 < length g
      g_some [] c = never (cc)
      g_some (k ∷ b) c = omega arith
