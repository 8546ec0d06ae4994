-- Sides of a sentence: their elements one by one, and parts of them.
use mathlib.Core.Path.{◌≡◌, refl, sym, ◌∙◌, ap, ap₂, subst}
use mathlib.Core.Bool.{true, false}
use mathlib.Core.List.{List, [], ◌∷◌, ◌++◌, append_assoc}
use Prim.Native.Nat.{ℕ, zero, suc, ◌+◌, ◌-◌, ◌≤◌, ◌<◌}
use native.Mathlib.Omega.{arith}
use native.Mathlib.Nat.{zero-add, suc-add}
use native.Mathlib.Numerals.{add-one}
use lib.ListN.{length, get_or, take, drop, length-append, length-take, length-drop, drop_of_length-le, take-append-drop}
use lib.Seq.{get_or-take, get_or-drop, take-nil, drop-cons, take-take, length-take-le, take_at, drop_at}
use lib.Dec.{leb}
use borrow.Author.Tests.{leb-true}
use Rattle.meaning.specs.Elements.{Element, kind, body, cut, join, size, is_variable}
use Rattle.meaning.proofs.Truth.{and_left, and_right, never}
use Rattle.meaning.proofs.Cutting.{Whole, w_none, w_more, cut_at, join-cut, join-append, size-append}
use Rattle.kinds.specs.Slots.{slot_of, value_of}
use Rattle.scanning.proofs.Marks.{whole_left, whole_right, join_whole}
use Rattle.building.specs.Build.{side_of, piece, Held, Ready, ready_none, ready_more, Known}

pub kind_first : (e : Element) → kind e ≡ get_or e 0 0
kind_first [] = refl
kind_first (k ∷ b) = refl

module _ (p : List ℕ) (at len : ℕ) (f b : List ℕ) (w : Known p at len f b) where
  pub kind_is : kind (take len (drop at p)) ≡ get_or p at 0
  kind_is =
      let q : at + 0 ≡ at = omega arith in
      kind_first (take len (drop at p)) ∙ get_or-take len (drop at p) 0 0 w.some ∙ get_or-drop at p 0 0 ∙ rw q

  same_test : (k : ℕ) → k ≡ get_or p at 0 → is_variable (k ∷ []) ≡ is_variable (take len (drop at p))
  unfolding is_variable
  same_test k e = rw (kind_is, e)

  pub plain : (k : ℕ) → k ≡ get_or p at 0 → is_variable (k ∷ []) ≡ false → is_variable (take len (drop at p)) ≡ false
  plain k e h = sym (same_test k e) ∙ h

  pub plain_piece : (k : ℕ) → k ≡ get_or p at 0 → is_variable (k ∷ []) ≡ false → piece f b (take len (drop at p)) ≡ take len (drop at p)
  unfolding piece
  plain_piece k e h = rw (plain k e h)

  pub var_yes : (k : ℕ) → k ≡ get_or p at 0 → is_variable (k ∷ []) ≡ true → is_variable (take len (drop at p)) ≡ true
  var_yes k e h = sym (same_test k e) ∙ h

  pub var_next : (k : ℕ) → k ≡ get_or p at 0 → is_variable (k ∷ []) ≡ true → at + 1 < length p
  var_next k e h = let z = (w.var (var_yes k e h)).0 in let y = w.within in omega arith

  pub record Slot (k v : ℕ) : Type 0 where
    pub low : v < 16
    pub up : get_or b (slot_of k v) 0 ≤ get_or b (slot_of k v + 48) 0
    pub fits : get_or b (slot_of k v + 48) 0 ≤ length f
    pub is : piece f b (take len (drop at p)) ≡ take (get_or b (slot_of k v + 48) 0 - get_or b (slot_of k v) 0) (drop (get_or b (slot_of k v) 0) f)

  pub slot : (k v : ℕ) → k ≡ get_or p at 0 → is_variable (k ∷ []) ≡ true → v ≡ get_or p (at + 1) 0 → Slot k v
  unfolding piece value_of
  slot k v e h q =
      let y = var_yes k e h in
      let (n2, d) = w.var y in
      let ek : kind (take len (drop at p)) ≡ k = kind_is ∙ sym e in
      let ev : get_or (take len (drop at p)) 1 0 ≡ v = get_or-take len (drop at p) 1 0 (omega arith) ∙ get_or-drop at p 1 0 ∙ sym q in
      record {
        low = rw ev at d.low;
        up = rw (ek, ev) at d.up;
        fits = rw (ek, ev) at d.fits;
        is = rw (y, ek, ev);
      }

-- a part of a part
pub drop-take : (i m : ℕ) (l : List ℕ) → drop i (take (i + m) l) ≡ take m (drop i l)
drop-take zero m l = rw zero-add
drop-take (suc i) m [] = rw suc-add (sym (take-nil m))
drop-take (suc i) m (x ∷ l) = rw suc-add (drop-take i m l)

first_body : {es : List Element} (k : ℕ) (b : List ℕ) (r : List Element) → Whole es → es ≡ (k ∷ b) ∷ r → (length b ≡ body k) × Whole r
first_body k b r w_none e = never (cc)
first_body k b r (w_more {k = k'} {b = b'} {es} h w) e =
    let ek : k' ≡ k = cc in let eb : b' ≡ b = cc in let er : es ≡ r = cc in
    (rw (ek, eb) at h, rw er at w)

module _ (p : List ℕ) (at to : ℕ) (fits : to ≤ length p) (h : at < to) (w : Whole (side_of p at to)) where
  k : ℕ
  k = get_or p at 0

  el : Element
  el = take (1 + body (get_or p at 0)) (drop at p)

  raw : List ℕ
  raw = take (body (get_or p at 0)) (drop (at + 1) (take to p))

  side_raw : side_of p at to ≡ (get_or p at 0 ∷ raw) ∷ side_of p (at + 1 + body (get_or p at 0)) to
  unfolding side_of raw
  side_raw =
      let l : at < length (take to p) = omega (arith, length-take-le to p fits) in
      let q : get_or (take to p) at 0 ≡ get_or p at 0 = get_or-take to p at 0 h in
      cut_at (take to p) at l ∙ rw q

  long_raw : length raw ≡ body (get_or p at 0)
  long_raw = (first_body (get_or p at 0) raw _ w side_raw).0

  pub side_within : at + 1 + body (get_or p at 0) ≤ to
  unfolding raw
  side_within = omega (arith, long_raw, length-take (body (get_or p at 0)) (drop (at + 1) (take to p)), length-drop (at + 1) (take to p), length-take-le to p fits)

  pub side_rest : Whole (side_of p (at + 1 + body (get_or p at 0)) to)
  side_rest = (first_body (get_or p at 0) raw _ w side_raw).1

  el_raw : el ≡ get_or p at 0 ∷ raw
  unfolding el raw
  el_raw =
      let s = side_within in
      let m : ℕ = to - (at + 1) in
      let q : to ≡ at + 1 + m = omega arith in
      let r : drop (at + 1) (take to p) ≡ take m (drop (at + 1) p) = ap (λ (j : ℕ). drop (at + 1) (take j p)) q ∙ drop-take (at + 1) m p in
      let t : take (body (get_or p at 0)) (drop (at + 1) (take to p)) ≡ take (body (get_or p at 0)) (drop (at + 1) p) = rw r (take-take (body (get_or p at 0)) m (drop (at + 1) p) (omega arith)) in
      let u : 1 + body (get_or p at 0) ≡ suc (body (get_or p at 0)) = omega arith in
      let d : drop at p ≡ get_or p at 0 ∷ drop (at + 1) p = drop-cons p at 0 (omega arith) ∙ rw add-one in
      rw (u, d) (ap {B = List ℕ} (λ x. get_or p at 0 ∷ x) (sym t))

  pub side_is : side_of p at to ≡ take (1 + body (get_or p at 0)) (drop at p) ∷ side_of p (at + 1 + body (get_or p at 0)) to
  unfolding el
  side_is = side_raw ∙ ap {B = List Element} (λ x. x ∷ side_of p (at + 1 + body (get_or p at 0)) to) (sym el_raw)

pub side_end : (p : List ℕ) (at to : ℕ) → to ≤ at → to ≤ length p → side_of p at to ≡ []
unfolding side_of cut
side_end p at to h l = rw (drop_of_length-le (take to p) {i = at} (omega (arith, length-take-le to p l)))

pub ready_first : {f b : List ℕ} {zs : List Element} (e : Element) (es : List Element) → Ready f b zs → zs ≡ e ∷ es → (is_variable e ≡ true → Held f b e) × Ready f b es
ready_first e es ready_none q = never (cc)
ready_first {f} {b} e es (ready_more {e = e'} {es = es'} h r) q =
    let i : e' ≡ e = cc in let j : es' ≡ es = cc in
    (subst (λ (x : Element). is_variable x ≡ true → Held f b x) i h, rw j at r)

pub var_range : (e : Element) → is_variable e ≡ true → (8 ≤ kind e) × (kind e ≤ 10)
unfolding is_variable
var_range e h = (leb-true 8 (kind e) (and_left (leb 8 (kind e)) _ h), leb-true (kind e) 10 (and_right (leb 8 (kind e)) _ h))

pub join_side : (f : List ℕ) (lo hi : ℕ) → join (side_of f lo hi) ≡ drop lo (take hi f)
unfolding side_of
join_side f lo hi = join-cut (drop lo (take hi f))

pub size_side : (f : List ℕ) (lo hi : ℕ) → hi ≤ length f → size (side_of f lo hi) ≡ hi - lo
unfolding size
size_side f lo hi h = ap length (join_side f lo hi) ∙ length-drop lo (take hi f) ∙ omega (arith, length-take-le hi f h)

-- the elements in the middle, and those behind them
module _ (f : List ℕ) (lo hi : ℕ) (fits : hi ≤ length f) (up : lo ≤ hi) (a m b : List Element) (parts : side_of f lo hi ≡ a ++ (m ++ b)) (w : Whole (side_of f lo hi)) where
  sizes : lo + size a + size m + size b ≡ hi
  sizes = omega (arith, size_side f lo hi fits, ap size parts, size-append a (m ++ b), size-append m b)

  bytes : take hi f ≡ take lo f ++ (join a ++ (join m ++ join b))
  bytes =
      sym (take-append-drop lo (take hi f))
      ∙ ap₂ {C = List ℕ} (λ (x y : List ℕ). x ++ y) (take-take lo hi f up)
      (sym (join_side f lo hi) ∙ ap join parts ∙ join-append a (m ++ b) ∙ ap (λ (z : List ℕ). join a ++ z) (join-append m b))

  pub behind_whole : Whole b
  behind_whole = whole_right m b (m ++ b) refl (whole_right a (m ++ b) (side_of f lo hi) parts w)

  pub middle_whole : Whole m
  middle_whole = whole_left m b (m ++ b) refl (whole_right a (m ++ b) (side_of f lo hi) parts w)

  pub side_middle : side_of f (lo + size a) (lo + size a + size m) ≡ m
  unfolding side_of size
  side_middle =
      let z = sizes in
      let q : ℕ = lo + size a + size m in
      let front : List ℕ = take lo f ++ join a in
      let lf : length front ≡ lo + size a = omega (arith, length-append (take lo f) (join a), length-take-le lo f (omega arith)) in
      let i : take hi f ≡ (front ++ join m) ++ join b = bytes ∙ sym (append_assoc (take lo f) (join a) (join m ++ join b)) ∙ sym (append_assoc front (join m) (join b)) in
      let t : take q f ≡ front ++ join m = sym (take-take q hi f (omega arith)) ∙ ap (take q) i ∙ take_at (front ++ join m) (join b) q (length-append front (join m) ∙ omega arith) in
      ap (λ (l : List ℕ). cut 0 (drop (lo + size a) l)) t ∙ ap (cut 0) (drop_at front (join m) (lo + size a) lf) ∙ join_whole m middle_whole

  pub middle_within : lo + size a + size m ≤ hi
  middle_within = let z = sizes in omega arith

  pub side_behind : side_of f (lo + size a + size m) hi ≡ b
  unfolding side_of size
  side_behind =
      let front : List ℕ = (take lo f ++ join a) ++ join m in
      let lf : length front ≡ lo + size a + size m = omega (arith, length-append (take lo f ++ join a) (join m), length-append (take lo f) (join a), length-take-le lo f (omega arith)) in
      let i : take hi f ≡ front ++ join b = bytes ∙ sym (append_assoc (take lo f) (join a) (join m ++ join b)) ∙ sym (append_assoc (take lo f ++ join a) (join m) (join b)) in
      ap (λ (l : List ℕ). cut 0 (drop (lo + size a + size m) l)) i ∙ ap (cut 0) (drop_at front (join b) (lo + size a + size m) lf) ∙ join_whole b behind_whole
