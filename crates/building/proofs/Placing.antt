-- A side in three parts, put into the field one after the other.
use mathlib.Core.Path.{◌≡◌, refl, sym, ◌∙◌, ap, ap₂}
use mathlib.Core.Bool.{true}
use mathlib.Core.List.{List, [], ◌∷◌, ◌++◌, append_assoc, append-nil}
use Prim.Native.Nat.{ℕ, ◌+◌, ◌-◌, ◌≤◌, ◌<◌}
use native.Mathlib.Omega.{arith}
use lib.ListN.{length, get_or, take, drop, length-append, length-take, length-drop, take-append-drop}
use lib.Seq.{paste, take_at, drop_at, drop-drop, take-take, length-take-le}
use Rattle.meaning.specs.Elements.{Element, body, size, is_variable}
use Rattle.meaning.proofs.Cutting.{Whole}
use Rattle.kinds.specs.Slots.{slot_of}
use Rattle.scanning.proofs.Marks.{size-nil, size-cons, whole_left, whole_right, whole_first}
use Rattle.building.specs.Build.{side_of, piece, pour, Ready, ready_none, ready_more, spans, Pivot, at_end, at_variable, Parted}
use Rattle.building.proofs.Sides.{drop-take, side_end, side_middle, side_behind, size_side, ready_first, var_range, Slot, slot}
use Rattle.building.proofs.Spans.{Walk, walk, pour_long, variable_by_kind}

pour-append : (f b : List ℕ) (xs ys : List Element) → pour f b (xs ++ ys) ≡ pour f b xs ++ pour f b ys
unfolding pour
pour-append f b [] ys = refl
pour-append f b (x ∷ xs) ys = ap {B = List ℕ} (λ l. piece f b x ++ l) (pour-append f b xs ys) ∙ sym (append_assoc (piece f b x) (pour f b xs) (pour f b ys))

ready_left : {f b : List ℕ} (xs ys zs : List Element) → zs ≡ xs ++ ys → Ready f b zs → Ready f b xs
ready_left [] ys zs e r = ready_none
ready_left (x ∷ xs) ys zs e r = let (h, t) = ready_first x (xs ++ ys) r e in ready_more h (ready_left xs ys (xs ++ ys) refl t)

ready_right : {f b : List ℕ} (xs ys zs : List Element) → zs ≡ xs ++ ys → Ready f b zs → Ready f b ys
ready_right [] ys zs e r = rw e at r
ready_right (x ∷ xs) ys zs e r = let (h, t) = ready_first x (xs ++ ys) r e in ready_right xs ys (xs ++ ys) refl t

-- NO PIVOT
pub parted_end : (p : List ℕ) (from to : ℕ) (f b : List ℕ) → Whole (side_of p from to) → from ≤ to → to ≤ length p → Ready f b (side_of p from to) → Parted p from to to f b 0 0 to
unfolding pour
parted_end p from to f b w h l r =
    let e : side_of p to to ≡ [] = side_end p to to (omega arith) l in
    record {
      upto = (h, l);
      before = (w, r);
      upto_next = omega arith;
      after = (rw e (whole_right (side_of p from to) [] (side_of p from to) (sym (append-nil _)) w), rw e ready_none);
      value = (omega arith, omega arith);
      is = rw e (sym (append-nil _));
    }

-- A PIVOT
pub record Turn (p : List ℕ) (from to pivot : ℕ) : Type 0 where
  pub a : List Element
  pub v : Element
  pub b : List Element
  pub is : side_of p from to ≡ a ++ (v ∷ b)
  pub place : pivot ≡ from + size a
  pub var : is_variable v ≡ true

pub turn : {p : List ℕ} {from to pivot : ℕ} → Pivot p from to pivot → (pivot ≡ to → ⊥) → Turn p from to pivot
turn at_end n = absurd (n refl)
turn (at_variable a v b i q h) n = record { a = a; v = v; b = b; is = i; place = q; var = h }

module _ (p : List ℕ) (from to pivot : ℕ) (f b : List ℕ) (t : Turn p from to pivot) (w : Whole (side_of p from to)) (up : from ≤ to) (fits : to ≤ length p) (r : Ready f b (side_of p from to)) where
  before_is : side_of p from pivot ≡ t.a
  before_is =
      let q : from + size [] ≡ from = omega (arith, size-nil) in
      let z : from + size t.a ≡ pivot = sym t.place in
      rw (q, z) at (side_middle p from to fits up [] t.a (t.v ∷ t.b) t.is w)

  rest_is : side_of p pivot to ≡ t.v ∷ t.b
  rest_is =
      let q : from + size [] ≡ from = omega (arith, size-nil) in
      let z : from + size t.a ≡ pivot = sym t.place in
      rw (q, z) at (side_behind p from to fits up [] t.a (t.v ∷ t.b) t.is w)

  rest_whole : Whole (side_of p pivot to)
  rest_whole = rw rest_is (whole_right t.a (t.v ∷ t.b) _ t.is w)

  rest_ready : Ready f b (side_of p pivot to)
  rest_ready = rw rest_is (ready_right t.a (t.v ∷ t.b) _ t.is r)

  pub inside : pivot < to
  inside =
      let (k, c, e, l) = whole_first t.v t.b _ rest_is rest_whole in
      omega (arith, size_side p pivot to fits, ap size rest_is, size-cons t.v t.b, ap length e)

  pub step : Walk p pivot to f b (1 + body (get_or p pivot 0))
  step = walk p pivot to f b fits inside rest_whole rest_ready (1 + body (get_or p pivot 0)) refl

  both : take (1 + body (get_or p pivot 0)) (drop pivot p) ∷ side_of p (pivot + (1 + body (get_or p pivot 0))) to ≡ t.v ∷ t.b
  both = sym step.is ∙ rest_is

  v_is : take (1 + body (get_or p pivot 0)) (drop pivot p) ≡ t.v
  v_is = let q = both in cc

  pub var_here : is_variable (take (1 + body (get_or p pivot 0)) (drop pivot p)) ≡ true
  var_here = rw v_is t.var

  pub two : 1 + body (get_or p pivot 0) ≡ 2
  two = (step.known.var var_here).0

  pub sorts : (8 ≤ get_or p pivot 0) × (get_or p pivot 0 ≤ 10)
  sorts = rw step.sort at (var_range (take (1 + body (get_or p pivot 0)) (drop pivot p)) var_here)

  pub value : Slot p pivot (1 + body (get_or p pivot 0)) f b step.known (get_or p pivot 0) (get_or p (pivot + 1) 0)
  value =
      let v = sym (variable_by_kind _ (get_or p pivot 0) step.sort) ∙ var_here in
      slot p pivot (1 + body (get_or p pivot 0)) f b step.known (get_or p pivot 0) (get_or p (pivot + 1) 0) refl v refl

  next_is : side_of p (pivot + 2) to ≡ t.b
  next_is = let q = both in rw (← two) cc

  pub parted_at : Parted p from pivot to f b (get_or b (slot_of (get_or p pivot 0) (get_or p (pivot + 1) 0)) 0) (get_or b (slot_of (get_or p pivot 0) (get_or p (pivot + 1) 0) + 48) 0) (pivot + 2)
  unfolding pour
  parted_at =
      let s = value in
      let i = inside in
      record {
        upto = (let z = t.place in omega arith, omega arith);
        before = (rw before_is (whole_left t.a (t.v ∷ t.b) _ t.is w), rw before_is (ready_left t.a (t.v ∷ t.b) _ t.is r));
        upto_next = (let z = step.within in let y = two in omega arith);
        after = (rw (← two) step.whole, rw (← two) step.ready);
        value = (s.up, s.fits);
        is =
            ap (pour f b) t.is ∙ pour-append f b t.a (t.v ∷ t.b)
            ∙ ap₂ {C = List ℕ} (λ x y. x ++ y) (ap (pour f b) (sym before_is))
            (ap₂ {C = List ℕ} (λ x y. x ++ y) (ap (piece f b) (sym v_is) ∙ s.is) (ap (pour f b) (sym next_is)));
      }

-- THREE PARTS INTO THE FIELD
paste_mid : (pre M post s : List ℕ) (at n : ℕ) → length pre ≡ at → length M ≡ n → paste (pre ++ (M ++ post)) at s n ≡ pre ++ (take n s ++ post)
paste_mid pre M post s at n lp lm =
    let t : take at (pre ++ (M ++ post)) ≡ pre = take_at pre (M ++ post) at lp in
    let d : drop (at + n) (pre ++ (M ++ post)) ≡ post = sym (drop-drop n at (pre ++ (M ++ post))) ∙ ap (drop n) (drop_at pre (M ++ post) at lp) ∙ drop_at M post n lm in
    append_assoc (take at (pre ++ (M ++ post))) (take n s) (drop (at + n) (pre ++ (M ++ post))) ∙ rw (t, d)

module _ (f s : List ℕ) (x na nv nb top vs : ℕ) (fit : x + na + nv + nb ≡ top) (in_field : top ≤ length f) (f1 f2 f3 : List ℕ)
    (e1 : f1 ≡ paste f (x + na) (drop vs f) nv) (e2 : f2 ≡ paste f1 (x + na + nv) (drop na s) nb) (e3 : f3 ≡ paste f2 x (drop 0 s) na) (in-s : na + nb ≤ length s) (in_f : vs + nv ≤ length f) where
  pre : List ℕ
  pre = take x f

  mid : List ℕ
  mid = take na (drop x f)

  val : List ℕ
  val = take nv (drop vs f)

  fill : List ℕ
  fill = take nb (drop (x + na + nv) f)

  post : List ℕ
  post = drop top f

  long_pre : length pre ≡ x
  unfolding pre
  long_pre = length-take-le x f (omega arith)

  long_mid : length mid ≡ na
  unfolding mid
  long_mid = omega (arith, length-take na (drop x f), length-drop x f)

  long_val : length val ≡ nv
  unfolding val
  long_val = omega (arith, length-take nv (drop vs f), length-drop vs f)

  long_fill : length fill ≡ nb
  unfolding fill
  long_fill = omega (arith, length-take nb (drop (x + na + nv) f), length-drop (x + na + nv) f)

  split : f ≡ (pre ++ mid) ++ (take nv (drop (x + na) f) ++ (fill ++ post))
  unfolding pre mid fill post
  split =
      let c : (i n : ℕ) → drop i f ≡ take n (drop i f) ++ drop (i + n) f = λ i n. sym (take-append-drop n (drop i f)) ∙ ap {B = List ℕ} (λ l. take n (drop i f) ++ l) (drop-drop n i f) in
      sym (take-append-drop x f)
      ∙ ap {B = List ℕ} (λ l. take x f ++ l) (c x na ∙ ap {B = List ℕ} (λ l. take na (drop x f) ++ l) (c (x + na) nv ∙ ap {B = List ℕ} (λ l. take nv (drop (x + na) f) ++ l)
      (c (x + na + nv) nb ∙ ap {B = List ℕ} (λ (i : ℕ). take nb (drop (x + na + nv) f) ++ drop i f) fit)))
      ∙ sym (append_assoc (take x f) (take na (drop x f)) _)

  f1_is : f1 ≡ ((pre ++ mid) ++ val) ++ (fill ++ post)
  unfolding val
  f1_is =
      let m : length (take nv (drop (x + na) f)) ≡ nv = omega (arith, length-take nv (drop (x + na) f), length-drop (x + na) f) in
      let l : length (pre ++ mid) ≡ x + na = omega (arith, length-append pre mid, long_pre, long_mid) in
      e1 ∙ ap (λ (l : List ℕ). paste l (x + na) (drop vs f) nv) split ∙ paste_mid (pre ++ mid) (take nv (drop (x + na) f)) (fill ++ post) (drop vs f) (x + na) nv l m ∙ sym (append_assoc (pre ++ mid) (take nv (drop vs f)) (fill ++ post))

  f2_is : f2 ≡ pre ++ (mid ++ (val ++ (take nb (drop na s) ++ post)))
  f2_is =
      let l : length ((pre ++ mid) ++ val) ≡ x + na + nv = omega (arith, length-append (pre ++ mid) val, length-append pre mid, long_pre, long_mid, long_val) in
      e2 ∙ ap (λ (l : List ℕ). paste l (x + na + nv) (drop na s) nb) f1_is ∙ paste_mid ((pre ++ mid) ++ val) fill post (drop na s) (x + na + nv) nb l long_fill
      ∙ append_assoc (pre ++ mid) val (take nb (drop na s) ++ post) ∙ append_assoc pre mid (val ++ (take nb (drop na s) ++ post))

  pub three_placed : f3 ≡ take x f ++ ((take na s ++ (take nv (drop vs f) ++ take nb (drop na s))) ++ drop top f)
  unfolding pre val post
  three_placed =
      e3 ∙ ap (λ (l : List ℕ). paste l x (drop 0 s) na) f2_is ∙ paste_mid pre mid (val ++ (take nb (drop na s) ++ post)) (drop 0 s) x na long_pre long_mid
      ∙ ap {B = List ℕ} (λ l. take x f ++ l)
      (sym (append_assoc (take na s) (take nv (drop vs f) ++ take nb (drop na s)) (drop top f) ∙ ap {B = List ℕ} (λ l. take na s ++ l) (append_assoc (take nv (drop vs f)) (take nb (drop na s)) (drop top f))))

pub put_in_all : (f s : List ℕ) (end from v n m : ℕ) → n ≤ m → m ≤ length s → from + v ≤ length f → m + v ≤ end → end ≤ length f → (f1 f2 f3 : List ℕ)
    → f1 ≡ paste f (end - (m - n) - v) (drop from f) v → f2 ≡ paste f1 (end - (m - n)) (drop n s) (m - n) → f3 ≡ paste f2 (end - (m - n) - v - n) (drop 0 s) n
    → f3 ≡ take (end - (m + v)) f ++ ((take n s ++ (take v (drop from f) ++ take (m - n) (drop n s))) ++ drop end f)
put_in_all f s end from v n m h1 h2 h3 h4 h5 f1 f2 f3 e1 e2 e3 =
    let q1 : end - (m - n) - v ≡ end - (m + v) + n = omega arith in
    let q2 : end - (m - n) ≡ end - (m + v) + n + v = omega arith in
    let q3 : end - (m - n) - v - n ≡ end - (m + v) = omega arith in
    three_placed f s (end - (m + v)) n v (m - n) end from (omega arith) h5 f1 f2 f3 (rw q1 at e1) (rw q2 at e2) (rw q3 at e3) (omega arith) h3

-- two sides built one behind the other
pub two_built : (f b : List ℕ) (x y : List Element) (s₁ s₂ : List ℕ) (n m : ℕ) → Ready f b x → Ready f b y → n ≡ 0 + spans b x → take n s₁ ≡ pour f b x → m ≡ n + spans b y → take m s₂ ≡ take n s₁ ++ pour f b y
    → (n ≡ spans b x) × (m ≡ n + spans b y) × (take n s₂ ≡ pour f b x) × (take (m - n) (drop n s₂) ≡ pour f b y)
two_built f b x y s₁ s₂ n m rx ry en e1 em e2 =
    let lx : length (pour f b x) ≡ n = omega (arith, pour_long rx) in
    let e : take m s₂ ≡ pour f b x ++ pour f b y = e2 ∙ ap (λ (l : List ℕ). l ++ pour f b y) e1 in
    let q : m ≡ n + (m - n) = omega arith in (
      omega arith,
      em,
      sym (take-take n m s₂ (omega arith)) ∙ ap (take n) e ∙ take_at (pour f b x) (pour f b y) n lx,
      sym (drop-take n (m - n) s₂) ∙ ap (λ (k : ℕ). drop n (take k s₂)) (sym q) ∙ ap (drop n) e ∙ drop_at (pour f b x) (pour f b y) n lx,
    )

-- a part of the argument is a part of the field
pub value_in : (f : List ℕ) (hi at v w : ℕ) → hi ≤ at → at ≤ length f → v ≤ w → w ≤ length (take (at - hi) (drop hi f)) → take (w - v) (drop (hi + v) f) ≡ take (w - v) (drop v (take (at - hi) (drop hi f)))
value_in f hi at v w h l u k =
    let lw : w ≤ at - hi = omega (arith, length-take (at - hi) (drop hi f), length-drop hi f) in
    let q : at - hi ≡ v + (at - hi - v) = omega arith in
    let d : drop v (take (at - hi) (drop hi f)) ≡ take (at - hi - v) (drop (hi + v) f) = ap (λ (k : ℕ). drop v (take k (drop hi f))) q ∙ drop-take v (at - hi - v) (drop hi f) ∙ ap (take (at - hi - v)) (drop-drop v hi f) in
    sym (ap (take (w - v)) d ∙ take-take (w - v) (at - hi - v) (drop (hi + v) f) (omega arith))

module _ (p : List ℕ) (from pivot to : ℕ) (f b : List ℕ) (hi at v w next : ℕ) (h : hi ≤ at) (l : at < length f) (q : Parted p from pivot to (take (at - hi) (drop hi f)) b v w next) (r : Ready (take (at - hi) (drop hi f)) b (side_of p from to)) where
  pub parts_long : spans b (side_of p from pivot) + (w - v) + spans b (side_of p next to) ≡ spans b (side_of p from to)
  parts_long =
      let u = q.value.0 in
      let k = q.value.1 in
      omega (
        arith,
        sym (pour_long r),
        ap length q.is,
        length-append (pour (take (at - hi) (drop hi f)) b (side_of p from pivot)) (take (w - v) (drop v (take (at - hi) (drop hi f))) ++ pour (take (at - hi) (drop hi f)) b (side_of p next to)),
        length-append (take (w - v) (drop v (take (at - hi) (drop hi f)))) (pour (take (at - hi) (drop hi f)) b (side_of p next to)),
        length-take (w - v) (drop v (take (at - hi) (drop hi f))),
        length-drop v (take (at - hi) (drop hi f)),
        pour_long q.before.1,
        pour_long q.after.1,
      )

  pub value_inside : hi + v + (w - v) ≤ length f
  value_inside = let u = q.value.0 in let k = q.value.1 in omega (arith, length-take (at - hi) (drop hi f), length-drop hi f)

  pub placed_all : (s f' : List ℕ) (n m : ℕ) → n ≡ spans b (side_of p from pivot) → m ≡ n + spans b (side_of p next to) → take n s ≡ pour (take (at - hi) (drop hi f)) b (side_of p from pivot)
      → take (m - n) (drop n s) ≡ pour (take (at - hi) (drop hi f)) b (side_of p next to)
      → f' ≡ take (at + 1 - (m + (w - v))) f ++ ((take n s ++ (take (w - v) (drop (hi + v) f) ++ take (m - n) (drop n s))) ++ drop (at + 1) f)
      → f' ≡ take (at + 1 - spans b (side_of p from to)) f ++ (pour (take (at - hi) (drop hi f)) b (side_of p from to) ++ drop (at + 1) f)
  placed_all s f' n m en em e1 e2 ef =
      let x : at + 1 - (m + (w - v)) ≡ at + 1 - spans b (side_of p from to) = (let z = parts_long in omega arith) in
      let i : take n s ++ (take (w - v) (drop (hi + v) f) ++ take (m - n) (drop n s)) ≡ pour (take (at - hi) (drop hi f)) b (side_of p from to) =
      ap₂ {C = List ℕ} (λ a c. a ++ c) e1 (ap₂ {C = List ℕ} (λ a c. a ++ c) (value_in f hi at v w h (omega arith) q.value.0 q.value.1) e2) ∙ sym q.is in
      ef ∙ ap₂ {C = List ℕ} (λ a c. a ++ (c ++ drop (at + 1) f)) (ap (λ (k : ℕ). take k f) x) i
