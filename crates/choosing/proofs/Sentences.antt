-- The sentences of a body in turn.
use mathlib.Core.Path.{◌≡◌, refl, sym, ◌∙◌, ap, subst}
use mathlib.Core.Bool.{Bool, true, false}
use mathlib.Core.Option.{none, some}
use mathlib.Core.List.{List, [], ◌∷◌, ◌++◌}
use Prim.Native.Nat.{ℕ, suc, ◌+◌, ◌-◌, ◌≤◌, ◌<◌}
use native.Mathlib.Omega.{arith}
use lib.Seq.{length-take-le, take-add, drop_at}
use lib.ListN.{length, get_or, take, drop}
use borrow.Author.Tests.{eq-eqb, eqb-true}
use Rattle.meaning.specs.Elements.{Element, elements, kind, body, size, is_kind, is_variable}
use Rattle.meaning.specs.Goodness.{span, stands, ends_side}
use Rattle.meaning.specs.Matching.{plain, role, put, Env, free, seek, given}
use Rattle.meaning.specs.Machine.{before, holds, pieces, apply}
use Rattle.meaning.proofs.Truth.{never, is_true, is_false, see, or_right}
use Rattle.meaning.proofs.Cutting.{Whole}
use Rattle.meaning.proofs.Searching.{given_itself}
use Rattle.meaning.proofs.Holding.{holds-append}
use Rattle.meaning.proofs.Programs.{before_here, before_at, Sided, Body, body_end, body_more, side_holds, sided-known, body_split, left_of, right_of}
use Rattle.settling.specs.Values.{LeftSide}
use Rattle.matching.specs.Binding.{Matched, no_fit, first_fit}
use Rattle.building.specs.Build.{side_of, pour, Ready}
use Rattle.std.specs.Prelude.{Some, None}
use Rattle.choosing.specs.Choose.{rest_of, sentences, Chosen, none_fits, one_fits}
use Rattle.scanning.proofs.Marks.{size-nil, size-cons, whole_left, whole_right}
use Rattle.building.proofs.Sides.{side_middle, side_behind, middle_within, behind_whole}
use Rattle.choosing.proofs.Rest.{whole_one, rest_is, kind_el, first_kind, rest_in}
use Rattle.choosing.proofs.Good.{left_is}
use Rattle.choosing.proofs.Values.{valued, Has, ready, poured, put_whole, calm}

holds_at : {k : ℕ} (xs : List Element) (s : Element) (ys : List Element) → kind s ≡ k → holds k (xs ++ (s ∷ ys)) ≡ true
unfolding holds
holds_at {k} xs s ys e = holds-append k xs (s ∷ ys) ∙ rw (eq-eqb (kind s) k e) (or_right (holds k xs))

-- the first sentence of a body: the left side l, its = q, the right side r, its end s
pub record FirstSentence (es : List Element) : Type 0 where
  pub l : List Element
  pub r : List Element
  pub rest : List Element
  pub q : Element
  pub s : Element
  pub sides : Sided l r
  pub kq : kind q ≡ 11
  pub ks : kind s ≡ 12
  pub more : Body rest
  pub parts : es ≡ l ++ (q ∷ (r ++ (s ∷ rest)))

module _ {es : List Element} (n : FirstSentence es) (x : List Element) where
  apply_first : apply (sentences es) x ≡ apply ((n.l ++ (n.q ∷ n.r)) ∷ sentences n.rest) x
  unfolding sentences
  apply_first = ap (λ (z : List (List Element)). apply z x) (ap (λ (z : List Element). pieces 12 (before 14 z)) n.parts ∙ body_split n.sides n.q n.kq n.s n.rest n.ks)

  apply_lost : seek n.l x free ≡ none → apply (sentences es) x ≡ apply (sentences n.rest) x
  unfolding apply
  apply_lost h = apply_first ∙ rw (left_of n.sides n.q n.kq, h, apply)

  apply_won : (env : Env) → seek n.l x free ≡ some env → apply (sentences es) x ≡ some (put (given env) n.r)
  unfolding apply
  apply_won env h = apply_first ∙ rw (left_of n.sides n.q n.kq, h, apply) (rw (right_of n.sides n.q n.kq))

not_var : (e : Element) → is_variable e ≡ false → role e ≡ plain
unfolding role is_variable
not_var e h =
    elim (see (is_kind 8 e)) [
      | is_true z ↦ never (let k = eqb-true (kind e) 8 z in let y : true ≡ false = rw k at h in cc)
      | is_false z ↦
          elim (see (is_kind 9 e)) [
            | is_true y ↦ never (let k = eqb-true (kind e) 9 y in let x : true ≡ false = rw k at h in cc)
            | is_false y ↦
                elim (see (is_kind 10 e)) [
                  | is_true x ↦ never (let k = eqb-true (kind e) 10 x in let w : true ≡ false = rw k at h in cc)
                  | is_false x ↦ rw (z, y, x)
                ]
          ]
    ]

-- THE SENTENCE AT A PLACE

-- from `at` up to mid stand the elements a, from mid up to next one element, behind it the elements b
pub record Cut (p : List ℕ) (at mid next : ℕ) (a b : List Element) : Type 0 where
  pub front : side_of p at mid ≡ a
  pub front_whole : Whole a
  pub behind : rest_of p next ≡ b
  pub behind_whole : Whole (rest_of p next)
  pub up : at ≤ mid
  pub on : mid < next
  pub fits : next ≤ length p

-- the elements up to the first of kind k
cut_off : (p : List ℕ) (at mid next k : ℕ) (a : List Element) (e : Element) (b : List Element) → at ≤ length p → Whole (rest_of p at) → rest_of p at ≡ a ++ (e ∷ b)
    → holds k a ≡ false → kind e ≡ k → mid ≡ at + size (before k (rest_of p at)) → next ≡ mid + 1 + body k → Cut p at mid next a b
unfolding rest_of
cut_off p at mid next k a e b h w parts lacks ke em en =
    let le : length p ≤ length p = omega arith in
    let m : mid ≡ at + size a = em ∙ ap {B = ℕ} (λ z. at + size z) (ap (before k) parts ∙ before_at k a e b lacks (eq-eqb (kind e) k ke)) in
    let long : length e ≡ suc (body k) = whole_one e b (e ∷ b) refl (whole_right a (e ∷ b) _ parts w) ∙ rw ke in
    let one : size (e ∷ []) ≡ suc (body k) = omega (arith, size-cons e [], size-nil) in
    let i : at + size [] ≡ at = omega (arith, size-nil) in
    let j : at + size [] + size a ≡ mid = omega (arith, size-nil) in
    let n : at + size a + size (e ∷ []) ≡ next = omega arith in
    let z = rw n at (side_behind p at (length p) le h a (e ∷ []) b parts w) in
    record {
      front = rw (j, i) at (side_middle p at (length p) le h [] a (e ∷ b) parts w);
      front_whole = whole_left a (e ∷ b) _ parts w;
      behind = z;
      behind_whole = subst Whole (sym z) (behind_whole p at (length p) le h a (e ∷ []) b parts w);
      up = omega arith;
      on = omega arith;
      fits = rw n at (middle_within p at (length p) le h a (e ∷ []) b parts w);
    }

-- the slice from `at` up to mid has the elements a
part_is : {p : List ℕ} {at mid next : ℕ} {a b : List Element} → Cut p at mid next a b → elements (take (mid - at) (drop at p)) ≡ a
unfolding side_of
part_is {p} {at} {mid} c =
    let u = c.up in let v = c.on in let w = c.fits in
    let q : mid ≡ at + (mid - at) = omega arith in
    let part : drop at (take mid p) ≡ take (mid - at) (drop at p) =
    ap (λ (n : ℕ). drop at (take n p)) q ∙ ap (drop at) (take-add at (mid - at) p) ∙ drop_at (take at p) _ at (length-take-le at p (omega arith)) in
    ap elements (sym part) ∙ c.front

nonempty : {zs : List Element} → Body zs → zs ≡ [] → ⊥
nonempty (body_end k) z = never (cc)
nonempty (body_more {l = []} q s g kq ks b) z = never (cc)
nonempty (body_more {l = x ∷ l} q s g kq ks b) z = never (cc)

-- the sentence at a place, with the places of its = and of its end, and those behind these
pub record SentenceAt (p : List ℕ) (at mid right stop next : ℕ) : Type 0 where
  pub first : FirstSentence (rest_of p at)
  pub left : Cut p at mid right first.l (first.r ++ (first.s ∷ first.rest))
  pub right_side : Cut p right stop next first.r first.rest

-- THE LOOP OVER SENTENCES
pub record Choosing (p : List ℕ) (start : ℕ) (x : List Element) (at : ℕ) : Type 0 where
  pub upto : at ≤ length p
  pub whole : Whole (rest_of p at)
  pub body : Body (rest_of p at)
  pub so : apply (sentences (rest_of p start)) x ≡ apply (sentences (rest_of p at)) x

module _ {p : List ℕ} {start : ℕ} {x : List Element} {at : ℕ} (c : Choosing p start x at) where
  pub place_in : at < length p
  place_in = rest_in p at (nonempty c.body)

  module _ {k : ℕ} (is : k ≡ get_or p at 0) (n : k ≡ 14 → ⊥) where
    pub first_sentence : FirstSentence (rest_of p at)
    first_sentence = go c.body refl
      where
        go : {zs : List Element} → Body zs → zs ≡ rest_of p at → FirstSentence (rest_of p at)
        go (body_end {e} {es} k) z = absurd (n (is ∙ sym (first_kind p at place_in c.whole e es (sym z)) ∙ k))
        go (body_more {l} {r} {rest} q s g kq ks b) z = record { l = l; r = r; rest = rest; q = q; s = s; sides = g; kq = kq; ks = ks; more = b; parts = sym z }

    pub has_equals : holds 11 (rest_of p at) ≡ true
    has_equals = let f = first_sentence in rw f.parts (holds_at f.l f.q _ f.kq)

    pub equals_at : {mid right : ℕ} → mid ≡ at + size (before 11 (rest_of p at)) → right ≡ mid + 1 + body 11
        → Cut p at mid right first_sentence.l (first_sentence.r ++ (first_sentence.s ∷ first_sentence.rest))
    unfolding stands span ends_side
    equals_at e r = let f = first_sentence in cut_off p at _ _ 11 f.l f.q _ c.upto c.whole f.parts (side_holds 11 f.sides.left_side refl) f.kq e r

    pub left_side : {mid : ℕ} → mid ≡ at + size (before 11 (rest_of p at)) → LeftSide 0 (elements (take (mid - at) (drop at p)))
    left_side e = subst (LeftSide 0) (sym (part_is (equals_at e refl))) (left_is first_sentence.sides.left_side)

    module _ {mid right : ℕ} (e : mid ≡ at + size (before 11 (rest_of p at))) (r : right ≡ mid + 1 + body 11) where
      pub has_end : holds 12 (rest_of p right) ≡ true
      has_end = let f = first_sentence in rw (equals_at e r).behind (holds_at f.r f.s f.rest f.ks)

      pub sentence_at : {stop next : ℕ} → stop ≡ right + size (before 12 (rest_of p right)) → next ≡ stop + 1 + body 12 → SentenceAt p at mid right stop next
      unfolding stands span ends_side
      sentence_at u v =
          let f = first_sentence in
          let l = equals_at e r in
          record { first = f; left = l; right_side = cut_off p right _ _ 12 f.r f.s f.rest l.fits l.behind_whole l.behind (side_holds 12 f.sides.right_side refl) f.ks u v }

module _ {p f b : List ℕ} {start at : ℕ} (c : Choosing p start (elements f) at) where
  pub choose_none : {k : ℕ} → k ≡ get_or p at 0 → k ≡ 14 → Chosen p f b (apply (sentences (rest_of p start)) (elements f)) None
  unfolding sentences pieces apply
  choose_none is k =
      let i = place_in c in
      let y = eq-eqb _ 14 (kind_el p at i c.whole ∙ sym is ∙ k) in
      none_fits (c.so ∙ ap (λ (z : List Element). apply (sentences z) (elements f)) (rest_is p at i c.whole) ∙ rw (before_here 14 _ _ y))

  module _ {mid right stop next : ℕ} (t : SentenceAt p at mid right stop next) where
    pub choose_next : {v : Bool} → v ≡ false → Matched (elements (take (mid - at) (drop at p))) f b v → Choosing p start (elements f) next
    choose_next n (first_fit env s g) = never (cc)
    choose_next n (no_fit s) = record {
      upto = t.right_side.fits;
      whole = t.right_side.behind_whole;
      body = subst Body (sym t.right_side.behind) t.first.more;
      so = c.so ∙ apply_lost t.first (elements f) (rw (part_is t.left) at s) ∙ ap (λ (k : List Element). apply (sentences k) (elements f)) (sym t.right_side.behind);
    }

    pub choose_this : {v : Bool} → v ≡ true → Matched (elements (take (mid - at) (drop at p))) f b v
        → Chosen p f b (apply (sentences (rest_of p start)) (elements f)) (Some (record { from = right; to = stop }))
    choose_this n (no_fit s) = never (cc)
    choose_this n (first_fit env s g) =
        let l = t.first.l in
        let r = t.first.r in
        let r_is = t.right_side.front in
        let r_whole = t.right_side.front_whole in
        let i : seek l (elements f) free ≡ some env = rw (part_is t.left) at s in
        let itself : (e : Element) → is_variable e ≡ false → given env e ≡ e ∷ [] = λ e y. given_itself l (elements f) env i e (not_var e y) in
        let has : Has f b env itself r = λ v m y. valued f b env (left_is t.first.sides.left_side) (rw (part_is t.left) at g) v (sided-known t.first.sides v m y) y in
        one_fits (put (given env) r) (given env)
        (c.so ∙ apply_won t.first (elements f) env i)
        (put_whole f b env itself r r_whole has)
        t.right_side.up
        (let y = t.right_side.on in let z = t.right_side.fits in omega arith)
        (subst Whole (sym r_is) r_whole)
        (subst (Ready f b) (sym r_is) (ready f b env itself r has))
        (ap (pour f b) r_is ∙ poured f b env itself r has)
        (ap (put (given env)) (sym r_is))
        (λ v m y. calm f b env v y (has v (rw r_is at m) y))
        itself
