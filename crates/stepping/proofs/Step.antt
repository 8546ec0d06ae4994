-- The step, from what its calls gave.
use mathlib.Core.Path.{◌≡◌, refl, sym, ◌∙◌, ap, subst}
use mathlib.Core.Bool.{true, false}
use mathlib.Core.Option.{Option, none, some}
use mathlib.Core.List.{List, [], ◌∷◌, ◌++◌, append_assoc}
use Prim.Native.Nat.{ℕ, ◌+◌, ◌-◌, ◌*◌, ◌≤◌, ◌<◌}
use native.Mathlib.Omega.{arith}
use lib.ListN.{length, get_or, take, drop, length-drop}
use lib.Seq.{sets, length-sets}
use Rattle.meaning.specs.Elements.{Element, elements, join, size, among, is_variable}
use Rattle.meaning.specs.Matching.{put}
use Rattle.meaning.specs.Machine.{apply, function, step, onward}
use Rattle.meaning.proofs.Truth.{never}
use Rattle.meaning.proofs.Cutting.{Whole, size-append}
use Rattle.meaning.proofs.Programs.{Functions, Body}
use Rattle.meaning.proofs.Steps.{step_good}
use Rattle.elements.specs.declared.Cursor.{Cursor}
use Rattle.scanning.specs.State.{field_at, Good, marks_of}
use Rattle.building.specs.Build.{side_of, pour, Ready, Calm, spans, calls_of, placed, Given, Measured}
use Rattle.building.proofs.Spans.{pour_long}
use Rattle.choosing.specs.Choose.{rest_of, sentences, Looked, there, nowhere, Chosen, none_fits, one_fits}
use Rattle.std.specs.Prelude.{Option as Found, Some, None, Result, Ok, Err}
use Rattle.building.specs.declared.Extent.{Extent}
use Rattle.building.specs.declared.Side.{Side as Part}
use Rattle.std.specs.Option.{ok_or}
use Rattle.stepping.specs.declared.Stuck.{Stuck}
use Rattle.stepping.specs.declared.Stuck.TheVariants.{NoMatch, NoFunction, NoRoom}
use Rattle.stepping.specs.Stepping.{argument_of, Term, Under, Stepped, stays, goes}
use Rattle.kinds.proofs.Stacks.{stack_sets, stack_long}
use Rattle.stepping.proofs.Count.{calls_append, opens_calls, calls_fit, marks_append, marks_long, marks_put, placed_long, noted-top}
use Rattle.stepping.proofs.Term.{places, arg_is, no_function, no_match, no_room, new_field, new_size, new_whole, new_long, new_is}

pub record Place (p name : List ℕ) (i : Cursor) : Type 0 where
  pub is : function name (rest_of p 0) ≡ some (sentences (rest_of p i.at))
  pub upto : i.at ≤ length p
  pub whole : Whole (rest_of p i.at)
  pub body : Body (rest_of p i.at)

pub place : (p name : List ℕ) (i : Cursor) → Looked p name (Some i) → Place p name i
place p name i l = go l refl
  where
    go : {s : Found Cursor} → Looked p name s → s ≡ Some i → Place p name i
    go (nowhere h) e = never (cc)
    go (there {c = j} h l w b) e =
        let q : j ≡ i = cc in
        subst (Place p name) q (record { is = h; upto = l; whole = w; body = b })

pub nowhere_is : (p name : List ℕ) → Looked p name None → function name (rest_of p 0) ≡ none
nowhere_is p name l = go l refl
  where
    go : {s : Found Cursor} → Looked p name s → s ≡ None → function name (rest_of p 0) ≡ none
    go (nowhere h) e = h
    go (there h l w b) e = never (cc)

pub record Side (p f b : List ℕ) (o : Option (List Element)) (a e : ℕ) : Type 0 where
  pub r : List Element
  pub is : o ≡ some r
  pub r_whole : Whole r
  pub up : a ≤ e
  pub upto : e ≤ length p
  pub whole : Whole (side_of p a e)
  pub ready : Ready f b (side_of p a e)
  pub bytes : pour f b (side_of p a e) ≡ join r
  pub val : Element → List Element
  pub r_is : r ≡ put val (side_of p a e)
  pub vars : (v : Element) → among v (side_of p a e) ≡ true → is_variable v ≡ true → Calm f b v (val v)
  pub lits : (v : Element) → is_variable v ≡ false → val v ≡ v ∷ []

pub side : {p f b : List ℕ} {o : Option (List Element)} {r : Found Part} {d : Part} → Chosen p f b o r → r ≡ Some d → Side p f b o d.from d.to
side (none_fits h) z = never (cc)
side {p} {f} {b} {o} {d = d} (one_fits {a} {e} r val h wr u v w y q ri vs ls) z =
    let g : Side p f b o a e = record { r = r; is = h; r_whole = wr; up = u; upto = v; whole = w; ready = y; bytes = q; val = val; r_is = ri; vars = vs; lits = ls } in
    let k : ◌≡◌ {A = Part} (record { from = a; to = e }) d = cc in
    subst (λ (x : Part). Side p f b o x.from x.to) k g

none_of : {p f b : List ℕ} {o : Option (List Element)} {r : Found Part} → Chosen p f b o r → r ≡ None → o ≡ none
none_of (none_fits h) z = h
none_of (one_fits r val h wr u v w y q ri vs ls) z = never (cc)

-- what a missing value is refused with
pub refused : {A : Type 0} {o : Found A} {e w : Stuck} → o ≡ None → ◌≡◌ {A = Result A Stuck} (Err e) (ok_or o w) → e ≡ w
refused h k = let q = rw h at k in cc

-- NO FUNCTION, NO MATCH
pub stays_3 : {p f : List ℕ} {from hi at : ℕ} → Good f (from + 3) hi → Term f from hi at → Looked p (get_or f (from + 1) 0 ∷ get_or f (from + 2) 0 ∷ []) None
    → {read depth : ℕ} {cs : List ℕ}
    → Stepped f from read depth (step (rest_of p 0) (length f) (field_at f (from + 3) hi)) (Err NoFunction) f cs
stays_3 {p} {f} g t l = stays (no_function g t p (length f) (nowhere_is p _ l)) refl

module _ {p f : List ℕ} {from hi at : ℕ} {body : Cursor} (g : Good f (from + 3) hi) {read depth top : ℕ} {notes : List ℕ} (u : Under f from hi at read depth top notes)
    (l : Looked p (get_or f (from + 1) 0 ∷ get_or f (from + 2) 0 ∷ []) (Some body)) where
  k : Place p (get_or f (from + 1) 0 ∷ get_or f (from + 2) 0 ∷ []) body
  k = place p _ body l

  pub stays_2 : {b : List ℕ} {x : Found Part} → Chosen p (argument_of f hi at) b (apply (sentences (rest_of p body.at)) (elements (argument_of f hi at))) x → x ≡ None
      → {cs : List ℕ} → Stepped f from read depth (step (rest_of p 0) (length f) (field_at f (from + 3) hi)) (Err NoMatch) f cs
  stays_2 c z =
      let none_fits = ap (apply (sentences (rest_of p body.at))) (sym (arg_is g u.term)) ∙ none_of c z in
      stays (no_match g u.term p (length f) (sentences (rest_of p body.at)) k.is none_fits) refl

  -- A SENTENCE FITS
  module _ {b : List ℕ} {x : Found Part} {d : Part} (c : Chosen p (argument_of f hi at) b (apply (sentences (rest_of p body.at)) (elements (argument_of f hi at))) x) (z : x ≡ Some d) where
    pub sd : Side p (argument_of f hi at) b (apply (sentences (rest_of p body.at)) (elements (argument_of f hi at))) d.from d.to
    sd = side c z

    ap_is : apply (sentences (rest_of p body.at)) u.term.x ≡ some sd.r
    ap_is = ap (apply (sentences (rest_of p body.at))) (sym (arg_is g u.term)) ∙ sd.is

    pub in_given : Given p d.from d.to b
    in_given = record { upto = sd.up; fits = sd.upto; arg = argument_of f hi at; ready = sd.ready }

    long_r : spans b (side_of p d.from d.to) ≡ size sd.r
    unfolding size
    long_r = sym (pour_long sd.ready) ∙ ap length sd.bytes

    pub stays_4 : {m : Found Extent} → Measured p d.from d.to b (at + 1 - from) m → m ≡ None → {cs : List ℕ}
        → Stepped f from read depth (step (rest_of p 0) (length f) (field_at f (from + 3) hi)) (Err NoRoom) f cs
    stays_4 m y =
        let more : at + 1 - from < size sd.r = (let q = m.no y in omega (arith, long_r)) in
        stays (no_room g u.term p (length f) (sentences (rest_of p body.at)) k.is sd.r refl ap_is more) refl

    module _ {m : Found Extent} {v : Extent} (ms : Measured p d.from d.to b (at + 1 - from) m) (y : m ≡ Some v) where
      n_is : v.size ≡ size sd.r
      n_is = (ms.yes v y).0 ∙ long_r

      fit : v.size ≤ at + 1 - from
      fit = (ms.yes v y).1

      pub step_is : step (rest_of p 0) (length f) (field_at f (from + 3) hi) ≡ onward (u.term.a ++ sd.r ++ u.term.b)
      step_is = new_field g u.term p (length f) (sentences (rest_of p body.at)) k.is sd.r refl ap_is (let q = fit in omega (arith, n_is))

      pub start_in : (v.size ≤ at + 1) × (at < length f) × (at + 1 - v.size + spans b (side_of p d.from d.to) ≡ at + 1)
      start_in = let q = fit in let pl = places g u.term in (omega arith, pl.2, omega (arith, (ms.yes v y).0))

      module _ (ok : Functions (rest_of p 0)) (room : length f ≤ 2 * length notes) where
        new : List Element
        new = u.term.a ++ sd.r ++ u.term.b

        -- all brackets have room in the notes
        pub in_count : depth + calls_of (side_of p d.from d.to) ≤ top
        unfolding new
        in_count =
            let wn : Whole new = new_whole g u.term sd.r_whole in
            let gd = step_good (rest_of p 0) (length f) (field_at f (from + 3) hi) new ok (record { solid = g.solid; balanced = g.balanced }) step_is in
            let q1 = calls_fit new wn gd.balanced in
            let q2 = calls_append (u.term.a ++ sd.r) u.term.b in
            let q3 = calls_append u.term.a sd.r in
            let q4 = ap calls_of u.behind ∙ calls_append u.known u.unread in
            let q5 = opens_calls u.opened ∙ stack_long depth notes in
            let q6 : calls_of sd.r ≡ calls_of (side_of p d.from d.to) =
            sym (marks_long sd.r 0) ∙ ap (λ (es : List Element). length (marks_of 0 es)) sd.r_is
            ∙ ap length (marks_put (argument_of f hi at) b sd.val (side_of p d.from d.to) 0 sd.vars sd.lits) ∙ placed_long (side_of p d.from d.to) b 0 in
            let q7 : calls_of u.known ≡ length notes - top = sym (marks_long u.known (at + 1)) ∙ ap length (sym u.marked) ∙ length-drop top notes in
            let ns = new_size g u.term p (length f) (sentences (rest_of p body.at)) k.is sd.r in
            let ft = fit in
            let pl = places g u.term in
            let i = u.inside in
            omega (arith, q1, q2, q3, q4, q5, q6, q7, ns, ft, n_is, pl.0, pl.1, i)

        module _ {f' notes' : List ℕ} (ef : f' ≡ take (at + 1 - spans b (side_of p d.from d.to)) f ++ (pour (argument_of f hi at) b (side_of p d.from d.to) ++ drop (at + 1) f))
            (en : notes' ≡ sets notes (top - v.calls) (placed (at + 1 - v.size) b (side_of p d.from d.to))) where
          ef' : f' ≡ take (at + 1 - v.size) f ++ (pour (argument_of f hi at) b (side_of p d.from d.to) ++ drop (at + 1) f)
          ef' = rw (ms.yes v y).0 ef

          is : field_at f' from (at + 1 - v.size) ≡ u.term.a ++ sd.r ++ u.term.b
          is = new_is g u.term sd.r _ v.size sd.bytes n_is fit f' ef' sd.r_whole

          marked : drop (top - v.calls) notes' ≡ marks_of (at + 1 - v.size) (sd.r ++ u.known)
          marked =
              let c = (ms.yes v y).2 in
              let cn = in_count in
              let pl = placed_long (side_of p d.from d.to) b (at + 1 - v.size) in
              let q : at + 1 - v.size + size sd.r ≡ at + 1 = (let ft = fit in omega (arith, n_is)) in
              let r_marks : marks_of (at + 1 - v.size) sd.r ≡ placed (at + 1 - v.size) b (side_of p d.from d.to) =
              ap (marks_of (at + 1 - v.size)) sd.r_is ∙ marks_put (argument_of f hi at) b sd.val (side_of p d.from d.to) (at + 1 - v.size) sd.vars sd.lits in
              ap (drop (top - v.calls)) en ∙ noted-top notes (placed (at + 1 - v.size) b (side_of p d.from d.to)) (top - v.calls) top (omega (arith, c, pl, cn)) u.inside
              ∙ ap {B = List ℕ} (λ l. placed (at + 1 - v.size) b (side_of p d.from d.to) ++ l) u.marked
              ∙ sym (marks_append sd.r u.known (at + 1 - v.size) ∙ rw q (ap (λ (l : List ℕ). l ++ marks_of (at + 1) u.known) r_marks))

          pub in_done : Stepped f from read depth (step (rest_of p 0) (length f) (field_at f (from + 3) hi)) (Ok (record { hi = at + 1 - v.size; top = top - v.calls })) f' notes'
          in_done =
              let c = (ms.yes v y).2 in
              let cn = in_count in
              let ft = fit in
              let plc = places g u.term in
              let pl = placed_long (side_of p d.from d.to) b (at + 1 - v.size) in
              let ins = u.inside in
              goes {hi = at + 1 - v.size} {top = top - v.calls} {f' = f'} {calls = notes'} (omega (arith, ft, plc.0, plc.1)) (omega (arith, plc.2))
              (new_long g u.term sd.r _ v.size sd.bytes n_is fit f' ef') (step_is ∙ ap onward (sym is))
              (record {
                front = u.term.a;
                known = sd.r ++ u.known;
                unread = u.unread;
                parts =
                    is ∙ append_assoc u.term.a sd.r u.term.b ∙ ap {B = List Element} (λ l. u.term.a ++ (sd.r ++ l)) u.behind
                    ∙ ap {B = List Element} (λ l. u.term.a ++ l) (sym (append_assoc sd.r u.known u.unread));
                low = sym u.term.from_is;
                up = omega (arith, u.up, size-append sd.r u.known, n_is, ft, plc.0, plc.1);
                opened = rw (en, stack_sets notes (placed (at + 1 - v.size) b (side_of p d.from d.to)) (top - v.calls) depth (omega (arith, c, cn)) (omega (arith, c, pl, cn, ins))) u.opened;
                deep = u.deep;
                marked = marked;
                below = omega (arith, c, cn);
                inside = omega (arith, ap length en, length-sets notes (top - v.calls) (placed (at + 1 - v.size) b (side_of p d.from d.to)), ins);
              })
