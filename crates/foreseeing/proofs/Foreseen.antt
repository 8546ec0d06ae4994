-- Where an e-variable's value can end, and the places passed over because it cannot.
use mathlib.Core.Path.{◌≡◌, refl, sym, ◌∙◌, ap}
use mathlib.Core.Bool.{Bool, true, false}
use mathlib.Core.Option.{Option, some}
use mathlib.Core.List.{List, [], ◌∷◌, ◌++◌, append-nil}
use Prim.Native.Nat.{ℕ, ◌+◌, ◌-◌, ◌≤◌, ◌<◌}
use native.Mathlib.Omega.{arith}
use native.Mathlib.Numerals.{add-one}
use lib.ListN.{length, get_or, drop, length-append, length-drop, get_or-append}
use lib.Seq.{get_or-drop, drop-cons}
use lib.Dec.{T, eqb, leb}
use borrow.Author.Tests.{leb-true, leb-false, eqb-true, eqb-false}
use Rattle.meaning.specs.Elements.{kind, body, elements, join, same, is_symbol, is_variable}
use Rattle.meaning.specs.Matching.{Terms, stop as no-terms, symbol, bracket, s_var, role, Way, Env, bind, keep, first_of, seek}
use Rattle.meaning.proofs.Truth.{never, is_true, is_false, see, is_none, is_some, see_o, same_eq, same_refl}
use Rattle.meaning.proofs.Cutting.{join-cut, body_le, join-append}
use Rattle.meaning.proofs.Searching.{Good, Sure, Each, none_left, one_more, known_each}
use Rattle.kinds.specs.Slots.{slot_of, value_of}
use Rattle.std.specs.Prelude.{slice_get, Some, None, IsSome, MatchOption, unwrap_or}
use Rattle.std.specs.Prelude as P
use Rattle.std.proofs.Common.{Bor}
use Rattle.std.proofs.lemmas.Option.{same_Some, slice_get_within, slice_get-get_or, get_or_from_slice_get}
use Rattle.elements.specs.Reading.{Splits, Proper, more, Balanced, ProperAt, Level, TermEnd, term_at, Characters, no_more, one_more as character-more}
use Rattle.elements.proofs.Places.{symbol_kind, none_left as nothing_left, here, kind_here, cut_here, proper_splits, head, head_symbol, head_open, head_close, split_size}
use Rattle.elements.proofs.Levels.{behind_terms, character_here, characters_level, characters_on}
use Rattle.foreseeing.specs.declared.Ahead.{Ahead}
use Rattle.settling.specs.Values.{env_of, Variable, Table, FreshE, Slotted, of_variable, of_fixed, ItemAt, Meant, itself, valued, Open}
use Rattle.foreseeing.specs.Foresight.{Barred, early, late, other_kind, other_second, other_third, MayEnd, may, may_not, Window, Usable, Sound, Standing, Through, Behind, Run, Skipped, at_once, term_more}
use Rattle.settling.proofs.Slots.{env_settled, bind_yes, bind_no, table_sure}
use Rattle.settling.proofs.Ends.{role_fixed, roles, s_role, t_role, e_role}

-- WHAT BARS A PLACE

pub sound_between : {w : Ahead} {s : List ℕ} {Can : ℕ → Type 0} (from to : ℕ) → Window w from to → from ≤ length s
    → ((i : ℕ) → i ≤ length s → Can i → (from ≤ i) × (i ≤ to)) → Sound w s Can
sound_between {w} {s} {Can} from to k l f = record {
  usable = record { character = λ q. never (cc (k.first, q)); fits = rw k.from l };
  barred = λ i h b c. go i b (f i h c);
}
  where
    go : (i : ℕ) → Barred w s i → (from ≤ i) × (i ≤ to) → ⊥
    go i (early h) (a, b) = never (let z = k.from in omega arith)
    go i (late h) (a, b) = never (let z = k.to in omega arith)
    go i (other_kind h n) (a, b) = never (cc (k.first, h))
    go i (other_second h x n) (a, b) = never (let y : false ≡ true = rw k.first at x in cc)
    go i (other_third h x n) (a, b) = never (let y : false ≡ true = rw k.first at x in cc)

pub sound_more : {w : Ahead} {s : List ℕ} {Can Could : ℕ → Type 0} → Sound w s Can → ((i : ℕ) → Could i → Can i) → Sound w s Could
sound_more k f = record { usable = k.usable; barred = λ i h b c. k.barred i h b (f i c) }

pub third_told : {w : Ahead} {s : List ℕ} {i k : ℕ} → IsSome w.first → w.third ≡ Some k → MayEnd w s i (eqb (get_or s (i + 2) 0) k)
third_told {w} {s} {i} {k} f q =
    elim (see (eqb (get_or s (i + 2) 0) k)) [
      | is_true z ↦ rw z may
      | is_false z ↦ rw z (may_not (other_third q f (eqb-false _ _ z)))
    ]

pub barred_there : {w : Ahead} {s : List ℕ} {i : ℕ} → MayEnd w s i false → Barred w s i
barred_there (may_not b) = b

-- A VALUE THAT COMES NEXT

module _ {value : List ℕ} {last : Bool} {arg : List ℕ} {i : ℕ} (h : i ≤ length arg) (k : Standing value last arg i) where
  standing_byte : (n : ℕ) → n < length value → get_or arg (i + n) 0 ≡ get_or value n 0
  standing_byte n l = sym (get_or-drop i arg n 0) ∙ rw k.front (get_or-append value k.rest 0 n l)

  standing_size : last ≡ true → length arg - i ≡ length value
  standing_size q = sym (length-drop i arg) ∙ rw (k.front, k.ends q, append-nil value)

  standing_here : (n k : ℕ) → slice_get value n ≡ Some k → slice_get arg (i + n) ≡ Some k
  standing_here n x q =
      let l = slice_get_within value n x q in
      let z = simp (length-append, length-drop) at (ap length k.front) in
      slice_get-get_or arg (i + n) 0 (omega arith) ∙ ap Some (standing_byte n l ∙ get_or_from_slice_get value n x 0 q)

  standing_next : (n k : ℕ) → slice_get value n ≡ Some k → get_or arg (i + n) 0 ≡ k
  standing_next n x q = standing_byte n (slice_get_within value n x q) ∙ get_or_from_slice_get value n x 0 q

pub value_last : {w : Ahead} (value : List ℕ) {last : Bool} (arg : List ℕ) (e : ℕ) → e ≡ length arg - length value → last ≡ true → Window w e e → Sound w arg (Standing value last arg)
value_last value arg e z q k = sound_between e e k (omega arith) (λ i h c. let n = standing_size h c q in (omega arith, omega arith))

pub value_begins : (w : Ahead) (value : List ℕ) (last : Bool) (arg : List ℕ) → (w.first ≡ Some 1 → IsSome w.second)
    → w.first ≡ slice_get value 0 → w.second ≡ slice_get value 1 → w.third ≡ slice_get value 2 → w.earliest ≡ 0 → w.latest ≡ length arg → Sound w arg (Standing value last arg)
value_begins w value last arg ch ef es et ee el = record {
  usable = record { character = ch; fits = rw ee (omega arith) };
  barred = λ i h b c. go i h b c;
}
  where
    go : (i : ℕ) → i ≤ length arg → Barred w arg i → Standing value last arg i → ⊥
    go i h (early b) c = never (omega arith)
    go i h (late b) c = never (omega arith)
    go i h (other_kind {k} q n) c = n (let z : i + 0 ≡ i = omega arith in (rw z at (standing_here h c 0 k (sym ef ∙ q))))
    go i h (other_second {k} q x n) c = n (standing_next h c 1 k (sym es ∙ q))
    go i h (other_third {k} q x n) c = n (standing_next h c 2 k (sym et ∙ q))

-- a character has two bytes
pub character_long : (value : List ℕ) → Proper (elements value) → 0 < length value → get_or value 0 0 ≡ 1 → 1 < length value
unfolding body
character_long value p l q = let f : 0 + 1 + body 1 ≤ length value = rw q at (proper_splits (there p)).fits in omega arith
  where
    first : Proper (here value 0 l ∷ elements (drop (0 + 1 + body (get_or value 0 0)) value)) → ProperAt value 0
    first (more w r) = record { e = here value 0 l; es = _; is = cut_here value 0 l; whole = w }

    there : Proper (elements (drop 0 value)) → ProperAt value 0
    there q = first (rw (cut_here value 0 l) at q)

pub character_known : (value : List ℕ) → Proper (elements value) → slice_get value 0 ≡ Some 1 → IsSome (slice_get value 1)
character_known value p q =
    let l = slice_get_within value 0 1 q in
    let e = slice_get-get_or value 1 0 (character_long value p l (get_or_from_slice_get value 0 1 0 q)) in
    rw e refl

-- behind an opening bracket
pub bracket_begins : (w : Ahead) (value arg : List ℕ) → w.first ≡ Some 4 → w.second ≡ slice_get value 0 → w.third ≡ slice_get value 1 → w.earliest ≡ 0 → w.latest ≡ length arg
    → Sound w arg (Standing (4 ∷ value) false arg)
bracket_begins w value arg ef es et ee el = value_begins w (4 ∷ value) false arg (λ q. never (let z = same_Some {A = ℕ} 4 1 (sym ef ∙ q) in omega arith)) ef es et ee el

-- THE ELEMENT THAT COMES NEXT

first_sound : (P : List (List ℕ) → List (List ℕ) → Type 0) (k : List (List ℕ) → Env → Option Env) (p : List ℕ) (env env' : Env) {ws : List Way}
    → Each P ws → first_of k p env ws ≡ some env' → (v : List (List ℕ)) × (r : List (List ℕ)) × P v r × (k r (keep (role p) p v env) ≡ some env')
unfolding first_of
first_sound P k p env env' none_left h = never (cc)
first_sound P k p env env' (one_more {v} {r} g t) h =
    elim (see_o (k r (keep (role p) p v env))) [
      | is_none q ↦ first_sound P k p env env' t (rw (q, first_of) at h)
      | is_some x q ↦ (v, r, g, q ∙ (rw (q, first_of) at h))
    ]

-- where the left side is at its end, so is the argument
nothing_more : (left : List ℕ) (next : ℕ) (r : List (List ℕ)) (env env' : Env) → next ≡ length left → seek (elements (drop next left)) r env ≡ some env' → r ≡ []
unfolding seek
nothing_more left next r env env' q h = go r (rw (nothing_left left next (omega arith)) at h)
  where
    go : (r : List (List ℕ)) → seek [] r env ≡ some env' → r ≡ []
    go [] h = refl
    go (x ∷ xs) h = never (cc)

module _ {left : List ℕ} {j : ℕ} {arg b : List ℕ} {m own : ℕ} {el : List ℕ} {slot : P.Option ℕ} {next : ℕ} (d : Table arg b m) (f : FreshE own m) (x : ItemAt left j el slot next)
    {i : ℕ} {v : List (List ℕ)} (y : Through left j arg b m own i v) where
  abbrev p : List ℕ
  p = 10 ∷ (own - 32) ∷ []

  abbrev env : Env
  env = bind (10 ∷ (own - 32) ∷ []) v (env_of arg b m)

  sure : Sure env
  unfolding Sure role
  sure w u h =
      elim (see (same p w)) [
        | is_true z ↦
            let q : v ≡ u = cc (bind_yes p w v (env_of arg b m) z) in
            rw (← same_eq p w z) (y.n, rw q at y.terms)
        | is_false z ↦ table_sure arg b m d w u (sym (bind_no p w v (env_of arg b m) z) ∙ h)
      ]

  -- what it stands for, and what is left then
  record Opened : Type 0 where
    u : List (List ℕ)
    r : List (List ℕ)
    good : Good env el (elements (drop i arg)) u r
    bytes : drop i arg ≡ join u ++ join r
    ends : next ≡ length left → r ≡ []
    goes : seek (elements (drop next left)) r (keep (role el) el u env) ≡ some y.env

  goes_on : seek (el ∷ elements (drop next left)) (elements (drop i arg)) env ≡ some y.env
  goes_on = sym (ap (λ (l : List (List ℕ)). seek l (elements (drop i arg)) env) x.split.front) ∙ y.found

  opened : Opened
  unfolding seek
  opened =
      let (u, r, g, h) = first_sound _ (seek (elements (drop next left))) el env y.env (known_each env el (elements (drop i arg)) sure) goes_on in
      record {
        u = u;
        r = r;
        good = g;
        bytes = sym (join-cut (drop i arg)) ∙ ap join g.front ∙ join-append u r;
        ends = λ q. nothing_more left next r _ _ q h;
        goes = h;
      }

  stands_so : {value : List ℕ} {last : Bool} → (last ≡ true → next ≡ length left) → join opened.u ≡ value → Standing value last arg i
  unfolding join
  stands_so q e = record { rest = join opened.r; front = rw e at opened.bytes; ends = λ h. ap join (opened.ends (q h)) }

  pub meant_stands : {last : Bool} {value : List ℕ} → (last ≡ true → next ≡ length left) → Meant el slot arg b m value → Standing value last arg i
  unfolding join
  meant_stands {last} {value} q (itself h w) = go (rw h at x.slotted)
    where
      go : Slotted el None → Standing value last arg i
      go (of_fixed n) = stands_so q (ap join (rw (role_fixed el n) at opened.good.stands) ∙ append-nil el ∙ sym w)
  meant_stands {last} {value} q (valued {s} h w o) = go (rw h at x.slotted)
    where
      other : (k n : ℕ) → Variable k n → el ≡ k ∷ n ∷ [] → s ≡ slot_of k n → same p el ≡ false
      other k n w' e z =
          elim (see (same p el)) [
            | is_false o ↦ o
            | is_true o ↦
                let a : 10 ≡ k = ap kind (same_eq p el o ∙ e) in
                let c : own - 32 ≡ n = cc (same_eq p el o, e) in
                let l = f.low in
                let is : s ≡ own = omega arith in
                never (let o : true ≡ false = sym (rw is at w) ∙ f.free in cc)
          ]

      go : Slotted el (Some s) → Standing value last arg i
      go (of_variable {k} {n} w' e z) =
          let apart : same p el ≡ false = other k n w' e z in
          let y : env el ≡ some (elements (value_of arg b (slot_of k n))) = bind_no p el v (env_of arg b m) apart ∙ rw e (env_settled arg b m w' (rw z at w)) in
          stands_so q (ap join (opened.good.agrees _ y) ∙ join-cut _ ∙ rw (← z) (sym o))

  -- the same value again: as many bytes
  pub own_size : {at : ℕ} → Splits arg at v i → next ≡ length left → slot ≡ Some own → length arg - i ≡ i - at
  unfolding join
  own_size {at} p' q h = go (rw h at x.slotted)
    where
      go : Slotted el (Some own) → length arg - i ≡ i - at
      go (of_variable {k} {n} w' e z) =
          let a = f.low in let o = w'.high in let c = w'.small in let l = w'.low in
          let ek : k ≡ 10 = omega arith in
          let en : n ≡ own - 32 = omega arith in
          let s : env el ≡ some v = bind_yes p el v (env_of arg b m) (rw (e, ek, en) (same_refl p)) in
          let u = opened.good.agrees _ s in
          sym (length-drop i arg) ∙ rw (opened.bytes, opened.ends q, u, append-nil) (split_size p')

  -- a symbol
  pub symbol_size : {c s : ℕ} → Balanced c (elements (drop i arg)) → next ≡ length left → slot ≡ Some s → s < 16 → length arg - i ≤ 5
  unfolding join
  symbol_size {s = t} a q g h = go (rw g at x.slotted)
    where
      few : (s : List ℕ) × T (is_symbol s) × (opened.u ≡ s ∷ []) → length arg - i ≤ 5
      few (s, t, u) =
          let ys : elements (drop i arg) ≡ s ∷ [] = opened.good.front ∙ rw (u, opened.ends q) in
          let size : length arg - i ≡ length s = sym (length-drop i arg) ∙ rw (opened.bytes, opened.ends q, u, append-nil, append-nil) in
          elim (head (rw ys at a)) [
            | head_symbol t' l' b' ↦ omega (arith, body_le (kind s))
            | head_open o b' ↦ rw (size, o) (omega arith)
            | head_close c o b' ↦ rw (size, o) (omega arith)
          ]

      go : Slotted el (Some t) → length arg - i ≤ 5
      go (of_variable {k} {n} v e z) =
          elim (roles v) [
            | t_role o g ↦ never (omega arith)
            | e_role o g ↦ never (omega arith)
            | s_role o g ↦ (let ro : role el ≡ s_var = ap role e ∙ g in few (rw ro at opened.good.stands))
          ]

  -- an opening bracket
  pub opens_there : el ≡ 4 ∷ [] → i ≤ length arg → Behind left next arg b m i
  unfolding keep body
  opens_there e l =
      let pl = role_fixed el (rw e (unfold is_variable in refl)) in
      let o = opened in
      let u : o.u ≡ (4 ∷ []) ∷ [] = (rw pl at o.good.stands) ∙ rw e in
      let ys : elements (drop i arg) ≡ (4 ∷ []) ∷ o.r = o.good.front ∙ rw u in
      let h : i < length arg = inside ys in
      let k : here arg i h ≡ 4 ∷ [] = cc (cut_here arg i h, ys) in
      let four : get_or arg i 0 ≡ 4 = sym (kind_here arg i h) ∙ ap kind k in
      let z : i + 1 + body (get_or arg i 0) ≡ i + 1 = rw four (omega arith) in
      let r : o.r ≡ elements (drop (i + 1) arg) = cc (rw z at (cut_here arg i h), ys) in
      record {
        own = own;
        fresh = f;
        v = v;
        opens = drop-cons arg i 0 h ∙ rw (four, ← add-one i);
        through = record { n = y.n; terms = y.terms; env = y.env; found = rw (pl, r) at o.goes };
      }
    where
      inside : {zs : List (List ℕ)} → elements (drop i arg) ≡ (4 ∷ []) ∷ zs → i < length arg
      inside q =
          elim (see (leb (length arg) i)) [
            | is_true z ↦ never (cc (nothing_left arg i (leb-true _ _ z)))
            | is_false z ↦ leb-false _ _ z
          ]

pub not_last : {A : Type 0} → false ≡ true → A
not_last h = never (cc)

-- a value behind it
pub behind-stands : {left : List ℕ} {j : ℕ} {arg b : List ℕ} {m i : ℕ} {value : List ℕ} (y : Behind left j arg b m i) → Standing value false arg (i + 1) → Standing (4 ∷ value) false arg i
behind-stands y k = record { rest = k.rest; front = y.opens ∙ ap {B = List ℕ} (λ (l : List ℕ). 4 ∷ l) k.front; ends = not_last }

-- or anything
pub behind_any : {left : List ℕ} {j : ℕ} {arg b : List ℕ} {m i : ℕ} {value : List ℕ} → Behind left j arg b m i → value ≡ [] → Standing (4 ∷ value) false arg i
behind_any {arg = arg} {i = i} y q = record { rest = drop (i + 1) arg; front = y.opens ∙ rw q; ends = not_last }

-- a value that is meant there, or none that is known
pub meant_behind : {left : List ℕ} {j : ℕ} {el : List ℕ} {slot : P.Option ℕ} {next : ℕ} (arg b : List ℕ) (m i : ℕ) (r : P.Option (Bor (List ℕ))) (d v : Bor (List ℕ))
    → Table arg b m → ItemAt left j el slot next → v ≡ unwrap_or r d → d.now ≡ [] → MatchOption r (Open slot m) (λ u. Meant el slot arg b m u.now)
    → Behind left j arg b m i → Standing (4 ∷ v.now) false arg i
meant_behind arg b m i None d v t x e z h y = behind_any y (rw e z)
meant_behind arg b m i (Some u) d v t x e z h y = behind-stands y (rw e (meant_stands t y.fresh x y.through not_last h))

-- PASSED OVER

pub skipped_level : {w : Ahead} {s : List ℕ} {at i : ℕ} → Level s at → Skipped w s at i → Level s i
skipped_level l at_once = l
skipped_level l (term_more k b (term_at t q)) =
    let h = skipped_level l k in
    record { depth = h.depth; fits = q.fits; balanced = behind_terms t (rw q.front at h.balanced) }

-- characters besides
pub over_characters : {w : Ahead} {s : List ℕ} {at i stop to t : ℕ} → Usable w s → ((k : ℕ) → w.first ≡ Some 1 → w.second ≡ Some k → stop ≡ k) → Run w s i to → Level s i
    → Skipped w s at i → Characters s stop to i t → Skipped w s at t
over_characters u e r l k no_more = k
over_characters {w} {s} {i = i} {stop} {to} u e r l k (character-more {i = n} c h is other) =
    let (t, q) = character_here s n (let z = r.fits in omega arith) (characters_level l r.fits c) is in
    term_more (over_characters u e r l k c) bars (term_at (symbol t no-terms) q)
  where
    known : (x : P.Option ℕ) → w.second ≡ x → w.first ≡ Some 1 → IsSome x → Barred w s n
    known None q f h = never (cc)
    known (Some y) q f h = other_second q (rw f refl) (λ z. other (z ∙ sym (e y f q)))

    by_first : (x : P.Option ℕ) → w.first ≡ x → Barred w s n
    by_first None q = r.barred n (characters_on c) (omega arith) q
    by_first (Some y) q =
        elim (see (eqb y 1)) [
          | is_true z ↦ (let f : w.first ≡ Some 1 = q ∙ ap Some (eqb-true _ _ z) in known w.second refl f (u.character f))
          | is_false z ↦ other_kind q (λ g. eqb-false _ _ z (sym (get_or_from_slice_get s n y 0 g) ∙ is))
        ]

    bars : Barred w s n
    bars = by_first w.first refl

long : (e : List ℕ) (es : List (List ℕ)) → 1 ≤ kind e → 0 < length (join (e ∷ es))
unfolding join
long [] es h = never (omega arith)
long (k ∷ bs) es h = omega arith

some_bytes : {v : List (List ℕ)} → Terms 1 v → 0 < length (join v)
unfolding join
some_bytes (symbol {e} {es} h r) = long e es (symbol_kind e h).0
some_bytes (bracket r r' e) = omega arith

-- a term moves on
pub term_less : {arg : List ℕ} {end next : ℕ} → TermEnd arg end (Some next) → (end < next) × (next ≤ length arg)
term_less (term_at {v} t q) = (omega (arith, split_size q, some_bytes t, q.on), q.fits)
