-- Matching goes on: one element of the left side after the other, one length of an e-variable after the other.
use mathlib.Core.Path.{◌≡◌, refl, sym, ◌∙◌, ap}
use mathlib.Core.Bool.{Bool, true, false}
use mathlib.Core.Option.{none, some}
use mathlib.Core.List.{List, [], ◌∷◌, ◌++◌, append_assoc}
use Prim.Native.Nat.{ℕ, suc, ◌-◌, ◌≤◌, ◌<◌}
use native.Mathlib.Omega.{arith}
use lib.ListN.{length, take, drop}
use lib.Dec.{eqb}
use borrow.Author.Tests.{eq-eqb, ne_eqb}
use Rattle.meaning.specs.Elements.{kind, body, elements}
use Rattle.meaning.specs.Goodness.{span}
use Rattle.meaning.specs.Matching.{Terms, stop, symbol, bracket, Role, s_var, t_var, e_var, plain, role, Stands, Way, way, fronts, fresh, known, Env, bind, keep, first_of, seek}
use Rattle.meaning.proofs.Truth.{never}
use Rattle.meaning.proofs.Searching.{Good, known_each, Each, one_more}
use Rattle.meaning.proofs.Trying.{first_none, first_one}
use Rattle.kinds.specs.Slots.{slot_of, within, joined, value_of}
use Rattle.std.specs.Prelude.{Some, None}
use Rattle.std.specs.Prelude as P
use Rattle.elements.specs.Reading.{Splits, Proper, none, more, Balanced, symbols, opening, closing}
use Rattle.elements.proofs.Places.{symbol_kind, none_left as nothing_left, ends_here, head, head_symbol, head_open, head_close}
use Rattle.elements.proofs.Levels.{behind_terms}
use Rattle.settling.specs.Values.{env_of, Variable, LeftSide, LeftAt, Table, Ready, Kept, FreshE, Slotted, of_variable, of_fixed, ItemAt, Single, Ways, one_way, no_ways, OnlyEnd, noting, Settled, as_before, noted}
use Rattle.matching.specs.Binding.{Outcome, lost, won}
use Rattle.settling.proofs.Slots.{slot_small, env_open, env_settled, bind_again, bind-noted, table_noted, table_sure, noting-kept, kept_self, kept_more, within_more}
use Rattle.settling.proofs.Sides.{bare, symbol_whole, part-elements, l_head, h_symbol, h_open, h_close, h_variable}
use Rattle.settling.proofs.Next.{low_fixed}
use Rattle.settling.proofs.Ends.{role_fixed, s_role, t_role, e_role, roles}

-- RUNS OF TERMS IN A BALANCED ARGUMENT

pub terms_proper : {n : ℕ} {v : List (List ℕ)} → Terms n v → {d : ℕ} (es : List (List ℕ)) → Balanced d (v ++ es) → Proper v
terms_proper stop es b = none
terms_proper (symbol {e} t r) es (symbols t' l b) = more (symbol_whole e t l) (terms_proper r es b)
terms_proper (symbol t r) es (opening b) = never (let w = symbol_kind _ t in omega arith)
terms_proper (symbol t r) es (closing b) = never (let w = symbol_kind _ t in omega arith)
terms_proper (bracket r q e) es (symbols t l b) = never (let w = symbol_kind _ t in omega arith)
terms_proper (bracket {xs} {es = ys} r q e) es (opening b) =
    let c = rw (e, append_assoc) at b in
    rw e (more (bare 4 (unfold span in refl) (unfold body in refl)) (proper_append (terms_proper r ((5 ∷ []) ∷ (ys ++ es)) c) (after (λ g. terms_proper q es g) (behind_terms r c))))
  where
    proper_append : {us ws : List (List ℕ)} → Proper us → Proper ws → Proper (us ++ ws)
    proper_append none p = p
    proper_append (more w t) p = more w (proper_append t p)

    after : {d : ℕ} → (Balanced d (ys ++ es) → Proper ys) → Balanced (suc d) ((5 ∷ []) ∷ (ys ++ es)) → Proper ((5 ∷ []) ∷ ys)
    after f (closing g) = more (bare 5 (unfold span in refl) (unfold body in refl)) (f g)
    after f (symbols t l g) = never (let w = symbol_kind _ t in omega arith)

pub no_plain : {k n : ℕ} → Variable k n → role (k ∷ n ∷ []) ≡ plain → ⊥
no_plain v q = elim (roles v) [ s_role e f ↦ never (cc) | t_role e f ↦ never (cc) | e_role e f ↦ never (cc) ]

-- keeping what a variable stands for is binding it
pub keep-bind : {k n : ℕ} → Variable k n → (v : List (List ℕ)) (env : Env) → keep (role (k ∷ n ∷ [])) (k ∷ n ∷ []) v env ≡ bind (k ∷ n ∷ []) v env
unfolding keep
keep-bind w v env = elim (roles w) [ s_role e f ↦ rw f | t_role e f ↦ rw f | e_role e f ↦ rw f ]

-- what a variable stands for is a run of terms
stands_terms : (t : Role) (p : List ℕ) (v : List (List ℕ)) → (t ≡ plain → ⊥) → Stands t p v → (n : ℕ) × Terms n v
stands_terms s_var p v h (e, t, q) = (1, rw q (symbol t stop))
stands_terms t_var p v h s = (1, s)
stands_terms e_var p v h s = s
stands_terms plain p v h s = absurd (h refl)

-- THE LOOP OVER A LEFT SIDE

-- from i and at with the table b₀ and the settled slots m₀ the search has come to `here` and `place`
pub record Going (left : List ℕ) (i : ℕ) (arg : List ℕ) (at : ℕ) (b₀ : List ℕ) (m₀ here place : ℕ) (b : List ℕ) (m : ℕ) : Type 0 where
  pub on : i ≤ here
  pub ready : Ready left here arg place b m
  pub same : seek (elements (drop i left)) (elements (drop at arg)) (env_of arg b₀ m₀) ≡ seek (elements (drop here left)) (elements (drop place arg)) (env_of arg b m)
  pub kept : Kept m₀ b₀ b
  pub more : (v : ℕ) → v < 48 → within m₀ v ≡ true → within m v ≡ true

pub going_start : {left : List ℕ} {i : ℕ} {arg : List ℕ} {at : ℕ} {b : List ℕ} {m : ℕ} → Ready left i arg at b m → Going left i arg at b m i at b m
going_start {b = b} {m} r = record { on = omega arith; ready = r; same = refl; kept = kept_self m b; more = λ v l w. w }

module _ {left : List ℕ} {i : ℕ} {arg : List ℕ} {at : ℕ} {b₀ : List ℕ} {m₀ here place : ℕ} {b : List ℕ} {m : ℕ} (g : Going left i arg at b₀ m₀ here place b m) where
  -- the search ends where it has come to
  pub going_lost : {b' : List ℕ} → seek (elements (drop here left)) (elements (drop place arg)) (env_of arg b m) ≡ none → Kept m b b'
      → Outcome arg b₀ m₀ b' (seek (elements (drop i left)) (elements (drop at arg)) (env_of arg b₀ m₀)) false
  going_lost q k = lost (g.same ∙ q) (kept_more g.more g.kept k)

  pub going_ends : {b' : List ℕ} {r : Bool} → Outcome arg b m b' (seek (elements (drop here left)) (elements (drop place arg)) (env_of arg b m)) r
      → Outcome arg b₀ m₀ b' (seek (elements (drop i left)) (elements (drop at arg)) (env_of arg b₀ m₀)) r
  going_ends (lost q k) = going_lost q k
  going_ends (won m' q t) = won m' (g.same ∙ q) t

  -- nothing is left of the left side
  pub going_over : length left ≤ here → Outcome arg b₀ m₀ b (seek (elements (drop i left)) (elements (drop at arg)) (env_of arg b₀ m₀)) (eqb place (length arg))
  unfolding seek
  going_over h = go (elements (drop place arg)) refl
    where
      start : (zs : List (List ℕ)) → elements (drop place arg) ≡ zs → seek (elements (drop i left)) (elements (drop at arg)) (env_of arg b₀ m₀) ≡ seek [] zs (env_of arg b m)
      start zs q = g.same ∙ rw (nothing_left left here h, q)

      go : (zs : List (List ℕ)) → elements (drop place arg) ≡ zs → Outcome arg b₀ m₀ b (seek (elements (drop i left)) (elements (drop at arg)) (env_of arg b₀ m₀)) (eqb place (length arg))
      go [] q =
          let l = g.ready.arg_fits in
          let e : place ≡ length arg = omega (arith, ends_here arg place q) in
          rw (eq-eqb place (length arg) e) (won m (start [] q) g.ready.table)
      go (z ∷ zs) q =
          let n : place ≡ length arg → ⊥ = λ e. never (cc (nothing_left arg place (omega arith))) in
          rw (ne_eqb place (length arg) n) (lost (start (z ∷ zs) q) g.kept)

  pub going_left : here < length left → LeftAt left here
  going_left h = record { depth = g.ready.depth; inside = h; left_side = g.ready.left_side }

  -- the next element of the left side
  module _ {el : List ℕ} {slot : P.Option ℕ} {next : ℕ} (x : ItemAt left here el slot next) where
    side : LeftSide g.ready.depth (el ∷ elements (drop next left))
    side = rw x.split.front at g.ready.left_side

    pub single_here : ((s : ℕ) → slot ≡ Some s → FreshE s m → ⊥) → Single el slot arg place b m
    single_here f = record {
      placed = record { depth = g.ready.depth; rest = _; left_side = side; slotted = x.slotted };
      level = record { depth = g.ready.depth; fits = g.ready.arg_fits; balanced = g.ready.argument };
      table = g.ready.table;
      only = f;
    }

    -- an e-variable without a value: its lengths are tried
    module _ {s : ℕ} (is : slot ≡ Some s) (f : FreshE s m) where
      record Fresh : Type 0 where
        n : ℕ
        v : Variable 10 n
        is_e : el ≡ 10 ∷ n ∷ []
        at_slot : s ≡ slot_of 10 n
        rest : LeftSide g.ready.depth (elements (drop next left))

      fresh_e : Fresh
      fresh_e = go (rw is at x.slotted)
        where
          past : {k n : ℕ} → Variable k n → el ≡ k ∷ n ∷ [] → LeftSide g.ready.depth (elements (drop next left))
          past {k} {n} v q =
              elim (l_head side) [
                | h_symbol t l s ↦ never (let w = symbol_kind _ t in let a = v.low in let e : kind el ≡ k = ap kind q in omega arith)
                | h_open p s ↦ never (let a = v.low in let e : k ≡ 4 = sym (ap kind q) ∙ ap kind p in omega arith)
                | h_close d p s ↦ never (let a = v.low in let e : k ≡ 5 = sym (ap kind q) ∙ ap kind p in omega arith)
                | h_variable w p s ↦ s
              ]

          go : Slotted el (Some s) → Fresh
          go (of_variable {k} {n} v q z) =
              let a = f.low in let c = v.small in let o = v.high in
              let e : k ≡ 10 = omega arith in
              record { n = n; v = rw e at v; is_e = rw e at q; at_slot = rw e at z; rest = past v q }

      pub fresh_ready : Ready left next arg place b m
      fresh_ready = record {
        depth = g.ready.depth;
        left_fits = x.split.fits;
        arg_fits = g.ready.arg_fits;
        left_side = fresh_e.rest;
        argument = g.ready.argument;
        table = g.ready.table;
      }

      pub fresh-seek : seek (elements (drop here left)) (elements (drop place arg)) (env_of arg b m)
          ≡ first_of (seek (elements (drop next left))) (10 ∷ (s - 32) ∷ []) (env_of arg b m) (fronts (elements (drop place arg)) 0)
      unfolding seek known fresh role
      fresh-seek =
          let z = fresh_e in
          let n : s - 32 ≡ z.n = omega (arith, z.at_slot) in
          rw (x.split.front, z.is_e, n, env_open arg b m z.v (rw z.at_slot at f.free))

    -- any other element has one way, or none
    module _ (o : Ways (known (env_of arg b m el) el (elements (drop place arg))) arg place None) where
      pub going_stuck : seek (elements (drop here left)) (elements (drop place arg)) (env_of arg b m) ≡ none
      unfolding seek
      going_stuck = rw x.split.front (stuck o)
        where
          stuck : {ws : List Way} → Ways ws arg place None → first_of (seek (elements (drop next left))) el (env_of arg b m) ws ≡ none
          stuck (no_ways q) = rw q (first_none (seek (elements (drop next left))) el (env_of arg b m))

-- one element further
module _ {left : List ℕ} {i : ℕ} {arg : List ℕ} {at : ℕ} {b₀ : List ℕ} {m₀ here place : ℕ} {b : List ℕ} {m : ℕ} (g : Going left i arg at b₀ m₀ here place b m)
    {el : List ℕ} {slot : P.Option ℕ} {next : ℕ} (x : ItemAt left here el slot next) where
  after : List (List ℕ)
  after = elements (drop next left)

  -- the way of an element: what it stands for, and where it ends
  record Taken (end : ℕ) : Type 0 where
    v : List (List ℕ)
    good : Good (env_of arg b m) el (elements (drop place arg)) v (elements (drop end arg))
    split : Splits arg place v end
    seeks : seek (elements (drop here left)) (elements (drop place arg)) (env_of arg b m) ≡ seek after (elements (drop end arg)) (keep (role el) el v (env_of arg b m))

  taken : {end : ℕ} → Ways (known (env_of arg b m el) el (elements (drop place arg))) arg place (Some end) → Taken end
  unfolding seek after
  taken {end} (one_way {v} q p) = record {
    v = v;
    good = first (rw q at (known_each (env_of arg b m) el (elements (drop place arg)) (table_sure arg b m g.ready.table)));
    split = p;
    seeks = rw (x.split.front, q) (first_one (seek (elements (drop next left))) el (env_of arg b m) v (elements (drop end arg)));
  }
    where
      first : {P : List (List ℕ) → List (List ℕ) → Type 0} {u w : List (List ℕ)} → Each P (way u w ∷ []) → P u w
      first (one_more h t) = h

  -- the brackets go the same way on both sides
  record Levelled (end : ℕ) : Type 0 where
    depth : ℕ
    left_side : LeftSide depth after
    argument : Balanced depth (elements (drop end arg))

  levelled : {end : ℕ} → Taken end → Levelled end
  unfolding after
  levelled {end} t =
      let s = rw x.split.front at g.ready.left_side in
      let a = g.ready.argument in
      elim (l_head s) [
        | h_symbol h l s' ↦
            let w = symbol_kind _ h in
            let q : t.v ≡ el ∷ [] = rw (role_fixed el (low_fixed el (omega arith))) at t.good.stands in
            elim (head (rw (t.good.front, q) at a)) [
              | head_symbol h' l' b' ↦ record { depth = g.ready.depth; left_side = s'; argument = b' }
              | head_open e b' ↦ never (let z : kind el ≡ 4 = ap kind e in omega arith)
              | head_close d e b' ↦ never (let z : kind el ≡ 5 = ap kind e in omega arith)
            ]
        | h_open e s' ↦
            let k : kind el ≡ 4 = ap kind e in
            let q : t.v ≡ el ∷ [] = rw (role_fixed el (low_fixed el (omega arith))) at t.good.stands in
            elim (head (rw (t.good.front, q) at a)) [
              | head_symbol h' l' b' ↦ never (let w = symbol_kind _ h' in omega arith)
              | head_open e' b' ↦ record { depth = suc g.ready.depth; left_side = s'; argument = b' }
              | head_close d e' b' ↦ never (let z : kind el ≡ 5 = ap kind e' in omega arith)
            ]
        | h_close {c = d₁} d e s' ↦
            let k : kind el ≡ 5 = ap kind e in
            let q : t.v ≡ el ∷ [] = rw (role_fixed el (low_fixed el (omega arith))) at t.good.stands in
            elim (head (rw (t.good.front, q) at a)) [
              | head_symbol h' l' b' ↦ never (let w = symbol_kind _ h' in omega arith)
              | head_open e' b' ↦ never (let z : kind el ≡ 4 = ap kind e' in omega arith)
              | head_close {c = d₂} d' e' b' ↦ (let z : d₂ ≡ d₁ = omega arith in record { depth = d₁; left_side = s'; argument = rw z at b' })
            ]
        | h_variable {k} {n} w e s' ↦
            let (n', ts) = stands_terms (role el) el t.v (rw e (no_plain w)) t.good.stands in
            record { depth = g.ready.depth; left_side = s'; argument = behind_terms ts (rw t.good.front at a) }
      ]

  -- the table and the settled slots after the value is noted
  record Noted (end : ℕ) (v : List (List ℕ)) (b' : List ℕ) (m' : ℕ) : Type 0 where
    table : Table arg b' m'
    env : env_of arg b' m' ≡ keep (role el) el v (env_of arg b m)
    kept : Kept m b b'
    more : (s : ℕ) → s < 48 → within m s ≡ true → within m' s ≡ true

  unchanged : {end : ℕ} (t : Taken end) → ((s : ℕ) → slot ≡ Some s → within m s ≡ true) → env_of arg b m ≡ keep (role el) el t.v (env_of arg b m)
  unfolding keep
  unchanged t f = go slot refl x.slotted
    where
      go : (o : P.Option ℕ) → slot ≡ o → Slotted el o → env_of arg b m ≡ keep (role el) el t.v (env_of arg b m)
      go None h (of_fixed i) = rw (role_fixed el i)
      go (Some s) h (of_variable {k} {n} w e z) =
          let y = env_settled arg b m w (rw z at (f s h)) in
          let q : t.v ≡ elements (value_of arg b (slot_of k n)) = t.good.agrees _ (rw e y) in
          let u : keep (role el) el t.v (env_of arg b m) ≡ bind el t.v (env_of arg b m) = rw e (keep-bind w _ _) in
          sym (u ∙ bind_again el t.v (env_of arg b m) (rw e (y ∙ ap some (sym q))))

  noted_on : {end : ℕ} (t : Taken end) {b' : List ℕ} {m' : ℕ} → Settled b m slot place end b' m' → Noted end t.v b' m'
  noted_on t (as_before f eb em) = record {
    table = rw (eb, em) g.ready.table;
    env = rw (eb, em) (unchanged t f);
    kept = rw eb (kept_self m b);
    more = λ s l w. rw em w;
  }
  noted_on {end} t {b'} {m'} (noted {s} is l f eb em) = go (rw is at x.slotted)
    where
      go : Slotted el (Some s) → Noted end t.v b' m'
      go (of_variable {k} {n} w e z) =
          let (n', ts) = stands_terms (role el) el t.v (rw e (no_plain w)) t.good.stands in
          let p : Proper t.v = terms_proper ts (elements (drop end arg)) (rw t.good.front at g.ready.argument) in
          let y : elements (take (end - place) (drop place arg)) ≡ t.v = part-elements t.split p in
          let long = g.ready.table.long in
          let ez : b' ≡ noting b (slot_of k n) place end = eb ∙ rw z in
          let mz : m' ≡ joined m (slot_of k n) = em ∙ rw z in
          record {
            table = rw (ez, mz) (table_noted arg b m k n place end w long g.ready.table t.split.on t.split.fits (rw (y, ← e) t.good.stands) (rw y p));
            env = rw (ez, mz) (bind-noted arg b m k n place end w long ∙ rw (y, e) (sym (keep-bind w t.v (env_of arg b m))));
            kept = rw ez (noting-kept b (slot_of k n) place end long (slot_small w) m (rw z at f));
            more = λ s h i. rw mz (within_more m (slot_of k n) s i);
          }

  pub going_on : (end : ℕ) {b' : List ℕ} {m' : ℕ} → OnlyEnd el arg place b m (Some end) → Settled b m slot place end b' m'
      → Going left i arg at b₀ m₀ next end b' m'
  unfolding after
  going_on end o s =
      let t = taken o.ways in
      let l = levelled t in
      let n = noted_on t s in
      record {
        on = omega (arith, g.on, x.on);
        ready = record { depth = l.depth; left_fits = x.split.fits; arg_fits = t.split.fits; left_side = l.left_side; argument = l.argument; table = n.table };
        same = g.same ∙ t.seeks ∙ rw n.env;
        kept = kept_more g.more g.kept n.kept;
        more = λ v h w. n.more v h (g.more v h w);
      }
