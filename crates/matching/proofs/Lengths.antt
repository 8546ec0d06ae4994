-- An e-variable's lengths, the shortest first.
use mathlib.Core.Path.{◌≡◌, refl, sym, ◌∙◌, ap}
use mathlib.Core.Bool.{true, false}
use mathlib.Core.Option.{none, some}
use mathlib.Core.List.{List, [], ◌∷◌, ◌++◌, append-nil, append_assoc}
use Prim.Native.Nat.{ℕ, ◌+◌, ◌-◌, ◌≤◌, ◌<◌}
use native.Mathlib.Omega.{arith}
use native.Mathlib.Nat.{zero-add, suc-add}
use lib.ListN.{length, drop}
use Rattle.meaning.specs.Elements.{elements}
use Rattle.meaning.specs.Matching.{Terms, stop, symbol, bracket, Stands, role, keep, first_of, fronts, seek}
use Rattle.meaning.proofs.Truth.{never, is_none, is_some, see_o}
use Rattle.meaning.proofs.Trying.{tries, tries_start, tries_first, tries_term, tries_next, tries_stop, last_takes_all}
use Rattle.kinds.specs.Slots.{slot_of, within, joined}
use Rattle.std.specs.Prelude.{Some, None}
use Rattle.elements.specs.Reading.{Splits, Balanced, Level, TermEnd, term_at, no_term}
use Rattle.elements.proofs.Places.{none_left, split_join, split_nothing}
use Rattle.elements.proofs.Levels.{level_terms, behind_terms}
use Rattle.settling.specs.Values.{env_of, Variable, LeftSide, l_end, Table, Ready, Kept, FreshE, noting, Settled, as_before, noted}
use Rattle.matching.specs.Binding.{Outcome, lost, won}
use Rattle.foreseeing.specs.declared.Ahead.{Ahead}
use Rattle.foreseeing.specs.Foresight.{Barred, Sound, Ending, Skipped, at_once, term_more, NextEnd, ends_at, never_ends}
use Rattle.settling.proofs.Slots.{slot_small, env_same, bind-noted, table_noted, table_kept, noting-kept, kept_self, kept_more, within_more}
use Rattle.foreseeing.proofs.Foreseen.{term_less}
use Rattle.matching.proofs.Going.{terms_proper, keep-bind}
use Rattle.settling.proofs.Sides.{part-elements}

-- terms after terms
terms_more : {m n : ℕ} {v u : List (List ℕ)} → Terms m v → Terms n u → Terms (m + n) (v ++ u)
terms_more {n = n} stop t = rw (zero-add n) t
terms_more {n = n} (symbol {n = k} h r) t = rw (suc-add k n) (symbol h (terms_more r t))
terms_more {n = n} {u = u} (bracket {n = k} {xs} {es} {zs} q r e) t = rw (suc-add k n) (bracket {zs = zs ++ u} q (terms_more r t) (rw e (append_assoc xs ((5 ∷ []) ∷ es) u)))

-- the e-variable of a slot
pub e_variable : {slot m : ℕ} → FreshE slot m → Variable 10 (slot - 32)
e_variable f = let a = f.low in let b = f.high in record { low = omega arith; high = omega arith; small = omega arith }

e_slot : {slot m : ℕ} → FreshE slot m → slot ≡ slot_of 10 (slot - 32)
e_slot f = let a = f.low in omega arith

e_stands : (n : ℕ) {v : List (List ℕ)} (t : ℕ) → Terms t v → Variable 10 n → Stands (role (10 ∷ n ∷ [])) (10 ∷ n ∷ []) v
unfolding role
e_stands n t h w = (t, h)

-- what stands from `at` to `end` is tried, the table and the settled slots having been b₀ and m
pub record Trying (left : List ℕ) (j : ℕ) (arg : List ℕ) (at : ℕ) (b₀ : List ℕ) (m slot end : ℕ) (b : List ℕ) : Type 0 where
  pub ready : Ready left j arg at b₀ m
  pub fresh : FreshE slot m
  pub n : ℕ
  pub v : List (List ℕ)
  pub terms : Terms n v
  pub split : Splits arg at v end
  pub balanced : Balanced ready.depth (elements (drop end arg))
  pub kept : Kept m b₀ b
  pub same : first_of (seek (elements (drop j left))) (10 ∷ (slot - 32) ∷ []) (env_of arg b₀ m) (fronts (elements (drop at arg)) 0)
      ≡ tries (seek (elements (drop j left))) (10 ∷ (slot - 32) ∷ []) (env_of arg b₀ m) v (elements (drop end arg))

pub trying_start : {left : List ℕ} {j : ℕ} {arg : List ℕ} {at : ℕ} {b₀ : List ℕ} {m slot : ℕ} → Ready left j arg at b₀ m → FreshE slot m → Trying left j arg at b₀ m slot at b₀
trying_start {left} {j} {arg} {at} {b₀} {m} {slot} r f = record {
  ready = r;
  fresh = f;
  n = 0;
  v = [];
  terms = stop;
  split = split_nothing arg at r.arg_fits;
  balanced = r.argument;
  kept = kept_self m b₀;
  same = tries_start (seek (elements (drop j left))) (10 ∷ (slot - 32) ∷ []) (env_of arg b₀ m) (elements (drop at arg));
}

module _ {left : List ℕ} {j : ℕ} {arg : List ℕ} {at : ℕ} {b₀ : List ℕ} {m slot : ℕ} (r : Ready left j arg at b₀ m) (f : FreshE slot m) where
  abbrev p : List ℕ
  p = 10 ∷ (slot - 32) ∷ []

  -- the value noted
  record Noted (end : ℕ) (v : List (List ℕ)) (b₁ : List ℕ) (m₁ : ℕ) : Type 0 where
    table : Table arg b₁ m₁
    env : env_of arg b₁ m₁ ≡ keep (role p) p v (env_of arg b₀ m)
    kept : Kept m b₀ b₁
    more : (s : ℕ) → s < 48 → within m s ≡ true → within m₁ s ≡ true

  noted_end : {end n : ℕ} {v : List (List ℕ)} {b b₁ : List ℕ} {m₁ : ℕ} → Terms n v → Splits arg at v end → Kept m b₀ b → Settled b m (Some slot) at end b₁ m₁ → Noted end v b₁ m₁
  noted_end t s k (as_before g eb em) = never (let z : true ≡ false = sym (g slot refl) ∙ f.free in cc)
  noted_end {end} {n} {v} {b} {b₁} {m₁} t s k (noted {s = o} is l g eb em) =
      let w = e_variable f in
      let i : o ≡ slot = cc is in
      let z = e_slot f in
      let pr = terms_proper t (elements (drop end arg)) (rw s.front at r.argument) in
      let y = part-elements s pr in
      let tb = table_kept arg b₀ b m k r.table in
      let ez : b₁ ≡ noting b (slot_of 10 (slot - 32)) at end = eb ∙ rw (i, ← z) in
      let mz : m₁ ≡ joined m (slot_of 10 (slot - 32)) = em ∙ rw (i, ← z) in
      record {
        table = rw (ez, mz) (table_noted arg b m 10 (slot - 32) at end w tb.long tb s.on s.fits (rw y (e_stands (slot - 32) n t w)) (rw y pr));
        env = rw (ez, mz) (bind-noted arg b m 10 (slot - 32) at end w tb.long ∙ rw (y, env_same arg b₀ b m k) (sym (keep-bind w v (env_of arg b₀ m))));
        kept = kept_more (λ s' l' w'. w') k (rw ez (noting-kept b (slot_of 10 (slot - 32)) at end tb.long (slot_small w) m (rw (← z) f.free)));
        more = λ s' h i. rw mz (within_more m (slot_of 10 (slot - 32)) s' i);
      }

  -- the last element of a left side takes what is left
  pub takes_all : {b₁ : List ℕ} {m₁ : ℕ} → j ≡ length left → Settled b₀ m (Some slot) at (length arg) b₁ m₁
      → Outcome arg b₀ m b₁ (first_of (seek (elements (drop j left))) p (env_of arg b₀ m) (fronts (elements (drop at arg)) 0)) true
  takes_all {b₁} {m₁} e s =
      let q : elements (drop j left) ≡ [] = none_left left j (omega arith) in
      let (n, t) = level_terms (rw (no_depth (rw q at r.left_side)) at r.argument) in
      let sp : Splits arg at (elements (drop at arg)) (length arg) = record { on = r.arg_fits; fits = omega arith; front = sym (append-nil _) ∙ rw (none_left arg (length arg) (omega arith)) } in
      let k = noted_end t sp (kept_self m b₀) s in
      won m₁ (tries_start (seek (elements (drop j left))) p (env_of arg b₀ m) _ ∙ rw q (last_takes_all p (env_of arg b₀ m) [] t) ∙ ap some (sym k.env)) k.table
    where
      no_depth : {d : ℕ} → LeftSide d [] → d ≡ 0
      no_depth l_end = refl

module _ {left : List ℕ} {j : ℕ} {arg : List ℕ} {at : ℕ} {b₀ : List ℕ} {m slot end : ℕ} {b : List ℕ} (g : Trying left j arg at b₀ m slot end b) where
  pub trying_long : length b ≡ 96
  trying_long = g.kept.long ∙ g.ready.table.long

  pub trying_level : Level arg end
  trying_level = record { depth = g.ready.depth; fits = g.split.fits; balanced = g.balanced }

  pub trying_ready : {b₁ : List ℕ} {m₁ : ℕ} → Settled b m (Some slot) at end b₁ m₁ → Ready left j arg end b₁ m₁
  trying_ready s =
      let k = noted_end g.ready g.fresh g.terms g.split g.kept s in
      record { depth = g.ready.depth; left_fits = g.ready.left_fits; arg_fits = g.split.fits; left_side = g.ready.left_side; argument = g.balanced; table = k.table }

  -- nothing goes through with this length
  module _ {b₂ : List ℕ} (k : Kept m b₀ b₂)
      (h : seek (elements (drop j left)) (elements (drop end arg)) (keep (role (10 ∷ (slot - 32) ∷ [])) (10 ∷ (slot - 32) ∷ []) g.v (env_of arg b₀ m)) ≡ none) where
    longer : {next : ℕ} → TermEnd arg end (Some next) → Trying left j arg at b₀ m slot next b₂
    longer {next} (term_at {v = u} t q) = record {
      ready = g.ready;
      fresh = g.fresh;
      n = g.n + 1;
      v = g.v ++ u;
      terms = terms_more g.terms t;
      split = split_join g.split q;
      balanced = behind_terms t (rw q.front at g.balanced);
      kept = k;
      same =
          g.same
          ∙ rw q.front (tries_term (seek (elements (drop j left))) (10 ∷ (slot - 32) ∷ []) (env_of arg b₀ m) g.v (elements (drop next arg)) t)
          ∙ tries_next (seek (elements (drop j left))) (10 ∷ (slot - 32) ∷ []) (env_of arg b₀ m) _ (rw q.front at h);
    }

    no_longer : TermEnd arg end None
        → Outcome arg b₀ m b₂ (first_of (seek (elements (drop j left))) (10 ∷ (slot - 32) ∷ []) (env_of arg b₀ m) (fronts (elements (drop at arg)) 0)) false
    no_longer (no_term f) =
        lost (g.same ∙ tries_stop (seek (elements (drop j left))) (10 ∷ (slot - 32) ∷ []) (env_of arg b₀ m) g.v (elements (drop end arg)) f ∙ tries_next (seek (elements (drop j left))) (10 ∷ (slot - 32) ∷ []) (env_of arg b₀ m) none h) k

  module _ {b₁ : List ℕ} {m₁ : ℕ} (s : Settled b m (Some slot) at end b₁ m₁) {b₂ : List ℕ} where
    pub trying_found : Outcome arg b₁ m₁ b₂ (seek (elements (drop j left)) (elements (drop end arg)) (env_of arg b₁ m₁)) true
        → Outcome arg b₀ m b₂ (first_of (seek (elements (drop j left))) (10 ∷ (slot - 32) ∷ []) (env_of arg b₀ m) (fronts (elements (drop at arg)) 0)) true
    trying_found (won m₂ q t) =
        let k = noted_end g.ready g.fresh g.terms g.split g.kept s in
        won m₂ (g.same ∙ tries_first (seek (elements (drop j left))) (10 ∷ (slot - 32) ∷ []) (env_of arg b₀ m) g.v (elements (drop end arg)) (rw k.env at q)) t

    missed : Outcome arg b₁ m₁ b₂ (seek (elements (drop j left)) (elements (drop end arg)) (env_of arg b₁ m₁)) false
        → (seek (elements (drop j left)) (elements (drop end arg)) (keep (role (10 ∷ (slot - 32) ∷ [])) (10 ∷ (slot - 32) ∷ []) g.v (env_of arg b₀ m)) ≡ none) × Kept m b₀ b₂
    missed (lost q k₂) =
        let k = noted_end g.ready g.fresh g.terms g.split g.kept s in
        (rw k.env at q, kept_more k.more k.kept k₂)

    pub trying_on : (next : ℕ) → Outcome arg b₁ m₁ b₂ (seek (elements (drop j left)) (elements (drop end arg)) (env_of arg b₁ m₁)) false → TermEnd arg end (Some next) → Trying left j arg at b₀ m slot next b₂
    trying_on next o t = let (h, k) = missed o in longer k h t

    pub trying_over : Outcome arg b₁ m₁ b₂ (seek (elements (drop j left)) (elements (drop end arg)) (env_of arg b₁ m₁)) false → TermEnd arg end None
        → Outcome arg b₀ m b₂ (first_of (seek (elements (drop j left))) (10 ∷ (slot - 32) ∷ []) (env_of arg b₀ m) (fronts (elements (drop at arg)) 0)) false
    trying_over o t = let (h, k) = missed o in no_longer k h t

  barred_none : {w : Ahead} → Sound w arg (Ending left j arg at b₀ m slot) → Barred w arg end
      → seek (elements (drop j left)) (elements (drop end arg)) (keep (role (10 ∷ (slot - 32) ∷ [])) (10 ∷ (slot - 32) ∷ []) g.v (env_of arg b₀ m)) ≡ none
  barred_none s o =
      elim (see_o (seek (elements (drop j left)) (elements (drop end arg)) (keep (role (10 ∷ (slot - 32) ∷ [])) (10 ∷ (slot - 32) ∷ []) g.v (env_of arg b₀ m)))) [
        | is_none h ↦ h
        | is_some y h ↦
            absurd (s.barred end g.split.fits o (record { v = g.v; split = g.split; through = record { n = g.n; terms = g.terms; env = y; found = rw (keep-bind (e_variable g.fresh) g.v (env_of arg b₀ m)) at h } }))
      ]

-- barred lengths passed over
module _ {left : List ℕ} {j : ℕ} {arg : List ℕ} {at : ℕ} {b₀ : List ℕ} {m slot end : ℕ} {b : List ℕ} (g : Trying left j arg at b₀ m slot end b)
    {w : Ahead} (s : Sound w arg (Ending left j arg at b₀ m slot)) where
  pub trying_past : {t : ℕ} → Skipped w arg end t → Trying left j arg at b₀ m slot t b
  trying_past at_once = g
  trying_past (term_more k o t) = let d = trying_past k in longer d d.kept (barred_none d s o) t

  pub trying_barred : NextEnd w arg end None
      → Outcome arg b₀ m b (first_of (seek (elements (drop j left))) (10 ∷ (slot - 32) ∷ []) (env_of arg b₀ m) (fronts (elements (drop at arg)) 0)) false
  trying_barred (never_ends k o t) = let d = trying_past k in no_longer d d.kept (barred_none d s o) t

  pub trying_next : {t : ℕ} → NextEnd w arg end (Some t) → Trying left j arg at b₀ m slot t b
  trying_next (ends_at k) = trying_past k

pub skipped_on : {w : Ahead} {s : List ℕ} {at t : ℕ} → NextEnd w s at (Some t) → at ≤ t
skipped_on {w} {s} {at} (ends_at k) = go k
  where
    go : {i : ℕ} → Skipped w s at i → at ≤ i
    go at_once = omega arith
    go (term_more k o t) = let l = go k in let n = term_less t in omega arith
