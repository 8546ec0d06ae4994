-- The loop: from one step to the next.
use mathlib.Core.Path.{◌≡◌, refl, sym, ◌∙◌, ap, subst}
use mathlib.Core.Bool.{true}
use mathlib.Core.List.{List, [], ◌∷◌}
use Prim.Native.Nat.{ℕ, suc, ◌+◌, ◌-◌, ◌≤◌}
use native.Mathlib.Omega.{arith}
use native.Mathlib.Numerals.{add-one}
use lib.ListN.{length, drop, drop_of_length-le, length-drop}
use lib.Seq.{paste, length-paste}
use Rattle.meaning.specs.Elements.{is_kind}
use Rattle.meaning.specs.Machine.{holds, stuck, onward, step, Result, run}
use Rattle.meaning.proofs.Truth.{never, or_right}
use Rattle.meaning.proofs.Holding.{holds-append}
use Rattle.meaning.proofs.Programs.{Functions, solid_whole}
use Rattle.meaning.proofs.Steps.{step_good}
use Rattle.meaning.proofs.Runs.{run_done, run_paused, run_stuck, run_onward}
use Rattle.kinds.specs.Stacks.{stack}
use Rattle.scanning.specs.State.{field_of, field_at, Good, marks_of, none_open, Reached, Advanced}
use Rattle.scanning.proofs.Marks.{size-nil}
use Rattle.scanning.proofs.Gap.{brought_up}
use Rattle.choosing.specs.Choose.{rest_of}
use Rattle.std.specs.Prelude.{Option, Some, None, Result as Outcome, Ok, Err}
use Rattle.stepping.specs.declared.Onward.{Onward}
use Rattle.stepping.specs.declared.Stuck.{Stuck}
use Rattle.stepping.specs.Stepping.{reason_of, Under, Stepped, stays, goes}
use Rattle.stepping.proofs.Leads.{last}
use Rattle.running.specs.Running.{number_of, Ready, Halted, Between}
use Rattle.running.specs.declared.End.{End}
use Rattle.running.specs.declared.End.TheVariants.{Done, Paused}

-- THE START

-- what is begun with: all of the field behind the gap, and nothing read
abbrev Begun : List ℕ → List ℕ → ℕ → ℕ → ℕ → ℕ → ℕ → ℕ → ℕ → Type 0
Begun f f' used n lo hi read depth top = (lo ≡ 0) × (hi ≡ length f - used) × (read ≡ hi) × (depth ≡ 0) × (top ≡ n) × (f' ≡ paste f hi (drop 0 f) used)

begun : (f f' : List ℕ) (used lo hi : ℕ) → used ≤ length f → lo ≡ 0 → hi ≡ length f - used → f' ≡ paste f hi (drop 0 f) used → field_at f' lo hi ≡ field_of f used
begun f f' used lo hi h e0 eh e = rw (e0, eh) (brought_up f f' used h (rw eh at e))

begun_long : (f f' : List ℕ) (used hi : ℕ) → used ≤ length f → hi ≡ length f - used → f' ≡ paste f hi (drop 0 f) used → length f' ≡ length f
begun_long f f' used hi h eh e = ap length e ∙ length-paste f hi (drop 0 f) used (omega arith) (omega (arith, length-drop 0 f))

pub same-run : (p f f' : List ℕ) (used budget : ℕ) {n lo hi read depth top : ℕ} → used ≤ length f → Begun f f' used n lo hi read depth top
    → run (rest_of p 0) (length f') budget 0 (field_at f' lo hi) ≡ run (rest_of p 0) (length f) budget 0 (field_of f used)
same-run p f f' used budget {lo = lo} {hi} h (e0, eh, er, ed, et, e) = rw (begun f f' used lo hi h e0 eh e, begun_long f f' used hi h eh e)

-- STEP AFTER STEP

module _ (p : List ℕ) (room budget : ℕ) (whole : Result) where
  pub between_start : (f f' s calls : List ℕ) (used : ℕ) {lo hi read depth top : ℕ} → Ready p f used s → length f' ≡ room → Begun f f' used (length calls) lo hi read depth top
      → whole ≡ run (rest_of p 0) room budget 0 (field_at f' lo hi) → Between p room budget whole f' calls lo hi read depth top 0
  unfolding stack holds marks_of
  between_start f f' s calls used {lo} {hi} r l (e0, eh, er, ed, et, e) so =
      let fit = r.fits in
      let z : budget - 0 ≡ budget = omega arith in
      let i = begun f f' used lo hi fit e0 eh e in
      let lf = begun_long f f' used hi fit eh e in
      rw (er, ed, et) (record {
        good = record { gap = omega arith; fits = omega arith; whole = rw i (solid_whole r.solid); solid = rw i r.solid; balanced = rw i r.balanced };
        standing = record {
          front = [];
          known = [];
          unread = field_at f' lo hi;
          parts = refl;
          low = size-nil ∙ sym e0;
          up = omega (arith, size-nil);
          opened = none_open refl refl;
          deep = omega arith;
          marked = drop_of_length-le calls {i = length calls} (omega arith);
          below = omega arith;
          inside = omega arith;
        };
        long = l;
        left = omega arith;
        so = rw z so;
      })

  module _ (f : List ℕ) (calls : List ℕ) (lo hi read depth top steps : ℕ) (i : Between p room budget whole f calls lo hi read depth top steps)
      (f1 calls1 : List ℕ) (found : Option ℕ) (lo1 hi1 read1 depth1 top1 : ℕ) (v : Advanced f lo hi f1 lo1 hi1 calls1 found read1 depth1 top1) where
    so_now : whole ≡ run (rest_of p 0) room (budget - steps) steps (field_at f1 lo1 hi1)
    so_now = rw v.same i.so

    pub end_done : found ≡ None → Halted whole f1 Done steps 0 lo1 hi1
    end_done z =
        record { gap = v.good.gap; fits = v.good.fits; so = so_now ∙ run_done (rest_of p 0) room (budget - steps) steps (field_at f1 lo1 hi1) (v.next.no z) }

    module _ {at : ℕ} (z : found ≡ Some at) where
      pub reached : Reached f1 lo1 hi1 at read1 depth1 top1 calls1
      reached = v.next.yes at z

      some_call : holds 6 (field_at f1 lo1 hi1) ≡ true
      unfolding holds
      some_call =
          let r = reached in
          let l = last f1 lo1 hi1 at read1 depth1 top1 calls1 v.good r (v.shuts at z) in
          let k6 : is_kind 6 l.c ≡ true = rw l.kc in
          let h : holds 6 r.front ≡ true = ap (holds 6) l.is ∙ holds-append 6 l.xs (l.c ∷ l.ys) ∙ rw k6 (or_right (holds 6 l.xs)) in
          ap (holds 6) r.parts ∙ holds-append 6 r.front _ ∙ rw h

      pub end_paused : steps ≡ budget → Halted whole f1 Paused steps 0 lo1 hi1
      end_paused e =
          let y : budget - steps ≡ 0 = omega arith in
          record { gap = v.good.gap; fits = v.good.fits; so = so_now ∙ rw y (run_paused (rest_of p 0) room steps (field_at f1 lo1 hi1) some_call) }

      -- the term is gathered, and the step made
      module _ (more : steps ≡ budget → ⊥) (f2 : List ℕ) (from hi2 : ℕ) (good2 : Good f2 (from + 3) hi2) (same2 : field_at f2 (from + 3) hi2 ≡ field_at f1 lo1 hi1) (long2 : length f2 ≡ room)
          (f3 calls3 : List ℕ) (r : Outcome Onward Stuck) (t : Stepped f2 from read1 (depth1 - 1) (step (rest_of p 0) (length f2) (field_at f2 (from + 3) hi2)) r f3 calls3) where
        so_2 : whole ≡ run (rest_of p 0) room (suc (budget - (steps + 1))) steps (field_at f2 (from + 3) hi2)
        so_2 =
            let q : budget - steps ≡ suc (budget - (steps + 1)) = (let l = i.left in omega arith) in
            rw (same2, ← q) so_now

        pub stuck_from : {s : Stuck} → r ≡ Err s → {e : End} → number_of e ≡ reason_of s → Halted whole f3 e steps from (from + 3) hi2
        stuck_from {s} z {e} n = go t z refl
          where
            go : {x : Outcome Onward Stuck} {g cs : List ℕ} → Stepped f2 from read1 (depth1 - 1) (step (rest_of p 0) (length f2) (field_at f2 (from + 3) hi2)) x g cs → x ≡ Err s → g ≡ f3 → Halted whole f3 e steps from (from + 3) hi2
            go (goes a b l o sg) k j = never (cc)
            go (stays {s = w} o ef) k j =
                let q : f3 ≡ f2 = sym j ∙ ef in
                let y : w ≡ s = cc in
                let st : step (rest_of p 0) room (field_at f2 (from + 3) hi2) ≡ stuck (number_of e) from = rw (← long2, n, ← y) o in
                record {
                  gap = good2.gap;
                  fits = rw q good2.fits;
                  so = so_2 ∙ rw q (run_stuck (rest_of p 0) room (budget - (steps + 1)) steps (field_at f2 (from + 3) hi2) (number_of e) from st);
                }

        pub next_from : Functions (rest_of p 0) → {o : Onward} → r ≡ Ok o → Between p room budget whole f3 calls3 from o.hi read1 (depth1 - 1) o.top (steps + 1)
        next_from ok {o} z = go t z
          where
            go : {x : Outcome Onward Stuck} {g cs : List ℕ} → Stepped f2 from read1 (depth1 - 1) (step (rest_of p 0) (length f2) (field_at f2 (from + 3) hi2)) x g cs → x ≡ Ok o → Between p room budget whole g cs from o.hi read1 (depth1 - 1) o.top (steps + 1)
            go (stays e ef) k = never (cc)
            go {g = g} {cs = cs} (goes {hi = h} {top = u} a b l e sg) k =
                let y : ◌≡◌ {A = Onward} (record { hi = h; top = u }) o = cc in
                let st : step (rest_of p 0) room (field_at f2 (from + 3) hi2) ≡ onward (field_at g from h) = rw (← long2) e in
                let gd = step_good (rest_of p 0) room (field_at f2 (from + 3) hi2) (field_at g from h) ok (record { solid = good2.solid; balanced = good2.balanced }) st in
                let n : Between p room budget whole g cs from h read1 (depth1 - 1) u (steps + 1) =
                record {
                  good = record { gap = a; fits = omega arith; whole = solid_whole gd.solid; solid = gd.solid; balanced = gd.balanced };
                  standing = sg;
                  long = l ∙ long2;
                  left = (let y = i.left in omega arith);
                  so = so_2 ∙ rw add-one (run_onward (rest_of p 0) room (budget - suc steps) steps (field_at f2 (from + 3) hi2) (field_at g from h) st);
                } in
                subst (λ (w : Onward). Between p room budget whole g cs from w.hi read1 (depth1 - 1) w.top (steps + 1)) y n

-- the lead that was gathered names its > and its notes as they were given
pub led_under : {f : List ℕ} {from hi at at' read depth top top' : ℕ} {calls : List ℕ} → at' ≡ at → top' ≡ top → Under f from hi at read depth top calls → Under f from hi at' read depth top' calls
led_under e k u = rw (e, k) u

pub halted_as : {w v : Result} {f : List ℕ} {e : End} {s q l h : ℕ} → w ≡ v → Halted w f e s q l h → Halted v f e s q l h
halted_as {f = f} {e} {s} {q} {l} {h} i x = subst (λ (r : Result). Halted r f e s q l h) i x
