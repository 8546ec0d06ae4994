-- k desk calls leave what one run with budget k leaves.
use mathlib.Core.Path.{◌≡◌, refl, sym, ◌∙◌, ap}
use mathlib.Core.Bool.{true, ◌&&◌}
use mathlib.Core.List.{List, ◌++◌}
use Prim.Native.Nat.{ℕ, zero, suc, ◌-◌, ◌≤◌}
use native.Mathlib.Omega.{arith}
use lib.ListN.{length, length-append, length-replicate}
use lib.Seq.{take_at}
use lib.Dec.{leb}
use borrow.Author.Tests.{le-leb, ne_eqb}
use Rattle.meaning.specs.Elements.{Element, elements, join, size}
use Rattle.meaning.specs.Machine.{onward, step, Answer, longest, sizes, machine}
use Rattle.meaning.specs.Desk.{Desk, desk, fresh_desk, noted, desk_call, desk_calls}
use Rattle.meaning.proofs.Words.{stay, go, Ends, done, paused, stopped, zeros, Accepted, Lawful, bad_sizes, bad_program_lem, bad_field_lem, ran}
use Rattle.meaning.proofs.Truth.{never, and_left, and_right}
use Rattle.meaning.proofs.Programs.{program_functions}
use Rattle.meaning.proofs.Steps.{Good, good_cut, good_accepted, stuck_code, step_is}
use Rattle.meaning.proofs.Runs.{one_more}
use Rattle.meaning.proofs.Answers.{lawful, only_lawful, machine_ends, accepted_ends, ends_good, ends_room}

-- once the code is not 1, calls alter nothing
rests : (p : List ℕ) (n used c place : ℕ) (f s : List ℕ) → (c ≡ 1 → ⊥) → desk_calls p n (desk used c place f s) ≡ desk used c place f s
unfolding desk_calls desk_call
rests p zero used c place f s h = refl
rests p (suc n) used c place f s h = rw (ne_eqb c 1 h, desk_call) (rests p n used c place f s h)

sizes_again : (p f s f₁ s₁ : List ℕ) (used u₁ : ℕ) → length f₁ ≡ length f → length s₁ ≡ length s → u₁ ≤ length f → sizes p f used s ≡ true → sizes p f₁ u₁ s₁ ≡ true
unfolding sizes
sizes_again p f s f₁ s₁ used u₁ ef es l h =
    let i = and_left (leb (length p) longest && leb (length f) longest && leb (length s) longest && leb used (length f)) _ h in
    rw (ef, es, and_left (leb (length p) longest && leb (length f) longest && leb (length s) longest) _ i, le-leb u₁ (length f) l)
    (and_right (leb (length p) longest && leb (length f) longest && leb (length s) longest && leb used (length f)) _ h)

module _ (p f : List ℕ) (used : ℕ) (s X : List ℕ) (r : Accepted p f used s X) where
  -- the buffers after a step to Y are accepted again
  again : (Y : List Element) → Good Y → size Y ≤ length f → Accepted p (join Y ++ zeros (length f - size Y)) (size Y) (zeros (length s)) (join Y)
  unfolding size
  again Y g l = record {
    fit = sizes_again p f s _ _ used (size Y) (simp (length-append, length-replicate) (omega arith)) (length-replicate (length s) 0) l r.fit;
    program = r.program;
    is = take_at (join Y) _ _ refl;
    good = good_accepted Y g;
  }

  -- one step, then the rest of the budget from there
  onwards : (n : ℕ) (Y : List Element) → step (elements p) (length f) (elements X) ≡ onward Y → Good Y → size Y ≤ length f
      → noted (machine p (join Y ++ zeros (length f - size Y)) (size Y) (zeros (length s)) n) ≡ noted (machine p f used s (suc n))
  unfolding size
  onwards n Y h g l =
      let f₁ : List ℕ = join Y ++ zeros (length f - size Y) in
      let a = again Y g l in
      let ef : length f₁ ≡ length f = simp (length-append, length-replicate) (omega arith) in
      let es : length (zeros (length s)) ≡ length s = length-replicate (length s) 0 in
      let (c, k, place, Z, e) = accepted_ends p f₁ (size Y) (zeros (length s)) n (join Y) a in
      let e' = one_more (elements p) (length f) (program_functions p r.program) h (rw (good_cut Y g, ef) at e) in
      ap noted (machine_ends p f₁ (size Y) (zeros (length s)) n (join Y) a e)
      ∙ rw (ef, es) (ap noted (sym (machine_ends p f used s (suc n) X r e')))

  ran_on : (n : ℕ) → ((f' : List ℕ) (used' place' : ℕ) (s' : List ℕ) → desk_calls p (suc n) (desk used' 1 place' f' s') ≡ noted (machine p f' used' s' (suc n)))
      → {c k place : ℕ} {Y : List Element} → Ends (elements p) (length f) 1 (elements X) c k place Y
      → desk_calls p (suc n) (desk (size Y) c place (join Y ++ zeros (length f - size Y)) (zeros (length s))) ≡ noted (machine p f used s (suc (suc n)))
  ran_on n ih (done q l h ec ea) =
      rests p (suc n) _ _ _ _ _ (λ z. never (omega arith)) ∙ ap noted (sym (machine_ends p f used s _ X r (done q (omega arith) h ec ea)))
  ran_on n ih {Y} (stopped q l h) =
      rests p (suc n) _ _ _ _ _ (λ z. never (let i = stuck_code (rw h at (step_is (elements p) (length f) Y)) in omega arith))
      ∙ ap noted (sym (machine_ends p f used s _ X r (stopped q (omega arith) h)))
  ran_on n ih (paused stay l h ec ea) = never l
  ran_on n ih (paused (go q (go q' m)) l h ec ea) = never (omega arith)
  ran_on n ih {Y} (paused (go q stay) l h ec ea) =
      let e : Ends (elements p) (length f) 1 (elements X) 1 1 0 Y = paused (go q stay) refl h refl refl in
      rw ec (ih _ (size Y) _ _) ∙ onwards (suc n) Y q (ends_good p f used s X r e) (ends_room p f used s X r e)

-- from a record with code 1, n + 1 calls
calls_from : (p : List ℕ) (n : ℕ) (f : List ℕ) (used place : ℕ) (s : List ℕ) → desk_calls p (suc n) (desk used 1 place f s) ≡ noted (machine p f used s (suc n))
unfolding desk_calls desk_call
calls_from p zero f used place s = refl
calls_from p (suc n) f used place s =
    let (a, l) = lawful p f used s 1 in
    ap (λ (d : Desk). desk_calls p (suc n) d) (ap noted (only_lawful p f used s 1 l))
    ∙ go (λ f' used' place' s'. calls_from p n f' used' place' s') a l
  where
    go : ((f' : List ℕ) (used' place' : ℕ) (s' : List ℕ) → desk_calls p (suc n) (desk used' 1 place' f' s') ≡ noted (machine p f' used' s' (suc n)))
        → (a : Answer) → Lawful p f used s 1 a → desk_calls p (suc n) (noted a) ≡ noted (machine p f used s (suc (suc n)))
    go ih _ (bad_sizes h) = rests p (suc n) _ _ _ _ _ (λ q. never (omega arith)) ∙ ap noted (sym (only_lawful p f used s _ (bad_sizes h)))
    go ih _ (bad_program_lem h i) = rests p (suc n) _ _ _ _ _ (λ q. never (omega arith)) ∙ ap noted (sym (only_lawful p f used s _ (bad_program_lem h i)))
    go ih _ (bad_field_lem h i j) = rests p (suc n) _ _ _ _ _ (λ q. never (omega arith)) ∙ ap noted (sym (only_lawful p f used s _ (bad_field_lem h i j)))
    go ih _ (ran {X} r e) = ran_on p f used s X r n ih e

-- from a fresh record, for each k from 1 on
pub desk_law : (p f : List ℕ) (used : ℕ) (s : List ℕ) (k : ℕ) → 1 ≤ k → desk_calls p k (fresh_desk used f s) ≡ noted (machine p f used s k)
desk_law p f used s zero h = never (omega arith)
desk_law p f used s (suc n) h = calls_from p n f used 0 s
