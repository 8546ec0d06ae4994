-- From the checks to the answer.
use mathlib.Core.Path.{◌≡◌, refl, ◌∙◌}
use mathlib.Core.Bool.{true, false}
use mathlib.Core.Option.{Option, none, some}
use mathlib.Core.List.{List}
use Prim.Native.Nat.{ℕ, ◌-◌, ◌≤◌}
use native.Mathlib.Omega.{arith}
use lib.ListN.{length, take, drop, replicate}
use lib.Seq.{length-take-le}
use lib.Dec.{ltb}
use borrow.Author.Tests.{le-ltb}
use Rattle.meaning.specs.Goodness.{bad_program, bad_field}
use Rattle.meaning.specs.Machine.{sizes, Result, result, closing, Answer, answer, machine}
use Rattle.meaning.proofs.Truth.{never}
use Rattle.meaning.proofs.Answers.{sizes_used}
use Rattle.checking.specs.Answers.{check_of}
use Rattle.checking_fields.specs.Answers.{check_of as field_of, field_check, scratch_after}
use Rattle.checking_fields.specs.declared.FieldFault.TheVariants.{Bad, Short}
use Rattle.std.specs.Prelude.{Ok, Err}
use Rattle.running.specs.Running.{Checked}
use Rattle.running.proofs.Start.{scratch_size}
use Rattle.machine.specs.Codes.{Sized}

-- WHAT A CHECK SAYS

pub check_good : {u : Unit} (o : Option ℕ) → Ok u ≡ check_of o → o ≡ none
check_good none h = refl
check_good (some i) h = never (cc)

pub check_bad : {i : ℕ} (o : Option ℕ) → Err i ≡ check_of o → o ≡ some i
check_bad none h = never (cc)
check_bad (some j) h = cc

pub field_good : {u : Unit} (o : Option ℕ) → Ok u ≡ field_of o → o ≡ none
field_good none h = refl
field_good (some i) h = never (cc)

pub field_bad : {i : ℕ} (o : Option ℕ) → Err (Bad i) ≡ field_of o → o ≡ some i
field_bad none h = never (cc)
field_bad (some j) h = cc

pub never_short : (o : Option ℕ) → Err Short ≡ field_of o → ⊥
never_short none h = never (cc)
never_short (some i) h = never (cc)

-- what a refusal holds
abbrev Refused : ℕ → ℕ → ℕ → ℕ → ℕ → ℕ → ℕ → Type 0
Refused code used place c k u i = (c ≡ code) × (k ≡ 0) × (u ≡ used) × (i ≡ place)

-- THE FIELD

module _ (p f : List ℕ) (used : ℕ) (s : List ℕ) (z : Sized p f used s) where
  pub used_fits : used ≤ length f
  used_fits = sizes_used p f used s z.sizes_fit

  scratch_enough : ltb (length s) (length (take used f)) ≡ false
  scratch_enough =
      let a = scratch_size p f used s z.sizes_fit in
      let b = used_fits in
      le-ltb (length s) (length (take used f)) (omega (arith, length-take-le used f b))

  -- the part of the field that is checked
  part_is : take (used - 0) (drop 0 f) ≡ take used f
  part_is = let q : used - 0 ≡ used = omega arith in rw q

  pub field_check_lem : field_check (take (used - 0) (drop 0 f)) s ≡ field_of (bad_field (take used f))
  unfolding field_check
  field_check_lem = rw (part_is, scratch_enough)

  pub scratch_zero : scratch_after (take (used - 0) (drop 0 f)) s ≡ replicate (length s) 0
  unfolding scratch_after
  scratch_zero = rw (part_is, scratch_enough)

  pub checked : (s' : List ℕ) → length s' ≡ length s → bad_field (take used f) ≡ none → Checked p f used s'
  unfolding sizes
  checked s' l h = record { sizes_fit = rw l z.sizes_fit; program = z.program; field = h }

  closing-length : (s' : List ℕ) → length s' ≡ length s → (r : Result) → closing f s r ≡ closing f s' r
  unfolding closing
  closing-length s' l (result c k place es) = rw l

  -- a run depends on the scratch's length alone
  pub same-run : (s' : List ℕ) → length s' ≡ length s → bad_field (take used f) ≡ none → (budget : ℕ) {a : Answer} → machine p f used s' budget ≡ a → machine p f used s budget ≡ a
  unfolding machine
  same-run s' l h budget e =
      let k = checked s' l h in
      let e' = rw h at (rw z.program at (rw (k.sizes_fit, machine) at e)) in
      rw (z.sizes_fit, machine) (rw z.program (rw h (closing-length s' l _ ∙ e')))

  pub bad_field_lem : (budget : ℕ) {place : ℕ} → bad_field (take used f) ≡ some place → (s' : List ℕ) → s' ≡ replicate (length s) 0 → {c k u i : ℕ} → Refused 7 used place c k u i
      → machine p f used s budget ≡ answer c k u i f s'
  unfolding machine
  bad_field_lem budget h s' e (a, b, d, g) = rw (z.sizes_fit, machine) (rw z.program (rw (h, a, b, d, g, e)))

-- THE OTHER REFUSALS

pub bad_program_lem : (p f : List ℕ) (used : ℕ) (s : List ℕ) (budget : ℕ) {place : ℕ} → sizes p f used s ≡ true → bad_program p ≡ some place
    → (s' : List ℕ) → s' ≡ replicate (length s) 0 → {c k u i : ℕ} → Refused 6 used place c k u i → machine p f used s budget ≡ answer c k u i f s'
unfolding machine
bad_program_lem p f used s budget z h s' e (a, b, d, g) = rw (z, machine) (rw (h, a, b, d, g, e))

pub bad_sizes : (p f : List ℕ) (used : ℕ) (s : List ℕ) (budget : ℕ) → sizes p f used s ≡ false → {c k u i : ℕ} → Refused 5 used 0 c k u i → machine p f used s budget ≡ answer c k u i f s
unfolding machine
bad_sizes p f used s budget z (a, b, d, g) = rw (z, machine) (rw (a, b, d, g))
