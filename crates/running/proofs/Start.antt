-- From what the checks have found out to what the steps need.
use mathlib.Core.Path.{◌≡◌, sym, ap, subst}
use mathlib.Core.Bool.{true, ◌&&◌}
use mathlib.Core.List.{List}
use Prim.Native.Nat.{ℕ, ◌≤◌}
use lib.ListN.{length, take}
use lib.Seq.{take-length}
use lib.Dec.{leb}
use borrow.Author.Tests.{leb-true}
use Rattle.meaning.specs.Elements.{elements}
use Rattle.meaning.specs.Machine.{longest, sizes}
use Rattle.meaning.proofs.Truth.{and_left, and_right}
use Rattle.meaning.proofs.Programs.{Functions, program_functions}
use Rattle.meaning.proofs.Steps.{field_is_good}
use Rattle.meaning.proofs.Answers.{sizes_used}
use Rattle.building.specs.Build.{side_of}
use Rattle.scanning.specs.State.{field_of}
use Rattle.choosing.specs.Choose.{rest_of}
use Rattle.choosing.proofs.Good.{good_program}
use Rattle.running.specs.Running.{Checked, Ready}

pub rest_all : (p : List ℕ) → rest_of p 0 ≡ elements p
unfolding rest_of side_of
rest_all p = ap elements (take-length p)

module _ (p f : List ℕ) (used : ℕ) (s : List ℕ) where
  -- the sizes of the program and the field buffer
  pub two_sizes : sizes p f used s ≡ true → (length p ≤ 65536) × (length f ≤ 65536)
  unfolding sizes longest
  two_sizes h =
      let l = leb (length p) 65536 in
      let m = leb (length f) 65536 in
      let n = l && m && leb (length s) 65536 in
      let two = and_left (l && m) (leb (length s) 65536) (and_left n (leb used (length f)) (and_left (n && leb used (length f)) (leb (length f) (length s)) h)) in
      (leb-true _ _ (and_left l m two), leb-true _ _ (and_right l m two))

  pub scratch_size : sizes p f used s ≡ true → length f ≤ length s
  unfolding sizes longest
  scratch_size h =
      leb-true _ _ (and_right (leb (length p) 65536 && leb (length f) 65536 && leb (length s) 65536 && leb used (length f)) (leb (length f) (length s)) h)

  pub ready : Checked p f used s → Ready p f used s
  unfolding field_of
  ready c =
      let g = field_is_good (take used f) c.field in
      let l = two_sizes c.sizes_fit in
      record {
        program = good_program p c.program;
        functions = subst Functions (sym (rest_all p)) (program_functions p c.program);
        fits = sizes_used p f used s c.sizes_fit;
        solid = g.solid;
        balanced = g.balanced;
        program_short = l.0;
        field_short = l.1;
        scratch_long = scratch_size c.sizes_fit;
      }
