-- From the last step to the answer.
use mathlib.Core.Path.{◌≡◌, ◌∙◌, ap}
use mathlib.Core.List.{List, ◌++◌}
use Prim.Native.Nat.{ℕ, ◌+◌, ◌-◌}
use native.Mathlib.Omega.{arith}
use lib.ListN.{length, take, drop, replicate, length-append, length-take, length-drop}
use Rattle.meaning.specs.Elements.{join, size}
use Rattle.meaning.specs.Machine.{run, closing, machine, answer}
use Rattle.meaning.proofs.Cutting.{join-cut}
use Rattle.scanning.specs.State.{field_of, field_at}
use Rattle.choosing.specs.Choose.{rest_of}
use Rattle.running.specs.Running.{number_of, Checked, Halted}
use Rattle.running.specs.declared.End.{End}
use Rattle.running.proofs.Start.{rest_all}

module _ (p f : List ℕ) (used : ℕ) (s : List ℕ) (budget : ℕ) where
  pub ended : (f1 s1 : List ℕ) {f2 s2 : List ℕ} {e : End} {steps place lo hi n : ℕ} → Checked p f used s → Halted (run (rest_of p 0) (length f) budget 0 (field_of f used)) f1 e steps place lo hi
      → length f1 ≡ length f → length s1 ≡ length s → n ≡ lo + (length f1 - hi) → f2 ≡ take lo f1 ++ drop hi f1 ++ replicate (hi - lo) 0
      → s2 ≡ replicate (length s1) 0 → machine p f used s budget ≡ answer (number_of e) steps n place f2 s2
  unfolding machine closing size field_at field_of
  ended f1 s1 {f2} {s2} {lo = lo} {hi} {n} c d lf ls en ef es =
      let g = d.gap in
      let h = d.fits in
      let b : List ℕ = take lo f1 ++ drop hi f1 in
      let j : join (field_at f1 lo hi) ≡ b = join-cut b in
      let l : length (join (field_at f1 lo hi)) ≡ n = rw (j, length-append, length-take, length-drop) (omega arith) in
      let q : length f - n ≡ hi - lo = omega arith in
      let qs : s2 ≡ replicate (length s) 0 = es ∙ rw ls in
      rw (c.sizes_fit, machine) (rw c.program (rw c.field (ap (closing f s) (rw rest_all at d.so) ∙ rw (l, j, q, ef, qs))))
