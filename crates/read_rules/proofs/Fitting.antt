-- What reading a text answers lies within both outputs and the text.
use mathlib.Core.Path.{◌≡◌, sym, ◌∙◌, ap, subst}
use mathlib.Core.Bool.{Bool, true, false, cond, ◌&&◌}
use mathlib.Core.List.{List}
use Prim.Native.Nat.{ℕ, ◌≤◌}
use native.Mathlib.Omega.{arith}
use lib.ListN.{length, length-append}
use lib.Dec.{leb}
use borrow.Author.Tests.{leb-true}
use Rattle.meaning.specs.Elements.{join}
use Rattle.meaning.proofs.Truth.{is_true, is_false, see, and_left}
use Rattle.text.specs.Reading.{Said, says, amiss, said}
use Rattle.text.specs.Answers.{Outcome, outcome, reply, filled, list_of, fitted, read_text}
use Rattle.text.proofs.Promises.{place_in, place_in_text}

Within : Outcome → Type 0
Within (outcome (reply code p n place) program list) = (p ≤ length program) × (n ≤ length list)

either : (b : Bool) (x y : Outcome) → Within x → Within y → Within (cond b x y)
either true x y h k = h
either false x y h k = k

refused_within : (code place : ℕ) (program list : List ℕ) → Within (outcome (reply code 0 0 place) program list)
unfolding Within
refused_within code place program list = (omega arith, omega arith)

filled_long : (x buffer : List ℕ) → length x ≤ length (filled x buffer)
unfolding filled
filled_long x buffer = rw length-append (omega arith)

filled_within : (x y program list : List ℕ) → Within (outcome (reply 0 (length x) (length y) 0) (filled x program) (filled y list))
unfolding Within
filled_within x y program list = (filled_long x program, filled_long y list)

fitted-within : (s : Said) (program list : List ℕ) → Within (fitted s program list)
unfolding fitted
fitted-within (amiss i) program list = refused_within 8 i program list
fitted-within (says es ns) program list =
    either (leb (length (join es)) (length program) && leb (length (list_of ns)) (length list)) _ _
    (filled_within (join es) (list_of ns) program list) (refused_within 4 0 program list)

outputs : (text program list : List ℕ) → Within (read_text text program list)
unfolding read_text
outputs text program list =
    either (leb (length text) 65536 && leb (length program) 65536 && leb (length list) 65536) _ _ (fitted-within (said text) program list) (refused_within 5 0 program list)

abbrev code_in : Outcome → ℕ
code_in (outcome (reply code p n place) program list) = code

-- a text that is too long is not called bad
sized : (text program list : List ℕ) → code_in (read_text text program list) ≡ 8 → length text ≤ 65536
unfolding read_text
sized text program list h =
    elim (see (leb (length text) 65536 && leb (length program) 65536 && leb (length list) 65536)) [
      | is_true t ↦ leb-true _ 65536 (and_left _ _ (and_left _ _ t))
      | is_false f ↦ absurd (let z : ◌≡◌ {A = ℕ} 5 8 = rw f at h in omega arith)
    ]

pub read_within : (text program list : List ℕ) (code p n place : ℕ) (program' list' : List ℕ)
    → outcome (reply code p n place) program' list' ≡ read_text text program list
    → (p ≤ length program') × (n ≤ length list') × (place ≤ length text) × (code ≡ 8 → length text ≤ 65536)
unfolding Within
read_within text program list code p n place program' list' h =
    let (a, b) = subst Within (sym h) (outputs text program list) in
    (a, b, subst (λ (o : Outcome). place_in o ≤ length text) (sym h) (place_in_text text program list), λ e. sized text program list (ap code_in (sym h) ∙ e))
