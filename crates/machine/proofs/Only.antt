-- What a run promises leaves no second answer, and no other byte.
use mathlib.Core.Path.{◌≡◌, refl, sym, ◌∙◌, ap}
use mathlib.Core.Bool.{cond}
use mathlib.Core.List.{List}
use Prim.Native.Nat.{ℕ}
use lib.Dec.{eqb}
use Rattle.meaning.specs.Machine.{machine, answer}
use Rattle.machine.specs.Codes.{code_of}
use Rattle.machine.specs.declared.Code.{Code}
use Rattle.machine.specs.declared.Code.TheVariants.{Done, Paused, NoMatch, NoFunction, NoRoom, BadSizes, BadProgram, BadField}
use Rattle.machine.specs.declared.Answer.{Answer}

named : ℕ → Code
named n =
    cond (eqb n 0) Done (cond (eqb n 1) Paused (cond (eqb n 2) NoMatch (cond (eqb n 3) NoFunction
    (cond (eqb n 4) NoRoom (cond (eqb n 5) BadSizes (cond (eqb n 6) BadProgram BadField))))))

named_back : (c : Code) → named (code_of c) ≡ c
unfolding named
named_back Done = refl
named_back Paused = refl
named_back NoMatch = refl
named_back NoFunction = refl
named_back NoRoom = refl
named_back BadSizes = refl
named_back BadProgram = refl
named_back BadField = refl

pub code_only : {c d : Code} → code_of c ≡ code_of d → c ≡ d
code_only {c} {d} e = sym (named_back c) ∙ ap named e ∙ named_back d

-- what `run` ensures
pub Promised : (p f : List ℕ) (used : ℕ) (s : List ℕ) (budget : ℕ) → Answer → List ℕ → List ℕ → Type 0
Promised p f used s budget r f' s' = machine p f used s budget ≡ answer (code_of r.code) r.steps r.used r.place f' s'

pub only_run : (p f : List ℕ) (used : ℕ) (s : List ℕ) (budget : ℕ) {r q : Answer} {f₁ f₂ s₁ s₂ : List ℕ}
    → Promised p f used s budget r f₁ s₁ → Promised p f used s budget q f₂ s₂
    → (r.code ≡ q.code) × (r.steps ≡ q.steps) × (r.used ≡ q.used) × (r.place ≡ q.place) × (f₁ ≡ f₂) × (s₁ ≡ s₂)
unfolding Promised
only_run p f used s budget {r} {q} h k =
    let e = sym h ∙ k in
    let c : code_of r.code ≡ code_of q.code = cc in
    (code_only c, cc, cc, cc, cc, cc)
