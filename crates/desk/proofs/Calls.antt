-- A call by its two cases, and k calls.
use mathlib.Core.Path.{◌≡◌, refl, sym, ◌∙◌, ap}
use mathlib.Core.List.{List}
use Prim.Native.Nat.{ℕ, suc, ◌≤◌}
use native.Mathlib.Omega.{arith}
use borrow.Author.Tests.{eq-eqb, ne_eqb}
use Rattle.meaning.specs.Machine.{machine, answer}
use Rattle.meaning.specs.Desk.{desk, desk_call, desk_calls, noted}
use Rattle.meaning.proofs.Calls.{desk_law}
use Rattle.machine.specs.Codes.{code_of}
use mathlib.Core.Bool.{true, false, not}
use denote.Enum.Bare.{sameb}
use Rattle.meaning.proofs.Truth.{never}
use Rattle.machine.specs.contracts.Code.{the_type}
use Rattle.machine.specs.declared.Code.{Code}
use Rattle.machine.specs.declared.Code.TheVariants.{Done, Paused, NoMatch, NoFunction, NoRoom, BadSizes, BadProgram, BadField}
use Rattle.machine.proofs.Only.{code_only}
use Rattle.desk.specs.Calling.{desk_of, Called}
use Rattle.desk.specs.declared.Record.{Record}

pub call_alters_nothing : (p : List ℕ) {c n : ℕ} (used place : ℕ) (f s : List ℕ) → n ≡ c → (n ≡ 1 → ⊥) → desk_call p (desk used c place f s) ≡ desk used c place f s
unfolding desk_call
call_alters_nothing p {c} used place f s e h = rw (ne_eqb c 1 (λ q. h (e ∙ q)), desk_call)

pub call_runs : (p : List ℕ) {c n : ℕ} (used place : ℕ) (f s : List ℕ) → n ≡ c → n ≡ 1 → {c' k u i : ℕ} {f' s' : List ℕ} → machine p f used s 1 ≡ answer c' k u i f' s'
    → desk_call p (desk used c place f s) ≡ desk u c' i f' s'
unfolding desk_call
call_runs p {c} used place f s e h m = rw (eq-eqb c 1 (sym e ∙ h), desk_call) (rw m)

-- what the test of the code says of its number
pub not_paused : (c : Code) → true ≡ not (sameb the_type c Paused) → code_of c ≡ 1 → ⊥
not_paused Done h e = never (omega arith)
not_paused Paused h e = never (cc)
not_paused NoMatch h e = never (omega arith)
not_paused NoFunction h e = never (omega arith)
not_paused NoRoom h e = never (omega arith)
not_paused BadSizes h e = never (omega arith)
not_paused BadProgram h e = never (omega arith)
not_paused BadField h e = never (omega arith)

pub is_paused : (c : Code) → false ≡ not (sameb the_type c Paused) → code_of c ≡ 1
is_paused Done h = never (cc)
is_paused Paused h = refl
is_paused NoMatch h = never (cc)
is_paused NoFunction h = never (cc)
is_paused NoRoom h = never (cc)
is_paused BadSizes h = never (cc)
is_paused BadProgram h = never (cc)
is_paused BadField h = never (cc)

-- what a call promises leaves no second record, and no other byte
pub only_call : (p : List ℕ) (r : Record) (f s : List ℕ) {r₁ r₂ : Record} {f₁ f₂ s₁ s₂ : List ℕ} → Called p r f s r₁ f₁ s₁ → Called p r f s r₂ f₂ s₂
    → (r₁.used ≡ r₂.used) × (r₁.code ≡ r₂.code) × (r₁.place ≡ r₂.place) × (f₁ ≡ f₂) × (s₁ ≡ s₂)
only_call p r f s {r₁} {r₂} h k =
    let e = sym h ∙ k in
    let c : code_of r₁.code ≡ code_of r₂.code = cc in
    (cc, code_only c, cc, cc, cc)

-- what `fresh` ensures
abbrev Started : ℕ → Record → Type 0
Started used r = (r.used ≡ used) × (code_of r.code ≡ 1) × (r.place ≡ 0)

-- and it leaves no second record
pub only_fresh : (used : ℕ) {r₁ r₂ : Record} → Started used r₁ → Started used r₂ → r₁ ≡ r₂
only_fresh used {r₁} {r₂} (u₁, c₁, p₁) (u₂, c₂, p₂) =
    let c : r₁.code ≡ r₂.code = code_only (c₁ ∙ sym c₂) in
    same (u₁ ∙ sym u₂) c (p₁ ∙ sym p₂)
  where
    same : {u u' p p' : ℕ} {c c' : Code} → u ≡ u' → c ≡ c' → p ≡ p' → ◌≡◌ {A = Record} (record { used = u; code = c; place = p }) (record { used = u'; code = c'; place = p' })
    same a b c = rw (a, b, c)

-- k calls, one after the other, each as the contract has it
pub data Calls (p : List ℕ) : ℕ → Record → List ℕ → List ℕ → Record → List ℕ → List ℕ → Type 0 where
  no_call : {r : Record} {f s : List ℕ} → Calls p 0 r f s r f s
  one_more : {k : ℕ} {r r₁ r' : Record} {f f₁ f' s s₁ s' : List ℕ} → Called p r f s r₁ f₁ s₁ → Calls p k r₁ f₁ s₁ r' f' s' → Calls p (suc k) r f s r' f' s'

calls_are : {p : List ℕ} {k : ℕ} {r r' : Record} {f f' s s' : List ℕ} → Calls p k r f s r' f' s' → desk_calls p k (desk_of r f s) ≡ desk_of r' f' s'
unfolding desk_calls
calls_are no_call = refl
calls_are {p} (one_more {k} h c) = ap (desk_calls p k) h ∙ calls_are c

-- k calls from a fresh record leave what one run with budget k leaves
pub k_calls : (p f s : List ℕ) (k : ℕ) → 1 ≤ k → {r r' : Record} {f' s' : List ℕ} → code_of r.code ≡ 1 → r.place ≡ 0 → Calls p k r f s r' f' s'
    → {c n u i : ℕ} {f'' s'' : List ℕ} → machine p f r.used s k ≡ answer c n u i f'' s'' → (r'.used ≡ u) × (code_of r'.code ≡ c) × (r'.place ≡ i) × (f' ≡ f'') × (s' ≡ s'')
k_calls p f s k h {r} {r'} {f'} {s'} c1 p0 c {c = c'} {n} {u} {i} {f''} {s''} m =
    let e : desk r'.used (code_of r'.code) r'.place f' s' ≡ desk u c' i f'' s'' =
    sym (calls_are c) ∙ (rw (c1, p0) (desk_law p f r.used s k h ∙ ap noted m)) in
    (cc, cc, cc, cc, cc)
