-- A step as the code makes it.
use Rattle.std.specs.Prelude.{◌≡◌, Result, Ok, Err, List, ◌∷◌, ◌++◌, ℕ, ◌+◌, ◌*◌, ◌-◌, ◌≤◌, length, take, drop}
use Rattle.meaning.specs.Elements.{Element, kind, size}
use Rattle.meaning.specs.Machine.{lead, leading, Step, stuck, onward}
use Rattle.kinds.specs.Stacks.{stack}
use Rattle.scanning.specs.State.{field_at, Opens, marks_of, Standing}
use Rattle.stepping.specs.declared.Lead.{Lead}
use Rattle.stepping.specs.declared.Onward.{Onward}
use Rattle.stepping.specs.declared.Stuck.{Stuck}
use Rattle.stepping.specs.declared.Stuck.TheVariants.{NoMatch, NoFunction, NoRoom}

-- the bytes of an argument that begins behind the gap and ends before the > at `at`
abbrev pub argument_of : List ℕ → ℕ → ℕ → List ℕ
argument_of f hi at = take (at - hi) (drop hi f)

-- the leading term: its < is the last before the gap, at `from`; its argument is behind the gap, up to its > at `at`
pub record Term (f : List ℕ) (from hi at : ℕ) : Type 0 where
  pub a : List Element
  pub c : Element
  pub x : List Element
  pub g : Element
  pub b : List Element
  pub parts : field_at f (from + 3) hi ≡ a ++ (c ∷ (x ++ (g ∷ b)))
  pub led : leading (field_at f (from + 3) hi) ≡ lead a c x b
  pub kc : kind c ≡ 6
  pub kg : kind g ≡ 7
  pub from_is : from ≡ size a
  pub at_is : at ≡ hi + size x

-- the same, with what is noted before and behind it
pub record Under (f : List ℕ) (from hi at read depth top : ℕ) (calls : List ℕ) : Type 0 where
  pub term : Term f from hi at
  pub known : List Element
  pub unread : List Element
  pub behind : term.b ≡ known ++ unread
  pub up : at + 1 + size known ≡ read
  pub opened : Opens term.a (stack depth calls)
  pub deep : 3 * depth ≤ from
  pub marked : drop top calls ≡ marks_of (at + 1) known
  pub below : depth ≤ top
  pub inside : top ≤ length calls

-- the same, whatever is noted
pub record Placed (f : List ℕ) (from hi at top : ℕ) (calls : List ℕ) : Type 0 where
  pub read : ℕ
  pub depth : ℕ
  pub under : Under f from hi at read depth top calls

abbrev pub Led : List ℕ → Lead → List ℕ → Type 0
Led f l calls = Placed f l.from l.hi l.at l.top calls

-- the paper's number of each reason
abbrev pub reason_of : Stuck → ℕ
reason_of NoMatch = 2
reason_of NoFunction = 3
reason_of NoRoom = 4

-- what the step o did to the field
pub data Stepped (f : List ℕ) (from read depth : ℕ) (o : Step) : Result Onward Stuck → List ℕ → List ℕ → Type 0 where
  stays : {s : Stuck} {f' calls : List ℕ} → o ≡ stuck (reason_of s) from → f' ≡ f → Stepped f from read depth o (Err s) f' calls
  goes : {hi top : ℕ} {f' calls : List ℕ} → from ≤ hi → hi ≤ length f → length f' ≡ length f → o ≡ onward (field_at f' from hi) → Standing f' from hi read depth top calls
      → Stepped f from read depth o (Ok (record { hi = hi; top = top })) f' calls
