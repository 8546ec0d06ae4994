-- Where an e-variable's value can end.
use Rattle.std.specs.Prelude.{◌≡◌, Bool, true, false, List, [], ◌∷◌, ◌++◌, ℕ, ◌+◌, ◌-◌, ◌≤◌, ◌<◌, length, get_or, drop, slice_get, Some, None, IsSome}
use Rattle.std.specs.Prelude as P
use Rattle.std.proofs.Math.Option.{some}
use Rattle.meaning.specs.Elements.{elements}
use Rattle.meaning.specs.Matching.{Terms, Env, bind, seek}
use Rattle.elements.specs.Reading.{Splits, TermEnd}
use Rattle.foreseeing.specs.declared.Ahead.{Ahead}
use Rattle.settling.specs.Values.{env_of, FreshE}

-- a place at which it cannot
pub data Barred (w : Ahead) (s : List ℕ) (i : ℕ) : Type 0 where
  early : i < w.earliest → Barred w s i
  late : w.latest < i → Barred w s i
  other_kind : {k : ℕ} → w.first ≡ Some k → (slice_get s i ≡ Some k → ⊥) → Barred w s i
  other_second : {k : ℕ} → w.second ≡ Some k → IsSome w.first → (get_or s (i + 1) 0 ≡ k → ⊥) → Barred w s i
  other_third : {k : ℕ} → w.third ≡ Some k → IsSome w.first → (get_or s (i + 2) 0 ≡ k → ⊥) → Barred w s i

pub data MayEnd (w : Ahead) (s : List ℕ) (i : ℕ) : Bool → Type 0 where
  may : MayEnd w s i true
  may_not : Barred w s i → MayEnd w s i false

-- only the two places are known
pub record Window (w : Ahead) (earliest latest : ℕ) : Type 0 where
  pub first : w.first ≡ None
  pub from : w.earliest ≡ earliest
  pub to : w.latest ≡ latest

-- a character is known with its code
pub record Usable (w : Ahead) (s : List ℕ) : Type 0 where
  pub character : w.first ≡ Some 1 → IsSome w.second
  pub fits : w.earliest ≤ length s

-- nothing that can be is barred
pub record Sound (w : Ahead) (s : List ℕ) (Can : ℕ → Type 0) : Type 0 where
  pub usable : Usable w s
  pub barred : (i : ℕ) → i ≤ length s → Barred w s i → Can i → ⊥

-- the value's bytes stand at i, and are all that is left if it is the last
pub record Standing (value : List ℕ) (last : Bool) (arg : List ℕ) (i : ℕ) : Type 0 where
  pub rest : List ℕ
  pub front : drop i arg ≡ value ++ rest
  pub ends : last ≡ true → rest ≡ []

-- with the value v of the e-variable in the slot `own` the search goes through from k on
pub record Through (left : List ℕ) (j : ℕ) (arg b : List ℕ) (m own k : ℕ) (v : List (List ℕ)) : Type 0 where
  pub n : ℕ
  pub terms : Terms n v
  pub env : Env
  pub found : seek (elements (drop j left)) (elements (drop k arg)) (bind (10 ∷ (own - 32) ∷ []) v (env_of arg b m)) ≡ some env

-- and the value ends there
pub record Ending (left : List ℕ) (j : ℕ) (arg : List ℕ) (at : ℕ) (b : List ℕ) (m own i : ℕ) : Type 0 where
  pub v : List (List ℕ)
  pub split : Splits arg at v i
  pub through : Through left j arg b m own i v

-- or there stands an opening bracket before
pub record Behind (left : List ℕ) (j : ℕ) (arg b : List ℕ) (m i : ℕ) : Type 0 where
  pub own : ℕ
  pub fresh : FreshE own m
  pub v : List (List ℕ)
  pub opens : drop i arg ≡ 4 ∷ drop (i + 1) arg
  pub through : Through left j arg b m own (i + 1) v

-- up to r characters are barred, where no first byte is known
pub record Run (w : Ahead) (s : List ℕ) (at r : ℕ) : Type 0 where
  pub fits : r ≤ length s
  pub barred : (k : ℕ) → at ≤ k → k < r → w.first ≡ None → Barred w s k

-- terms passed over from `at` on, each at a barred place
pub data Skipped (w : Ahead) (s : List ℕ) (at : ℕ) : ℕ → Type 0 where
  at_once : Skipped w s at at
  term_more : {i t : ℕ} → Skipped w s at i → Barred w s i → TermEnd s i (Some t) → Skipped w s at t

pub data NextEnd (w : Ahead) (s : List ℕ) (at : ℕ) : P.Option ℕ → Type 0 where
  ends_at : {t : ℕ} → Skipped w s at t → NextEnd w s at (Some t)
  never_ends : {t : ℕ} → Skipped w s at t → Barred w s t → TermEnd s t None → NextEnd w s at None
