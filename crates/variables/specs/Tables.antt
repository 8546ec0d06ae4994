-- What a table of variables hands back.
use Rattle.std.specs.Prelude.{◌≡◌, cond, List, ℕ, Result, Ok, Err}
use denote.Bor.{Bor}
use Rattle.text.specs.Numbering.{Key, number_of, has}
use Rattle.variables.specs.Variables.{keys_of, Numbered as NumberedIn}
use Rattle.variables.specs.Entries.{kinds, starts, sizes}
use Rattle.variables.specs.declared.Variables.{Variables}

abbrev pub keys : Variables → List Key
keys q = keys_of q.text.now (kinds q.entries) (starts q.entries) (sizes q.entries) q.count

-- no variables yet
pub record Begun (t : Bor (List ℕ)) (r : Variables) : Type 0 where
  pub text : r.text ≡ t
  pub count : r.count ≡ 0

-- the number of the key x among the keys; as an error, where it is not among them
pub record Found (x : Key) (ks : List Key) (r : Result ℕ ℕ) : Type 0 where
  pub is : r ≡ cond (has x ks) (Ok (number_of x ks)) (Err (number_of x ks))

-- the variable with the key x has its number, and is in the table, at the end if it is new
pub record Numbered (q : Variables) (x : Key) (q' : Variables) (r : ℕ) : Type 0 where
  pub numbered : NumberedIn q.text.now (kinds q.entries) (starts q.entries) (sizes q.entries) q.count x
      (kinds q'.entries) (starts q'.entries) (sizes q'.entries) r q'.count
  pub text : q'.text ≡ q.text

-- the first variables alone
pub record Kept (q : Variables) (n : ℕ) (q' : Variables) : Type 0 where
  pub text : q'.text ≡ q.text
  pub entries : q'.entries ≡ q.entries
  pub count : q'.count ≡ n
