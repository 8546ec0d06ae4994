-- What a table of names hands back.
use Rattle.std.specs.Prelude.{◌≡◌, List, ℕ, ◌<◌, Option, Some, None}
use denote.Bor.{Bor}
use Rattle.names.specs.Names.{number_at}
use Rattle.names.specs.Index.{count_after, Numbered as NumberedIn}
use Rattle.names.specs.Entries.{firsts, links}
use Rattle.names.specs.declared.Names.{Names}

-- no names yet
pub record Begun (t : Bor (List ℕ)) (r : Names) : Type 0 where
  pub text : r.text ≡ t
  pub count : r.count ≡ 0

-- the name that begins at `at` has number k, or is new
abbrev pub Found : Names → ℕ → Option ℕ → Type 0
Found q at (Some k) = (k < q.count) × (k ≡ number_at q.text.now (firsts q.entries) q.count at)
Found q at None = q.count ≡ number_at q.text.now (firsts q.entries) q.count at

-- it is in the table, at the end if it is new
pub record Numbered (q : Names) (at : ℕ) (q' : Names) (r : ℕ) : Type 0 where
  pub numbered : NumberedIn q.text.now (firsts q.entries) q.heads (links q.entries) q.count at (firsts q'.entries) q'.heads (links q'.entries) r
  pub count : q'.count ≡ count_after q.count r
  pub text : q'.text ≡ q.text
