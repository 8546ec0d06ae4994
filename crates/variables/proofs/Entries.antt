-- The entries' columns, read and written.
use mathlib.Core.Path.{◌≡◌, refl}
use mathlib.Core.List.{List, ◌∷◌}
use Prim.Native.Nat.{ℕ, ◌+◌, ◌≤◌, ◌<◌}
use native.Mathlib.Omega.{arith}
use lib.ListN.{length, get_or, set, get_or-map}
use Rattle.std.specs.Prelude.{Ok, Err}
use Rattle.std.proofs.lemmas.List.{map-set, length-map}
use Rattle.classes.specs.Table.{part}
use Rattle.variables.specs.Variables.{Inside, Added, Numbered as NumberedIn}
use Rattle.variables.specs.Entries.{kinds, starts, sizes}
use Rattle.variables.specs.Tables.{keys, Found, Numbered}
use Rattle.variables.specs.declared.Entry.{Entry}
use Rattle.variables.specs.declared.Variables.{Variables}
use Rattle.variables.proofs.Finding.{numbered_new, numbered_old}

abbrev none : Entry
none = record { kind = 0; start = 0; size = 0 }

module _ (es : List Entry) (k : ℕ) where
  pub kind_at : get_or (kinds es) k 0 ≡ (get_or es k none).kind
  kind_at = get_or-map (λ e. e.kind) es k none

  pub start_at : get_or (starts es) k 0 ≡ (get_or es k none).start
  start_at = get_or-map (λ e. e.start) es k none

  pub size_at : get_or (sizes es) k 0 ≡ (get_or es k none).size
  size_at = get_or-map (λ e. e.size) es k none

-- the table with a new variable
module _ (q : Variables) (k a n r : ℕ) (found : Found (k ∷ part q.text.now a n) (keys q) (Err r)) (inside : a + n ≤ length q.text.now)
    (room : q.count < 49) (long : length q.entries ≡ 49) where
  abbrev entries' : List Entry
  entries' = set q.entries q.count (record { kind = k; start = a; size = n })

  added : Added q.count k a n (kinds q.entries) (starts q.entries) (sizes q.entries) (kinds entries') (starts entries') (sizes entries')
  added = record {
    its_kind = map-set (λ e. e.kind) q.entries q.count _;
    its_start = map-set (λ e. e.start) q.entries q.count _;
    its_size = map-set (λ e. e.size) q.entries q.count _;
  }

  numbered : NumberedIn q.text.now (kinds q.entries) (starts q.entries) (sizes q.entries) q.count (k ∷ part q.text.now a n)
      (kinds entries') (starts entries') (sizes entries') r (q.count + 1)
  numbered =
      numbered_new q.inside k a n r found inside (
        omega (arith, length-map q.entries (λ e. e.kind)),
        omega (arith, length-map q.entries (λ e. e.start)),
        omega (arith, length-map q.entries (λ e. e.size)),
      ) added

  pub inside_with : Inside q.text.now (kinds entries') (starts entries') (sizes entries') (q.count + 1)
  inside_with = numbered.inside

  pub numbered_with : (q' : Variables) → (q'.text ≡ q.text) × (q'.entries ≡ entries') × (q'.count ≡ q.count + 1) → Numbered q (k ∷ part q.text.now a n) q' r
  numbered_with q' (e, f, c) = record { numbered = rw (f, c) numbered; text = e }

pub numbered_same : (q : Variables) (k a n r : ℕ) → Found (k ∷ part q.text.now a n) (keys q) (Ok r) → Numbered q (k ∷ part q.text.now a n) q r
numbered_same q k a n r found = record { numbered = numbered_old q.inside k a n r found; text = refl }
