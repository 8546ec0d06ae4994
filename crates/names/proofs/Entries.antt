-- The entries' columns, read and written.
use mathlib.Core.Path.{◌≡◌, refl, sym, ◌∙◌}
use mathlib.Core.List.{List}
use Prim.Native.Nat.{ℕ, ◌+◌, ◌≤◌, ◌<◌}
use native.Mathlib.Omega.{arith}
use lib.ListN.{length, get_or, set, get_or-map}
use Rattle.std.proofs.lemmas.List.{map-set, length-map}
use borrow.Author.Tests.{eq-eqb, ne_eqb}
use Rattle.names.specs.Names.{key_at, number_at}
use Rattle.names.specs.Index.{bucket, Index, Added, count_after, Numbered as NumberedIn}
use Rattle.names.specs.Entries.{firsts, links}
use Rattle.std.specs.Prelude.{Option, Some, None}
use Rattle.std.specs.Option.{unwrap_or}
use Rattle.names.specs.Tables.{Found, Numbered}
use Rattle.names.specs.declared.Entry.{Entry}
use Rattle.names.specs.declared.Names.{Names}
use Rattle.names.proofs.Chains.{numbered_new, numbered_old}

abbrev none : Entry
none = record { first = 0; link = 0 }

module _ (es : List Entry) (k : ℕ) where
  pub first_at : get_or (firsts es) k 0 ≡ (get_or es k none).first
  first_at = get_or-map (λ e. e.first) es k none

  pub link_at : get_or (links es) k 0 ≡ (get_or es k none).link
  link_at = get_or-map (λ e. e.link) es k none

-- the table with the name that begins at `at`, which is new, and of bucket b
module _ (q : Names) (at b : ℕ) (new : q.count ≡ number_at q.text.now (firsts q.entries) q.count at)
    (inside : (at < length q.text.now) × (length (key_at q.text.now at) ≤ 15))
    (room : q.count < 32768) (long : length q.entries ≡ 32768) (own : (b ≡ bucket (key_at q.text.now at)) × (b < 8192)) where
  abbrev r : ℕ
  r = q.count

  abbrev entries' : List Entry
  entries' = set q.entries r (record { first = at; link = get_or q.heads b 0 })

  added : Added q.count at b (firsts q.entries) q.heads (links q.entries) (firsts entries') (set q.heads b (r + 1)) (links entries')
  added = record {
    first = map-set (λ e. e.first) q.entries r _;
    head = refl;
    link = map-set (λ e. e.link) q.entries r _;
  }

  numbered : NumberedIn q.text.now (firsts q.entries) q.heads (links q.entries) q.count at (firsts entries') (set q.heads b (r + 1)) (links entries') r
  numbered =
      numbered_new q.index at r new refl inside
      (omega arith, omega (arith, length-map q.entries (λ e. e.first)), omega (arith, length-map q.entries (λ e. e.link))) own added

  counted : count_after q.count r ≡ r + 1
  counted = rw (eq-eqb r q.count refl) (omega arith)

  pub index_with : Index q.text.now (firsts entries') (set q.heads b (r + 1)) (links entries') (r + 1)
  index_with = rw counted at numbered.index

  pub numbered_with : (q' : Names) → (q'.text ≡ q.text) × (q'.entries ≡ entries') × (q'.heads ≡ set q.heads b (r + 1)) × (q'.count ≡ r + 1) → Numbered q at q' r
  numbered_with q' (e, f, h, n) = record { numbered = rw (f, h) numbered; count = n ∙ sym counted; text = e }

-- the table as it was, with a name that is known
pub numbered_same : (q : Names) (at r : ℕ) → r ≡ number_at q.text.now (firsts q.entries) q.count at → (r ≡ q.count → ⊥) → (q' : Names)
    → (q'.text ≡ q.text) × (q'.entries ≡ q.entries) × (q'.heads ≡ q.heads) × (q'.count ≡ q.count) → Numbered q at q' r
numbered_same q at r found old q' (e, f, h, n) = record { numbered = rw (f, h) (numbered_old q.index at r found old); count = n ∙ sym (rw (ne_eqb r q.count old)); text = e }

-- what is found, or else the next number, is the name's number, and at most the next
pub found_is : (q : Names) (at : ℕ) (o : Option ℕ) → Found q at o → unwrap_or o q.count ≡ number_at q.text.now (firsts q.entries) q.count at
found_is q at (Some k) h = h.1
found_is q at None h = h

pub found_most : (q : Names) (at : ℕ) (o : Option ℕ) → Found q at o → unwrap_or o q.count ≤ q.count
found_most q at (Some k) h = omega (arith, h.0)
found_most q at None h = omega arith
