-- The sizes, one test after the other.
use mathlib.Core.Path.{◌≡◌}
use mathlib.Core.Bool.{false}
use mathlib.Core.List.{List}
use Prim.Native.Nat.{ℕ, ◌≤◌, ◌<◌}
use lib.ListN.{length}
use lib.Dec.{leb}
use borrow.Author.Tests.{le-leb, lt-leb}
use Rattle.meaning.specs.Machine.{longest, sizes}

module _ (p f : List ℕ) (used : ℕ) (s : List ℕ) where
  pub program_long : 65536 < length p → false ≡ sizes p f used s
  unfolding sizes longest
  program_long h = rw (lt-leb (length p) 65536 h)

  module _ (lp : length p ≤ 65536) where
    pub field_long : 65536 < length f → false ≡ sizes p f used s
    unfolding sizes longest
    field_long h = rw (le-leb (length p) 65536 lp, lt-leb (length f) 65536 h)

    module _ (lf : length f ≤ 65536) where
      pub scratch_long : 65536 < length s → false ≡ sizes p f used s
      unfolding sizes longest
      scratch_long h = rw (le-leb (length p) 65536 lp, le-leb (length f) 65536 lf, lt-leb (length s) 65536 h)

      module _ (ls : length s ≤ 65536) where
        pub used_long : length f < used → false ≡ sizes p f used s
        unfolding sizes longest
        used_long h = rw (le-leb (length p) 65536 lp, le-leb (length f) 65536 lf, le-leb (length s) 65536 ls, lt-leb used (length f) h)

        pub last_size : used ≤ length f → leb (length f) (length s) ≡ sizes p f used s
        unfolding sizes longest
        last_size h = rw (le-leb (length p) 65536 lp, le-leb (length f) 65536 lf, le-leb (length s) 65536 ls, le-leb used (length f) h)
