-- A whole left side against a whole argument.
use mathlib.Core.Path.{◌≡◌}
use mathlib.Core.Bool.{Bool, true}
use mathlib.Core.Option.{some}
use mathlib.Core.List.{List, [], ◌∷◌, Memᴰ}
use Prim.Native.Nat.{ℕ}
use native.Mathlib.Omega.{arith}
use Rattle.meaning.specs.Elements.{elements, same, among}
use Rattle.meaning.specs.Matching.{free, seek}
use Rattle.meaning.proofs.Truth.{never, is_true, is_false, see, same_eq}
use Rattle.meaning.proofs.Searching.{seek_binds, sure_free}
use Rattle.kinds.specs.Slots.{slot_of, within}
use Rattle.settling.specs.Values.{env_of, Variable, Ready}
use Rattle.matching.specs.Binding.{Outcome, lost, won, Starting, Bound, Matched, no_fit, first_fit}
use Rattle.settling.proofs.Slots.{env_settled, env_open, env_free, table_empty}
use Rattle.matching.proofs.Going.{no_plain}

pub starting : {left arg b : List ℕ} → Starting left arg b → Ready left 0 arg 0 b 0
starting {arg = arg} {b} s = record {
  depth = 0;
  left_fits = omega arith;
  arg_fits = omega arith;
  left_side = s.left_side;
  argument = s.argument;
  table = table_empty arg b s.long;
}

member : (e : List ℕ) (es : List (List ℕ)) → among e es ≡ true → Memᴰ e es
unfolding among
member e [] h = never (cc)
member e (x ∷ xs) h =
    elim (see (same e x)) [
      | is_true z ↦ Memᴰ.head (same_eq e x z)
      | is_false z ↦ Memᴰ.tail (member e xs (rw z at h))
    ]

pub matched : (l : List (List ℕ)) (arg b b' : List ℕ) {r : Bool} → Outcome arg b 0 b' (seek l (elements arg) (env_of arg b 0)) r → Matched l arg b' r
matched l arg b b' (lost q k) = no_fit (rw (env_free arg b) at q)
matched l arg b b' (won m q t) =
    let h = rw (env_free arg b) at q in
    first_fit (env_of arg b' m) h (λ k n v a. bound k n v (seek_binds l (elements arg) free (env_of arg b' m) sure_free h (k ∷ n ∷ []) (member (k ∷ n ∷ []) l a) (no_plain v)))
  where
    bound : (k n : ℕ) → Variable k n → (u : List (List ℕ)) × (env_of arg b' m (k ∷ n ∷ []) ≡ some u) → Bound arg b' (env_of arg b' m) k n
    bound k n v (u, e) =
        elim (see (within m (slot_of k n))) [
          | is_true w ↦ record { held = t.held k n v w; is = env_settled arg b' m v w }
          | is_false w ↦ never (cc (env_open arg b' m v w))
        ]
