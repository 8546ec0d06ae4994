-- What each function for C leaves, case by case.
use mathlib.Core.Path.{◌≡◌, refl, sym, ap}
use mathlib.Core.Bool.{cond}
use mathlib.Core.List.{List, [], ◌∷◌, ◌++◌}
use Prim.Native.Nat.{ℕ, ◌≤◌, ◌<◌}
use native.Mathlib.Omega.{arith}
use lib.ListN.{length, drop, get_or}
use lib.Dec.{eqb}
use borrow.Author.Tests.{lt-ltb, le-ltb, ne_eqb}
use Rattle.meaning.specs.Machine.{machine, answer}
use Rattle.meaning.specs.Desk.{desk, desk_call}
use Rattle.meaning.specs.Pointer.{pointer}
use Rattle.desk.proofs.Calls.{call_alters_nothing}
use Rattle.embed.specs.Face.{lent, run_face, kept, desk_face, spot, pointer_face, read_face}
use Rattle.text.specs.Answers.{reply, outcome, read_text}

module _ (p f : List ℕ) (used : ℕ) (s : List ℕ) (budget : ℕ) (l : List ℕ) where
  pub no_answer : length l < 4 → run_face p f used s budget l ≡ lent l f s
  unfolding run_face
  no_answer h = rw (lt-ltb (length l) 4 h)

  pub answer_told : 4 ≤ length l → {c k u i n : ℕ} {f' s' l' : List ℕ} → machine p f used s budget ≡ answer c k u i f' s' → n ≡ c
      → l' ≡ n ∷ k ∷ u ∷ i ∷ drop 4 l → run_face p f used s budget l ≡ lent l' f' s'
  unfolding run_face
  answer_told h {c} {k} {u} {i} m e w = rw (le-ltb (length l) 4 h, m, w, e)

module _ (t p n l : List ℕ) where
  pub nothing_read : length l < 4 → read_face t p n l ≡ lent l p n
  unfolding read_face
  nothing_read h = rw (lt-ltb (length l) 4 h)

  pub read_told : 4 ≤ length l → {c k u i m : ℕ} {p' n' l' : List ℕ} → outcome (reply c k u i) p' n' ≡ read_text t p n → m ≡ c
      → l' ≡ m ∷ k ∷ u ∷ i ∷ drop 4 l → read_face t p n l ≡ lent l' p' n'
  unfolding read_face
  read_told h {c} {k} {u} {i} r e w = rw (le-ltb (length l) 4 h, ← r, w, e)

module _ (p f s : List ℕ) where
  pub no_record : (l : List ℕ) → length l < 3 → desk_face l p f s ≡ lent l f s
  unfolding desk_face
  no_record [] h = refl
  no_record (a ∷ []) h = refl
  no_record (a ∷ b ∷ []) h = refl
  no_record (a ∷ b ∷ c ∷ l) h = absurd (omega (arith, h))

  pub record_ended : (l : List ℕ) → 3 ≤ length l → (get_or l 1 0 ≡ 1 → ⊥) → desk_face l p f s ≡ lent l f s
  unfolding desk_face
  record_ended [] h k = refl
  record_ended (a ∷ []) h k = refl
  record_ended (a ∷ b ∷ []) h k = refl
  record_ended (a ∷ b ∷ c ∷ l) h k = ap (kept l) (call_alters_nothing p a c f s refl k)

  pub record_called : (l : List ℕ) → 3 ≤ length l → get_or l 1 0 ≡ 1 → {c u i n : ℕ} {f' s' l' : List ℕ}
      → desk_call p (desk (get_or l 0 0) 1 (get_or l 2 0) f s) ≡ desk u c i f' s' → n ≡ c → l' ≡ u ∷ n ∷ i ∷ drop 3 l → desk_face l p f s ≡ lent l' f' s'
  unfolding desk_face
  record_called [] h k m e w = absurd (omega (arith, h))
  record_called (a ∷ []) h k m e w = absurd (omega (arith, h))
  record_called (a ∷ b ∷ []) h k m e w = absurd (omega (arith, h))
  record_called (a ∷ b ∷ c ∷ l) h k m e w = rw (k, m, w, e)

pub no_code : (n : ℕ) → (n ≡ 2 → ⊥) → (n ≡ 3 → ⊥) → (n ≡ 4 → ⊥) → (n ≡ 6 → ⊥) → (n ≡ 7 → ⊥) → (used place : ℕ) (p f : List ℕ)
    → pointer 0 used place p f ≡ pointer n used place p f
unfolding pointer
no_code n h2 h3 h4 h6 h7 used place p f = rw (ne_eqb n 2 h2, ne_eqb n 3 h3, ne_eqb n 4 h4, ne_eqb n 6 h6, ne_eqb n 7 h7)

module _ (c used place : ℕ) (p f l : List ℕ) where
  pub no_part : length l < 3 → l ≡ pointer_face c used place p f l
  unfolding pointer_face
  no_part h = rw (lt-ltb (length l) 3 h)

  part-noted : 3 ≤ length l → pointer_face c used place p f l ≡ spot c place (length (pointer c used place p f)) ++ drop 3 l
  unfolding pointer_face
  part-noted h = rw (le-ltb (length l) 3 h)

  pub empty-part : 3 ≤ length l → {n : ℕ} → n ≡ length (pointer c used place p f) → n ≡ 0 → {l' : List ℕ} → l' ≡ 0 ∷ 0 ∷ 0 ∷ drop 3 l → l' ≡ pointer_face c used place p f l
  unfolding spot
  empty-part h e z w = rw (part-noted h, sym e, z, w)

  pub whole_part : 3 ≤ length l → {n : ℕ} → n ≡ length (pointer c used place p f) → (n ≡ 0 → ⊥) → {w : ℕ} → cond (eqb c 6) 1 2 ≡ w → {l' : List ℕ}
      → l' ≡ w ∷ place ∷ n ∷ drop 3 l → l' ≡ pointer_face c used place p f l
  unfolding spot
  whole_part h {n} e z k w = rw (part-noted h, sym e, ne_eqb n 0 z, k, w)
