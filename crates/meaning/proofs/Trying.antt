-- The search as a program makes it: one way where there is only one, and an e-variable's lengths one term after the other.
use mathlib.Core.Path.{◌≡◌, refl, sym, ◌∙◌, ap, subst}
use mathlib.Core.Option.{Option, none, some}
use mathlib.Core.List.{List, [], ◌∷◌, ◌++◌, append_assoc, append-nil}
use Prim.Native.Nat.{ℕ}
use lib.Dec.{T}
use Rattle.meaning.specs.Elements.{Element, is_symbol}
use Rattle.meaning.specs.Matching.{Terms, stop, symbol, bracket, role, Way, way, symbols, fronts, Env, keep, first_of, seek}
use Rattle.meaning.proofs.Truth.{never, is_none, is_some, see_o, T_true}
use Rattle.meaning.proofs.Searching.{prepend, prepend_nil, prepend_prepend, push_one, fronts_symbol₀, fronts_head, wrap, wrap_append, wrap_run, fronts_wrap, Closing, Sound, done, each, fronts_sound, Each, none_left, one_more}

-- ONE WAY, OR NONE

pub no_way : {P : List Element → List Element → Type 0} {ws : List Way} → Each P ws → ((v r : List Element) → P v r → ⊥) → ws ≡ []
no_way none_left f = refl
no_way (one_more {v} {r} p t) f = absurd (f v r p)

pub symbol_way : (e : Element) (es : List Element) → T (is_symbol e) → symbols (e ∷ es) ≡ way (e ∷ []) es ∷ []
unfolding symbols
symbol_way e es t = rw (T_true (is_symbol e) t, symbols)

module _ (k : List Element → Env → Option Env) (p : Element) (env : Env) where
  pub first_none : first_of k p env [] ≡ none
  unfolding first_of
  first_none = refl

  pub first_one : (v r : List Element) → first_of k p env (way v r ∷ []) ≡ k r (keep (role p) p v env)
  unfolding first_of
  first_one v r = elim (see_o (k r (keep (role p) p v env))) [ is_none h ↦ rw (h, first_of) | is_some x h ↦ rw (h, first_of) ]

-- LENGTH AFTER LENGTH

unfoldable pub or_else : Option Env → Option Env → Option Env
or_else none y = y
or_else (some x) y = some x

-- v is taken already, r is left
unfoldable pub tries : (List Element → Env → Option Env) → Element → Env → List Element → List Element → Option Env
tries k p env v r = first_of k p env (prepend v (fronts r 0))

wrapped : (xs es : List Element) {zs : List Element} → zs ≡ xs ++ ((5 ∷ []) ∷ es) → wrap xs ++ es ≡ (4 ∷ []) ∷ zs
wrapped xs es e = wrap_append xs es ∙ ap {B = List Element} (λ l. (4 ∷ []) ∷ l) (sym e)

fronts_term : {t : List Element} → Terms 1 t → (r : List Element) → fronts (t ++ r) 0 ≡ way [] (t ++ r) ∷ prepend t (fronts r 0)
fronts_term (symbol {e} h stop) r = fronts_symbol₀ e r h ∙ rw push_one
fronts_term (bracket {xs} q stop e) r =
    subst (λ (v : List Element). fronts (v ++ r) 0 ≡ way [] (v ++ r) ∷ prepend v (fronts r 0)) (sym (append-nil (wrap xs)) ∙ wrapped xs [] e) (fronts_wrap q r)

-- where no term stands at the front, only the empty front is a run of terms
fronts_stop : (r : List Element) → ((v s : List Element) → Terms 1 v → r ≡ v ++ s → ⊥) → fronts r 0 ≡ way [] r ∷ []
unfolding Closing
fronts_stop r f =
    let (ws, e) = fronts_head r in
    e ∙ ap {B = List Way} (λ l. way [] r ∷ l) (go (rw e at (fronts_sound r 0)))
  where
    go : {ws : List Way} → Sound r 0 0 (way [] r ∷ ws) → ws ≡ []
    go (each c q done) = refl
    go (each c q (each {v} {r = s} c' q' t)) = absurd (f v s c' q')

module _ (k : List Element → Env → Option Env) (p : Element) (env : Env) where
  pub tries_start : (r : List Element) → first_of k p env (fronts r 0) ≡ tries k p env [] r
  unfolding tries
  tries_start r = rw (prepend_nil (fronts r 0))

  first_more : (v r : List Element) (ws : List Way) → first_of k p env (way v r ∷ ws) ≡ or_else (k r (keep (role p) p v env)) (first_of k p env ws)
  unfolding first_of or_else
  first_more v r ws = elim (see_o (k r (keep (role p) p v env))) [ is_none h ↦ rw (h, first_of) | is_some x h ↦ rw (h, first_of) ]

  pub tries_term : (v r : List Element) {t : List Element} → Terms 1 t
      → tries k p env v (t ++ r) ≡ or_else (k (t ++ r) (keep (role p) p v env)) (tries k p env (v ++ t) r)
  unfolding tries prepend
  tries_term v r {t} h = rw (fronts_term h r) (first_more (v ++ []) (t ++ r) _ ∙ rw (append-nil v, prepend_prepend v t (fronts r 0)))

  pub tries_stop : (v r : List Element) → ((u s : List Element) → Terms 1 u → r ≡ u ++ s → ⊥) → tries k p env v r ≡ or_else (k r (keep (role p) p v env)) none
  unfolding tries prepend
  tries_stop v r f = rw (fronts_stop r f) (first_more (v ++ []) r [] ∙ rw (append-nil v, first_none k p env))

  -- the shortest length goes through
  pub tries_first : (v r : List Element) {x : Env} → k r (keep (role p) p v env) ≡ some x → tries k p env v r ≡ some x
  unfolding tries prepend or_else
  tries_first v r h = let (ws, e) = fronts_head r in rw e (first_more (v ++ []) r (prepend v ws) ∙ rw (append-nil v, h))

  pub tries_next : (y : Option Env) {o : Option Env} → o ≡ none → or_else o y ≡ y
  unfolding or_else
  tries_next y e = rw e

-- an e-variable that is last takes what is left
pub last_takes_all : (p : Element) (env : Env) (v : List Element) {n : ℕ} {xs : List Element} → Terms n xs
    → tries (seek []) p env v xs ≡ some (keep (role p) p (v ++ xs) env)
unfolding seek or_else
last_takes_all p env v stop = tries_stop (seek []) p env v [] (λ u s t e. absurd (nothing u s t e)) ∙ rw (append-nil v)
  where
    nothing : (u s : List Element) → Terms 1 u → [] ≡ u ++ s → ⊥
    nothing u s (symbol h r) e = never (cc)
    nothing u s (bracket q r e') e = never (cc)
last_takes_all p env v (symbol {e} {es} h r) =
    tries_term (seek []) p env v es (symbol h stop) ∙ last_takes_all p env (v ++ (e ∷ [])) r ∙ rw (append_assoc v (e ∷ []) es)
last_takes_all p env v (bracket {xs} {es} {zs} q r e) =
    subst (λ (l : List Element). tries (seek []) p env v l ≡ some (keep (role p) p (v ++ l) env)) (wrapped xs es e)
    (tries_term (seek []) p env v es (rw append-nil at (wrap_run q 0 [] stop)) ∙ nothing_left ∙ last_takes_all p env (v ++ wrap xs) r ∙ rw (append_assoc v (wrap xs) es))
  where
    nothing_left : or_else (seek [] (wrap xs ++ es) (keep (role p) p v env)) (tries (seek []) p env (v ++ wrap xs) es) ≡ tries (seek []) p env (v ++ wrap xs) es
    nothing_left = unfold wrap in refl
