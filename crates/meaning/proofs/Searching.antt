-- The search finds the first assignment that fits.
use mathlib.Core.Path.{◌≡◌, refl, sym, ◌∙◌, ap, ap₂, subst}
use mathlib.Core.Bool.{true, false}
use mathlib.Core.Option.{Option, none, some}
use mathlib.Core.List.Memᴰ
use mathlib.Core.List.{List, [], ◌∷◌, ◌++◌, append_assoc, Memᴰ}
use mathlib.Core.Logic.{inl, inr}
use Prim.Native.Nat.{ℕ, zero, suc, ◌+◌, ◌≤◌, ◌<◌}
use native.Mathlib.Omega.{arith}
use lib.Dec.{T}
use lib.ListN.{length}
use Rattle.meaning.specs.Elements.{Element, is_symbol, same}
use Rattle.meaning.proofs.Truth.{never, is_true, is_false, see, is_none, is_some, see_o, T_true, true_T, same_eq, same_refl}
use Rattle.meaning.specs.Matching.{Terms, stop, symbol, bracket, Role, s_var, t_var, e_var, plain, role, Stands, Assignment, put, Fits, First, NoLater, level, fewer, alike, Way, way, push, push_all, Token, symb, opens, closes, other, token, past, fronts, exact, symbols, second, fresh, Env, free, bind, keep, known, first_of, seek, given}

-- t in front of each way
unfoldable pub prepend : List Element → List Way → List Way
prepend t [] = []
prepend t (way u s ∷ ws) = way (t ++ u) s ∷ prepend t ws

pub prepend_nil : (ws : List Way) → prepend [] ws ≡ ws
unfolding prepend
prepend_nil [] = refl
prepend_nil (way u s ∷ ws) = rw (prepend_nil ws)

pub push_prepend : (e : Element) (t : List Element) (ws : List Way) → push_all e (prepend t ws) ≡ prepend (e ∷ t) ws
unfolding prepend push_all push
push_prepend e t [] = refl
push_prepend e t (way u s ∷ ws) = rw (push_prepend e t ws)

prepend_push : (e : Element) (t : List Element) (ws : List Way) → prepend t (push_all e ws) ≡ prepend (t ++ (e ∷ [])) ws
unfolding prepend push_all push
prepend_push e t [] = refl
prepend_push e t (way u s ∷ ws) = rw (prepend_push e t ws, append_assoc t (e ∷ []) u)

pub prepend_prepend : (t u : List Element) (ws : List Way) → prepend t (prepend u ws) ≡ prepend (t ++ u) ws
unfolding prepend
prepend_prepend t u [] = refl
prepend_prepend t u (way v s ∷ ws) = rw (prepend_prepend t u ws, append_assoc t u v)

token_symbol : (e : Element) → T (is_symbol e) → token e ≡ symb
unfolding token
token_symbol e h = rw (T_true (is_symbol e) h)

-- how the fronts go past each token
fronts_symbol : (e : Element) (es : List Element) (d : ℕ) → T (is_symbol e) → fronts (e ∷ es) (suc d) ≡ push_all e (fronts es (suc d))
unfolding fronts past
fronts_symbol e es d h = rw (token_symbol e h)

fronts_open : (es : List Element) (d : ℕ) → fronts ((4 ∷ []) ∷ es) (suc d) ≡ push_all (4 ∷ []) (fronts es (suc (suc d)))
unfolding fronts past token same is_symbol
fronts_open es d = refl

fronts_close : (es : List Element) (d : ℕ) → fronts ((5 ∷ []) ∷ es) (suc d) ≡ push_all (5 ∷ []) (fronts es d)
unfolding fronts past token same is_symbol
fronts_close es d = refl

pub fronts_symbol₀ : (e : Element) (es : List Element) → T (is_symbol e) → fronts (e ∷ es) 0 ≡ way [] (e ∷ es) ∷ push_all e (fronts es 0)
unfolding fronts past
fronts_symbol₀ e es h = rw (token_symbol e h)

fronts_open₀ : (es : List Element) → fronts ((4 ∷ []) ∷ es) 0 ≡ way [] ((4 ∷ []) ∷ es) ∷ push_all (4 ∷ []) (fronts es 1)
unfolding fronts past token same is_symbol
fronts_open₀ es = refl

-- behind a run inside brackets
fronts-run : {m : ℕ} {xs : List Element} → Terms m xs → (ys : List Element) (d : ℕ) → fronts (xs ++ ys) (suc d) ≡ prepend xs (fronts ys (suc d))
fronts-run stop ys d = sym (prepend_nil (fronts ys (suc d)))
fronts-run (symbol {e} {es} h r) ys d = fronts_symbol e (es ++ ys) d h ∙ rw (fronts-run r ys d) (push_prepend e es _)
fronts-run (bracket {xs} {es} {zs} r q e) ys d =
    fronts_open (zs ++ ys) d ∙ rw (e, append_assoc, fronts-run r _ (suc d), fronts_close, fronts-run q ys d) (simp (push_prepend, prepend_prepend))

-- v is the way with n terms among the ways, of which the first has j
data Reach (v r : List Element) (n : ℕ) : ℕ → List Way → Type 0 where
  here : {j : ℕ} {w : Way} {ws : List Way} → j ≡ n → w ≡ way v r → Reach v r n j (w ∷ ws)
  skip : {j : ℕ} {u s : List Element} {ws : List Way} → Terms j u → Reach v r n (suc j) ws → Reach v r n j (way u s ∷ ws)

reach_prepend : (t : List Element) → ((i : ℕ) (u : List Element) → Terms i u → Terms (suc i) (t ++ u))
    → {v r : List Element} {n j : ℕ} {ws : List Way} → Reach v r n j ws → Reach (t ++ v) r (suc n) (suc j) (prepend t ws)
unfolding prepend
reach_prepend t f (here {w = way u s} p q) = here {w = way (t ++ u) s} (ap suc p) (cc)
reach_prepend t f (skip a b) = skip (f _ _ a) (reach_prepend t f b)

pub fronts_head : (r : List Element) → (ws : List Way) × (fronts r 0 ≡ way [] r ∷ ws)
unfolding fronts
fronts_head [] = ([], refl)
fronts_head (e ∷ es) = (_, refl)

pub push_one : (e : Element) (ws : List Way) → push_all e ws ≡ prepend (e ∷ []) ws
push_one e ws = ap (push_all e) (sym (prepend_nil ws)) ∙ push_prepend e [] ws

-- a term of brackets
unfoldable pub wrap : List Element → List Element
wrap xs = (4 ∷ []) ∷ (xs ++ ((5 ∷ []) ∷ []))

pub wrap_append : (xs es : List Element) → wrap xs ++ es ≡ (4 ∷ []) ∷ (xs ++ ((5 ∷ []) ∷ es))
unfolding wrap
wrap_append xs es = rw append_assoc

pub wrap_run : {m : ℕ} {xs : List Element} → Terms m xs → (i : ℕ) (u : List Element) → Terms i u → Terms (suc i) (wrap xs ++ u)
wrap_run {xs} p i u a = rw (wrap_append xs u) (bracket p a refl)

pub fronts_wrap : {m : ℕ} {xs : List Element} → Terms m xs → (r : List Element) → fronts (wrap xs ++ r) 0 ≡ way [] (wrap xs ++ r) ∷ prepend (wrap xs) (fronts r 0)
unfolding wrap
fronts_wrap {xs} p r = rw append_assoc (fronts_open₀ (xs ++ ((5 ∷ []) ∷ r)) ∙ rw (fronts-run p _ 0, fronts_close) (simp (push_prepend, prepend_push)))

fronts_reach : {n : ℕ} {v : List Element} → Terms n v → (r : List Element) → Reach v r n 0 (fronts (v ++ r) 0)
fronts_reach stop r = rw (fronts_head r).1 (here refl refl)
fronts_reach (symbol {e} {es} h q) r =
    rw (fronts_symbol₀ e (es ++ r) h, push_one) (skip stop (reach_prepend (e ∷ []) (λ i u a. symbol h a) (fronts_reach q r)))
fronts_reach (bracket {n} {xs} {es} {zs} p q e) r =
    subst (λ (v : List Element). Reach v r (suc n) 0 (fronts (v ++ r) 0)) (wrap_append xs es ∙ ap {B = List Element} (λ l. (4 ∷ []) ∷ l) (sym e))
    (rw (append_assoc (wrap xs) es r, fronts_wrap p (es ++ r)) (skip stop (reach_prepend (wrap xs) (wrap_run p) (fronts_reach q r))))

-- SOUND: each way is what it says ------------------------------------------

-- a front that closes d brackets and has n terms after them
unfoldable pub Closing : ℕ → ℕ → List Element → Type 0
Closing zero n v = Terms n v
Closing (suc d) n v = (m : ℕ) × (xs : List Element) × (es : List Element) × Terms m xs × Closing d n es × (v ≡ xs ++ ((5 ∷ []) ∷ es))

-- each way, the first of which has j terms at the end
pub data Sound (ys : List Element) (d : ℕ) : ℕ → List Way → Type 0 where
  done : {j : ℕ} → Sound ys d j []
  each : {j : ℕ} {v r : List Element} {ws : List Way} → Closing d j v → ys ≡ v ++ r → Sound ys d (suc j) ws → Sound ys d j (way v r ∷ ws)

sound_push : (e : Element) (ys : List Element) (d c : ℕ) (g : ℕ → ℕ) → ((n : ℕ) → g (suc n) ≡ suc (g n))
    → ((n : ℕ) (v : List Element) → Closing d n v → Closing c (g n) (e ∷ v))
    → {j : ℕ} {ws : List Way} → Sound ys d j ws → Sound (e ∷ ys) c (g j) (push_all e ws)
unfolding push_all push
sound_push e ys d c g gs f done = done
sound_push e ys d c g gs f (each {j} {v} {r} h q s) =
    each {v = e ∷ v} {r = r} (f j v h) (rw q) (rw gs at (sound_push e ys d c g gs f s))

-- one more symbol, bracket or close in front of a closing front
pub closing_symbol : (e : Element) → T (is_symbol e) → (d n : ℕ) (v : List Element) → Closing (suc d) n v → Closing (suc d) n (e ∷ v)
unfolding Closing
closing_symbol e h d n v (m, xs, es, r, c, q) = (suc m, e ∷ xs, es, symbol h r, c, rw q)

pub closing_open : (d n : ℕ) (v : List Element) → Closing (suc (suc d)) n v → Closing (suc d) n ((4 ∷ []) ∷ v)
unfolding Closing
closing_open d n v (m, xs, es, r, (m', ys, fs, r', c, q'), q) =
    (suc m', (4 ∷ []) ∷ (xs ++ ((5 ∷ []) ∷ ys)), fs, bracket r r' refl, c, rw (q, q', append_assoc))

pub closing_open₀ : (n : ℕ) (v : List Element) → Closing 1 n v → Closing 0 (suc n) ((4 ∷ []) ∷ v)
unfolding Closing
closing_open₀ n v (m, xs, es, r, c, q) = bracket r c q

pub closing_close : (d n : ℕ) (v : List Element) → Closing d n v → Closing (suc d) n ((5 ∷ []) ∷ v)
unfolding Closing
closing_close d n v c = (0, [], v, stop, c, refl)

data Kinded (e : Element) : Token → Type 0 where
  k_symbol : T (is_symbol e) → Kinded e symb
  k_open : e ≡ 4 ∷ [] → Kinded e opens
  k_close : e ≡ 5 ∷ [] → Kinded e closes
  k_other : Kinded e other

kinded : (e : Element) → Kinded e (token e)
unfolding token
kinded e =
    elim (see (is_symbol e)) [
      | is_true h ↦ rw h (k_symbol (true_T _ h))
      | is_false h ↦
          elim (see (same e (4 ∷ []))) [
            | is_true q ↦ rw (h, q) (k_open (same_eq _ _ q))
            | is_false q ↦
                elim (see (same e (5 ∷ []))) [ is_true w ↦ rw (h, q, w) (k_close (same_eq _ _ w)) | is_false w ↦ rw (h, q, w) k_other ]
          ]
    ]

module _ (e : Element) (es : List Element) (rest : ℕ → List Way) (ih : (d : ℕ) → Sound es d 0 (rest d)) where
  past_sound₀ : (t : Token) → Kinded e t → Sound (e ∷ es) 0 1 (past rest e t 0)
  unfolding past Closing
  past_sound₀ symb (k_symbol h) = sound_push e es 0 0 suc (λ n. refl) (λ n v c. symbol h c) (ih 0)
  past_sound₀ opens (k_open q) = sound_push e es 1 0 suc (λ n. refl) (rw q closing_open₀) (ih 1)
  past_sound₀ closes (k_close q) = done
  past_sound₀ other k_other = done

  past_sound : (d : ℕ) (t : Token) → Kinded e t → Sound (e ∷ es) (suc d) 0 (past rest e t (suc d))
  unfolding past
  past_sound d symb (k_symbol h) = sound_push e es (suc d) (suc d) (λ n. n) (λ n. refl) (closing_symbol e h d) (ih (suc d))
  past_sound d opens (k_open q) = sound_push e es (suc (suc d)) (suc d) (λ n. n) (λ n. refl) (rw q (closing_open d)) (ih (suc (suc d)))
  past_sound d closes (k_close q) = sound_push e es d (suc d) (λ n. n) (λ n. refl) (rw q (closing_close d)) (ih d)
  past_sound d other k_other = done

pub fronts_sound : (ys : List Element) (d : ℕ) → Sound ys d 0 (fronts ys d)
unfolding fronts Closing
fronts_sound [] zero = each stop refl done
fronts_sound [] (suc d) = done
fronts_sound (e ∷ es) zero = each stop refl (past_sound₀ e es (fronts es) (λ d. fronts_sound es d) (token e) (kinded e))
fronts_sound (e ∷ es) (suc d) = past_sound e es (fronts es) (λ d'. fronts_sound es d') d (token e) (kinded e)

-- THE WAYS OF ONE ELEMENT ---------------------------------------------------

-- each way has the property
pub data Each (P : List Element → List Element → Type 0) : List Way → Type 0 where
  none_left : Each P []
  one_more : {v r : List Element} {ws : List Way} → P v r → Each P ws → Each P (way v r ∷ ws)

-- a way of p at the front of xs, given what p stands for already
pub record Good (env : Env) (p : Element) (xs v r : List Element) : Type 0 where
  pub stands : Stands (role p) p v
  pub front : xs ≡ v ++ r
  pub agrees : (u : List Element) → env p ≡ some u → v ≡ u

-- the way v r, all before it having fewer terms
data Pos (p : Element) (v r : List Element) : List Way → Type 0 where
  here : {w : Way} {ws : List Way} → w ≡ way v r → Pos p v r (w ∷ ws)
  skip : {m n : ℕ} {u s : List Element} {ws : List Way} → role p ≡ e_var → Terms m u → Terms n v → m < n → Pos p v r ws → Pos p v r (way u s ∷ ws)

push_each : (P Q : List Element → List Element → Type 0) (e : Element) → ((v r : List Element) → P v r → Q (e ∷ v) r) → {ws : List Way} → Each P ws → Each Q (push_all e ws)
unfolding push_all push
push_each P Q e f none_left = none_left
push_each P Q e f (one_more h t) = one_more (f _ _ h) (push_each P Q e f t)

pub exact_each : (v xs : List Element) → Each (λ u r. (u ≡ v) × (xs ≡ v ++ r)) (exact v xs)
unfolding exact
exact_each [] ys = one_more (refl, refl) none_left
exact_each (x ∷ xs) [] = none_left
exact_each (x ∷ xs) (y ∷ ys) =
    elim (see (same x y)) [
      | is_true h ↦ rw (h, exact) (push_each _ _ x (λ v r (p, q). (ap {B = List Element} (λ l. x ∷ l) p, ap₂ {C = List Element} (λ a l. a ∷ l) (sym (same_eq x y h)) q)) (exact_each xs ys))
      | is_false h ↦ rw (h, exact) none_left
    ]

pub exact_here : (v r : List Element) → exact v (v ++ r) ≡ way v r ∷ []
unfolding exact push_all push
exact_here [] r = refl
exact_here (x ∷ xs) r = rw (same_refl x, exact) (rw (exact_here xs r))

each_map : (P Q : List Element → List Element → Type 0) → ((v r : List Element) → P v r → Q v r) → {ws : List Way} → Each P ws → Each Q ws
each_map P Q f none_left = none_left
each_map P Q f (one_more h t) = one_more (f _ _ h) (each_map P Q f t)

symbols_each : (xs : List Element) → Each (λ v r. Stands s_var [] v × (xs ≡ v ++ r)) (symbols xs)
unfolding symbols
symbols_each [] = none_left
symbols_each (e ∷ es) =
    elim (see (is_symbol e)) [ is_true h ↦ rw (h, symbols) (one_more ((e, true_T _ h, refl), refl) none_left) | is_false h ↦ rw (h, symbols) none_left ]

sound_each : {xs : List Element} {j : ℕ} {ws : List Way} → Sound xs 0 j ws → Each (λ v r. Stands e_var [] v × (xs ≡ v ++ r)) ws
unfolding Closing
sound_each done = none_left
sound_each (each {j} c q s) = one_more ((j, c), q) (sound_each s)

second_each : {xs : List Element} {ws : List Way} → Sound xs 0 0 ws → Each (λ v r. Terms 1 v × (xs ≡ v ++ r)) (second ws)
unfolding Closing second
second_each done = none_left
second_each (each c q done) = none_left
second_each (each c q (each c' q' s)) = one_more (c', q') none_left

pub fresh_each : (t : Role) (p : Element) (xs : List Element) → Each (λ v r. Stands t p v × (xs ≡ v ++ r)) (fresh t p xs)
unfolding fresh
fresh_each s_var p xs = symbols_each xs
fresh_each t_var p xs = second_each (fronts_sound xs 0)
fresh_each e_var p xs = sound_each (fronts_sound xs 0)
fresh_each plain p xs = each_map _ _ (λ v r (h, q). (h, rw h q)) (exact_each (p ∷ []) xs)

-- what is known stands
unfoldable pub Sure : Env → Type 0
Sure env = (w : Element) (u : List Element) → env w ≡ some u → Stands (role w) w u

pub known_each : (env : Env) (p : Element) (xs : List Element) → Sure env → Each (Good env p xs) (known (env p) p xs)
unfolding Sure known
known_each env p xs sure = go (env p) refl
  where
    go : (o : Option (List Element)) → env p ≡ o → Each (Good env p xs) (known o p xs)
    go none h = each_map _ _ (λ v r (s, q). record { stands = s; front = q; agrees = λ u k. never (cc) }) (fresh_each (role p) p xs)
    go (some u) h = each_map _ _ (λ v r (s, q). record { stands = rw s (sure p u h); front = rw s q; agrees = λ u' k. s ∙ cc }) (exact_each u xs)

-- FOUND: what fits is among the ways -----------------------------------------

reach_le : {v r : List Element} {n j : ℕ} {ws : List Way} → Reach v r n j ws → j ≤ n
reach_le (here p q) = omega arith
reach_le (skip a b) = let h = reach_le b in omega arith

reach_pos : (p : Element) → role p ≡ e_var → {v r : List Element} {n j : ℕ} {ws : List Way} → Terms n v → Reach v r n j ws → Pos p v r ws
reach_pos p e k (here q w) = here w
reach_pos p e k (skip a b) = skip e a k (reach_le b) (reach_pos p e k b)

reach_second : {v r : List Element} {ws : List Way} → Reach v r 1 0 ws → second ws ≡ way v r ∷ []
unfolding second
reach_second (here q w) = never q
reach_second (skip a (here q w)) = rw w
reach_second (skip a (skip b c)) = never (let h = reach_le c in omega arith)

-- a term at the front is the only one
pub second_term : {v : List Element} → Terms 1 v → (r : List Element) → second (fronts (v ++ r) 0) ≡ way v r ∷ []
second_term t r = reach_second (fronts_reach t r)

fresh_pos : (t : Role) (p : Element) (v r : List Element) → role p ≡ t → Stands t p v → Pos p v r (fresh t p (v ++ r))
unfolding fresh symbols
fresh_pos s_var p v r k (e, h, q) = rw (q, T_true (is_symbol e) h, symbols) (here refl)
fresh_pos t_var p v r k h = rw (reach_second (fronts_reach h r)) (here refl)
fresh_pos e_var p v r k (n, h) = reach_pos p k h (fronts_reach h r)
fresh_pos plain p v r k h = rw (h, exact_here (p ∷ []) r) (here refl)

known_pos : (o : Option (List Element)) (p : Element) (v r : List Element) → ((u : List Element) → o ≡ some u → v ≡ u) → Stands (role p) p v → Pos p v r (known o p (v ++ r))
unfolding known
known_pos none p v r a h = fresh_pos (role p) p v r refl h
known_pos (some u) p v r a h = rw (← a u refl, exact_here v r) (here refl)

-- THE ENVIRONMENT -------------------------------------------------------------

unfoldable pub Extends : Env → Env → Type 0
Extends env env' = (w : Element) (u : List Element) → env w ≡ some u → env' w ≡ some u

unfoldable pub Agree : Assignment → Env → Type 0
Agree a env = (w : Element) (u : List Element) → env w ≡ some u → a w ≡ u

bind-same : (p w : Element) (v : List Element) (env : Env) → same p w ≡ true → bind p v env w ≡ some v
unfolding bind
bind-same p w v env h = rw (h, bind)

bind_other : (p w : Element) (v : List Element) (env : Env) → same p w ≡ false → bind p v env w ≡ env w
unfolding bind
bind_other p w v env h = rw (h, bind)

-- a property of what is known, after one more
bind_all : (P : Element → List Element → Type 0) (p : Element) (v : List Element) (env : Env) → P p v
    → ((w : Element) (u : List Element) → env w ≡ some u → P w u) → (w : Element) (u : List Element) → bind p v env w ≡ some u → P w u
bind_all P p v env h all w u k =
    elim (see (same p w)) [
      | is_true s ↦ subst (λ (x : Element). P x u) (same_eq p w s) (subst (P p) (some_inj (sym (bind-same p w v env s) ∙ k)) h)
      | is_false s ↦ all w u (sym (bind_other p w v env s) ∙ k)
    ]
  where
    some_inj : some v ≡ some u → v ≡ u
    some_inj e = cc

keep_all : (t : Role) (P : Element → List Element → Type 0) (p : Element) (v : List Element) (env : Env) → P p v
    → ((w : Element) (u : List Element) → env w ≡ some u → P w u) → (w : Element) (u : List Element) → keep t p v env w ≡ some u → P w u
unfolding keep
keep_all s_var P p v env h all = bind_all P p v env h all
keep_all t_var P p v env h all = bind_all P p v env h all
keep_all e_var P p v env h all = bind_all P p v env h all
keep_all plain P p v env h all = all

extends_bind : (p : Element) (v : List Element) (env : Env) → ((u : List Element) → env p ≡ some u → v ≡ u) → Extends env (bind p v env)
unfolding Extends
extends_bind p v env a w u k =
    elim (see (same p w)) [
      | is_true s ↦ bind-same p w v env s ∙ ap some (a u (rw (same_eq p w s) k))
      | is_false s ↦ bind_other p w v env s ∙ k
    ]

extends_keep : (t : Role) (p : Element) (v : List Element) (env : Env) → ((u : List Element) → env p ≡ some u → v ≡ u) → Extends env (keep t p v env)
unfolding Extends keep
extends_keep s_var p v env a = extends_bind p v env a
extends_keep t_var p v env a = extends_bind p v env a
extends_keep e_var p v env a = extends_bind p v env a
extends_keep plain p v env a = λ w u k. k

given_some : (env : Env) (p : Element) (v : List Element) → env p ≡ some v → given env p ≡ v
unfolding given
given_some env p v h = rw (h, given)

pub given_plain : (env : Env) (p : Element) → ((u : List Element) → env p ≡ some u → u ≡ p ∷ []) → given env p ≡ p ∷ []
unfolding given
given_plain env p f = elim (see_o (env p)) [ is_none h ↦ rw (h, given) | is_some u h ↦ rw (h, given) (f u h) ]

-- what was kept stays
kept : (t : Role) (p : Element) (v : List Element) (env env' : Env) → Extends (keep t p v env) env' → ((u : List Element) → env' p ≡ some u → Stands t p u) → Stands t p v → given env' p ≡ v
unfolding Extends keep
kept s_var p v env env' x s h = given_some env' p v (x p v (bind-same p p v env (same_refl p)))
kept t_var p v env env' x s h = given_some env' p v (x p v (bind-same p p v env (same_refl p)))
kept e_var p v env env' x s h = given_some env' p v (x p v (bind-same p p v env (same_refl p)))
kept plain p v env env' x s h = given_plain env' p s ∙ sym h

-- THE SEARCH IS SOUND -------------------------------------------------------

pub data Fit (a : Assignment) : List Element → List Element → Type 0 where
  end : Fit a [] []
  next : {p : Element} {ps xs r : List Element} → Stands (role p) p (a p) → xs ≡ a p ++ r → Fit a ps r → Fit a (p ∷ ps) xs

pub record Result (ps xs : List Element) (env env' : Env) : Type 0 where
  pub sure : Sure env'
  pub extends : Extends env env'
  pub fit : Fit (given env') ps xs

first_of_sound : (P : List Element → List Element → Type 0) (k : List Element → Env → Option Env) (p : Element) (env env' : Env) {ws : List Way}
    → Each P ws → first_of k p env ws ≡ some env' → (v : List Element) × (r : List Element) × P v r × (k r (keep (role p) p v env) ≡ some env')
unfolding first_of
first_of_sound P k p env env' none_left h = never (cc)
first_of_sound P k p env env' (one_more {v} {r} g t) h =
    elim (see_o (k r (keep (role p) p v env))) [
      | is_none q ↦ first_of_sound P k p env env' t (rw (q, first_of) at h)
      | is_some x q ↦ (v, r, g, q ∙ (rw (q, first_of) at h))
    ]

pub seek_sound : (ps xs : List Element) (env env' : Env) → Sure env → seek ps xs env ≡ some env' → Result ps xs env env'
unfolding seek Extends Sure
seek_sound [] [] env env' s h =
    let e : env ≡ env' = cc in
    record { sure = rw e at s; extends = λ w u k. rw e at k; fit = end }
seek_sound [] (x ∷ xs) env env' s h = never (cc)
seek_sound (p ∷ ps) xs env env' s h =
    let (v, r, g, q) = first_of_sound _ (seek ps) p env env' (known_each env p xs s) h in
    let i = seek_sound ps r (keep (role p) p v env) env' (keep_all (role p) (λ w u. Stands (role w) w u) p v env g.stands s) q in
    let e : given env' p ≡ v = kept (role p) p v env env' i.extends (i.sure p) g.stands in
    record {
      sure = i.sure;
      extends = λ w u k. i.extends w u (extends_keep (role p) p v env g.agrees w u k);
      fit = next {p = p} {xs = xs} {r = r} (rw e g.stands) (rw e g.front) i.fit;
    }

keep_self : (t : Role) (p : Element) (v : List Element) (env : Env) → (t ≡ plain → ⊥) → keep t p v env p ≡ some v
unfolding keep
keep_self s_var p v env h = bind-same p p v env (same_refl p)
keep_self t_var p v env h = bind-same p p v env (same_refl p)
keep_self e_var p v env h = bind-same p p v env (same_refl p)
keep_self plain p v env h = absurd (h refl)

-- it gives a value to every variable
pub seek_binds : (ps xs : List Element) (env env' : Env) → Sure env → seek ps xs env ≡ some env' → (p : Element) → Memᴰ p ps → (role p ≡ plain → ⊥)
    → (u : List Element) × (env' p ≡ some u)
unfolding seek Extends Sure
seek_binds [] xs env env' s h p m n = absurd (Memᴰ.not-nil m)
seek_binds (p₀ ∷ ps) xs env env' s h p m n =
    let (v, r, g, q) = first_of_sound _ (seek ps) p₀ env env' (known_each env p₀ xs s) h in
    let s' = keep_all (role p₀) (λ w u. Stands (role w) w u) p₀ v env g.stands s in
    let i = seek_sound ps r (keep (role p₀) p₀ v env) env' s' q in
    elim (Memᴰ.cases_cons m) [
      | inl e ↦ (v, rw e (i.extends p₀ v (keep_self (role p₀) p₀ v env (rw e at n))))
      | inr m' ↦ seek_binds ps r (keep (role p₀) p₀ v env) env' s' q p m' n
    ]

-- THE SEARCH FINDS, AND FINDS THE FIRST ---------------------------------------

module _ (a : Assignment) (ps : List Element) (p : Element) (env : Env) (sure : Sure env) (r : List Element) (xs : List Element)
    (found : (env' : Env) × (seek ps r (keep (role p) p (a p) env) ≡ some env') × NoLater (given env') a ps) where
  run_both : {v w : List Element} (t : Role) → t ≡ e_var → Stands t p v → w ≡ v → v ≡ a p → (n : ℕ) × Terms n w × Terms n (a p)
  run_both s_var k h e q = never (cc)
  run_both t_var k h e q = never (cc)
  run_both e_var k (n, h) e q = (n, rw e h, rw q at h)
  run_both plain k h e q = never (cc)

  first_of_first : {ws : List Way} → Each (Good env p xs) ws → Pos p (a p) r ws
      → (env' : Env) × (first_of (seek ps) p env ws ≡ some env') × NoLater (given env') a (p ∷ ps)
  unfolding first_of Extends Sure
  first_of_first none_left w = elim w [ ]
  first_of_first (one_more {v} {r = s} g t) (here w) =
      let (env', q, n) = found in
      let ev : v ≡ a p = cc in
      let q' : seek ps s (keep (role p) p v env) ≡ some env' = cc in
      let i = seek_sound ps s (keep (role p) p v env) env' (keep_all (role p) (λ w u. Stands (role w) w u) p v env g.stands sure) q' in
      let e : given env' p ≡ v = kept (role p) p v env env' i.extends (i.sure p) g.stands in
      (env', rw (q', first_of), alike (λ k. run_both (role p) k g.stands (e) ev) n)
  first_of_first (one_more {v} {r = s} {ws} g t) (skip {m} k ru rv l rest) =
      elim (see_o (seek ps s (keep (role p) p v env))) [
        | is_none q ↦ rw (q, first_of) (first_of_first t rest)
        | is_some env' q ↦
            let i = seek_sound ps s (keep (role p) p v env) env' (keep_all (role p) (λ w u. Stands (role w) w u) p v env g.stands sure) q in
            let e : given env' p ≡ v = kept (role p) p v env env' i.extends (i.sure p) g.stands in
            (env', rw (q, first_of), fewer {m = m} k (rw e ru) rv l)
      ]

pub seek_first : (ps xs : List Element) (env : Env) (a : Assignment) → Sure env → Agree a env → Fit a ps xs
    → (env' : Env) × (seek ps xs env ≡ some env') × NoLater (given env') a ps
unfolding seek Agree Sure
seek_first [] xs env a s g end = (env, refl, level)
seek_first (p ∷ ps) xs env a s g (next {r} h q f) =
    first_of_first a ps p env s r xs
    (seek_first ps r (keep (role p) p (a p) env) a (keep_all (role p) (λ w u. Stands (role w) w u) p (a p) env h s) (keep_all (role p) (λ w u. a w ≡ u) p (a p) env refl g) f)
    (known_each env p xs s) (rw q (known_pos (env p) p (a p) r (g p) h))

-- FOR READERS -----------------------------------------------------------------

pub fit_put : {a : Assignment} {side arg : List Element} → Fit a side arg → put a side ≡ arg
unfolding put
fit_put end = refl
fit_put (next h q f) = rw (fit_put f) (sym q)

fit_each : {a : Assignment} {side arg : List Element} → Fit a side arg → (p : Element) → Memᴰ p side → Stands (role p) p (a p)
fit_each {a = a} end p m = elim m [ ]
fit_each (next h q f) p (Memᴰ.head e) = rw e h
fit_each (next h q f) p (Memᴰ.tail m) = fit_each f p m

fits_fit : (a : Assignment) (side : List Element) → ((p : Element) → Memᴰ p side → Stands (role p) p (a p)) → Fit a side (put a side)
unfolding put
fits_fit a [] h = end
fits_fit a (p ∷ ps) h = next (h p (Memᴰ.head refl)) refl (fits_fit a ps (λ q m. h q (Memᴰ.tail m)))

pub sure_free : Sure free
unfolding Sure free
sure_free w u h = never (cc)

agree_free : (a : Assignment) → Agree a free
unfolding Agree free
agree_free a w u h = never (cc)

-- what the search finds is the first assignment that fits
pub found : (side arg : List Element) (env : Env) → seek side arg free ≡ some env → First (given env) side arg
found side arg env h = record {
  fits =
      let r = seek_sound side arg free env sure_free h in
      record { each = fit_each r.fit; exactly = fit_put r.fit };
  first = λ b w.
      let f : Fit b side arg = rw w.exactly at (fits_fit b side w.each) in
      let (env', q, n) = seek_first side arg free b sure_free (agree_free b) f in
      let e : env ≡ env' = cc in
      rw e n;
}

-- where it finds none, none fits
pub lost : (side arg : List Element) → seek side arg free ≡ none → (a : Assignment) → Fits a side arg → ⊥
lost side arg h a w =
    let f : Fit a side arg = rw w.exactly at (fits_fit a side w.each) in
    let (env', q, n) = seek_first side arg free a sure_free (agree_free a) f in
    never (cc)

-- what is no variable stands for itself
pub given_itself : (side arg : List Element) (env : Env) → seek side arg free ≡ some env → (e : Element) → role e ≡ plain → given env e ≡ e ∷ []
unfolding Sure
given_itself side arg env h e k = given_plain env e (λ u q. rw k at ((seek_sound side arg free env sure_free h).sure e u q))

-- AT MOST ONE IS FIRST --------------------------------------------------------

length_prepend : (t : List Element) (ws : List Way) → length (prepend t ws) ≡ length ws
unfolding prepend
length_prepend t [] = refl
length_prepend t (way u s ∷ ws) = ap suc (length_prepend t ws)

run_count : {n : ℕ} {v : List Element} → Terms n v → (r : List Element) → length (fronts (v ++ r) 0) ≡ n + length (fronts r 0)
run_count stop r = omega arith
run_count (symbol {e} {es} h q) r =
    let i = run_count q r in
    rw (fronts_symbol₀ e (es ++ r) h, push_one, length_prepend) (omega arith)
run_count (bracket {n} {xs} {es} {zs} p q e) r =
    let i = run_count q r in
    subst (λ (v : List Element). length (fronts (v ++ r) 0) ≡ suc n + length (fronts r 0)) (wrap_append xs es ∙ ap {B = List Element} (λ l. (4 ∷ []) ∷ l) (sym e))
    (rw (append_assoc (wrap xs) es r, fronts_wrap p (es ++ r), length_prepend) (omega arith))

-- a list is a run of one number of terms
pub run_one : {m n : ℕ} {v : List Element} → Terms m v → Terms n v → m ≡ n
run_one {v} p q = let a = run_count p [] in let b = run_count q [] in omega arith

reach_one : {u r v s : List Element} {n j : ℕ} {ws : List Way} → Reach u r n j ws → Reach v s n j ws → u ≡ v
reach_one (here p q) (here p' q') = cc
reach_one (here p q) (skip a b) = never (let h = reach_le b in omega arith)
reach_one (skip a b) (here p q) = never (let h = reach_le b in omega arith)
reach_one (skip a b) (skip a' b') = reach_one b b'

-- and at the front of a list there is one run of n terms
pub run-front : {n : ℕ} {u v : List Element} (r s : List Element) → Terms n u → Terms n v → u ++ r ≡ v ++ s → u ≡ v
run-front {n} {u} {v} r s p q e = reach_one (fronts_reach p r) (subst (λ (l : List Element). Reach v s n 0 (fronts l 0)) (sym e) (fronts_reach q s))

append_cancel : (v r s : List Element) → v ++ r ≡ v ++ s → r ≡ s
append_cancel [] r s e = e
append_cancel (x ∷ v) r s e = append_cancel v r s (cc)

-- equal numbers of terms at an e-variable, equal fronts
same-front : (t : Role) (p : Element) (u v r s : List Element) → role p ≡ t → Stands t p u → Stands t p v → u ++ r ≡ v ++ s
    → (role p ≡ e_var → (n : ℕ) × Terms n u × Terms n v) → u ≡ v
same-front s_var p u v r s k (x, h, q) (y, h', q') e f = (let z : (x ∷ []) ++ r ≡ (y ∷ []) ++ s = rw (q, q') at e in cc)
same-front t_var p u v r s k h h' e f = run-front r s h h' e
same-front e_var p u v r s k h h' e f = (let (n, a, b) = f k in run-front r s a b e)
same-front plain p u v r s k h h' e f = cc

both : (a b : Assignment) (ps xs ys : List Element) → xs ≡ ys → Fit a ps xs → Fit b ps ys → NoLater a b ps → NoLater b a ps → (p : Element) → Memᴰ p ps → a p ≡ b p
both a b [] xs ys e _ _ _ _ p m = elim m [ ]
both a b (q ∷ ps) xs ys e (next {r} h w f) (next {r = s} h' w' f') (fewer k ra rb l) (fewer k' rb' ra' l') p m =
    never (let i = run_one ra ra' in let j = run_one rb rb' in omega arith)
both a b (q ∷ ps) xs ys e (next {r} h w f) (next {r = s} h' w' f') (fewer k ra rb l) (alike g n) p m =
    never (let (c, rb', ra') = g k in let i = run_one ra ra' in let j = run_one rb rb' in omega arith)
both a b (q ∷ ps) xs ys e (next {r} h w f) (next {r = s} h' w' f') (alike g n) (fewer k rb ra l) p m =
    never (let (c, ra', rb') = g k in let i = run_one ra ra' in let j = run_one rb rb' in omega arith)
both a b (q ∷ ps) xs ys e (next {r} h w f) (next {r = s} h' w' f') (alike g n) (alike g' n') p m =
    let z : a q ++ r ≡ b q ++ s = sym w ∙ e ∙ w' in
    let i : a q ≡ b q = same-front (role q) q (a q) (b q) r s refl h h' z g in
    let j : r ≡ s = append_cancel (a q) r s (z ∙ ap (λ (v : List Element). v ++ s) (sym i)) in
    elim (Memᴰ.cases_cons m) [ inl x ↦ rw x i | inr m' ↦ both a b ps r s j f f' n n' p m' ]

-- at most one assignment is first
pub only_one : (a b : Assignment) (side arg : List Element) → First a side arg → First b side arg → (p : Element) → Memᴰ p side → a p ≡ b p
only_one a b side arg fa fb =
    both a b side (put a side) (put b side) (fa.fits.exactly ∙ sym fb.fits.exactly) (fits_fit a side fa.fits.each) (fits_fit b side fb.fits.each)
    (fa.first b fb.fits) (fb.first a fa.fits)
