-- The table as an environment.
use mathlib.Core.Path.{◌≡◌, refl, sym, ◌∙◌, ap, fun_ext}
use mathlib.Core.Bool.{Bool, true, false, ◌&&◌}
use mathlib.Core.Option.{none, some}
use mathlib.Core.List.{List, [], ◌∷◌}
use Prim.Native.Nat.{ℕ, ◌+◌, ◌-◌, ◌≤◌, ◌<◌}
use native.Mathlib.Omega.{arith}
use lib.ListN.{length, get_or, take, drop, set, length-set}
use lib.Seq.{get_or-set_same, get_or-set_other}
use lib.Dec.{eqb, leb}
use borrow.Author.Tests.{leb-true, le-leb, eqb-true, eqb-false}
use Rattle.meaning.specs.Elements.{elements, same, is_variable}
use Rattle.meaning.specs.Matching.{role, Stands, Env, free, bind}
use Rattle.meaning.proofs.Truth.{never, is_true, is_false, see, and_left, and_right, and_false, same_eq, same_refl}
use Rattle.meaning.proofs.Searching.{Sure}
use Rattle.elements.specs.Reading.{Proper}
use Rattle.kinds.specs.Slots.{slot_of, within, joined, value_of}
use Rattle.kinds.proofs.Sets.{none_within, within_same, within_other}
use Rattle.settling.specs.Values.{pick, env_of, Variable, Held, Table, Kept, noting}

pub slot_small : {k n : ℕ} → Variable k n → slot_of k n < 48
slot_small v = let a = v.low in let b = v.high in let c = v.small in omega arith

slot_apart : (k n x y : ℕ) → Variable k n → Variable x y → slot_of k n ≡ slot_of x y → (k ≡ x) × (n ≡ y)
slot_apart k n x y v w e =
    let a = v.low in let b = v.high in let c = v.small in let a' = w.low in let b' = w.high in let c' = w.small in
    (omega arith, omega arith)

-- WHAT THE ENVIRONMENT HOLDS

unfoldable named : ℕ → ℕ → Bool
named k n = leb 8 k && leb k 10 && leb n 15

is_named : {k n : ℕ} → Variable k n → named k n ≡ true
unfolding named
is_named {k} {n} v = rw (le-leb 8 k v.low, le-leb k 10 v.high, le-leb n 15 v.small)

of_named : (k n : ℕ) → named k n ≡ true → Variable k n
unfolding named
of_named k n h = record {
  low = leb-true 8 k (and_left (leb 8 k) (leb k 10) (and_left (leb 8 k && leb k 10) _ h));
  high = leb-true k 10 (and_right (leb 8 k) (leb k 10) (and_left (leb 8 k && leb k 10) _ h));
  small = leb-true n 15 (and_right (leb 8 k && leb k 10) _ h);
}

env_two : (arg b : List ℕ) (m k n : ℕ) → env_of arg b m (k ∷ n ∷ []) ≡ pick (named k n && within m (slot_of k n)) (elements (value_of arg b (slot_of k n)))
unfolding env_of named
env_two arg b m k n = refl

pub env_settled : (arg b : List ℕ) (m : ℕ) {k n : ℕ} → Variable k n → within m (slot_of k n) ≡ true → env_of arg b m (k ∷ n ∷ []) ≡ some (elements (value_of arg b (slot_of k n)))
env_settled arg b m {k} {n} v h = env_two arg b m k n ∙ rw (is_named v, h)

pub env_open : (arg b : List ℕ) (m : ℕ) {k n : ℕ} → Variable k n → within m (slot_of k n) ≡ false → env_of arg b m (k ∷ n ∷ []) ≡ none
env_open arg b m {k} {n} v h = env_two arg b m k n ∙ rw (is_named v, h)

env_other : (arg b : List ℕ) (m k n : ℕ) → named k n ≡ false → env_of arg b m (k ∷ n ∷ []) ≡ none
env_other arg b m k n h = env_two arg b m k n ∙ rw h

-- an element that is no variable has no value
pub env_fixed : (arg b : List ℕ) (m : ℕ) (e : List ℕ) → is_variable e ≡ false → env_of arg b m e ≡ none
unfolding env_of is_variable
env_fixed arg b m [] h = refl
env_fixed arg b m (k ∷ []) h = refl
env_fixed arg b m (k ∷ n ∷ []) h = rw h
env_fixed arg b m (k ∷ n ∷ x ∷ w) h = refl

-- two tables that agree on the settled slots are one environment
pub env_same : (arg b b' : List ℕ) (m : ℕ) → Kept m b b' → env_of arg b' m ≡ env_of arg b m
unfolding env_of value_of
env_same arg b b' m q = fun_ext go
  where
    at_two : (k n : ℕ) → env_of arg b' m (k ∷ n ∷ []) ≡ env_of arg b m (k ∷ n ∷ [])
    at_two k n =
        elim (see (named k n)) [
          | is_false z ↦ env_other arg b' m k n z ∙ sym (env_other arg b m k n z)
          | is_true z ↦
              let v = of_named k n z in
              elim (see (within m (slot_of k n))) [
                | is_false w ↦ env_open arg b' m v w ∙ sym (env_open arg b m v w)
                | is_true w ↦ env_settled arg b' m v w ∙ rw (q.from (slot_of k n) (slot_small v) w, q.to (slot_of k n) (slot_small v) w) (sym (env_settled arg b m v w))
              ]
        ]

    go : (w : List ℕ) → env_of arg b' m w ≡ env_of arg b m w
    go [] = refl
    go (k ∷ []) = refl
    go (k ∷ n ∷ []) = at_two k n
    go (k ∷ n ∷ x ∷ w) = refl

pub env_free : (arg b : List ℕ) → env_of arg b 0 ≡ free
unfolding env_of free
env_free arg b = fun_ext go
  where
    go : (w : List ℕ) → env_of arg b 0 w ≡ none
    go [] = refl
    go (k ∷ []) = refl
    go (k ∷ n ∷ []) = rw (none_within (slot_of k n)) (rw and_false)
    go (k ∷ n ∷ x ∷ w) = refl

pub bind_yes : (p w : List ℕ) (v : List (List ℕ)) (env : Env) → same p w ≡ true → bind p v env w ≡ some v
unfolding bind
bind_yes p w v env h = rw (h, bind)

pub bind_no : (p w : List ℕ) (v : List (List ℕ)) (env : Env) → same p w ≡ false → bind p v env w ≡ env w
unfolding bind
bind_no p w v env h = rw (h, bind)

-- a variable bound again to its own value
pub bind_again : (p : List ℕ) (v : List (List ℕ)) (env : Env) → env p ≡ some v → bind p v env ≡ env
bind_again p v env h = fun_ext (λ w.
    elim (see (same p w)) [
      | is_true z ↦ bind_yes p w v env z ∙ sym h ∙ ap env (same_eq p w z)
      | is_false z ↦ bind_no p w v env z
    ])

-- A VALUE NOTED

module _ (b : List ℕ) (slot f t : ℕ) (long : length b ≡ 96) (small : slot < 48) where
  pub noting-length : length (noting b slot f t) ≡ 96
  unfolding noting
  noting-length = simp length-set long

  pub noting_from : get_or (noting b slot f t) slot 0 ≡ f
  unfolding noting
  noting_from = get_or-set_other (set b slot f) (slot + 48) slot t 0 (omega arith) ∙ get_or-set_same b slot f 0 (omega arith)

  pub noting_to : get_or (noting b slot f t) (slot + 48) 0 ≡ t
  unfolding noting
  noting_to = get_or-set_same (set b slot f) (slot + 48) t 0 (rw length-set (omega arith))

  pub noting_other : (v : ℕ) → (v ≡ slot → ⊥) → (v ≡ slot + 48 → ⊥) → get_or (noting b slot f t) v 0 ≡ get_or b v 0
  unfolding noting
  noting_other v h i = get_or-set_other (set b slot f) (slot + 48) v t 0 i ∙ get_or-set_other b slot v f 0 h

  pub noting-kept : (m : ℕ) → within m slot ≡ false → Kept m b (noting b slot f t)
  noting-kept m h = record {
    long = noting-length ∙ sym long;
    from = λ v l w. noting_other v (λ q. never (let z : true ≡ false = sym w ∙ rw q h in cc)) (omega arith);
    to = λ v l w. noting_other (v + 48) (omega arith) (λ q. never (let e : v ≡ slot = omega arith in let z : true ≡ false = sym w ∙ rw e h in cc));
  }

module _ (arg b : List ℕ) (m k n f t : ℕ) (v : Variable k n) (long : length b ≡ 96) where
  value_here : value_of arg (noting b (slot_of k n) f t) (slot_of k n) ≡ take (t - f) (drop f arg)
  unfolding value_of
  value_here = rw (noting_from b (slot_of k n) f t long (slot_small v), noting_to b (slot_of k n) f t long (slot_small v))

  value_other : (x y : ℕ) → Variable x y → (slot_of x y ≡ slot_of k n → ⊥) → value_of arg (noting b (slot_of k n) f t) (slot_of x y) ≡ value_of arg b (slot_of x y)
  unfolding value_of
  value_other x y w d =
      let h = slot_small w in
      let g = slot_small v in
      rw (noting_other b (slot_of k n) f t long g (slot_of x y) d (omega arith), noting_other b (slot_of k n) f t long g (slot_of x y + 48) (omega arith) (λ q. d (omega arith)))

  -- is binding it
  pub bind-noted : env_of arg (noting b (slot_of k n) f t) (joined m (slot_of k n)) ≡ bind (k ∷ n ∷ []) (elements (take (t - f) (drop f arg))) (env_of arg b m)
  unfolding env_of bind same
  bind-noted = fun_ext go
    where
      apart : (x y : ℕ) → same (k ∷ n ∷ []) (x ∷ y ∷ []) ≡ false → env_of arg (noting b (slot_of k n) f t) (joined m (slot_of k n)) (x ∷ y ∷ []) ≡ env_of arg b m (x ∷ y ∷ [])
      apart x y z =
          elim (see (named x y)) [
            | is_false o ↦ env_other arg (noting b (slot_of k n) f t) _ x y o ∙ sym (env_other arg b m x y o)
            | is_true o ↦
                let w : Variable x y = of_named x y o in
                let d : slot_of x y ≡ slot_of k n → ⊥ = λ q. never (let (i, j) = slot_apart x y k n w v q in let e : same (k ∷ n ∷ []) (x ∷ y ∷ []) ≡ true = rw (i, j) (same_refl (k ∷ n ∷ [])) in cc) in
                env_two arg (noting b (slot_of k n) f t) _ x y ∙ rw (within_other m (slot_of x y) (slot_of k n) d, value_other x y w d) (sym (env_two arg b m x y))
          ]

      at_two : (x y : ℕ) → env_of arg (noting b (slot_of k n) f t) (joined m (slot_of k n)) (x ∷ y ∷ []) ≡ bind (k ∷ n ∷ []) (elements (take (t - f) (drop f arg))) (env_of arg b m) (x ∷ y ∷ [])
      at_two x y =
          elim (see (same (k ∷ n ∷ []) (x ∷ y ∷ []))) [
            | is_true z ↦
                let q : (k ∷ n ∷ []) ≡ (x ∷ y ∷ []) = same_eq _ _ z in
                let h : env_of arg (noting b (slot_of k n) f t) (joined m (slot_of k n)) (k ∷ n ∷ []) ≡ some (elements (take (t - f) (drop f arg))) =
                (env_settled arg (noting b (slot_of k n) f t) _ v (within_same m (slot_of k n)) ∙ rw value_here) in
                ap (env_of arg (noting b (slot_of k n) f t) (joined m (slot_of k n))) (sym q) ∙ h ∙ sym (bind_yes (k ∷ n ∷ []) (x ∷ y ∷ []) _ (env_of arg b m) z)
            | is_false z ↦ apart x y z ∙ sym (bind_no (k ∷ n ∷ []) (x ∷ y ∷ []) (elements (take (t - f) (drop f arg))) (env_of arg b m) z)
          ]

      go : (w : List ℕ) → env_of arg (noting b (slot_of k n) f t) (joined m (slot_of k n)) w ≡ bind (k ∷ n ∷ []) (elements (take (t - f) (drop f arg))) (env_of arg b m) w
      go [] = refl
      go (x ∷ []) = rw (and_false (eqb k x), bind)
      go (x ∷ y ∷ []) = at_two x y
      go (x ∷ y ∷ z ∷ w) = rw (and_false (eqb n y), and_false (eqb k x), bind)

  -- the table stays one
  pub table_noted : Table arg b m → f ≤ t → t ≤ length arg → Stands (role (k ∷ n ∷ [])) (k ∷ n ∷ []) (elements (take (t - f) (drop f arg)))
      → Proper (elements (take (t - f) (drop f arg))) → Table arg (noting b (slot_of k n) f t) (joined m (slot_of k n))
  table_noted q l h s p = record {
    long = noting-length b (slot_of k n) f t long (slot_small v);
    held = λ x y w i.
        elim (see (eqb (slot_of x y) (slot_of k n))) [
          | is_true z ↦ (let (ex, ey) = slot_apart x y k n w v (eqb-true _ _ z) in rw (ex, ey) here)
          | is_false z ↦ there x y w (eqb-false _ _ z) (q.held x y w (sym (within_other m (slot_of x y) (slot_of k n) (eqb-false _ _ z)) ∙ i))
        ];
  }
    where
      here : Held arg (noting b (slot_of k n) f t) k n
      here = record {
        up = rw (noting_from b (slot_of k n) f t long (slot_small v), noting_to b (slot_of k n) f t long (slot_small v)) l;
        fits = rw (noting_to b (slot_of k n) f t long (slot_small v)) h;
        stands = rw value_here s;
        proper = rw value_here p;
      }

      there : (x y : ℕ) → Variable x y → (slot_of x y ≡ slot_of k n → ⊥) → Held arg b x y → Held arg (noting b (slot_of k n) f t) x y
      there x y w d e =
          let i = slot_small w in
          let g = slot_small v in
          let from = noting_other b (slot_of k n) f t long g (slot_of x y) d (omega arith) in
          let to = noting_other b (slot_of k n) f t long g (slot_of x y + 48) (omega arith) (λ z. d (omega arith)) in
          record {
            up = rw (from, to) e.up;
            fits = rw to e.fits;
            stands = rw (value_other x y w d) e.stands;
            proper = rw (value_other x y w d) e.proper;
          }

-- what is settled stands
pub table_sure : (arg b : List ℕ) (m : ℕ) → Table arg b m → Sure (env_of arg b m)
unfolding Sure env_of
table_sure arg b m q [] u h = never (cc)
table_sure arg b m q (k ∷ []) u h = never (cc)
table_sure arg b m q (k ∷ n ∷ []) u h =
    elim (see (named k n)) [
      | is_false z ↦ never (cc (env_other arg b m k n z))
      | is_true z ↦
          let v = of_named k n z in
          elim (see (within m (slot_of k n))) [
            | is_false w ↦ never (cc (env_open arg b m v w))
            | is_true w ↦ (let e : elements (value_of arg b (slot_of k n)) ≡ u = cc (env_settled arg b m v w) in rw e at (q.held k n v w).stands)
          ]
    ]
table_sure arg b m q (k ∷ n ∷ x ∷ w) u h = never (cc)

-- a table whose settled slots are as they were
pub table_kept : (arg b b' : List ℕ) (m : ℕ) → Kept m b b' → Table arg b m → Table arg b' m
unfolding value_of
table_kept arg b b' m q t = record {
  long = q.long ∙ t.long;
  held = λ k n v w.
      let e = t.held k n v w in
      let from = q.from (slot_of k n) (slot_small v) w in
      let to = q.to (slot_of k n) (slot_small v) w in
      record {
        up = rw (from, to) e.up;
        fits = rw to e.fits;
        stands = rw (from, to) e.stands;
        proper = rw (from, to) e.proper;
      };
}

-- nothing is settled at the start
pub table_empty : (arg b : List ℕ) → length b ≡ 96 → Table arg b 0
table_empty arg b l = record { long = l; held = λ k n v w. never (cc (none_within (slot_of k n))) }

pub kept_self : (m : ℕ) (b : List ℕ) → Kept m b b
kept_self m b = record { long = refl; from = λ v l w. refl; to = λ v l w. refl }

pub kept_more : {m m' : ℕ} {b b' b'' : List ℕ} → ((v : ℕ) → v < 48 → within m v ≡ true → within m' v ≡ true) → Kept m b b' → Kept m' b' b'' → Kept m b b''
kept_more f p q = record {
  long = q.long ∙ p.long;
  from = λ v l w. q.from v l (f v l w) ∙ p.from v l w;
  to = λ v l w. q.to v l (f v l w) ∙ p.to v l w;
}

-- a slot more settled
pub within_more : (m slot v : ℕ) → within m v ≡ true → within (joined m slot) v ≡ true
within_more m slot v h =
    elim (see (eqb v slot)) [
      | is_true z ↦ rw (eqb-true v slot z) (within_same m slot)
      | is_false z ↦ within_other m v slot (eqb-false v slot z) ∙ h
    ]
