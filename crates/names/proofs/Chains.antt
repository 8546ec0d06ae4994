-- A walk along a bucket, and one name more in it.
use mathlib.Core.Path.{◌≡◌, refl, sym, ◌∙◌, ap}
use mathlib.Core.Bool.{true, false}
use mathlib.Core.List.{List}
use Prim.Native.Nat.{ℕ, zero, suc, ◌+◌, ◌≤◌, ◌<◌}
use native.Mathlib.Omega.{arith}
use lib.ListN.{length, get_or, set, replicate, length-set, length-replicate}
use lib.Seq.{get_or-set_same, get_or-set_other}
use lib.Dec.{eqb, ltb}
use borrow.Author.Count.{below_more}
use borrow.Author.Tests.{eqb-true, eqb-false, ltb-true, ltb-false, eq-eqb, ne_eqb}
use Rattle.meaning.proofs.Truth.{is_true, is_false, see}
use Rattle.names.specs.Names.{key_at, name_at, number_at}
use Rattle.names.specs.Index.{bucket, Index, Added, Numbered}
use Rattle.names.proofs.Numbers.{none_equal, first_equal, at_most, new_other, keys_new, keys_old}

-- the walk from the head of the bucket of the name at `at` stands at h: the names from h on are others
pub record Walk (s firsts : List ℕ) (n at h : ℕ) : Type 0 where
  pub within : h ≤ n
  pub own : (k : ℕ) → h ≡ suc k → bucket (name_at s firsts k) ≡ bucket (key_at s at)
  pub passed : (k : ℕ) → h ≤ k → k < n → key_at s at ≡ name_at s firsts k → ⊥

module _ {s firsts heads links : List ℕ} {n : ℕ} (ix : Index s firsts heads links n) (at : ℕ) where
  pub walk_start : (b : ℕ) → b ≡ bucket (key_at s at) → Walk s firsts n at (get_or heads b 0)
  walk_start b p =
      record {
        within = ix.head_in b;
        own = λ k e. ix.head_own b k e ∙ p;
        passed = λ k l m e. omega (arith, rw (← e, ← p) at (ix.head_all k m));
      }

  pub walk_on : {h : ℕ} (k : ℕ) → Walk s firsts n at h → h ≡ suc k → (key_at s at ≡ name_at s firsts k → ⊥)
      → Walk s firsts n at (get_or links k 0)
  walk_on {h} k w e d =
      let l : k < n = omega (arith, w.within) in
      record {
        within = omega (arith, ix.link_in k l);
        own = λ j f. ix.link_own j k l f ∙ w.own k e;
        passed = λ j a m f.
            elim (see (ltb j k)) [
              | is_true z ↦ omega (arith, ix.link_all j k (ltb-true j k z) l (ap bucket (sym f) ∙ sym (w.own k e)))
              | is_false z ↦
                  elim (see (eqb j k)) [
                    | is_true y ↦ d (f ∙ ap (name_at s firsts) (eqb-true j k y))
                    | is_false y ↦ w.passed j (let g : j ≡ k → ⊥ = eqb-false j k y in omega (arith, ltb-false j k z)) m f
                  ]
            ];
      }

  pub walk_found : {h : ℕ} (k : ℕ) → Walk s firsts n at h → h ≡ suc k → key_at s at ≡ name_at s firsts k → k ≡ number_at s firsts n at
  walk_found k w e f =
      let l : k < n = omega (arith, w.within) in
      first_equal s firsts n ix.places.room at k l f (λ j m g. ix.apart j k m l (sym f ∙ g))

  pub walk_none : Walk s firsts n at 0 → n ≡ number_at s firsts n at
  walk_none w = none_equal s firsts n ix.places.room at (λ k l e. w.passed k (omega arith) l e)

-- the index with the name that begins at `at`, which is new, as number n
module _ {s firsts heads links : List ℕ} {n : ℕ} (ix : Index s firsts heads links n) (at : ℕ) (inside : at < length s)
    (short : length (key_at s at) ≤ 15) (fits : n < length firsts) (fits' : n < length links) (new : n ≡ number_at s firsts n at)
    (narrow : bucket (key_at s at) < 8192) where
  ours : ℕ
  ours = bucket (key_at s at)

  firsts' : List ℕ
  firsts' = set firsts n at

  heads' : List ℕ
  heads' = set heads ours (n + 1)

  links' : List ℕ
  links' = set links n (get_or heads ours 0)

  old_name : (k : ℕ) → k < n → name_at s firsts' k ≡ name_at s firsts k
  unfolding firsts'
  old_name k l = ap (key_at s) (get_or-set_other firsts n k at 0 (λ e. omega arith))

  new_name : name_at s firsts' n ≡ key_at s at
  unfolding firsts'
  new_name = ap (key_at s) (get_or-set_same firsts n at 0 fits)

  old_link : (k : ℕ) → k < n → get_or links' k 0 ≡ get_or links k 0
  unfolding links'
  old_link k l = get_or-set_other links n k _ 0 (λ e. omega arith)

  new_link : get_or links' n 0 ≡ get_or heads ours 0
  unfolding links'
  new_link = get_or-set_same links n _ 0 fits'

  new_head : get_or heads' ours 0 ≡ n + 1
  unfolding heads' ours
  new_head = get_or-set_same heads ours (n + 1) 0 (omega (arith, ix.wide))

  old_head : (b : ℕ) → (b ≡ ours → ⊥) → get_or heads' b 0 ≡ get_or heads b 0
  unfolding heads'
  old_head b d = get_or-set_other heads ours b (n + 1) 0 d

  bucket_old : (k : ℕ) → k < n → bucket (name_at s firsts' k) ≡ bucket (name_at s firsts k)
  bucket_old k l = ap bucket (old_name k l)

  bucket_new : bucket (name_at s firsts' n) ≡ ours
  unfolding ours
  bucket_new = ap bucket new_name

  head_in : (b : ℕ) → get_or heads' b 0 ≤ n + 1
  head_in b =
      elim (see (eqb b ours)) [
        | is_true z ↦ rw (eqb-true b ours z) (omega (arith, new_head))
        | is_false z ↦ omega (arith, old_head b (eqb-false b ours z), ix.head_in b)
      ]

  head_own : (b k : ℕ) → get_or heads' b 0 ≡ suc k → bucket (name_at s firsts' k) ≡ b
  head_own b k e =
      elim (see (eqb b ours)) [
        | is_true z ↦
            let p : b ≡ ours = eqb-true b ours z in
            let m : k ≡ n = omega (arith, new_head, rw p at e) in
            rw (m, p) bucket_new
        | is_false z ↦
            let f : get_or heads b 0 ≡ suc k = sym (old_head b (eqb-false b ours z)) ∙ e in
            bucket_old k (omega (arith, ix.head_in b)) ∙ ix.head_own b k f
      ]

  head_all : (k : ℕ) → k < n + 1 → k < get_or heads' (bucket (name_at s firsts' k)) 0
  head_all =
      below_more (λ k. k < get_or heads' (bucket (name_at s firsts' k)) 0) n
      (λ k l. rw (bucket_old k l)
      (elim (see (eqb (bucket (name_at s firsts k)) ours)) [
        | is_true z ↦ rw (eqb-true _ ours z) (omega (arith, new_head))
        | is_false z ↦ rw (old_head _ (eqb-false _ ours z)) (ix.head_all k l)
      ]))
      (rw bucket_new (omega (arith, new_head)))

  pub index_more : Index s (set firsts n at) (set heads (bucket (key_at s at)) (n + 1)) (set links n (get_or heads (bucket (key_at s at)) 0)) (n + 1)
  unfolding firsts' heads' links' ours
  index_more =
      record {
        places =
            record {
              room = rw (length-set firsts n at) (omega arith);
              inside =
                  below_more (λ k. get_or firsts' k 0 < length s) n
                  (λ k l. rw (get_or-set_other firsts n k at 0 (λ e. omega arith)) (ix.places.inside k l))
                  (rw (get_or-set_same firsts n at 0 fits) inside);
              short =
                  below_more (λ k. length (name_at s firsts' k) ≤ 15) n
                  (λ k l. rw (old_name k l) (ix.places.short k l))
                  (rw new_name short);
            };
        wide = rw (length-set heads ours (n + 1)) ix.wide;
        room = rw (length-set links n (get_or heads ours 0)) (omega arith);
        apart = λ j k m l.
            below_more (λ k. j < k → name_at s firsts' k ≡ name_at s firsts' j → ⊥) n
            (λ k l m e. ix.apart j k m l (sym (old_name k l) ∙ e ∙ old_name j (omega arith)))
            (λ m e. new_other s firsts n ix.places.room at new j m (sym new_name ∙ e ∙ old_name j m))
            k l m;
        head_in = head_in;
        head_own = head_own;
        head_all = head_all;
        link_in =
            below_more (λ k. get_or links' k 0 ≤ k) n
            (λ k l. rw (old_link k l) (ix.link_in k l))
            (rw new_link (ix.head_in ours));
        link_own = λ j k l.
            below_more (λ k. get_or links' k 0 ≡ suc j → bucket (name_at s firsts' j) ≡ bucket (name_at s firsts' k)) n
            (λ k l e.
            let f : get_or links k 0 ≡ suc j = sym (old_link k l) ∙ e in
            bucket_old j (omega (arith, ix.link_in k l)) ∙ ix.link_own j k l f ∙ sym (bucket_old k l))
            (λ e.
            let f : get_or heads ours 0 ≡ suc j = sym new_link ∙ e in
            bucket_old j (omega (arith, ix.head_in ours)) ∙ ix.head_own ours j f ∙ sym bucket_new)
            k l;
        link_all = λ j k m l.
            below_more (λ k. j < k → bucket (name_at s firsts' j) ≡ bucket (name_at s firsts' k) → j < get_or links' k 0) n
            (λ k l m e. rw (old_link k l) (ix.link_all j k m l (sym (bucket_old j (omega arith)) ∙ e ∙ bucket_old k l)))
            (λ m e. rw (new_link, ← sym (bucket_old j m) ∙ e ∙ bucket_new) (ix.head_all j m))
            k l m;
      }

-- the index after the name that begins at `at` was looked for, and added to bucket b where it was new
module _ {s firsts heads links : List ℕ} {n : ℕ} (ix : Index s firsts heads links n) (at r : ℕ) (found : r ≡ number_at s firsts n at) where
  pub numbered_new : {firsts' heads' links' : List ℕ} {b : ℕ} → r ≡ n → (at < length s) × (length (key_at s at) ≤ 15)
      → (n < 65535) × (n < length firsts) × (n < length links) → (b ≡ bucket (key_at s at)) × (b < 8192)
      → Added n at b firsts heads links firsts' heads' links' → Numbered s firsts heads links n at firsts' heads' links' r
  numbered_new e (inside, short) (few, fits, fits') (own, narrow) a =
      let new : n ≡ number_at s firsts n at = sym e ∙ found in
      let t : eqb r n ≡ true = eq-eqb r n e in
      record {
        number = found;
        most = omega arith;
        long = (ap length a.first ∙ simp length-set, ap length a.head ∙ simp length-set, ap length a.link ∙ simp length-set);
        index = rw (t, a.first, a.head, a.link, own) (index_more ix at inside short fits fits' new (rw own at narrow));
        list = rw (t, a.first) (keys_new s firsts n ix.places.room at fits new);
      }

  pub numbered_old : (r ≡ n → ⊥) → Numbered s firsts heads links n at firsts heads links r
  numbered_old d =
      let t : eqb r n ≡ false = ne_eqb r n d in
      let most : number_at s firsts n at ≤ n = at_most s firsts n ix.places.room at in
      record {
        number = found;
        most = omega arith;
        long = (refl, refl, refl);
        index = rw t ix;
        list = rw t (keys_old s firsts n ix.places.room at (omega arith));
      }

zeros : (m b : ℕ) → ◌≡◌ {A = ℕ} (get_or (replicate m 0) b 0) 0
zeros zero b = refl
zeros (suc m) zero = refl
zeros (suc m) (suc b) = zeros m b

-- an index of no names: all heads are 0
pub index_none : (s firsts links : List ℕ) (m : ℕ) → 8192 ≤ m → Index s firsts (replicate m 0) links 0
index_none s firsts links m l =
    record {
      places = record { room = omega arith; inside = λ k i. absurd (omega arith); short = λ k i. absurd (omega arith) };
      wide = rw (length-replicate {A = ℕ} m 0) l;
      room = omega arith;
      apart = λ j k i o e. omega arith;
      head_in = λ b. omega (arith, zeros m b);
      head_own = λ b k e. absurd (omega (arith, zeros m b));
      head_all = λ k i. absurd (omega arith);
      link_in = λ k i. absurd (omega arith);
      link_own = λ j k i e. absurd (omega arith);
      link_all = λ j k i o e. absurd (omega arith);
    }
