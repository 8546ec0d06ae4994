-- The name list, written record by record.
use mathlib.Core.Path.{◌≡◌, refl, ◌∙◌, ap}
use mathlib.Core.List.{List, [], ◌∷◌, ◌++◌, append_assoc, append-nil}
use Prim.Native.Nat.{ℕ, zero, suc, ◌+◌, ◌*◌, ◌-◌, ◌≤◌, ◌<◌}
use native.Mathlib.Omega.{arith}
use native.Mathlib.Numerals.{add-one}
use lib.ListN.{length, get_or, drop, take, set, replicate, length-set, length-append, length-replicate, replicate-append-replicate}
use lib.Seq.{sets, sets-eq, length-sets, take-suc, drop-length, drop-append-add, take-append_seam, length-take-le, get_or-take}
use Rattle.text.specs.Numbering.{Key, name_key}
use Rattle.text.specs.Answers.{record_of, list_of, filled}
use Rattle.names.specs.Names.{key_at, name_at, keys, named}
use Rattle.text.specs.Tokens.{tail_of}
use Rattle.names.specs.Index.{Places}
use Rattle.names.proofs.Spelling.{Tail, over, more, tail_past, key_is}
use Rattle.names.proofs.Numbers.{keys_more}

-- some bytes are still to be put from len on, and then the list is as it should be
pub record Owes (list : List ℕ) (len : ℕ) (rest to : List ℕ) : Type 0 where
  pub is : sets list len rest ≡ to
  pub room : len + length rest ≤ length list

module _ (s : List ℕ) (i : ℕ) {list to : List ℕ} {len : ℕ} (h : Owes list len (tail_of (drop i s)) to) where
  pub owes_room : {x : ℕ} → Tail s i x → (x ≡ 0 → ⊥) → len < length list
  owes_room (over p) n = absurd (n refl)
  owes_room (more l p) n = let g = rw p at h.room in omega arith

  pub owes_more : {x : ℕ} → Tail s i x → (x ≡ 0 → ⊥) → Owes (set list len x) (len + 1) (tail_of (drop (i + 1) s)) to
  owes_more (over p) n = absurd (n refl)
  owes_more {x} (more l p) n =
      let g = rw p at h.room in
      record { is = rw (add-one len) (rw p at h.is); room = simp length-set (omega arith) }

  pub owes_end : {x : ℕ} → Tail s i x → x ≡ 0 → list ≡ to
  owes_end (over p) z = rw p at h.is
  owes_end (more l p) z = absurd (omega arith)

  pub owes_out : length s ≤ i → list ≡ to
  owes_out l = rw (tail_past s i l) at h.is

-- a key's first two bytes, and its rest
module _ (s list : List ℕ) (o at : ℕ) (l : o < length s) where
  pub key_room : at + length (name_key (key_at s o)) ≤ length list → at + 2 + length (tail_of (drop (o + 1) s)) ≤ length list
  unfolding name_key
  key_room h = let g = rw (key_is s o l) at h in omega arith

  pub key_put : {to : List ℕ} → to ≡ sets (set (set list at 20) (at + 1) (get_or s o 0)) (at + 2) (tail_of (drop (o + 1) s))
      → to ≡ sets list at (name_key (key_at s o))
  unfolding name_key
  key_put h = let e : at + 2 ≡ suc (suc at) = omega arith in rw (key_is s o l) (rw (add-one at, e) at h)

drop_zeros : (m z : ℕ) → ◌≡◌ {A = List ℕ} (drop m (replicate z 0)) (replicate (z - m) 0)
drop_zeros zero z = let e : z - 0 ≡ z = omega arith in rw e
drop_zeros (suc m) zero = let e : 0 - suc m ≡ 0 = omega arith in rw e
drop_zeros (suc m) (suc z) = let e : suc z - suc m ≡ z - m = omega arith in rw e (drop_zeros m z)

-- bytes put over zeros, with zeros up to a record's end
put_record : (a x : List ℕ) (z : ℕ) → length x ≤ 16 → 16 ≤ z
    → sets (a ++ replicate z 0) (length a) x ≡ (a ++ (x ++ replicate (16 - length x) 0)) ++ replicate (z - 16) 0
put_record a x z l m =
    let fits : length a + length x ≤ length (a ++ replicate z 0) = simp (length-append, length-replicate) (omega arith) in
    let e : z - length x ≡ 16 - length x + (z - 16) = omega arith in
    let split = replicate-append-replicate {A = ℕ} (16 - length x) (z - 16) 0 in
    sets-eq x (a ++ replicate z 0) (length a) fits
    ∙ rw (take-append_seam a (replicate z 0), drop-append-add a (replicate z 0) (length x), drop_zeros (length x) z, e, ← split) (simp append_assoc)

list_append : (xs ys : List Key) → list_of (xs ++ ys) ≡ list_of xs ++ list_of ys
unfolding list_of
list_append [] ys = refl
list_append (x ∷ xs) ys = rw (list_append xs ys, append_assoc)

list_size : (s os : List ℕ) → ((k : ℕ) → k < length os → length (key_at s (get_or os k 0)) ≤ 15) → length (list_of (keys s os)) ≡ 16 * length os
unfolding list_of keys record_of name_key
list_size s [] h = refl
list_size s (o ∷ os) h =
    let l : length (key_at s o) ≤ 15 = h 0 (omega arith) in
    let r : length (list_of (keys s os)) ≡ 16 * length os = list_size s os (λ k m. h (suc k) (omega arith)) in
    simp (length-append, length-replicate) (omega arith)

module _ {s firsts : List ℕ} {n : ℕ} (p : Places s firsts n) where
  first_size : (k : ℕ) → k ≤ n → length (list_of (named s firsts k)) ≡ 16 * k
  first_size k l =
      let e : length (take k firsts) ≡ k = length-take-le k firsts (omega (arith, p.room)) in
      list_size s (take k firsts) (λ j m. let i : j < k = omega arith in rw (get_or-take k firsts j 0 i) (p.short j (omega arith)))
      ∙ ap (λ (m : ℕ). 16 * m) e

  -- each record has 16 bytes
  pub list_length : length (list_of (named s firsts n)) ≡ 16 * n
  list_length = first_size n (omega arith)

  pub key_short : (k : ℕ) → k < n → length (name_key (name_at s firsts k)) ≤ 16
  unfolding name_key
  key_short k l = omega (arith, p.short k l)

  one_more : (k : ℕ) → k < n → list_of (named s firsts (k + 1)) ≡ list_of (named s firsts k) ++ record_of (name_key (name_at s firsts k))
  unfolding list_of
  one_more k l =
      let m : k < length firsts = omega (arith, p.room) in
      rw (add-one k, take-suc firsts k 0 m, keys_more s (take k firsts) (get_or firsts k 0))
      (list_append (named s firsts k) _ ∙ ap (λ (x : List ℕ). list_of (named s firsts k) ++ x) (append-nil _))

-- the list with the records of the first k names
pub record Written (s firsts list₀ list : List ℕ) (k : ℕ) : Type 0 where
  pub is : list ≡ filled (list_of (named s firsts k)) list₀
  pub long : length list ≡ length list₀

-- a list set to zero
module _ (list : List ℕ) {list₀ : List ℕ} (e : list₀ ≡ take 0 list ++ replicate (length list - 0) 0 ++ drop (length list) list) where
  zeroed : list₀ ≡ replicate (length list) 0
  zeroed = let z : length list - 0 ≡ length list = omega arith in e ∙ rw (drop-length list, z) (append-nil _)

  pub cleared_long : length list₀ ≡ length list
  cleared_long = ap length zeroed ∙ length-replicate {A = ℕ} (length list) 0

  pub written_none : (s firsts : List ℕ) → Written s firsts list₀ list₀ 0
  unfolding filled list_of keys
  written_none s firsts = record { is = zeroed ∙ (let z : length list₀ - 0 ≡ length list = omega (arith, cleared_long) in rw z refl); long = refl }

module _ {s firsts list₀ : List ℕ} {n : ℕ} (p : Places s firsts n) (room : 16 * n ≤ length list₀) where
  pub written_more : {list list' : List ℕ} (k : ℕ) → k < n → Written s firsts list₀ list k
      → list' ≡ sets list (k * 16) (name_key (name_at s firsts k)) → Written s firsts list₀ list' (k + 1)
  unfolding filled record_of
  written_more {list} k l w e =
      let a = list_of (named s firsts k) in
      let x = name_key (name_at s firsts k) in
      let m : length a ≡ 16 * k = first_size p k (omega arith) in
      let i : k * 16 ≡ length a = omega arith in
      let m' : length (list_of (named s firsts (k + 1))) ≡ 16 * (k + 1) = first_size p (k + 1) (omega arith) in
      let z : length list₀ - length (list_of (named s firsts (k + 1))) ≡ length list₀ - length a - 16 = omega arith in
      record {
        is = rw (e, w.is, z, one_more p k l, i) (put_record a x (length list₀ - length a) (key_short p k l) (omega arith));
        long = ap length e ∙ simp length-sets w.long;
      }

pub written_all : {s firsts list₀ list : List ℕ} {k : ℕ} (to : List ℕ) (n : ℕ) → Written s firsts list₀ list k → n ≤ k → k ≤ n
    → length list₀ ≡ length to → list ≡ filled (list_of (named s firsts n)) to
unfolding filled
written_all {k = k} to n w l m e = let z : k ≡ n = omega arith in rw (z, e) at w.is
