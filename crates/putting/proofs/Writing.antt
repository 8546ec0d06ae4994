-- An element's bytes in a buffer.
use mathlib.Core.Path.{◌≡◌, refl, sym, ◌∙◌, ap}
use mathlib.Core.List.{List, [], ◌∷◌, ◌++◌, append-nil, append_assoc}
use Prim.Native.Nat.{ℕ, suc, ◌+◌, ◌-◌, ◌/◌, ◌%◌, ◌≤◌, ◌<◌}
use native.Mathlib.Omega.{arith}
use lib.ListN.{length, take, set, length-append}
use lib.Seq.{sets, sets-eq, length-sets, length-take-le, take_at}
use lib.Dec.{leb}
use borrow.Author.Tests.{leb-true, leb-false}
use Rattle.meaning.specs.Elements.{Element, body, join}
use Rattle.meaning.proofs.Truth.{is_true, is_false, see}
use Rattle.elements.specs.Bytes.{digits}
use Rattle.elements.proofs.Digits.{digits-length}
use Rattle.putting.specs.Putting.{Written, Filled}

-- one byte of a number
pub digit_on : (buf : List ℕ) (at i n rest : ℕ) → i < n
    → sets (set buf (at + i) (rest % 256)) (at + (i + 1)) (digits (n - (i + 1)) (rest / 256)) ≡ sets buf (at + i) (digits (n - i) rest)
unfolding digits
digit_on buf at i n rest h =
    let e : n - i ≡ suc (n - (i + 1)) = omega arith in
    let f : at + (i + 1) ≡ suc (at + i) = omega arith in
    rw (e, f)

pub digit_out : (buf : List ℕ) (at i n rest : ℕ) → n ≤ i → buf ≡ sets buf (at + i) (digits (n - i) rest)
unfolding digits
digit_out buf at i n rest h = (let e : n - i ≡ 0 = omega arith in rw e)

-- a buffer with an element more
pub filled_more : {buf bytes x buf' : List ℕ} {len r : ℕ} → Filled buf bytes len → Written buf len x r buf' → Filled buf' (bytes ++ x) r
filled_more {buf} {bytes} {x} {buf'} {len} {r} h w =
    elim (see (leb (len + length x) (length buf))) [
      | is_true l ↦
          let m : len + length x ≤ length buf = leb-true _ _ l in
          let (e, b) = w.fits m in
          record { fits = λ k. fit m e b k; over = λ k. absurd (omega (arith, within m, length-append bytes x, length-sets buf len x, ap (λ (z : List ℕ). length z) b)) }
      | is_false l ↦
          let m : length buf < len + length x = leb-false _ _ l in
          let (e, b) = w.over m in
          record { fits = λ k. absurd (let j : length bytes + length x ≤ length buf = omega (arith, k, length-append bytes x, ap (λ (z : List ℕ). length z) b) in omega (arith, beyond m j)); over = λ k. e ∙ ap (λ (z : List ℕ). length z + 1) (sym b) }
    ]
  where
    -- a length within the buffer is that of the bytes
    within : len + length x ≤ length buf → len ≡ length bytes
    within m =
        elim (see (leb (length bytes) (length buf))) [
          | is_true k ↦ (h.fits (leb-true _ _ k)).0
          | is_false k ↦ absurd (omega (arith, h.over (leb-false _ _ k)))
        ]

    beyond : length buf < len + length x → length bytes + length x ≤ length buf → length buf < length bytes + length x
    beyond m k = (let z : len ≡ length bytes = (h.fits (omega arith)).0 in omega arith)

    fit : len + length x ≤ length buf → r ≡ len + length x → buf' ≡ sets buf len x → length (bytes ++ x) ≤ length buf' → (r ≡ length (bytes ++ x)) × (take r buf' ≡ bytes ++ x)
    fit m e b k =
        let z : len ≡ length bytes = within m in
        let held : take len buf ≡ bytes = (h.fits (omega arith)).1 in
        let long : length (take len buf ++ x) ≡ len + length x = length-append (take len buf) x ∙ ap (λ (n : ℕ). n + length x) (length-take-le len buf (omega arith)) in
        (omega (arith, length-append bytes x), rw (b, sets-eq x buf len m, e) (take_at (take len buf ++ x) _ _ long ∙ ap (λ (l : List ℕ). l ++ x) held))

-- a length is at most one more than the buffer has
pub filled_most : {buf bytes : List ℕ} {len : ℕ} → Filled buf bytes len → len ≤ length buf + 1
filled_most {buf} {bytes} h =
    elim (see (leb (length bytes) (length buf))) [
      | is_true k ↦ (let l : length bytes ≤ length buf = leb-true _ _ k in omega (arith, (h.fits l).0))
      | is_false k ↦ omega (arith, h.over (leb-false _ _ k))
    ]

pub join_more : (out : List Element) (e : Element) → join (out ++ (e ∷ [])) ≡ join out ++ e
unfolding join
join_more [] e = append-nil e
join_more (x ∷ xs) e = rw (join_more xs e) (sym (append_assoc x (join xs) e))

-- a number before its first byte is written
pub digits-begin : (buf : List ℕ) (at n v : ℕ) → sets buf (at + 0) (digits (n - 0) v) ≡ sets buf at (digits n v)
digits-begin buf at n v =
    let y : at + 0 ≡ at = omega arith in
    let z : n - 0 ≡ n = omega arith in
    rw (y, z)

module _ (buf : List ℕ) (len k v : ℕ) where
  abbrev x : List ℕ
  x = k ∷ digits (body k) v

  long : length x ≡ 1 + body k
  long = ap suc (digits-length (body k) v) ∙ (let z : suc (body k) ≡ 1 + body k = omega arith in z)

  pub written_over : {size : ℕ} → size ≡ 1 + body k → length buf < len + size → Written buf len x (length buf + 1) buf
  written_over e h = record { fits = λ f. absurd (omega (arith, long, f)); over = λ o. (refl, refl) }

  pub written_fits : {size : ℕ} {buf' : List ℕ} → size ≡ 1 + body k → len + size ≤ length buf → buf' ≡ sets (set buf len k) (len + 1) (digits (size - 1) v) → Written buf len x (len + size) buf'
  written_fits {size} e h b =
      let w : size - 1 ≡ body k = omega arith in
      let l : len + 1 ≡ suc len = omega arith in
      record { fits = λ f. (ap (λ (n : ℕ). len + n) (e ∙ sym long), b ∙ rw (w, l)); over = λ o. absurd (omega (arith, long, o)) }
