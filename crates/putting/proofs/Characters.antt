-- The characters of a string, one after the other.
use mathlib.Core.Path.{◌≡◌, refl, sym, ◌∙◌, ap}
use mathlib.Core.Bool.{Bool, true, false}
use mathlib.Core.List.{List, [], ◌∷◌}
use Prim.Native.Nat.{ℕ, suc, ◌+◌, ◌-◌, ◌*◌, ◌%◌, ◌≤◌, ◌<◌}
use native.Mathlib.Omega.{arith}
use native.Mathlib.Numerals.{add-one}
use lib.ListN.{length, get_or, take, drop, set, length-set, length-drop}
use lib.Seq.{drop-cons, drop-drop, get_or-drop, get_or-take, length-take-le}
use lib.Dec.{eqb, ltb}
use borrow.Author.Tests.{eq-eqb, ne_eqb, eqb-true, eqb-false}
use Rattle.meaning.proofs.Truth.{is_true, is_false, see}
use Rattle.text.specs.Classes.{ends_line}
use Rattle.text.specs.Tokens.{Quoted, unclosed, closed, longer, before, quoted}
use Rattle.tokens.specs.Lexemes.{characters_of}
use Rattle.text.specs.Reading.{element, put_all}
use Rattle.meaning.specs.Elements.{Element, body}
use Rattle.meaning.specs.Goodness.{span, under_limit}
use Rattle.elements.specs.declared.Element.TheVariants.{Character}
use Rattle.elements.specs.Bytes.{digits}
use Rattle.taking.specs.Standing.{part_of}
use Rattle.checking.specs.Passing.{HasRoom}
use Rattle.checking.proofs.Passing.{room_in, steps_of, symbol_passed}
use Rattle.putting.specs.declared.Reader.{Reader}
use Rattle.putting.specs.Putting.{phase_next, kept_count, Written, Able, Led, Barred, Going, past_character, Closes, elements_at, further_by, Runs}
use Rattle.putting.proofs.Putting.{ready_of, put_made, led, going_able, going_on, going_bad, going_over}

-- what a closed string is made of: a doubled quote, its end, or another character
data Shut (q b : ℕ) (bs : List ℕ) (x : List ℕ) (m : ℕ) : Type 0 where
  doubled : (cs y : List ℕ) (n : ℕ) → b ≡ q → bs ≡ b ∷ cs → quoted q false cs ≡ closed y n → x ≡ b ∷ y → m ≡ suc (suc n) → Shut q b bs x m
  ended : b ≡ q → x ≡ [] → m ≡ 1 → Shut q b bs x m
  plain : (y : List ℕ) (n : ℕ) → (b ≡ q → ⊥) → quoted q false bs ≡ closed y n → x ≡ b ∷ y → m ≡ suc n → Shut q b bs x m

not_closed : {A : Type 0} {x : List ℕ} {m : ℕ} → unclosed ≡ closed x m → A
not_closed h = absurd (let z : ◌≡◌ {A = ℕ} 0 1 = ap (λ (o : Quoted). elim o [ unclosed ↦ 0 | closed x m ↦ 1 ]) h in omega arith)

abbrev size_of : Quoted → ℕ
size_of unclosed = 0
size_of (closed x m) = m

-- the byte behind a quote
behind_quote : (q b : ℕ) (bs : List ℕ) (x : List ℕ) (m : ℕ) → b ≡ q → longer (quoted q true bs) ≡ closed x m → Shut q b bs x m
unfolding quoted longer before
behind_quote q b [] x m e h = ended e (sym (ap characters_of h)) (sym (ap size_of h))
behind_quote q b (c ∷ cs) x m e h =
    elim (see (eqb c q)) [
      | is_true k ↦ go (eqb-true c q k) (quoted q false cs) refl (rw (k, quoted) at h)
      | is_false k ↦ (let d : closed [] 1 ≡ closed x m = rw (k, quoted) at h in ended e (sym (ap characters_of d)) (sym (ap size_of d)))
    ]
  where
    go : c ≡ q → (o : Quoted) → quoted q false cs ≡ o → longer (before c o) ≡ closed x m → Shut q b (c ∷ cs) x m
    go f unclosed g h = not_closed h
    go f (closed y n) g h =
        doubled cs y n e (ap {B = List ℕ} (λ u. u ∷ cs) (f ∙ sym e)) g (sym (ap characters_of h) ∙ ap {B = List ℕ} (λ u. u ∷ y) (f ∙ sym e)) (sym (ap size_of h))

shut : (q b : ℕ) (bs : List ℕ) (x : List ℕ) (m : ℕ) → quoted q false (b ∷ bs) ≡ closed x m → Shut q b bs x m
unfolding quoted before
shut q b bs x m h =
    elim (see (eqb b q)) [
      | is_true k ↦ behind_quote q b bs x m (eqb-true b q k) (rw (k, quoted) at h)
      | is_false k ↦
          elim (see (ends_line b)) [
            | is_true l ↦ not_closed (let d : unclosed ≡ closed x m = rw (k, l, quoted) at h in d)
            | is_false l ↦ go (eqb-false b q k) (quoted q false bs) refl (rw (k, l, quoted) at h)
          ]
    ]
  where
    go : (b ≡ q → ⊥) → (o : Quoted) → quoted q false bs ≡ o → before b o ≡ closed x m → Shut q b bs x m
    go f unclosed g h = not_closed h
    go f (closed y n) g h = plain y n f g (sym (ap characters_of h)) (sym (ap size_of h))

-- a string has its closing quote
pub shut_some : (q : ℕ) (bs y : List ℕ) (n : ℕ) → quoted q false bs ≡ closed y n → 0 < n
unfolding quoted
shut_some q [] y n h = not_closed h
shut_some q (b ∷ bs) y n h =
    elim (shut q b bs y n h) [
      | doubled cs z k e f g d l ↦ omega arith
      | ended e d l ↦ omega arith
      | plain z k e g d l ↦ omega arith
    ]

with_byte : (q b : ℕ) (held : Bool) (bs : List ℕ) → ((y : List ℕ) (n : ℕ) → quoted q held bs ≡ closed y n → n ≤ length bs) → (y : List ℕ) (n : ℕ) → before b (quoted q held bs) ≡ closed y n → n ≤ length (b ∷ bs)
unfolding before
with_byte q b held bs ih y n h = go (quoted q held bs) refl h
  where
    go : (o : Quoted) → quoted q held bs ≡ o → before b o ≡ closed y n → n ≤ length (b ∷ bs)
    go unclosed g h = not_closed h
    go (closed z m) g h = omega (arith, ih z m g, ap size_of h)

-- a string lies inside its text
pub quoted_inside : (q : ℕ) (held : Bool) (bs y : List ℕ) (n : ℕ) → quoted q held bs ≡ closed y n → n ≤ length bs
unfolding quoted longer before
quoted_inside q false [] y n h = not_closed h
quoted_inside q true [] y n h = omega (arith, ap size_of h)
quoted_inside q false (b ∷ bs) y n h =
    elim (see (eqb b q)) [
      | is_true k ↦ go (λ y n. quoted_inside q true bs y n) (quoted q true bs) refl (rw (k, quoted) at h)
      | is_false k ↦
          elim (see (ends_line b)) [
            | is_true l ↦ not_closed (let d : unclosed ≡ closed y n = rw (k, l, quoted) at h in d)
            | is_false l ↦ with_byte q b false bs (λ y n. quoted_inside q false bs y n) y n (rw (k, l, quoted) at h)
          ]
    ]
  where
    go : ((y : List ℕ) (n : ℕ) → quoted q true bs ≡ closed y n → n ≤ length bs) → (o : Quoted) → quoted q true bs ≡ o → longer o ≡ closed y n → n ≤ length (b ∷ bs)
    go ih unclosed g h = not_closed h
    go ih (closed z m) g h = omega (arith, ih z m g, ap size_of h)
quoted_inside q true (b ∷ bs) y n h =
    elim (see (eqb b q)) [
      | is_true k ↦ with_byte q b false bs (λ y n. quoted_inside q false bs y n) y n (rw (k, quoted) at h)
      | is_false k ↦ omega (arith, ap size_of (let d : closed [] 0 ≡ closed y n = rw (k, quoted) at h in d))
    ]

-- the characters from i on
abbrev pub characters_at : List ℕ → ℕ → ℕ → List ℕ
characters_at s q i = characters_of (quoted q false (drop i s))

past_quote : (i b q : ℕ) → b ≡ q → past_character i b q ≡ i + 2
unfolding past_character
past_quote i b q e = rw (eq-eqb b q e)

past_plain : (i b q : ℕ) → (b ≡ q → ⊥) → past_character i b q ≡ i + 1
unfolding past_character
past_plain i b q n = rw (ne_eqb b q n)

module _ (s : List ℕ) (q i last : ℕ) (h : Closes s q i last) where
  here : quoted q false (get_or s i 0 ∷ drop (i + 1) s) ≡ closed (characters_at s q i) (last + 1 - i)
  here = ap (λ (l : List ℕ). quoted q false l) (sym (drop-cons s i 0 (omega (arith, h.most, h.inside)) ∙ ap {B = List ℕ} (λ l. get_or s i 0 ∷ l) (ap (λ (j : ℕ). drop j s) (sym (add-one i))))) ∙ h.shut

  -- the next character, from where the string goes on
  next_from : (j : ℕ) (y : List ℕ) (n : ℕ) → quoted q false (drop j s) ≡ closed y n → characters_at s q i ≡ get_or s i 0 ∷ y → n ≡ last + 1 - j → j ≤ last
      → (characters_at s q i ≡ get_or s i 0 ∷ characters_at s q j) × Closes s q j last
  next_from j y n g x e l =
      let c : characters_at s q j ≡ y = ap characters_of g in
      (x ∙ ap {B = List ℕ} (λ u. get_or s i 0 ∷ u) (sym c), record { most = l; inside = h.inside; shut = g ∙ rw (c, e) })

  pub next_character : i < last → (characters_at s q i ≡ get_or s i 0 ∷ characters_at s q (past_character i (get_or s i 0) q)) × Closes s q (past_character i (get_or s i 0) q) last
  next_character l =
      elim (shut q (get_or s i 0) (drop (i + 1) s) (characters_at s q i) (last + 1 - i) here) [
        | doubled cs y n e f g x m ↦
            let d : drop (i + 2) s ≡ cs = sym (drop-drop 1 (i + 1) s ∙ ap (λ (j : ℕ). drop j s) (let z : i + 1 + 1 ≡ i + 2 = omega arith in z)) ∙ ap (drop 1) f in
            let k : 0 < n = shut_some q cs y n g in
            rw (past_quote i (get_or s i 0) q e) (next_from (i + 2) y n (ap (λ (l : List ℕ). quoted q false l) d ∙ g) x (omega arith) (omega arith))
        | ended e x m ↦ absurd (omega arith)
        | plain y n e g x m ↦ rw (past_plain i (get_or s i 0) q e) (next_from (i + 1) y n g x (omega arith) (omega arith))
      ]

  pub no_character : last ≤ i → characters_at s q i ≡ []
  no_character l =
      elim (shut q (get_or s i 0) (drop (i + 1) s) (characters_at s q i) (last + 1 - i) here) [
        | doubled cs y n e f g x m ↦ absurd (omega (arith, h.most, m))
        | ended e x m ↦ x
        | plain y n e g x m ↦ absurd (omega (arith, h.most, m, shut_some q (drop (i + 1) s) y n g))
      ]

pub past_more : (i b q : ℕ) → i < past_character i b q
unfolding past_character
past_more i b q = elim (see (eqb b q)) [ is_true h ↦ rw h (omega arith) | is_false h ↦ rw h (omega arith) ]

-- a turn of the loop over a string's characters, and its ends
module _ {s : List ℕ} {q i last : ℕ} {es : List Element} {q₀ : Reader} {st₀ buf₀ : List ℕ} {q₁ : Reader} {st buf : List ℕ}
    (g : Going es (elements_at s q i) q₀ st₀ buf₀ q₁ st buf) (h : Closes s q i last) where
  ahead : i < last → Going es (element 1 (get_or s i 0) ∷ elements_at s q (past_character i (get_or s i 0) q)) q₀ st₀ buf₀ q₁ st buf
  ahead l = rw (next_character s q i last h l).0 at g

  pub turn : i < last → {j : ℕ} {q' : Reader} {st' buf' : List ℕ} → j ≡ past_character i (get_or s i 0) q → Led (put_all (element 1 (get_or s i 0) ∷ [])) q₁ st buf q' st' buf'
      → Going es (elements_at s q j) q₀ st₀ buf₀ q' st' buf' × Closes s q j last
  turn l e d = rw e (going_on (ahead l) d, (next_character s q i last h l).1)

  pub turn_bad : i < last → Barred (put_all (element 1 (get_or s i 0) ∷ [])) q₁ st buf → Barred (put_all es) q₀ st₀ buf₀
  turn_bad l b = going_bad (ahead l) b

  pub turn_over : last ≤ i → Led (put_all es) q₀ st₀ buf₀ q₁ st buf
  turn_over l = going_over (rw (no_character s q i last h l) at g)

-- CHARACTERS THAT SURELY ARE GOOD

character_written : (buf : List ℕ) (len b : ℕ) → b < 256 → len + 2 ≤ length buf → Written buf len (1 ∷ digits (body 1) b) (len + 2) (set (set buf len 1) (len + 1) b)
unfolding body digits
character_written buf len b small l =
    let d : b % 256 ≡ b = omega arith in
    let s : len + 1 ≡ suc len = omega arith in
    record { fits = λ f. (refl, rw (d, s)); over = λ o. absurd (omega arith) }

pub lengths : (buf : List ℕ) (len b : ℕ) → length (set (set buf len 1) (len + 1) b) ≡ length buf
lengths buf len b = length-set (set buf len 1) (len + 1) b ∙ length-set buf len 1

-- a side has room for one more
module _ (q : Reader) {limit : ℕ} (side : span 3 4 q.state.part ≡ true) (is-limit : (n : ℕ) → (q.state.part ≡ 0 → ⊥) → under_limit (part_of q.state.part) n ≡ ltb n limit) where
  has_room : (k : ℕ) → q.state.count + k < limit → HasRoom (further_by q k).state
  unfolding further_by
  has_room k h = room_in (further_by q k).state refl side is-limit h

  -- one character more
  plain_led : (k b : ℕ) {st buf : List ℕ} → Able (further_by q k) st buf → b < 256 → q.state.count + k < limit → q.len + 2 * k + 2 ≤ length buf
      → Led (put_all (element 1 b ∷ [])) (further_by q k) st buf (further_by q (k + 1)) st (set (set buf (q.len + 2 * k) 1) (q.len + 2 * k + 1) b)
  unfolding further_by phase_next kept_count
  plain_led k b {st} {buf} a small h l =
      let steps = steps_of (symbol_passed (further_by q k).state (has_room k h) 1 b (omega arith) (omega arith) st (ready_of a.stands)) in
      let made = put_made (further_by q k) (Character b) st buf st (unfold body in small) {m = q.variables} {len' = q.len + 2 * k + 2} {p = q.phase} steps refl refl refl refl refl (character_written buf (q.len + 2 * k) b small l) (lengths buf (q.len + 2 * k) b) in
      let count : q.state.count + k + 1 ≡ q.state.count + (k + 1) = omega arith in
      let bytes : q.len + 2 * k + 2 ≡ q.len + 2 * (k + 1) = omega arith in
      rw (← count, ← bytes) (led made)

  -- k characters were put behind i, and the next is no quote
  pub plain_more : {s : List ℕ} {quote last i : ℕ} {buf₀ buf : List ℕ} (k : ℕ) → Runs s quote last i q buf₀ (i + k) (further_by q k) buf → i + k < last → (get_or s (i + k) 0 ≡ quote → ⊥) → get_or s (i + k) 0 < 256
      → q.state.count + k < limit → q.len + 2 * k + 2 ≤ length buf
      → Runs s quote last i q buf₀ (i + (k + 1)) (further_by q (k + 1)) (set (set buf (q.len + 2 * k) 1) (q.len + 2 * k + 1) (get_or s (i + k) 0))
  plain_more {s} {quote} {last} {i} k r l n small h w =
      let e : i + (k + 1) ≡ i + k + 1 = omega arith in
      let p : i + (k + 1) ≡ past_character (i + k) (get_or s (i + k) 0) quote = e ∙ sym (past_plain (i + k) (get_or s (i + k) 0) quote n) in
      record {
        shut = rw p (next_character s quote (i + k) last r.shut l).1;
        going = λ es q₀ st₀ buf₀ st a g.
            let f = r.going es q₀ st₀ buf₀ st a g in
            (turn f r.shut l p (plain_led k (get_or s (i + k) 0) (going_able a f) small h w)).0;
      }

-- before the quote that is looked for in s[i..i + n]
pub no_quote : (s : List ℕ) (i n r quote : ℕ) → i + n ≤ length s → r ≤ length (take (i + n - i) (drop i s))
    → ((k : ℕ) → k < r → get_or (take (i + n - i) (drop i s)) k 0 ≡ quote → ⊥) → (r ≤ n) × ((k : ℕ) → k < r → get_or s (i + k) 0 ≡ quote → ⊥)
no_quote s i n r quote h l f =
    let e : i + n - i ≡ n = omega arith in
    let m : r ≤ n = omega (arith, rw e at l, length-take-le n (drop i s) (let z = length-drop i s in omega arith)) in
    (m, λ k t q. f k t (rw e (get_or-take n (drop i s) k 0 (omega arith) ∙ get_or-drop i s k 0 ∙ q)))

-- before the first
pub runs_none : {s : List ℕ} {quote last i : ℕ} (q : Reader) (buf : List ℕ) → Closes s quote i last → Runs s quote last i q buf i q buf
runs_none q buf h = record { shut = h; going = λ es q₀ st₀ buf₀ st a g. g }

pub further_none : (q : Reader) → q ≡ further_by q 0
unfolding further_by
further_none q =
    let c : q.state.count + 0 ≡ q.state.count = omega arith in
    let l : q.len + 2 * 0 ≡ q.len = omega arith in
    rw (c, l)

pub runs_from : {s : List ℕ} {quote last i : ℕ} (q : Reader) (buf : List ℕ) → Closes s quote i last → Runs s quote last i q buf (i + 0) (further_by q 0) buf
runs_from {s} {quote} {last} {i} q buf h =
    let z : i + 0 ≡ i = omega arith in
    rw (z, ← further_none q) (runs_none q buf h)
