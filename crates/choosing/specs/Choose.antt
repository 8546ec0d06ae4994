-- Finding a function, and the sentence that fits.
use Rattle.std.specs.Prelude.{◌≡◌, true, false, Option, Some, None, List, [], ◌∷◌, ℕ, ◌+◌, ◌*◌, ◌%◌, ◌≤◌, length, get_or, take, drop}
use Rattle.std.proofs.Math.Option.{Option as Maybe, none, some}
use Rattle.meaning.specs.Elements.{Element, body, is_variable, join, among}
use Rattle.meaning.specs.Matching.{put}
use Rattle.meaning.specs.Machine.{function, pieces, before}
use Rattle.meaning.proofs.Cutting.{Whole}
use Rattle.meaning.proofs.Programs.{Body, Bodies}
use Rattle.elements.specs.declared.Cursor.{Cursor}
use Rattle.building.specs.Build.{side_of, pour, Ready, Calm}
use Rattle.building.specs.declared.Side.{Side}
use Rattle.choosing.specs.declared.Index.{Index}

-- all elements from a place on
unfoldable pub rest_of : List ℕ → ℕ → List Element
rest_of p at = side_of p at (length p)

-- the element that begins at a place
abbrev pub element_at : List ℕ → ℕ → Element
element_at p at = take (1 + body (get_or p at 0)) (drop at p)

-- the sentences behind a header
unfoldable pub sentences : List Element → List (List Element)
sentences es = pieces 12 (before 14 es)

-- a good program: whole elements, and behind each header a body
pub record Program (p : List ℕ) : Type 0 where
  pub whole : Whole (rest_of p 0)
  pub bodies : Bodies (rest_of p 0)

-- the body of the first function with that name is found
pub data Looked (p name : List ℕ) : Option Cursor → Type 0 where
  there : {c : Cursor} → function name (rest_of p 0) ≡ some (sentences (rest_of p c.at)) → c.at ≤ length p → Whole (rest_of p c.at) → Body (rest_of p c.at) → Looked p name (Some c)
  nowhere : function name (rest_of p 0) ≡ none → Looked p name None

-- the right side of the first sentence that fits, from a up to e; val is what each of its elements stands for
pub data Chosen (p f b : List ℕ) (o : Maybe (List Element)) : Option Side → Type 0 where
  none_fits : o ≡ none → Chosen p f b o None
  one_fits : {a e : ℕ} (r : List Element) (val : Element → List Element) → o ≡ some r → Whole r
      → a ≤ e → e ≤ length p → Whole (side_of p a e) → Ready f b (side_of p a e) → pour f b (side_of p a e) ≡ join r → r ≡ put val (side_of p a e)
      → ((v : Element) → among v (side_of p a e) ≡ true → is_variable v ≡ true → Calm f b v (val v)) → ((v : Element) → is_variable v ≡ false → val v ≡ v ∷ [])
      → Chosen p f b o (Some (record { from = a; to = e }))

-- the place of a name's number in the table
abbrev pub slot_for : ℕ → ℕ
slot_for name = name % 8192

-- what an entry of the table says of a name, the program being read up to i: no header came to this place so far; or the first that did stands at h, and h + 1 is kept
pub data Entry (p : List ℕ) (i lo hi : ℕ) : ℕ → Type 0 where
  empty : {s : ℕ} → s ≡ 0 → function (lo ∷ hi ∷ []) (rest_of p 0) ≡ function (lo ∷ hi ∷ []) (rest_of p i) → Entry p i lo hi s
  taken : {s : ℕ} (h : ℕ) → s ≡ h + 1 → h + 3 ≤ length p → (take 2 (drop (h + 1) p) ≡ lo ∷ hi ∷ [] → Looked p (lo ∷ hi ∷ []) (Some (record { at = h + 3 }))) → Entry p i lo hi s

-- the table, the program being read up to i
pub record Indexed (p : List ℕ) (i : ℕ) (spots : List ℕ) : Type 0 where
  pub upto : i ≤ length p
  pub whole : Whole (rest_of p i)
  pub bodies : Bodies (rest_of p i)
  pub long : length spots ≡ 8192
  pub each : (lo hi : ℕ) → Entry p i lo hi (get_or spots (slot_for (lo + hi * 256)) 0)

-- the table with the place up to which the program is read
abbrev pub Cache : List ℕ → Index → Type 0
Cache p x = Indexed p x.read x.spots

pub record Cached (p : List ℕ) (lo hi : ℕ) (r : Option Cursor) (x : Index) : Type 0 where
  pub looked : Looked p (lo ∷ hi ∷ []) r
  pub cache : Cache p x
