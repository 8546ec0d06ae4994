-- What reading a text answers, and every byte of both outputs (request One).
use Rattle.std.specs.Prelude.{◌&&◌, cond, List, [], ◌∷◌, ◌++◌, ℕ, ◌-◌, length, replicate, leb}
use Rattle.meaning.specs.Elements.{join}
use Rattle.text.specs.Numbering.{Key}
use Rattle.text.specs.Reading.{Said, says, amiss, said}

-- "A name record is kind 14 ..., then 15 bytes, zero-filled"; the key begins with the kind
unfoldable pub record_of : Key → List ℕ
record_of x = x ++ replicate (16 - length x) 0

unfoldable pub list_of : List Key → List ℕ
list_of [] = []
list_of (x ∷ xs) = record_of x ++ list_of xs

-- "An output buffer is zero past what is written"
unfoldable pub filled : List ℕ → List ℕ → List ℕ
filled x buffer = x ++ replicate (length buffer - length x) 0

-- a code: read, no room, bad sizes, bad text; the bytes of program and list; a place
pub data Reply : Type 0 where
  reply : ℕ → ℕ → ℕ → ℕ → Reply

-- a reply, and both outputs after the call
pub data Outcome : Type 0 where
  outcome : Reply → List ℕ → List ℕ → Outcome

unfoldable pub fitted : Said → List ℕ → List ℕ → Outcome
fitted (amiss i) program list = outcome (reply 8 0 0 i) program list
fitted (says es ns) program list =
    cond (leb (length (join es)) (length program) && leb (length (list_of ns)) (length list))
    (outcome (reply 0 (length (join es)) (length (list_of ns)) 0) (filled (join es) program) (filled (list_of ns) list))
    (outcome (reply 4 0 0 0) program list)

-- "Refusals, in this order": 5, 8, 4
unfoldable pub read_text : List ℕ → List ℕ → List ℕ → Outcome
read_text text program list =
    cond (leb (length text) 65536 && leb (length program) 65536 && leb (length list) 65536)
    (fitted (said text) program list)
    (outcome (reply 5 0 0 0) program list)
