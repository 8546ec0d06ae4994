-- Bytes moved within their slice, and a gap closed.
use mathlib.Core.Path.{◌≡◌, sym, ◌∙◌, ap}
use mathlib.Core.List.{List, ◌++◌, append_assoc, append-nil}
use Prim.Native.Nat.{ℕ, ◌+◌, ◌-◌, ◌≤◌}
use native.Mathlib.Omega.{arith}
use lib.ListN.{length, take, drop, replicate, length-drop, take-append-drop}
use lib.Seq.{paste, take_all, drop-drop, drop-length, length-paste, take-paste}

-- what stays in its place
pub stayed : (s : List ℕ) (from at n : ℕ) → from ≡ at → s ≡ paste s at (drop from s) n
stayed s from at n q =
    rw q (sym (append_assoc (take at s) (take n (drop at s)) (drop (at + n) s) ∙ ap {B = List ℕ} (λ l. take at s ++ (take n (drop at s) ++ l)) (sym (drop-drop n at s))
    ∙ ap {B = List ℕ} (λ l. take at s ++ l) (take-append-drop n (drop at s)) ∙ take-append-drop at s))

-- what is behind the gap is brought down, and what it leaves is cleared
pub closed : (s s1 : List ℕ) {s2 : List ℕ} (lo hi : ℕ) → lo ≤ hi → hi ≤ length s → s1 ≡ paste s lo (drop hi s) (length s - hi)
    → s2 ≡ take (lo + (length s - hi)) s1 ++ replicate (length s1 - (lo + (length s - hi))) 0 ++ drop (length s1) s1 → s2 ≡ take lo s ++ drop hi s ++ replicate (hi - lo) 0
closed s s1 lo hi h k e e2 =
    let n : ℕ = length s - hi in
    let d : n ≤ length (drop hi s) = simp length-drop (omega arith) in
    let l : length s1 ≡ length s = ap length e ∙ length-paste s lo (drop hi s) n (omega arith) d in
    let t : take (lo + n) s1 ≡ take lo s ++ drop hi s =
    ap (take (lo + n)) e ∙ take-paste s lo (drop hi s) n (omega arith) d ∙ rw (take_all n (drop hi s) (simp length-drop (omega arith))) in
    let z : length s1 - (lo + n) ≡ hi - lo = omega arith in
    e2 ∙ rw (drop-length s1, t, z) (append-nil _)
