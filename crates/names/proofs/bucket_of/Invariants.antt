use mathlib.Core.Path.{◌≡◌}
use Prim.Native.Nat.{◌<◌}
use Rattle.names.specs.Names.{key_at}
use Rattle.names.specs.Index.{bucket}
use Rattle.names.proofs.Spelling.{hashed}
use Rattle.names.proofs.bucket_of.Given as goal

abbrev pub invariant-loop-i : goal.invariant-loop-i
invariant-loop-i l = (hashed l.text l.h l.i ≡ bucket (key_at l.text l.at)) × (l.h < 8192)
