-- The codes and their numbers, and an answer's numbers.
use Rattle.std.specs.Prelude.{ℕ}
use Rattle.text.specs.Answers.{Reply, reply}
use Rattle.reading.specs.declared.Code.{Code}
use Rattle.reading.specs.declared.Code.TheVariants.{Read, NoRoom, BadSizes, BadText}
use Rattle.reading.specs.declared.Answer.{Answer}

-- the paper's number of each code
abbrev pub code_of : Code → ℕ
code_of Read = 0
code_of NoRoom = 4
code_of BadSizes = 5
code_of BadText = 8

abbrev pub reply_of : Answer → Reply
reply_of a = reply (code_of a.code) a.program a.names a.place
