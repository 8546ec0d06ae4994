use Rattle.std.proofs.Common.{◌-◌, ◌^◌, [], false, true, rules}
use Rattle.std.proofs.Output.{has_written_of_eq}
use Rattle.std.proofs.lemmas.Fmt.{hex_byte}
use Rattle.std.specs.Fmt.{HasWritten, digits, format_spec, padded_integral}
use Rattle.hexing.proofs.put_pair.Goals as goal

pub returns : goal.returns
returns g c = λ plain ok.
    let b = c.args.b in
    let written : HasWritten g.W.Write.write_str_gives c.args.f.now (padded_integral (format_spec 32 0 4 2 (2 ^ 64 - 1)) false [] (digits 16 true b)) c.write.new.self = search rules in
    has_written_of_eq _ _ _ _ _ (hex_byte true b (search rules)) written
