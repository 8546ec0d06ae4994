use Rattle.read_rules.proofs.Fitting.{read_within}
use Rattle.read_rules.proofs.read_into.Goals as goal

pub returns : goal.returns
returns c =
    let (program, names, place, sized) = read_within _ _ _ _ _ _ _ _ _ c.read.ensures in
    record { program_in_bounds = (program, names); place_in_bounds = (place, sized) }
