use Rattle.std.proofs.Common.{◌∙◌, sym, ap, ℕ, List, ◌+◌, ◌<◌, length, drop, arith, length-drop}
use lib.ListN.{set, length-set}
use lib.Seq.{paste, get_or-drop}
use Rattle.std.proofs.lemmas.List.Edits.{paste_more}
use Rattle.moving.proofs.copy.Goals as goal

pub loop-i-preserved : goal.loop-i-preserved
loop-i-preserved c =
    let (long, so) = c.loop-i.invariant in
    let t = c.loop-i-test.true in
    let h : c.args.at + c.loop-i.i < length c.args.dst.now = omega (arith, c.requires.n_in_bounds_2) in
    let k : c.loop-i.i < length (drop c.args.from c.args.src.now) = simp length-drop (omega (arith, c.requires.n_in_bounds)) in
    let d : List ℕ = paste c.args.dst.now c.args.at (drop c.args.from c.args.src.now) c.loop-i.i in (
      length-set c.loop-i.dst _ _ ∙ long,
      rw so (ap (λ v. set d (c.args.at + c.loop-i.i) v) (sym (get_or-drop c.args.from c.args.src.now c.loop-i.i 0)) ∙ paste_more _ _ _ _ 0 h k),
    )
