use mathlib.Core.Path.{ap, ◌∙◌}
use lib.ListN.{length, length-set}
use lib.Seq.{length-sets}
use native.Mathlib.Omega.{arith}
use Rattle.names.proofs.Writing.{key_room, key_put}
use Rattle.names.proofs.write_key.Goals as goal

pub bounds-list-at : goal.bounds-list-at
bounds-list-at c = omega (arith, key_room c.args.text.now c.args.list.now _ _ c.requires.0 c.requires.1)

pub bounds-list-at-2 : goal.bounds-list-at-2
bounds-list-at-2 c =
    simp length-set (omega (arith, key_room c.args.text.now c.args.list.now _ _ c.requires.0 c.requires.1))

pub write_tail-requires : goal.write_tail-requires
write_tail-requires c =
    simp length-set (key_room c.args.text.now c.args.list.now _ _ c.requires.0 c.requires.1)

pub shape_of-list : goal.shape_of-list
shape_of-list c = ap length c.write_tail.ensures ∙ simp (length-sets, length-set)

pub returns : goal.returns
returns c = key_put c.args.text.now c.args.list.now _ _ c.requires.0 c.write_tail.ensures
