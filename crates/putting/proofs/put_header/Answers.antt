use borrow.Enum.Refused.{opened}
use Rattle.meaning.specs.Elements.{body}
use Rattle.putting.proofs.Making.{onward_as, heads, heads_none, not_name, name_heads}
use Rattle.putting.proofs.put_header.Goals as goal

pub put-requires : goal.put-requires
unfolding body
put-requires c = (c.requires.0, c.requires.1)

pub returns-in-Name : goal.returns-in-Name
returns-in-Name c = λ s at. onward_as (heads _ _ (name_heads s at _ _ c.in-Name.is)) c.put.ensures

pub returns-in_default : goal.returns-in_default
returns-in_default c = λ s at. heads_none _ _ (not_name s at _ _ (opened c.in_default.in_default-own.keys2))
