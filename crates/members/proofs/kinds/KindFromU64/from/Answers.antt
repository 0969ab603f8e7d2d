-- The type is compared with the four codes in the order of the definition.
use Rattle.std.proofs.Common.{rules}
use Rattle.members.specs.Kinds.{kind_of}
use Rattle.members.proofs.kinds.KindFromU64.from.Goals as goal

pub returns-in-1179603533 : goal.returns-in-1179603533
unfolding kind_of
returns-in-1179603533 c = search rules

pub returns-in-1279873876 : goal.returns-in-1279873876
unfolding kind_of
returns-in-1279873876 c = search rules

pub returns-in-1128354848 : goal.returns-in-1128354848
unfolding kind_of
returns-in-1128354848 c = search rules

pub returns-in-1347571536 : goal.returns-in-1347571536
unfolding kind_of
returns-in-1347571536 c = search rules

pub returns-in_default : goal.returns-in_default
unfolding kind_of
returns-in_default c = search rules
