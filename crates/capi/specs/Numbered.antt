-- Refusals have numbers from 1 on.
use Rattle.std.specs.Prelude.{◌<◌}
use Rattle.blorb.specs.Verdict.{Verdict, accept, refuse}

-- a verdict whose refusal, if it is one, isn't 0
unfoldable pub Numbered : Verdict → Type 0
Numbered accept = Unit {0}
Numbered (refuse k p) = 0 < k
