-- ADRIFT's own types count under profile 1 alone; which they are is what `adrift_allows` promises.
use mathlib.Core.Path.{◌≡◌, ap}
use mathlib.Core.Bool.{Bool, ◌&&◌}
use lib.Dec.{eqb}
use Rattle.blorb.specs.Rules.{adrift_allows_of}
use Rattle.blorb.specs.Usages.{code_of}
use Rattle.blorb.proofs.Usage.also_allows.Goals as goal

pub returns : goal.returns
returns c =
    let a = c.args in
    let under_one : (eqb a.profile 1 && c.adrift_allows.result) ≡ (eqb a.profile 1 && adrift_allows_of (code_of a.self) a.kind) =
    ap (λ (b : Bool). eqb a.profile 1 && b) c.adrift_allows.ensures
    in
    under_one
