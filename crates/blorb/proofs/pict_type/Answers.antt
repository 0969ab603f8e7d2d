-- The code's tests are the definition's, one by one.
use mathlib.Core.Path.{◌≡◌, refl}
use mathlib.Core.Bool.{◌&&◌, ◌||◌}
use lib.Dec.{eqb}
use Rattle.blorb.specs.Tags.{JPEG, PNG, Rect}
use Rattle.blorb.specs.Usages.{pict_type_of}
use Rattle.blorb.proofs.pict_type.Goals as goal

pub returns : goal.returns
returns c =
    let tests : (eqb c.args.t JPEG || (eqb c.args.t PNG || (eqb c.args.t Rect && eqb c.args.m 8))) ≡ pict_type_of c.args.t c.args.m =
    refl in
    tests
