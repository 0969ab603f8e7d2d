-- What is located decides; the only 'Reso' lies in the file.
use native.Mathlib.Omega.{arith}
use mathlib.Core.Path.{◌≡◌, sym, ap, ◌∙◌}
use Rattle.std.specs.Prelude.{Ok}
use Rattle.std.proofs.lemmas.Result.{err_from_is_err_and}
use Rattle.locate.specs.Located.{located_of}
use Rattle.locate.specs.declared.Located.TheVariants as located
use Rattle.locate.proofs.Promises.{Stands, located_stood}
use Rattle.scaling.specs.Scaled.{Reso, asking}
use Rattle.scaling.proofs.SideLaws.{scaled_no, scaled_more, scaled-none, scaled-one}
use Rattle.scaling.proofs.scaled.Goals as goal
use Rattle.scaling.proofs.scaled.Goals.{In-One}

-- the one 'Reso' stands in the file
one : (c : In-One) → located_of c.args.profile c.args.file.now Reso ≡ Ok (located.One c.in-One.start c.in-One.length)
one c = sym c.by_type.ensures ∙ c.in_ok-located.was ∙ ap Ok c.in-One.is

stood : (c : In-One) → Stands c.args.file.now Reso c.in-One.start c.in-One.length
stood c = located_stood _ _ _ _ (one c)

pub overflow_add-from : goal.overflow_add-from
overflow_add-from c = omega (arith, (stood (goal.at.overflow_add-from c).In-One).room)

pub overflow_add-from-in-One : goal.overflow_add-from-in-One
overflow_add-from-in-One c = omega (arith, (stood (goal.at.overflow_add-from-in-One c).In-One).room)

pub slice_bounds-by_reso-end : goal.slice_bounds-by_reso-end
slice_bounds-by_reso-end c = omega (arith, (stood (goal.at.slice_bounds-by_reso-end c).In-One).room)

pub returns-in_err-located : goal.returns-in_err-located
returns-in_err-located c =
    let g = c.args in
    let p = err_from_is_err_and c.from_residual.result c.from_residual.ensures.1 in
    rw (p.1, p.2)
    (scaled_no _ _ (asking g.across g.down g.picture g.width g.height) _ (sym c.by_type.ensures ∙ c.in_err-located.was))

pub returns-in-More : goal.returns-in-More
returns-in-More c =
    let g = c.args in
    scaled_more _ _ (asking g.across g.down g.picture g.width g.height) _ _ _
    (sym c.by_type.ensures ∙ c.in_ok-located.was ∙ ap Ok c.in-More.is)

pub returns-in-Nothing : goal.returns-in-Nothing
returns-in-Nothing c =
    let g = c.args in
    c.keep_sides.ensures
    ∙ scaled-none _ _ (asking g.across g.down g.picture g.width g.height)
    (sym c.by_type.ensures ∙ c.in_ok-located.was ∙ ap Ok c.in-Nothing.is)

pub returns-in-One : goal.returns-in-One
returns-in-One c =
    let g = c.args in
    c.by_reso.ensures
    ∙ scaled-one _ _ (asking g.across g.down g.picture g.width g.height) _ _ (one (goal.at.returns-in-One c).In-One)
