-- Under an unknown profile every call, undo too, is refused with 52 at 0 and changes nothing: 52 stands in front of all else (02, P12).
use mathlib.Core.Path.{◌≡◌}
use mathlib.Core.Bool.{false}
use Rattle.blorb.specs.Verdict.{Rules, refuse}
use Rattle.blorb.proofs.Checks.{stop}
use Rattle.edits.specs.Run.{State, Call, edit, undo, fault, step}

module _ (R : Rules) (unknown : R.known ≡ false) where
  pub unknown_fault : (s : State) (c : Call) → fault R s c ≡ refuse 52 0
  unfolding fault
  unknown_fault s (edit e) = stop _ _ _ _ unknown
  unknown_fault s undo = stop _ _ _ _ unknown

  pub unknown_step : (s : State) (c : Call) → step R s c ≡ s
  unfolding step
  unknown_step s c = rw (unknown_fault s c)
