-- Verdicts behind an edit: 100 + k, and small laws of checks.
use mathlib.Core.Path.{◌≡◌, refl}
use Prim.Native.Nat.{ℕ, ◌+◌}
use mathlib.Core.Bool.{Bool, true, false}
use Rattle.blorb.specs.Verdict.{Verdict, accept, refuse, ◌then◌, check}
use Rattle.blorb.proofs.Checks.{then_end}
use Rattle.edits.specs.Run.{hundred}

-- 100 + k goes into each check
pub hundred_then : (a b : Verdict) → hundred (a then b) ≡ hundred a then hundred b
unfolding ◌then◌
hundred_then accept b = refl
hundred_then (refuse k p) b = refl

pub hundred-check : (b : Bool) (k p : ℕ) → hundred (check b k p) ≡ check b (100 + k) p
unfolding check
hundred-check true k p = refl
hundred-check false k p = refl

-- what is accepted where a test before it holds needs no look
pub unlooked : (b : Bool) (k p : ℕ) (v w : Verdict) → (b ≡ true → w ≡ accept) → (check b k p then v) then w ≡ check b k p then v
unfolding check ◌then◌
unlooked true k p v w f = rw (f refl) (then_end v)
unlooked false k p v w f = refl
