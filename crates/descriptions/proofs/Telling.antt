-- By pair, in full (02, P7: "looked up answer 22, as any pair without a text does"): of a good 'RDes' the first entry with the pair is told if the pair
-- is in the index, and any other pair is 22.
use Rattle.std.specs.Prelude.{Some, None, Result, Ok, cond}
use Rattle.blorb.specs.Refusals.{Refused}
use Rattle.blorb.specs.declared.refusal.Refusal.{Refusal}
use mathlib.Core.Path.{◌≡◌, refl, ap}
use Prim.Native.Nat.{ℕ, zero, suc, ◌+◌, ◌<◌}
use mathlib.Core.List.{List}
use mathlib.Core.Bool.{Bool, true, false, ◌&&◌}
use native.Mathlib.Omega.{arith}
use native.Mathlib.Nat.{not-suc-le-zero}
use lib.Dec.{eqb}
use Rattle.blorb.specs.Bytes.{rd32}
use Rattle.blorb.specs.Verdict.{accept, pair_in}
use Rattle.blorb.specs.Model.{model}
use Rattle.rdes.specs.Rdes.{RDes, usage_at, number_at, size_at, next_at, offset_of}
use Rattle.locate.specs.Located.{located_of, data_at}
use Rattle.locate.specs.declared.Located.TheVariants as located
use Rattle.descriptions.specs.Texts.{rdes_verdict, told_with, tell_from_of, or_22, told_of}
use Rattle.descriptions.specs.declared.Told.{Told}

-- whether the entry at this offset has the pair
abbrev pub has : ℕ → ℕ → List ℕ → ℕ → Bool
has u k d at = eqb (usage_at d at) u && eqb (number_at d at) k

-- the first entry with the pair is the one that is told
pub tell-first : (u k : ℕ) (d : List ℕ) (from n at i : ℕ) → i < n → ((j : ℕ) → j < i → has u k d (offset_of d j at) ≡ false)
    → has u k d (offset_of d i at) ≡ true → tell_from_of u k d from n at ≡ Some (told_with (from + offset_of d i at + 12) (size_at d (offset_of d i at)))
unfolding tell_from_of offset_of
tell-first u k d from zero at i h other hit = absurd (not-suc-le-zero h)
tell-first u k d from (suc n) at zero h other hit = rw hit
tell-first u k d from (suc n) at (suc i) h other hit =
    rw (other 0 (omega arith)) (tell-first u k d from n (next_at d at) i (omega arith) (λ j l. other (suc j) (omega arith)) hit)

tell_none : (u k : ℕ) (d : List ℕ) (from n at : ℕ) → ((j : ℕ) → j < n → has u k d (offset_of d j at) ≡ false) → tell_from_of u k d from n at ≡ None
unfolding tell_from_of offset_of
tell_none u k d from zero at other = refl
tell_none u k d from (suc n) at other =
    rw (other 0 (omega arith)) (tell_none u k d from n (next_at d at) (λ j l. other (suc j) (omega arith)))

either : (b : Bool) (t : Result Told Refusal) → t ≡ Refused 22 0 → cond b t (Refused 22 0) ≡ Refused 22 0
either true t e = e
either false t e = refl

-- a good 'RDes' of x and m, its entries from offset 4 of its data on
module _ (profile : ℕ) (f : List ℕ) (u k x m : ℕ) (one : located_of profile f RDes ≡ Ok (located.One x m)) (good : rdes_verdict profile f ≡ accept) where
  pub told-first : (i : ℕ) → pair_in u k (model f).refs ≡ true → i < rd32 (data_at f x m)
      → ((j : ℕ) → j < i → has u k (data_at f x m) (offset_of (data_at f x m) j 4) ≡ false) → has u k (data_at f x m) (offset_of (data_at f x m) i 4) ≡ true
      → told_of profile f u k ≡ Ok (told_with (x + 8 + offset_of (data_at f x m) i 4 + 12) (size_at (data_at f x m) (offset_of (data_at f x m) i 4)))
  unfolding told_of
  told-first i known h other hit =
      rw (good, one, known, tell-first u k (data_at f x m) (x + 8) (rd32 (data_at f x m)) 4 i h other hit)

  -- "as any pair without a text does"
  pub untold : ((j : ℕ) → j < rd32 (data_at f x m) → has u k (data_at f x m) (offset_of (data_at f x m) j 4) ≡ false) → told_of profile f u k ≡ Refused 22 0
  unfolding told_of
  untold other =
      rw (good, one) (either (pair_in u k (model f).refs) (or_22 (tell_from_of u k (data_at f x m) (x + 8) (rd32 (data_at f x m)) 4))
      (ap or_22 (tell_none u k (data_at f x m) (x + 8) (rd32 (data_at f x m)) 4 other)))

-- nor has any pair a text where there is no 'RDes'
pub no_texts : (profile : ℕ) (f : List ℕ) (u k : ℕ) → located_of profile f RDes ≡ Ok located.Nothing → rdes_verdict profile f ≡ accept
    → told_of profile f u k ≡ Refused 22 0
unfolding told_of
no_texts profile f u k none good = rw (good, none) (either (pair_in u k (model f).refs) (Refused 22 0) refl)
