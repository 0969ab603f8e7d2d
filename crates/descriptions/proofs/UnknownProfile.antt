-- "52 an unknown profile, before all others" (02, P12): under one both ways of reading a text answer 52 at 0, and the part of the file that they give is
-- empty. The file's own refusals stand in front of all else that a text is refused for, and 52 in front of those.
use mathlib.Core.Path.{◌≡◌}
use Prim.Native.Nat.{ℕ, ◌<◌}
use mathlib.Core.List.{List, []}
use Rattle.blorb.specs.Verdict.{refuse}
use Rattle.rdes.specs.Rdes.{RDes}
use Rattle.locate.proofs.Promises.{located_unknown}
use Rattle.descriptions.specs.Texts.{rdes_verdict, described_of, told_of, text_of, told_text_of}
use Rattle.blorb.specs.Refusals.{Refused}

unknown_rdes : (profile : ℕ) (f : List ℕ) → 1 < profile → rdes_verdict profile f ≡ refuse 52 0
unfolding rdes_verdict
unknown_rdes profile f h = rw (located_unknown profile f RDes h)

pub unknown_texts : (profile : ℕ) (f : List ℕ) → 1 < profile
    → ((i : ℕ) → (described_of profile f i ≡ Refused 52 0) × (text_of (described_of profile f i) f ≡ []))
    × ((u k : ℕ) → (told_of profile f u k ≡ Refused 52 0) × (told_text_of (told_of profile f u k) f ≡ []))
unfolding described_of told_of
unknown_texts profile f h = let v = unknown_rdes profile f h in ((λ i. (rw v, rw v)), λ u k. (rw v, rw v))
