-- "A file accepted as plain is accepted under ADRIFT, and every lookup in it answers the same" (02, P12): so do both ways of reading a text, which know the
-- profile only by the 'RDes' that is located under it.
use mathlib.Core.Path.{◌≡◌}
use Prim.Native.Nat.{ℕ}
use mathlib.Core.List.{List}
use Rattle.blorb.specs.Verdict.{accept}
use Rattle.blorb.specs.Rules.{profile_verdict}
use Rattle.rdes.specs.Rdes.{RDes}
use Rattle.locate.proofs.Promises.{plain_located}
use Rattle.descriptions.specs.Texts.{rdes_verdict, described_of, told_of, text_of, told_text_of}

pub plain_texts : (f : List ℕ) → profile_verdict 0 f ≡ accept
    → ((i : ℕ) → (described_of 1 f i ≡ described_of 0 f i) × (text_of (described_of 1 f i) f ≡ text_of (described_of 0 f i) f))
    × ((u k : ℕ) → (told_of 1 f u k ≡ told_of 0 f u k) × (told_text_of (told_of 1 f u k) f ≡ told_text_of (told_of 0 f u k) f))
unfolding described_of told_of rdes_verdict
plain_texts f h = let l = plain_located f RDes h in ((λ i. (rw l, rw l)), λ u k. (rw l, rw l))
