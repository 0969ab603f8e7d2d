-- What the two ways of reading promise (02, P7): by entry every entry is given, whether its resource is in the index or not; by pair only those whose
-- resource is; and 39 stands at the first byte behind the longest good beginning.
use Rattle.std.specs.Prelude.{Ok}
use Rattle.blorb.specs.Refusals.{Refused}
use mathlib.Core.Path.{◌≡◌, ◌∙◌}
use Prim.Native.Nat.{ℕ, ◌+◌, ◌≤◌, ◌<◌}
use mathlib.Core.List.{List, ◌++◌, ◌∷◌}
use mathlib.Core.Bool.{false}
use lib.ListN.{length, take}
use borrow.Author.Tests.{lt-ltb}
use Rattle.blorb.specs.Bytes.{rd32}
use Rattle.blorb.specs.Verdict.{accept, refuse, pair_in}
use Rattle.blorb.specs.Model.{model}
use Rattle.blorb.proofs.Checks.{pass, stop}
use Rattle.utf8.specs.Utf8.{Utf8, good_length_of}
use Rattle.utf8.proofs.Longest.{longest}
use Rattle.rdes.specs.Rdes.{RDes, Desc, offset_of, pair_among, good_text, entries_fault}
use Rattle.locate.specs.Located.{located_of, data_at}
use Rattle.locate.specs.declared.Located.TheVariants as located
use Rattle.descriptions.specs.Texts.{rdes_verdict, given_at, described_of, told_of}

-- by entry: each entry of the one good 'RDes' is given as it stands, "from 0", whatever the index has
pub each_entry : (profile : ℕ) (f : List ℕ) (x m i : ℕ) → located_of profile f RDes ≡ Ok (located.One x m) → rdes_verdict profile f ≡ accept
    → i < rd32 (data_at f x m) → described_of profile f i ≡ Ok (given_at (data_at f x m) x (offset_of (data_at f x m) i 4))
unfolding described_of
each_entry profile f x m i one good h = rw (good, one, lt-ltb i (rd32 (data_at f x m)) h)

-- by pair: "Entries for resources not in the index are checked, but looked up answer 22"
pub not_listed : (profile : ℕ) (f : List ℕ) (u k : ℕ) → rdes_verdict profile f ≡ accept → pair_in u k (model f).refs ≡ false
    → told_of profile f u k ≡ Refused 22 0
unfolding told_of
not_listed profile f u k good e = rw (good, e)

-- 39's place: the bytes of the text before it are UTF-8, and no longer beginning of the text is
pub bad_place : (earlier : List Desc) (p : ℕ) (e : Desc) (es : List Desc) → pair_among e.usage e.number earlier ≡ false → good_text e.text ≡ false
    → (entries_fault earlier p (e ∷ es) ≡ refuse 39 (p + 12 + good_length_of e.text))
    × Utf8 (take (good_length_of e.text) e.text)
    × ((b t : List ℕ) → e.text ≡ b ++ t → Utf8 b → length b ≤ good_length_of e.text)
unfolding entries_fault
bad_place earlier p e es fresh bad =
    let l = longest e.text in
    (pass _ _ _ _ (rw fresh) ∙ stop _ _ _ _ bad, l.0, l.2)
