-- Between the code and the definitions: what the opened entries tell of the file.
use Rattle.std.specs.Prelude.{◌≡◌, ℕ, List, length, Option, Some, None, Result, Ok}
use Rattle.blorb.specs.Verdict.{accept, refuse}
use Rattle.blorb.specs.Refusals.{Refused}
use Rattle.blorb.specs.declared.refusal.Refusal.{Refusal}
use Rattle.rdes.specs.Rdes.{RDes}
use Rattle.locate.specs.Located.{located_of, data_at}
use Rattle.locate.specs.declared.Located.TheVariants as located
use Rattle.descriptions.specs.Texts.{rdes_verdict}
use Rattle.descriptions.specs.Placed.{Placed}

-- these are the entries of the file's one 'RDes', which is good
pub record IsOpened (profile : ℕ) (f : List ℕ) (e : Placed) : Type 0 where
  pub one : located_of profile f RDes ≡ Ok (located.One e.start (length e.bytes))
  pub good : rdes_verdict profile f ≡ accept
  pub bytes : e.bytes ≡ data_at f e.start (length e.bytes)

abbrev pub Opens : Result (Option Placed) Refusal → (profile : ℕ) → List ℕ → Type 0
Opens (Ok (Some e)) profile f = IsOpened profile f e
Opens (Ok None) profile f = (located_of profile f RDes ≡ Ok located.Nothing) × (rdes_verdict profile f ≡ accept)
Opens (Refused k p) profile f = rdes_verdict profile f ≡ refuse k p
