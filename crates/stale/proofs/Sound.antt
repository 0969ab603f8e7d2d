-- What the undo of an accepted file makes is sound, kind by kind: so its model is read back from its bytes.
use mathlib.Core.Path.{◌≡◌}
use Prim.Native.Nat.{ℕ, ◌-◌, ◌<◌}
use mathlib.Core.Bool.{true}
use native.Mathlib.Omega.{arith}
use lib.ListN.{length}
use lib.Dec.{leb}
use Rattle.blorb.specs.Format.{is_start}
use Rattle.blorb.specs.Model.{Model, base}
use Rattle.blorb.specs.Queries.{ref_at}
use Rattle.blorb.specs.Verdict.{accept}
use Rattle.blorb.specs.Rules.{rules_of}
use Rattle.blorb.specs.Sound.{W, Sound}
use Rattle.blorb.proofs.VerdictLaws.{model_fault}
use Rattle.blorb.proofs.Places.{start_of-place_of}
use Rattle.blorb.proofs.Checks.{and_both}
use Rattle.edits.specs.Journal.{Rec, old_chunk, old_place, fits1, fits4, undo1, undo2, undo3, undo4, undo5}
use Rattle.edits.proofs.FitLaws.{replaced-sound, unlisted_sound}
use Rattle.edits.proofs.RemoveJudged.{removed-sound}
use Rattle.edits.proofs.InsertJudged.{entered-sound, inserted-sound}
use Rattle.edits.proofs.InsertStarts.{place_inside}
use Rattle.edits.proofs.UndoJudged.{fits1-facts, undo1-removed}

module _ (profile : ℕ) (r : Rec) (m : Model) (s : Sound m) (ok : model_fault (rules_of profile) m ≡ accept) where
  pub sound1 : fits1 r m ≡ true → Sound (undo1 m)
  sound1 fit =
      let f = fits1-facts r m fit in
      rw (undo1-removed r m s fit) (removed-sound profile m r.place s ok (omega (arith, f.count)) f.alone)

  pub sound2 : r.type < W → Sound (undo2 r m)
  unfolding undo2
  sound2 ht = replaced-sound m (ref_at m r.place).chunk (old_chunk r) s (record { type_fits = ht })

  pub sound3 : r.usage < W → r.number < W → r.type < W → Sound (undo3 r m)
  unfolding undo3
  sound3 hu hn ht =
      inserted-sound profile m r.place (old_place r m) r.usage r.number (old_chunk r) s ok
      (place_inside (r.start - 12) (base (length m.refs)) m.chunks)
      hu hn ht

  pub sound4 : r.usage < W → r.number < W → fits4 r m ≡ true → Sound (undo4 r m)
  unfolding undo4 fits4
  sound4 hu hn fit =
      let p = and_both (leb r.place (length m.refs)) (is_start (r.start - 12) (base (length m.refs)) m.chunks) fit in
      let there = (start_of-place_of (r.start - 12) (base (length m.refs)) m.chunks p.1).1 in
      entered-sound profile m r.place (old_place r m) r.usage r.number s ok (record { usage_fits = hu; number_fits = hn; chunk_there = there })

  pub sound5 : Sound (undo5 r m)
  unfolding undo5
  sound5 = unlisted_sound m r.place s
