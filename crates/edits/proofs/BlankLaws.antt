-- The blank file: its length, the model whose file it is, and that the reader accepts it.
use mathlib.Core.Path.{◌≡◌, refl, sym, ap, ◌∙◌}
use Prim.Native.Nat.{ℕ, ◌≤◌, ◌<◌}
use mathlib.Core.List.{List, []}
use native.Mathlib.Omega.{arith}
use lib.ListN.{length}
use lib.Dec.{leb}
use borrow.Author.Tests.{le-leb, lt-leb}
use Rattle.blorb.specs.Bytes.{be32}
use Rattle.blorb.specs.Format.{sized, size, total, chunk_bytes, chunks_bytes, file_bytes, entries_bytes, index_chunk}
use Rattle.blorb.specs.Verdict.{accept, ◌then◌, check, second_index, verdict}
use Rattle.blorb.specs.Rules.{rules_of, optional, chunk_rules}
use Rattle.blorb.specs.Model.{Model, file, model}
use Rattle.blorb.specs.Sound.{Sound}
use Rattle.blorb.proofs.ModelLaws.{model-file}
use Rattle.blorb.proofs.VerdictLaws.{refs_fault, model_fault, verdict-file, refs_in_order}
use Rattle.edits.specs.Run.{noted}
use Rattle.edits.specs.Blank.{blank_file, blanked}

-- no entry and no chunk behind the index
abbrev pub nothing : Model
nothing = record { refs = []; chunks = [] }

pub length-blank : length blank_file ≡ 24
unfolding blank_file be32
length-blank = refl

pub blank-file : blank_file ≡ file nothing
unfolding blank_file file file_bytes chunks_bytes chunk_bytes index_chunk entries_bytes total size sized be32
blank-file = refl

sound : Sound nothing
sound = record { refs_ok = tt; chunks_ok = tt }

pub blank-accepted : (profile : ℕ) → verdict (rules_of profile) blank_file ≡ accept
unfolding model_fault check ◌then◌ second_index refs_fault optional chunk_rules
blank-accepted profile =
    ap (verdict (rules_of profile)) blank-file ∙ verdict-file (rules_of profile) nothing sound (unfold refs_in_order in refl)
    ∙ ap (λ (n : ℕ). check (leb n 16777216) 1 0 then model_fault (rules_of profile) nothing) (ap length (sym blank-file) ∙ length-blank)

pub blank-model : model blank_file ≡ nothing
blank-model = ap model blank-file ∙ model-file nothing sound (omega (arith, ap length blank-file, length-blank))

-- the ways out of the call
pub blank-written : (b : List ℕ) → 24 ≤ length b → noted b 0 blank_file ≡ blanked b
unfolding noted blanked
blank-written b h = rw (le-leb 24 (length b) h, length-blank)

pub blank-kept : (b : List ℕ) → length b < 24 → b ≡ blanked b
unfolding blanked
blank-kept b h = rw (lt-leb 24 (length b) h)
