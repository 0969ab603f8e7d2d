-- What the plans promise: the first refusal of an edit, in its order, or what the edit needs to be made.
use Rattle.std.specs.Prelude.{ℕ, List, length, leb}
use Rattle.blorb.specs.Verdict.{Verdict, ◌then◌, check}
use Rattle.blorb.specs.Rules.{rules_of}
use Rattle.blorb.specs.Model.{Model}
use Rattle.blorb.specs.Queries.{ref_at, find, start}
use Rattle.edits.specs.Edit.{Edit, link_place_of}
use Rattle.edits.specs.Run.{edit_fault}
use Rattle.reader.specs.Inspecting.{piece_of}
use Rattle.planning.specs.declared.Owned.{Owned}
use Rattle.planning.specs.declared.Joining.{Joining}

-- an edit's refusal, as `fault` has it: 52, then the rest (J is the journal's length)
abbrev pub edit_refusal : (profile N J : ℕ) → List ℕ → ℕ → ℕ → Edit → Verdict
edit_refusal profile N J f L U e = check (leb profile 1) 52 0 then edit_fault (rules_of profile) N J f L U e

-- what the removal of (u, n), or the replacement of its chunk, goes on with: the count, the entry and its chunk
abbrev pub owned_of : Model → ℕ → ℕ → Owned
owned_of m u n = record { count = length m.refs; piece = piece_of m (find u n m.refs) }

-- what the link on the original (v, o) goes on with: the count, the new entry's place and where the chunk starts
abbrev pub joining_of : Model → ℕ → ℕ → Joining
joining_of m v o =
    let k = (ref_at m (find v o m.refs)).chunk in
    record { count = length m.refs; place = link_place_of k m.refs; at = start m k }
